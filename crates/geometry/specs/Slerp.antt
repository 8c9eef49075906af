-- The axis at t between two axes, on the great circle, and the angle between two. Equal and opposite axes have branches
-- of their own, and so has a sum of exactly zero.
use Rattle.std.specs.Prelude.{cond, Float, None, Option, Some}
use Rattle.std.specs.Float.Ieee as Ieee
use Rattle.std.specs.Float.{binary64}
use Rattle.std.specs.Float.Ieee.{of_bits}
use Rattle.float.specs.Helpers.{nought, one, size_of, clamp_unit, to_degrees}
use Rattle.trig.specs.declared.Pair.{Pair}
use Rattle.trig.specs.Waves.{sine_of, cosine_of, paired}
use Rattle.trig.specs.Arctangent.{arctangent_of}
use Rattle.trig.specs.Arccosine.{arccosine_of}
use Rattle.geometry.specs.Vector.{vector, add, scale, dot, cross, norm, minus, times, over}
use Rattle.geometry.specs.Direction.{along, unit_direction, unit_or}
use Rattle.geometry.specs.declared.Vec3.{Vec3}

-- what an answer gives a step, or a fallback where there is none
abbrev pub with : {A : Type 0} → Option Float → A → (Float → A) → A
with (Some v) fallback step = step v
with None fallback step = fallback

abbrev pub with_both : {A : Type 0} → Option Pair → A → (Float → Float → A) → A
with_both (Some p) fallback step = step p.sine p.cosine
with_both None fallback step = fallback

-- 0.9, 1e-12, the double nearest to Pi, 180
abbrev pub near_x : Float
near_x = of_bits binary64 0x3fec_cccc_cccc_cccd

abbrev pub flat : Float
flat = of_bits binary64 0x3d71_9799_812d_ea11

abbrev pub pi : Float
pi = of_bits binary64 0x4009_21fb_5444_2d18

abbrev pub half_turn_degrees : Float
half_turn_degrees = of_bits binary64 0x4066_8000_0000_0000

unfoldable pub side_helper : Vec3 → Vec3
side_helper start = cond (Ieee.lt near_x (size_of start.x)) (vector nought one nought) (vector one nought nought)

unfoldable pub half_turn : Vec3 → Float → Vec3
half_turn start t =
    along (unit_direction (cross start (side_helper start))) start
    (λ side. with_both (paired (sine_of (times t pi)) (cosine_of (times t pi))) start (λ s c. unit_or (add (scale start c) (scale side s)) start))

unfoldable pub weighted : Vec3 → Vec3 → Float → Float → Float → Vec3
weighted start end theta sinTheta t =
    with (sine_of (times (minus one t) theta)) start
    (λ first. with (sine_of (times t theta)) start (λ second. unit_or (add (scale start (over first sinTheta)) (scale end (over second sinTheta))) start))

unfoldable pub slerp_cosine : Vec3 → Vec3 → Float → Float → Vec3
slerp_cosine start end cosine t =
    with (arccosine_of cosine) start
    (λ theta. with (sine_of theta) start
    (λ sinTheta. cond (Ieee.le sinTheta flat) (cond (Ieee.lt nought cosine) start (half_turn start t)) (weighted start end theta sinTheta t)))

unfoldable pub slerp_axis : Vec3 → Vec3 → Float → Vec3
slerp_axis start end t =
    along (unit_direction start) end
    (λ first. along (unit_direction end) first (λ last. slerp_cosine first last (clamp_unit (dot first last)) t))

unfoldable pub angle_between_deg : Vec3 → Vec3 → Float
angle_between_deg left right =
    along (unit_direction left) half_turn_degrees
    (λ a. along (unit_direction right) half_turn_degrees
    (λ b. with (arctangent_of (norm (cross a b)) (clamp_unit (dot a b))) half_turn_degrees (λ radians. size_of (to_degrees radians))))
