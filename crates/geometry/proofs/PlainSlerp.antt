-- The axis between two, without the fallbacks for functions that refuse: at t from 0 to 1 the arccosine, the sines and
-- the cosine of `slerp_axis` are always served (`slerp_plain`), and what it gives is of doubles (`slerp_fits`).
use mathlib.Core.Path.{◌≡◌, refl, sym, subst}
use mathlib.Core.Bool.{true, false, cond}
use Prim.Native.Nat.{◌*◌, ◌^◌}
use lib.Dec.{T, lit≤, lit<}
use lib.Ieee as Ieee
use lib.Ieee.{Float, binary64, fits, of_bits}
use Rattle.std.specs.Prelude.{None, Option, Some}
use Rattle.float.specs.Units.{U}
use Rattle.float.specs.Helpers.{nought, one, clamp_unit}
use Rattle.float.proofs.UpTo.{UpTo, up_to_mul, up_to_sub}
use Rattle.float.proofs.Bounded.{one_small, finite_small, clamp_fits}
use Rattle.trig.specs.Waves.{sine_float, cosine_float}
use Rattle.trig.specs.Arctangent.{angle_float}
use Rattle.trig.specs.Arccosine.{sine_of_cosine, cosine_range}
use Rattle.trig.proofs.Choices.{chosen}
use Rattle.trig.proofs.Laws.{sine_is, cosine_is, arccosine_is}
use Rattle.trig.proofs.ArccosineLaws.{clamped_range}
use Rattle.trig.proofs.AngleDegrees.{arccosine_up_to, up_to_served}
use Rattle.geometry.specs.declared.Vec3.{Vec3}
use Rattle.geometry.specs.Vector.{add, scale, dot, cross, minus, times, over}
use Rattle.geometry.specs.Direction.{along, unit_direction, unit_or}
use Rattle.geometry.specs.Slerp.{flat, pi, side_helper, half_turn, weighted, slerp_cosine, slerp_axis}
use Rattle.geometry.specs.Doubles.{FitVec}
use Rattle.geometry.proofs.FitVectors.{dot_fits, unit_fits, unit_or_fits}
use Rattle.geometry.proofs.Bounded.{SmallVec, small_dot}
use Rattle.geometry.proofs.UnitSize.{unit_small}

-- ---- the same, with the functions' values
abbrev pub plain_half_turn : Vec3 → Float → Vec3
plain_half_turn start t =
    along (unit_direction (cross start (side_helper start))) start
    (λ side. unit_or (add (scale start (cosine_float (times t pi))) (scale side (sine_float (times t pi)))) start)

abbrev pub plain_weighted : Vec3 → Vec3 → Float → Float → Float → Vec3
plain_weighted start end theta sinTheta t =
    unit_or (add (scale start (over (sine_float (times (minus one t) theta)) sinTheta)) (scale end (over (sine_float (times t theta)) sinTheta))) start

abbrev pub plain_between : Vec3 → Vec3 → Float → Float → Float → Vec3
plain_between start end theta cosine t =
    cond (Ieee.le (sine_float theta) flat) (cond (Ieee.lt nought cosine) start (plain_half_turn start t)) (plain_weighted start end theta (sine_float theta) t)

abbrev pub plain_slerp : Vec3 → Vec3 → Float → Vec3
plain_slerp start end t =
    along (unit_direction start) end
    (λ first. along (unit_direction end) first
    (λ last. plain_between first last (angle_float (sine_of_cosine (clamp_unit (dot first last))) (clamp_unit (dot first last))) (clamp_unit (dot first last)) t))

-- ---- the double nearest to Pi is at most 4
pi_up_to : UpTo 4 pi
unfolding of_bits U
pi_up_to = record { s = false; v = 884279719003555 * 2 ^ 1026; is = (refl, refl); most = lit≤ tt }

-- ---- each function is served, for t up to 1 in size
module _ (t : Float) (B : UpTo 1 t) where
  half_plain : (start : Vec3) → half_turn start t ≡ plain_half_turn start t
  unfolding half_turn
  half_plain start =
      let h = up_to_served 4 (times t pi) (lit≤ tt) (up_to_mul 1 4 t pi (lit< tt) B pi_up_to) in
      rw (sine_is (times t pi) h, cosine_is (times t pi) h)

  weighted_plain : (start end : Vec3) (theta sinTheta : Float) → UpTo 4 theta → weighted start end theta sinTheta t ≡ plain_weighted start end theta sinTheta t
  unfolding weighted
  weighted_plain start end theta sinTheta A =
      let r = up_to_served 8 (times (minus one t) theta) (lit≤ tt) (up_to_mul 2 4 (minus one t) theta (lit< tt) (up_to_sub 1 1 one t (lit< tt) one_small B) A) in
      let s = up_to_served 4 (times t theta) (lit≤ tt) (up_to_mul 1 4 t theta (lit< tt) B A) in
      rw (sine_is (times (minus one t) theta) r, sine_is (times t theta) s)

  between_plain : (start end : Vec3) (c : Float) → T (fits binary64 c) → cosine_range c ≡ true → slerp_cosine start end c t ≡ plain_between start end (angle_float (sine_of_cosine c) c) c t
  unfolding slerp_cosine
  between_plain start end c f h =
      let theta = angle_float (sine_of_cosine c) c in
      let A = arccosine_up_to c theta f (arccosine_is c f h) in
      rw (arccosine_is c f h, sine_is theta (up_to_served 4 theta (lit≤ tt) A), half_plain start, weighted_plain start end theta (sine_float theta) A)

  pub slerp_plain : (start end : Vec3) → FitVec start → FitVec end → slerp_axis start end t ≡ plain_slerp start end t
  unfolding slerp_axis
  slerp_plain start end F H = go (unit_direction start) (unit_direction end) (λ u e. unit_small start u F e) (λ u e. unit_small end u H e)
    where
      go : (d e : Option Vec3) → ((u : Vec3) → d ≡ Some u → SmallVec 1 u) → ((u : Vec3) → e ≡ Some u → SmallVec 1 u)
          → along d end (λ first. along e first (λ last. slerp_cosine first last (clamp_unit (dot first last)) t))
          ≡ along d end (λ first. along e first (λ last. plain_between first last (angle_float (sine_of_cosine (clamp_unit (dot first last))) (clamp_unit (dot first last))) (clamp_unit (dot first last)) t))
      go (Some a) (Some b) A C =
          between_plain a b (clamp_unit (dot a b)) (clamp_fits (dot a b) (dot_fits a b))
          (clamped_range (dot a b) (dot_fits a b) (finite_small 7 (dot a b) (small_dot 1 1 7 a b (lit≤ tt) (lit≤ tt) (A a refl) (C b refl)))).0
      go (Some a) None A C = refl
      go None e A C = refl

-- ---- doubles
half_fits : (start : Vec3) (t : Float) → FitVec start → FitVec (plain_half_turn start t)
half_fits start t F = go (unit_direction (cross start (side_helper start)))
  where
    go : (d : Option Vec3) → FitVec (along d start (λ side. unit_or (add (scale start (cosine_float (times t pi))) (scale side (sine_float (times t pi)))) start))
    go (Some side) = unit_or_fits _ start F
    go None = F

between_fits : (start end : Vec3) (theta cosine t : Float) → FitVec start → FitVec (plain_between start end theta cosine t)
between_fits start end theta cosine t F =
    chosen FitVec (Ieee.le (sine_float theta) flat) _ _ (λ h. chosen FitVec (Ieee.lt nought cosine) _ _ (λ g. F) (λ g. half_fits start t F)) (λ h. unit_or_fits _ start F)

pub slerp_fits : (start end : Vec3) (t : Float) → UpTo 1 t → FitVec start → FitVec end → FitVec (slerp_axis start end t)
slerp_fits start end t B F H = subst FitVec (sym (slerp_plain t B start end F H)) (go (unit_direction start) (unit_direction end) (λ u e. unit_fits start u e))
  where
    go : (d e : Option Vec3) → ((u : Vec3) → d ≡ Some u → FitVec u)
        → FitVec (along d end (λ first. along e first (λ last. plain_between first last (angle_float (sine_of_cosine (clamp_unit (dot first last))) (clamp_unit (dot first last))) (clamp_unit (dot first last)) t)))
    go (Some a) (Some b) A = between_fits a b _ _ t (A a refl)
    go (Some a) None A = A a refl
    go None e A = H
