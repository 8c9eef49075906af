-- The axis halfway between two: at the half both weights of the slerp are the same number, so one sine gives both.
use mathlib.Core.Path.{◌≡◌, refl, ap, ◌∙◌}
use lib.Ieee as Ieee
use lib.Ieee.{Float, binary64, of_bits}
use Rattle.std.specs.Option.{unwrap_or}
use Rattle.std.specs.Prelude.{None, Option, Some}
use Rattle.float.specs.Helpers.{one}
use Rattle.trig.specs.Waves.{sine_of}
use Rattle.geometry.specs.declared.Vec3.{Vec3}
use Rattle.geometry.specs.Vector.{add, scale, minus, times, over}
use Rattle.geometry.specs.Direction.{along, unit_direction, unit_or}
use Rattle.geometry.specs.Slerp.{with, weighted}
use Rattle.middle.specs.Testing.{half}

rest_is_half : minus one half ≡ half
unfolding Ieee.sub of_bits
rest_is_half = refl

once : {A : Type 0} (answer : Option Float) (fallback : A) (step : Float → Float → A)
    → with answer fallback (λ first. with answer fallback (λ second. step first second)) ≡ with answer fallback (λ weight. step weight weight)
once (Some v) fallback step = refl
once None fallback step = refl

pub weighted_half : (start end : Vec3) (theta sin_theta : Float) → weighted start end theta sin_theta half
    ≡ with (sine_of (times half theta)) start (λ sine. unit_or (add (scale start (over sine sin_theta)) (scale end (over sine sin_theta))) start)
unfolding weighted
weighted_half start end theta sin_theta =
    ap
    (λ (rest : Float). with (sine_of (times rest theta)) start (λ first. with (sine_of (times half theta)) start (λ second. unit_or (add (scale start (over first sin_theta)) (scale end (over second sin_theta))) start)))
    rest_is_half
    ∙ once (sine_of (times half theta)) start (λ first second. unit_or (add (scale start (over first sin_theta)) (scale end (over second sin_theta))) start)

kept : (d : Option Vec3) (fallback : Vec3) → unwrap_or d fallback ≡ along d fallback (λ u. u)
kept (Some u) fallback = refl
kept None fallback = refl

pub unit_or_by : (v fallback : Vec3) {answer : Vec3} {d : Option Vec3} → d ≡ unit_direction v → answer ≡ unwrap_or d fallback → answer ≡ unit_or v fallback
unfolding unit_or
unit_or_by v fallback is e = e ∙ (ap (λ (d : Option Vec3). unwrap_or d fallback) is ∙ kept (unit_direction v) fallback)
