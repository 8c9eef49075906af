-- What `of_degrees` answers, and that it is right: the fields of `DegreesRight`, each proved in its own file. Assumes
-- nothing.
use Rattle.std.proofs.Common.{◌≡◌, true, false, T, ap, ◌∙◌}
use lib.Ieee.{Float, binary64, neg, lt, eq, fits}
use lib.Ieee.Fits.{neg-fits, cond-fits}
use Rattle.std.specs.Prelude.{None, Some}
use Rattle.trig.specs.Kernel.{plus_zero}
use Rattle.trig.specs.declared.Pair.{Pair}
use Rattle.trig.specs.Degrees.{turnable, DegreesRight, TurnRight}
use Rattle.trig.specs.DegreeSteps.{sine_degrees, cosine_degrees, degree_pair}
use Rattle.trig.proofs.Choices.{pick, drop, chosen}
use Rattle.trig.proofs.DegreeZeros.{degree_fits, plain_sign, nought_sign, one_sign}
use Rattle.trig.proofs.DegreeNear.{sine_right, cosine_right}
use Rattle.trig.proofs.DegreeSizes.{sine_tidy, cosine_tidy}
use Rattle.trig.proofs.DegreeRightAngles.{right_angles}

-- ---- never -0.0
sine_sign : (x : Float) → sine_degrees x ≡ neg plus_zero → ⊥
unfolding sine_degrees
sine_sign x = chosen (λ (y : Float). y ≡ neg plus_zero → ⊥) (eq x plus_zero) _ _ (λ z. nought_sign)
    (λ z. plain_sign _ (cond-fits binary64 (lt x plus_zero) _ _ (neg-fits binary64 _ (degree_fits 0 (neg x))) (degree_fits 0 x)))

cosine_sign : (x : Float) → cosine_degrees x ≡ neg plus_zero → ⊥
unfolding cosine_degrees
cosine_sign x = chosen (λ (y : Float). y ≡ neg plus_zero → ⊥) (eq x plus_zero) _ _ (λ z. one_sign)
    (λ z. plain_sign _ (cond-fits binary64 (lt x plus_zero) _ _ (degree_fits 1 (neg x)) (degree_fits 1 x)))

-- ---- what is answered
module _ (x : Float) where
  pub pair_served : (p : Pair) → turnable x ≡ true → p.sine ≡ sine_degrees x → p.cosine ≡ cosine_degrees x → Some p ≡ degree_pair x
  unfolding degree_pair
  pair_served p h s c =
      ap (λ (y : Float). Some (record { sine = y; cosine = p.cosine })) s
      ∙ ap (λ (y : Float). Some (record { sine = sine_degrees x; cosine = y })) c
      ∙ pick (turnable x) _ _ h

  pub pair_refused : turnable x ≡ false → None ≡ degree_pair x
  unfolding degree_pair
  pair_refused h = drop (turnable x) _ _ h

  pub pair_answer : T (fits binary64 x) → TurnRight x (degree_pair x)
  unfolding degree_pair
  pair_answer f = chosen (TurnRight x) (turnable x) _ _ (λ h. (h, right h)) (λ h. h)
    where
      right : turnable x ≡ true → DegreesRight x (record { sine = sine_degrees x; cosine = cosine_degrees x })
      right h = record {
        sine_near = sine_right x f h;
        cosine_near = cosine_right x f h;
        sine_finite = (sine_tidy x h).0;
        cosine_finite = (cosine_tidy x h).0;
        sine_size = (sine_tidy x h).1;
        cosine_size = (cosine_tidy x h).1;
        sine_sign = sine_sign x;
        cosine_sign = cosine_sign x;
        right_angles = right_angles x f h;
      }
