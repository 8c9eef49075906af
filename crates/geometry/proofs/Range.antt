-- The turn of an angle within 45,000 degrees is made of its sine and its cosine, and is not the fallback of `turn_of`,
-- no turn at all. `Turnable` says so of an angle and of its opposite; that every angle by which an entry turns is
-- `Turnable` is proved where the angles are made: NeverFallback.antt in the crates above.
use mathlib.Core.Path.{◌≡◌, refl, ◌∙◌, subst}
use mathlib.Core.Bool.{true, false}
use Prim.Native.Nat.{ℕ, ◌*◌, ◌≤◌}
use native.Mathlib.Nat.{mul-le-mul_right}
use lib.Ieee.{Float, neg, le, of_bits}
use lib.Ieee.Bits.{is_true}
use lib.Ieee.Scale.{finite}
use Rattle.float.specs.Units.{U, Is}
use Rattle.float.specs.Helpers.{size_of}
use Rattle.float.proofs.Order.{le_trans, neg_le, neg_neg}
use Rattle.float.proofs.Sizes.{size_le_parts}
use Rattle.float.proofs.UpTo.{UpTo, up_to_finite, up_to_more, up_to_neg, up_to_le, le_of_units, size_finite}
use Rattle.trig.specs.Degrees.{turnable, widest}
use Rattle.trig.specs.DegreeSteps.{sine_degrees, cosine_degrees, degree_pair}
use Rattle.geometry.specs.declared.Turn.{Turn}
use Rattle.geometry.specs.Turn.{turn_of}

-- the turn by x degrees, without the fallback
abbrev pub plain_turn : Float → Turn
plain_turn x = record { sine = sine_degrees x; cosine = cosine_degrees x }

pub within_turnable : (x : Float) → le (neg widest) x ≡ true → le x widest ≡ true → turnable x ≡ true
unfolding turnable
within_turnable x l h = rw h l

pub turn_served : (x : Float) → turnable x ≡ true → turn_of x ≡ plain_turn x
unfolding turn_of degree_pair
turn_served x h = rw h

-- finite, and neither its turn nor the turn back is the fallback: what forward's check of its angles asks, and more
pub record Turnable (x : Float) : Type 0 where
  pub number : finite x ≡ true
  pub forth : turnable x ≡ true
  pub back : turnable (neg x) ≡ true

-- ---- from a size in whole degrees
widest_is : Is widest false (45000 * U)
unfolding of_bits U
widest_is = (refl, refl)

served_up_to : (x : Float) → UpTo 45000 x → turnable x ≡ true
served_up_to x X = let p = up_to_le 45000 widest widest_is x X in within_turnable x p.0 p.1

pub up_to_turnable : (n : ℕ) (x : Float) → n ≤ 45000 → UpTo n x → Turnable x
up_to_turnable n x h X =
    let Y = up_to_more n 45000 x h X in
    record { number = is_true (finite x) (up_to_finite n x X); forth = served_up_to x Y; back = served_up_to (neg x) (up_to_neg 45000 x Y) }

-- from a size that is tested against c, a whole number of degrees
pub sized_turnable : (n : ℕ) (c : Float) → Is c false (n * U) → n ≤ 45000 → (x : Float) → le (size_of x) c ≡ true → Turnable x
sized_turnable n c C h x l =
    let most = le_of_units c widest false (n * U) (45000 * U) C widest_is (mul-le-mul_right U h) in
    let p = size_le_parts x c l in
    let high = le_trans x c widest p.1 most in
    let low = le_trans (neg widest) (neg c) x (neg_le c widest ∙ most) p.0 in
    record {
      number = is_true (finite x) (size_finite n c C x l);
      forth = within_turnable x low high;
      back = within_turnable (neg x) (neg_le x widest ∙ high) (subst (λ (z : Float). le (neg x) z ≡ true) (neg_neg widest) (neg_le (neg widest) x ∙ low));
    }
