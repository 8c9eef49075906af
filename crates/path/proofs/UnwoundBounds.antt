-- An angle of at most 36,180 degrees, unwound beside one of at most 36,000, is at most 37,000: it ends within half a
-- turn of the angle before, and the roundings on the way are less than two degrees.
use mathlib.Core.Path.{◌≡◌, refl, subst}
use mathlib.Core.Bool.{Bool, true, false, not}
use Prim.Native.Nat.{ℕ, ◌+◌, ◌*◌, ◌^◌, ◌≤◌, ◌<◌}
use native.Mathlib.Nat.{le_of_eq, lt_of_lt_of_le, lt_of_le_of_lt, mul-pos, mul-lt-mul_of_pos_right}
use native.Mathlib.Omega.{arith}
use lib.Dec.{lit≤, lit<}
use lib.Ieee as Ieee
use lib.Ieee.{Float, binary64, unlike, add, sub, mul, div, of_bits}
use lib.Ieee.Scale.{finite}
use Rattle.float.specs.Units.{U, Is}
use Rattle.float.specs.Helpers.{nought, round_half_away}
use Rattle.float.proofs.Rounding.{W, U-is, U_pos, W-pos, Rounded, within_scale, div_rounded}
use Rattle.float.proofs.Signed.{pl, mi, rnd_add}
use Rattle.float.proofs.SignedError.{NearUnits, sub_near}
use Rattle.float.proofs.UpTo.{UpTo, up_to_more, rnd_up_to, Rounds, rounds, whole_mul}
use Rattle.trig.proofs.Choices.{chosen}
use Rattle.inverse.specs.Wraps.{one_turn}
use Rattle.path.specs.Unwinding.{by_turns, unwind_angle}

turn_is : Is one_turn false (360 * U)
unfolding of_bits U
turn_is = (refl, refl)

-- 2 ^ 17 and 2 ^ -37, in units
room_is : 131072 * U ≡ 2 ^ 1091
unfolding U
room_is = refl

error_most : 2 ^ 1037 ≤ U
unfolding U
error_most = lit≤ tt

-- ---- the arithmetic
apart : (s t : Bool) (p a u : ℕ) → 0 < u → p ≤ 36000 * u → a ≤ 36180 * u → (pl s p + mi t a < mi s p + pl t a + 131072 * u) × (mi s p + pl t a < pl s p + mi t a + 131072 * u)
apart true true p a u P h l = (omega arith, omega arith)
apart true false p a u P h l = (omega arith, omega arith)
apart false true p a u P h l = (omega arith, omega arith)
apart false false p a u P h l = (omega arith, omega arith)

gap_most : (s t r : Bool) (p a z u e : ℕ) → p ≤ 36000 * u → a ≤ 36180 * u → e ≤ u → pl s p + mi t a + mi r z ≤ pl r z + (mi s p + pl t a) + e → pl r z + (mi s p + pl t a) ≤ pl s p + mi t a + mi r z + e → z ≤ 72181 * u
gap_most true true true p a z u e h l k i j = omega arith
gap_most true true false p a z u e h l k i j = omega arith
gap_most true false true p a z u e h l k i j = omega arith
gap_most true false false p a z u e h l k i j = omega arith
gap_most false true true p a z u e h l k i j = omega arith
gap_most false true false p a z u e h l k i j = omega arith
gap_most false false true p a z u e h l k i j = omega arith
gap_most false false false p a z u e h l k i j = omega arith

quotient_room : (z u w : ℕ) → u ≡ 2 ^ 57 * w → 0 < w → 0 < u → z ≤ 72181 * u → z * u < 2 ^ 65 * w * (360 * u)
quotient_room z u w e W+ U+ h = lt_of_lt_of_le (mul-lt-mul_of_pos_right (less z u w e W+ h) U+) (le_of_eq (turned u w))
  where
    less : (z u w : ℕ) → u ≡ 2 ^ 57 * w → 0 < w → z ≤ 72181 * u → z < 2 ^ 65 * w * 360
    less z u w e P h = omega arith

    turned : (u w : ℕ) → 2 ^ 65 * w * 360 * u ≡ 2 ^ 65 * w * (360 * u)
    turned u w = omega arith

quotient_most : (v z u w : ℕ) → u ≡ 2 ^ 57 * w → 0 < w → z ≤ 72181 * u → v * 360 ≤ z + 2 ^ 11 * w * 360 → v ≤ 201 * u
quotient_most v z u w e P h l = omega arith

-- the angle a, the angle before p, their difference z, its quotient v, the turns: n units of whole numbers
ends : (sa sp r : Bool) (a p z v n u w e : ℕ) → u ≡ 2 ^ 57 * w → e ≤ u → p ≤ 36000 * u
    → pl sp p + mi sa a + mi r z ≤ pl r z + (mi sp p + pl sa a) + e → pl r z + (mi sp p + pl sa a) ≤ pl sp p + mi sa a + mi r z + e
    → v * 360 ≤ z + 2 ^ 11 * w * 360 → z ≤ v * 360 + 2 ^ 11 * w * 360 → 2 * n ≤ 2 * v + u → 2 * v ≤ 2 * n + u
    → (pl sa a + pl (unlike false (unlike r false)) (360 * n) ≤ mi sa a + mi (unlike false (unlike r false)) (360 * n) + 37000 * u)
    × (mi sa a + mi (unlike false (unlike r false)) (360 * n) ≤ pl sa a + pl (unlike false (unlike r false)) (360 * n) + 37000 * u)
ends true true true a p z v n u w e h i j k l m o q t = (omega arith, omega arith)
ends true true false a p z v n u w e h i j k l m o q t = (omega arith, omega arith)
ends true false true a p z v n u w e h i j k l m o q t = (omega arith, omega arith)
ends true false false a p z v n u w e h i j k l m o q t = (omega arith, omega arith)
ends false true true a p z v n u w e h i j k l m o q t = (omega arith, omega arith)
ends false true false a p z v n u w e h i j k l m o q t = (omega arith, omega arith)
ends false false true a p z v n u w e h i j k l m o q t = (omega arith, omega arith)
ends false false false a p z v n u w e h i j k l m o q t = (omega arith, omega arith)

few_turns : (n : ℕ) → n ≤ 201 → 360 * n < 2 ^ 53
few_turns n h = lt_of_le_of_lt (go n h) (lit< tt)
  where
    go : (n : ℕ) → n ≤ 201 → 360 * n ≤ 72360
    go n h = omega arith

module _ (angle previous : Float) (A : UpTo 36180 angle) (P : UpTo 36000 previous) where
  gap : NearUnits (sub binary64 previous angle) (pl P.s P.v + mi A.s A.v) (mi P.s P.v + pl A.s A.v) (2 ^ 1037)
  gap =
      let w = apart P.s A.s P.v A.v U U_pos P.most A.most in
      sub_near previous angle P.s A.s P.v A.v 1037 P.is A.is (lit≤ tt)
      (subst (λ (z : ℕ). pl P.s P.v + mi A.s A.v < mi P.s P.v + pl A.s A.v + z) room_is w.0)
      (subst (λ (z : ℕ). mi P.s P.v + pl A.s A.v < pl P.s P.v + mi A.s A.v + z) room_is w.1)

  gap_up : gap.v ≤ 72181 * U
  gap_up = gap_most P.s A.s gap.s P.v A.v gap.v U (2 ^ 1037) P.most A.most error_most gap.low gap.high

  abbrev turns : Float
  turns = div binary64 (sub binary64 previous angle) one_turn

  quotient : Rounded turns (unlike gap.s false) (gap.v * U) (360 * U) (2 ^ 11 * W)
  quotient = div_rounded (sub binary64 previous angle) one_turn gap.s false gap.v (360 * U) 11 (lit≤ tt) (mul-pos (lit< tt) U_pos) gap.is turn_is (quotient_room gap.v U W U-is W-pos U_pos gap_up)

  near : (quotient.v * 360 ≤ gap.v + 2 ^ 11 * W * 360) × (gap.v ≤ quotient.v * 360 + 2 ^ 11 * W * 360)
  near = within_scale quotient.v gap.v 360 (2 ^ 11 * W) U U_pos quotient.near

  turns_up : UpTo 201 turns
  turns_up = record { s = unlike gap.s false; v = quotient.v; is = quotient.is; most = quotient_most quotient.v gap.v U W U-is W-pos gap_up near.0 }

  whole : Rounds turns (unlike gap.s false) quotient.v 201
  unfolding turns_up
  whole = rounds 201 turns (lit< tt) turns_up

  turned : Is (mul binary64 one_turn (round_half_away turns)) (unlike false (unlike gap.s false)) (360 * whole.N * U)
  turned = whole_mul one_turn (round_half_away turns) false (unlike gap.s false) 360 whole.N (few_turns whole.N whole.most) turn_is whole.is

  end : UpTo 37000 (add binary64 angle (mul binary64 one_turn (round_half_away turns)))
  end =
      let i = subst (Is (mul binary64 one_turn (round_half_away turns)) (unlike false (unlike gap.s false))) (joined whole.N U) turned in
      let w = ends A.s P.s gap.s A.v P.v gap.v quotient.v (whole.N * U) U W (2 ^ 1037) U-is error_most P.most gap.low gap.high near.0 near.1 whole.low whole.high in
      rnd_up_to _ _ _ U 37000 U_pos (lit< tt) (rnd_add angle (mul binary64 one_turn (round_half_away turns)) A.s (unlike false (unlike gap.s false)) A.v (360 * (whole.N * U)) A.is i) w.0 w.1
    where
      joined : (n u : ℕ) → 360 * n * u ≡ 360 * (n * u)
      joined n u = omega arith

  pub unwound_within : UpTo 37000 (unwind_angle angle previous)
  unfolding unwind_angle by_turns
  unwound_within =
      let a = up_to_more 36180 37000 angle (lit≤ tt) A in
      chosen (UpTo 37000) (not (finite angle)) _ _ (λ e. a)
      (λ e. chosen (UpTo 37000) (not (finite previous)) _ _ (λ e. a)
      (λ e. chosen (UpTo 37000) (Ieee.eq (round_half_away turns) nought) _ _ (λ e. a) (λ e. end)))
