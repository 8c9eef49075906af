-- Quotients by lengths of 1e-9 and more, below which a length counts as none, are bounded.
use mathlib.Core.Path.{◌≡◌, refl, sym, ◌∙◌}
use mathlib.Core.Bool.{Bool, true, false, not, true≢false}
use Prim.Native.Nat.{ℕ, ◌+◌, ◌*◌, ◌^◌, ◌≤◌}
use native.Mathlib.Nat.{le_trans, mul-le-mul_left}
use lib.Dec.{lit≤}
use lib.Ieee.{Float, binary64, div, le, lt, of_bits}
use Rattle.float.specs.Units.{U, Is}
use Rattle.float.proofs.Order as order
use Rattle.float.proofs.Units.{number}
use Rattle.float.proofs.UpTo.{units_le}
use Rattle.float.proofs.Bounded.{Small, small_div}

-- 1e-9
abbrev shortest : Float
shortest = of_bits binary64 0x3e11_2e0b_e826_d695

unfoldable S : ℕ
S = 4835703278458517 * 2 ^ 992

shortest_is : Is shortest false S
unfolding of_bits U S
shortest_is = (refl, refl)

S-most : U ≤ 2 ^ 30 * S
unfolding U S
S-most = lit≤ tt

pub long_enough : (k : ℕ) (y : Float) (Y : Small k y) → le shortest y ≡ true → U ≤ 2 ^ 30 * Y.v
long_enough k y Y h = le_trans S-most (mul-le-mul_left (2 ^ 30) (units_le shortest y Y.s S Y.v shortest_is Y.is h))

-- a number that is not at most 1e-9
pub not_short : (k : ℕ) (y : Float) → Small k y → le y shortest ≡ false → le shortest y ≡ true
not_short k y Y h = order.le_total shortest y (number shortest false S shortest_is) (number y Y.s Y.v Y.is) h

-- nor below it
pub not_below : (k : ℕ) (y : Float) → Small k y → lt y shortest ≡ false → le shortest y ≡ true
not_below k y Y h = turned (le shortest y) (sym (order.lt_is y shortest (number y Y.s Y.v Y.is) (number shortest false S shortest_is)) ∙ h)
  where
    turned : (b : Bool) → not b ≡ false → b ≡ true
    turned true h = refl
    turned false h = absurd (true≢false h)

pub over_length : (k l n : ℕ) (x y : Float) → k + 31 ≤ n → n ≤ 900 → Small k x → Small l y → le shortest y ≡ true → Small n (div binary64 x y)
over_length k l n x y h o X Y m = small_div k n x y Y.s Y.v h o X Y.is (long_enough l y Y m)
