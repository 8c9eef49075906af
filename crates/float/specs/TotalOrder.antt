-- IEEE 754's totalOrder, as Rust's `total_cmp` has it: by value, and -0.0 before +0.0. The logic has one nan, and it
-- stands last.
use Rattle.std.specs.Prelude.{ℕ, ◌+◌, ◌-◌, ◌^◌, Bool, cond, not, ◌&&◌, ◌||◌, is_nan, nat_lt, to_bits, Float}
use Rattle.std.specs.Float.{binary64}
use Rattle.std.specs.Float.Ieee.{lt, eq}
use Rattle.float.specs.Helpers.{negative}
use Rattle.std.specs.declared.cmp.Ordering.{Ordering}
use Rattle.std.specs.declared.cmp.Ordering.TheVariants.{Less, Equal, Greater}

-- x stands before y
unfoldable pub before : Float → Float → Bool
before x y = cond (is_nan y) (not (is_nan x)) (lt x y || (eq x y && (negative x && not (negative y))))

unfoldable pub total_compare : Float → Float → Ordering
total_compare x y = cond (before x y) Less (cond (before y x) Greater Equal)

-- A whole number below 2 ^ 64 for each float, in that order (`proofs/TotalOrder.antt`): a bit pattern with the sign
-- clear goes above 2 ^ 63, and one with the sign set below it, the other way round.
unfoldable pub order_key : Float → ℕ
order_key x = cond (is_nan x) (2 ^ 64 - 1) (cond (nat_lt (to_bits binary64 x) (2 ^ 63)) (to_bits binary64 x + 2 ^ 63) (2 ^ 64 - 1 - to_bits binary64 x))
