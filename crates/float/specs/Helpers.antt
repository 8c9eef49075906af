-- The float helpers, each by what it answers at every float: `nan`, an infinity `inf s`, or a finite value `fin s m e`,
-- which is m * 2 ^ e with the sign s (true: negative).
-- `finite` itself is the library's (lib.Ieee.Scale): true of `fin`, false of `inf` and `nan`.
use Rattle.std.specs.Prelude.{ℕ, ◌+◌, ◌*◌, ◌/◌, Bool, false, cond, from_bits, is_nan, nat_le}
use lib.Ieee.{Float, nan, inf, fin, binary64, up, down, round, mul, neg, lt}

abbrev pub nought : Float
nought = from_bits binary64 0

abbrev pub one : Float
one = from_bits binary64 0x3ff0_0000_0000_0000

-- the sign bit; a nan has none
abbrev pub negative : Float → Bool
negative nan = false
negative (inf s) = s
negative (fin s m e) = s

-- the size: the absolute value. -0.0 gives +0.0
unfoldable pub size_of : Float → Float
size_of nan = nan
size_of (inf s) = inf false
size_of (fin s m e) = fin false m e

-- n / d to the nearest whole number, a half up
abbrev pub nearest_whole : ℕ → ℕ → ℕ
nearest_whole n d = (2 * n + d) / (2 * d)

-- Rust's `round`: the nearest whole number, a half away from zero. The sign stays, at a zero too.
unfoldable pub round_half_away : Float → Float
round_half_away nan = nan
round_half_away (inf s) = inf s
round_half_away (fin s m e) = round binary64 s (nearest_whole (m * up e) (down e)) 1

-- Rust's `clamp(-1.0, 1.0)`: what is more than 1 in size becomes 1 with its sign
unfoldable pub clamp_unit : Float → Float
clamp_unit nan = nan
clamp_unit (inf s) = cond s (neg one) one
clamp_unit (fin s m e) = cond (nat_le (m * up e) (down e)) (fin s m e) (cond s (neg one) one)

-- Rust's `max` and `min`: of a nan and a number the number. Of two that are equal, as +0.0 and -0.0 are, the first,
-- where Rust leaves it open.
unfoldable pub maximum : Float → Float → Float
maximum x y = cond (is_nan x) y (cond (lt x y) y x)

unfoldable pub minimum : Float → Float → Float
minimum x y = cond (is_nan x) y (cond (lt y x) y x)

-- Rust's `to_radians` and `to_degrees`: one rounded product each, with the doubles nearest to Pi / 180 and 180 / Pi
unfoldable pub to_radians : Float → Float
to_radians x = mul binary64 x (from_bits binary64 0x3f91_df46_a252_9d39)

unfoldable pub to_degrees : Float → Float
to_degrees x = mul binary64 x (from_bits binary64 0x404c_a5dc_1a63_c1f8)
