-- The reduction of a float by the nearest multiple of Pi / 2, as the code makes it: in whole numbers, exactly, and one
-- rounding at the end. Definitions only.
-- 14148475504056880 is the whole part of Pi / 2 * 2 ^ 53, and 620969700002688 the next 50 binary digits;
-- 7074237752028440 and 310484850001344 are those of Pi / 4.
use Rattle.std.specs.Prelude.{ℕ, ◌+◌, ◌-◌, ◌*◌, ◌/◌, ◌%◌, ◌^◌, ◌≤◌, Bool, true, false, cond, pos, negsuc, from_bits, nat_le, nat_lt, Float}
use Rattle.std.specs.Float.{nan, inf, fin, binary64}
use Rattle.std.specs.Float.Ieee.{up, down, mul, of_int, to_unsigned, le}

-- the whole part of (2 k + 1) * Pi / 4 * 2 ^ 53: where k and k + 1 are equally near
unfoldable pub tie : ℕ → ℕ
tie k = (2 * k + 1) * 7074237752028440 + (2 * k + 1) * 310484850001344 / 2 ^ 50

-- the whole number nearest to x / (Pi / 2), for x in units of 2 ^ -53
unfoldable pub turns : ℕ → ℕ
unfolding tie
turns x = cond (nat_lt (tie (x / 14148475504056880)) x) (x / 14148475504056880 + 1) (x / 14148475504056880)

-- k * Pi / 2 in units of 2 ^ -53, its whole part, and the next nine digits
unfoldable pub base : ℕ → ℕ
base k = k * 14148475504056880 + k * 620969700002688 / 1125899906842624

unfoldable pub part : ℕ → ℕ
part k = k * 620969700002688 / 2199023255552 % 512

-- the distance of x from k * Pi / 2 in units of 2 ^ -62
unfoldable pub rest : ℕ → ℕ → ℕ
unfolding base part
rest x k = cond (nat_le x (base k)) ((base k - x) * 512 + part k) ((x - base k) * 512 - part k)

-- r * 2 ^ -62, rounded
unfoldable pub rest_float : ℕ → Float
rest_float r = mul binary64 (of_int binary64 (pos r)) (fin false 1 (negsuc 61))

-- the largest double below Pi / 4
abbrev pub quarter_pi : Float
quarter_pi = from_bits binary64 0x3fe9_21fb_5444_2d18

-- a in units of 2 ^ -53
abbrev pub count : Float → ℕ
count a = to_unsigned 64 (mul binary64 a (from_bits binary64 0x4340_0000_0000_0000))

-- for a from 0 to 800: k, whether a is below k * Pi / 2, and their distance
unfoldable pub turn_k : Float → ℕ
turn_k a = cond (le a quarter_pi) 0 (turns (count a))

unfoldable pub turn_below : Float → Bool
turn_below a = cond (le a quarter_pi) false (nat_le (count a) (base (turns (count a))))

unfoldable pub turn_rest : Float → Float
turn_rest a = cond (le a quarter_pi) a (rest_float (rest (count a) (turns (count a))))

-- a is from 0 to 800
abbrev pub Tame : Float → Type 0
Tame nan = ⊥
Tame (inf s) = ⊥
Tame (fin true m e) = ⊥
Tame (fin false m e) = m * up e ≤ 800 * down e
