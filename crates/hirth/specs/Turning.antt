-- The turn by an angle that stands on a tooth: sine and cosine from the table, placed by the quarter turn, the sine
-- negated below zero, and no -0.0. What they are worth is `half_turns_near` (proofs/Placing.antt).
use Rattle.std.specs.Prelude.{ℕ, ◌+◌, ◌/◌, ◌%◌, Bool, cond, not, pos, ◌==◌, from_bits, Float}
use Rattle.std.specs.Float.{binary64}
use Rattle.std.specs.Float.Ieee.{mul, neg, eq, lt, of_int, to_unsigned}
use Rattle.float.specs.Helpers.{nought, size_of}
use Rattle.trig.specs.Degrees.{plain}
use Rattle.geometry.specs.declared.Turn.{Turn}
use Rattle.chain.specs.Check.{within}
use Rattle.chain.specs.Forward as Forward
use Rattle.hirth.specs.Snapping.{two}
use Rattle.hirth.specs.Teeth.{entries}

-- ---- a number of half degrees
-- an entry of the table as a number: times 2 ^ -52
unfoldable pub unscaled : ℕ → Float
unscaled t = mul binary64 (of_int binary64 (pos t)) (from_bits binary64 0x3cb0_0000_0000_0000)

-- the sine of an angle and q quarter turns, from the angle's sine and cosine
unfoldable pub quartered : ℕ → Float → Float → Float
quartered q sine cosine = cond (q == 0) sine (cond (q == 1) cosine (cond (q == 2) (neg sine) (neg cosine)))

-- n half degrees, less than a whole turn: n / 180 quarter turns, and n % 180 half degrees
unfoldable pub part_turn : ℕ → Turn
part_turn n = record {
  sine = quartered (n / 180) (unscaled (entries (n % 180)).sine) (unscaled (entries (n % 180)).cosine);
  cosine = quartered ((n / 180 + 1) % 4) (unscaled (entries (n % 180)).sine) (unscaled (entries (n % 180)).cosine);
}

unfoldable pub half_turns : ℕ → Turn
half_turns h = part_turn (h % 720)

-- ---- an angle
-- the turn, or the turn back
unfoldable pub toward : Turn → Bool → Turn
toward t below =
    cond below (record { sine = plain (neg t.sine); cosine = plain t.cosine })
    (record { sine = plain t.sine; cosine = plain t.cosine })

abbrev pub still : Turn
still = Forward.still

-- 90,000 half degrees
abbrev pub most_halves : Float
most_halves = from_bits binary64 0x40f5_f900_0000_0000

-- how many half degrees an angle has
unfoldable pub halves : Float → ℕ
halves a = to_unsigned 64 (size_of (mul binary64 a two))

-- beyond 45,000 degrees: no turn
unfoldable pub tooth_turn : Float → Turn
tooth_turn a =
    cond (eq a nought) still (cond (not (within (mul binary64 a two) most_halves)) still (toward (half_turns (halves a)) (lt a nought)))
