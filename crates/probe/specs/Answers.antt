-- What the exported functions answer beyond the definitions of `float`: a comparison as a number, many roots at once,
-- and a pair of waves in two lent numbers.
use Rattle.std.specs.Prelude.{ℕ, min, List, ◌++◌, map, length, take, drop, Float, None, Option, Some}
use Rattle.trig.specs.declared.Pair.{Pair}
use Rattle.root.specs.Root.{root}
use Rattle.std.specs.declared.cmp.Ordering.{Ordering}
use Rattle.std.specs.declared.cmp.Ordering.TheVariants.{Less, Equal, Greater}
use Rattle.refusal.specs.Numbers.{number_of, served}
use Rattle.refusal.specs.declared.Cause.{Cause}

-- the number of a comparison
abbrev pub number : Ordering → ℕ
number Less = 0
number Equal = 1
number Greater = 2

-- the root of each of xs in the place of the float of ys beside it; what reaches further of either is left as it is
unfoldable pub roots_over : List Float → List Float → List Float
roots_over xs ys =
    let n = min (length xs) (length ys) in
    map root (take n xs) ++ drop n ys

-- of a pair: its number, and each lent number afterwards
abbrev pub pair_number : Option Pair → ℕ
pair_number (Some p) = served
pair_number None = number_of Cause.TooLarge

abbrev pub sine_over : Option Pair → Float → Float
sine_over (Some p) before = p.sine
sine_over None before = before

abbrev pub cosine_over : Option Pair → Float → Float
cosine_over (Some p) before = p.cosine
cosine_over None before = before
