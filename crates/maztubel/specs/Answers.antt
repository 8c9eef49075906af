-- What an export answers and what it leaves in the numbers that it was lent, from what `trig` answers: a number for
-- each case, the lent number afterwards, and the same for slices.
use Rattle.std.specs.Prelude.{ℕ, zero, suc, ◌<◌, Bool, true, false, cond, List, eqb, length, get_or, Float, None, Option, Some}
use Rattle.std.specs.Float.{nan}
use Rattle.lists.specs.Search.{any}
use Rattle.lists.specs.Rows.{paired}
use Rattle.refusal.specs.Numbers.{served, number_of as cause_number}
use Rattle.refusal.specs.declared.Cause.{Cause}

abbrev pub number_of : Option Float → ℕ
number_of (Some v) = served
number_of None = cause_number Cause.TooLarge

-- the lent number afterwards: the answer, or what stood there
abbrev pub written_over : Option Float → Float → Float
written_over (Some v) before = v
written_over None before = before

-- ---- slices: what `trig` answers for each argument stands in a list
abbrev pub refuses : Option Float → Bool
refuses (Some v) = false
refuses None = true

abbrev pub same_length : List Float → List Float → Bool
same_length xs ys = eqb (length xs) (length ys)

-- the order of the checks: the lengths, then every argument
unfoldable pub number_of_all : Bool → List (Option Float) → ℕ
number_of_all sameLengths answers = cond sameLengths (cond (any refuses answers) (cause_number Cause.TooLarge) served) (cause_number Cause.LengthsDiffer)

-- the lent numbers after a call that answers this number: all written, or all kept
abbrev pub all_written_over : ℕ → List (Option Float) → List Float → List Float
all_written_over zero answers before = paired written_over answers before
all_written_over (suc n) answers before = before

-- what holds of the answer for each argument
abbrev pub EachRight : (Float → Option Float → Type 0) → (Float → Option Float) → List Float → Type 0
EachRight Right f xs = (i : ℕ) → i < length xs → Right (get_or xs i nan) (f (get_or xs i nan))

abbrev pub EachPairRight : (Float → Float → Option Float → Type 0) → (Float → Float → Option Float) → List Float → List Float → Type 0
EachPairRight Right f ys xs = (i : ℕ) → i < length ys → i < length xs → Right (get_or ys i nan) (get_or xs i nan) (f (get_or ys i nan) (get_or xs i nan))
