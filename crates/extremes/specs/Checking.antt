-- The checks of the three calls, each as one list. A path may have any number of joint sets.
use Rattle.std.specs.Prelude.{Bool, ◌&&◌, List, [], ◌∷◌, ℕ, ◌*◌, ◌/◌, ◌%◌, ltb, eqb, length, Float}
use Rattle.std.specs.Float.Ieee.Scale.{finite}
use Rattle.lists.specs.Search.{all}
use Rattle.refusal.specs.declared.Cause.{Cause}
use Rattle.chain.specs.Checked.{Checked}
use Rattle.chain.specs.Check.{demand, first_refusal, joints_finite, joints_within, within, most_turned}
use Rattle.turn.specs.Items.{joints_from}
use Rattle.extremes.specs.Summary.{sets_in, group_count}

-- whole joint sets, and ten numbers for each group of them; `joints` and `summary` are how many numbers are lent
unfoldable pub lengths_good : (joints summary : ℕ) → Bool
lengths_good joints summary = eqb (joints % 5) 0 && eqb summary (group_count (joints / 5) * 10)

-- and a new joint set of five numbers, for one that is there
unfoldable pub replace_good : (joints summary index fresh : ℕ) → Bool
replace_good joints summary index fresh = lengths_good joints summary && eqb fresh 5 && ltb index (joints / 5)

-- and the first rotary or the second
unfoldable pub ask_good : (joints summary rotary : ℕ) → Bool
ask_good joints summary rotary = lengths_good joints summary && ltb rotary 2

-- ---- building: all joints
unfoldable pub build_check : (joints : List Float) (summary : ℕ) → Checked
build_check joints summary =
    first_refusal
    (demand (lengths_good (length joints) summary) Cause.LengthsDiffer 0
    ∷ demand (all joints_finite (sets_in joints)) Cause.NotFinite 0
    ∷ demand (all joints_within (sets_in joints)) Cause.TooLarge 0
    ∷ [])

-- ---- replacing: the new joint set alone
unfoldable pub replace_check : (joints summary index : ℕ) (fresh : List Float) → Checked
replace_check joints summary index fresh =
    first_refusal
    (demand (replace_good joints summary index (length fresh)) Cause.LengthsDiffer 0
    ∷ demand (joints_finite (joints_from fresh)) Cause.NotFinite 0
    ∷ demand (joints_within (joints_from fresh)) Cause.TooLarge 0
    ∷ [])

-- ---- asking: the angle alone
unfoldable pub ask_check : (joints summary rotary : ℕ) (angle : Float) → Checked
ask_check joints summary rotary angle =
    first_refusal
    (demand (ask_good joints summary rotary) Cause.LengthsDiffer 0
    ∷ demand (finite angle) Cause.NotFinite 0
    ∷ demand (within angle most_turned) Cause.TooLarge 0
    ∷ [])
