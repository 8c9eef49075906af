-- Worked examples that the checker computes: the order of the checks, and what a refusal keeps.
use Rattle.std.specs.Prelude.{◌≡◌, refl, true, false, List, [], ◌∷◌, Float, None, Option, Some}
use Rattle.std.specs.Float.{nan, inf}
use Rattle.lists.specs.Search.{any}
use Rattle.lists.specs.Rows.{paired}
use Rattle.float.specs.Helpers.{nought}
use Rattle.refusal.specs.Numbers.{refusal}
use Rattle.refusal.specs.declared.Cause.{Cause}
use Rattle.inverse.specs.Inverse.{Answers}
use Rattle.maztubel.specs.Answers.{number_of_all, all_written_over}
use Rattle.maztubel.specs.InverseEntries.{refused_answers, clears, list_over, count_over}

both : List (Option Float)
both = Some (inf true) ∷ None ∷ []

lent : List Float
lent = nan ∷ nan ∷ []

-- a refusal among answers of other lengths: the lengths come first
lengths_first : number_of_all false both ≡ 20
unfolding number_of_all
lengths_first = refl

one_refused : number_of_all true both ≡ 17
unfolding number_of_all any both
one_refused = refl

all_kept : all_written_over (number_of_all true both) both lent ≡ lent
unfolding number_of_all any both lent
all_kept = refl

all_served : all_written_over 0 (Some (inf true) ∷ Some (inf false) ∷ []) lent ≡ inf true ∷ inf false ∷ []
unfolding paired lent
all_served = refl

none_asked : number_of_all true [] ≡ 0
unfolding number_of_all any
none_asked = refl

-- ---- the lent list of the inverse map, and its count
answers_of : Cause → Answers
answers_of cause = refused_answers (refusal cause 0)

list_kept : list_over (answers_of Cause.ToolAxisZero) lent ≡ lent
unfolding answers_of clears
list_kept = refl

list_cleared : list_over (answers_of Cause.OutsideLimits) lent ≡ nought ∷ nought ∷ []
unfolding answers_of clears lent
list_cleared = refl

count_kept : count_over (answers_of Cause.LengthsDiffer) 7 ≡ 7
unfolding answers_of clears
count_kept = refl

count_cleared : count_over (answers_of Cause.NotReachable) 7 ≡ 0
unfolding answers_of clears
count_cleared = refl
