-- One pair divided after insertions elsewhere: what Subdiv::fill of the Rust does, with the record of count and
-- tolerances that it is lent.
use Rattle.std.specs.Prelude.{ℕ, cond, List, [], ◌∷◌, leb, ltb, length, Float, Err, Ok}
use Rattle.halving.specs.Halving.{Answer, NoSpace, count}
use Rattle.chain.specs.declared.Prepared.{Prepared}
use Rattle.turn.specs.declared.Stop.{Stop}
use Rattle.turn.specs.Turning.{most}
use Rattle.machine.specs.Dividing.{division_after, Divided}
use Rattle.turn.specs.Items.{space_in}
use Rattle.middle.specs.declared.Item.{Item}
use Rattle.machine.specs.declared.Subdiv.{Subdiv}
use Rattle.middle.specs.declared.Tolerances.{Tolerances}

-- the halving of the pair; `had` were inserted before it, and no more are where that is 10,000 or more
unfoldable pub pair_halved : Prepared → Tolerances → ℕ → ℕ → Item → Item → Answer Item
pair_halved p tol space had left right = division_after had p tol space (left ∷ right ∷ [])

-- without space for the pair itself it is refused
unfoldable pub filled : Prepared → ℕ → Tolerances → Item → Item → List Float → List Float → Answer Item
filled p had tol left right poses joints =
    cond (ltb (space_in (length poses) (length joints)) 2) (NoSpace had)
    (pair_halved p tol (space_in (length poses) (length joints)) had left right)

-- ---- the machine counts up to 10,000
unfoldable pub counted : ℕ → ℕ
counted had = cond (leb had most) had most

abbrev pub with_count : ℕ → Divided → Divided
with_count had (Ok n) = Ok had
with_count had (Err (Stop.TooMany n)) = Err (Stop.TooMany had)
with_count had (Err (Stop.NoSpace n)) = Err (Stop.NoSpace had)

unfoldable pub recounted : ℕ → Divided → Divided
recounted had said = cond (leb had most) said (with_count had said)

-- ---- the lent record: the count is kept, on refusals the count so far, and the tolerances stay
abbrev pub count_in : Divided → ℕ
count_in (Ok n) = n
count_in (Err (Stop.TooMany n)) = n
count_in (Err (Stop.NoSpace n)) = n

abbrev pub filling : Subdiv → Prepared → Item → Item → List Float → List Float → Answer Item
filling job p left right poses joints = filled p job.inserted job.tol left right poses joints

abbrev pub after : Subdiv → Answer Item → Subdiv
after job answer = record { inserted = count answer; tol = job.tol }
