-- A quotation: the figures of a division with enough space, its checks, and what it leaves of the lent scratch.
use Rattle.std.specs.Prelude.{ℕ, ◌+◌, ◌/◌, ◌%◌, Bool, cond, ◌&&◌, List, [], ◌∷◌, eqb, leb, length, replicate, Float, Err, Ok, Result}
use Rattle.float.specs.Helpers.{nought}
use Rattle.refusal.specs.declared.Cause.{Cause}
use Rattle.chain.specs.Checked.{Checked}
use Rattle.chain.specs.declared.Kinematics.{Kinematics}
use Rattle.chain.specs.declared.Prepared.{Prepared}
use Rattle.chain.specs.Check.{demand, first_refusal}
use Rattle.chain.specs.Prepared.{prepared}
use Rattle.halving.specs.Halving.{Answer}
use Rattle.halving.specs.Halving as Halving
use Rattle.quoting.specs.Costing as Costing
use Rattle.middle.specs.declared.Item.{Item}
use Rattle.middle.specs.declared.Tolerances.{Tolerances}
use Rattle.middle.specs.Testing.{portions, joints_unchanged, midpoint, divides}
use Rattle.turn.specs.declared.Stop.{Stop}
use Rattle.turn.specs.Turning.{most}
use Rattle.machine.specs.Dividing.{division}
use Rattle.divide.specs.Checking.{division_check}
use Rattle.divide.specs.Subdividing.{given}
use Rattle.quote.specs.declared.Figures.{Figures}
use Rattle.quote.specs.declared.QuoteError.{QuoteError}

-- ---- the figures
-- a test under these tolerances: the axes that the two joint sets reach, and one pose for each portion of the way that
-- the test asks at. These are three, and of a strict test "five evaluations for a tested pair, also where the old test
-- already fails"
unfoldable pub per_test : Tolerances → ℕ
per_test tol = 2 + length (portions tol.strict)

-- "three evaluations unless the Rust's test passes them before any"; of a strict test too what does not differ in its
-- joints "passes and counts none"
unfoldable pub cost_of : Tolerances → Item → Item → ℕ
cost_of tol left right = cond (joints_unchanged left.joints right.joints) 0 (per_test tol)

-- each two that ever are neighbours are tested once, and each insertion counts one
unfoldable pub evaluations_of : Prepared → Tolerances → List Item → ℕ
evaluations_of p tol g = Costing.evaluations (divides p tol) (midpoint p) (cost_of tol) most g

abbrev pub figures : (inserted poses evaluations : ℕ) → Figures
figures inserted poses evaluations = record { inserted = inserted; poses = poses; evaluations = evaluations }

-- what a quotation answers: its figures, or why it has none
abbrev pub Quote : Type 0
Quote = Result Figures QuoteError

-- how many are inserted, and how many there are then; with space for all that may be inserted there is no `NoSpace`
abbrev pub quote_in : ℕ → Answer Item → Quote
quote_in evaluations (Halving.Done n l) = Ok (figures n (length l) evaluations)
quote_in evaluations (Halving.TooMany n) = Err (QuoteError.Stopped (Stop.TooMany n))
quote_in evaluations (Halving.NoSpace n) = Err (QuoteError.Stopped (Stop.NoSpace 0))

unfoldable pub quotation : Prepared → Tolerances → List Item → Quote
quotation p tol g = quote_in (evaluations_of p tol g) (division p tol (length g + most) g)

-- ---- the scratch, of so many numbers: five for each joint set that waits, and three for its tip
unfoldable pub scratch_whole : (roomJoints roomTips : ℕ) → Bool
scratch_whole roomJoints roomTips = eqb (roomJoints % 5) 0 && eqb (roomTips % 3) 0

unfoldable pub scratch_enough : (roomJoints roomTips : ℕ) → Bool
scratch_enough roomJoints roomTips = leb most (roomJoints / 5) && leb most (roomTips / 3)

-- ---- the call: the checks, which are the scratch's records and then division's own; then 28; then the figures, or 27
unfoldable pub quote_check : Kinematics → Tolerances → (poses joints : List Float) → (roomJoints roomTips : ℕ) → Checked
quote_check k tol poses joints roomJoints roomTips =
    first_refusal
    (demand (scratch_whole roomJoints roomTips) Cause.LengthsDiffer 0
    ∷ division_check k tol poses joints 0 0
    ∷ [])

abbrev pub unless_refused : Checked → Quote → Quote
unless_refused (Ok _) answer = answer
unless_refused (Err r) answer = Err (QuoteError.Refused r)

unfoldable pub quote_checked : Kinematics → Tolerances → (poses joints : List Float) → (roomJoints roomTips : ℕ) → Quote
quote_checked k tol poses joints roomJoints roomTips =
    cond (scratch_enough roomJoints roomTips) (quotation (prepared k) tol (given poses joints)) (Err (QuoteError.Stopped (Stop.NoSpace 0)))

unfoldable pub quote_path : Kinematics → Tolerances → (poses joints : List Float) → (roomJoints roomTips : ℕ) → Quote
quote_path k tol poses joints roomJoints roomTips =
    unless_refused (quote_check k tol poses joints roomJoints roomTips) (quote_checked k tol poses joints roomJoints roomTips)

-- a lent scratch afterwards: kept by the checks' refusals, else +0.0 in every number
unfoldable pub cleared : List Float → List Float
cleared l = replicate (length l) nought

unfoldable pub scratch_left : Quote → List Float → List Float
scratch_left (Err (QuoteError.Refused r)) l = l
scratch_left (Err (QuoteError.Stopped s)) l = cleared l
scratch_left (Ok f) l = cleared l
