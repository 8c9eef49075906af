-- The figures of a quotation beside those of a division of the same input.
use Rattle.std.specs.Prelude.{ℕ, ◌+◌, ◌≤◌, ◌≡◌, ◌↔◌, true, List, length, Float, Err, Ok}
use Rattle.chain.specs.declared.Kinematics.{Kinematics}
use Rattle.chain.specs.Prepared.{prepared}
use Rattle.path.specs.Solving.{whole_records}
use Rattle.halving.specs.Halving.{Done, TooMany}
use Rattle.middle.specs.declared.Item.{Item}
use Rattle.middle.specs.declared.Tolerances.{Tolerances}
use Rattle.turn.specs.Items.{space_in}
use Rattle.turn.specs.Turning.{most}
use Rattle.divide.specs.Subdividing.{Halved, given, subdivide_path}
use Rattle.turn.specs.declared.Stop.{Stop}
use Rattle.quote.specs.declared.Figures.{Figures}
use Rattle.quote.specs.declared.QuoteError.{QuoteError}
use Rattle.quote.specs.Quotation.{Quote, evaluations_of, figures, scratch_whole, scratch_enough}

-- of a quotation with scratches of so many numbers; a division is lent outputs of a and b numbers
pub record AsDivided (k : Kinematics) (tol : Tolerances) (poses joints : List Float) (roomJoints roomTips : ℕ) (answer : Quote) : Type 0 where
  -- "The first two figures are those of the division with enough space": with space for as many poses as the quotation
  -- says it is done, with as many inserted, and gives as many
  pub quoted : (f : Figures) → answer ≡ Ok f → (a b : ℕ) → whole_records a b ≡ true → f.poses ≤ space_in a b
      → (r : List Item) × ((subdivide_path k tol poses joints a b ≡ Halved (Done f.inserted r)) × (length r ≡ f.poses))
  -- and back: of every division that is done the quotation gives the figures
  pub divided : scratch_whole roomJoints roomTips ≡ true → scratch_enough roomJoints roomTips ≡ true → (a b n : ℕ) (r : List Item)
      → subdivide_path k tol poses joints a b ≡ Halved (Done n r) → answer ≡ Ok (figures n (length r) (evaluations_of (prepared k) tol (given poses joints)))
  -- "27 comes for exactly the same inputs"
  pub many : scratch_whole roomJoints roomTips ≡ true → scratch_enough roomJoints roomTips ≡ true → (a b n : ℕ) → whole_records a b ≡ true
      → length (given poses joints) + most ≤ space_in a b → (answer ≡ Err (QuoteError.Stopped (Stop.TooMany n))) ↔ (subdivide_path k tol poses joints a b ≡ Halved (TooMany n))
  -- 28 comes with a count of 0
  pub none : (n : ℕ) → answer ≡ Err (QuoteError.Stopped (Stop.NoSpace n)) → n ≡ 0
