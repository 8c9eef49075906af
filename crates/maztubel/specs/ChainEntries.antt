-- What the entries of a chain answer, from the bytes and numbers that they are lent: first 20, then 29, then the list
-- of checks of `chain`, with what was lent kept on a refusal.
use Rattle.std.specs.Prelude.{ℕ, ◌&&◌, cond, List, [], ◌∷◌, eqb, length, Float, Err, Ok, Result}
use Rattle.refusal.specs.declared.Refusal.{Refusal}
use Rattle.refusal.specs.Numbers.{refusal}
use Rattle.refusal.specs.declared.Cause.{Cause}
use Rattle.chain.specs.declared.Kinematics.{Kinematics}
use Rattle.chain.specs.Checked.{Checked}
use Rattle.chain.specs.declared.ToolPose.{ToolPose}
use Rattle.chain.specs.ChainBytes.{read_chain}
use Rattle.chain.specs.Check.{then, chain_check, chain_sizes}
use Rattle.chain.specs.Forward.{forward_read}
use Rattle.maztubel.specs.Lent.{joints_in}

-- ---- the chain check
abbrev pub check_read : Result Kinematics Refusal → Checked
check_read (Err r) = Err r
check_read (Ok k) = then (chain_check k) (chain_sizes k)

unfoldable pub check_chain : List ℕ → Checked
check_chain chain = check_read (read_chain chain)

-- ---- forward
-- `room` is how many numbers the lent pose has
unfoldable pub forward_of : List ℕ → List Float → Float → ℕ → Result ToolPose Refusal
forward_of chain joints tool room =
    cond (eqb (length joints) 5 && eqb room 6) (forward_read (read_chain chain) (joints_in joints) tool) (Err (refusal Cause.LengthsDiffer 0))

-- six numbers: the tip, then the axis
unfoldable pub pose_numbers : ToolPose → List Float
pose_numbers p = p.tip.x ∷ p.tip.y ∷ p.tip.z ∷ p.axis.x ∷ p.axis.y ∷ p.axis.z ∷ []

-- a lent pose afterwards
abbrev pub pose_over : Result ToolPose Refusal → List Float → List Float
pose_over (Ok p) before = cond (eqb (length before) 6) (pose_numbers p) before
pose_over (Err r) before = before
