-- The inner form of forward, on a chain that was prepared once: all the numbers of every pose, added up, so that a
-- benchmark can time it without a buffer.
use Rattle.std.specs.Prelude.{ℕ, zero, suc, ◌+◌, ◌*◌, ◌/◌, List, length, get_or, Float, Err, Ok, Result}
use Rattle.std.specs.Float.{nan}
use Rattle.refusal.specs.declared.Refusal.{Refusal}
use Rattle.float.specs.Helpers.{nought}
use Rattle.geometry.specs.declared.Vec3.{Vec3}
use Rattle.geometry.specs.Vector.{plus, vector}
use Rattle.chain.specs.declared.Kinematics.{Kinematics}
use Rattle.chain.specs.declared.Prepared.{Prepared}
use Rattle.chain.specs.declared.ToolPose.{ToolPose}
use Rattle.chain.specs.Prepared.{prepared}
use Rattle.chain.specs.Forward.{turns_of, forward_core}

unfoldable pub vector_sum : Vec3 → Float
vector_sum v = plus (plus v.x v.y) v.z

unfoldable pub pose_sum : ToolPose → Float
pose_sum p = plus (vector_sum p.tip) (vector_sum p.axis)

-- at the five numbers from an index on
unfoldable pub sum_at : Prepared → List Float → Float → ℕ → Float
sum_at p joints tool at =
    pose_sum
    (forward_core p (turns_of p (get_or joints (at + 3) nan) (get_or joints (at + 4) nan))
    (vector (get_or joints at nan) (get_or joints (at + 1) nan) (get_or joints (at + 2) nan))
    tool)

-- of the first n records of five numbers
unfoldable pub sums : Prepared → List Float → Float → ℕ → Float
sums p joints tool zero = nought
sums p joints tool (suc n) = plus (sums p joints tool n) (sum_at p joints tool (n * 5))

abbrev pub sums_read : Result Kinematics Refusal → List Float → Float → Float
sums_read (Ok k) joints tool = sums (prepared k) joints tool (length joints / 5)
sums_read (Err r) joints tool = nought
