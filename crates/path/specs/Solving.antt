-- A path over lent numbers: the checks before the first pose, as one list, then pose after pose, each from the angles
-- before it.
use Rattle.std.specs.Prelude.{Bool, true, not, ◌&&◌, List, [], ◌∷◌, ℕ, suc, ◌+◌, ◌/◌, ◌%◌, eqb, leb, length, get_or, set, replicate, drop, Float, Err, None, Ok, Option, Result, Some}
use Rattle.std.specs.Float.Ieee as Ieee
use Rattle.std.specs.Float.{nan, binary64}
use Rattle.std.specs.Float.Ieee.{of_bits}
use Rattle.std.specs.Float.Ieee.Scale.{finite}
use Rattle.lists.specs.Padding.{padded}
use Rattle.lists.specs.Rows.{rows, flat}
use Rattle.float.specs.Helpers.{nought}
use Rattle.refusal.specs.declared.Refusal.{Refusal}
use Rattle.refusal.specs.declared.Cause.{Cause}
use Rattle.geometry.specs.Vector.{vector, cross, norm}
use Rattle.chain.specs.Checked.{Checked}
use Rattle.chain.specs.declared.Joints.{Joints}
use Rattle.chain.specs.declared.Kinematics.{Kinematics}
use Rattle.chain.specs.declared.ToolPose.{ToolPose}
use Rattle.chain.specs.Check.{demand, first_refusal, chain_check, chain_within, joints_finite, joints_within}
use Rattle.chain.specs.Prepared.{unit_axis}
use Rattle.inverse.specs.Subproblem.{shortest}
use Rattle.inverse.specs.declared.Angles.{Angles}
use Rattle.path.specs.Exact.{angles_of}
use Rattle.path.specs.Posing.{set_up, pose_answer}
use Rattle.path.specs.declared.Setup.{Setup}

-- ---- records of lent numbers
-- a pose is six: the tip, then the axis
abbrev pub pose_from : List Float → ToolPose
pose_from l = record { tip = vector (get_or l 0 nan) (get_or l 1 nan) (get_or l 2 nan); axis = vector (get_or l 3 nan) (get_or l 4 nan) (get_or l 5 nan) }

unfoldable pub pose_in : List Float → ℕ → ToolPose
pose_in l at = pose_from (drop at l)

unfoldable pub poses_in : List Float → List ToolPose
poses_in l = rows 6 pose_from (length l / 6) l

-- a joint set is five: the position, then the angles
abbrev pub joint_numbers : Joints → List Float
joint_numbers j = j.xyz.x ∷ j.xyz.y ∷ j.xyz.z ∷ j.a0 ∷ j.a1 ∷ []

unfoldable pub joints_over : Joints → List Float → ℕ → List Float
joints_over j l at = set (set (set (set (set l at j.xyz.x) (at + 1) j.xyz.y) (at + 2) j.xyz.z) (at + 3) j.a0) (at + 4) j.a1

-- ---- pose after pose
-- what a path comes to: joint sets in order, a refusal at a pose, or a refusal before the first, which keeps what is
-- lent
pub data PathAnswer : Type 0 where
  Along : List Joints → PathAnswer
  AtPose : Refusal → PathAnswer
  Kept : Refusal → PathAnswer

abbrev pub then_on : Joints → PathAnswer → PathAnswer
then_on j (Along l) = Along (j ∷ l)
then_on j (AtPose r) = AtPose r
then_on j (Kept r) = Kept r

abbrev pub with_pose : Result Joints Refusal → (Joints → PathAnswer) → PathAnswer
with_pose (Ok j) rest = then_on j (rest j)
with_pose (Err r) rest = AtPose r

unfoldable pub solve_poses : Setup → Angles → ℕ → List ToolPose → PathAnswer
solve_poses s previous i [] = Along []
solve_poses s previous i (pose ∷ l) = with_pose (pose_answer s pose previous i) (λ j. solve_poses s (angles_of j) (suc i) l)

-- ---- the start: angles zero, or those of given joints
abbrev pub start_finite : Option Joints → Bool
start_finite None = true
start_finite (Some j) = joints_finite j

abbrev pub start_within : Option Joints → Bool
start_within None = true
start_within (Some j) = joints_within j

abbrev pub start_angles : Option Joints → Angles
start_angles None = record { a0 = nought; a1 = nought }
start_angles (Some j) = angles_of j

-- ---- the checks before the first pose
unfoldable pub whole_records : ℕ → ℕ → Bool
whole_records numbers room = eqb (numbers % 6) 0 && eqb (room % 5) 0

-- 10 degrees
abbrev pub widest_cone : Float
widest_cone = of_bits binary64 0x4024_0000_0000_0000

unfoldable pub cone_good : Float → Bool
cone_good cone = finite cone && Ieee.lt nought cone && Ieee.le cone widest_cone

-- two rotaries whose unit axes have a cross product shorter than 1e-9: such a chain can have endless solutions
unfoldable pub parallel : Kinematics → Bool
parallel k = eqb k.count 2 && Ieee.lt (norm (cross (unit_axis k.first.axis) (unit_axis k.second.axis))) shortest

-- the chain of a call that walks a path
unfoldable pub path_chain : Kinematics → Checked
path_chain k = first_refusal (chain_check k ∷ demand (not (parallel k)) Cause.ParallelRotaries 0 ∷ [])

unfoldable pub path_sizes : Kinematics → Option Joints → ℕ → Bool
path_sizes k start count = chain_within k && start_within start && leb count 100000

unfoldable pub solve_check : Kinematics → Option Joints → Float → ℕ → ℕ → Checked
solve_check k start cone numbers room =
    first_refusal
    (demand (whole_records numbers room) Cause.LengthsDiffer 0
    ∷ demand (cone_good cone) Cause.Cone 0
    ∷ path_chain k
    ∷ demand (start_finite start) Cause.NotFinite 0
    ∷ demand (path_sizes k start (numbers / 6)) Cause.TooLarge 0
    ∷ demand (leb (numbers / 6) (room / 5)) Cause.NoSpace 0
    ∷ [])

-- ---- the entry
abbrev pub unless_kept : Checked → PathAnswer → PathAnswer
unless_kept (Ok _) answer = answer
unless_kept (Err r) answer = Kept r

unfoldable pub solve_checked : Kinematics → List Float → Option Joints → Float → PathAnswer
solve_checked k poses start cone = solve_poses (set_up k cone) (start_angles start) 0 (poses_in poses)

-- `room` is how many numbers the lent output has
unfoldable pub solve_path : Kinematics → List Float → Option Joints → Float → ℕ → PathAnswer
solve_path k poses start cone room =
    unless_kept (solve_check k start cone (length poses) room) (solve_checked k poses start cone)

abbrev pub checked_in : PathAnswer → Checked
checked_in (Along l) = Ok tt
checked_in (AtPose r) = Err r
checked_in (Kept r) = Err r

-- the lent output afterwards
unfoldable pub path_over : PathAnswer → List Float → List Float
path_over (Along l) out = padded (length out) nought (flat joint_numbers l)
path_over (AtPose r) out = replicate (length out) nought
path_over (Kept r) out = out
