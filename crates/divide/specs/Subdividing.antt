-- The two calls that divide, over lent numbers: `subdivide_path` of given poses and joints, and the call of both, which
-- solves the joints first.
use Rattle.std.specs.Prelude.{ℕ, ◌/◌, ◌*◌, Bool, true, cond, ◌&&◌, List, [], ◌∷◌, eqb, leb, ltb, length, take, replicate, Float, Err, Ok, Option, Result}
use Rattle.float.specs.Helpers.{nought}
use Rattle.lists.specs.Rows.{flat}
use Rattle.refusal.specs.declared.Refusal.{Refusal}
use Rattle.refusal.specs.Numbers.{refusal}
use Rattle.refusal.specs.declared.Cause.{Cause}
use Rattle.chain.specs.Checked.{Checked}
use Rattle.chain.specs.declared.Joints.{Joints}
use Rattle.chain.specs.declared.Kinematics.{Kinematics}
use Rattle.chain.specs.declared.Prepared.{Prepared}
use Rattle.chain.specs.Check.{demand, first_refusal}
use Rattle.chain.specs.Prepared.{prepared}
use Rattle.path.specs.Solving.{PathAnswer, Along, joint_numbers, whole_records, solve_check, solve_path}
use Rattle.path.specs.Solving as Path
use Rattle.halving.specs.Halving.{Answer, Done, NoSpace}
use Rattle.middle.specs.declared.Item.{Item}
use Rattle.middle.specs.declared.Tolerances.{Tolerances}
use Rattle.turn.specs.Items.{items_in, space_in}
use Rattle.divide.specs.declared.DivisionError.{DivisionError}
use Rattle.divide.specs.Checking.{division_check}
use Rattle.machine.specs.Dividing.{division, divided_in, poses_over, joints_over, Divided}

-- ---- what a call that divides comes to: a refusal that keeps what is lent, one at a pose or after it that leaves +0.0
-- in both outputs, or what the halving comes to
pub data DivisionAnswer : Type 0 where
  Kept : Refusal → DivisionAnswer
  AtPose : Refusal → DivisionAnswer
  Cleared : Refusal → DivisionAnswer
  Halved : Answer Item → DivisionAnswer

-- what a call that divides answers: the number inserted, or why there is no path
abbrev pub Division : Type 0
Division = Result ℕ DivisionError

-- how a division ended, as what the call answers
abbrev pub ended : Divided → Division
ended (Ok n) = Ok n
ended (Err s) = Err (DivisionError.Stopped s)

abbrev pub division_in : DivisionAnswer → Division
division_in (Kept r) = Err (DivisionError.Refused r)
division_in (AtPose r) = Err (DivisionError.AtPose r)
division_in (Cleared r) = Err (DivisionError.Refused r)
division_in (Halved answer) = ended (divided_in answer)

-- the two lent outputs afterwards
unfoldable pub poses_left : DivisionAnswer → List Float → List Float
poses_left (Kept r) out = out
poses_left (AtPose r) out = replicate (length out) nought
poses_left (Cleared r) out = replicate (length out) nought
poses_left (Halved answer) out = poses_over answer out

unfoldable pub joints_left : DivisionAnswer → List Float → List Float
joints_left (Kept r) out = out
joints_left (AtPose r) out = replicate (length out) nought
joints_left (Cleared r) out = replicate (length out) nought
joints_left (Halved answer) out = joints_over answer out

-- ---- division
-- the given poses with their joint sets
abbrev pub given : List Float → List Float → List Item
given poses joints = items_in (length poses / 6) poses joints

-- space for fewer poses than given is none for the next, before any is inserted
unfoldable pub division_within : Prepared → Tolerances → ℕ → List Item → Answer Item
division_within p tol space g = cond (leb (length g) space) (division p tol space g) (NoSpace 0)

-- nothing is to be halved: there is no pose, or no space for those that are given; and what that comes to
unfoldable pub idle : ℕ → ℕ → Bool
idle space count = cond (eqb count 0) true (ltb space count)

unfoldable pub idle_answer : ℕ → ℕ → Answer Item
idle_answer space count = cond (leb count space) (Done 0 []) (NoSpace 0)

abbrev pub unless_kept : Checked → DivisionAnswer → DivisionAnswer
unless_kept (Ok _) answer = answer
unless_kept (Err r) answer = Kept r

unfoldable pub subdivide_path : Kinematics → Tolerances → (poses joints : List Float) → (roomPoses roomJoints : ℕ) → DivisionAnswer
subdivide_path k tol poses joints roomPoses roomJoints =
    unless_kept (division_check k tol poses joints roomPoses roomJoints)
    (Halved (division_within (prepared k) tol (space_in roomPoses roomJoints) (given poses joints)))

-- ---- the call of both: solve_path's refusals, then division's, and else what division gives for the given poses and
-- solve_path's joints. What keeps all in solve_path keeps all here; every other refusal leaves +0.0.
abbrev pub clearing : DivisionAnswer → DivisionAnswer
clearing (Kept r) = Cleared r
clearing (AtPose r) = AtPose r
clearing (Cleared r) = Cleared r
clearing (Halved answer) = Halved answer

abbrev pub after_solving : PathAnswer → (List Joints → DivisionAnswer) → DivisionAnswer
after_solving (Along l) divided = clearing (divided l)
after_solving (Path.AtPose r) divided = AtPose r
after_solving (Path.Kept r) divided = Kept r

-- every buffer has whole records
unfoldable pub three_whole : (poses roomPoses roomJoints : ℕ) → Bool
three_whole poses roomPoses roomJoints = whole_records poses roomJoints && whole_records roomPoses roomJoints

-- every buffer's records, then the checks of solve_path with as much space as division has
unfoldable pub both_check : Kinematics → Option Joints → Float → (numbers roomPoses roomJoints : ℕ) → Checked
both_check k start cone numbers roomPoses roomJoints =
    first_refusal
    (demand (three_whole numbers roomPoses roomJoints) Cause.LengthsDiffer 0
    ∷ solve_check k start cone numbers (space_in roomPoses roomJoints * 5)
    ∷ [])

-- the path solved with as much space as division has
unfoldable pub solved_path : Kinematics → List Float → Option Joints → Float → (roomPoses roomJoints : ℕ) → PathAnswer
solved_path k poses start cone roomPoses roomJoints =
    cond (three_whole (length poses) roomPoses roomJoints) (solve_path k poses start cone (space_in roomPoses roomJoints * 5)) (Path.Kept (refusal Cause.LengthsDiffer 0))

-- division of the joints at the front of a lent output
unfoldable pub found_in : Kinematics → Tolerances → List Float → (roomPoses : ℕ) → List Float → DivisionAnswer
found_in k tol poses roomPoses joints = clearing (subdivide_path k tol poses (take (length poses / 6 * 5) joints) roomPoses (length joints))

unfoldable pub solve_and_divide : Kinematics → List Float → Option Joints → Float → Tolerances → (roomPoses roomJoints : ℕ) → DivisionAnswer
solve_and_divide k poses start cone tol roomPoses roomJoints =
    after_solving (solved_path k poses start cone roomPoses roomJoints) (λ l. subdivide_path k tol poses (flat joint_numbers l) roomPoses roomJoints)
