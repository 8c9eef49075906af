-- Admission: its checks in order, the entry that a path begins with, and what its outputs then hold.
use Rattle.std.specs.Prelude.{ℕ, ◌+◌, ◌-◌, ◌*◌, ◌/◌, ◌≡◌, Bool, true, false, cond, List, [], ◌∷◌, ◌++◌, eqb, leb, ltb, length, set, take, drop, replicate, Float, Err, Ok, Result}
use Rattle.float.specs.Helpers.{nought}
use Rattle.refusal.specs.declared.Cause.{Cause}
use Rattle.refusal.specs.declared.Refusal.{Refusal}
use Rattle.refusal.specs.Numbers.{refusal, number_of}
use Rattle.geometry.specs.declared.Vec3.{Vec3}
use Rattle.geometry.specs.Vector.{vector}
use Rattle.chain.specs.Checked.{Checked}
use Rattle.chain.specs.declared.Kinematics.{Kinematics}
use Rattle.chain.specs.declared.Prepared.{Prepared}
use Rattle.chain.specs.Check.{demand, first_refusal}
use Rattle.chain.specs.Prepared.{prepared}
use Rattle.middle.specs.declared.Tolerances.{Tolerances}
use Rattle.turn.specs.Items.{items_in}
use Rattle.turn.specs.Turning.{axis_at}
use Rattle.turn.specs.declared.Machine.{Machine}
use Rattle.machine.specs.Dividing.{Ready, halved_from, division}
use Rattle.divide.specs.Checking.{division_check}
use Rattle.queue.specs.Queue as Queue
use Rattle.queue.specs.Queue.{Waiting}
use Rattle.storing.specs.Storing.{stored_at}
use Rattle.cell.specs.declared.Entry.{Entry}
use Rattle.cell.specs.Coding.{words_of, numbers_of}
use Rattle.cell.specs.State.{count_in, state_long, Buffers, buffers, space_of, tolerances}
use Rattle.cell.specs.Asking.{free_in}

-- ---- what a path is admitted with
pub record Inputs : Type 0 where
  pub chain : Kinematics
  pub chord : Float
  pub axis : Float
  pub poses : List Float
  pub joints : List Float

abbrev pub inputs : Kinematics → Float → Float → List Float → List Float → Inputs
inputs chain chord axis poses joints = record { chain = chain; chord = chord; axis = axis; poses = poses; joints = joints }

abbrev pub given_count : Inputs → ℕ
given_count i = length i.poses / 6

-- ---- the checks, in order
-- "Division's checks before its first test come at admission"
abbrev pub division_checks : Inputs → (roomPoses roomJoints : ℕ) → Checked
division_checks i = division_check i.chain (tolerances i.chord i.axis) i.poses i.joints

-- "A 17th path is 32 .. before any other check, 20 too": a state of another length says nothing of paths, so that its
-- 20 comes first
unfoldable pub state_check : List ℕ → List Float → Checked
state_check words numbers =
    first_refusal
    (demand (state_long words numbers) Cause.LengthsDiffer 0
    ∷ demand (ltb (count_in words) 16) Cause.QueueFull 0
    ∷ [])

unfoldable pub admit_check : List ℕ → List Float → Inputs → (roomPoses roomJoints : ℕ) → Checked
admit_check words numbers i roomPoses roomJoints =
    first_refusal
    (state_check words numbers
    ∷ division_checks i roomPoses roomJoints
    ∷ [])

-- ---- the machine that a path begins with
-- the axis that the second joint set reaches, or the first one's where there is no second
unfoldable pub second_axis : Prepared → ℕ → Vec3 → List Float → Vec3
second_axis p count first solved = cond (leb count 1) first (axis_at p solved 1)

-- the first given item is placed, and the others wait at the end of `space`
unfoldable pub first_machine : Prepared → (space count : ℕ) → List Float → Machine
first_machine p space count solved = record {
  placed = 1;
  waiting = space - count + 1;
  inserted = 0;
  given = count - 1;
  left_axis = axis_at p solved 0;
  end_axis = second_axis p count (axis_at p solved 0) solved;
}

-- without a pose nothing is placed and nothing waits
unfoldable pub idle_machine : ℕ → Machine
idle_machine space = record {
  placed = 0;
  waiting = space;
  inserted = 0;
  given = 0;
  left_axis = vector nought nought nought;
  end_axis = vector nought nought nought;
}

unfoldable pub machine_on : Prepared → (space count : ℕ) → List Float → Machine
machine_on p space count solved = cond (eqb count 0) (idle_machine space) (first_machine p space count solved)

unfoldable pub first_entry : Inputs → Buffers → Entry
first_entry i b = record {
  room_poses = length b.poses;
  room_joints = length b.joints;
  chain = prepared i.chain;
  chord = i.chord;
  axis = i.axis;
  machine = machine_on (prepared i.chain) (space_of b) (given_count i) i.joints;
}

-- ---- the outputs that it begins with
-- records of w numbers: the first at the front, and the others from the place `at` on; between stays what was lent
unfoldable pub placed_run : List Float → (w : ℕ) → List Float → (at : ℕ) → List Float
placed_run from w out at = stored_at (stored_at out 0 (take w from)) at (drop w from)

-- at the end of `space`
unfoldable pub placed_in : (w : ℕ) → List Float → (space count : ℕ) → List Float → List Float
placed_in w from space count out = cond (eqb count 0) out (placed_run from w out ((space - count + 1) * w))

abbrev pub placed : Inputs → Buffers → Buffers
placed i b = buffers (placed_in 6 i.poses (space_of b) (given_count i) b.poses) (placed_in 5 i.joints (space_of b) (given_count i) b.joints)

abbrev pub cleared : Buffers → Buffers
cleared b = buffers (replicate (length b.poses) nought) (replicate (length b.joints) nought)

-- ---- what admission comes to: a refusal that keeps all, 28, or the path's number
pub data Admission : Type 0 where
  Kept : Refusal → Admission
  NoSpace : Admission
  Admitted : ℕ → Admission

abbrev pub admitted_in : Admission → Result ℕ Refusal
admitted_in (Kept r) = Err r
admitted_in NoSpace = Err (refusal Cause.NoSpace 0)
admitted_in (Admitted k) = Ok k

abbrev pub unless_kept : Checked → Admission → Admission
unless_kept (Ok _) answer = answer
unless_kept (Err r) answer = Kept r

unfoldable pub admit_answer : List ℕ → List Float → Inputs → Buffers → Admission
admit_answer words numbers i b =
    unless_kept (admit_check words numbers i (length b.poses) (length b.joints)) (cond (leb (given_count i) (space_of b)) (Admitted (free_in (count_in words) words)) NoSpace)

-- ---- what it leaves
-- one more waits, behind the others
unfoldable pub joined_words : List ℕ → ℕ → Entry → List ℕ
joined_words words k e = stored_at (set words 144 (count_in words + 1)) (count_in words * 9) (words_of k e)

unfoldable pub joined_numbers : List ℕ → List Float → Entry → List Float
joined_numbers words numbers e = stored_at numbers (count_in words * 23) (numbers_of e)

abbrev pub words_after : Admission → List ℕ → Inputs → Buffers → List ℕ
words_after (Kept r) words i b = words
words_after NoSpace words i b = words
words_after (Admitted k) words i b = joined_words words k (first_entry i b)

abbrev pub numbers_after : Admission → List ℕ → List Float → Inputs → Buffers → List Float
numbers_after (Kept r) words numbers i b = numbers
numbers_after NoSpace words numbers i b = numbers
numbers_after (Admitted k) words numbers i b = joined_numbers words numbers (first_entry i b)

-- "28 clears its outputs"
abbrev pub outputs_after : Admission → Inputs → Buffers → Buffers
outputs_after (Kept r) i b = b
outputs_after NoSpace i b = cleared b
outputs_after (Admitted k) i b = placed i b

-- ---- the same of the paths that wait: 28 takes no number
abbrev pub entering : Checked → Bool → Entry → Queue.Entering Entry
entering (Err r) room e = Queue.Refused (number_of r.cause)
entering (Ok _) true e = Queue.Entered e
entering (Ok _) false e = Queue.Refused (number_of Cause.NoSpace)

unfoldable pub enter : Inputs → Buffers → Queue.Entering Entry
enter i b = entering (division_checks i (length b.poses) (length b.joints)) (leb (given_count i) (space_of b)) (first_entry i b)

abbrev pub joined : List (Waiting Entry) → ℕ → Entry → List (Waiting Entry)
joined l k e = l ++ (record { number = k; path = e } ∷ [])

-- with any tolerances the machine is ready, and what it halves is the given path
pub record Begun (p : Prepared) (space count : ℕ) (given solved : List Float) (m : Machine) (poses joints : List Float) : Type 0 where
  pub ready : (tol : Tolerances) → Ready p tol space m poses joints
  pub same : (tol : Tolerances) → halved_from p tol space m poses joints ≡ division p tol space (items_in count given solved)
