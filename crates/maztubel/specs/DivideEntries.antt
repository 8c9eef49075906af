-- What the entries that divide answer, from the bytes and numbers that they are lent: first 20, then 29, then the
-- checks of `divide`. The strict division is the old one's definition under strict tolerances.
use Rattle.std.specs.Prelude.{ℕ, ◌≡◌, ◌↔◌, Bool, true, false, not, cond, ◌&&◌, List, length, Float, Err, Ok, Option, Result}
use Rattle.turn.specs.declared.Stop.{Stop}
use Rattle.turn.specs.Stops.{cause_of, inserted_before}
use Rattle.refusal.specs.declared.Refusal.{Refusal}
use Rattle.refusal.specs.Numbers.{refusal, served, number_of}
use Rattle.refusal.specs.declared.Cause.{Cause}
use Rattle.chain.specs.declared.Kinematics.{Kinematics}
use Rattle.chain.specs.declared.Joints.{Joints}
use Rattle.chain.specs.ChainBytes.{read_chain}
use Rattle.middle.specs.declared.Tolerances.{Tolerances}
use Rattle.divide.specs.declared.DivisionError.{DivisionError}
use Rattle.divide.specs.Checking.{four_whole}
use Rattle.divide.specs.Subdividing.{DivisionAnswer, Kept, subdivide_path, three_whole, solve_and_divide, Division}
use Rattle.divide.specs.Looser.{Later}
use Rattle.divide.specs.Price.{IfSolved, SolvedAndDivided}
use Rattle.maztubel.specs.PathEntries.{start_good, start_in}

-- ---- an answer's number, its place and letter, and how many poses were inserted: at 27 and 28 the count so far
abbrev pub stop_number : Stop → ℕ
stop_number s = number_of (cause_of s)

abbrev pub stop_count : Stop → ℕ
stop_count s = inserted_before s

abbrev pub division_number : Division → ℕ
division_number (Ok n) = served
division_number (Err (DivisionError.Refused r)) = number_of r.cause
division_number (Err (DivisionError.AtPose r)) = number_of r.cause
division_number (Err (DivisionError.Stopped s)) = stop_number s

abbrev pub inserted_in : Division → ℕ
inserted_in (Ok n) = n
inserted_in (Err (DivisionError.Refused r)) = 0
inserted_in (Err (DivisionError.AtPose r)) = 0
inserted_in (Err (DivisionError.Stopped s)) = stop_count s

abbrev pub division_place : Division → ℕ
division_place (Ok n) = 0
division_place (Err (DivisionError.Refused r)) = r.at
division_place (Err (DivisionError.AtPose r)) = r.at
division_place (Err (DivisionError.Stopped s)) = 0

abbrev pub division_letter : Division → ℕ
division_letter (Ok n) = 0
division_letter (Err (DivisionError.Refused r)) = r.letter
division_letter (Err (DivisionError.AtPose r)) = r.letter
division_letter (Err (DivisionError.Stopped s)) = 0

-- the number that is returned is 0 exactly where the path is divided, and 27 exactly where it needs a 10,001st pose
pub record Says (number : ℕ) (answer : Division) : Type 0 where
  pub done : (number ≡ served) ↔ ((n : ℕ) × (answer ≡ Ok n))
  pub many : (number ≡ number_of Cause.TooManyInsertions) ↔ ((n : ℕ) × (answer ≡ Err (DivisionError.Stopped (Stop.TooMany n))))

abbrev pub lengths_refused : Division
lengths_refused = Err (DivisionError.Refused (refusal Cause.LengthsDiffer 0))

-- ---- division; `roomPoses` and `roomJoints` are how many numbers the lent outputs have
abbrev pub subdivide_read : Result Kinematics Refusal → Tolerances → (poses joints : List Float) → (roomPoses roomJoints : ℕ) → DivisionAnswer
subdivide_read (Err r) tol poses joints roomPoses roomJoints = Kept r
subdivide_read (Ok k) tol poses joints roomPoses roomJoints = subdivide_path k tol poses joints roomPoses roomJoints

unfoldable pub subdivide_of : List ℕ → Tolerances → (poses joints : List Float) → (roomPoses roomJoints : ℕ) → DivisionAnswer
subdivide_of chain tol poses joints roomPoses roomJoints =
    cond (not (four_whole (length poses) (length joints) roomPoses roomJoints)) (Kept (refusal Cause.LengthsDiffer 0))
    (subdivide_read (read_chain chain) tol poses joints roomPoses roomJoints)

-- demand 3, of joints that `solve_path` gives for this chain and these poses; and what R-12 says of looser tolerances
-- and of a second division, of any joints
abbrev pub SubdividePromise : Result Kinematics Refusal → Tolerances → (lent solved : List Float) → (roomPoses roomJoints : ℕ) → Division → (poses joints : List Float) → Type 0
SubdividePromise (Err r) tol lent solved roomPoses roomJoints answer poses joints = Unit {0}
SubdividePromise (Ok k) tol lent solved roomPoses roomJoints answer poses joints =
    IfSolved k tol lent solved roomPoses roomJoints answer poses joints × Later k tol lent solved roomPoses roomJoints answer poses joints

-- ---- the call of both
unfoldable pub both_lengths : (poses start roomPoses roomJoints : ℕ) → Bool
both_lengths poses start roomPoses roomJoints = three_whole poses roomPoses roomJoints && start_good start

abbrev pub both_read : Result Kinematics Refusal → List Float → Option Joints → Float → Tolerances → (roomPoses roomJoints : ℕ) → DivisionAnswer
both_read (Err r) poses start cone tol roomPoses roomJoints = Kept r
both_read (Ok k) poses start cone tol roomPoses roomJoints = solve_and_divide k poses start cone tol roomPoses roomJoints

unfoldable pub both_of : List ℕ → (poses start : List Float) → Float → Tolerances → (roomPoses roomJoints : ℕ) → DivisionAnswer
both_of chain poses start cone tol roomPoses roomJoints =
    cond (not (both_lengths (length poses) (length start) roomPoses roomJoints)) (Kept (refusal Cause.LengthsDiffer 0))
    (both_read (read_chain chain) poses (start_in start) cone tol roomPoses roomJoints)

-- demand 3 and R-12, and on every refusal what the outputs hold; of lengths that are refused `both_of` says it
abbrev pub BothPromise : Bool → Result Kinematics Refusal → List Float → Option Joints → Float → Tolerances → Division → (poses₀ joints₀ poses joints : List Float) → Type 0
BothPromise false read lent start cone tol answer poses₀ joints₀ poses joints = Unit {0}
BothPromise true (Err r) lent start cone tol answer poses₀ joints₀ poses joints = Unit {0}
BothPromise true (Ok k) lent start cone tol answer poses₀ joints₀ poses joints = SolvedAndDivided k lent start cone tol answer poses₀ joints₀ poses joints
