-- What the program writes for the bytes that it reads, as one text: `post`. Space is for 700 poses, and the path is
-- solved from angles zero.
-- `NeverRefused`: a path that division served is never refused afterwards.
use Rattle.std.specs.Prelude.{ℕ, ◌≡◌, List, [], map, Float, Err, None, Ok, Result}
use Rattle.turn.specs.Stops.{cause_of}
use Rattle.lists.specs.Rows.{flat}
use Rattle.refusal.specs.declared.Refusal.{Refusal}
use Rattle.refusal.specs.Numbers.{refusal}
use Rattle.refusal.specs.declared.Cause.{Cause}
use Rattle.chain.specs.declared.Joints.{Joints}
use Rattle.chain.specs.declared.Kinematics.{Kinematics}
use Rattle.path.specs.Solving.{joint_numbers}
use Rattle.halving.specs.Halving.{Done, items}
use Rattle.middle.specs.declared.Item.{Item}
use Rattle.divide.specs.declared.DivisionError.{DivisionError}
use Rattle.divide.specs.Subdividing.{DivisionAnswer, Kept, AtPose, Cleared, Halved, division_in, solve_and_divide, Division}
use Rattle.job.specs.declared.JobError.{JobError}
use Rattle.job.specs.declared.Job.{Job}
use Rattle.job.specs.JobBytes.{read_job}
use Rattle.job.specs.JobPoses.{poses_of}
use Rattle.job.specs.Cable.{cable_number}
use Rattle.job.specs.Telling.{Ended, text_of}

-- ---- how a job ended
-- both cable numbers; a refusal of one is the job's
abbrev pub figured : ℕ → Result ℕ Refusal → Result ℕ Refusal → Ended
figured inserted (Err r) second = Err (JobError.Refused r)
figured inserted (Ok a) (Err r) = Err (JobError.Refused r)
figured inserted (Ok a) (Ok b) = Ok (record { inserted = inserted; first = a; second = b })

unfoldable pub wound : Kinematics → ℕ → List Float → Ended
wound k inserted path = figured inserted (cable_number k path 0) (cable_number k path 1)

abbrev pub without_path : Cause → Ended
without_path cause = Err (JobError.Refused (refusal cause 0))

-- 27 and 28 name no pose, and no count is printed
abbrev pub ended_by : Kinematics → Division → List Float → Ended
ended_by k (Err (DivisionError.Refused r)) path = Err (JobError.Refused r)
ended_by k (Err (DivisionError.AtPose r)) path = Err (JobError.AtPose r)
ended_by k (Ok n) path = wound k n path
ended_by k (Err (DivisionError.Stopped s)) path = without_path (cause_of s)

-- ---- its path, in a space of 4,200 numbers of poses and 3,500 of joints
unfoldable pub path_of : List ℕ → Job → DivisionAnswer
path_of bytes j = solve_and_divide j.chain (poses_of bytes j) None j.cone j.tol 4200 3500

-- none where it is refused
abbrev pub joints_of : DivisionAnswer → List Joints
joints_of (Kept r) = []
joints_of (AtPose r) = []
joints_of (Cleared r) = []
joints_of (Halved answer) = map (λ (t : Item). t.joints) (items answer)

unfoldable pub path_text : Kinematics → DivisionAnswer → List ℕ
path_text k answer = text_of (ended_by k (division_in answer) (flat joint_numbers (joints_of answer))) (joints_of answer)

-- ---- the answer
abbrev pub post_read : List ℕ → Result Job Refusal → List ℕ
post_read bytes (Ok j) = path_text j.chain (path_of bytes j)
post_read bytes (Err r) = text_of (Err (JobError.Refused r)) []

unfoldable pub post : List ℕ → List ℕ
post bytes = post_read bytes (read_job bytes)

-- ---- a path that division served is never refused
-- its cable numbers are answered, of every rotary
pub record Cabled (k : Kinematics) (answer : DivisionAnswer) : Type 0 where
  pub turns : (n : ℕ) (l : List Item) → answer ≡ Halved (Done n l) → (rotary : ℕ)
      → (t : ℕ) × (cable_number k (flat joint_numbers (map (λ (i : Item). i.joints) l)) rotary ≡ Ok t)

-- so what is written is the path, with the count of division and both cable numbers
pub record NeverRefused (bytes : List ℕ) : Type 0 where
  pub told : (j : Job) (n : ℕ) (l : List Item) → read_job bytes ≡ Ok j → path_of bytes j ≡ Halved (Done n l)
      → (first : ℕ) × ((second : ℕ)
      × (post bytes ≡ text_of (Ok (record { inserted = n; first = first; second = second })) (map (λ (i : Item). i.joints) l)))
