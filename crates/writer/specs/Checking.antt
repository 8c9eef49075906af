-- The writer's checks as one list, what it answers, what it leaves in the lent bytes, and what is promised of the job.
use Rattle.std.specs.Prelude.{◌≡◌, Bool, ◌&&◌, List, [], ◌∷◌, ◌++◌, ℕ, ◌+◌, ◌*◌, ◌%◌, eqb, leb, length, drop, Float, Err, Ok, Result}
use Rattle.std.specs.Float.Ieee.Scale.{finite}
use Rattle.lists.specs.Search.{all}
use Rattle.refusal.specs.declared.Refusal.{Refusal}
use Rattle.refusal.specs.declared.Cause.{Cause}
use Rattle.chain.specs.Checked.{Checked}
use Rattle.chain.specs.declared.Kinematics.{Kinematics}
use Rattle.chain.specs.Check.{demand, first_refusal, chain_check, chain_within}
use Rattle.chain.specs.ChainBytes.{length_of_chain}
use Rattle.path.specs.Solving.{cone_good, poses_in}
use Rattle.middle.specs.declared.Tolerances.{Tolerances}
use Rattle.divide.specs.Checking.{tolerance_good, tip_within}
use Rattle.job.specs.declared.Job.{Job}
use Rattle.job.specs.JobBytes.{read_job}
use Rattle.job.specs.JobPoses.{poses_of}
use Rattle.writer.specs.Writing.{record_of, job_bytes, job_of}

-- ---- sizes
-- how many bytes a job has, by its records, its rotaries and the numbers of its poses
unfoldable pub job_length : (w count numbers : ℕ) → ℕ
job_length w count numbers = length_of_chain w count + 8 * numbers + 40

abbrev pub length_of : Kinematics → List Float → ℕ
length_of k poses = job_length (record_of k) k.count (length poses)

-- the chain's sizes and the tips', and a job of at most 65,536 bytes. A pose's axis has no size.
unfoldable pub write_sizes : Kinematics → List Float → Bool
write_sizes k poses = chain_within k && all tip_within (poses_in poses) && leb (length_of k poses) 65536

-- ---- the list: the chain comes before the cone, and space last
unfoldable pub in_order : Kinematics → (whole cone chord axis finite sizes space : Bool) → Checked
in_order k whole cone chord axis finite sizes space =
    first_refusal
    (demand whole Cause.LengthsDiffer 0
    ∷ chain_check k
    ∷ demand cone Cause.Cone 0
    ∷ demand chord Cause.Tolerance 0
    ∷ demand axis Cause.Tolerance 0
    ∷ demand finite Cause.NotFinite 0
    ∷ demand sizes Cause.TooLarge 0
    ∷ demand space Cause.NoSpace 0
    ∷ [])

-- `room` is how many bytes are lent
unfoldable pub write_check : Kinematics → List Float → Float → Tolerances → (room : ℕ) → Checked
write_check k poses cone tol room =
    in_order k (eqb (length poses % 6) 0) (cone_good cone) (tolerance_good tol.chord) (tolerance_good tol.axis) (all finite poses) (write_sizes k poses)
    (leb (length_of k poses) room)

-- ---- what is answered, and what is left: a refusal keeps the lent bytes, and those behind a job stay
abbrev pub answer_after : Checked → ℕ → Result ℕ Refusal
answer_after (Ok _) n = Ok n
answer_after (Err r) n = Err r

unfoldable pub written_answer : Kinematics → List Float → Float → Tolerances → (room : ℕ) → Result ℕ Refusal
written_answer k poses cone tol room = answer_after (write_check k poses cone tol room) (length_of k poses)

abbrev pub bytes_after : Checked → (job out : List ℕ) → List ℕ
bytes_after (Ok _) job out = job ++ drop (length job) out
bytes_after (Err r) job out = out

unfoldable pub written_job : Kinematics → List Float → Float → Tolerances → (out : List ℕ) → List ℕ
written_job k poses cone tol out = bytes_after (write_check k poses cone tol (length out)) (job_bytes k poses cone tol) out

-- ---- what is promised
-- what the reader gets from a job that was written is what the writer was given
abbrev pub ReadBack : Kinematics → List Float → Float → Tolerances → (room : ℕ) → Type 0
ReadBack k poses cone tol room =
    write_check k poses cone tol room ≡ Ok tt
    → (read_job (job_bytes k poses cone tol) ≡ Ok (job_of k poses cone tol)) × (poses_of (job_bytes k poses cone tol) (job_of k poses cone tol) ≡ poses)

abbrev pub tolerances_of : Job → Tolerances
tolerances_of j = j.tol

-- what is read from a file is written again, to the bytes of the file
abbrev pub SameFile : Result Job Refusal → (file : List ℕ) → (room : ℕ) → Type 0
SameFile (Err r) file room = ⊥
SameFile (Ok j) file room =
    (write_check j.chain (poses_of file j) j.cone (tolerances_of j) room ≡ Ok tt)
    × (job_bytes j.chain (poses_of file j) j.cone (tolerances_of j) ≡ file)

-- of every file that the writer could have produced
abbrev pub Rewritten : Kinematics → List Float → Float → Tolerances → (room : ℕ) → Type 0
Rewritten k poses cone tol room =
    write_check k poses cone tol room ≡ Ok tt → SameFile (read_job (job_bytes k poses cone tol)) (job_bytes k poses cone tol) room
