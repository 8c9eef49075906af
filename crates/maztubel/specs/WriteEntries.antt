-- What the entry that writes a job answers, from the bytes and numbers that it is lent: first 20, then 29, then the
-- checks of `writer`.
use Rattle.std.specs.Prelude.{ℕ, ◌%◌, not, cond, List, eqb, length, Float, Err, Ok, Result}
use Rattle.refusal.specs.declared.Refusal.{Refusal}
use Rattle.refusal.specs.Numbers.{refusal}
use Rattle.refusal.specs.declared.Cause.{Cause}
use Rattle.chain.specs.declared.Kinematics.{Kinematics}
use Rattle.chain.specs.ChainBytes.{read_chain}
use Rattle.middle.specs.declared.Tolerances.{Tolerances}
use Rattle.writer.specs.Checking.{written_answer, written_job, ReadBack, Rewritten}

-- ---- the answer; `room` is how many bytes are lent
abbrev pub write_read : Result Kinematics Refusal → List Float → Float → Tolerances → (room : ℕ) → Result ℕ Refusal
write_read (Err r) poses cone tol room = Err r
write_read (Ok k) poses cone tol room = written_answer k poses cone tol room

unfoldable pub write_of : List ℕ → List Float → Float → Tolerances → (room : ℕ) → Result ℕ Refusal
write_of chain poses cone tol room = cond (not (eqb (length poses % 6) 0)) (Err (refusal Cause.LengthsDiffer 0)) (write_read (read_chain chain) poses cone tol room)

-- 0 with a refusal: 28's count
abbrev pub length_in : Result ℕ Refusal → ℕ
length_in (Ok n) = n
length_in (Err r) = 0

-- ---- the lent bytes afterwards
abbrev pub job_read : Result Kinematics Refusal → List Float → Float → Tolerances → (out : List ℕ) → List ℕ
job_read (Err r) poses cone tol out = out
job_read (Ok k) poses cone tol out = written_job k poses cone tol out

unfoldable pub job_left : List ℕ → List Float → Float → Tolerances → (out : List ℕ) → List ℕ
job_left chain poses cone tol out = cond (not (eqb (length poses % 6) 0)) out (job_read (read_chain chain) poses cone tol out)

-- ---- what the reader gets from a job that was written is what was given, and is written again to the same bytes
abbrev pub WritePromise : Result Kinematics Refusal → List Float → Float → Tolerances → (room : ℕ) → Type 0
WritePromise (Err r) poses cone tol room = Unit {0}
WritePromise (Ok k) poses cone tol room = ReadBack k poses cone tol room × Rewritten k poses cone tol room
