-- The poses of a job in lent numbers, six for each: 20 where the output has no whole records, then the reader's
-- refusals, then 28. A refusal keeps the output; after success what is left of it is +0.0.
use Rattle.std.specs.Prelude.{ℕ, zero, suc, ◌+◌, ◌*◌, ◌%◌, List, [], ◌∷◌, length, ◌==◌, nat_le, Float, Err, Ok, Result}
use Rattle.lists.specs.Padding.{padded}
use Rattle.float.specs.Helpers.{nought}
use Rattle.refusal.specs.declared.Refusal.{Refusal}
use Rattle.refusal.specs.declared.Cause.{Cause}
use Rattle.chain.specs.Checked.{Checked}
use Rattle.chain.specs.Bytes.{number_at}
use Rattle.chain.specs.Check.{demand, first_refusal}
use Rattle.job.specs.JobBytes.{read_job}
use Rattle.job.specs.declared.Job.{Job}

-- n numbers of 8 bytes, one behind the other
unfoldable pub numbers_at : ℕ → List ℕ → ℕ → List Float
numbers_at zero bytes at = []
numbers_at (suc n) bytes at = number_at bytes at ∷ numbers_at n bytes (at + 8)

unfoldable pub poses_of : List ℕ → Job → List Float
poses_of bytes j = numbers_at (6 * j.poses) bytes j.poses_at

-- `n` is how many numbers the output has
unfoldable pub room : Job → ℕ → Checked
room j n = demand (nat_le (6 * j.poses) n) Cause.NoSpace 0

abbrev pub room_in : Result Job Refusal → ℕ → Checked
room_in (Ok j) n = room j n
room_in (Err r) n = Err r

unfoldable pub poses_check : Result Job Refusal → ℕ → Checked
poses_check read n = first_refusal (demand (n % 6 == 0) Cause.LengthsDiffer 0 ∷ room_in read n ∷ [])

abbrev pub poses_in : List ℕ → Result Job Refusal → List Float
poses_in bytes (Ok j) = poses_of bytes j
poses_in bytes (Err r) = []

abbrev pub lent_after : Checked → List Float → List Float → List Float
lent_after (Ok _) numbers out = padded (length out) nought numbers
lent_after (Err r) numbers out = out

-- ---- the entry
unfoldable pub job_poses : List ℕ → List Float → List Float
job_poses bytes out = lent_after (poses_check (read_job bytes) (length out)) (poses_in bytes (read_job bytes)) out
