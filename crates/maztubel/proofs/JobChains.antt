-- A job's chain, taken from the job by the numbers that are handed out, is read as the job's chain.
use mathlib.Core.Path.{◌≡◌, refl}
use mathlib.Core.List.{List}
use Prim.Native.Nat.{ℕ}
use Rattle.std.specs.Prelude.{Err, Ok, Result}
use Rattle.refusal.specs.declared.Refusal.{Refusal}
use Rattle.job.specs.declared.Job.{Job}
use Rattle.job.specs.JobBytes.{read_job}
use Rattle.job.proofs.JobChain.{one_chain}
use Rattle.maztubel.specs.JobEntries.{ChainPromise}

pub chain_promised : (job : List ℕ) → ChainPromise job (read_job job)
chain_promised job = by_read (read_job job) refl
  where
    by_read : (read : Result Job Refusal) → read_job job ≡ read → ChainPromise job read
    by_read (Err r) e = tt
    by_read (Ok j) e = one_chain job j e
