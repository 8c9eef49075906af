-- The entry that writes a job, behind the bytes of its chain: each way out is what the definition says, and keeps the
-- promise.
use Prim.Native.Nat.{ℕ, ◌%◌}
use native.Mathlib.Omega.{arith}
use mathlib.Core.Path.{◌≡◌, sym, ◌∙◌}
use mathlib.Core.Bool.{true, false, false≢true}
use mathlib.Core.List.{List}
use borrow.Author.Tests.{eq-eqb}
use lib.ListN.{length}
use lib.Ieee.{Float}
use Rattle.std.specs.Prelude.{eqb, Err, Ok, Result}
use Rattle.refusal.specs.Numbers.{refusal}
use Rattle.refusal.specs.declared.Cause.{Cause}
use Rattle.refusal.specs.declared.Refusal.{Refusal}
use Rattle.chain.specs.declared.Kinematics.{Kinematics}
use Rattle.chain.specs.ChainBytes.{read_chain}
use Rattle.middle.specs.declared.Tolerances.{Tolerances}
use Rattle.writer.specs.Checking.{written_answer, written_job, ReadBack, Rewritten}
use Rattle.writer.proofs.Passing.{accepted}
use Rattle.maztubel.specs.WriteEntries.{write_of, job_left, WritePromise}

abbrev pub refused_by : Refusal → Result ℕ Refusal
refused_by r = Err r

-- broken records are never written
none_promised : (read : Result Kinematics Refusal) (poses : List Float) (cone : Float) (tol : Tolerances) (room : ℕ) → (length poses % 6 ≡ 0 → ⊥) → WritePromise read poses cone tol room
none_promised (Err r) poses cone tol room h = tt
none_promised (Ok k) poses cone tol room h =
    (λ e. let w = (accepted k poses cone tol room e).whole in absurd (h (omega (arith, w))), λ e. let w = (accepted k poses cone tol room e).whole in absurd (h (omega (arith, w))))

module _ (chain : List ℕ) (poses : List Float) (cone : Float) (tol : Tolerances) (o : List ℕ) where
  abbrev So : Result ℕ Refusal → List ℕ → Type 0
  So said out =
      (said ≡ write_of chain poses cone tol (length o)) × ((out ≡ job_left chain poses cone tol o) × WritePromise (read_chain chain) poses cone tol (length o))

  pub write_lengths : {said : Result ℕ Refusal} → eqb (length poses % 6) 0 ≡ false → said ≡ Err (refusal Cause.LengthsDiffer 0) → So said o
  unfolding write_of job_left
  write_lengths e s = (rw e s, (rw e, none_promised (read_chain chain) poses cone tol (length o) (λ h. absurd (false≢true (sym e ∙ eq-eqb _ _ h)))))

  pub write_bytes : {r : Refusal} → eqb (length poses % 6) 0 ≡ true → read_chain chain ≡ Err r → So (Err r) o
  unfolding write_of job_left
  write_bytes e f = (rw (e, f), (rw (e, f), rw f tt))

  pub write_chain : {k : Kinematics} {said : Result ℕ Refusal} {out : List ℕ} → eqb (length poses % 6) 0 ≡ true → read_chain chain ≡ Ok k
      → (said ≡ written_answer k poses cone tol (length o)) × ((out ≡ written_job k poses cone tol o) × (ReadBack k poses cone tol (length o) × Rewritten k poses cone tol (length o)))
      → So said out
  unfolding write_of job_left
  write_chain e f w = (rw (e, f) w.0, (rw (e, f) w.1.0, rw f w.1.1))
