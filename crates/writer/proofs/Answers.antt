-- Laws of what the writer answers, leaves and promises.
use Prim.Native.Nat.{ℕ, ◌≤◌}
use native.Mathlib.Omega.{arith}
use mathlib.Core.Path.{◌≡◌, refl, sym, ap, ◌∙◌}
use mathlib.Core.Bool.{true}
use mathlib.Core.List.{List}
use lib.Dec.{T}
use lib.ListN.{length}
use lib.Ieee.{Float, binary64, fits}
use Rattle.std.specs.Prelude.{Err, Ok}
use Rattle.refusal.specs.declared.Refusal.{Refusal}
use Rattle.chain.specs.declared.Kinematics.{Kinematics}
use Rattle.chain.specs.Check.{one_or_two}
use Rattle.middle.specs.declared.Tolerances.{Tolerances}
use Rattle.divide.specs.Checking.{FitUpTo}
use Rattle.job.specs.Spelling.{written}
use Rattle.writer.specs.Writing.{record_of, chain_bytes, job_bytes, job_of}
use Rattle.writer.specs.Checking.{job_length, length_of, write_check, written_job, written_answer, ReadBack, Rewritten}
use Rattle.chain.specs.Doubles.{ChainFits}
use Rattle.writer.proofs.Parts.{record_width}
use Rattle.writer.proofs.Reading.{chain_length, length_of_job, read_back, poses_back}
use Rattle.writer.proofs.Passing.{accepted}
use Rattle.writer.proofs.Rewriting.{same_file}
use Rattle.writer.proofs.Texts.{front}

module _ (k : Kinematics) (poses : List Float) (cone : Float) (tol : Tolerances) where
  pub may_put : (room : ℕ) → write_check k poses cone tol room ≡ Ok tt → (one_or_two k.count ≡ true) × (length_of k poses ≤ room)
  may_put room e = let a = accepted k poses cone tol room e in (a.lettered.counted, a.fits)

  pub refused_all : (out : List ℕ) (r : Refusal) → write_check k poses cone tol (length out) ≡ Err r
      → (Err r ≡ written_answer k poses cone tol (length out)) × (out ≡ written_job k poses cone tol out)
  unfolding written_answer written_job
  refused_all out r e = rw e (refl, refl)

  long : (room : ℕ) → write_check k poses cone tol room ≡ Ok tt → length (job_bytes k poses cone tol) ≡ length_of k poses
  unfolding job_length
  long room e = let a = accepted k poses cone tol room e in length_of_job k poses cone tol a.lettered.counted

  pub written_all : (out out' : List ℕ) (n : ℕ) → write_check k poses cone tol (length out) ≡ Ok tt → (n ≡ length_of k poses) × (out' ≡ written out 0 (job_bytes k poses cone tol))
      → (Ok n ≡ written_answer k poses cone tol (length out)) × (out' ≡ written_job k poses cone tol out)
  unfolding written_answer written_job
  written_all out out' n e p =
      let l = long (length out) e in
      let m = (accepted k poses cone tol (length out) e).fits in
      rw e (ap Ok p.0, p.1 ∙ front (job_bytes k poses cone tol) out (omega (arith, l, m)))

  -- what is promised, of numbers that fit
  module _ (room : ℕ) (fit-chain : ChainFits k) (fit-poses : write_check k poses cone tol room ≡ Ok tt → FitUpTo (length poses) poses)
      (fit-cone : T (fits binary64 cone)) (fit-chord : T (fits binary64 tol.chord)) (fit-axis : T (fits binary64 tol.axis)) where
    pub reads : ReadBack k poses cone tol room
    unfolding job_length
    reads = λ e.
        let a = accepted k poses cone tol room e in
        let l = a.lettered in (
          read_back k poses cone tol l.counted a.whole a.short fit-chain (fit-poses e) fit-cone fit-chord fit-axis l.first l.second,
          poses_back k poses cone tol l.counted a.whole a.short fit-chain (fit-poses e) fit-cone fit-chord fit-axis l.first l.second,
        )

    pub rewrites : Rewritten k poses cone tol room
    rewrites = λ e. let r = reads e in same_file k poses cone tol room e r.0 r.1

  -- the poses start where the chain ends, also where there are none
  pub poses_behind_chain : one_or_two k.count ≡ true → (job_of k poses cone tol).poses_at ≡ length (chain_bytes (record_of k) k)
  unfolding job_of
  poses_behind_chain h = sym (chain_length (record_of k) (record_width k) k h)
