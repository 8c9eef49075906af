-- The cable number that is answered is the largest.
use Prim.Native.Nat.{ℕ, ◌%◌}
use mathlib.Core.Path.{◌≡◌, refl}
use mathlib.Core.Bool.{Bool, true, false, not, cond}
use mathlib.Core.List.{List}
use lib.Dec.{eqb}
use lib.Ieee.{Float}
use lib.ListN.{length}
use Rattle.std.specs.Prelude.{Err, Ok, Result}
use Rattle.refusal.specs.declared.Refusal.{Refusal}
use Rattle.refusal.specs.Numbers.{refusal}
use Rattle.refusal.specs.declared.Cause.{Cause}
use Rattle.chain.specs.declared.Kinematics.{Kinematics}
use Rattle.chain.specs.ChainBytes.{read_chain}
use Rattle.job.specs.Cable.{cable_number}
use Rattle.job.proofs.CableLaws.{cable_largest}
use Rattle.maztubel.specs.JobEntries.{cable_read, cable_of, CablePromise}

pub cable_promised : (chain : List ℕ) (joints : List Float) (rotary : ℕ) → CablePromise (read_chain chain) joints rotary (cable_of chain joints rotary)
unfolding cable_of
cable_promised chain joints rotary = by_read (eqb (length joints % 5) 0) (read_chain chain)
  where
    by_read : (whole : Bool) (read : Result Kinematics Refusal) → CablePromise read joints rotary (cond (not whole) (Err (refusal Cause.LengthsDiffer 0)) (cable_read read joints rotary))
    by_read false (Err r) = tt
    by_read false (Ok k) = tt
    by_read true (Err r) = tt
    by_read true (Ok k) = by_answer (cable_number k joints rotary) refl
      where
        by_answer : (a : Result ℕ Refusal) → cable_number k joints rotary ≡ a → CablePromise (Ok k) joints rotary a
        by_answer (Err r) e = tt
        by_answer (Ok n) e = cable_largest k joints rotary n e
