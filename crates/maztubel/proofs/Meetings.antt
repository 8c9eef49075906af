-- The promise of `links_meet`, behind the bytes of a chain.
use Prim.Native.Nat.{ℕ, ◌%◌}
use mathlib.Core.Path.{◌≡◌, refl}
use mathlib.Core.Bool.{Bool, true, false, not, cond}
use mathlib.Core.List.{List}
use lib.Dec.{eqb}
use lib.Ieee.{Float}
use lib.ListN.{length}
use Rattle.std.specs.Prelude.{Err, Ok, Result}
use Rattle.refusal.specs.declared.Refusal.{Refusal}
use Rattle.refusal.specs.Numbers.{refusal}
use Rattle.refusal.specs.declared.Cause.{Cause}
use Rattle.chain.specs.declared.Kinematics.{Kinematics}
use Rattle.chain.specs.ChainBytes.{read_chain}
use Rattle.meet.specs.Checking.{meeting_check}
use Rattle.meet.proofs.Promises.{answered}
use Rattle.maztubel.specs.MeetEntries.{meet_read, meet_of, MeetPromise}

-- 20 is the first of the checks, too
broken : (name : List ℕ) (k : Kinematics) (model : List ℕ) (joints : List Float) → eqb (length joints % 5) 0 ≡ false → meeting_check name k model joints ≡ Err (refusal Cause.LengthsDiffer 0)
unfolding meeting_check
broken name k model joints e = rw e

pub meet_promised : (name chain model : List ℕ) (joints : List Float) → MeetPromise (read_chain chain) name model joints (meet_of name chain model joints)
unfolding meet_of
meet_promised name chain model joints = by_read (eqb (length joints % 5) 0) refl (read_chain chain)
  where
    by_read : (whole : Bool) → eqb (length joints % 5) 0 ≡ whole → (read : Result Kinematics Refusal)
        → MeetPromise read name model joints (cond (not whole) (Err (refusal Cause.LengthsDiffer 0)) (meet_read read name model joints))
    by_read whole e (Err r) = tt
    by_read false e (Ok k) = broken name k model joints e
    by_read true e (Ok k) = answered name k model joints
