-- The promise of a path's joints, behind the bytes of its chain.
use Prim.Native.Nat.{ℕ}
use mathlib.Core.Bool.{Bool, true, false, not, cond}
use mathlib.Core.List.{List}
use lib.ListN.{length}
use lib.Ieee.{Float}
use Rattle.std.specs.Prelude.{Err, Ok, Option, Result}
use Rattle.refusal.specs.declared.Refusal.{Refusal}
use Rattle.refusal.specs.Numbers.{refusal}
use Rattle.refusal.specs.declared.Cause.{Cause}
use Rattle.chain.specs.declared.Kinematics.{Kinematics}
use Rattle.chain.specs.declared.Joints.{Joints}
use Rattle.chain.specs.ChainBytes.{read_chain}
use Rattle.path.specs.Solving.{Kept}
use Rattle.path.proofs.Promises.{path_served}
use Rattle.maztubel.specs.PathEntries.{lengths_good, start_in, solve_path_read, solve_path_of, Promised}

read_promised : (read : Result Kinematics Refusal) (bad : Bool) (poses : List Float) (start : Option Joints) (cone : Float) (room : ℕ)
    → Promised read (cond bad (Kept (refusal Cause.LengthsDiffer 0)) (solve_path_read read poses start cone room))
read_promised (Err r) bad poses start cone room = tt
read_promised (Ok k) true poses start cone room = tt
read_promised (Ok k) false poses start cone room = path_served k poses start cone room

pub promised : (chain : List ℕ) (poses start : List Float) (cone : Float) (room : ℕ) → Promised (read_chain chain) (solve_path_of chain poses start cone room)
unfolding solve_path_of
promised chain poses start cone room = read_promised (read_chain chain) (not (lengths_good (length poses) room (length start))) poses (start_in start) cone room
