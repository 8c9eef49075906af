-- What the entry of a path answers, from the bytes and numbers that it is lent: first 20, then 29, then the checks of
-- `path`.
use Rattle.std.specs.Prelude.{ℕ, Bool, true, not, cond, ◌&&◌, List, eqb, length, Float, Err, None, Ok, Option, Result, Some}
use Rattle.refusal.specs.declared.Refusal.{Refusal}
use Rattle.refusal.specs.Numbers.{refusal}
use Rattle.refusal.specs.declared.Cause.{Cause}
use Rattle.chain.specs.declared.Kinematics.{Kinematics}
use Rattle.chain.specs.declared.Joints.{Joints}
use Rattle.chain.specs.ChainBytes.{read_chain}
use Rattle.path.specs.Solving.{PathAnswer, Kept, whole_records, solve_path}
use Rattle.path.specs.Promise.{OnPath, Served}
use Rattle.maztubel.specs.Lent.{joints_in}

-- a start is no numbers, or five
unfoldable pub start_good : ℕ → Bool
start_good numbers = cond (eqb numbers 0) true (eqb numbers 5)

unfoldable pub lengths_good : ℕ → ℕ → ℕ → Bool
lengths_good poses joints start = whole_records poses joints && start_good start

unfoldable pub start_in : List Float → Option Joints
start_in start = cond (eqb (length start) 5) (Some (joints_in start)) None

abbrev pub solve_path_read : Result Kinematics Refusal → List Float → Option Joints → Float → ℕ → PathAnswer
solve_path_read (Err r) poses start cone room = Kept r
solve_path_read (Ok k) poses start cone room = solve_path k poses start cone room

-- `room` is how many numbers the lent joints have
unfoldable pub solve_path_of : List ℕ → List Float → List Float → Float → ℕ → PathAnswer
solve_path_of chain poses start cone room =
    cond (not (lengths_good (length poses) room (length start))) (Kept (refusal Cause.LengthsDiffer 0))
    (solve_path_read (read_chain chain) poses (start_in start) cone room)

-- every joint set of a path that is solved: finite, within its rotaries' limits and 36,000 degrees
abbrev pub Promised : Result Kinematics Refusal → PathAnswer → Type 0
Promised (Err r) answer = Unit {0}
Promised (Ok k) answer = OnPath (Served k) answer
