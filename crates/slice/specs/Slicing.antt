-- So many turns of the machine that halves in lent outputs, one after another, as long as an item waits and none is
-- refused. Said of any outputs: what stands in them does not matter to the machine's numbers.
use Rattle.std.specs.Prelude.{ℕ, zero, suc, ◌-◌, ◌≤◌, ◌<◌, cond, List, leb, Float, Err, Ok}
use Rattle.chain.specs.declared.Prepared.{Prepared}
use Rattle.middle.specs.declared.Tolerances.{Tolerances}
use Rattle.turn.specs.declared.Machine.{Machine}
use Rattle.turn.specs.Turning.{most, Turn, turn, poses_after, joints_after}

-- what the turns come to: the machine or why it stops, and the two outputs
pub record Slice : Type 0 where
  pub turn : Turn
  pub poses : List Float
  pub joints : List Float

abbrev pub stopped : Turn → List Float → List Float → Slice
stopped t poses joints = record { turn = t; poses = poses; joints = joints }

-- after one turn the rest, or the end where it is refused
abbrev pub going_on : (Machine → List Float → List Float → Slice) → Turn → List Float → List Float → Slice
going_on rest (Ok next) poses joints = rest next poses joints
going_on rest (Err s) poses joints = stopped (Err s) poses joints

unfoldable pub sliced : ℕ → Prepared → Tolerances → ℕ → Machine → List Float → List Float → Slice
sliced zero p tol space m poses joints = stopped (Ok m) poses joints
sliced (suc n) p tol space m poses joints =
    cond (leb space m.waiting) (stopped (Ok m) poses joints)
    (going_on (sliced n p tol space) (turn p tol space m poses joints) (poses_after p tol space m poses joints) (joints_after p tol space m poses joints))

-- the numbers of a machine in outputs with space for so many items
pub record Counts (space : ℕ) (m : Machine) : Type 0 where
  pub some_placed : m.waiting < space → 0 < m.placed
  pub apart : m.placed ≤ m.waiting
  pub waits : m.waiting ≤ space
  pub given_last : m.given ≤ space - m.waiting
  pub few : m.inserted ≤ most
