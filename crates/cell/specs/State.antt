-- The dispatcher's state in 145 lent words and 368 lent numbers, all zero where no path waits: nine words and 23
-- numbers for each path, in the order of waiting, and last how many wait. And a path's lent outputs.
use Rattle.std.specs.Prelude.{ℕ, Bool, false, ◌&&◌, List, eqb, leb, length, get_or, Float}
use Rattle.middle.specs.declared.Tolerances.{Tolerances}
use Rattle.turn.specs.Items.{space_in}
use Rattle.queue.specs.Queue.{Waiting}
use Rattle.cell.specs.declared.Entry.{Entry}
use Rattle.cell.specs.Coding.{entries}

unfoldable pub count_in : List ℕ → ℕ
count_in words = get_or words 144 0

-- the paths that wait, in the order of waiting
unfoldable pub queue_in : List ℕ → List Float → List (Waiting Entry)
queue_in words numbers = entries (count_in words) words numbers

-- both have their lengths
unfoldable pub state_long : List ℕ → List Float → Bool
state_long words numbers = eqb (length words) 145 && eqb (length numbers) 368

-- and at most 16 wait
unfoldable pub state_good : List ℕ → List Float → Bool
state_good words numbers = state_long words numbers && leb (count_in words) 16

-- ---- a path's outputs
pub record Buffers : Type 0 where
  pub poses : List Float
  pub joints : List Float

abbrev pub buffers : List Float → List Float → Buffers
buffers poses joints = record { poses = poses; joints = joints }

abbrev pub space_of : Buffers → ℕ
space_of b = space_in (length b.poses) (length b.joints)

-- ---- a path's tolerances: the test at the middle alone
abbrev pub tolerances : (chord axis : Float) → Tolerances
tolerances chord axis = record { chord = chord; axis = axis; strict = false }

abbrev pub tol_of : Entry → Tolerances
tol_of e = tolerances e.chord e.axis
