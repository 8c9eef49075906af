-- The place of a path among those that wait, and what a call that does not serve it leaves of it.
use Prim.Native.Nat.{ℕ, ◌+◌}
use mathlib.Core.Path.{◌≡◌}
use mathlib.Core.Bool.{Bool, false}
use mathlib.Core.List.{List, [], ◌∷◌, ◌++◌}
use lib.ListN.{length}
use Rattle.queue.specs.Queue
use Rattle.queue.specs.Queue.{Outcome, Entering, Waiting, Call, has}

abbrev pub waits : {E : Type 0} → ℕ → E → Waiting E
waits k e = record { number = k; path = e }

-- no two have one number
abbrev pub Distinct : {E : Type 0} → List (Waiting E) → Type 0
Distinct [] = Unit {0}
Distinct (w ∷ l) = (has l w.number ≡ false) × Distinct l

-- path k with the state e waits behind i others
pub record Place {E : Type 0} (l : List (Waiting E)) (k i : ℕ) (e : E) : Type 0 where
  pub front : List (Waiting E)
  pub back : List (Waiting E)
  pub is : l ≡ front ++ waits k e ∷ back
  pub long : length front ≡ i

module _ {E B I R : Type 0} (enter : I → B → Entering E) (fits : E → B → Bool) (serve : E → B → Outcome E R) where
  -- a call that leaves path k its number and its state, and brings it one place nearer if it is a turn
  pub record Kept (l : List (Waiting E)) (c : Call I B) (k i : ℕ) (e : E) : Type 0 where
    pub place : ℕ
    pub nearer : place + Queue.turns enter fits serve l c ≡ i
    pub there : Place (Queue.after enter fits serve l c) k place e

  -- the paths that wait after a row of calls from an empty dispatcher
  abbrev pub from_empty : List (Call I B) → List (Waiting E)
  from_empty = Queue.after_all enter fits serve []
