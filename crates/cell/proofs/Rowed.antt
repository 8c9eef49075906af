-- A turn of the program is a turn of the row, however paths are admitted; and a path with nothing to test ends in its
-- first turn.
use Prim.Native.Nat.{ℕ, ◌≤◌}
use Rattle.std.specs.Prelude.{Ok}
use mathlib.Core.Path.{◌≡◌, refl, ap}
use mathlib.Core.Bool.{cond}
use mathlib.Core.List.{List, [], ◌∷◌}
use borrow.Author.Tests.{le-ltb}
use Rattle.machine.specs.Dividing.{Divided}
use Rattle.slice.proofs.Slices.{nothing_waits}
use Rattle.queue.specs.Queue as Queue
use Rattle.queue.specs.Queue.{Waiting}
use Rattle.cell.specs.State.{tol_of, Buffers, space_of}
use Rattle.cell.specs.Turning.{none_enters, fits, serve, turned, slice_of}
use Rattle.cell.specs.declared.Entry.{Entry}

module _ {I : Type 0} (enter : I → Buffers → Queue.Entering Entry) where
  requeued_any : (l : List (Waiting Entry)) (k : ℕ) (o : Queue.Outcome Entry Divided) → Queue.requeued none_enters fits serve l k o ≡ Queue.requeued enter fits serve l k o
  requeued_any l k (Queue.Still e) = refl
  requeued_any l k (Queue.Over r) = refl

  pub turn_after : (l : List (Waiting Entry)) (b : Buffers) → turned l b ≡ Queue.after enter fits serve l (Queue.Turn b)
  turn_after [] b = refl
  turn_after (w ∷ l) b = ap (λ (m : List (Waiting Entry)). cond (fits w.path b) m (w ∷ l)) (requeued_any l w.number (serve w.path b))

-- "or without a pair in its first turn"
pub ends_at_once : (e : Entry) (b : Buffers) → space_of b ≤ e.machine.waiting → serve e b ≡ Queue.Over (Ok e.machine.inserted)
unfolding slice_of
ends_at_once e b h = rw (nothing_waits 64 e.chain (tol_of e) (space_of b) e.machine b.poses b.joints h, le-ltb e.machine.waiting (space_of b) h)
