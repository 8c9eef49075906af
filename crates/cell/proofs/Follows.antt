-- A lent state after a row of calls from all zero holds the paths that the row leaves: what holds of rows holds of it.
use Prim.Native.Nat.{ℕ, ◌≤◌}
use native.Mathlib.Omega.{arith}
use mathlib.Core.Path.{◌≡◌, refl, sym, ap, ◌∙◌}
use mathlib.Core.Bool.{true}
use mathlib.Core.List.{List, [], ◌∷◌, ◌++◌}
use borrow.Author.Tests.{eq-eqb, le-leb}
use lib.ListN.{length, replicate}
use lib.Ieee.{Float}
use Rattle.float.specs.Helpers.{nought}
use Rattle.queue.specs.Queue as Queue
use Rattle.queue.specs.Queue.{Waiting, smallest_free}
use Rattle.queue.specs.Places.{from_empty}
use Rattle.queue.proofs.FromEmpty.{at_most_sixteen}
use Rattle.cell.specs.Coding.{entries}
use Rattle.cell.specs.State.{count_in, queue_in, state_long, state_good, Buffers}
use Rattle.cell.specs.Turning.{fits, serve, turn_answer, words_turned, numbers_turned}
use Rattle.cell.specs.Asking.{free_in}
use Rattle.cell.specs.Admitting.{Inputs, enter, admit_answer, words_after, numbers_after}
use Rattle.cell.specs.Reached.{Reached, empty, admits, serves, names, counts}
use Rattle.cell.specs.declared.Entry.{Entry}
use Rattle.cell.proofs.States.{state_parts}
use Rattle.cell.proofs.Turns.{turn_queue, turn_long}
use Rattle.cell.proofs.Rowed.{turn_after}
use Rattle.cell.proofs.Admits.{queue_long, admit_after, admit_long}
use Rattle.cell.proofs.Free.{free_queue}

-- both parts have their lengths, at most 16 wait, and these are they
pub record Holds (words : List ℕ) (numbers : List Float) (l : List (Waiting Entry)) : Type 0 where
  pub good : state_good words numbers ≡ true
  pub queue : queue_in words numbers ≡ l

good_by : (words : List ℕ) (numbers : List Float) → length words ≡ 145 → length numbers ≡ 368 → count_in words ≤ 16 → state_good words numbers ≡ true
unfolding state_good state_long
good_by words numbers a b c = rw (eq-eqb (length words) 145 a, eq-eqb (length numbers) 368 b, le-leb (count_in words) 16 c)

holds : (words : List ℕ) (numbers : List Float) (l : List (Waiting Entry)) → length words ≡ 145 → length numbers ≡ 368 → length l ≤ 16 → queue_in words numbers ≡ l → Holds words numbers l
holds words numbers l a b few q =
    let n = queue_long words numbers in
    let m = ap length q in
    record { good = good_by words numbers a b (omega arith); queue = q }

zero_holds : queue_in (replicate 145 0) (replicate 368 nought) ≡ []
unfolding queue_in count_in entries
zero_holds = refl

-- ---- a call more
after_snoc : (l : List (Waiting Entry)) (row : List (Queue.Call Inputs Buffers)) (c : Queue.Call Inputs Buffers)
    → Queue.after_all enter fits serve l (row ++ c ∷ []) ≡ Queue.after enter fits serve (Queue.after_all enter fits serve l row) c
after_snoc l [] c = refl
after_snoc l (d ∷ row) c = after_snoc (Queue.after enter fits serve l d) row c

step : (row : List (Queue.Call Inputs Buffers)) (c : Queue.Call Inputs Buffers) (words words' : List ℕ) (numbers numbers' : List Float) → Holds words numbers (from_empty enter fits serve row)
    → length words' ≡ length words → length numbers' ≡ length numbers → queue_in words' numbers' ≡ Queue.after enter fits serve (queue_in words numbers) c
    → Holds words' numbers' (from_empty enter fits serve (row ++ c ∷ []))
step row c words words' numbers numbers' h a b q =
    let p = state_parts words numbers h.good in
    holds words' numbers' (from_empty enter fits serve (row ++ c ∷ [])) (a ∙ p.0) (b ∙ p.1.0) (at_most_sixteen enter fits serve (row ++ c ∷ []))
    (q ∙ ap (λ (l : List (Waiting Entry)). Queue.after enter fits serve l c) h.queue ∙ sym (after_snoc [] row c))

-- in every row of calls the state holds the paths of the row
pub follows : {row : List (Queue.Call Inputs Buffers)} {words : List ℕ} {numbers : List Float} → Reached row words numbers → Holds words numbers (from_empty enter fits serve row)
follows empty = holds (replicate 145 0) (replicate 368 nought) [] refl refl (omega arith) zero_holds
follows (admits {row = row} {words = words} {numbers = numbers} h i b) =
    let g = follows h in
    let l = admit_long words numbers i b g.good in
    step row (Queue.Admit i b) words (words_after (admit_answer words numbers i b) words i b) numbers (numbers_after (admit_answer words numbers i b) words numbers i b) g
    l.0 l.1 (admit_after words numbers i b g.good)
follows (serves {row = row} {words = words} {numbers = numbers} h b) =
    let g = follows h in
    let l = turn_long words numbers b.poses b.joints g.good in
    step row (Queue.Turn b) words (words_turned (turn_answer words numbers b) words numbers) numbers (numbers_turned (turn_answer words numbers b) words numbers) g l.0 l.1
    (turn_queue words numbers b.poses b.joints g.good ∙ turn_after enter (queue_in words numbers) b)
follows (names {row = row} {words = words} {numbers = numbers} h) = step row Queue.Next words words numbers numbers (follows h) refl refl refl
follows (counts {row = row} {words = words} {numbers = numbers} h k) = step row (Queue.Count k) words words numbers numbers (follows h) refl refl refl

-- "under the smallest number from 0 to 15 that no admitted path has"
pub admitted_under : {row : List (Queue.Call Inputs Buffers)} {words : List ℕ} {numbers : List Float} → Reached row words numbers
    → free_in (count_in words) words ≡ smallest_free (from_empty enter fits serve row)
admitted_under {row} {words} {numbers} h = free_queue words numbers ∙ ap smallest_free (follows h).queue
