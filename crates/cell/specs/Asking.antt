-- Which path is served next, a path's count so far, and the smallest number that no path has.
use Rattle.std.specs.Prelude.{ℕ, zero, suc, Bool, not, cond, ◌&&◌, List, [], ◌∷◌, eqb, leb, length, get_or, drop, is_some, ok_or, Err, None, Ok, Option, Result, Some}
use Rattle.lists.specs.Search.{first_hit}
use Rattle.refusal.specs.declared.Cause.{Cause}
use Rattle.refusal.specs.declared.Refusal.{Refusal}
use Rattle.refusal.specs.Numbers.{refusal}
use Rattle.queue.specs.Queue.{Waiting, count_from}
use Rattle.cell.specs.declared.Entry.{Entry}
use Rattle.cell.specs.State.{count_in}

unfoldable pub words_good : List ℕ → Bool
words_good words = eqb (length words) 145 && leb (count_in words) 16

-- ---- which path is served next, where one waits
unfoldable pub next_in : List ℕ → Option ℕ
next_in words = cond (eqb (count_in words) 0) None (Some (get_or words 0 0))

unfoldable pub next_answer : List ℕ → Result (Option ℕ) Refusal
next_answer words = cond (words_good words) (Ok (next_in words)) (Err (refusal Cause.LengthsDiffer 0))

-- ---- how many poses are inserted so far in the path of a number, of n entries
unfoldable pub counts_from : ℕ → List ℕ → ℕ → Option ℕ
counts_from zero words k = None
counts_from (suc n) words k = cond (eqb (get_or words 0 0) k) (Some (get_or words 6 0)) (counts_from n (drop 9 words) k)

-- "a path number that is not admitted is 33 .. before any other check, 20 too"
unfoldable pub count_answer : List ℕ → ℕ → Result ℕ Refusal
count_answer words k =
    cond (words_good words) (ok_or (counts_from (count_in words) words k) (refusal Cause.NotAdmitted 0)) (Err (refusal Cause.NotAdmitted 0))

-- ---- the same of the paths that wait
abbrev pub next_from : List (Waiting Entry) → Option ℕ
next_from [] = None
next_from (w ∷ l) = Some w.number

abbrev pub count_of : List (Waiting Entry) → ℕ → Option ℕ
count_of [] k = None
count_of (w ∷ l) k = cond (eqb w.number k) (Some w.path.machine.inserted) (count_of l k)

-- ---- the smallest number that none of n entries has; 16 where each is taken
unfoldable pub has_in : ℕ → List ℕ → ℕ → Bool
has_in n words k = is_some (counts_from n words k)

unfoldable pub free_in : ℕ → List ℕ → ℕ
free_in n words = first_hit (λ (k : ℕ). not (has_in n words k)) (count_from 0 16)
