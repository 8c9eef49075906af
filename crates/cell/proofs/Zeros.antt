-- A state in which no path waits is all zero, in every row of calls from all zero.
use Prim.Native.Nat.{ℕ, ◌-◌, ◌*◌, ◌<◌}
use native.Mathlib.Omega.{arith}
use mathlib.Core.Path.{◌≡◌, refl, ap, ◌∙◌}
use mathlib.Core.Bool.{true}
use mathlib.Core.List.{List, [], ◌∷◌}
use lib.ListN.{length, length-append, length-drop, set, take, drop, replicate}
use lib.Ieee.{Float}
use Rattle.float.specs.Helpers.{nought}
use Rattle.lists.specs.Padding.{padded}
use Rattle.lists.proofs.Padding.{padded_nil}
use Rattle.queue.specs.Queue as Queue
use Rattle.queue.specs.Queue.{Waiting}
use Rattle.queue.specs.Places.{waits}
use Rattle.cell.specs.Coding.{forward, path_in}
use Rattle.cell.specs.State.{count_in, queue_in, state_good, Buffers}
use Rattle.cell.specs.Turning.{outcome_of, first_number, with_machine, behind_first, words_left, numbers_left, words_served, numbers_served, Turned, turn_answer, words_turned, numbers_turned}
use Rattle.cell.specs.Asking.{free_in}
use Rattle.cell.specs.Admitting.{Inputs, first_entry, Admission, admit_answer, joined_words, joined_numbers, words_after, numbers_after}
use Rattle.cell.specs.Reached.{Reached, empty, admits, serves, names, counts}
use Rattle.cell.specs.declared.Entry.{Entry}
use Rattle.cell.specs.declared.Outcome.{Outcome}
use Rattle.cell.specs.declared.Outcome.TheVariants.{Still, Over}
use Rattle.cell.proofs.Lent.{came}
use Rattle.cell.proofs.States.{state_parts}
use Rattle.cell.proofs.Requeue.{served_queue}
use Rattle.cell.proofs.Turns.{turn_cases}
use Rattle.cell.proofs.Joining.{join_queue}
use Rattle.cell.proofs.Admits.{queue_long, admit_cases}
use Rattle.cell.proofs.Follows.{follows}

-- where no path waits, all is zero
pub record Zeros (words : List ℕ) (numbers : List Float) : Type 0 where
  pub zero_if : count_in words ≡ 0 → (words ≡ replicate 145 0) × (numbers ≡ replicate 368 nought)

none_left : (n : ℕ) (words : List ℕ) (numbers : List Float) → n ≡ 0 → length words ≡ 145 → length numbers ≡ 368 → (words_left n words ≡ replicate 145 0) × (numbers_left n numbers ≡ replicate 368 nought)
unfolding words_left numbers_left
none_left n words numbers e a b = (
  ap (λ (k : ℕ). set (padded (length words) 0 (take (k * 9) words)) 144 k) e ∙ ap (λ (m : List ℕ). set m 144 0) (padded_nil (length words) 0 ∙ ap (λ (k : ℕ). replicate k 0) a),
  ap (λ (k : ℕ). padded (length numbers) nought (take (k * 23) numbers)) e ∙ padded_nil (length numbers) nought ∙ ap (λ (k : ℕ). replicate k nought) b,
)

module _ (words : List ℕ) (numbers : List Float) (good : state_good words numbers ≡ true) (z : Zeros words numbers) where
  still_zeros : 0 < count_in words → (e : Entry) (o : Outcome) → Zeros (words_served e o words) (numbers_served e o words numbers)
  unfolding behind_first
  still_zeros s e (Still m) = record {
    zero_if = λ h.
        let p = state_parts words numbers good in
        let q = ap length (served_queue words numbers p.0 p.1.0 s p.1.1 e (Still m)) in
        let n = queue_long (words_served e (Still m) words) (numbers_served e (Still m) words numbers) in
        let l = length-append (drop 1 (queue_in words numbers)) (waits (first_number words) (with_machine e m) ∷ []) in
        absurd (omega (arith, h, q, n, l));
  }
  still_zeros s e (Over d) = record {
    zero_if = λ h.
        let p = state_parts words numbers good in
        let few = p.1.1 in
        let q = ap length (served_queue words numbers p.0 p.1.0 s few e (Over d)) in
        let n = queue_long (words_served e (Over d) words) (numbers_served e (Over d) words numbers) in
        let l = length-drop 1 (queue_in words numbers) in
        let m = queue_long words numbers in
        let a = came words 9 ((count_in words - 1) * 9) (omega (arith, p)) in
        let b = came numbers 23 ((count_in words - 1) * 23) (omega (arith, p)) in
        none_left (count_in words - 1) (forward 9 ((count_in words - 1) * 9) words) (forward 23 ((count_in words - 1) * 23) numbers) (omega (arith, h, q, n, l, m, s)) (a.long ∙ p.0) (b.long ∙ p.1.0);
  }

  turn_zeros : (b : Buffers) → Zeros (words_turned (turn_answer words numbers b) words numbers) (numbers_turned (turn_answer words numbers b) words numbers)
  turn_zeros b =
      turn_cases words numbers b.poses b.joints good (λ (r : Turned) (l : List (Waiting Entry)). Zeros (words_turned r words numbers) (numbers_turned r words numbers)) (λ q. z) (λ s q. z) (λ s. still_zeros s (path_in words numbers) (outcome_of (path_in words numbers) b))

  admit_zeros : (i : Inputs) (b : Buffers) → Zeros (words_after (admit_answer words numbers i b) words i b) (numbers_after (admit_answer words numbers i b) words numbers i b)
  admit_zeros i b =
      admit_cases words numbers i b good (λ (r : Admission). Zeros (words_after r words i b) (numbers_after r words numbers i b)) (λ r. z) z (λ few. record {
        zero_if = λ h.
            let p = state_parts words numbers good in
            let k = free_in (count_in words) words in
            let q = ap length (join_queue words numbers p.0 p.1.0 few k (first_entry i b)) in
            let n = queue_long (joined_words words k (first_entry i b)) (joined_numbers words numbers (first_entry i b)) in
            let l = length-append (queue_in words numbers) (waits k (first_entry i b) ∷ []) in
            absurd (omega (arith, h, q, n, l));
      })

-- "all zero when empty"
pub zeros : {row : List (Queue.Call Inputs Buffers)} {words : List ℕ} {numbers : List Float} → Reached row words numbers → Zeros words numbers
zeros empty = record { zero_if = λ h. (refl, refl) }
zeros (admits {words = words} {numbers = numbers} h i b) = admit_zeros words numbers (follows h).good (zeros h) i b
zeros (serves {words = words} {numbers = numbers} h b) = turn_zeros words numbers (follows h).good (zeros h) b
zeros (names h) = zeros h
zeros (counts h k) = zeros h
