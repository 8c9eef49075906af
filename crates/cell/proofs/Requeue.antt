-- The state after a turn: those behind the first came forward, and the first waits last or left.
use Prim.Native.Nat.{ℕ, suc, ◌+◌, ◌-◌, ◌*◌, ◌≤◌, ◌<◌}
use native.Mathlib.Omega.{arith}
use mathlib.Core.Path.{◌≡◌, refl, sym, ap, ◌∙◌}
use mathlib.Core.List.{List, [], ◌∷◌, ◌++◌}
use lib.ListN.{length, length-set, get_or, set, take, drop}
use lib.Seq.{take-take, take-set-le, get_or-set_same, length-take-le}
use lib.Ieee.{Float}
use Rattle.float.specs.Helpers.{nought}
use Rattle.turn.specs.declared.Machine.{Machine}
use Rattle.machine.specs.Dividing.{Divided}
use Rattle.lists.specs.Padding.{padded}
use Rattle.lists.proofs.Padding.{length_padded, take_padded}
use Rattle.queue.specs.Queue.{Waiting}
use Rattle.queue.specs.Places.{waits}
use Rattle.storing.specs.Storing.{stored_at}
use Rattle.storing.proofs.Parts.{Parts, parts}
use Rattle.cell.specs.Coding.{entry_in, words_of, numbers_of, forward, entries, path_in}
use Rattle.cell.specs.State.{count_in, queue_in}
use Rattle.cell.specs.Turning.{first_number, with_machine, requeued, words_left, numbers_left, behind_first, words_served, numbers_served}
use Rattle.cell.specs.declared.Entry.{Entry}
use Rattle.cell.specs.declared.Outcome.{Outcome}
use Rattle.cell.specs.declared.Outcome.TheVariants.{Still, Over}
use Rattle.cell.proofs.Codec.{entry_back, entry_front, entries_same, entries_snoc}
use Rattle.cell.proofs.Lent.{beyond, Came, came}

pub numbers_many : (e : Entry) → length (numbers_of e) ≡ 23
unfolding numbers_of
numbers_many e = refl

-- ---- the queue
module _ (words : List ℕ) (numbers : List Float) (long : length words ≡ 145) (wide : length numbers ≡ 368) (j : ℕ) (some : count_in words ≡ suc j) (few : j < 16) where
  behind_first_is : drop 1 (queue_in words numbers) ≡ entries j (drop 9 words) (drop 23 numbers)
  unfolding queue_in entries
  behind_first_is = rw some

  pub over_queue : queue_in (words_left j (forward 9 (j * 9) words)) (numbers_left j (forward 23 (j * 23) numbers)) ≡ drop 1 (queue_in words numbers)
  unfolding count_in queue_in words_left numbers_left
  over_queue = opened ∙ sym behind_first_is
    where
      w : Came words 9 (j * 9)
      w = came words 9 (j * 9) (omega arith)

      n : Came numbers 23 (j * 23)
      n = came numbers 23 (j * 23) (omega arith)

      F : List ℕ
      F = forward 9 (j * 9) words

      G : List Float
      G = forward 23 (j * 23) numbers

      taken : length (take (j * 9) F) ≡ j * 9
      taken = let a = w.long in length-take-le (j * 9) F (omega arith)

      taken_numbers : length (take (j * 23) G) ≡ j * 23
      taken_numbers = let a = n.long in length-take-le (j * 23) G (omega arith)

      P : List ℕ
      P = padded (length F) 0 (take (j * 9) F)

      P-long : length P ≡ 145
      P-long = let a = w.long in let c = taken in length_padded (length F) 0 (take (j * 9) F) (omega arith) ∙ a ∙ long

      count : count_in (set P 144 j) ≡ j
      count = let a = P-long in get_or-set_same P 144 j 0 (omega arith)

      front : take (j * 9) (set P 144 j) ≡ take (j * 9) (drop 9 words)
      front =
          let c = taken in
          take-set-le (j * 9) P 144 j (omega arith) ∙ take_padded (length F) 0 (take (j * 9) F) (j * 9) (omega arith) ∙ take-take (j * 9) (j * 9) F (omega arith) ∙ w.front

      front_numbers : take (j * 23) (padded (length G) nought (take (j * 23) G)) ≡ take (j * 23) (drop 23 numbers)
      front_numbers = let c = taken_numbers in take_padded (length G) nought (take (j * 23) G) (j * 23) (omega arith) ∙ take-take (j * 23) (j * 23) G (omega arith) ∙ n.front

      opened : queue_in (set P 144 j) (padded (length G) nought (take (j * 23) G)) ≡ entries j (drop 9 words) (drop 23 numbers)
      opened =
          ap (λ (k : ℕ). entries k (set P 144 j) (padded (length G) nought (take (j * 23) G))) count
          ∙ entries_same j (set P 144 j) (drop 9 words) (padded (length G) nought (take (j * 23) G)) (drop 23 numbers) front front_numbers

  pub still_queue : (k : ℕ) (e : Entry) → queue_in (stored_at (forward 9 (j * 9) words) (j * 9) (words_of k e)) (stored_at (forward 23 (j * 23) numbers) (j * 23) (numbers_of e)) ≡ drop 1 (queue_in words numbers) ++ (waits k e ∷ [])
  unfolding count_in queue_in
  still_queue k e = opened ∙ ap (λ (z : List (Waiting Entry)). z ++ (waits k e ∷ [])) (sym behind_first_is)
    where
      w : Came words 9 (j * 9)
      w = came words 9 (j * 9) (omega arith)

      n : Came numbers 23 (j * 23)
      n = came numbers 23 (j * 23) (omega arith)

      F : List ℕ
      F = forward 9 (j * 9) words

      G : List Float
      G = forward 23 (j * 23) numbers

      v : Parts F (stored_at F (j * 9) (words_of k e)) (j * 9) (words_of k e)
      v = let a = w.long in parts F (j * 9) (words_of k e) (omega arith)

      u : Parts G (stored_at G (j * 23) (numbers_of e)) (j * 23) (numbers_of e)
      u = let a = n.long in let b = numbers_many e in parts G (j * 23) (numbers_of e) (omega arith)

      stored_numbers : take 23 (drop (j * 23) (stored_at G (j * 23) (numbers_of e))) ≡ numbers_of e
      stored_numbers = ap (λ (z : ℕ). take z (drop (j * 23) (stored_at G (j * 23) (numbers_of e)))) (sym (numbers_many e)) ∙ u.stored

      count : count_in (stored_at F (j * 9) (words_of k e)) ≡ suc j
      count = beyond (stored_at F (j * 9) (words_of k e)) F (j * 9 + 9) 144 0 v.behind (omega arith) ∙ beyond F words (j * 9) 144 0 w.behind (omega arith) ∙ some

      opened : queue_in (stored_at F (j * 9) (words_of k e)) (stored_at G (j * 23) (numbers_of e)) ≡ entries j (drop 9 words) (drop 23 numbers) ++ (waits k e ∷ [])
      opened =
          ap (λ (z : ℕ). entries z (stored_at F (j * 9) (words_of k e)) (stored_at G (j * 23) (numbers_of e))) count
          ∙ entries_snoc j (stored_at F (j * 9) (words_of k e)) (stored_at G (j * 23) (numbers_of e))
          ∙ ap (λ (z : List (Waiting Entry)). z ++ (entry_in (take 9 (drop (j * 9) (stored_at F (j * 9) (words_of k e)))) (take 23 (drop (j * 23) (stored_at G (j * 23) (numbers_of e)))) ∷ []))
          (entries_same j (stored_at F (j * 9) (words_of k e)) (drop 9 words) (stored_at G (j * 23) (numbers_of e)) (drop 23 numbers) (v.before ∙ w.front) (u.before ∙ n.front))
          ∙ ap (λ (z : List ℕ). entries j (drop 9 words) (drop 23 numbers) ++ (entry_in z (take 23 (drop (j * 23) (stored_at G (j * 23) (numbers_of e)))) ∷ [])) v.stored
          ∙ ap (λ (z : List Float). entries j (drop 9 words) (drop 23 numbers) ++ (entry_in (words_of k e) z ∷ [])) stored_numbers
          ∙ ap (λ (z : Waiting Entry). entries j (drop 9 words) (drop 23 numbers) ++ (z ∷ [])) (entry_back k e)

  -- the path that waits first
  pub first_queue : queue_in words numbers ≡ waits (first_number words) (path_in words numbers) ∷ drop 1 (queue_in words numbers)
  unfolding queue_in entries first_number
  first_queue = rw some (ap (λ (z : Waiting Entry). z ∷ entries j (drop 9 words) (drop 23 numbers)) (entry_front words numbers))

-- ---- the stores of a turn
module _ (words : List ℕ) (e : Entry) (o : Outcome) (n : ℕ) (all : n ≡ count_in words) where
  pub over_words : {d : Divided} (F X : List ℕ) → o ≡ Over d → F ≡ forward 9 ((n - 1) * 9) words → X ≡ words_left (n - 1) F → X ≡ words_served e o words
  unfolding behind_first
  over_words F X is f x = rw is (x ∙ rw (f, all))

  pub over_numbers : {d : Divided} (numbers G Y : List Float) → o ≡ Over d → G ≡ forward 23 ((n - 1) * 23) numbers → Y ≡ numbers_left (n - 1) G → Y ≡ numbers_served e o words numbers
  unfolding behind_first
  over_numbers numbers G Y is g y = rw is (y ∙ rw (g, all))

  module _ {m : Machine} {next : Entry} (is : o ≡ Still m) (so : next ≡ with_machine e m) where
    pub still_words : (F W X : List ℕ) → F ≡ forward 9 ((n - 1) * 9) words → W ≡ words_of (get_or words 0 0) next → X ≡ stored_at F ((n - 1) * 9) W → X ≡ words_served e o words
    unfolding behind_first first_number
    still_words F W X f w x = rw is (x ∙ rw (w, f, so, all))

    pub still_numbers : (numbers G V Y : List Float) → G ≡ forward 23 ((n - 1) * 23) numbers → V ≡ numbers_of next → Y ≡ stored_at G ((n - 1) * 23) V → Y ≡ numbers_served e o words numbers
    unfolding behind_first
    still_numbers numbers G V Y g v y = rw is (y ∙ rw (v, g, so, all))

-- ---- the same, as a turn leaves it
module _ (words : List ℕ) (numbers : List Float) (long : length words ≡ 145) (wide : length numbers ≡ 368) (some : 0 < count_in words) (few : count_in words ≤ 16) where
  pub served_queue : (e : Entry) (o : Outcome) → queue_in (words_served e o words) (numbers_served e o words numbers) ≡ requeued (drop 1 (queue_in words numbers)) (first_number words) e o
  unfolding behind_first
  served_queue e (Still m) = still_queue words numbers long wide (count_in words - 1) (omega arith) (omega arith) (first_number words) (with_machine e m)
  served_queue e (Over d) = over_queue words numbers long wide (count_in words - 1) (omega arith) (omega arith)

  words_long : (e : Entry) (o : Outcome) → length (words_served e o words) ≡ length words
  unfolding behind_first words_left
  words_long e (Still m) =
      let c = came words 9 ((count_in words - 1) * 9) (omega arith) in
      let l = c.long in
      let v = parts (forward 9 ((count_in words - 1) * 9) words) ((count_in words - 1) * 9) (words_of (first_number words) (with_machine e m)) (omega arith) in
      v.long ∙ l
  words_long e (Over d) =
      let c = came words 9 ((count_in words - 1) * 9) (omega arith) in
      let a = c.long in
      let t = length-take-le ((count_in words - 1) * 9) (forward 9 ((count_in words - 1) * 9) words) (omega arith) in
      length-set (padded (length (forward 9 ((count_in words - 1) * 9) words)) 0 (take ((count_in words - 1) * 9) (forward 9 ((count_in words - 1) * 9) words))) 144 (count_in words - 1)
      ∙ length_padded (length (forward 9 ((count_in words - 1) * 9) words)) 0 (take ((count_in words - 1) * 9) (forward 9 ((count_in words - 1) * 9) words)) (omega arith) ∙ a

  numbers_long : (e : Entry) (o : Outcome) → length (numbers_served e o words numbers) ≡ length numbers
  unfolding behind_first numbers_left
  numbers_long e (Still m) =
      let c = came numbers 23 ((count_in words - 1) * 23) (omega arith) in
      let l = c.long in
      let n = numbers_many (with_machine e m) in
      let v = parts (forward 23 ((count_in words - 1) * 23) numbers) ((count_in words - 1) * 23) (numbers_of (with_machine e m)) (omega arith) in
      v.long ∙ l
  numbers_long e (Over d) =
      let c = came numbers 23 ((count_in words - 1) * 23) (omega arith) in
      let a = c.long in
      let t = length-take-le ((count_in words - 1) * 23) (forward 23 ((count_in words - 1) * 23) numbers) (omega arith) in
      length_padded (length (forward 23 ((count_in words - 1) * 23) numbers)) nought (take ((count_in words - 1) * 23) (forward 23 ((count_in words - 1) * 23) numbers)) (omega arith) ∙ a

  pub served_long : (e : Entry) (o : Outcome) → (length (words_served e o words) ≡ length words) × (length (numbers_served e o words numbers) ≡ length numbers)
  served_long e o = (words_long e o, numbers_long e o)
