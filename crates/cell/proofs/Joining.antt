-- Admission: one more waits, behind the others.
use Prim.Native.Nat.{ℕ, suc, ◌+◌, ◌*◌, ◌≤◌, ◌<◌}
use native.Mathlib.Omega.{arith}
use mathlib.Core.Path.{◌≡◌, sym, ap, ◌∙◌}
use mathlib.Core.List.{List, [], ◌∷◌, ◌++◌}
use lib.ListN.{length, length-set, set, take, drop}
use lib.Seq.{take-set-le, get_or-set_same}
use lib.Ieee.{Float}
use Rattle.queue.specs.Queue.{Waiting}
use Rattle.storing.specs.Storing.{stored_at}
use Rattle.storing.proofs.Parts.{Parts, parts}
use Rattle.cell.specs.Coding.{entry_in, words_of, numbers_of, entries}
use Rattle.cell.specs.State.{count_in, queue_in}
use Rattle.cell.specs.Admitting.{joined_words, joined_numbers, joined}
use Rattle.cell.specs.declared.Entry.{Entry}
use Rattle.cell.proofs.Codec.{entry_back, entries_same, entries_snoc}
use Rattle.cell.proofs.Lent.{beyond}
use Rattle.cell.proofs.Requeue.{numbers_many}

-- ---- one more waits
last_word : (l m : List ℕ) (k : ℕ) → drop k l ≡ drop k m → k ≤ 144 → count_in l ≡ count_in m
unfolding count_in
last_word l m k e h = beyond l m k 144 0 e h

stored_count : (words : List ℕ) (v : ℕ) → length words ≡ 145 → count_in (set words 144 v) ≡ v
unfolding count_in
stored_count words v h = get_or-set_same words 144 v 0 (omega arith)

pub join_queue : (words : List ℕ) (numbers : List Float) → length words ≡ 145 → length numbers ≡ 368 → count_in words < 16 → (k : ℕ) (e : Entry)
    → queue_in (joined_words words k e) (joined_numbers words numbers e) ≡ joined (queue_in words numbers) k e
unfolding queue_in joined_words joined_numbers
join_queue words numbers long wide few k e =
    ap (λ (z : ℕ). entries z (stored_at F (n * 9) (words_of k e)) (stored_at numbers (n * 23) (numbers_of e))) count
    ∙ entries_snoc n (stored_at F (n * 9) (words_of k e)) (stored_at numbers (n * 23) (numbers_of e))
    ∙ ap (λ (z : List (Waiting Entry)). z ++ (entry_in (take 9 (drop (n * 9) (stored_at F (n * 9) (words_of k e)))) (take 23 (drop (n * 23) (stored_at numbers (n * 23) (numbers_of e)))) ∷ []))
    (entries_same n (stored_at F (n * 9) (words_of k e)) words (stored_at numbers (n * 23) (numbers_of e)) numbers (v.before ∙ take-set-le (n * 9) words 144 (n + 1) (omega arith)) u.before)
    ∙ ap (λ (z : List ℕ). entries n words numbers ++ (entry_in z (take 23 (drop (n * 23) (stored_at numbers (n * 23) (numbers_of e)))) ∷ [])) v.stored
    ∙ ap (λ (z : List Float). entries n words numbers ++ (entry_in (words_of k e) z ∷ [])) stored_numbers
    ∙ ap (λ (z : Waiting Entry). entries n words numbers ++ (z ∷ [])) (entry_back k e)
  where
    n : ℕ
    n = count_in words

    F : List ℕ
    F = set words 144 (n + 1)

    F-long : length F ≡ 145
    F-long = length-set words 144 (n + 1) ∙ long

    v : Parts F (stored_at F (n * 9) (words_of k e)) (n * 9) (words_of k e)
    v = let a = F-long in parts F (n * 9) (words_of k e) (omega arith)

    u : Parts numbers (stored_at numbers (n * 23) (numbers_of e)) (n * 23) (numbers_of e)
    u = let b = numbers_many e in parts numbers (n * 23) (numbers_of e) (omega arith)

    stored_numbers : take 23 (drop (n * 23) (stored_at numbers (n * 23) (numbers_of e))) ≡ numbers_of e
    stored_numbers = ap (λ (z : ℕ). take z (drop (n * 23) (stored_at numbers (n * 23) (numbers_of e)))) (sym (numbers_many e)) ∙ u.stored

    count : count_in (stored_at F (n * 9) (words_of k e)) ≡ suc n
    count = last_word (stored_at F (n * 9) (words_of k e)) F (n * 9 + 9) v.behind (omega arith) ∙ stored_count words (n + 1) long ∙ (let z : n + 1 ≡ suc n = omega arith in z)

-- and both parts stay as long
pub joined_long : (words : List ℕ) (numbers : List Float) → length words ≡ 145 → length numbers ≡ 368 → count_in words < 16 → (k : ℕ) (e : Entry)
    → (length (joined_words words k e) ≡ length words) × (length (joined_numbers words numbers e) ≡ length numbers)
unfolding joined_words joined_numbers
joined_long words numbers long wide few k e =
    let n = count_in words in
    let f : length (set words 144 (n + 1)) ≡ 145 = length-set words 144 (n + 1) ∙ long in
    let m = numbers_many e in
    let v = parts (set words 144 (n + 1)) (n * 9) (words_of k e) (omega arith) in
    let u = parts numbers (n * 23) (numbers_of e) (omega arith) in
    (v.long ∙ length-set words 144 (n + 1), u.long)
