-- Rows of calls from an empty dispatcher: each sentence on them is one theorem here.
use Prim.Native.Nat.{ℕ, ◌≤◌, ◌<◌}
use mathlib.Core.Path.{◌≡◌, refl, sym, subst}
use mathlib.Core.Bool.{Bool, true, false, cond}
use mathlib.Core.List.{List, [], ◌∷◌, ◌++◌}
use borrow.Author.Tests.{ltb-true, lt-ltb}
use lib.Dec.{ltb}
use lib.ListN.{length}
use Rattle.lists.specs.Each.{Each}
use Rattle.lists.proofs.Each.{each_more}
use Rattle.queue.specs.Queue
use Rattle.queue.specs.Queue.{Outcome, Still, Over, Entering, Entered, Refused, Waiting, Call, Admit, Next, Turn, Count, has, smallest_free}
use Rattle.queue.proofs.Numbers.{free_below}
use Rattle.queue.specs.Places.{waits, Distinct, Place, Kept, from_empty}
use Rattle.queue.proofs.Rows.{Sound, sound_empty, sound_after, kept, served_within, ends_alone, last_place}

module _ {E B I R : Type 0} (enter : I → B → Entering E) (fits : E → B → Bool) (serve : E → B → Outcome E R) where
  abbrev after : List (Waiting E) → Call I B → List (Waiting E)
  after = Queue.after enter fits serve

  sound_all : (row : List (Call I B)) (l : List (Waiting E)) → Sound enter fits serve l → Sound enter fits serve (Queue.after_all enter fits serve l row)
  sound_all [] l s = s
  sound_all (c ∷ row) l s = sound_all row (after l c) (sound_after enter fits serve l c s)

  pub sound : (row : List (Call I B)) → Sound enter fits serve (from_empty enter fits serve row)
  sound row = sound_all row [] (sound_empty enter fits serve)

  -- "A cell divides up to 16 paths side by side"
  pub at_most_sixteen : (row : List (Call I B)) → length (from_empty enter fits serve row) ≤ 16
  at_most_sixteen row = (sound row).few

  -- no two admitted paths have one number
  pub numbers_once : (row : List (Call I B)) → Distinct (from_empty enter fits serve row)
  numbers_once row = (sound row).distinct

  -- "an unfinished path is served again within 16 turns that are not refused"
  pub served_again : (row : List (Call I B)) (k i : ℕ) (e : E) → Place (from_empty enter fits serve row) k i e → (next : List (Call I B)) → 16 ≤ Queue.turns_in enter fits serve (from_empty enter fits serve row) next
      → Queue.ServedIn enter fits serve k (from_empty enter fits serve row) next
  served_again row = served_within enter fits serve (from_empty enter fits serve row) (sound row)

  -- "other contents change no other path": a call that does not serve path k keeps its number and its state, whatever
  -- it is lent
  pub others_kept : (l : List (Waiting E)) (c : Call I B) (k i : ℕ) (e : E) → Place l k i e → Queue.serves enter fits serve l c k ≡ false → Kept enter fits serve l c k i e
  others_kept = kept enter fits serve

  -- ---- what holds of a path that is admitted and is kept by its turns holds of every path that waits
  module _ (P : Waiting E → Type 0) (enters : (l : List (Waiting E)) (i : I) (b : B) (e : E) → length l < 16 → enter i b ≡ Entered e → P (waits (smallest_free l) e))
      (goes_on : (w : Waiting E) (b : B) (e : E) → P w → fits w.path b ≡ true → serve w.path b ≡ Still e → P (waits w.number e)) where
    requeued_each : (w : Waiting E) (l : List (Waiting E)) (b : B) → fits w.path b ≡ true → P w → Each P l → (o : Outcome E R) → serve w.path b ≡ o
        → Each P (Queue.requeued enter fits serve l w.number o)
    requeued_each w l b f p h (Still e) is = each_more P l (waits w.number e) h (goes_on w b e p f is)
    requeued_each w l b f p h (Over r) is = h

    joined_each : (l : List (Waiting E)) (i : I) (b : B) → length l < 16 → Each P l → (x : Entering E) → enter i b ≡ x → Each P (Queue.joined enter fits serve l x)
    joined_each l i b few h (Entered e) is = each_more P l (waits (smallest_free l) e) h (enters l i b e few is)
    joined_each l i b few h (Refused r) is = h

    each_after : (l : List (Waiting E)) (c : Call I B) → Each P l → Each P (after l c)
    each_after l (Admit i b) h = go (ltb (length l) 16) (ltb-true (length l) 16)
      where
        go : (t : Bool) → (t ≡ true → length l < 16) → Each P (cond t (Queue.joined enter fits serve l (enter i b)) l)
        go true f = joined_each l i b (f refl) h (enter i b) refl
        go false f = h
    each_after l Next h = h
    each_after [] (Turn b) h = h
    each_after (w ∷ l) (Turn b) h = go (fits w.path b) refl
      where
        go : (t : Bool) → fits w.path b ≡ t → Each P (cond t (Queue.requeued enter fits serve l w.number (serve w.path b)) (w ∷ l))
        go true f = requeued_each w l b f h.0 h.1 (serve w.path b) refl
        go false f = h
    each_after l (Count k) h = h

    each_all : (row : List (Call I B)) (l : List (Waiting E)) → Each P l → Each P (Queue.after_all enter fits serve l row)
    each_all [] l h = h
    each_all (c ∷ row) l h = each_all row (after l c) (each_after l c h)

    pub each_waits : (row : List (Call I B)) → Each P (from_empty enter fits serve row)
    each_waits row = each_all row [] tt

  -- "from 0 to 15"
  pub numbers_below : (row : List (Call I B)) → Each (λ (w : Waiting E). w.number < 16) (from_empty enter fits serve row)
  numbers_below = each_waits (λ (w : Waiting E). w.number < 16) (λ l i b e few is. free_below l few) (λ w b e p f is. p)

  -- ---- a path from its admission on
  module _ (left : E → B → B) where
    -- where it is admitted it waits last, under the smallest number that no admitted path has
    pub admitted_last : (l : List (Waiting E)) (i : I) (b : B) (e : E) → length l < 16 → enter i b ≡ Entered e → after l (Admit i b) ≡ l ++ waits (smallest_free l) e ∷ []
    admitted_last l i b e few is = rw (lt-ltb (length l) 16 few, is)

    -- "ends with the bits, count and refusal that it gets alone": c is what admission left in its buffers
    pub admitted_alone : (row : List (Call I B)) (i : I) (b c d : B) (e : E) (next : List (Call I B)) (r : R) → length (from_empty enter fits serve row) < 16 → enter i b ≡ Entered e
        → Queue.EndsIn enter fits serve left (smallest_free (from_empty enter fits serve row)) (after (from_empty enter fits serve row) (Admit i b)) c next r d → Queue.Alone enter fits serve left e c r d
    admitted_alone row i b c d e next r few is h =
        let l = from_empty enter fits serve row in
        let z = admitted_last l i b e few is in
        let p : Place (after l (Admit i b)) (smallest_free l) (length l) e = subst (λ (m : List (Waiting E)). Place m (smallest_free l) (length l) e) (sym z) (last_place l (smallest_free l) e) in
        ends_alone enter fits serve left h (length l) e (sound_after enter fits serve l (Admit i b) (sound row)) p
