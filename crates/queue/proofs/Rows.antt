-- Rows of calls: a path keeps its place until it is served, is served within 16 turns, and ends as alone.
use Prim.Native.Nat.{ℕ, suc, ◌≤◌, ◌<◌}
use native.Mathlib.Omega.{arith}
use mathlib.Core.Path.{◌≡◌, refl, sym, ap, ◌∙◌, subst}
use mathlib.Core.Bool.{Bool, true, false, cond, ◌||◌, true≢false}
use mathlib.Core.Logic.{◌⊎◌, inl, inr}
use mathlib.Core.List.{List, [], ◌∷◌, ◌++◌, append_assoc, head-eq_of_cons-eq, tail-eq_of_cons-eq}
use borrow.Author.Tests.{eqb-false, eq-eqb, ne_eqb, ltb-true}
use lib.Dec.{eqb, ltb}
use lib.ListN.{length, length-append}
use Rattle.lists.specs.Search.{any}
use Rattle.queue.specs.Queue
use Rattle.queue.specs.Queue.{Outcome, Still, Over, Entering, Entered, Refused, Waiting, Call, Admit, Next, Turn, Count, has, smallest_free}
use Rattle.queue.specs.Places.{waits, Distinct, Place, Kept}
use Rattle.queue.proofs.Numbers.{free_not}

-- ---- each number once
or_false : (a b : Bool) → (a || b) ≡ false → (a ≡ false) × (b ≡ false)
or_false true b h = absurd (true≢false h)
or_false false b h = (refl, h)

module _ {E : Type 0} where
  has_snoc : (l : List (Waiting E)) (w : Waiting E) (k : ℕ) → has l k ≡ false → (w.number ≡ k → ⊥) → has (l ++ w ∷ []) k ≡ false
  unfolding has any
  has_snoc [] w k h d = rw (ne_eqb w.number k d)
  has_snoc (x ∷ l) w k h d = let p = or_false (eqb x.number k) (has l k) h in rw p.0 (has_snoc l w k p.1 d)

  has_head : (w : Waiting E) (l : List (Waiting E)) (k : ℕ) → has (w ∷ l) k ≡ false → ((w.number ≡ k) → ⊥) × (has l k ≡ false)
  unfolding has any
  has_head w l k h = let p = or_false (eqb w.number k) (has l k) h in (eqb-false w.number k p.0, p.1)

  pub distinct_snoc : (l : List (Waiting E)) (w : Waiting E) → Distinct l → has l w.number ≡ false → Distinct (l ++ w ∷ [])
  unfolding has any
  distinct_snoc [] w d h = (refl, tt)
  distinct_snoc (x ∷ l) w d h =
      let p = has_head x l w.number h in
      (has_snoc l w x.number d.0 (λ e. p.0 (sym e)), distinct_snoc l w d.1 p.1)

  has_inside : (p : List (Waiting E)) (w : Waiting E) (q : List (Waiting E)) → has (p ++ w ∷ q) w.number ≡ true
  unfolding has any
  has_inside [] w q = rw (eq-eqb w.number w.number refl)
  has_inside (x ∷ p) w q = go (eqb x.number w.number) (has_inside p w q)
    where
      go : (b : Bool) → has (p ++ w ∷ q) w.number ≡ true → (b || has (p ++ w ∷ q) w.number) ≡ true
      go true e = refl
      go false e = e

  pub place_below : {l : List (Waiting E)} {k i : ℕ} {e : E} → Place l k i e → i < length l
  place_below {l} {k} {i} {e} p = let a = ap length p.is in let b = length-append p.front (waits k e ∷ p.back) in let c = p.long in omega arith

  place_more : {l : List (Waiting E)} {k i : ℕ} {e : E} (x : Waiting E) → Place l k i e → Place (l ++ x ∷ []) k i e
  place_more {l} {k} {i} {e} x p = record {
    front = p.front;
    back = p.back ++ x ∷ [];
    is = ap (λ (z : List (Waiting E)). z ++ x ∷ []) p.is ∙ append_assoc p.front (waits k e ∷ p.back) (x ∷ []);
    long = p.long;
  }

  -- the head of a list is path k itself, or path k stands behind it
  pub head_or : (w : Waiting E) (l : List (Waiting E)) (k i : ℕ) (e : E) → Place (w ∷ l) k i e → ((w ≡ waits k e) × (i ≡ 0)) ⊎ ((j : ℕ) × ((i ≡ suc j) × Place l k j e))
  head_or w l k i e p = go p.front p.is p.long
    where
      go : (f : List (Waiting E)) → w ∷ l ≡ f ++ waits k e ∷ p.back → length f ≡ i → ((w ≡ waits k e) × (i ≡ 0)) ⊎ ((j : ℕ) × ((i ≡ suc j) × Place l k j e))
      go [] h n = inl (head-eq_of_cons-eq h, sym n)
      go (x ∷ f) h n = inr (length f, (sym n, record { front = f; back = p.back; is = tail-eq_of_cons-eq h; long = refl }))

  -- a path that joined waits last
  pub last_place : (l : List (Waiting E)) (k : ℕ) (e : E) → Place (l ++ waits k e ∷ []) k (length l) e
  last_place l k e = record { front = l; back = []; is = refl; long = refl }

  pub behind_has : (l : List (Waiting E)) (k j : ℕ) (e : E) → Place l k j e → has l k ≡ true
  behind_has l k j e p = ap (λ (z : List (Waiting E)). has z k) p.is ∙ has_inside p.front (waits k e) p.back

module _ {E B I R : Type 0} (enter : I → B → Entering E) (fits : E → B → Bool) (serve : E → B → Outcome E R) where
  abbrev after : List (Waiting E) → Call I B → List (Waiting E)
  after = Queue.after enter fits serve

  abbrev serves : List (Waiting E) → Call I B → ℕ → Bool
  serves = Queue.serves enter fits serve

  abbrev turns : List (Waiting E) → Call I B → ℕ
  turns = Queue.turns enter fits serve

  -- ---- after any call the numbers are still each one's own, and at most 16
  pub record Sound (l : List (Waiting E)) : Type 0 where
    pub distinct : Distinct l
    pub few : length l ≤ 16

  requeued_sound : (w : Waiting E) (l : List (Waiting E)) (o : Outcome E R) → Sound (w ∷ l) → Sound (Queue.requeued enter fits serve l w.number o)
  requeued_sound w l (Still e) s =
      let n = length-append l (waits w.number e ∷ []) in
      let f = s.few in
      record { distinct = distinct_snoc l (waits w.number e) s.distinct.1 s.distinct.0; few = omega arith }
  requeued_sound w l (Over r) s = let f = s.few in record { distinct = s.distinct.1; few = omega arith }

  joined_sound : (l : List (Waiting E)) (x : Entering E) → Sound l → length l < 16 → Sound (Queue.joined enter fits serve l x)
  joined_sound l (Entered e) s h =
      let n = length-append l (waits (smallest_free l) e ∷ []) in
      record { distinct = distinct_snoc l (waits (smallest_free l) e) s.distinct (free_not l h); few = omega arith }
  joined_sound l (Refused r) s h = s

  pub sound_after : (l : List (Waiting E)) (c : Call I B) → Sound l → Sound (after l c)
  sound_after l (Admit i b) s = go (ltb (length l) 16) (ltb-true (length l) 16)
    where
      go : (t : Bool) → (t ≡ true → length l < 16) → Sound (cond t (Queue.joined enter fits serve l (enter i b)) l)
      go true h = joined_sound l (enter i b) s (h refl)
      go false h = s
  sound_after l Next s = s
  sound_after [] (Turn b) s = s
  sound_after (w ∷ l) (Turn b) s = go (fits w.path b)
    where
      go : (t : Bool) → Sound (cond t (Queue.requeued enter fits serve l w.number (serve w.path b)) (w ∷ l))
      go true = requeued_sound w l (serve w.path b) s
      go false = s
  sound_after l (Count k) s = s

  pub sound_empty : Sound []
  sound_empty = record { distinct = tt; few = omega arith }

  -- ---- a call that does not serve path k keeps it, one place nearer with each turn
  requeued_place : (l : List (Waiting E)) (n : ℕ) (o : Outcome E R) {k i : ℕ} {e : E} → Place l k i e → Place (Queue.requeued enter fits serve l n o) k i e
  requeued_place l n (Still d) p = place_more (waits n d) p
  requeued_place l n (Over r) p = p

  joined_place : (l : List (Waiting E)) (x : Entering E) {k i : ℕ} {e : E} → Place l k i e → Place (Queue.joined enter fits serve l x) k i e
  joined_place l (Entered d) p = place_more (waits (smallest_free l) d) p
  joined_place l (Refused r) p = p

  pub kept : (l : List (Waiting E)) (c : Call I B) (k i : ℕ) (e : E) → Place l k i e → serves l c k ≡ false → Kept enter fits serve l c k i e
  kept l (Admit x b) k i e p h = record { place = i; nearer = omega arith; there = go (ltb (length l) 16) }
    where
      go : (t : Bool) → Place (cond t (Queue.joined enter fits serve l (enter x b)) l) k i e
      go true = joined_place l (enter x b) p
      go false = p
  kept l Next k i e p h = record { place = i; nearer = omega arith; there = p }
  kept l (Count n) k i e p h = record { place = i; nearer = omega arith; there = p }
  kept [] (Turn b) k i e p h = record { place = i; nearer = omega arith; there = p }
  kept (w ∷ l) (Turn b) k i e p h = go (fits w.path b) refl h (head_or w l k i e p)
    where
      go : (t : Bool) → fits w.path b ≡ t → cond t (eqb w.number k) false ≡ false → ((w ≡ waits k e) × (i ≡ 0)) ⊎ ((j : ℕ) × ((i ≡ suc j) × Place l k j e)) → Kept enter fits serve (w ∷ l) (Turn b) k i e
      go false f u v = record { place = i; nearer = rw f (omega arith); there = rw f p }
      go true f u (inl v) = absurd (eqb-false w.number k u (ap (λ (x : Waiting E). x.number) v.0))
      go true f u (inr (j, v)) =
          let n = v.0 in
          record { place = j; nearer = rw f (omega arith); there = rw f (requeued_place l w.number (serve w.path b) v.1) }

  -- ---- "an unfinished path is served again within 16 turns that are not refused"
  served_soon : (row : List (Call I B)) (l : List (Waiting E)) (k i : ℕ) (e : E) → Place l k i e → i < Queue.turns_in enter fits serve l row → Queue.ServedIn enter fits serve k l row
  served_soon [] l k i e p h = absurd (omega arith)
  served_soon (c ∷ row) l k i e p h = go (serves l c k) refl (served_soon row)
    where
      go : (t : Bool) → serves l c k ≡ t → ((m : List (Waiting E)) (k i : ℕ) (e : E) → Place m k i e → i < Queue.turns_in enter fits serve m row → Queue.ServedIn enter fits serve k m row)
          → Queue.ServedIn enter fits serve k l (c ∷ row)
      go true f ih = Queue.now f
      go false f ih = let q = kept l c k i e p f in let n = q.nearer in Queue.later (ih (after l c) k q.place e q.there (omega arith))

  pub served_within : (l : List (Waiting E)) → Sound l → (k i : ℕ) (e : E) → Place l k i e → (row : List (Call I B)) → 16 ≤ Queue.turns_in enter fits serve l row → Queue.ServedIn enter fits serve k l row
  served_within l s k i e p row h = let a = place_below p in let b = s.few in served_soon row l k i e p (omega arith)

  -- ---- "ends with the bits, count and refusal that it gets alone; other contents change no other path"
  module _ (left : E → B → B) where
    head_is : (w : Waiting E) (l : List (Waiting E)) (k i : ℕ) (e : E) → Sound (w ∷ l) → Place (w ∷ l) k i e → w.number ≡ k → w.path ≡ e
    head_is w l k i e s p n = go (head_or w l k i e p)
      where
        go : ((w ≡ waits k e) × (i ≡ 0)) ⊎ ((j : ℕ) × ((i ≡ suc j) × Place l k j e)) → w.path ≡ e
        go (inl v) = ap (λ (x : Waiting E). x.path) v.0
        go (inr (j, v)) = absurd (true≢false (sym (behind_has l k j e v.1) ∙ ap (has l) (sym n) ∙ s.distinct.0))

    pub ends_alone : {k : ℕ} {l : List (Waiting E)} {b c : B} {row : List (Call I B)} {r : R} → Queue.EndsIn enter fits serve left k l b row r c
        → (i : ℕ) (e : E) → Sound l → Place l k i e → Queue.Alone enter fits serve left e b r c
    ends_alone {k} {l} (Queue.elsewhere {call = call} h rest) i e s p =
        let q = kept l call k i e p h in
        ends_alone rest q.place e (sound_after l call s) q.there
    ends_alone {k} (Queue.turn_on {w = w} {l = l} {b = b} {c = c} {row = row} {r = r} {e = d} n f o rest) i e s p =
        let a = head_is w l k i e s p n in
        let z : after (w ∷ l) (Turn b) ≡ l ++ waits w.number d ∷ [] = rw (f, o) in
        let t : Place (after (w ∷ l) (Turn b)) k (length l) d = subst (λ (m : List (Waiting E)). Place m k (length l) d) (sym z) (subst (λ (x : ℕ). Place (l ++ waits x d ∷ []) k (length l) d) (sym n) (last_place l k d)) in
        let on = ends_alone rest (length l) d (sound_after (w ∷ l) (Turn b) s) t in
        subst (λ (x : E). Queue.Alone enter fits serve left x b r c) a (Queue.goes_on o on)
    ends_alone {k} (Queue.turn_over {w = w} {l = l} {b = b} {r = r} n f o) i e s p =
        let a = head_is w l k i e s p n in
        subst (λ (x : E). Queue.Alone enter fits serve left x b r (left w.path b)) a (Queue.ends o)
