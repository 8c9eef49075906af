-- Laws of the searches of a list, and a loop that goes through its first n elements until one passes: one record for the
-- loop's invariant, laws for its start and its step, and two for each way to say what it has come to, found or not.
use Prim.Native.Nat.{ℕ, zero, suc, ◌+◌, ◌≤◌, ◌<◌}
use native.Mathlib.Nat.{le_of_suc-le-suc, add-zero}
use native.Mathlib.Omega.{arith}
use mathlib.Core.Path.{◌≡◌, refl, sym, ◌∙◌, ap}
use mathlib.Core.Logic.{◌↔◌}
use mathlib.Core.Bool.{Bool, true, false, cond, not, ◌&&◌, ◌||◌, and-eq-true_iff}
use mathlib.Core.List.{List, [], ◌∷◌}
use lib.Dec.{ltb, leb-suc-suc}
use lib.ListN.{length, take, drop, get_or}
use lib.Seq.{get_or-take, length-take-le}
use borrow.Author.Tests.{not-false, lt-ltb, le-ltb}
use Rattle.lists.specs.Search.{first_hit, any, all, first_answer}
use Rattle.lists.proofs.Fold.{drop_take_cons, drop_take_nil}

-- the head's test decides between 0 and one more than the tail's first hit
head_fails : (b : Bool) (m : ℕ) → 0 < cond b 0 (suc m) → b ≡ false
head_fails true m h = absurd (omega arith)
head_fails false m h = refl

tail_before : (b : Bool) (i m : ℕ) → suc i < cond b 0 (suc m) → i < m
tail_before true i m h = absurd (omega arith)
tail_before false i m h = le_of_suc-le-suc h

cond_le : (b : Bool) (m n : ℕ) → m ≤ n → cond b 0 (suc m) ≤ suc n
cond_le true m n h = omega arith
cond_le false m n h = omega arith

any_head : (b : Bool) (m n : ℕ) → (b || ltb m n) ≡ ltb (cond b 0 (suc m)) (suc n)
any_head true m n = sym (lt-ltb 0 (suc n) (omega arith))
any_head false m n = sym (leb-suc-suc (suc m) n)

not_and : (b c : Bool) → (b && not c) ≡ not (not b || c)
not_and true c = refl
not_and false c = refl

module _ {A : Type 0} (test : A → Bool) where
  pub first_hit_le : (l : List A) → first_hit test l ≤ length l
  unfolding first_hit
  first_hit_le [] = omega arith
  first_hit_le (x ∷ l) = cond_le (test x) (first_hit test l) (length l) (first_hit_le l)

  pub first_hit_before : (l : List A) (i : ℕ) (d : A) → i < first_hit test l → test (get_or l i d) ≡ false
  unfolding first_hit
  first_hit_before [] i d h = absurd (omega arith)
  first_hit_before (x ∷ l) zero d h = head_fails (test x) (first_hit test l) h
  first_hit_before (x ∷ l) (suc i) d h = first_hit_before l i d (tail_before (test x) i (first_hit test l) h)

  at_head : (x : A) (l : List A) (d : A) (m : ℕ) (b : Bool) → test x ≡ b → (m < length l → test (get_or l m d) ≡ true) → cond b 0 (suc m) < suc (length l)
      → test (get_or (x ∷ l) (cond b 0 (suc m)) d) ≡ true
  at_head x l d m true e f h = e
  at_head x l d m false e f h = f (le_of_suc-le-suc h)

  pub first_hit_there : (l : List A) (d : A) → first_hit test l < length l → test (get_or l (first_hit test l) d) ≡ true
  unfolding first_hit
  first_hit_there [] d h = absurd (omega arith)
  first_hit_there (x ∷ l) d h = at_head x l d (first_hit test l) (test x) refl (first_hit_there l d) h

  -- an index before which nothing passes, and where an element passes unless it is the length
  pub first_hit_unique : (l : List A) (i : ℕ) (d : A) → i ≤ length l → ((j : ℕ) → j < i → test (get_or l j d) ≡ false) → (i < length l → test (get_or l i d) ≡ true) → first_hit test l ≡ i
  unfolding first_hit
  first_hit_unique [] i d h f p = omega arith
  first_hit_unique (x ∷ l) zero d h f p = rw (p (omega arith))
  first_hit_unique (x ∷ l) (suc i) d h f p =
      rw (f 0 (omega arith))
      (ap suc (first_hit_unique l i d (le_of_suc-le-suc h) (λ j q. f (suc j) (omega arith)) (λ q. p (omega arith))))

  pub first_hit_none : (l : List A) (d : A) → (first_hit test l ≡ length l) ↔ ((i : ℕ) → i < length l → test (get_or l i d) ≡ false)
  first_hit_none l d =
      (λ e i h. first_hit_before l i d (omega arith), λ f. first_hit_unique l (length l) d (omega arith) f (λ h. absurd (omega arith)))

  pub any_within : (l : List A) → any test l ≡ ltb (first_hit test l) (length l)
  unfolding any first_hit
  any_within [] = refl
  any_within (x ∷ l) = rw (any_within l) (any_head (test x) (first_hit test l) (length l))

module _ {A : Type 0} (test : A → Bool) where
  pub first_miss_none : (l : List A) (d : A) → (first_hit (λ (x : A). not (test x)) l ≡ length l) ↔ ((i : ℕ) → i < length l → test (get_or l i d) ≡ true)
  first_miss_none l d =
      let e = first_hit_none (λ (x : A). not (test x)) l d in
      (λ h i p. not-false _ (e.0 h i p), λ f. e.1 (λ i p. ap not (f i p)))

  pub all_not_any : (l : List A) → all test l ≡ not (any (λ (x : A). not (test x)) l)
  unfolding all any
  all_not_any [] = refl
  all_not_any (x ∷ l) = rw (all_not_any l) (not_and (test x) (any (λ (y : A). not (test y)) l))

  all_at : (l : List A) (i : ℕ) (d : A) → all test l ≡ true → i < length l → test (get_or l i d) ≡ true
  unfolding all
  all_at [] i d e h = absurd (omega arith)
  all_at (x ∷ l) zero d e h = ((and-eq-true_iff (test x) (all test l)).0 e).0
  all_at (x ∷ l) (suc i) d e h = all_at l i d ((and-eq-true_iff (test x) (all test l)).0 e).1 (le_of_suc-le-suc h)

  at_all : (l : List A) (d : A) → ((i : ℕ) → i < length l → test (get_or l i d) ≡ true) → all test l ≡ true
  unfolding all
  at_all [] d f = refl
  at_all (x ∷ l) d f = rw (f 0 (omega arith)) (at_all l d (λ i h. f (suc i) (omega arith)))

  pub all_true : (l : List A) (d : A) → (all test l ≡ true) ↔ ((i : ℕ) → i < length l → test (get_or l i d) ≡ true)
  all_true l d = (λ e i h. all_at l i d e h, at_all l d)

module _ {A R : Type 0} (stops : R → Bool) (ask : A → R) (otherwise : R) where
  answer_head : (x : A) (l : List A) (d : A) (m : ℕ) (r : R) (b : Bool) → (m < length l → r ≡ ask (get_or l m d)) → cond b 0 (suc m) < suc (length l)
      → cond b (ask x) r ≡ ask (get_or (x ∷ l) (cond b 0 (suc m)) d)
  answer_head x l d m r true f h = refl
  answer_head x l d m r false f h = f (le_of_suc-le-suc h)

  pub answer_there : (l : List A) (d : A) → first_hit (λ (x : A). stops (ask x)) l < length l → first_answer stops ask otherwise l ≡ ask (get_or l (first_hit (λ (x : A). stops (ask x)) l) d)
  unfolding first_answer first_hit
  answer_there [] d h = absurd (omega arith)
  answer_there (x ∷ l) d h = answer_head x l d (first_hit (λ (y : A). stops (ask y)) l) (first_answer stops ask otherwise l) (stops (ask x)) (answer_there l d) h

  answer_past : (x : A) (l : List A) (m : ℕ) (r : R) (b : Bool) → (m ≡ length l → r ≡ otherwise) → cond b 0 (suc m) ≡ suc (length l) → cond b (ask x) r ≡ otherwise
  answer_past x l m r true f h = absurd (omega arith)
  answer_past x l m r false f h = f (omega arith)

  pub answer_otherwise : (l : List A) → first_hit (λ (x : A). stops (ask x)) l ≡ length l → first_answer stops ask otherwise l ≡ otherwise
  unfolding first_answer first_hit
  answer_otherwise [] h = refl
  answer_otherwise (x ∷ l) h = answer_past x l (first_hit (λ (y : A). stops (ask y)) l) (first_answer stops ask otherwise l) (stops (ask x)) (answer_otherwise l) h

-- none of the first k elements of l passes, of n that are to be searched
pub record Searching {A : Type 0} (test : A → Bool) (l : List A) (n k : ℕ) : Type 0 where
  pub within : k ≤ n
  pub room : n ≤ length l
  pub whole : k + first_hit test (drop k (take n l)) ≡ first_hit test (take n l)

module _ {A : Type 0} {test : A → Bool} {l : List A} {n : ℕ} where
  pub searching_start : n ≤ length l → Searching test l n 0
  searching_start p = record { within = omega arith; room = p; whole = omega arith }

  pub searching_step : {k : ℕ} (d : A) → k < n → Searching test l n k → test (get_or l k d) ≡ false → Searching test l n (k + 1)
  unfolding first_hit
  searching_step {k} d p g e =
      let q : n ≤ length l = g.room in
      let w : k + suc (first_hit test (drop (k + 1) (take n l))) ≡ first_hit test (take n l) = rw (drop_take_cons l n k d, e) at g.whole in
      record { within = omega arith; room = q; whole = omega arith }

  pub searching_found : {k : ℕ} (d : A) → k < n → Searching test l n k → test (get_or l k d) ≡ true → k ≡ first_hit test (take n l)
  unfolding first_hit
  searching_found {k} d p g e =
      let q : n ≤ length l = g.room in
      rw (drop_take_cons l n k d, e, add-zero) at g.whole

  pub searching_none : {k : ℕ} → n ≤ k → Searching test l n k → n ≡ first_hit test (take n l)
  unfolding first_hit
  searching_none {k} p g =
      let q : n ≤ length l = g.room in
      let w : k + 0 ≡ first_hit test (take n l) = rw (drop_take_nil l n k) at g.whole in
      omega arith

  pub searching_any : {k : ℕ} (d : A) → k < n → Searching test l n k → test (get_or l k d) ≡ true → true ≡ any test (take n l)
  searching_any {k} d p g e =
      let q : n ≤ length l = g.room in
      rw (any_within test (take n l), ← searching_found d p g e, length-take-le n l, lt-ltb k n p)

  pub searching_not_any : {k : ℕ} → n ≤ k → Searching test l n k → false ≡ any test (take n l)
  searching_not_any p g =
      let q : n ≤ length l = g.room in
      let e : first_hit test (take n l) ≡ n = sym (searching_none p g) in
      rw (any_within test (take n l), e, length-take-le n l, le-ltb n n (omega arith))

-- a loop that goes on while the elements pass
module _ {A : Type 0} (test : A → Bool) {l : List A} {n k : ℕ} where
  pub searching_not_all : (d : A) → k < n → Searching (λ (x : A). not (test x)) l n k → test (get_or l k d) ≡ false → false ≡ all test (take n l)
  searching_not_all d p g e = rw (all_not_any test (take n l), ← searching_any d p g (ap not e))

  pub searching_all : n ≤ k → Searching (λ (x : A). not (test x)) l n k → true ≡ all test (take n l)
  searching_all p g = rw (all_not_any test (take n l), ← searching_not_any p g)

-- a loop that hands back the first answer that stops it
module _ {A R : Type 0} (stops : R → Bool) (ask : A → R) (otherwise : R) {l : List A} {n k : ℕ} where
  pub searching_answer : {r : R} (d : A) → k < n → Searching (λ (x : A). stops (ask x)) l n k → ask (get_or l k d) ≡ r → stops r ≡ true → r ≡ first_answer stops ask otherwise (take n l)
  searching_answer d p g e s =
      let q : n ≤ length l = g.room in
      let f : first_hit (λ (x : A). stops (ask x)) (take n l) ≡ k = sym (searching_found d p g (ap stops e ∙ s)) in
      let h : first_hit (λ (x : A). stops (ask x)) (take n l) < length (take n l) = rw length-take-le (omega arith) in
      rw (answer_there stops ask otherwise (take n l) d h, f, get_or-take n l k d, e)

  pub searching_otherwise : n ≤ k → Searching (λ (x : A). stops (ask x)) l n k → otherwise ≡ first_answer stops ask otherwise (take n l)
  searching_otherwise p g = sym (answer_otherwise stops ask otherwise (take n l) (sym (searching_none p g) ∙ sym (length-take-le n l g.room)))
