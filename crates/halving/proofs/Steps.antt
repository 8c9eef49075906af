-- Steps of a halving, one after another and without a cap, and what holds of the list that they lead to: the given items stand
-- in it in order, each item put in is the midpoint of two that divide, and there are as many of these as steps.
use Prim.Native.Nat.{ℕ, zero, suc, ◌+◌, ◌-◌, ◌≤◌}
use native.Mathlib.Nat.{zero-add, suc-add}
use native.Mathlib.Numerals.{add-one}
use native.Mathlib.Omega.{arith}
use mathlib.Core.Path.{◌≡◌, refl, sym, ap, ◌∙◌, subst}
use mathlib.Core.Logic.{◌⊎◌, inl, inr}
use mathlib.Core.Bool.{Bool, true, false}
use mathlib.Core.Option.{none, some}
use mathlib.Core.List.{List, [], ◌∷◌, ◌++◌, head-eq_of_cons-eq, tail-eq_of_cons-eq, nil≢cons}
use mathlib.Core.List.Sublistᴰ
use mathlib.Core.List.{Sublistᴰ}
use mathlib.Core.List.Memᴰ
use mathlib.Core.List.{Memᴰ}
use lib.Seq.{append_snoc}
use lib.ListN.{length}
use Rattle.halving.specs.Halving.{onto, step, Steps, here, more, Needs}
use Rattle.halving.proofs.Step.{some_none, none_cases, some_cases, Some-cases, step_keeps, step_length}

some_one : {A : Type 0} {a b : A} → some a ≡ some b → a ≡ b
some_one e = cc

pub sub_behind : {A : Type 0} (p : List A) {q r : List A} → Sublistᴰ q r → Sublistᴰ (p ++ q) (p ++ r)
sub_behind [] s = s
sub_behind (a ∷ p) s = Sublistᴰ.cons-cons refl (sub_behind p s)

module _ {A : Type 0} (divides : A → A → Bool) (mid : A → A → A) where
  -- ---- no two neighbours of a list divide: there is no step
  abbrev pub Kept : List A → Type 0
  Kept l = (p : List A) (x y : A) (q : List A) → l ≡ p ++ x ∷ y ∷ q → divides x y ≡ false

  kept_nil : Kept []
  kept_nil [] x y q e = absurd (nil≢cons e)
  kept_nil (a ∷ p) x y q e = absurd (nil≢cons e)

  kept_one : (x : A) → Kept (x ∷ [])
  kept_one z [] x y q e = absurd (nil≢cons (tail-eq_of_cons-eq e))
  kept_one z (a ∷ []) x y q e = absurd (nil≢cons (tail-eq_of_cons-eq e))
  kept_one z (a ∷ b ∷ p) x y q e = absurd (nil≢cons (tail-eq_of_cons-eq e))

  kept_cons : (a b : A) (l : List A) → divides a b ≡ false → Kept (b ∷ l) → Kept (a ∷ b ∷ l)
  kept_cons a b l e k [] x y q f =
      let u = head-eq_of_cons-eq f in
      let v = head-eq_of_cons-eq (tail-eq_of_cons-eq f) in
      rw (← u, ← v) e
  kept_cons a b l e k (c ∷ p) x y q f = k p x y q (tail-eq_of_cons-eq f)

  pub none_kept : (l : List A) → step divides mid l ≡ none → Kept l
  none_kept [] h = kept_nil
  none_kept (x ∷ []) h = kept_one x
  none_kept (x ∷ y ∷ l) h = let c = none_cases divides mid x y l h in kept_cons x y l c.0 (none_kept (y ∷ l) c.1)

  pub kept_none : (l : List A) → Kept l → step divides mid l ≡ none
  unfolding step
  kept_none [] k = refl
  kept_none (x ∷ []) k = refl
  kept_none (x ∷ y ∷ l) k =
      step_keeps divides mid x y l (k [] x y l refl)
      ∙ ap (onto x) (kept_none (y ∷ l) (λ p a b q e. k (x ∷ p) a b q (ap (λ (t : List A). x ∷ t) e)))

  -- ---- what a step does: m is l with the midpoint of two neighbours that divide between them, and no two before these divide
  pub record Division (l m : List A) : Type 0 where
    pub front : List A
    pub left : A
    pub right : A
    pub back : List A
    pub was : l ≡ front ++ left ∷ right ∷ back
    pub is : m ≡ front ++ left ∷ mid left right ∷ right ∷ back
    pub failed : divides left right ≡ true
    pub first : Kept (front ++ left ∷ [])

  pub step_division : (l m : List A) → step divides mid l ≡ some m → Division l m
  unfolding step
  step_division [] m h = some_none _ _ h refl
  step_division (x ∷ []) m h = some_none _ _ h refl
  step_division (x ∷ y ∷ l) m h = go (some_cases divides mid x y l m h) (step_division (y ∷ l))
    where
      longer : (t : List A) → divides x y ≡ false → Division (y ∷ l) t → m ≡ x ∷ t → Division (x ∷ y ∷ l) m
      longer t e d f =
          record {
            front = x ∷ d.front;
            left = d.left;
            right = d.right;
            back = d.back;
            was = ap (λ (z : List A). x ∷ z) d.was;
            is = f ∙ ap (λ (z : List A). x ∷ z) d.is;
            failed = d.failed;
            first = headed d.front d.left d.was d.first;
          }
        where
          headed : (p : List A) (a : A) → y ∷ l ≡ p ++ a ∷ d.right ∷ d.back → Kept (p ++ a ∷ []) → Kept (x ∷ (p ++ a ∷ []))
          headed [] a w k = kept_cons x a [] (rw (← (head-eq_of_cons-eq w)) e) k
          headed (b ∷ p) a w k = kept_cons x b (p ++ a ∷ []) (rw (← (head-eq_of_cons-eq w)) e) k

      go : Some-cases divides mid x y l m → ((t : List A) → step divides mid (y ∷ l) ≡ some t → Division (y ∷ l) t) → Division (x ∷ y ∷ l) m
      go (inl c) ih = record { front = []; left = x; right = y; back = l; was = refl; is = c.1; failed = c.0; first = kept_one x }
      go (inr c) ih = longer c.1.0 c.0 (ih c.1.0 c.1.1) c.1.2

  -- ---- steps, one after another
  pub steps_length : {l r : List A} {j : ℕ} → Steps divides mid l j r → length r ≡ length l + j
  steps_length here = omega arith
  steps_length (more {l = l} {m = m} h s) = let a = step_length divides mid l m h in let b = steps_length s in omega arith

  -- they lead to one list only
  pub steps_one : {l r t : List A} {j : ℕ} → Steps divides mid l j r → Steps divides mid l j t → r ≡ t
  steps_one here here = refl
  steps_one (more {m = m} {j = j} h s) (more {m = n} {r = t} k u) =
      let e : n ≡ m = some_one (sym k ∙ h) in
      steps_one s (subst (λ (z : List A). Steps divides mid z j t) e u)

  -- a steps and then b steps are a + b steps, and a + b steps are a steps and then b steps
  pub steps_then : {l m r : List A} {a b : ℕ} → Steps divides mid l a m → Steps divides mid m b r → Steps divides mid l (a + b) r
  steps_then {l} {r = r} {b = b} here t = subst (λ (j : ℕ). Steps divides mid l j r) (sym (zero-add b)) t
  steps_then {l} {r = r} {b = b} (more {j = a} h s) t = subst (λ (j : ℕ). Steps divides mid l j r) (sym (suc-add a b)) (more h (steps_then s t))

  pub steps_apart : (a b : ℕ) {l r : List A} → Steps divides mid l (a + b) r → (m : List A) × (Steps divides mid l a m × Steps divides mid m b r)
  steps_apart zero b {l} {r} s = (l, (here, subst (λ (j : ℕ). Steps divides mid l j r) (zero-add b) s))
  steps_apart (suc a) b {l} {r} s = go (subst (λ (j : ℕ). Steps divides mid l j r) (suc-add a b) s) (λ u t. steps_apart a b t)
    where
      go : Steps divides mid l (suc (a + b)) r → ((u : List A) → Steps divides mid u (a + b) r → (m : List A) × (Steps divides mid u a m × Steps divides mid m b r)) → (m : List A) × (Steps divides mid l (suc a) m × Steps divides mid m b r)
      go (more h t) ih = let (m, q) = ih _ t in (m, (more h q.0, q.1))

  -- one step more at the end, and the last step taken off
  pub steps_more : {l r m : List A} {j : ℕ} → Steps divides mid l j r → step divides mid r ≡ some m → Steps divides mid l (suc j) m
  steps_more {l} {m = m} {j = j} s e = subst (λ (i : ℕ). Steps divides mid l i m) (add-one j) (steps_then s (more e here))

  pub steps_last : (j : ℕ) {l m : List A} → Steps divides mid l (suc j) m → (r : List A) × (Steps divides mid l j r × (step divides mid r ≡ some m))
  steps_last j {l} {m} s = go (steps_apart j 1 (subst (λ (i : ℕ). Steps divides mid l i m) (sym (add-one j)) s))
    where
      go : (r : List A) × (Steps divides mid l j r × Steps divides mid r 1 m) → (r : List A) × (Steps divides mid l j r × (step divides mid r ≡ some m))
      go (r, (t, more e here)) = (r, (t, e))

  pub needs_less : {i j : ℕ} {l : List A} → i ≤ j → Needs divides mid j l → Needs divides mid i l
  needs_less {i} {j} {l} h (r, s) =
      let e : j ≡ i + (j - i) = omega arith in
      let (m, q) = steps_apart i (j - i) (subst (λ (z : ℕ). Steps divides mid l z r) e s) in
      (m, q.0)

  -- ---- the given items stand in the result, in order
  pub step_sub : (l m : List A) → step divides mid l ≡ some m → Sublistᴰ l m
  step_sub l m h =
      let d = step_division l m h in
      subst (λ (z : List A). Sublistᴰ l z) (sym d.is)
      (subst (λ (z : List A). Sublistᴰ z (d.front ++ d.left ∷ mid d.left d.right ∷ d.right ∷ d.back)) (sym d.was)
      (sub_behind d.front (Sublistᴰ.cons-cons refl (Sublistᴰ.cons (Sublistᴰ.refl (d.right ∷ d.back))))))

  pub steps_sub : {l r : List A} {j : ℕ} → Steps divides mid l j r → Sublistᴰ l r
  steps_sub {l} here = Sublistᴰ.refl l
  steps_sub (more {l = l} {m = m} h s) = Sublistᴰ.trans (step_sub l m h) (steps_sub s)

  -- ---- r is l with j items put in, each the midpoint of two that divide
  pub data Woven : List A → ℕ → List A → Type 0 where
    w_nil : Woven [] 0 []
    w_given : {x : A} {l r : List A} {j : ℕ} → Woven l j r → Woven (x ∷ l) j (x ∷ r)
    w_between : {x y : A} {l r : List A} {j : ℕ} → divides x y ≡ true → Woven l j r → Woven l (suc j) (mid x y ∷ r)

  woven_self : (l : List A) → Woven l 0 l
  woven_self [] = w_nil
  woven_self (x ∷ l) = w_given (woven_self l)

  -- a midpoint among the given is one more of those put in
  woven_more : {l0 r : List A} {j : ℕ} → Woven l0 j r → (p : List A) (x y : A) (q : List A) → l0 ≡ p ++ mid x y ∷ q → divides x y ≡ true → Woven (p ++ q) (suc j) r
  woven_more w_nil [] x y q e h = absurd (nil≢cons e)
  woven_more w_nil (b ∷ p) x y q e h = absurd (nil≢cons e)
  woven_more (w_given {x = a} {r = r} {j = j} s) [] x y q e h =
      subst (λ (z : A). Woven q (suc j) (z ∷ r)) (sym (head-eq_of_cons-eq e)) (w_between h (subst (λ (z : List A). Woven z j r) (tail-eq_of_cons-eq e) s))
  woven_more (w_given {x = a} {r = r} {j = j} s) (b ∷ p) x y q e h =
      subst (λ (z : A). Woven (z ∷ (p ++ q)) (suc j) (a ∷ r)) (head-eq_of_cons-eq e) (w_given (woven_more s p x y q (tail-eq_of_cons-eq e) h))
  woven_more (w_between k s) p x y q e h = w_between k (woven_more s p x y q e h)

  pub steps_woven : {l r : List A} {j : ℕ} → Steps divides mid l j r → Woven l j r
  steps_woven {l} here = woven_self l
  steps_woven (more {l = l} {m = m} {r = r} {j = j} h s) =
      let d = step_division l m h in
      let p = d.front ++ d.left ∷ [] in
      let q = d.right ∷ d.back in
      let n = mid d.left d.right in
      let u : m ≡ p ++ n ∷ q = d.is ∙ sym (append_snoc d.front d.left (n ∷ q)) in
      let v : l ≡ p ++ q = d.was ∙ sym (append_snoc d.front d.left q) in
      subst (λ (z : List A). Woven z (suc j) r) (sym v) (woven_more (steps_woven s) p d.left d.right q u d.failed)

  -- ---- what holds of the given items, and of the midpoint of two of which it holds, holds of all
  module _ (P : A → Type 0) (closed : (x y : A) → P x → P y → P (mid x y)) where
    division_all : (l m : List A) → Division l m → ((x : A) → Memᴰ x l → P x) → (x : A) → Memᴰ x m → P x
    division_all l m d h x i =
        let h' : (z : A) → Memᴰ z (d.front ++ d.left ∷ d.right ∷ d.back) → P z = λ z w. h z (subst (λ (t : List A). Memᴰ z t) (sym d.was) w) in
        among (Memᴰ.append_cases d.front (subst (λ (t : List A). Memᴰ x t) d.is i)) h'
      where
        among : Memᴰ x d.front ⊎ Memᴰ x (d.left ∷ mid d.left d.right ∷ d.right ∷ d.back)
            → ((z : A) → Memᴰ z (d.front ++ d.left ∷ d.right ∷ d.back) → P z) → P x
        among (inl w) h' = h' x (Memᴰ.append_left _ w)
        among (inr w) h' = at_left (Memᴰ.cases_cons w)
          where
            in_rest : Memᴰ x (d.left ∷ d.right ∷ d.back) → P x
            in_rest v = h' x (Memᴰ.append_right d.front v)

            at_mid : (x ≡ mid d.left d.right) ⊎ Memᴰ x (d.right ∷ d.back) → P x
            at_mid (inl e) =
                subst P (sym e)
                (closed d.left d.right (h' d.left (Memᴰ.append_right d.front (Memᴰ.head refl)))
                (h' d.right (Memᴰ.append_right d.front (Memᴰ.tail (Memᴰ.head refl)))))
            at_mid (inr v) = in_rest (Memᴰ.tail v)

            at_left : (x ≡ d.left) ⊎ Memᴰ x (mid d.left d.right ∷ d.right ∷ d.back) → P x
            at_left (inl e) = in_rest (Memᴰ.head e)
            at_left (inr v) = at_mid (Memᴰ.cases_cons v)

    pub steps_all : {l r : List A} {j : ℕ} → Steps divides mid l j r → ((x : A) → Memᴰ x l → P x) → (x : A) → Memᴰ x r → P x
    steps_all here h x m = h x m
    steps_all (more {l = l} {m = t} e s) h x m = steps_all s (division_all l t (step_division l t e) h) x m
