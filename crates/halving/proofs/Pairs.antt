-- The same halving pair by pair, as the Rust has it: what is inserted between two given neighbours depends on these two alone,
-- and is what comes before their midpoint, the midpoint, and what comes after it. The steps lead there, and nowhere else.
use Prim.Native.Nat.{ℕ, suc, ◌+◌}
use native.Mathlib.Nat.{add-suc}
use native.Mathlib.Omega.{arith}
use mathlib.Core.Path.{◌≡◌, refl, sym, ap, ◌∙◌, subst}
use mathlib.Core.Logic.{inl, inr}
use mathlib.Core.Bool.{Bool, true}
use mathlib.Core.Option.{none, some}
use mathlib.Core.List.{List, [], ◌∷◌, ◌++◌, append_assoc, head-eq_of_cons-eq, nil≢cons}
use mathlib.Core.List.{Sublistᴰ}
use lib.ListN.{length, length-append}
use Rattle.halving.specs.Halving.{step, Steps, here, more}
use Rattle.halving.specs.Inserting.{Between, undivided, divided, Inserts, no_item, one_item, more_items}
use Rattle.halving.proofs.Step.{some_none, true_false, none_cases, some_cases, Some-cases, step_one, past_divides, past_keeps}
use Rattle.halving.proofs.Steps.{steps_length, steps_then, sub_behind}

module _ {A : Type 0} (divides : A → A → Bool) (mid : A → A → A) where
  pub inserts_length : {l i r : List A} → Inserts divides mid l i r → length r ≡ length l + length i
  inserts_length no_item = omega arith
  inserts_length one_item = omega arith
  inserts_length (more_items {a = a} {i = i} {r = r} b s) =
      let e = inserts_length s in
      let f = length-append a r in
      let g = length-append a i in
      omega arith

  pub inserted_sub : {l i r : List A} → Inserts divides mid l i r → Sublistᴰ i r
  inserted_sub no_item = Sublistᴰ.slnil
  inserted_sub one_item = Sublistᴰ.cons Sublistᴰ.slnil
  inserted_sub (more_items {a = a} b s) = Sublistᴰ.cons (sub_behind a (inserted_sub s))

  -- ---- from the steps to the pairs
  inserts_self : (l : List A) → step divides mid l ≡ none → Inserts divides mid l [] l
  inserts_self [] h = no_item
  inserts_self (x ∷ []) h = one_item
  inserts_self (x ∷ y ∷ l) h = let c = none_cases divides mid x y l h in more_items (undivided c.0) (inserts_self (y ∷ l) c.1)

  step_head : (x : A) (l m : List A) → step divides mid (x ∷ l) ≡ some m → (t : List A) × (m ≡ x ∷ t)
  step_head x [] m h = some_none _ _ h (step_one divides mid x)
  step_head x (y ∷ l) m h = go (some_cases divides mid x y l m h)
    where
      go : Some-cases divides mid x y l m → (t : List A) × (m ≡ x ∷ t)
      go (inl c) = (mid x y ∷ y ∷ l, c.1)
      go (inr c) = (c.1.0, c.1.2)

  abbrev Into : List A → List A → Type 0
  Into l r = (i : List A) × Inserts divides mid l i r

  joined : {x y : A} {l i r : List A} → divides x y ≡ true → Inserts divides mid (x ∷ mid x y ∷ y ∷ l) i r → Into (x ∷ y ∷ l) r
  joined {x} {y} {l} e (more_items {a = a} p (more_items {a = b} {i = i} {r = r} q s)) =
      (_, subst (λ (z : List A). Inserts divides mid (x ∷ y ∷ l) ((a ++ mid x y ∷ b) ++ i) (x ∷ z)) (append_assoc a (mid x y ∷ b) r) (more_items (divided e p q) s))

  headed : {x y : A} {t l i r : List A} → Inserts divides mid (x ∷ y ∷ t) i r → ((q : List A) → Into (y ∷ t) q → Into (y ∷ l) q) → Into (x ∷ y ∷ l) r
  headed (more_items {i = i} {r = q} b s) f = (_, more_items b (f q (i, s)).1)

  unstep : (l m : List A) → step divides mid l ≡ some m → (r : List A) → Into m r → Into l r
  unfolding step
  unstep [] m h r s = some_none _ _ h refl
  unstep (x ∷ []) m h r s = some_none _ _ h refl
  unstep (x ∷ y ∷ l) m h r s = go (some_cases divides mid x y l m h) (unstep (y ∷ l))
    where
      kept : (t : List A) → step divides mid (y ∷ l) ≡ some t → Into (x ∷ t) r → ((q : List A) → Into t q → Into (y ∷ l) q) → Into (x ∷ y ∷ l) r
      kept t f u ih =
          let (w, v) = step_head y l t f in
          headed (subst (λ (z : List A). Into (x ∷ z) r) v u).1 (subst (λ (z : List A). (q : List A) → Into z q → Into (y ∷ l) q) v ih)

      go : Some-cases divides mid x y l m → ((t : List A) → step divides mid (y ∷ l) ≡ some t → (q : List A) → Into t q → Into (y ∷ l) q) → Into (x ∷ y ∷ l) r
      go (inl c) ih = joined c.0 (subst (λ (z : List A). Into z r) c.1 s).1
      go (inr c) ih = kept c.1.0 c.1.1 (subst (λ (z : List A). Into z r) c.1.2 s) (ih c.1.0 c.1.1)

  into_steps : {l r : List A} {j : ℕ} → Steps divides mid l j r → step divides mid r ≡ none → Into l r
  into_steps {l} here e = ([], inserts_self l e)
  into_steps (more {l = l} {m = m} {r = r} h s) e = unstep l m h r (into_steps s e)

  pub steps_inserts : {l r : List A} {j : ℕ} → Steps divides mid l j r → step divides mid r ≡ none → (i : List A) × (Inserts divides mid l i r × (length i ≡ j))
  steps_inserts s e =
      let (i, t) = into_steps s e in
      let a = steps_length divides mid s in
      let b = inserts_length t in
      (i, (t, omega arith))

  -- ---- from the pairs to the steps: behind a front in which no two neighbours divide
  abbrev Leads : List A → ℕ → List A → List A → Type 0
  Leads l j r c = Steps divides mid l j r × (step divides mid c ≡ none)

  between_steps : {x y : A} {a : List A} → Between divides mid x y a → (p t : List A) → step divides mid (p ++ x ∷ []) ≡ none
      → Leads (p ++ x ∷ y ∷ t) (length a) (p ++ x ∷ (a ++ y ∷ t)) (p ++ x ∷ (a ++ y ∷ []))
  between_steps {x} {y} (undivided e) p t h = (here, past_keeps divides mid p x y h e)
  between_steps {x} {y} (divided {a = a} {b = b} e u v) p t h =
      let m = mid x y in
      let first = past_divides divides mid p x y t h e in
      let (s, c) = between_steps u p (y ∷ t) h in
      let q = p ++ x ∷ a in
      let along : (z : List A) → q ++ z ≡ p ++ x ∷ (a ++ z) = λ z. append_assoc p (x ∷ a) z in
      let (s', c') = between_steps v q t (ap (step divides mid) (along (m ∷ [])) ∙ c) in
      let to : (z : List A) → q ++ m ∷ (b ++ z) ≡ p ++ x ∷ ((a ++ m ∷ b) ++ z) =
      λ z. along (m ∷ (b ++ z)) ∙ ap (λ (w : List A). p ++ x ∷ w) (sym (append_assoc a (m ∷ b) z)) in
      let long : suc (length a + length b) ≡ length (a ++ m ∷ b) = sym (length-append a (m ∷ b) ∙ add-suc (length a) (length b)) in
      let on = subst (λ (z : List A). Steps divides mid z (length b) (q ++ m ∷ (b ++ y ∷ t))) (along (m ∷ y ∷ t)) s' in (
        subst (λ (z : List A). Steps divides mid (p ++ x ∷ y ∷ t) (length (a ++ m ∷ b)) z) (to (y ∷ t))
            (subst (λ (j : ℕ). Steps divides mid (p ++ x ∷ y ∷ t) j (q ++ m ∷ (b ++ y ∷ t))) long (more first (steps_then divides mid s on))),
        sym (ap (step divides mid) (to (y ∷ []))) ∙ c',
      )

  behind : {l i r : List A} → Inserts divides mid l i r → (p : List A) (x : A) (t : List A) → l ≡ x ∷ t → step divides mid (p ++ x ∷ []) ≡ none → Leads (p ++ l) (length i) (p ++ r) (p ++ r)
  behind no_item p x t e h = absurd (nil≢cons e)
  behind (one_item {x = z}) p x t e h = (here, ap (λ (w : A). step divides mid (p ++ w ∷ [])) (head-eq_of_cons-eq e) ∙ h)
  behind (more_items {x = z} {y = y} {l = l} {a = a} {i = i} {r = r} b s) p x t e h =
      let h' : step divides mid (p ++ z ∷ []) ≡ none = ap (λ (w : A). step divides mid (p ++ w ∷ [])) (head-eq_of_cons-eq e) ∙ h in
      let (u, c) = between_steps b p l h' in
      let q = p ++ z ∷ a in
      let along : (w : List A) → q ++ w ≡ p ++ z ∷ (a ++ w) = λ w. append_assoc p (z ∷ a) w in
      let (u', c') = behind s q y l refl (ap (step divides mid) (along (y ∷ [])) ∙ c) in
      let on = subst (λ (w : List A). Steps divides mid w (length i) (q ++ r)) (along (y ∷ l)) u' in (
        subst (λ (w : List A). Steps divides mid (p ++ z ∷ y ∷ l) (length (a ++ i)) w) (along r)
            (subst (λ (j : ℕ). Steps divides mid (p ++ z ∷ y ∷ l) j (q ++ r)) (sym (length-append a i)) (steps_then divides mid u on)),
        sym (ap (step divides mid) (along r)) ∙ c',
      )

  pub inserts_steps : {l i r : List A} → Inserts divides mid l i r → Steps divides mid l (length i) r × (step divides mid r ≡ none)
  unfolding step
  inserts_steps no_item = (here, refl)
  inserts_steps (one_item {x = x}) = (here, step_one divides mid x)
  inserts_steps (more_items {x = x} {y = y} {l = l} b s) = behind (more_items b s) [] x (y ∷ l) refl (step_one divides mid x)

  -- ---- there is one such result
  pub between_one : {x y : A} {a b : List A} → Between divides mid x y a → Between divides mid x y b → a ≡ b
  between_one (undivided e) (undivided f) = refl
  between_one (undivided e) (divided f u v) = true_false _ f e
  between_one (divided e s t) (undivided f) = true_false _ e f
  between_one {x} {y} (divided {a = a} {b = b} e s t) (divided {a = c} {b = d} f u v) = rw (between_one s u, between_one t v)

  pub inserts_one : {l i j r t : List A} → Inserts divides mid l i r → Inserts divides mid l j t → (i ≡ j) × (r ≡ t)
  inserts_one no_item no_item = (refl, refl)
  inserts_one one_item one_item = (refl, refl)
  inserts_one (more_items b s) (more_items c t) =
      let e = between_one b c in
      let f = inserts_one s t in
      (rw (e, f.0), rw (e, f.1))
