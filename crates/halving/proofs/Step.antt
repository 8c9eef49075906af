-- Laws of one step of a halving, and what a halving comes to at each kind of step. All other laws of this crate stand on these.
use Prim.Native.Nat.{ℕ, zero, suc, ◌≤◌, ◌<◌}
use native.Mathlib.Omega.{arith}
use mathlib.Core.Path.{◌≡◌, refl, sym, ap, ◌∙◌}
use mathlib.Core.Logic.{◌⊎◌, inl, inr}
use mathlib.Core.Bool.{Bool, true, false}
use mathlib.Core.Option.{Option, none, some}
use mathlib.Core.List.{List, [], ◌∷◌, ◌++◌}
use lib.ListN.{length}
use borrow.Author.Tests.{le-leb, lt-leb}
use Rattle.halving.specs.Halving.{onto, step, halve, Done, TooMany, NoSpace}

pub some_none : {A B : Type 0} (o : Option A) (a : A) → o ≡ some a → o ≡ none → B
some_none o a p q = let z : ◌≡◌ {A = ℕ} 0 1 = cc in absurd (omega arith)

pub true_false : {B : Type 0} (b : Bool) → b ≡ true → b ≡ false → B
true_false b p q = let z : ◌≡◌ {A = ℕ} 0 1 = cc in absurd (omega arith)

onto_none : {A : Type 0} (x : A) (o : Option (List A)) → onto x o ≡ none → o ≡ none
onto_none x none e = refl
onto_none x (some l) e = some_none (some (x ∷ l)) (x ∷ l) refl e

onto_some : {A : Type 0} (x : A) (o : Option (List A)) (m : List A) → onto x o ≡ some m → (t : List A) × (o ≡ some t) × (m ≡ x ∷ t)
onto_some x none m e = some_none none m e refl
onto_some x (some l) m e = (l, refl, cc)

module _ {A : Type 0} (divides : A → A → Bool) (mid : A → A → A) where
  -- ---- the cases of a step
  pub step_one : (x : A) → step divides mid (x ∷ []) ≡ none
  unfolding step
  step_one x = refl

  pub step_divides : (x y : A) (l : List A) → divides x y ≡ true → step divides mid (x ∷ y ∷ l) ≡ some (x ∷ mid x y ∷ y ∷ l)
  unfolding step
  step_divides x y l e = rw (e, step)

  pub step_keeps : (x y : A) (l : List A) → divides x y ≡ false → step divides mid (x ∷ y ∷ l) ≡ onto x (step divides mid (y ∷ l))
  unfolding step
  step_keeps x y l e = rw (e, step)

  -- and back: what a step tells of the test
  pub none_cases : (x y : A) (l : List A) → step divides mid (x ∷ y ∷ l) ≡ none → (divides x y ≡ false) × (step divides mid (y ∷ l) ≡ none)
  none_cases x y l h = go (divides x y) refl
    where
      go : (b : Bool) → divides x y ≡ b → (divides x y ≡ false) × (step divides mid (y ∷ l) ≡ none)
      go true e = some_none _ _ (step_divides x y l e) h
      go false e = (e, onto_none x _ (sym (step_keeps x y l e) ∙ h))

  abbrev pub Some-cases : A → A → List A → List A → Type 0
  Some-cases x y l m =
      ((divides x y ≡ true) × (m ≡ x ∷ mid x y ∷ y ∷ l))
      ⊎ ((divides x y ≡ false) × ((t : List A) × (step divides mid (y ∷ l) ≡ some t) × (m ≡ x ∷ t)))

  pub some_cases : (x y : A) (l m : List A) → step divides mid (x ∷ y ∷ l) ≡ some m → Some-cases x y l m
  some_cases x y l m h = go (divides x y) refl
    where
      go : (b : Bool) → divides x y ≡ b → Some-cases x y l m
      go true e = let s = step_divides x y l e in inl (e, cc)
      go false e = inr (e, onto_some x _ m (sym (step_keeps x y l e) ∙ h))

  -- a step adds one item
  pub step_length : (l m : List A) → step divides mid l ≡ some m → length m ≡ suc (length l)
  unfolding step
  step_length [] m h = some_none _ _ h refl
  step_length (x ∷ []) m h = some_none _ _ h refl
  step_length (x ∷ (y ∷ l)) m h = go (some_cases x y l m h) (step_length (y ∷ l))
    where
      go : Some-cases x y l m → ((t : List A) → step divides mid (y ∷ l) ≡ some t → length t ≡ suc (length (y ∷ l))) → length m ≡ suc (length (x ∷ y ∷ l))
      go (inl c) ih = ap length c.1
      go (inr c) ih = ap length c.1.2 ∙ ap suc (ih c.1.0 c.1.1)

  -- ---- a step past a front in which no two neighbours divide
  pub past_divides : (p : List A) (x y : A) (t : List A) → step divides mid (p ++ x ∷ []) ≡ none → divides x y ≡ true
      → step divides mid (p ++ x ∷ y ∷ t) ≡ some (p ++ x ∷ mid x y ∷ y ∷ t)
  past_divides [] x y t h e = step_divides x y t e
  past_divides (a ∷ []) x y t h e = step_keeps a x (y ∷ t) (none_cases a x [] h).0 ∙ ap (onto a) (step_divides x y t e)
  past_divides (a ∷ b ∷ p) x y t h e =
      let c = none_cases a b (p ++ x ∷ []) h in
      step_keeps a b (p ++ x ∷ y ∷ t) c.0 ∙ ap (onto a) (past_divides (b ∷ p) x y t c.1 e)

  pub past_keeps : (p : List A) (x y : A) → step divides mid (p ++ x ∷ []) ≡ none → divides x y ≡ false → step divides mid (p ++ x ∷ y ∷ []) ≡ none
  past_keeps [] x y h e = step_keeps x y [] e ∙ ap (onto x) (step_one y)
  past_keeps (a ∷ []) x y h e = step_keeps a x (y ∷ []) (none_cases a x [] h).0 ∙ ap (onto a) (step_keeps x y [] e ∙ ap (onto x) (step_one y))
  past_keeps (a ∷ b ∷ p) x y h e =
      let c = none_cases a b (p ++ x ∷ []) h in
      step_keeps a b (p ++ x ∷ y ∷ []) c.0 ∙ ap (onto a) (past_keeps (b ∷ p) x y c.1 e)

  -- ---- what a halving comes to where there is no step, where no more may be inserted, where there is space, and where there is none
  module _ (space : ℕ) where
    pub halve_done : (left n : ℕ) (l : List A) → step divides mid l ≡ none → halve divides mid space left n l ≡ Done n l
    unfolding halve
    halve_done zero n l e = rw (e, halve)
    halve_done (suc left) n l e = rw (e, halve)

    pub halve_many : (n : ℕ) (l m : List A) → step divides mid l ≡ some m → halve divides mid space 0 n l ≡ TooMany n
    unfolding halve
    halve_many n l m e = rw (e, halve)

    pub halve_more : (left n : ℕ) (l m : List A) → step divides mid l ≡ some m → length m ≤ space
        → halve divides mid space (suc left) n l ≡ halve divides mid space left (suc n) m
    unfolding halve
    halve_more left n l m e h = rw (e, le-leb (length m) space h, halve)

    pub halve_full : (left n : ℕ) (l m : List A) → step divides mid l ≡ some m → space < length m → halve divides mid space (suc left) n l ≡ NoSpace n
    unfolding halve
    halve_full left n l m e h = rw (e, lt-leb (length m) space h, halve)

    -- an empty list is halved
    pub halve_empty : (left n : ℕ) (l : List A) → length l ≡ 0 → halve divides mid space left n l ≡ Done n []
    unfolding step
    halve_empty left n [] e = halve_done left n [] refl
    halve_empty left n (x ∷ l) e = absurd (omega arith)
