-- A test and what is chosen by it. Assumes nothing.
use Rattle.std.proofs.Common.{ℕ, max, min, ltb, ap, arith, ◌≡◌, Bool, true, false, cond, not, T, ◌⊎◌, sym, refl, inl, inr, true≢false}
use Rattle.std.specs.Prelude.{Option, Some, None}
use Rattle.std.specs.Option.{is_some, IfSome}
use borrow.Author.Tests.{ltb-true, ltb-false}

pub not_true : (b : Bool) → b ≡ false → T (not b)
not_true true e = absurd (true≢false e)
not_true false e = tt

pub is_true : (b : Bool) → b ≡ true → T b
is_true true e = tt
is_true false e = absurd (true≢false (sym e))

pub split : (b : Bool) → (b ≡ true) ⊎ (b ≡ false)
split true = inl refl
split false = inr refl

pub pick : {A : Type 0} (b : Bool) (x y : A) → b ≡ true → x ≡ cond b x y
pick true x y e = refl
pick false x y e = absurd (true≢false (sym e))

pub drop : {A : Type 0} (b : Bool) (x y : A) → b ≡ false → y ≡ cond b x y
drop true x y e = absurd (true≢false e)
drop false x y e = refl

-- what holds of both choices holds of the one that is taken
pub chosen : {A : Type 0} (P : A → Type 0) (b : Bool) (x y : A) → (b ≡ true → P x) → (b ≡ false → P y) → P (cond b x y)
chosen P true x y f g = f refl
chosen P false x y f g = g refl

-- the larger and the smaller of two numbers, by a test
pub by_larger : {A : Type 0} (f : ℕ → A) (x y : ℕ) → f (max x y) ≡ cond (ltb x y) (f y) (f x)
by_larger {A} f x y = go (ltb x y) refl
  where
    go : (b : Bool) → ltb x y ≡ b → f (max x y) ≡ cond b (f y) (f x)
    go true e = let h = ltb-true x y e in ap f (omega arith)
    go false e = let h = ltb-false x y e in ap f (omega arith)

pub by_smaller : {A : Type 0} (f : ℕ → A) (x y : ℕ) → f (min x y) ≡ cond (ltb y x) (f y) (f x)
by_smaller {A} f x y = go (ltb y x) refl
  where
    go : (b : Bool) → ltb y x ≡ b → f (min x y) ≡ cond b (f y) (f x)
    go true e = let h = ltb-true y x e in ap f (omega arith)
    go false e = let h = ltb-false y x e in ap f (omega arith)

-- `then`: what a test lets through, and nothing where it fails
pub then_is : {A : Type 0} (r : Option A) (b : Bool) (P : A → Type 0) (d : Option A) → is_some r ≡ b → IfSome r P
    → ((y : A) → P y → b ≡ true → Some y ≡ d) → (b ≡ false → None ≡ d) → r ≡ d
then_is (Some y) b P d e p f g = f y p (sym e)
then_is None b P d e p f g = g (sym e)

-- two tests, one after the other
pub both_true : (a b : Bool) → cond a b false ≡ true → (a ≡ true) × (b ≡ true)
both_true true b e = (refl, e)
both_true false b e = absurd (true≢false (sym e))
