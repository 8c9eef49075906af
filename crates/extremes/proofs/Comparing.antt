-- totalOrder and the comparison of floats: what one says of the other, of two numbers and of the smaller and the
-- larger of them.
use mathlib.Core.Path.{◌≡◌, refl, sym, ◌∙◌}
use mathlib.Core.Bool.{Bool, true, false, cond, not, ◌&&◌, ◌||◌, false≢true, true≢false}
use mathlib.Core.Logic.{◌⊎◌, inl, inr}
use lib.Ieee.{Float, nan, inf, fin, lt, le, eq, is_nan}
use lib.Ieee.Scale.{finite}
use Rattle.float.specs.Helpers.{negative}
use Rattle.float.specs.TotalOrder.{before}
use Rattle.float.proofs.Order.{eq_le, lt_le, le_left, le_right, lt_le_trans, le_lt_trans, not_le_lt, lt_not_le}
use Rattle.extremes.specs.Summary.{upper}

-- ---- of two numbers
denied : (b : Bool) → not b ≡ true → b ≡ false
denied true e = absurd (false≢true e)
denied false e = refl

before_le : (x y : Float) → before x y ≡ true → is_nan y ≡ false → le x y ≡ true
unfolding before
before_le x y h n = go (lt x y) refl (eq x y) refl (rw n at h)
  where
    go : (a : Bool) → lt x y ≡ a → (b : Bool) → eq x y ≡ b → (a || (b && (negative x && not (negative y)))) ≡ true → le x y ≡ true
    go true p b q e = lt_le x y p
    go false p true q e = eq_le x y q
    go false p false q e = absurd (false≢true e)

not_before_le : (x y : Float) → before x y ≡ false → is_nan x ≡ false → is_nan y ≡ false → le y x ≡ true
unfolding before
not_before_le x y h m n = go (le y x) refl
  where
    go : (t : Bool) → le y x ≡ t → t ≡ true
    go true e = refl
    go false e = absurd (true≢false (sym (rw (n, not_le_lt x y m n e) refl) ∙ h))

-- what is less stands before, and not behind
pub less_before : (x y : Float) → lt x y ≡ true → before x y ≡ true
unfolding before
less_before x y h = rw (le_right x y (lt_le x y h), h)

pub less_not_behind : (x y : Float) → lt x y ≡ true → before y x ≡ false
less_not_behind x y h = go (before y x) refl
  where
    go : (t : Bool) → before y x ≡ t → t ≡ false
    go false e = refl
    go true e = absurd (true≢false (sym (before_le y x e (le_left x y (lt_le x y h))) ∙ lt_not_le x y h))

-- ---- totalOrder is an order, of all floats
pub not_before_itself : (x : Float) → before x x ≡ false
unfolding before
not_before_itself x = go (is_nan x) (lt x x) refl (eq x x) (negative x)
  where
    go : (n a : Bool) → lt x x ≡ a → (b s : Bool) → cond n (not n) (a || (b && (s && not s))) ≡ false
    go true a p b s = refl
    go false true p b s = absurd (true≢false (sym (lt_le x x p) ∙ lt_not_le x x p))
    go false false p true true = refl
    go false false p true false = refl
    go false false p false s = refl

-- what stands before a number is less, or it is the same value with the sign of a -0.0
abbrev Ways : Float → Float → Type 0
Ways x y = (lt x y ≡ true) ⊎ ((eq x y ≡ true) × ((negative x ≡ true) × (negative y ≡ false)))

ways : (x y : Float) → before x y ≡ true → is_nan y ≡ false → Ways x y
unfolding before
ways x y h n = go (lt x y) refl (eq x y) refl (negative x) refl (negative y) refl (rw n at h)
  where
    go : (a : Bool) → lt x y ≡ a → (b : Bool) → eq x y ≡ b → (s : Bool) → negative x ≡ s → (t : Bool) → negative y ≡ t
        → (a || (b && (s && not t))) ≡ true → Ways x y
    go true p b q s i t j e = inl p
    go false p true q true i false j e = inr (q, (i, j))
    go false p true q true i true j e = absurd (false≢true e)
    go false p true q false i t j e = absurd (false≢true e)
    go false p false q s i t j e = absurd (false≢true e)

pub before_trans : (x y z : Float) → before x y ≡ true → before y z ≡ true → before x z ≡ true
before_trans x y z h l = go (is_nan z) refl
  where
    number : is_nan y ≡ false → is_nan x ≡ false
    number n = le_left x y (before_le x y h n)

    last : is_nan z ≡ true → before x z ≡ true
    last e = unfold before in rw (e, number (not_nan e))
      where
        not_nan : is_nan z ≡ true → is_nan y ≡ false
        not_nan e = denied (is_nan y) (unfold before in rw e at l)

    both : is_nan z ≡ false → Ways x y → Ways y z → before x z ≡ true
    both n (inl p) v = less_before x z (lt_le_trans x y z p (before_le y z l n))
    both n (inr p) (inl q) = less_before x z (le_lt_trans x y z (eq_le x y p.0) q)
    both n (inr p) (inr q) = absurd (true≢false (sym q.1.0 ∙ p.1.1))

    go : (n : Bool) → is_nan z ≡ n → before x z ≡ true
    go true e = last e
    go false e = both e (ways x y h (le_left y z (before_le y z l e))) (ways y z l e)

-- ---- above the larger of two is above one of them
or_is : (a x y : Bool) → (x ≡ true → a ≡ true) → (y ≡ true → a ≡ true) → (a ≡ true → (x || y) ≡ true) → a ≡ (x || y)
or_is a true y f g h = f refl
or_is a false true f g h = g refl
or_is true false false f g h = absurd (false≢true (h refl))
or_is false false false f g h = refl

pub or_right : (x : Bool) → (x || true) ≡ true
or_right true = refl
or_right false = refl

pub above_upper : (a x y : Float) → is_nan x ≡ false → is_nan y ≡ false → lt a (upper x y) ≡ (lt a x || lt a y)
unfolding upper
above_upper a x y m n = go (before x y) refl
  where
    go : (t : Bool) → before x y ≡ t → lt a (cond t y x) ≡ (lt a x || lt a y)
    go true e = or_is _ (lt a x) (lt a y) (λ p. lt_le_trans a x y p (before_le x y e n)) (λ p. p) (λ p. rw p (or_right (lt a x)))
    go false e = or_is _ (lt a x) (lt a y) (λ p. p) (λ p. lt_le_trans a y x p (not_before_le x y e m n)) (λ p. rw p)

-- ---- numbers
pub finite_number : (x : Float) → finite x ≡ true → is_nan x ≡ false
unfolding is_nan
finite_number nan e = absurd (false≢true e)
finite_number (inf s) e = refl
finite_number (fin s m e) h = refl

pub upper_number : (x y : Float) → is_nan x ≡ false → is_nan y ≡ false → is_nan (upper x y) ≡ false
unfolding upper
upper_number x y m n = go (before x y)
  where
    go : (t : Bool) → is_nan (cond t y x) ≡ false
    go true = n
    go false = m
