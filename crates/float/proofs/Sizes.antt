-- The size of a float: its value in units, and that a size is at most c exactly if the value lies from -c to c.
use Rattle.std.proofs.Common.{◌≡◌, ℕ, ◌*◌, Bool, true, false, sym, refl, ◌∙◌, subst}
use mathlib.Core.Bool.{false≢true}
use lib.Ieee.{Float, nan, inf, fin, up, down, neg, lt, eq, le, is_nan}
use Rattle.float.proofs.Order as order
use Rattle.float.specs.Units.{Is}
use Rattle.float.specs.Helpers.{size_of}

le_size : (x : Float) → is_nan x ≡ false → le x (size_of x) ≡ true
unfolding size_of
le_size nan h = absurd (false≢true (sym h ∙ unfold is_nan in refl))
le_size (inf true) h = unfold le in unfold lt in refl
le_size (inf false) h = unfold le in unfold lt in unfold eq in refl
le_size (fin true m e) h = unfold le in unfold lt in unfold eq in order.from true (m * up e * down e) false (m * up e * down e) tt
le_size (fin false m e) h = order.le_refl (fin false m e) h

pub size_neg : (x : Float) → size_of (neg x) ≡ size_of x
unfolding neg size_of
size_neg nan = refl
size_neg (inf s) = refl
size_neg (fin s m e) = refl

pub not_nan_neg : (x : Float) → is_nan x ≡ false → is_nan (neg x) ≡ false
unfolding neg is_nan
not_nan_neg nan h = h
not_nan_neg (inf s) h = refl
not_nan_neg (fin s m e) h = refl

not_nan_size : (x : Float) → is_nan (size_of x) ≡ false → is_nan x ≡ false
unfolding is_nan size_of
not_nan_size nan h = h
not_nan_size (inf s) h = refl
not_nan_size (fin s m e) h = refl

-- |x| ≤ c is -c ≤ x ≤ c
pub size_le_parts : (x c : Float) → le (size_of x) c ≡ true → (le (neg c) x ≡ true) × (le x c ≡ true)
size_le_parts x c h =
    let n = not_nan_size x (order.le_left (size_of x) c h) in (
      subst (λ (z : Float). le (neg c) z ≡ true) (order.neg_neg x)
          (order.neg_le (neg x) c ∙ order.le_trans (neg x) (size_of x) c (subst (λ (z : Float). le (neg x) z ≡ true) (size_neg x) (le_size (neg x) (not_nan_neg x n))) h),
      order.le_trans x (size_of x) c (le_size x n) h,
    )

neg_if : (x c : Float) → le (neg c) x ≡ true → le (neg x) c ≡ true
neg_if x c h = sym (order.neg_le (neg x) c) ∙ subst (λ (z : Float). le (neg c) z ≡ true) (sym (order.neg_neg x)) h

pub parts_size_le : (x c : Float) → le (neg c) x ≡ true → le x c ≡ true → le (size_of x) c ≡ true
unfolding neg size_of
parts_size_le nan c h k = k
parts_size_le (inf true) c h k = neg_if (inf true) c h
parts_size_le (inf false) c h k = k
parts_size_le (fin true m e) c h k = neg_if (fin true m e) c h
parts_size_le (fin false m e) c h k = k

pub size_is : (x : Float) (s : Bool) (v : ℕ) → Is x s v → Is (size_of x) false v
unfolding size_of
size_is nan s v i = absurd i
size_is (inf t) s v i = absurd i
size_is (fin t m e) s v i = (refl, i.1)
