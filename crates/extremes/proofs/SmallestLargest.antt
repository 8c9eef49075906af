-- The extremes of a group are the smallest and the largest of each of its five numbers by totalOrder.
use Prim.Native.Nat.{ℕ, ◌*◌, ◌<◌}
use native.Mathlib.Omega.{arith}
use mathlib.Core.Path.{◌≡◌, refl, sym, ap, ◌∙◌}
use mathlib.Core.Bool.{Bool, true, false, cond, true≢false}
use mathlib.Core.List.{List, [], ◌∷◌, map}
use mathlib.Core.Logic.{inl, inr}
use lib.ListN.{length, drop, length-drop, length-take}
use lib.Ieee.{Float}
use Rattle.lists.specs.Fold.{fold}
use Rattle.float.specs.TotalOrder.{before}
use Rattle.chain.specs.declared.Joints.{Joints}
use Rattle.extremes.specs.declared.Extremes.{Extremes}
use Rattle.extremes.specs.Summary.{lower, upper, lower_set, upper_set, level, widened, extremes_of, group_count, extremes_from, summary_of, group_at}
use Rattle.extremes.specs.SmallestLargest.{OneOf, Smallest, Largest, Between, AreExtremes}
use Rattle.extremes.proofs.Comparing.{not_before_itself, before_trans}
use Rattle.extremes.proofs.Groups.{starts_before, summary_at}

-- ---- the foremost of a list by a strict order, kept by `keep`: the order is totalOrder, or totalOrder turned round
module _ (ahead : Float → Float → Bool) (not_itself : (x : Float) → ahead x x ≡ false)
    (trans : (x y z : Float) → ahead x y ≡ true → ahead y z ≡ true → ahead x z ≡ true)
    (keep : Float → Float → Float) (keep-is : (x y : Float) → keep x y ≡ cond (ahead y x) y x) where
  -- none that was not ahead of what was kept is ahead of what is kept now
  still : (z x y : Float) → ahead z x ≡ false → ahead z (cond (ahead y x) y x) ≡ false
  still z x y h = go (ahead y x) refl
    where
      deny : (b : Bool) → ahead z y ≡ b → ahead y x ≡ true → b ≡ false
      deny true k e = absurd (true≢false (sym (trans z y x k e) ∙ h))
      deny false k e = refl

      go : (b : Bool) → ahead y x ≡ b → ahead z (cond b y x) ≡ false
      go true e = deny (ahead z y) refl e
      go false e = h

  newest : (x y : Float) → ahead y (cond (ahead y x) y x) ≡ false
  newest x y = go (ahead y x) refl
    where
      go : (b : Bool) → ahead y x ≡ b → ahead y (cond b y x) ≡ false
      go true e = not_itself y
      go false e = e

  kept : (z x : Float) (l : List Float) → ahead z x ≡ false → ahead z (fold keep x l) ≡ false
  unfolding fold
  kept z x [] h = h
  kept z x (y ∷ l) h = kept z (keep x y) l (rw (keep-is x y) (still z x y h))

  none_ahead : (x : Float) (l : List Float) (z : Float) → OneOf z (x ∷ l) → ahead z (fold keep x l) ≡ false
  unfolding fold OneOf
  none_ahead x l z (inl e) = kept z x l (rw e (not_itself x))
  none_ahead x [] z (inr m) = absurd m
  none_ahead x (y ∷ l) z (inr (inl e)) = kept z (keep x y) l (rw (e, keep-is x y) (newest x y))
  none_ahead x (y ∷ l) z (inr (inr m)) = none_ahead (keep x y) l z (inr m)

  one_kept : (x : Float) (l : List Float) → OneOf (fold keep x l) (x ∷ l)
  unfolding fold OneOf
  one_kept x [] = inl refl
  one_kept x (y ∷ l) = go (ahead y x) refl (one_kept (keep x y) l)
    where
      go : (b : Bool) → ahead y x ≡ b → OneOf (fold keep (keep x y) l) (keep x y ∷ l) → OneOf (fold keep (keep x y) l) (x ∷ y ∷ l)
      go true e (inl p) = inr (inl (p ∙ keep-is x y ∙ ap (λ (b : Bool). cond b y x) e))
      go false e (inl p) = inl (p ∙ keep-is x y ∙ ap (λ (b : Bool). cond b y x) e)
      go b e (inr m) = inr (inr m)

smallest_of : (x : Float) (l : List Float) → Smallest (x ∷ l) (fold lower x l)
unfolding lower
smallest_of x l = record {
  there = one_kept before not_before_itself before_trans lower (λ x y. refl) x l;
  least = none_ahead before not_before_itself before_trans lower (λ x y. refl) x l;
}

behind : Float → Float → Bool
behind x y = before y x

largest_of : (x : Float) (l : List Float) → Largest (x ∷ l) (fold upper x l)
unfolding upper behind
largest_of x l = record {
  there = one_kept behind not_before_itself (λ x y z p q. before_trans z y x q p) upper (λ x y. refl) x l;
  most = none_ahead behind not_before_itself (λ x y z p q. before_trans z y x q p) upper (λ x y. refl) x l;
}

-- ---- of one number of every joint set
module _ (number : Joints → Float) (low-is : (a b : Joints) → number (lower_set a b) ≡ lower (number a) (number b))
    (high_is : (a b : Joints) → number (upper_set a b) ≡ upper (number a) (number b)) where
  fold_low : (e : Extremes) (l : List Joints) → number (fold widened e l).low ≡ fold lower (number e.low) (map number l)
  unfolding fold widened
  fold_low e [] = refl
  fold_low e (j ∷ l) = fold_low (widened e j) l ∙ ap (λ (x : Float). fold lower x (map number l)) (low-is e.low j)

  fold_high : (e : Extremes) (l : List Joints) → number (fold widened e l).high ≡ fold upper (number e.high) (map number l)
  unfolding fold widened
  fold_high e [] = refl
  fold_high e (j ∷ l) = fold_high (widened e j) l ∙ ap (λ (x : Float). fold upper x (map number l)) (high_is e.high j)

  between : (j : Joints) (l : List Joints) → Between (j ∷ l) (fold widened (level j) l) number
  between j l = record {
    smallest = rw (fold_low (level j) l) (smallest_of (number j) (map number l));
    largest = rw (fold_high (level j) l) (largest_of (number j) (map number l));
  }

-- ---- "the smallest and largest of each of the five numbers (by totalOrder)": of every group
pub extremes_are : (group : List Joints) → 0 < length group → AreExtremes group (extremes_of group)
unfolding extremes_of lower_set upper_set
extremes_are [] h = absurd (omega arith)
extremes_are (j ∷ l) h = record {
  x = between (λ j. j.xyz.x) (λ a b. refl) (λ a b. refl) j l;
  y = between (λ j. j.xyz.y) (λ a b. refl) (λ a b. refl) j l;
  z = between (λ j. j.xyz.z) (λ a b. refl) (λ a b. refl) j l;
  a0 = between (λ j. j.a0) (λ a b. refl) (λ a b. refl) j l;
  a1 = between (λ j. j.a1) (λ a b. refl) (λ a b. refl) j l;
}

group_some : (l : List Joints) (g : ℕ) → g < group_count (length l) → 0 < length (group_at l g)
unfolding group_at
group_some l g h =
    let s = starts_before g (length l) h in
    rw (length-take, length-drop) (omega (arith, s))

-- and so of the ten numbers that a summary has for it
pub summary_is : (l : List Joints) (g : ℕ) → g < group_count (length l) → AreExtremes (group_at l g) (extremes_from (drop (g * 10) (summary_of l)))
summary_is l g h = rw (summary_at l g h) (extremes_are (group_at l g) (group_some l g h))
