-- A gap is not below a length where its square is above that of the length, both rounded: so most pairs need no root.
use Rattle.std.proofs.Common.{◌≡◌, ℕ, zero, suc, ◌+◌, ◌-◌, ◌*◌, ◌^◌, ◌<◌, ◌≤◌, Bool, true, false, T, ◌⊎◌, sym, refl, ap, ◌∙◌, subst, inl, inr, true≢false, mul-pos, mul-le-mul_right, arith, pow_pos}
use lib.Ieee.{Float, nan, inf, fin, binary64, round, mul, lt, le, fits, is_nan}
use lib.Ieee.Bits.{is_true}
use lib.Ieee.Order.{round_mono}
use Rattle.float.specs.Units.{U, Is}
use Rattle.float.specs.Helpers.{nought}
use Rattle.float.proofs.Order as order
use Rattle.float.proofs.Monotone.{le_top, le_bottom}
use Rattle.float.proofs.Rounding.{U_pos}
use Rattle.float.proofs.Signed.{le_val, val_lt}
use Rattle.float.proofs.Units.{Held, held, round_self, le_or_lt, one_number}
use Rattle.float.proofs.Zeros.{nought_is}
use Rattle.root.specs.Root.{root, root_units, whole_root}
use Rattle.root.proofs.RootCases.{Above}
use Rattle.root.proofs.RootOrder.{round_nn, sq_is}
use Rattle.root.proofs.RootSizes.{above_is}
use Rattle.root.proofs.WholeRoot.{root_ge, whole_root_right}

-- ---- what is never below
nan_below : (x : Float) → lt nan x ≡ false
nan_below x = go (lt nan x) refl
  where
    is : is_nan nan ≡ true
    is = unfold is_nan in refl

    go : (b : Bool) → lt nan x ≡ b → b ≡ false
    go false e = refl
    go true e = absurd (true≢false (sym is ∙ order.le_left nan x (order.lt_le nan x e)))

below_nan : (x : Float) → lt x nan ≡ true → ⊥
below_nan x e = true≢false (sym is ∙ order.le_right x nan (order.lt_le x nan e))
  where
    is : is_nan nan ≡ true
    is = unfold is_nan in refl

not_below : (x y : Float) → (lt x y ≡ true → ⊥) → lt x y ≡ false
not_below x y f = go (lt x y) refl
  where
    go : (b : Bool) → lt x y ≡ b → b ≡ false
    go false e = refl
    go true e = absurd (f e)

top_below : (x : Float) → lt (inf false) x ≡ true → ⊥
top_below x e = true≢false (sym (le_top x (order.le_right (inf false) x (order.lt_le (inf false) x e))) ∙ order.lt_not_le (inf false) x e)

below_bottom : (x : Float) → lt x (inf true) ≡ true → ⊥
below_bottom x e = true≢false (sym (le_bottom x (order.le_left x (inf true) (order.lt_le x (inf true) e))) ∙ order.lt_not_le x (inf true) e)

-- ---- of two finite numbers
two_units : 2 ^ 1075 ≡ 2 * U
unfolding U
two_units = refl

four_units : 2 ^ 1076 ≡ 4 * U
unfolding U
four_units = refl

-- of what is above zero
above_nought : (q : Float) (b : Bool) (v : ℕ) → Is q b v → lt nought q ≡ true → (b ≡ false) × (0 < v)
above_nought q false v i h = let g = val_lt nought q false false 0 v nought_is i h in (refl, omega arith)
above_nought q true v i h = let g = val_lt nought q false true 0 v nought_is i h in absurd (omega arith)

module _ (q s : Float) (fq : T (fits binary64 q)) (Q : Held q) (S : Held s) (above : lt (mul binary64 s s) q ≡ true) where
  squared : mul binary64 s s ≡ round binary64 false (S.v * S.v) (U * U)
  squared = sq_is s S.s S.v S.is

  units : (Q.s ≡ false) × (0 < Q.v)
  units =
      above_nought q Q.s Q.v Q.is
      (order.le_lt_trans nought (mul binary64 s s) q (ap (le nought) squared ∙ round_nn (S.v * S.v) (U * U) (mul-pos U_pos U_pos)) above)

  A : Above q
  A = above_is q Q.v fq (subst (λ (b : Bool). Is q b Q.v) units.0 Q.is) units.1

  same : Q.v ≡ A.v
  same = (one_number q Q.s false Q.v A.v Q.is A.is).1

  -- the square of s is no more than q
  large : S.v * S.v ≤ Q.v * U
  large = go (le_or_lt (S.v * S.v) (Q.v * U))
    where
      scaled : (v a u : ℕ) → v * u ≤ a → v * (u * u) ≤ a * u
      scaled v a u h = let g = mul-le-mul_right u h in omega arith

      lower : Q.v * U ≤ S.v * S.v → le q (mul binary64 s s) ≡ true
      lower h =
          ap (λ (x : Float). le x (mul binary64 s s)) (round_self q fq Q ∙ ap (λ (b : Bool). round binary64 b Q.v U) units.0)
          ∙ ap (le (round binary64 false Q.v U)) squared
          ∙ is_true (le (round binary64 false Q.v U) (round binary64 false (S.v * S.v) (U * U))) (round_mono binary64 Q.v U (S.v * S.v) (U * U) U_pos (mul-pos U_pos U_pos) (scaled Q.v (S.v * S.v) U h))

      go : (S.v * S.v ≤ Q.v * U) ⊎ (Q.v * U < S.v * S.v) → S.v * S.v ≤ Q.v * U
      go (inl h) = h
      go (inr h) = absurd (true≢false (sym (lower (omega arith)) ∙ order.lt_not_le (mul binary64 s s) q above))

  -- so twice s is no more than the whole root of which the root is rounded
  long : 2 * S.v ≤ whole_root (A.v * 2 ^ 1076)
  long = root_ge (A.v * 2 ^ 1076) (whole_root (A.v * 2 ^ 1076)) (2 * S.v) (whole_root_right (A.v * 2 ^ 1076)) (rw (four_units, ← same) (twice S.v Q.v U large))
    where
      twice : (a v u : ℕ) → a * a ≤ v * u → 2 * a * (2 * a) ≤ v * (4 * u)
      twice a v u h = omega arith

  opened : root q ≡ round binary64 false (whole_root (A.v * 2 ^ 1076)) (2 ^ 1075)
  opened = A.root_is ∙ (unfold root_units in refl)

  at_least : (b : Bool) → Is s b S.v → s ≡ round binary64 b S.v U → le s (root q) ≡ true
  at_least false i e =
      ap (λ (x : Float). le x (root q)) e ∙ ap (le (round binary64 false S.v U)) opened
      ∙ is_true (le (round binary64 false S.v U) (round binary64 false (whole_root (A.v * 2 ^ 1076)) (2 ^ 1075)))
      (round_mono binary64 S.v U (whole_root (A.v * 2 ^ 1076)) (2 ^ 1075) U_pos (pow_pos 1075) (rw two_units (halved S.v (whole_root (A.v * 2 ^ 1076)) U long)))
    where
      halved : (a w u : ℕ) → 2 * a ≤ w → a * (2 * u) ≤ w * u
      halved a w u h = let g = mul-le-mul_right u h in omega arith
  at_least true i e =
      order.le_trans s nought (root q) (le_val s nought true false S.v 0 i nought_is (omega arith))
      (ap (le nought) opened ∙ round_nn (whole_root (A.v * 2 ^ 1076)) (2 ^ 1075) (pow_pos 1075))

-- ---- of any two
module _ (q s : Float) (fq : T (fits binary64 q)) (fs : T (fits binary64 s)) (above : lt (mul binary64 s s) q ≡ true) where
  both_finite : Held q → Held s → lt (root q) s ≡ false
  both_finite Q S = not_below (root q) s (λ e. true≢false (sym (at_least q s fq Q S above S.s S.is (round_self s fs S)) ∙ order.lt_not_le (root q) s e))

top_square : mul binary64 (inf false) (inf false) ≡ inf false
unfolding mul
top_square = refl

root_nan : root nan ≡ nan
unfolding root
root_nan = refl

root_bottom : root (inf true) ≡ nan
unfolding root
root_bottom = refl

root_top : root (inf false) ≡ inf false
unfolding root
root_top = refl

pub far_apart : (q s : Float) → T (fits binary64 q) → T (fits binary64 s) → lt (mul binary64 s s) q ≡ true → lt (root q) s ≡ false
far_apart q nan fq fs h = not_below (root q) nan (below_nan (root q))
far_apart q (inf true) fq fs h = not_below (root q) (inf true) (below_bottom (root q))
far_apart q (inf false) fq fs h = absurd (top_below q (ap (λ (x : Float). lt x q) (sym top_square) ∙ h))
far_apart nan (fin t n d) fq fs h = absurd (below_nan (mul binary64 (fin t n d) (fin t n d)) h)
far_apart (inf true) (fin t n d) fq fs h = ap (λ (x : Float). lt x (fin t n d)) root_bottom ∙ nan_below (fin t n d)
far_apart (inf false) (fin t n d) fq fs h = ap (λ (x : Float). lt x (fin t n d)) root_top ∙ not_below (inf false) (fin t n d) (top_below (fin t n d))
far_apart (fin b m e) (fin t n d) fq fs h = both_finite (fin b m e) (fin t n d) fq fs h (held (fin b m e) fq tt) (held (fin t n d) fs tt)
