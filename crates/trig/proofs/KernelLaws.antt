-- The kernel is right where |r| ≤ 0.79: within 2 ^ -50 of S(r) and C(r), with no reduction. Assumes nothing.
use Rattle.std.proofs.Common.{◌≡◌, ℕ, ◌*◌, ◌≤◌, Bool, true, false, cond, T, eqb, ℤ, sym, refl, ap, ◌∙◌, subst, arith}
use lib.Ieee.{Float, nan, inf, fin, binary64, up, down, mul, neg, fits}
use lib.Ieee.Fits.{down_pos, neg-fits}
use Rattle.float.proofs.Rounding.{Within}
use Rattle.float.specs.Units.{U}
use Rattle.float.proofs.Rounding.{W}
use Rattle.float.proofs.Order.{neg_neg}
use Rattle.float.proofs.Signed.{round_neg}
use Rattle.trig.specs.Fraction.{Near}
use Rattle.trig.specs.Taylor.{sin_sum, cos_sum}
use Rattle.trig.specs.Kernel.{one, sum, sine_kernel, cosine_kernel, sine_sum, SineNear, CosineNear}
use Rattle.trig.proofs.Scaling.{units_of}
use Rattle.trig.proofs.WaveError.{sin_right, cos_right, near_neg}

-- ---- the sign of r
square_even : (m : ℕ) (e : ℤ) → mul binary64 (fin true m e) (fin true m e) ≡ mul binary64 (fin false m e) (fin false m e)
unfolding mul
square_even m e = refl

product_odd : (m : ℕ) (e : ℤ) (t : Float) → mul binary64 (fin true m e) t ≡ neg (mul binary64 (fin false m e) t)
unfolding mul
product_odd m e nan = unfold neg in refl
product_odd m e (inf true) = go (eqb m 0)
  where
    go : (b : Bool) → cond b nan (inf false) ≡ neg (cond b nan (inf true))
    go true = unfold neg in refl
    go false = unfold neg in refl
product_odd m e (inf false) = go (eqb m 0)
  where
    go : (b : Bool) → cond b nan (inf true) ≡ neg (cond b nan (inf false))
    go true = unfold neg in refl
    go false = unfold neg in refl
product_odd m e (fin true n d) = sym (neg_neg _) ∙ ap neg (sym (round_neg (m * up e * (n * up d)) (down e * down d)))
product_odd m e (fin false n d) = round_neg (m * up e * (n * up d)) (down e * down d)

sine_kernel_odd : (m : ℕ) (e : ℤ) → sine_kernel (fin true m e) ≡ neg (sine_kernel (fin false m e))
unfolding sine_kernel
sine_kernel_odd m e = ap (λ (z : Float). mul binary64 (fin true m e) (sum z one 1 12)) (square_even m e) ∙ product_odd m e (sum (mul binary64 (fin false m e) (fin false m e)) one 1 12)

cosine_kernel_even : (m : ℕ) (e : ℤ) → cosine_kernel (fin true m e) ≡ cosine_kernel (fin false m e)
unfolding cosine_kernel
cosine_kernel_even m e = ap (λ (z : Float). sum z one 0 12) (square_even m e)

-- ---- r from 0 to 0.79
module _ (m : ℕ) (e : ℤ) (f : T (fits binary64 (fin false m e))) (h : 100 * (m * up e) ≤ 79 * down e) where
  exact : Within (units_of false m e f).0 (m * up e * U) (down e) (24 * W)
  exact = go (units_of false m e f).0 (m * up e * U) (down e) W (units_of false m e f).2
    where
      go : (v n d w : ℕ) → v * d ≡ n → Within v n d (24 * w)
      go v n d w p = (omega arith, omega arith)

  sine_plain : Near 50 (sine_kernel (fin false m e)) (sin_sum (m * up e) (down e))
  sine_plain = let u = units_of false m e f in sin_right (fin false m e) u.0 (m * up e) (down e) (down_pos e) h u.1 exact

  cosine_plain : Near 50 (cosine_kernel (fin false m e)) (cos_sum (m * up e) (down e))
  cosine_plain = let u = units_of false m e f in cos_right (fin false m e) u.0 (m * up e) (down e) (down_pos e) h u.1 exact

mirrored : (m : ℕ) (e : ℤ) → T (fits binary64 (fin true m e)) → T (fits binary64 (fin false m e))
mirrored m e f = unfold neg in neg-fits binary64 (fin true m e) f

pub sine_kernel_near : (r : Float) → T (fits binary64 r) → SineNear r (sine_kernel r)
sine_kernel_near nan f h = absurd h
sine_kernel_near (inf s) f h = absurd h
sine_kernel_near (fin true m e) f h =
    subst (λ (y : Float). Near 50 y (sine_sum (fin true m e))) (sym (sine_kernel_odd m e)) (near_neg 50 (sine_kernel (fin false m e)) (sin_sum (m * up e) (down e)) (sine_plain m e (mirrored m e f) h))
sine_kernel_near (fin false m e) f h = sine_plain m e f h

pub cosine_kernel_near : (r : Float) → T (fits binary64 r) → CosineNear r (cosine_kernel r)
cosine_kernel_near nan f h = absurd h
cosine_kernel_near (inf s) f h = absurd h
cosine_kernel_near (fin true m e) f h = subst (λ (y : Float). Near 50 y (cos_sum (m * up e) (down e))) (sym (cosine_kernel_even m e)) (cosine_plain m e (mirrored m e f) h)
cosine_kernel_near (fin false m e) f h = cosine_plain m e f h
