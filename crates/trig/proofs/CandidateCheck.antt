-- The check of a float that is offered as the angle of the tangent t, from 0 to pi / 4. Assumes nothing.
use Rattle.std.proofs.Common.{◌≡◌, ℕ, ◌+◌, ◌*◌, ◌^◌, ◌<◌, ◌≤◌, true, false, T, negsuc, sym, refl, ap, true≢false, le_trans, mul-le-mul, mul-pos, le_of_mul-le-mul_right, arith, lit<, lit≤, pow_pos}
use lib.Ieee.{Float, nan, inf, fin, binary64, up, down, add, mul, of_bits, le, lt, fits}
use lib.Ieee.Fits.{down_pos}
use lib.Ieee.Order.{le_of_values}
use lib.Ieee.Positive.{num as top, den as bot, den_pos as bot-pos}
use Rattle.float.specs.Units.{U}
use Rattle.float.proofs.Rounding.{W, U-is, U_pos, Rounded, mul_rounded}
use Rattle.trig.proofs.HornerForm.{num, den, num_le, den_pos}
use Rattle.trig.proofs.SumError.{t_le}
use Rattle.trig.specs.Kernel.{sine_kernel, cosine_kernel, plus_zero}
use Rattle.trig.proofs.KernelError.{sin_near, cos_near}
use Rattle.trig.proofs.ResidualBound.{residual_within}
use Rattle.trig.specs.Angle.{pi_den, gap}
use Rattle.trig.proofs.NearestTurn.{pi_den_pos}
use Rattle.trig.specs.Arctangent.{slack, passes}
use Rattle.trig.proofs.GridAngle.{Tangent, val, within, passes_both}
use Rattle.trig.specs.Reduction.{Tame, quarter_pi}
use Rattle.trig.proofs.WaveError.{in_small, le_cross}
use Rattle.trig.proofs.Choices.{is_true}
use Rattle.trig.specs.Direction.{pi}
use Rattle.trig.proofs.Cells.{Plain}
use Rattle.trig.proofs.TangentError.{Tight}
use Rattle.trig.proofs.Quadrants.{Aimed}

-- what the two tests of the range say
pub tame : (r : Float) → lt plus_zero r ≡ true → le r quarter_pi ≡ true → Tame r × Plain r × T (le r pi)
unfolding of_bits lt
tame nan a b = absurd (true≢false (sym a))
tame (inf true) a b = absurd (true≢false (sym a))
tame (inf false) a b = absurd (true≢false (sym (unfold le in b)))
tame (fin true m e) a b = absurd (true≢false (sym a))
tame (fin false m e) a b =
    let c : m * up e * 2 ^ 50 ≤ 884279719003555 * 1 * down e = le_cross m e 884279719003555 (negsuc 49) (is_true _ b) in
    (few (m * up e) (down e) c, tt, le_of_values (fin false m e) pi (m * up e) (down e) 884279719003555 (2 ^ 48) (down_pos e) (pow_pos 48) (refl, refl) (refl, refl) (most (m * up e) (down e) c))
  where
    few : (a d : ℕ) → a * 2 ^ 50 ≤ 884279719003555 * 1 * d → a ≤ 800 * d
    few a d h = omega arith

    most : (a d : ℕ) → a * 2 ^ 50 ≤ 884279719003555 * 1 * d → a * 2 ^ 48 ≤ 884279719003555 * d
    most a d h = omega arith

module _ (t r : Float) (g : Tangent t) (n d : ℕ) (d-pos : 0 < d) (small : 100 * n ≤ 79 * d) (z : Rounded r false (n * U) d (24 * W)) where
  low : n ≤ d
  low = go n d small
    where
      go : (x y : ℕ) → 100 * x ≤ 79 * y → x ≤ y
      go x y h = omega arith

  c : Rounded (cosine_kernel r) false (num (n * n) (d * d) 12 1 * U) (den (d * d) 12 1) (128 * W)
  c = cos_near r z.v n d d-pos small z.is z.near

  s : Rounded (sine_kernel r) false (n * num (n * n) (d * d) 12 2 * U) (d * den (d * d) 12 2) (128 * W)
  s = sin_near r z.v n d d-pos small z.is z.near

  c_le : c.v ≤ U + 128 * W
  c_le = t_le U (128 * W) (num (n * n) (d * d) 12 1) (den (d * d) 12 1) c.v (den_pos (d * d) 12 1 (mul-pos d-pos d-pos) (lit≤ tt)) (num_le (n * n) (d * d) 12 1) c.near

  s_le : s.v ≤ U + 144 * W
  s_le = le_trans (t_le U (128 * W) (n * num (n * n) (d * d) 12 2) (d * den (d * d) 12 2) s.v (mul-pos d-pos (den_pos (d * d) 12 2 (mul-pos d-pos d-pos) (lit≤ tt))) (mul-le-mul low (num_le (n * n) (d * d) 12 2)) s.near) (go U W)
    where
      go : (u w : ℕ) → u + 128 * w ≤ u + 144 * w
      go u w = omega arith

  p_fits : val t * c.v < 2 ^ 58 * W * U
  p_fits = go (val t * c.v) U W U-is U_pos (mul-le-mul g.most c_le)
    where
      go : (x u w : ℕ) → u ≡ 2 ^ 57 * w → 0 < u → x ≤ u * (u + 128 * w) → x < 2 ^ 58 * w * u
      go x u w e p h =
          let a : u * u ≡ 2 ^ 57 * w * u = ap (λ (z : ℕ). z * u) e in
          let b : 0 < u * u = mul-pos p p in
          omega arith

  p : Rounded (mul binary64 t (cosine_kernel r)) false (val t * c.v) U (16 * W)
  p = mul_rounded t (cosine_kernel r) false false (val t) c.v 4 (lit≤ tt) g.is c.is p_fits

  p_le : p.v ≤ U + 144 * W
  p_le = le_of_mul-le-mul_right {k = U} (go p.v (val t * c.v) U W (mul-le-mul g.most c_le) p.near.0) U_pos
    where
      go : (v x u w : ℕ) → x ≤ u * (u + 128 * w) → v * u ≤ x + 16 * w * u → v * u ≤ (u + 144 * w) * u
      go v x u w h k = omega arith

  checked : T (le (sine_kernel r) (add binary64 (mul binary64 t (cosine_kernel r)) slack)) → T (le (mul binary64 t (cosine_kernel r)) (add binary64 (sine_kernel r) slack)) → Tight (val t) n d
  checked a b =
      let q = residual_within U (val t) c.v s.v p.v (num (n * n) (d * d) 12 1) (den (d * d) 12 1) (n * num (n * n) (d * d) 12 2) (d * den (d * d) 12 2) (128 * W) (16 * W) (144 * W) U_pos g.most c.near s.near p.near
      (within (sine_kernel r) (mul binary64 t (cosine_kernel r)) s.v p.v s.is p.is s_le b) (within (mul binary64 t (cosine_kernel r)) (sine_kernel r) p.v s.v p.is s.is p_le a) in
      record { up = weaken _ _ W (den (d * d) 12 1) (d * den (d * d) 12 2) q.0; down = weaken' _ _ W (den (d * d) 12 1) (d * den (d * d) 12 2) q.1 }
    where
      weaken : (x y w d f : ℕ) → x ≤ y + (128 * w + 128 * w + 16 * w + 144 * w) * (d * f) → x ≤ y + 848 * w * (d * f)
      weaken x y w d f h = omega arith

      weaken' : (x y w d f : ℕ) → x ≤ y + (128 * w + 128 * w + 16 * w + 144 * w) * (d * f) → x ≤ y + 848 * w * (f * d)
      weaken' x y w d f h = omega arith

pub flat_passed : (t r : Float) → Tangent t → T (fits binary64 r) → lt plus_zero r ≡ true → le r quarter_pi ≡ true → passes t r ≡ true → Aimed (val t) 0 false r
flat_passed t r g f lo hi h =
    let w = tame r lo hi in
    let z = in_small r w.0 f hi in
    let b = passes_both t r h in
    record {
      plain = w.1;
      k_is = z.k_is;
      side = z.side;
      low = low t r g (gap false (top r) (bot r) 0) (2 * bot r * pi_den) (mul-pos (mul-pos (lit< tt) (bot-pos r)) pi_den_pos) z.small z.near;
      greatest = w.2;
      tight = checked t r g (gap false (top r) (bot r) 0) (2 * bot r * pi_den) (mul-pos (mul-pos (lit< tt) (bot-pos r)) pi_den_pos) z.small z.near b.0 b.1;
    }
