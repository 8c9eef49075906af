-- sin r and cos r in floats, for a float r that is within 24 * 2 ^ -57 of a fraction rn / rd of at most 0.79: within 2 ^ -50 of the Taylor sums at rn / rd, in Horner's form. Assumes nothing.
use Rattle.std.proofs.Common.{◌≡◌, ℕ, ◌+◌, ◌*◌, ◌^◌, ◌<◌, ◌≤◌, false, ap, mul-le-mul_right, mul-le-mul, mul-pos, le_of_mul-le-mul_right, arith, lit≤}
use lib.Ieee.{Float, binary64, mul}
use Rattle.float.proofs.Rounding.{Within}
use Rattle.float.specs.Units.{U, Is}
use Rattle.float.proofs.Rounding.{W, U-is, U_pos, Rounded, mul_rounded}
use Rattle.trig.proofs.HornerForm.{num, den, den_pos, num_le}
use Rattle.trig.proofs.SumError.{sine_sum_near, cosine_sum_near, prod, t_le}
use Rattle.trig.specs.Kernel.{one, sum, sine_kernel, cosine_kernel}

-- ---- the square
sq_up : (u r rn rd e : ℕ) → 5 * rn ≤ 4 * rd → 5 * e ≤ 2 * u → r * rd ≤ rn * u + e * rd → r * rd * (r * rd) ≤ rn * u * (rn * u) + 2 * e * (rd * rd * u)
sq_up u r rn rd e L M h = go (mul-le-mul h h) (mul-le-mul_right (u * e * rd) L) (mul-le-mul_right (e * rd * rd) M)
  where
    go : r * rd * (r * rd) ≤ (rn * u + e * rd) * (rn * u + e * rd) → 5 * rn * (u * e * rd) ≤ 4 * rd * (u * e * rd) → 5 * e * (e * rd * rd) ≤ 2 * u * (e * rd * rd) → r * rd * (r * rd) ≤ rn * u * (rn * u) + 2 * e * (rd * rd * u)
    go a b c = omega arith

sq_down : (u r rn rd e : ℕ) → 5 * r ≤ 4 * u → 5 * e ≤ 2 * u → rn * u ≤ r * rd + e * rd → rn * u * (rn * u) ≤ r * rd * (r * rd) + 2 * e * (rd * rd * u)
sq_down u r rn rd e L M h = go (mul-le-mul h h) (mul-le-mul_right (rd * e * rd) L) (mul-le-mul_right (e * rd * rd) M)
  where
    go : rn * u * (rn * u) ≤ (r * rd + e * rd) * (r * rd + e * rd) → 5 * r * (rd * e * rd) ≤ 4 * u * (rd * e * rd) → 5 * e * (e * rd * rd) ≤ 2 * u * (e * rd * rd) → rn * u * (rn * u) ≤ r * rd * (r * rd) + 2 * e * (rd * rd * u)
    go a b c = omega arith

square : (u r rn rd e z f : ℕ) → 0 < u → 5 * rn ≤ 4 * rd → 5 * r ≤ 4 * u → 5 * e ≤ 2 * u → Within r (rn * u) rd e → Within z (r * r) u f → Within z (rn * rn * u) (rd * rd) (f + 2 * e)
square u r rn rd e z f P L R M w x = (
  le_of_mul-le-mul_right {k = u} (up (mul-le-mul_right (rd * rd) x.0) (sq_up u r rn rd e L M w.0)) P,
  le_of_mul-le-mul_right {k = u} (down (mul-le-mul_right (rd * rd) x.1) (sq_down u r rn rd e R M w.1)) P,
)
  where
    up : z * u * (rd * rd) ≤ (r * r + f * u) * (rd * rd) → r * rd * (r * rd) ≤ rn * u * (rn * u) + 2 * e * (rd * rd * u) → z * (rd * rd) * u ≤ (rn * rn * u + (f + 2 * e) * (rd * rd)) * u
    up a b = omega arith

    down : r * r * (rd * rd) ≤ (z * u + f * u) * (rd * rd) → rn * u * (rn * u) ≤ r * rd * (r * rd) + 2 * e * (rd * rd * u) → rn * rn * u * u ≤ (z * (rd * rd) + (f + 2 * e) * (rd * rd)) * u
    down a b = omega arith

module _ (r : Float) (rv rn rd : ℕ) (P : 0 < rd) (small : 100 * rn ≤ 79 * rd) (r-is : Is r false rv) (near : Within rv (rn * U) rd (24 * W)) where
  fifth : 5 * rn ≤ 4 * rd
  fifth = omega arith

  eighths : 8 * (rn * rn) ≤ 5 * (rd * rd)
  eighths = go (mul-le-mul small small)
    where
      go : 100 * rn * (100 * rn) ≤ 79 * rd * (79 * rd) → 8 * (rn * rn) ≤ 5 * (rd * rd)
      go h = omega arith

  r_size : 5 * rv ≤ 4 * U
  r_size = le_of_mul-le-mul_right {k = rd} (go U W U-is near.0 (mul-le-mul_right U small)) P
    where
      go : (u w : ℕ) → u ≡ 2 ^ 57 * w → rv * rd ≤ rn * u + 24 * w * rd → 100 * rn * u ≤ 79 * rd * u → 5 * rv * rd ≤ 4 * u * rd
      go u w e a b =
          let c : u * rd ≡ 2 ^ 57 * w * rd = ap (λ (x : ℕ). x * rd) e in
          omega arith

  sq_fits : rv * rv < 2 ^ 57 * W * U
  sq_fits = go U W U-is U_pos (mul-le-mul r_size r_size)
    where
      go : (u w : ℕ) → u ≡ 2 ^ 57 * w → 0 < u → 5 * rv * (5 * rv) ≤ 4 * u * (4 * u) → rv * rv < 2 ^ 57 * w * u
      go u w e p a =
          let b : u * u ≡ 2 ^ 57 * w * u = ap (λ (x : ℕ). x * u) e in
          let c : 0 < u * u = mul-pos p p in
          omega arith

  z : Rounded (mul binary64 r r) false (rv * rv) U (8 * W)
  z = mul_rounded r r false false rv rv 3 (lit≤ tt) r-is r-is sq_fits

  z_near : Within z.v (rn * rn * U) (rd * rd) (64 * W)
  z_near = weaken z.v (rn * rn * U) (rd * rd) W (square U rv rn rd (24 * W) z.v (8 * W) U_pos fifth r_size (few U W U-is) near z.near)
    where
      few : (u w : ℕ) → u ≡ 2 ^ 57 * w → 5 * (24 * w) ≤ 2 * u
      few u w e = omega arith

      weaken : (v n d w : ℕ) → Within v n d (8 * w + 2 * (24 * w)) → Within v n d (64 * w)
      weaken v n d w h = (omega arith, omega arith)

  pub cos_near : Rounded (cosine_kernel r) false (num (rn * rn) (rd * rd) 12 1 * U) (den (rd * rd) 12 1) (128 * W)
  unfolding cosine_kernel
  cos_near =
      let t = cosine_sum_near (mul binary64 r r) z.v (rn * rn) (rd * rd) (mul-pos P P) eighths z.is z_near in
      record { v = t.v; is = t.is; near = weaken t.v (num (rn * rn) (rd * rd) 12 1 * U) (den (rd * rd) 12 1) W t.near }
    where
      weaken : (v n d w : ℕ) → Within v n d (96 * w) → Within v n d (128 * w)
      weaken v n d w h = (omega arith, omega arith)

  t_sin : Rounded (sum (mul binary64 r r) one 1 12) false (num (rn * rn) (rd * rd) 12 2 * U) (den (rd * rd) 12 2) (96 * W)
  t_sin = sine_sum_near (mul binary64 r r) z.v (rn * rn) (rd * rd) (mul-pos P P) eighths z.is z_near

  pub sin_near : Rounded (sine_kernel r) false (rn * num (rn * rn) (rd * rd) 12 2 * U) (rd * den (rd * rd) 12 2) (128 * W)
  unfolding sine_kernel
  sin_near =
      let s = mul_rounded r (sum (mul binary64 r r) one 1 12) false false rv t_sin.v 3 (lit≤ tt) r-is t_sin.is
      (fits U W U-is U_pos (mul-le-mul r_size (t_le U (96 * W) (num (rn * rn) (rd * rd) 12 2) (den (rd * rd) 12 2) t_sin.v (den_pos (rd * rd) 12 2 (mul-pos P P) (lit≤ tt)) (num_le (rn * rn) (rd * rd) 12 2) t_sin.near))) in
      record {
        v = s.v;
        is = s.is;
        near = weaken s.v (rn * num (rn * rn) (rd * rd) 12 2 * U) (rd * den (rd * rd) 12 2) W
            (prod U rn rd (24 * W) (num (rn * rn) (rd * rd) 12 2) (den (rd * rd) 12 2) (96 * W) (96 * W) rv t_sin.v s.v (8 * W) U_pos (num_le (rn * rn) (rd * rd) 12 2)
            (mul-le-mul_right (96 * W) (below rv U r_size)) near t_sin.near s.near);
      }
    where
      below : (r u : ℕ) → 5 * r ≤ 4 * u → r ≤ u
      below r u h = omega arith

      fits : (u w : ℕ) → u ≡ 2 ^ 57 * w → 0 < u → 5 * rv * t_sin.v ≤ 4 * u * (u + 96 * w) → rv * t_sin.v < 2 ^ 57 * w * u
      fits u w e p a = go t_sin.v a
        where
          go : (t : ℕ) → 5 * rv * t ≤ 4 * u * (u + 96 * w) → rv * t < 2 ^ 57 * w * u
          go t a =
              let b : u * u ≡ 2 ^ 57 * w * u = ap (λ (x : ℕ). x * u) e in
              let c : 0 < u * u = mul-pos p p in
              omega arith

      weaken : (v n d w : ℕ) → Within v n d (8 * w + 24 * w + 96 * w) → Within v n d (128 * w)
      weaken v n d w h = (omega arith, omega arith)
