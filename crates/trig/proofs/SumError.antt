-- The error of the sum in floats: the code's `sum` is Horner's nested form (`sum_nested`), and where z is at most 5/8 its error is at most `bound n i` * 2 ^ -57,
-- which is below 96 for the 12 terms of the sine and of the cosine. Assumes nothing.
use Rattle.std.proofs.Common.{◌≡◌, ℕ, zero, suc, ◌+◌, ◌-◌, ◌*◌, ◌/◌, ◌^◌, ◌<◌, ◌≤◌, Bool, false, pos, sym, refl, ap, ◌∙◌, subst, inl, inr, lt_of_lt_of_le, lt_of_le_of_lt, le_of_lt, mul-le-mul_right, mul-le-mul, mul-le-mul_left, mul-lt-mul_of_pos_right, mul-pos, div-mul-le_self, le_of_mul-le-mul_right, arith, lit<, lit≤, pow_pos}
use native.Mathlib.Nat.{lt-mul-div-succ}
use lib.Ieee.{Float, nan, inf, fin, binary64, up, down, sub, mul, round, of_int}
use lib.Ieee.Exact.{HasValue, round_exact}
use Rattle.trig.proofs.HornerForm.{num, den, num_le, den_pos, two_le}
use Rattle.float.proofs.Units.{le_or_lt}
use Rattle.float.proofs.UpTo.{one_is}
use Rattle.float.proofs.Rounding.{Within}
use Rattle.float.specs.Units.{U, Is}
use Rattle.float.proofs.Rounding.{W, U-is, U_pos, W-pos, Rounded, mul_rounded, round_rounded, sub_rounded}
use Rattle.trig.specs.Kernel.{one, reciprocal, step as sum_step, sum}

-- ---- |q - zn / (c * zd)| from |z - zn / zd| and the rounding of z / c
quot : (u zv zn zd ez c qv f h : ℕ) → 2 ≤ c → ez ≤ 2 * h → Within zv (zn * u) zd ez → Within qv zv c f → Within qv (zn * u) (c * zd) (f + h)
quot u zv zn zd ez c qv f h C H w r =
    let a = mul-le-mul_right zd r.0 in
    let b = mul-le-mul_right zd r.1 in
    let d = mul-le-mul_right (h * zd) C in
    let e = mul-le-mul_right zd H in
    (omega arith, omega arith)

-- ---- |p - A / B * N / D| from |q - A / B|, |t - N / D| and the rounding of q * t, where q times t's error is at most k
prod_up : (u A B g N D E k q t : ℕ) → N ≤ D → q * E ≤ u * k → q * B ≤ A * u + g * B → t * D ≤ N * u + E * D → q * B * (t * D) ≤ A * u * (N * u) + (g + k) * (B * D * u)
prod_up u A B g N D E k q t L K w x =
    sums (mul-le-mul_left (q * B) x) (mul-le-mul_right (N * u) w) (mul-le-mul_left (g * B * u) L) (mul-le-mul_right (B * D) K)
  where
    sums : q * B * (t * D) ≤ q * B * (N * u + E * D) → q * B * (N * u) ≤ (A * u + g * B) * (N * u) → g * B * u * N ≤ g * B * u * D → q * E * (B * D) ≤ u * k * (B * D) → q * B * (t * D) ≤ A * u * (N * u) + (g + k) * (B * D * u)
    sums a b c d = omega arith

prod_down : (u A B g N D E k q t : ℕ) → N ≤ D → q * E ≤ u * k → A * u ≤ q * B + g * B → N * u ≤ t * D + E * D → A * u * (N * u) ≤ q * B * (t * D) + (g + k) * (B * D * u)
prod_down u A B g N D E k q t L K w x =
    sums (mul-le-mul_left (q * B) x) (mul-le-mul_right (N * u) w) (mul-le-mul_left (g * B * u) L) (mul-le-mul_right (B * D) K)
  where
    sums : q * B * (N * u) ≤ q * B * (t * D + E * D) → A * u * (N * u) ≤ (q * B + g * B) * (N * u) → g * B * u * N ≤ g * B * u * D → q * E * (B * D) ≤ u * k * (B * D) → A * u * (N * u) ≤ q * B * (t * D) + (g + k) * (B * D * u)
    sums a b c d = omega arith

pub prod : (u A B g N D E k q t p f : ℕ) → 0 < u → N ≤ D → q * E ≤ u * k → Within q (A * u) B g → Within t (N * u) D E → Within p (q * t) u f → Within p (A * N * u) (B * D) (f + g + k)
prod u A B g N D E k q t p f P L K w x r = (
  le_of_mul-le-mul_right {k = u} (up (mul-le-mul_right (B * D) r.0) (prod_up u A B g N D E k q t L K w.0 x.0)) P,
  le_of_mul-le-mul_right {k = u} (down (mul-le-mul_right (B * D) r.1) (prod_down u A B g N D E k q t L K w.1 x.1)) P,
)
  where
    up : p * u * (B * D) ≤ (q * t + f * u) * (B * D) → q * B * (t * D) ≤ A * u * (N * u) + (g + k) * (B * D * u) → p * (B * D) * u ≤ (A * N * u + (f + g + k) * (B * D)) * u
    up a b = omega arith

    down : q * t * (B * D) ≤ (p * u + f * u) * (B * D) → A * u * (N * u) ≤ q * B * (t * D) + (g + k) * (B * D * u) → A * N * u * u ≤ (p * (B * D) + (f + g + k) * (B * D)) * u
    down a b = omega arith

-- ---- |s - (1 - M / D)|
rest : (u M D g pv sv e : ℕ) → M ≤ D → pv ≤ u → Within pv (M * u) D g → Within sv (u - pv) 1 e → Within sv ((D - M) * u) D (e + g)
rest u M D g pv sv e L P w r = go (u - pv) (D - M) (split u pv P) (split D M L) r
  where
    split : (x y : ℕ) → y ≤ x → x ≡ y + (x - y)
    split x y h = omega arith

    go : (k N : ℕ) → u ≡ pv + k → D ≡ M + N → Within sv k 1 e → Within sv (N * u) D (e + g)
    go k N x y r =
        let a = mul-le-mul_right D r.0 in
        let b = mul-le-mul_right D r.1 in
        let c : u * D ≡ (pv + k) * D = ap (λ (z : ℕ). z * D) x in
        let d : D * u ≡ (M + N) * u = ap (λ (z : ℕ). z * u) y in
        (omega arith, omega arith)

-- ---- sizes
z_le : (u w zv zn zd : ℕ) → 0 < zd → 8 * zn ≤ 5 * zd → Within zv (zn * u) zd (64 * w) → 8 * zv ≤ 5 * u + 512 * w
z_le u w zv zn zd Z h r = le_of_mul-le-mul_right {k = zd} (go (mul-le-mul_right u h) r.0) Z
  where
    go : 8 * zn * u ≤ 5 * zd * u → zv * zd ≤ zn * u + 64 * w * zd → 8 * zv * zd ≤ (5 * u + 512 * w) * zd
    go a b = omega arith

q_le : (w zv c qv : ℕ) → 2 ≤ c → Within qv zv c (10 * w) → 2 * qv ≤ zv + 20 * w
q_le w zv c qv C r = elim (le_or_lt qv (10 * w)) [ inl h ↦ omega arith | inr h ↦ go (qv - 10 * w) (split qv (10 * w) (lt_le h)) ]
  where
    lt_le : 10 * w < qv → 10 * w ≤ qv
    lt_le h = omega arith

    split : (x y : ℕ) → y ≤ x → x ≡ y + (x - y)
    split x y h = omega arith

    go : (j : ℕ) → qv ≡ 10 * w + j → 2 * qv ≤ zv + 20 * w
    go j e =
        let a : qv * c ≡ (10 * w + j) * c = ap (λ (x : ℕ). x * c) e in
        let b : qv * c ≤ zv + 10 * w * c = r.0 in
        let d : j * 2 ≤ j * c = mul-le-mul_left j C in
        omega arith

pub t_le : (u e N D tv : ℕ) → 0 < D → N ≤ D → Within tv (N * u) D e → tv ≤ u + e
t_le u e N D tv P L r = le_of_mul-le-mul_right {k = D} (go (mul-le-mul_right u L) r.0) P
  where
    go : N * u ≤ D * u → tv * D ≤ N * u + e * D → tv * D ≤ (u + e) * D
    go a b = omega arith

-- ---- small whole numbers are floats
times : (x : Float) (s : Bool) (a c k : ℕ) → HasValue x s a c → HasValue x s (a * k) (c * k)
times nan s a c k h = h
times (inf t) s a c k h = h
times (fin t m e) s a c k h = (h.0, go (m * up e) (down e) h.1)
  where
    go : (x d : ℕ) → x * c ≡ a * d → x * (c * k) ≡ a * k * d
    go x d p =
        let l : x * c * k ≡ a * d * k = ap (λ (z : ℕ). z * k) p in
        omega arith

one_times : (x : ℕ) → 1 * x ≡ x
one_times x = omega arith

fine : (c L : ℕ) → c < 2 ^ 53 → 0 < L → c * L < 2 ^ 53 * L
fine c L h P = mul-lt-mul_of_pos_right h P

in_order : (c L : ℕ) → c * L ≡ c * L * 1
in_order c L = omega arith

pub int_is : (c : ℕ) → c < 2 ^ 53 → Is (of_int binary64 (pos c)) false (c * U)
unfolding U
int_is c h =
    subst (λ (z : ℕ). HasValue (of_int binary64 (pos c)) false (c * 2 ^ 1074) z) (one_times (2 ^ 1074))
    (times (of_int binary64 (pos c)) false c 1 (2 ^ 1074)
    (unfold of_int in round_exact binary64 false c 1 c 1074 (lit< tt) h (lt_of_lt_of_le (fine c (2 ^ 1074) h (pow_pos 1074)) (lit≤ tt)) (in_order c (2 ^ 1074))))

recip_rounded : (c : ℕ) → 2 ≤ c → Rounded (reciprocal c) false U c (8 * W)
unfolding reciprocal
recip_rounded c C = subst (λ (z : ℕ). Rounded (round binary64 false 1 c) false z c (8 * W)) (one_times U) (round_rounded false 1 c 3 (lt_of_lt_of_le (lit< tt) C) (lit≤ tt) (go U W U-is W-pos (mul-le-mul_left W C)))
  where
    go : (u w : ℕ) → u ≡ 2 ^ 57 * w → 0 < w → w * 2 ≤ w * c → 1 * u < 2 ^ 57 * w * c
    go u w e h l = omega arith

product : (u w x y : ℕ) → u ≡ 2 ^ 57 * w → 0 < u → 4 * x * (5 * y) ≤ 3 * u * (3 * u) → x * y < 2 ^ 56 * w * u
product u w x y e p h =
    let a : u * u ≡ 2 ^ 57 * w * u = ap (λ (z : ℕ). z * u) e in
    let b : 0 < u * u = mul-pos p p in
    omega arith

-- ---- one step
module _ (zv zn zd c K k : ℕ) (Z : 0 < zd) (small : 8 * zn ≤ 5 * zd) (C : 2 ≤ c) (C' : c < 2 ^ 20) (K-le : 3 * K ≤ 2 ^ 57) (K-k : 2 * K ≤ 3 * c * k) (z_near : Within zv (zn * U) zd (64 * W)) where
  z_size : 8 * zv ≤ 5 * U + 512 * W
  z_size = z_le U W zv zn zd Z small z_near

  module _ (rv : ℕ) (r_near : Within rv U c (8 * W)) where
    r_size : 2 * rv ≤ U + 16 * W
    r_size = le_of_mul-le-mul_right {k = c} (go U W r_near.0 (mul-le-mul_left U C)) (lt_of_lt_of_le (lit< tt) C)
      where
        go : (u w : ℕ) → rv * c ≤ u + 8 * w * c → u * 2 ≤ u * c → 2 * rv * c ≤ (u + 16 * w) * c
        go u w a b = omega arith

    q_fits : zv * rv < 2 ^ 56 * W * U
    q_fits = product U W zv rv U-is U_pos (mul-le-mul (z_part U W U-is z_size) (r_part U W U-is r_size))
      where
        z_part : (u w : ℕ) → u ≡ 2 ^ 57 * w → 8 * zv ≤ 5 * u + 512 * w → 4 * zv ≤ 3 * u
        z_part u w e h = omega arith

        r_part : (u w : ℕ) → u ≡ 2 ^ 57 * w → 2 * rv ≤ u + 16 * w → 5 * rv ≤ 3 * u
        r_part u w e h = omega arith

    -- |q - z / c| ≤ 10 W
    q_within : (qv : ℕ) → Within qv (zv * rv) U (4 * W) → Within qv zv c (10 * W)
    q_within qv h = (
      le_of_mul-le-mul_right {k = U} (up U W U-is (mul-le-mul_right c h.0) (mul-le-mul_left zv r_near.0) (mul-le-mul_right (W * c) z_size)) U_pos,
      le_of_mul-le-mul_right {k = U} (dn U W U-is (mul-le-mul_right c h.1) (mul-le-mul_left zv r_near.1) (mul-le-mul_right (W * c) z_size)) U_pos,
    )
      where
        up : (u w : ℕ) → u ≡ 2 ^ 57 * w → qv * u * c ≤ (zv * rv + 4 * w * u) * c → zv * (rv * c) ≤ zv * (u + 8 * w * c) → 8 * zv * (w * c) ≤ (5 * u + 512 * w) * (w * c) → qv * c * u ≤ (zv + 10 * w * c) * u
        up u w e a b d = sums (ap (λ (x : ℕ). x * (w * c)) e)
          where
            sums : u * (w * c) ≡ 2 ^ 57 * w * (w * c) → qv * c * u ≤ (zv + 10 * w * c) * u
            sums f = omega arith

        dn : (u w : ℕ) → u ≡ 2 ^ 57 * w → zv * rv * c ≤ (qv * u + 4 * w * u) * c → zv * u ≤ zv * (rv * c + 8 * w * c) → 8 * zv * (w * c) ≤ (5 * u + 512 * w) * (w * c) → zv * u ≤ (qv * c + 10 * w * c) * u
        dn u w e a b d = sums (ap (λ (x : ℕ). x * (w * c)) e)
          where
            sums : u * (w * c) ≡ 2 ^ 57 * w * (w * c) → zv * u ≤ (qv * c + 10 * w * c) * u
            sums f = omega arith

  module _ (qv N D tv : ℕ) (P : 0 < D) (L : N ≤ D) (t-near : Within tv (N * U) D (K * W)) (q-near : Within qv zv c (10 * W)) where
    q_third : 3 * qv ≤ U
    q_third = go U W U-is W-pos z_size (q_le W zv c qv C q-near)
      where
        go : (u w : ℕ) → u ≡ 2 ^ 57 * w → 0 < w → 8 * zv ≤ 5 * u + 512 * w → 2 * qv ≤ zv + 20 * w → 3 * qv ≤ u
        go u w e p a b = omega arith

    -- q ≤ 2 / (3 c)
    q_part : 3 * c * qv ≤ 2 * U
    q_part = go U W U-is z_size q-near.0 (mul-le-mul_left W C')
      where
        go : (u w : ℕ) → u ≡ 2 ^ 57 * w → 8 * zv ≤ 5 * u + 512 * w → qv * c ≤ zv + 10 * w * c → w * suc c ≤ w * 2 ^ 20 → 3 * c * qv ≤ 2 * u
        go u w e a b d = omega arith

    q_times : qv * (K * W) ≤ U * (k * W)
    q_times = regroup U W (mul-le-mul_right W (le_of_mul-le-mul_right {k = 3 * c} (go U (mul-le-mul_right K q_part) (mul-le-mul_left U K-k)) (mul-pos (lit< tt) (lt_of_lt_of_le (lit< tt) C))))
      where
        go : (u : ℕ) → 3 * c * qv * K ≤ 2 * u * K → u * (2 * K) ≤ u * (3 * c * k) → qv * K * (3 * c) ≤ u * k * (3 * c)
        go u a b = omega arith

        regroup : (u w : ℕ) → qv * K * w ≤ u * k * w → qv * (K * w) ≤ u * (k * w)
        regroup u w h = omega arith

    mul_fits : qv * tv < 2 ^ 56 * W * U
    mul_fits = go U W U-is W-pos U_pos (mul-le-mul q_third (t_le U (K * W) N D tv P L t-near)) (mul-le-mul_right (W * U) K-le)
      where
        go : (u w : ℕ) → u ≡ 2 ^ 57 * w → 0 < w → 0 < u → 3 * qv * tv ≤ u * (u + K * w) → 3 * K * (w * u) ≤ 2 ^ 57 * (w * u) → qv * tv < 2 ^ 56 * w * u
        go u w e p o a f =
            let b : u * u ≡ 2 ^ 57 * w * u = ap (λ (x : ℕ). x * u) e in
            let d : 0 < w * u = mul-pos p o in
            omega arith

    module _ (pv sv : ℕ) (p-near : Within pv (qv * tv) U (4 * W)) where
      p_exact : Within pv (zn * N * U) (c * zd * D) (4 * W + (10 * W + 32 * W) + k * W)
      p_exact = prod U zn (c * zd) (10 * W + 32 * W) N D (K * W) (k * W) qv tv pv (4 * W) U_pos L q_times (quot U zv zn zd (64 * W) c qv (10 * W) (32 * W) C (two W) z_near q-near) t-near p-near
        where
          two : (w : ℕ) → 64 * w ≤ 2 * (32 * w)
          two w = omega arith

      p_size : pv ≤ U
      p_size = le_of_mul-le-mul_right (go U W U-is W-pos U_pos mul_fits p-near.0) U_pos
        where
          go : (u w : ℕ) → u ≡ 2 ^ 57 * w → 0 < w → 0 < u → qv * tv < 2 ^ 56 * w * u → pv * u ≤ qv * tv + 4 * w * u → pv * u ≤ u * u
          go u w e p o a b =
              let d : u * u ≡ 2 ^ 57 * w * u = ap (λ (x : ℕ). x * u) e in
              omega arith

      sub_fits : U - pv < 2 ^ 58 * W
      sub_fits = go U W U-is W-pos
        where
          go : (u w : ℕ) → u ≡ 2 ^ 57 * w → 0 < w → u - pv < 2 ^ 58 * w
          go u w e p = omega arith

      fewer : zn * N ≤ c * zd * D
      fewer = mul-le-mul {n₁ = zn} (go (mul-le-mul_right zd C)) L
        where
          go : 2 * zd ≤ c * zd → zn ≤ c * zd
          go a = omega arith

      s_near : Within sv (U - pv) 1 (16 * W) → Within sv ((c * zd * D - zn * N) * U) (c * zd * D) ((62 + k) * W)
      s_near r = weaken W (c * zd * D) ((c * zd * D - zn * N) * U) (rest U (zn * N) (c * zd * D) (4 * W + (10 * W + 32 * W) + k * W) pv sv (16 * W) fewer p_size p_exact r)
        where
          weaken : (w d n : ℕ) → Within sv n d (16 * w + (4 * w + (10 * w + 32 * w) + k * w)) → Within sv n d ((62 + k) * w)
          weaken w d n r = (omega arith, omega arith)

-- ---- the float: n terms after the first
unfoldable pub nested : Float → ℕ → ℕ → Float
unfolding reciprocal
nested z zero i = one
nested z (suc n) i = sub binary64 one (mul binary64 (mul binary64 z (reciprocal (i * suc i))) (nested z n (2 + i)))

-- one step in floats
pub step : (z t : Float) (zv zn zd c N D K k : ℕ) → 0 < zd → 0 < D → 8 * zn ≤ 5 * zd → 2 ≤ c → c < 2 ^ 20 → N ≤ D → 3 * K ≤ 2 ^ 57 → 2 * K ≤ 3 * c * k → Is z false zv → Within zv (zn * U) zd (64 * W)
    → Rounded t false (N * U) D (K * W)
    → Rounded (sub binary64 one (mul binary64 (mul binary64 z (reciprocal c)) t)) false ((c * zd * D - zn * N) * U) (c * zd * D) ((62 + k) * W)
step z t zv zn zd c N D K k Z P small C C' L K-le K-k zi zn' r =
    let i = recip_rounded c C in
    let q : Rounded (mul binary64 z (reciprocal c)) false (zv * i.v) U (4 * W) =
    mul_rounded z (reciprocal c) false false zv i.v 2 (lit≤ tt) zi i.is (q_fits zv zn zd c K k Z small C C' K-le K-k zn' i.v i.near) in
    let qn : Within q.v zv c (10 * W) = q_within zv zn zd c K k Z small C C' K-le K-k zn' i.v i.near q.v q.near in
    let p : Rounded (mul binary64 (mul binary64 z (reciprocal c)) t) false (q.v * r.v) U (4 * W) =
    mul_rounded (mul binary64 z (reciprocal c)) t false false q.v r.v 2 (lit≤ tt) q.is r.is
    (mul_fits zv zn zd c K k Z small C C' K-le K-k zn' q.v N D r.v P L r.near qn) in
    let s : Rounded (sub binary64 one (mul binary64 (mul binary64 z (reciprocal c)) t)) false (U - p.v) 1 (16 * W) =
    sub_rounded one (mul binary64 (mul binary64 z (reciprocal c)) t) U p.v 4 (lit≤ tt) one_is p.is
    (p_size zv zn zd c K k Z small C C' K-le K-k zn' q.v N D r.v P L r.near qn p.v 0 p.near)
    (sub_fits zv zn zd c K k Z small C C' K-le K-k zn' q.v N D r.v P L r.near qn p.v 0 p.near) in
    record { v = s.v; is = s.is; near = s_near zv zn zd c K k Z small C C' K-le K-k zn' q.v N D r.v P L r.near qn p.v s.v p.near s.near }

more : (i : ℕ) → 1 ≤ i → 1 ≤ 2 + i
more i h = omega arith

fewer_left : (n i : ℕ) → 2 * suc n + i ≤ 1000 → 2 * n + (2 + i) ≤ 1000
fewer_left n i h = omega arith

c_fits : (n i : ℕ) → 2 * suc n + i ≤ 1000 → i * suc i < 2 ^ 20
c_fits n i h = lt_of_le_of_lt (mul-le-mul (a i h) (b i h)) (lit< {m = 1000 * 1001} tt)
  where
    a : (i : ℕ) → 2 * suc n + i ≤ 1000 → i ≤ 1000
    a i h = omega arith

    b : (i : ℕ) → 2 * suc n + i ≤ 1000 → suc i ≤ 1001
    b i h = omega arith

-- ---- the error, in units of W, of n terms
unfoldable pub bound : ℕ → ℕ → ℕ
bound zero i = 0
bound (suc d) i = 62 + (2 * bound d (2 + i) / (3 * (i * suc i)) + 1)

c_pos : (i : ℕ) → 1 ≤ i → 0 < i * suc i
c_pos i h = lt_of_lt_of_le (lit< tt) (two_le i h)

part_enough : (a b : ℕ) → 0 < b → a ≤ b * (a / b + 1)
part_enough a b h = le_of_lt (lt-mul-div-succ a h)

bound_le : (d i : ℕ) → 1 ≤ i → 3 * bound d i ≤ 2 ^ 57
unfolding bound
bound_le zero i h = lit≤ tt
bound_le (suc d) i h = go (2 * bound d (2 + i) / (3 * (i * suc i))) (i * suc i) (bound d (2 + i)) (two_le i h) (div-mul-le_self (2 * bound d (2 + i)) (3 * (i * suc i))) (bound_le d (2 + i) (more i h))
  where
    go : (x c b : ℕ) → 2 ≤ c → x * (3 * c) ≤ 2 * b → 3 * b ≤ 2 ^ 57 → 3 * (62 + (x + 1)) ≤ 2 ^ 57
    go x c b h l m = sum (mul-le-mul_left x h)
      where
        sum : x * 2 ≤ x * c → 3 * (62 + (x + 1)) ≤ 2 ^ 57
        sum a = omega arith

pub nested_near : (z : Float) (zv zn zd n i : ℕ) → 0 < zd → 8 * zn ≤ 5 * zd → 1 ≤ i → 2 * n + i ≤ 1000 → Is z false zv → Within zv (zn * U) zd (64 * W)
    → Rounded (nested z n i) false (num zn zd n i * U) (den zd n i) (bound n i * W)
unfolding nested num bound
nested_near z zv zn zd zero i Z small I B zi zw = unfold den in record { v = U; is = one_is; near = go U W }
  where
    go : (u w : ℕ) → Within u (1 * u) 1 (0 * w)
    go u w = (omega arith, omega arith)
nested_near z zv zn zd (suc n) i Z small I B zi zw =
    step z (nested z n (2 + i)) zv zn zd (i * suc i) (num zn zd n (2 + i)) (den zd n (2 + i)) (bound n (2 + i)) (2 * bound n (2 + i) / (3 * (i * suc i)) + 1) Z (den_pos zd n (2 + i) Z (more i I)) small (two_le i I) (c_fits n i B) (num_le zn zd n (2 + i)) (bound_le n (2 + i) (more i I))
    (part_enough (2 * bound n (2 + i)) (3 * (i * suc i)) (mul-pos (lit< tt) (c_pos i I))) zi zw
    (nested_near z zv zn zd n (2 + i) Z small (more i I) (fewer_left n i B) zi zw)

-- ---- the code's sum, from the highest power down, is the nested form
pub sum_none : (z taken : Float) (p n : ℕ) → n ≡ 0 → taken ≡ sum z taken p n
unfolding sum
sum_none z taken p n e = ap (λ (k : ℕ). sum z taken p k) (sym e)

pub sum_more : (z taken : Float) (p n : ℕ) (q y : Float) → ((n ≡ 0) → ⊥) → q ≡ reciprocal ((p + 2 * (n - 1) + 1) * (p + 2 * (n - 1) + 2))
    → y ≡ sum z (sub binary64 one (mul binary64 (mul binary64 z q) taken)) p (n - 1) → y ≡ sum z taken p n
unfolding sum sum_step
sum_more z taken p zero q y h e f = absurd (h refl)
sum_more z taken p (suc n) q y h e f =
    f
    ∙ ap (λ (k : ℕ). sum z (sub binary64 one (mul binary64 (mul binary64 z q) taken)) p k) (less n)
    ∙ ap (λ (x : Float). sum z (sub binary64 one (mul binary64 (mul binary64 z x) taken)) p n) (e ∙ ap (λ (k : ℕ). reciprocal ((p + 2 * k + 1) * (p + 2 * k + 2))) (less n))
  where
    less : (n : ℕ) → suc n - 1 ≡ n
    less n = omega arith

step_nested : (z : Float) (m q : ℕ) → sum_step z q (nested z m (2 + suc q)) ≡ nested z (suc m) (suc q)
unfolding sum_step nested
step_nested z m q = ap (λ (k : ℕ). sub binary64 one (mul binary64 (mul binary64 z (reciprocal k)) (nested z m (2 + suc q)))) (same q)
  where
    same : (q : ℕ) → (q + 1) * (q + 2) ≡ suc q * suc (suc q)
    same q = omega arith

pub sum_nested : (z : Float) (m p n : ℕ) → sum z (nested z m (suc (p + 2 * n))) p n ≡ nested z (n + m) (suc p)
unfolding sum
sum_nested z m p zero = ap (λ (k : ℕ). nested z m (suc k)) (none p) ∙ ap (λ (k : ℕ). nested z k (suc p)) (first m)
  where
    none : (p : ℕ) → p + 2 * 0 ≡ p
    none p = omega arith

    first : (m : ℕ) → m ≡ 0 + m
    first m = omega arith
sum_nested z m p (suc n) =
    ap (λ (k : ℕ). sum z (sum_step z (p + 2 * n) (nested z m k)) p n) (next p n)
    ∙ ap (λ (t : Float). sum z t p n) (step_nested z m (p + 2 * n))
    ∙ sum_nested z (suc m) p n
    ∙ ap (λ (k : ℕ). nested z k (suc p)) (shift n m)
  where
    next : (p n : ℕ) → suc (p + 2 * suc n) ≡ 2 + suc (p + 2 * n)
    next p n = omega arith

    shift : (n m : ℕ) → n + suc m ≡ suc n + m
    shift n m = omega arith

fine_of : (t : Float) (n c b : ℕ) → b ≤ 96 → Rounded t false n c (b * W) → Rounded t false n c (96 * W)
fine_of t n c b h r = record { v = r.v; is = r.is; near = go r.v W r.near (mul-le-mul_right (W * c) h) }
  where
    go : (v w : ℕ) → Within v n c (b * w) → b * (w * c) ≤ 96 * (w * c) → Within v n c (96 * w)
    go v w r h = (omega arith, omega arith)

-- all 12 terms of the sine and of the cosine
pub sine_sum_near : (z : Float) (zv zn zd : ℕ) → 0 < zd → 8 * zn ≤ 5 * zd → Is z false zv → Within zv (zn * U) zd (64 * W) → Rounded (sum z one 1 12) false (num zn zd 12 2 * U) (den zd 12 2) (96 * W)
unfolding nested
sine_sum_near z zv zn zd Z small zi zw =
    subst (λ (y : Float). Rounded y false (num zn zd 12 2 * U) (den zd 12 2) (96 * W)) (sym (sum_nested z 0 1 12))
    (fine_of (nested z 12 2) (num zn zd 12 2 * U) (den zd 12 2) (bound 12 2) (unfold bound in lit≤ tt) (nested_near z zv zn zd 12 2 Z small (lit≤ tt) (lit≤ tt) zi zw))

pub cosine_sum_near : (z : Float) (zv zn zd : ℕ) → 0 < zd → 8 * zn ≤ 5 * zd → Is z false zv → Within zv (zn * U) zd (64 * W) → Rounded (sum z one 0 12) false (num zn zd 12 1 * U) (den zd 12 1) (96 * W)
unfolding nested
cosine_sum_near z zv zn zd Z small zi zw =
    subst (λ (y : Float). Rounded y false (num zn zd 12 1 * U) (den zd 12 1) (96 * W)) (sym (sum_nested z 0 0 12))
    (fine_of (nested z 12 1) (num zn zd 12 1 * U) (den zd 12 1) (bound 12 1) (unfold bound in lit≤ tt) (nested_near z zv zn zd 12 1 Z small (lit≤ tt) (lit≤ tt) zi zw))
