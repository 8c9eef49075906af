-- The error of the steps in degrees, over whole numbers: what is left after quarter turns is document 01's rest at the
-- exact remainder times Pi over 180, to within 24 W in radians, so the two sums are within 2 ^ -50 (`degree_near`).
-- Assumes nothing.
use Rattle.std.proofs.Common.{◌≡◌, ℕ, suc, ◌+◌, ◌-◌, ◌*◌, ◌/◌, ◌%◌, ◌^◌, ◌<◌, ◌≤◌, Bool, true, false, sym, refl, ap, subst, le_trans, le_of_eq, le_of_suc-le-suc, le_of_lt, mul-le-mul_right, div-lt_iff_lt-mul, le_antisymm, lt_of_mul-lt-mul_right, mul-lt-mul_of_pos_right, mul-pos, div-add-mod', le-div_iff_mul-le, le_of_mul-le-mul_right, arith, lit<, lit≤}
use lib.Ieee.{Float, binary64, of_bits}
use Rattle.float.specs.Units.{U, Is}
use Rattle.float.specs.Helpers.{to_radians}
use Rattle.float.proofs.Rounding.{Within, W, U-is, U_pos, Rounded, mul_rounded}
use Rattle.trig.specs.Fraction.{Frac, Near}
use Rattle.trig.specs.Taylor.{sin_sum, cos_sum}
use Rattle.trig.specs.Angle.{pi_num, pi_den, nearest_k, under, gap, place, wave}
use Rattle.trig.specs.Kernel.{sine_kernel, cosine_kernel}
use Rattle.trig.specs.Waves.{placed}
use Rattle.trig.specs.Degrees.{degree_wave}
use Rattle.trig.specs.DegreeSteps.{quarter_turns, quarter_turn, eighth_turn}
use Rattle.trig.proofs.NearestTurn.{pi_den_pos, pi_num_pos, pi_small, Side, side_is}
use Rattle.trig.proofs.WaveError.{sin_right, cos_right, put_near}

-- ---- whole numbers: M / D degrees, x of them in units of 2 ^ -47, k quarter turns, q whole turns, N / D degrees left
pub record NearestQuarter (M D k : ℕ) : Type 0 where
  pub low : 90 * (k * D) ≤ M + 45 * D
  pub high : M + 45 * D < 90 * (k * D) + 90 * D

quarters_near : (x : ℕ) → (quarter_turns x * quarter_turn ≤ x + eighth_turn) × (x + eighth_turn < quarter_turns x * quarter_turn + quarter_turn)
unfolding quarter_turns
quarters_near x = (omega arith, omega arith)

pub nearest_of : (x M D : ℕ) → 0 < D → x * D ≡ M * 2 ^ 47 → NearestQuarter M D (quarter_turns x)
nearest_of x M D P e = let s = quarters_near x in go (quarter_turns x) (mul-le-mul_right D s.0) (mul-lt-mul_of_pos_right s.1 P)
  where
    go : (k : ℕ) → k * quarter_turn * D ≤ (x + eighth_turn) * D → (x + eighth_turn) * D < (k * quarter_turn + quarter_turn) * D → NearestQuarter M D k
    go k a b = record { low = lo (k * D) (re k D) a; high = hi (k * D) (re k D) b }
      where
        re : (k D : ℕ) → k * quarter_turn * D ≡ quarter_turn * (k * D)
        re k D = omega arith

        lo : (y : ℕ) → k * quarter_turn * D ≡ quarter_turn * y → k * quarter_turn * D ≤ (x + eighth_turn) * D → 90 * y ≤ M + 45 * D
        lo y r a = omega arith

        hi : (y : ℕ) → k * quarter_turn * D ≡ quarter_turn * y → (x + eighth_turn) * D < (k * quarter_turn + quarter_turn) * D → M + 45 * D < 90 * y + 90 * D
        hi y r b = omega arith

-- ---- what is left after whole turns: M = q * 360 D + N
quotient : (n b q : ℕ) → 0 < b → q * b ≤ n → n < (q + 1) * b → n / b ≡ q
quotient n b q B l h = le_antisymm (le_of_suc-le-suc (go ((div-lt_iff_lt-mul B).1 h))) ((le-div_iff_mul-le B).1 l)
  where
    go : n / b < q + 1 → n / b < suc q
    go h = omega arith

-- quarter turns in the rest: k less four for each whole turn
pub record Left (M D k : ℕ) : Type 0 where
  pub q : ℕ
  pub l : ℕ
  pub k_is : k ≡ l + 4 * q
  pub whole : M ≡ q * (360 * D) + M % (360 * D)
  pub near : NearestQuarter (M % (360 * D)) D l

four_turns : (M D q N k : ℕ) → M ≡ q * (360 * D) + N → M + 45 * D < 90 * (k * D) + 90 * D → 8 * q * D < (2 * k + 1) * D
four_turns M D q N k e h = omega arith

half_turns_at_most : (q k : ℕ) → 8 * q < 2 * k + 1 → 4 * q ≤ k
half_turns_at_most q k h = omega arith

left_low : (M D q N l : ℕ) → M ≡ q * (360 * D) + N → 90 * ((l + 4 * q) * D) ≤ M + 45 * D → 90 * (l * D) ≤ N + 45 * D
left_low M D q N l e h = omega arith

left_high : (M D q N l : ℕ) → M ≡ q * (360 * D) + N → M + 45 * D < 90 * ((l + 4 * q) * D) + 90 * D → N + 45 * D < 90 * (l * D) + 90 * D
left_high M D q N l e h = omega arith

pub left_of : (M D k : ℕ) → 0 < D → NearestQuarter M D k → Left M D k
left_of M D k P s = go (M / (360 * D)) (M % (360 * D)) (sym (div-add-mod' M (360 * D)))
    (half_turns_at_most (M / (360 * D)) k (lt_of_mul-lt-mul_right D (four_turns M D (M / (360 * D)) (M % (360 * D)) k (sym (div-add-mod' M (360 * D))) s.high))) refl
  where
    split : (q : ℕ) → 4 * q ≤ k → k ≡ (k - 4 * q) + 4 * q
    split q h = omega arith

    go : (q N : ℕ) → M ≡ q * (360 * D) + N → 4 * q ≤ k → M % (360 * D) ≡ N → Left M D k
    go q N e h n =
        let f : k ≡ (k - 4 * q) + 4 * q = split q h in
        record {
          q = q;
          l = k - 4 * q;
          k_is = f;
          whole = subst (λ (z : ℕ). M ≡ q * (360 * D) + z) (sym n) e;
          near = subst (λ (z : ℕ). NearestQuarter z D (k - 4 * q)) (sym n)
              (record {
                low = left_low M D q N (k - 4 * q) e (subst (λ (z : ℕ). 90 * (z * D) ≤ M + 45 * D) f s.low);
                high = left_high M D q N (k - 4 * q) e (subst (λ (z : ℕ). M + 45 * D < 90 * (z * D) + 90 * D) f s.high);
              });
        }

-- ---- document 01's k and rest at N / D degrees times Pi over 180: k is l, and the rest is that of N / D from 90 l
-- degrees
module _ (N D l : ℕ) (P : 0 < D) (s : NearestQuarter N D l) where
  k_is : nearest_k (N * pi_num) (D * (180 * pi_den)) ≡ l
  unfolding nearest_k
  k_is =
      quotient (4 * (N * pi_num) * pi_den + pi_num * (D * (180 * pi_den))) (2 * pi_num * (D * (180 * pi_den))) l
      (mul-pos (mul-pos (lit< tt) pi_num_pos) (mul-pos P (mul-pos (lit< tt) pi_den_pos)))
      (lo pi_num pi_den (mul-le-mul_right (4 * (pi_num * pi_den)) s.low))
      (hi pi_num pi_den (mul-lt-mul_of_pos_right s.high (mul-pos (lit< tt) (mul-pos pi_num_pos pi_den_pos))))
    where
      lo : (p e : ℕ) → 90 * (l * D) * (4 * (p * e)) ≤ (N + 45 * D) * (4 * (p * e)) → l * (2 * p * (D * (180 * e))) ≤ 4 * (N * p) * e + p * (D * (180 * e))
      lo p e h = omega arith

      hi : (p e : ℕ) → (N + 45 * D) * (4 * (p * e)) < (90 * (l * D) + 90 * D) * (4 * (p * e)) → 4 * (N * p) * e + p * (D * (180 * e)) < (l + 1) * (2 * p * (D * (180 * e)))
      hi p e h = omega arith

  -- below 90 l degrees, and not
  abbrev pub Beside : Bool → Type 0
  Beside true = N < 90 * (l * D)
  Beside false = 90 * (l * D) ≤ N

  -- the distance from there, times D
  abbrev pub apart : Bool → ℕ
  apart true = 90 * (l * D) - N
  apart false = N - 90 * (l * D)

  side : (b : Bool) → Beside b → Side b (N * pi_num) (D * (180 * pi_den)) l
  side true h = go pi_num pi_den (mul-lt-mul_of_pos_right h (mul-pos (lit< tt) (mul-pos pi_num_pos pi_den_pos)))
    where
      go : (p e : ℕ) → N * (2 * (p * e)) < 90 * (l * D) * (2 * (p * e)) → 2 * (N * p) * e < l * p * (D * (180 * e))
      go p e h = omega arith
  side false h = go pi_num pi_den (mul-le-mul_right (2 * (pi_num * pi_den)) h)
    where
      go : (p e : ℕ) → 90 * (l * D) * (2 * (p * e)) ≤ N * (2 * (p * e)) → l * p * (D * (180 * e)) ≤ 2 * (N * p) * e
      go p e h = omega arith

  gap_is : (b : Bool) → Beside b → gap b (N * pi_num) (D * (180 * pi_den)) l ≡ apart b * pi_num * (2 * pi_den)
  gap_is true h = go (90 * (l * D) - N) pi_num pi_den (split (90 * (l * D)) N (le_of_lt h))
    where
      split : (x y : ℕ) → y ≤ x → x ≡ y + (x - y)
      split x y h = omega arith

      cut : (x y z : ℕ) → x ≡ y + z → x - y ≡ z
      cut x y z e = omega arith

      go : (g p e : ℕ) → 90 * (l * D) ≡ N + g → l * p * (D * (180 * e)) - 2 * (N * p) * e ≡ g * p * (2 * e)
      go g p e f = cut (l * p * (D * (180 * e))) (2 * (N * p) * e) (g * p * (2 * e)) (sum (ap (λ (z : ℕ). z * (2 * (p * e))) f))
        where
          sum : 90 * (l * D) * (2 * (p * e)) ≡ (N + g) * (2 * (p * e)) → l * p * (D * (180 * e)) ≡ 2 * (N * p) * e + g * p * (2 * e)
          sum f = omega arith
  gap_is false h = go (N - 90 * (l * D)) pi_num pi_den (split N (90 * (l * D)) h)
    where
      split : (x y : ℕ) → y ≤ x → x ≡ y + (x - y)
      split x y h = omega arith

      cut : (x y z : ℕ) → x ≡ y + z → x - y ≡ z
      cut x y z e = omega arith

      go : (g p e : ℕ) → N ≡ 90 * (l * D) + g → 2 * (N * p) * e - l * p * (D * (180 * e)) ≡ g * p * (2 * e)
      go g p e f = cut (2 * (N * p) * e) (l * p * (D * (180 * e))) (g * p * (2 * e)) (sum (ap (λ (z : ℕ). z * (2 * (p * e))) f))
        where
          sum : N * (2 * (p * e)) ≡ (90 * (l * D) + g) * (2 * (p * e)) → 2 * (N * p) * e ≡ l * p * (D * (180 * e)) + g * p * (2 * e)
          sum f = omega arith

  apart_small : (b : Bool) → Beside b → apart b ≤ 45 * D
  apart_small true h = go s.low
    where
      go : 90 * (l * D) ≤ N + 45 * D → 90 * (l * D) - N ≤ 45 * D
      go h = omega arith
  apart_small false h = go s.high
    where
      go : N + 45 * D < 90 * (l * D) + 90 * D → N - 90 * (l * D) ≤ 45 * D
      go h = omega arith

-- ---- degrees to radians: one rounding, and a factor that is Pi / 180 to within W / 23
abbrev factor : Float
factor = of_bits binary64 0x3f91_df46_a252_9d39

unfoldable pub C : ℕ
C = 5030569068109113 * 2 ^ 1016

factor_is : Is factor false C
unfolding of_bits U C
factor_is = (refl, refl)

-- |C * 180 e - U * p| * 45 ≤ 2 W * 180 e
factor_high : 45 * (C * (180 * pi_den)) ≤ 45 * (U * pi_num) + 2 * W * (180 * pi_den)
unfolding C U W pi_num pi_den
factor_high = lit≤ tt

factor_low : 45 * (U * pi_num) ≤ 45 * (C * (180 * pi_den)) + 2 * W * (180 * pi_den)
unfolding C U W pi_num pi_den
factor_low = lit≤ tt

pub factor_size : 45 * C * 100 ≤ 79 * U
unfolding C U
factor_size = lit≤ tt

-- t is G / D degrees, at most 45
module _ (t : Float) (tv G D : ℕ) (P : 0 < D) (t_is : Is t false tv) (value : tv * D ≡ G * U) (few : G ≤ 45 * D) where
  pub t_most : tv ≤ 45 * U
  t_most = le_of_mul-le-mul_right {k = D} (go (mul-le-mul_right U few)) P
    where
      go : G * U ≤ 45 * D * U → tv * D ≤ 45 * U * D
      go h = le_trans (le_of_eq value) (le_trans h (le_of_eq (turn D U)))
        where
          turn : (d u : ℕ) → 45 * d * u ≡ 45 * u * d
          turn d u = omega arith

  product_small : tv * C < 2 ^ 57 * W * U
  product_small = go U W C U-is U_pos (mul-le-mul_right C t_most) factor_size
    where
      go : (u w c : ℕ) → u ≡ 2 ^ 57 * w → 0 < u → tv * c ≤ 45 * u * c → 45 * c * 100 ≤ 79 * u → tv * c < 2 ^ 57 * w * u
      go u w c e o h l = sum (mul-le-mul_right u l) (ap (λ (z : ℕ). z * u) e) (mul-pos o o)
        where
          sum : 45 * c * 100 * u ≤ 79 * u * u → u * u ≡ 2 ^ 57 * w * u → 0 < u * u → tv * c < 2 ^ 57 * w * u
          sum a b d = omega arith

  pub product : Rounded (to_radians t) false (tv * C) U (8 * W)
  unfolding to_radians
  product = mul_rounded t factor false false tv C 3 (lit≤ tt) t_is factor_is product_small

  pub radians_near : Rounded (to_radians t) false (G * pi_num * U) (D * (180 * pi_den)) (24 * W)
  radians_near = record { v = product.v; is = product.is; near = go product.v U W C pi_num pi_den U_pos product.near value factor_high factor_low }
    where
      go : (v u w c p e : ℕ) → 0 < u → Within v (tv * c) u (8 * w) → tv * D ≡ G * u → 45 * (c * (180 * e)) ≤ 45 * (u * p) + 2 * w * (180 * e) → 45 * (u * p) ≤ 45 * (c * (180 * e)) + 2 * w * (180 * e) → Within v (G * p * u) (D * (180 * e)) (24 * w)
      go v u w c p e o n q h l = (
        le_of_mul-le-mul_right {k = 45 * u} (up' (mul-le-mul_right (D * (180 * e) * 45) n.0) (ap (λ (z : ℕ). z * (c * (180 * e) * 45)) q) (mul-le-mul_right (G * u) h) (mul-le-mul_right (2 * w * (180 * e) * u) few)) (mul-pos (lit< tt) o),
        le_of_mul-le-mul_right {k = 45 * u} (dn (mul-le-mul_right (D * (180 * e) * 45) n.1) (ap (λ (z : ℕ). z * (c * (180 * e) * 45)) q) (mul-le-mul_right (G * u) l) (mul-le-mul_right (2 * w * (180 * e) * u) few)) (mul-pos (lit< tt) o),
      )
        where
          up' : v * u * (D * (180 * e) * 45) ≤ (tv * c + 8 * w * u) * (D * (180 * e) * 45) → tv * D * (c * (180 * e) * 45) ≡ G * u * (c * (180 * e) * 45) → 45 * (c * (180 * e)) * (G * u) ≤ (45 * (u * p) + 2 * w * (180 * e)) * (G * u) → G * (2 * w * (180 * e) * u) ≤ 45 * D * (2 * w * (180 * e) * u)
              → v * (D * (180 * e)) * (45 * u) ≤ (G * p * u + 24 * w * (D * (180 * e))) * (45 * u)
          up' a b c' d = omega arith

          dn : tv * c * (D * (180 * e) * 45) ≤ (v * u + 8 * w * u) * (D * (180 * e) * 45) → tv * D * (c * (180 * e) * 45) ≡ G * u * (c * (180 * e) * 45) → 45 * (u * p) * (G * u) ≤ (45 * (c * (180 * e)) + 2 * w * (180 * e)) * (G * u) → G * (2 * w * (180 * e) * u) ≤ 45 * D * (2 * w * (180 * e) * u)
              → G * p * u * (45 * u) ≤ (v * (D * (180 * e)) + 24 * w * (D * (180 * e))) * (45 * u)
          dn a b c' d = omega arith

-- ---- put together
within_times : (v n c e k : ℕ) → Within v n c e → Within v (n * k) (c * k) e
within_times v n c e k h = (up' (mul-le-mul_right k h.0), dn (mul-le-mul_right k h.1))
  where
    up' : v * c * k ≤ (n + e * c) * k → v * (c * k) ≤ n * k + e * (c * k)
    up' a = omega arith

    dn : n * k ≤ (v * c + e * c) * k → n * k ≤ v * (c * k) + e * (c * k)
    dn a = omega arith

module _ (j M D k : ℕ) (b : Bool) (t : Float) (tv : ℕ) (P : 0 < D) (s : NearestQuarter M D k) (L : Left M D k) (t_is : Is t false tv) (h : Beside (M % (360 * D)) D L.l P L.near b) (value : tv * D ≡ apart (M % (360 * D)) D L.l P L.near b * U) where
  abbrev N : ℕ
  N = M % (360 * D)

  abbrev g : ℕ
  g = gap b (N * pi_num) (D * (180 * pi_den)) L.l

  abbrev rd : ℕ
  rd = 2 * (D * (180 * pi_den)) * pi_den

  rd_pos : 0 < rd
  rd_pos = mul-pos (mul-pos (lit< tt) (mul-pos P (mul-pos (lit< tt) pi_den_pos))) pi_den_pos

  rest : Rounded (to_radians t) false (g * U) rd (24 * W)
  rest =
      let r = radians_near t tv (apart N D L.l P L.near b) D P t_is value (apart_small N D L.l P L.near b h) in
      record {
        v = r.v;
        is = r.is;
        near = subst (λ (z : ℕ). Within r.v (z * U) rd (24 * W)) (sym (gap_is N D L.l P L.near b h)) (go r.v (apart N D L.l P L.near b) pi_num pi_den U W (within_times r.v (apart N D L.l P L.near b * pi_num * U) (D * (180 * pi_den)) (24 * W) (2 * pi_den) r.near));
      }
    where
      go : (v a p e u w : ℕ) → Within v (a * p * u * (2 * e)) (D * (180 * e) * (2 * e)) (24 * w) → Within v (a * p * (2 * e) * u) (2 * (D * (180 * e)) * e) (24 * w)
      go v a p e u w h = (omega arith, omega arith)

  small : 100 * g ≤ 79 * rd
  small = subst (λ (z : ℕ). 100 * z ≤ 79 * rd) (sym (gap_is N D L.l P L.near b h)) (go (apart N D L.l P L.near b) pi_num pi_den (apart_small N D L.l P L.near b h) pi_small)
    where
      go : (a p e : ℕ) → a ≤ 45 * D → 100 * p ≤ 316 * e → 100 * (a * p * (2 * e)) ≤ 79 * (2 * (D * (180 * e)) * e)
      go a p e x y = sum (mul-le-mul_right (p * (2 * e)) x) (mul-le-mul_right (45 * D * (2 * e)) y)
        where
          sum : a * (p * (2 * e)) ≤ 45 * D * (p * (2 * e)) → 100 * p * (45 * D * (2 * e)) ≤ 316 * e * (45 * D * (2 * e)) → 100 * (a * p * (2 * e)) ≤ 79 * (2 * (D * (180 * e)) * e)
          sum x y = omega arith

  quarter_same : (L.l + j) % 4 ≡ (k + j) % 4
  quarter_same = go L.l L.q L.k_is
    where
      go : (l q : ℕ) → k ≡ l + 4 * q → (l + j) % 4 ≡ (k + j) % 4
      go l q e = omega arith

  abbrev at : ℕ → Bool → Frac
  at z c = place ((z + j) % 4) c (sin_sum (gap c (N * pi_num) (D * (180 * pi_den)) z) rd) (cos_sum (gap c (N * pi_num) (D * (180 * pi_den)) z) rd)

  pub degree_near : Near 50 (placed ((k + j) % 4) b (sine_kernel (to_radians t)) (cosine_kernel (to_radians t))) (degree_wave false j M D)
  unfolding degree_wave wave
  degree_near =
      subst (λ (z : ℕ). Near 50 (placed z b (sine_kernel (to_radians t)) (cosine_kernel (to_radians t))) (at (nearest_k (N * pi_num) (D * (180 * pi_den))) (under (N * pi_num) (D * (180 * pi_den)) (nearest_k (N * pi_num) (D * (180 * pi_den)))))) quarter_same
      (subst (λ (z : ℕ). Near 50 (placed ((L.l + j) % 4) b (sine_kernel (to_radians t)) (cosine_kernel (to_radians t))) (at z (under (N * pi_num) (D * (180 * pi_den)) z))) (sym (k_is N D L.l P L.near))
      (subst (λ (z : Bool). Near 50 (placed ((L.l + j) % 4) b (sine_kernel (to_radians t)) (cosine_kernel (to_radians t))) (at L.l z)) (sym (side_is b (N * pi_num) (D * (180 * pi_den)) L.l (side N D L.l P L.near b h)))
      (put_near 50 ((L.l + j) % 4) b (sine_kernel (to_radians t)) (cosine_kernel (to_radians t)) (sin_sum g rd) (cos_sum g rd)
      (sin_right (to_radians t) rest.v g rd rd_pos small rest.is rest.near)
      (cos_right (to_radians t) rest.v g rd rd_pos small rest.is rest.near))))
