-- The promise of `arctangent`, from an angle that is aimed at the tangent of the smaller of |y|, |x| over the larger. Assumes nothing.
use Rattle.std.proofs.Common.{◌≡◌, ℕ, zero, suc, ◌+◌, ◌*◌, ◌%◌, ◌^◌, ◌<◌, ◌≤◌, Bool, true, false, cond, not, T, leb, ℤ, sym, ap, ◌∙◌, subst, le_trans, le_refl, le_of_lt, mul-le-mul_right, mul-le-mul_left, mul-pos, le_of_mul-le-mul_right, arith, lit<, lit≤, leb→le}
use lib.Dec.{nleb→lt}
use lib.Ieee.{Float, nan, inf, fin, up, down, le}
use lib.Ieee.Fits.{down_pos}
use lib.Ieee.Positive.{num as top, den as bot, den_pos as bot-pos}
use Rattle.float.proofs.Rounding.{Within}
use Rattle.float.specs.Units.{U}
use Rattle.float.proofs.Rounding.{W, U_pos}
use Rattle.trig.proofs.HornerForm.{num, den, den_pos, sin_is, cos_is}
use Rattle.trig.specs.Angle.{pi_den, nearest_k, gap, place, under, wave}
use Rattle.trig.proofs.NearestTurn.{pi_den_pos, Side, side_is}
use Rattle.trig.specs.Fraction.{Frac, negated, product, total, difference, Small, Positive, worth}
use Rattle.trig.specs.Taylor.{sin_sum, cos_sum}
use Rattle.trig.proofs.GridAngle.{vv, Upper, Lower}
use Rattle.trig.specs.Direction.{larger, Toward, pi}
use Rattle.trig.proofs.TangentError.{Tight, tight, Met, met, cos_pos}
use Rattle.trig.proofs.Cells.{Plain, Lands}

-- ---- an angle in its cell, whose tangent is t
pub record Aimed (t k : ℕ) (b : Bool) (r : Float) : Type 0 where
  pub plain : Plain r
  pub k_is : nearest_k (top r) (bot r) ≡ k
  pub side : Side b (top r) (bot r) k
  pub low : gap b (top r) (bot r) k ≤ 2 * bot r * pi_den
  pub greatest : T (le r pi)
  pub tight : Tight t (gap b (top r) (bot r) k) (2 * bot r * pi_den)

v_pos : (d : ℕ) → 0 < d → 0 < 2 * d * pi_den
v_pos d D = mul-pos (mul-pos (lit< tt) D) pi_den_pos

pub aim : (t k i : ℕ) (b : Bool) (r : Float) → t ≤ U → i ≤ 7074237752028440 → Upper t i (448 * W) → Lower t i (448 * W) → Lands k b i r → Aimed t k b r
aim t k i b r l h u w z = record {
  plain = z.plain;
  k_is = z.k_is;
  side = z.side;
  low = z.low;
  greatest = z.greatest;
  tight = tight t i (gap b (top r) (bot r) k) (2 * bot r * pi_den) l (unfold vv in le_trans h (lit≤ tt)) z.low (v_pos (bot r) (bot-pos r)) u w z.near;
}

-- |p c - q s| ≤ 2 ^ -46 q, c is above zero and s is not below it
pub record Fair (p q : ℕ) (s c : Frac) : Type 0 where
  pub up : 2 ^ 46 * (p * c.plus * s.over + q * s.minus * c.over) ≤ 2 ^ 46 * (p * c.minus * s.over + q * s.plus * c.over) + q * (c.over * s.over)
  pub down : 2 ^ 46 * (p * c.minus * s.over + q * s.plus * c.over) ≤ 2 ^ 46 * (p * c.plus * s.over + q * s.minus * c.over) + q * (c.over * s.over)
  pub front : c.minus < c.plus
  pub side : s.minus ≤ s.plus
  pub c_over : 0 < c.over
  pub s_over : 0 < s.over

fair_up : (p q N D M F cp cm sp sm : ℕ) → cp ≡ N + cm → sp ≡ M + sm → 2 ^ 46 * (p * N * F) ≤ 2 ^ 46 * (q * M * D) + q * (D * F) → 2 ^ 46 * (p * cp * F + q * sm * D) ≤ 2 ^ 46 * (p * cm * F + q * sp * D) + q * (D * F)
fair_up p q N D M F cp cm sp sm e f h = go (ap (λ (z : ℕ). p * z * F) e) (ap (λ (z : ℕ). q * z * D) f)
  where
    go : p * cp * F ≡ p * (N + cm) * F → q * sp * D ≡ q * (M + sm) * D → 2 ^ 46 * (p * cp * F + q * sm * D) ≤ 2 ^ 46 * (p * cm * F + q * sp * D) + q * (D * F)
    go a b = omega arith

fair_down : (p q N D M F cp cm sp sm : ℕ) → cp ≡ N + cm → sp ≡ M + sm → 2 ^ 46 * (q * M * D) ≤ 2 ^ 46 * (p * N * F) + q * (D * F) → 2 ^ 46 * (p * cm * F + q * sp * D) ≤ 2 ^ 46 * (p * cp * F + q * sm * D) + q * (D * F)
fair_down p q N D M F cp cm sp sm e f h = go (ap (λ (z : ℕ). p * z * F) e) (ap (λ (z : ℕ). q * z * D) f)
  where
    go : p * cp * F ≡ p * (N + cm) * F → q * sp * D ≡ q * (M + sm) * D → 2 ^ 46 * (p * cm * F + q * sp * D) ≤ 2 ^ 46 * (p * cp * F + q * sm * D) + q * (D * F)
    go a b = omega arith

-- with p, q in units, and p' / q' the same ratio: p' U = p K, q' U = q K
scale_le : (u K p q p' q' x y z w o : ℕ) → 0 < u → p' * u ≡ p * K → q' * u ≡ q * K → 2 ^ 46 * (p * x + q * y) ≤ 2 ^ 46 * (p * z + q * w) + q * o → 2 ^ 46 * (p' * x + q' * y) ≤ 2 ^ 46 * (p' * z + q' * w) + q' * o
scale_le u K p q p' q' x y z w o P e f h =
    le_of_mul-le-mul_right {k = u} (go (mul-le-mul_right K h) (ap (λ (t : ℕ). t * x) e) (ap (λ (t : ℕ). t * y) f) (ap (λ (t : ℕ). t * z) e) (ap (λ (t : ℕ). t * w) f) (ap (λ (t : ℕ). t * o) f)) P
  where
    go : 2 ^ 46 * (p * x + q * y) * K ≤ (2 ^ 46 * (p * z + q * w) + q * o) * K → p' * u * x ≡ p * K * x → q' * u * y ≡ q * K * y → p' * u * z ≡ p * K * z → q' * u * w ≡ q * K * w → q' * u * o ≡ q * K * o → 2 ^ 46 * (p' * x + q' * y) * u ≤ (2 ^ 46 * (p' * z + q' * w) + q' * o) * u
    go a b c d g i = omega arith

regroup : (p q a b c d e f g h o : ℕ) → 2 ^ 46 * (p * a * b + q * c * d) ≤ 2 ^ 46 * (p * e * f + q * g * h) + o → 2 ^ 46 * (p * (a * b) + q * (c * d)) ≤ 2 ^ 46 * (p * (e * f) + q * (g * h)) + o
regroup p q a b c d e f g h o k = omega arith

regroup' : (p q a b c d e f g h o : ℕ) → 2 ^ 46 * (p * (a * b) + q * (c * d)) ≤ 2 ^ 46 * (p * (e * f) + q * (g * h)) + o → 2 ^ 46 * (p * a * b + q * c * d) ≤ 2 ^ 46 * (p * e * f + q * g * h) + o
regroup' p q a b c d e f g h o k = omega arith

module _ (g v : ℕ) (P : 0 < v) (h : g ≤ v) (p q p' q' K : ℕ) (e : p' * U ≡ p * K) (f : q' * U ≡ q * K) (m : Met p q (num (g * g) (v * v) 12 1) (den (v * v) 12 1) (g * num (g * g) (v * v) 12 2) (v * den (v * v) 12 2)) where
  s : Frac
  s = sin_sum g v

  c : Frac
  c = cos_sum g v

  met_sums : Met p q (num (g * g) (v * v) 12 1) (cos_sum g v).over (g * num (g * g) (v * v) 12 2) (sin_sum g v).over
  met_sums =
      subst (λ (z : ℕ). Met p q (num (g * g) (v * v) 12 1) z (g * num (g * g) (v * v) 12 2) (sin_sum g v).over) (cos_is g v h).1
      (subst (λ (z : ℕ). Met p q (num (g * g) (v * v) 12 1) (den (v * v) 12 1) (g * num (g * g) (v * v) 12 2) z) (sin_is g v h).1 m)

  pub fair : Fair p' q' (sin_sum g v) (cos_sum g v)
  fair = record {
    up = regroup' p' q' (cos_sum g v).plus (sin_sum g v).over (sin_sum g v).minus (cos_sum g v).over (cos_sum g v).minus (sin_sum g v).over (sin_sum g v).plus (cos_sum g v).over (q' * ((cos_sum g v).over * (sin_sum g v).over))
        (scale_le U K p q p' q' ((cos_sum g v).plus * (sin_sum g v).over) ((sin_sum g v).minus * (cos_sum g v).over) ((cos_sum g v).minus * (sin_sum g v).over) ((sin_sum g v).plus * (cos_sum g v).over) ((cos_sum g v).over * (sin_sum g v).over) U_pos e f
        (regroup p q (cos_sum g v).plus (sin_sum g v).over (sin_sum g v).minus (cos_sum g v).over (cos_sum g v).minus (sin_sum g v).over (sin_sum g v).plus (cos_sum g v).over (q * ((cos_sum g v).over * (sin_sum g v).over))
        (fair_up p q (num (g * g) (v * v) 12 1) (cos_sum g v).over (g * num (g * g) (v * v) 12 2) (sin_sum g v).over (cos_sum g v).plus (cos_sum g v).minus (sin_sum g v).plus (sin_sum g v).minus (cos_is g v h).0 (sin_is g v h).0 met_sums.up)));
    down = regroup' p' q' (cos_sum g v).minus (sin_sum g v).over (sin_sum g v).plus (cos_sum g v).over (cos_sum g v).plus (sin_sum g v).over (sin_sum g v).minus (cos_sum g v).over (q' * ((cos_sum g v).over * (sin_sum g v).over))
        (scale_le U K p q p' q' ((cos_sum g v).minus * (sin_sum g v).over) ((sin_sum g v).plus * (cos_sum g v).over) ((cos_sum g v).plus * (sin_sum g v).over) ((sin_sum g v).minus * (cos_sum g v).over) ((cos_sum g v).over * (sin_sum g v).over) U_pos e f
        (regroup p q (cos_sum g v).minus (sin_sum g v).over (sin_sum g v).plus (cos_sum g v).over (cos_sum g v).plus (sin_sum g v).over (sin_sum g v).minus (cos_sum g v).over (q * ((cos_sum g v).over * (sin_sum g v).over))
        (fair_down p q (num (g * g) (v * v) 12 1) (cos_sum g v).over (g * num (g * g) (v * v) 12 2) (sin_sum g v).over (cos_sum g v).plus (cos_sum g v).minus (sin_sum g v).plus (sin_sum g v).minus (cos_is g v h).0 (sin_is g v h).0 met_sums.down)));
    front = positive (num (g * g) (v * v) 12 1) (cos_sum g v).plus (cos_sum g v).minus (cos_is g v h).0 (cos_pos g v P h);
    side = more (g * num (g * g) (v * v) 12 2) (sin_sum g v).plus (sin_sum g v).minus (sin_is g v h).0;
    c_over = subst (λ (z : ℕ). 0 < z) (cos_is g v h).1 (den_pos (v * v) 12 1 (mul-pos P P) (lit≤ tt));
    s_over = subst (λ (z : ℕ). 0 < z) (sin_is g v h).1 (mul-pos P (den_pos (v * v) 12 2 (mul-pos P P) (lit≤ tt)));
  }
    where
      positive : (n x y : ℕ) → x ≡ n + y → 0 < n → y < x
      positive n x y e h = omega arith

      more : (n x y : ℕ) → x ≡ n + y → y ≤ x
      more n x y e = omega arith

-- ---- `wave` in a known cell
waved : (j A D k : ℕ) (b : Bool) → nearest_k A D ≡ k → Side b A D k → wave false j A D ≡ place ((k + j) % 4) b (sin_sum (gap b A D k) (2 * D * pi_den)) (cos_sum (gap b A D k) (2 * D * pi_den))
unfolding wave
waved j A D k b e s =
    ap (λ (z : ℕ). place ((z + j) % 4) (under A D z) (sin_sum (gap (under A D z) A D z) (2 * D * pi_den)) (cos_sum (gap (under A D z) A D z) (2 * D * pi_den))) e
    ∙ ap (λ (z : Bool). place ((k + j) % 4) z (sin_sum (gap z A D k) (2 * D * pi_den)) (cos_sum (gap z A D k) (2 * D * pi_den))) (side_is b A D k s)

-- ---- the four cells. Y and X are the values of y and x, D is the product of their denominators
abbrev Goal : Frac → Frac → ℕ → ℕ → Frac → Frac → Type 0
Goal Y X L D s c = Small (difference (product Y c) (product X s)) L D × Positive (total (product X c) (product Y s))

abbrev up_of : ℕ → ℕ → Frac
up_of a d = record { plus = a; minus = 0; over = d }

abbrev down_of : ℕ → ℕ → Frac
down_of a d = record { plus = 0; minus = a; over = d }

small_half : (P M O X Y q o L d : ℕ) → P ≡ X → M ≡ Y → O ≡ d * o → 2 ^ 46 * X ≤ 2 ^ 46 * Y + q * o → q ≤ L → 2 ^ 46 * (P * d) ≤ 2 ^ 46 * (M * d) + L * O
small_half P M O X Y q o L d e f g h l = go (mul-le-mul_right d h) (ap (λ (z : ℕ). z * d) e) (ap (λ (z : ℕ). z * d) f) (ap (λ (z : ℕ). L * z) g) (mul-le-mul_right (d * o) l)
  where
    go : 2 ^ 46 * X * d ≤ (2 ^ 46 * Y + q * o) * d → P * d ≡ X * d → M * d ≡ Y * d → L * O ≡ L * (d * o) → q * (d * o) ≤ L * (d * o) → 2 ^ 46 * (P * d) ≤ 2 ^ 46 * (M * d) + L * O
    go a b c i j = omega arith

small_of : (f : Frac) (X Y q o L d : ℕ) → f.plus ≡ X → f.minus ≡ Y → f.over ≡ d * o → 2 ^ 46 * X ≤ 2 ^ 46 * Y + q * o → 2 ^ 46 * Y ≤ 2 ^ 46 * X + q * o → q ≤ L → Small f L d
small_of f X Y q o L d e g h u w l = record {
  above = small_half f.plus f.minus f.over X Y q o L d e g h u l;
  below = small_half f.minus f.plus f.over Y X q o L d g e h w l;
}

-- (x (c+) + y (s+)) is more than (x (c-) + y (s-))
ahead_of : (x y cp cm sp sm P M : ℕ) → P ≡ x * cp + y * sp → M ≡ x * cm + y * sm → 0 < x → cm < cp → sm ≤ sp → M < P
ahead_of x y cp cm sp sm P M e f X h l = go (mul-le-mul_left x h) (mul-le-mul_left y l)
  where
    go : x * suc cm ≤ x * cp → y * sm ≤ y * sp → M < P
    go a b = omega arith

case_flat : (a d b e L : ℕ) (s c : Frac) → Fair (a * e) (b * d) s c → b * d ≤ L → 0 < b → 0 < d → Goal (up_of a d) (up_of b e) L (d * e) s c
case_flat a d b e L s c w l B D = (
  small_of (difference (product (up_of a d) c) (product (up_of b e) s)) (a * e * c.plus * s.over + b * d * s.minus * c.over) (a * e * c.minus * s.over + b * d * s.plus * c.over) (b * d) (c.over * s.over) L (d * e)
      (one a d b e c.plus c.minus c.over s.plus s.minus s.over) (two a d b e c.plus c.minus c.over s.plus s.minus s.over) (o d e c.over s.over) w.up w.down l,
  ahead_of (b * (d * s.over)) (a * (e * c.over)) c.plus c.minus s.plus s.minus _ _ (three a d b e c.plus c.minus c.over s.plus s.minus s.over) (four a d b e c.plus c.minus c.over s.plus s.minus s.over)
      (mul-pos B (mul-pos D w.s_over)) w.front w.side,
)
  where
    one : (a d b e cp cm co sp sm so : ℕ) → (a * cp + 0 * cm) * (e * so) + (b * sm + 0 * sp) * (d * co) ≡ a * e * cp * so + b * d * sm * co
    one a d b e cp cm co sp sm so = omega arith

    two : (a d b e cp cm co sp sm so : ℕ) → (a * cm + 0 * cp) * (e * so) + (b * sp + 0 * sm) * (d * co) ≡ a * e * cm * so + b * d * sp * co
    two a d b e cp cm co sp sm so = omega arith

    o : (d e co so : ℕ) → d * co * (e * so) ≡ d * e * (co * so)
    o d e co so = omega arith

    three : (a d b e cp cm co sp sm so : ℕ) → (b * cp + 0 * cm) * (d * so) + (a * sp + 0 * sm) * (e * co) ≡ b * (d * so) * cp + a * (e * co) * sp
    three a d b e cp cm co sp sm so = omega arith

    four : (a d b e cp cm co sp sm so : ℕ) → (b * cm + 0 * cp) * (d * so) + (a * sm + 0 * sp) * (e * co) ≡ b * (d * so) * cm + a * (e * co) * sm
    four a d b e cp cm co sp sm so = omega arith

-- Pi / 2 less the gap: S is c and C is s
case_rise : (a d b e L : ℕ) (s c : Frac) → Fair (b * d) (a * e) s c → a * e ≤ L → 0 < a → 0 < e → Goal (up_of a d) (up_of b e) L (d * e) c s
case_rise a d b e L s c w l A D = (
  small_of (difference (product (up_of a d) s) (product (up_of b e) c)) (b * d * c.minus * s.over + a * e * s.plus * c.over) (b * d * c.plus * s.over + a * e * s.minus * c.over) (a * e) (c.over * s.over) L (d * e)
      (one a d b e c.plus c.minus c.over s.plus s.minus s.over) (two a d b e c.plus c.minus c.over s.plus s.minus s.over) (o d e c.over s.over) w.down w.up l,
  ahead_of (a * (e * s.over)) (b * (d * c.over)) c.plus c.minus s.plus s.minus _ _ (three a d b e c.plus c.minus c.over s.plus s.minus s.over) (four a d b e c.plus c.minus c.over s.plus s.minus s.over)
      (mul-pos A (mul-pos D w.s_over)) w.front w.side,
)
  where
    one : (a d b e cp cm co sp sm so : ℕ) → (a * sp + 0 * sm) * (e * co) + (b * cm + 0 * cp) * (d * so) ≡ b * d * cm * so + a * e * sp * co
    one a d b e cp cm co sp sm so = omega arith

    two : (a d b e cp cm co sp sm so : ℕ) → (a * sm + 0 * sp) * (e * co) + (b * cp + 0 * cm) * (d * so) ≡ b * d * cp * so + a * e * sm * co
    two a d b e cp cm co sp sm so = omega arith

    o : (d e co so : ℕ) → d * so * (e * co) ≡ d * e * (co * so)
    o d e co so = omega arith

    three : (a d b e cp cm co sp sm so : ℕ) → (b * sp + 0 * sm) * (d * co) + (a * cp + 0 * cm) * (e * so) ≡ a * (e * so) * cp + b * (d * co) * sp
    three a d b e cp cm co sp sm so = omega arith

    four : (a d b e cp cm co sp sm so : ℕ) → (b * sm + 0 * sp) * (d * co) + (a * cm + 0 * cp) * (e * so) ≡ a * (e * so) * cm + b * (d * co) * sm
    four a d b e cp cm co sp sm so = omega arith

-- Pi / 2 and the gap: S is c and C is -s, and x is below zero
case_lean : (a d b e L : ℕ) (s c : Frac) → Fair (b * d) (a * e) s c → a * e ≤ L → 0 < a → 0 < e → Goal (up_of a d) (down_of b e) L (d * e) c (negated s)
case_lean a d b e L s c w l A D = (
  small_of (difference (product (up_of a d) (negated s)) (product (down_of b e) c)) (b * d * c.plus * s.over + a * e * s.minus * c.over) (b * d * c.minus * s.over + a * e * s.plus * c.over) (a * e) (c.over * s.over) L (d * e)
      (one a d b e c.plus c.minus c.over s.plus s.minus s.over) (two a d b e c.plus c.minus c.over s.plus s.minus s.over) (o d e c.over s.over) w.up w.down l,
  ahead_of (a * (e * s.over)) (b * (d * c.over)) c.plus c.minus s.plus s.minus _ _ (three a d b e c.plus c.minus c.over s.plus s.minus s.over) (four a d b e c.plus c.minus c.over s.plus s.minus s.over)
      (mul-pos A (mul-pos D w.s_over)) w.front w.side,
)
  where
    one : (a d b e cp cm co sp sm so : ℕ) → (a * sm + 0 * sp) * (e * co) + (0 * cm + b * cp) * (d * so) ≡ b * d * cp * so + a * e * sm * co
    one a d b e cp cm co sp sm so = omega arith

    two : (a d b e cp cm co sp sm so : ℕ) → (a * sp + 0 * sm) * (e * co) + (0 * cp + b * cm) * (d * so) ≡ b * d * cm * so + a * e * sp * co
    two a d b e cp cm co sp sm so = omega arith

    o : (d e co so : ℕ) → d * so * (e * co) ≡ d * e * (co * so)
    o d e co so = omega arith

    three : (a d b e cp cm co sp sm so : ℕ) → (0 * sm + b * sp) * (d * co) + (a * cp + 0 * cm) * (e * so) ≡ a * (e * so) * cp + b * (d * co) * sp
    three a d b e cp cm co sp sm so = omega arith

    four : (a d b e cp cm co sp sm so : ℕ) → (0 * sp + b * sm) * (d * co) + (a * cm + 0 * cp) * (e * so) ≡ a * (e * so) * cm + b * (d * co) * sm
    four a d b e cp cm co sp sm so = omega arith

-- Pi less the gap: S is s and C is -c, and x is below zero
case_back : (a d b e L : ℕ) (s c : Frac) → Fair (a * e) (b * d) s c → b * d ≤ L → 0 < b → 0 < d → Goal (up_of a d) (down_of b e) L (d * e) s (negated c)
case_back a d b e L s c w l B D = (
  small_of (difference (product (up_of a d) (negated c)) (product (down_of b e) s)) (a * e * c.minus * s.over + b * d * s.plus * c.over) (a * e * c.plus * s.over + b * d * s.minus * c.over) (b * d) (c.over * s.over) L (d * e)
      (one a d b e c.plus c.minus c.over s.plus s.minus s.over) (two a d b e c.plus c.minus c.over s.plus s.minus s.over) (o d e c.over s.over) w.down w.up l,
  ahead_of (b * (d * s.over)) (a * (e * c.over)) c.plus c.minus s.plus s.minus _ _ (three a d b e c.plus c.minus c.over s.plus s.minus s.over) (four a d b e c.plus c.minus c.over s.plus s.minus s.over)
      (mul-pos B (mul-pos D w.s_over)) w.front w.side,
)
  where
    one : (a d b e cp cm co sp sm so : ℕ) → (a * cm + 0 * cp) * (e * so) + (0 * sm + b * sp) * (d * co) ≡ a * e * cm * so + b * d * sp * co
    one a d b e cp cm co sp sm so = omega arith

    two : (a d b e cp cm co sp sm so : ℕ) → (a * cp + 0 * cm) * (e * so) + (0 * sp + b * sm) * (d * co) ≡ a * e * cp * so + b * d * sm * co
    two a d b e cp cm co sp sm so = omega arith

    o : (d e co so : ℕ) → d * co * (e * so) ≡ d * e * (co * so)
    o d e co so = omega arith

    three : (a d b e cp cm co sp sm so : ℕ) → (0 * cm + b * cp) * (d * so) + (a * sp + 0 * sm) * (e * co) ≡ b * (d * so) * cp + a * (e * co) * sp
    three a d b e cp cm co sp sm so = omega arith

    four : (a d b e cp cm co sp sm so : ℕ) → (0 * cp + b * cm) * (d * so) + (a * sm + 0 * sp) * (e * co) ≡ b * (d * so) * cm + a * (e * co) * sm
    four a d b e cp cm co sp sm so = omega arith

-- ---- y from zero up. p and q are |y| and |x| in units
-- the larger of two, as `larger` has it
abbrev most : ℕ → ℕ → ℕ
most a b = cond (leb a b) b a

most_left : (a b : ℕ) → a ≤ most a b
most_left a b = go (leb a b) (leb→le a b)
  where
    go : (t : Bool) → (T t → a ≤ b) → a ≤ cond t b a
    go true h = h tt
    go false h = le_refl a

most_right : (a b : ℕ) → b ≤ most a b
most_right a b = go (leb a b) (nleb→lt a b)
  where
    go : (t : Bool) → (T (not t) → b < a) → b ≤ cond t b a
    go true h = le_refl b
    go false h = le_of_lt (h tt)

pos_left : (b u v d : ℕ) → b * u ≡ v * d → 0 < v → 0 < d → 0 < b
pos_left b u v d e V' D = go b (subst (λ (z : ℕ). 0 < z) (sym e) (mul-pos V' D))
  where
    go : (b : ℕ) → 0 < b * u → 0 < b
    go zero h = omega arith
    go (suc b) h = omega arith

-- a e u = p (d e)
cross : (a d e u p : ℕ) → a * u ≡ p * d → a * e * u ≡ p * (d * e)
cross a d e u p h =
    let f : a * u * e ≡ p * d * e = ap (λ (z : ℕ). z * e) h in
    omega arith

cross' : (b d e u q : ℕ) → b * u ≡ q * e → b * d * u ≡ q * (d * e)
cross' b d e u q h =
    let f : b * u * d ≡ q * e * d = ap (λ (z : ℕ). z * d) h in
    omega arith

toward_of : (y x : Float) (A D k : ℕ) (b : Bool) → nearest_k A D ≡ k → Side b A D k
    → Goal (worth y) (worth x) (larger y x) (bot y * bot x) (place ((k + 0) % 4) b (sin_sum (gap b A D k) (2 * D * pi_den)) (cos_sum (gap b A D k) (2 * D * pi_den))) (place ((k + 1) % 4) b (sin_sum (gap b A D k) (2 * D * pi_den)) (cos_sum (gap b A D k) (2 * D * pi_den)))
    → Goal (worth y) (worth x) (larger y x) (bot y * bot x) (wave false 0 A D) (wave false 1 A D)
toward_of y x A D k b e s g =
    subst (λ (z : Frac). Goal (worth y) (worth x) (larger y x) (bot y * bot x) z (wave false 1 A D)) (sym (waved 0 A D k b e s))
    (subst (λ (z : Frac). Goal (worth y) (worth x) (larger y x) (bot y * bot x) (place ((k + 0) % 4) b (sin_sum (gap b A D k) (2 * D * pi_den)) (cos_sum (gap b A D k) (2 * D * pi_den))) z) (sym (waved 1 A D k b e s)) g)

module _ (m : ℕ) (e : ℤ) (n : ℕ) (f : ℤ) (p q t : ℕ) where
  a : ℕ
  a = m * up e

  b : ℕ
  b = n * up f

  module _ (y_is : m * up e * U ≡ p * down e) (x-is : n * up f * U ≡ q * down f) where
    pub toward_flat : (r : Float) → 0 < q → Within t (p * U) q (16 * W) → Aimed t 0 false r → Toward (fin false m e) (fin false n f) r
    toward_flat nan Q w z = absurd z.plain
    toward_flat (inf s) Q w z = absurd z.plain
    toward_flat (fin true l h) Q w z = absurd z.plain
    toward_flat (fin false l h) Q w z =
        let g = gap false (l * up h) (down h) 0 in
        let v = 2 * down h * pi_den in
        let F = fair g v (v_pos (down h) (down_pos h)) z.low p q (m * up e * down f) (n * up f * down e) (down e * down f) (cross (m * up e) (down e) (down f) U p y_is) (cross' (n * up f) (down e) (down f) U q x-is) (met t p q g v (v_pos (down h) (down_pos h)) z.tight w) in
        let G = toward_of (fin false m e) (fin false n f) (l * up h) (down h) 0 false z.k_is z.side (case_flat (m * up e) (down e) (n * up f) (down f) (larger (fin false m e) (fin false n f)) (sin_sum g v) (cos_sum g v) F (most_right (m * up e * down f) (n * up f * down e)) (pos_left (n * up f) U q (down f) x-is Q (down_pos f)) (down_pos e)) in
        record { small = G.0; ahead = G.1 }

    pub toward_rise : (r : Float) → 0 < p → Within t (q * U) p (16 * W) → Aimed t 1 true r → Toward (fin false m e) (fin false n f) r
    toward_rise nan Q w z = absurd z.plain
    toward_rise (inf s) Q w z = absurd z.plain
    toward_rise (fin true l h) Q w z = absurd z.plain
    toward_rise (fin false l h) Q w z =
        let g = gap true (l * up h) (down h) 1 in
        let v = 2 * down h * pi_den in
        let F = fair g v (v_pos (down h) (down_pos h)) z.low q p (n * up f * down e) (m * up e * down f) (down e * down f) (cross' (n * up f) (down e) (down f) U q x-is) (cross (m * up e) (down e) (down f) U p y_is) (met t q p g v (v_pos (down h) (down_pos h)) z.tight w) in
        let G = toward_of (fin false m e) (fin false n f) (l * up h) (down h) 1 true z.k_is z.side (case_rise (m * up e) (down e) (n * up f) (down f) (larger (fin false m e) (fin false n f)) (sin_sum g v) (cos_sum g v) F (most_left (m * up e * down f) (n * up f * down e)) (pos_left (m * up e) U p (down e) y_is Q (down_pos e)) (down_pos f)) in
        record { small = G.0; ahead = G.1 }

    pub toward_lean : (r : Float) → 0 < p → Within t (q * U) p (16 * W) → Aimed t 1 false r → Toward (fin false m e) (fin true n f) r
    toward_lean nan Q w z = absurd z.plain
    toward_lean (inf s) Q w z = absurd z.plain
    toward_lean (fin true l h) Q w z = absurd z.plain
    toward_lean (fin false l h) Q w z =
        let g = gap false (l * up h) (down h) 1 in
        let v = 2 * down h * pi_den in
        let F = fair g v (v_pos (down h) (down_pos h)) z.low q p (n * up f * down e) (m * up e * down f) (down e * down f) (cross' (n * up f) (down e) (down f) U q x-is) (cross (m * up e) (down e) (down f) U p y_is) (met t q p g v (v_pos (down h) (down_pos h)) z.tight w) in
        let G = toward_of (fin false m e) (fin true n f) (l * up h) (down h) 1 false z.k_is z.side (case_lean (m * up e) (down e) (n * up f) (down f) (larger (fin false m e) (fin true n f)) (sin_sum g v) (cos_sum g v) F (most_left (m * up e * down f) (n * up f * down e)) (pos_left (m * up e) U p (down e) y_is Q (down_pos e)) (down_pos f)) in
        record { small = G.0; ahead = G.1 }

    pub toward_back : (r : Float) → 0 < q → Within t (p * U) q (16 * W) → Aimed t 2 true r → Toward (fin false m e) (fin true n f) r
    toward_back nan Q w z = absurd z.plain
    toward_back (inf s) Q w z = absurd z.plain
    toward_back (fin true l h) Q w z = absurd z.plain
    toward_back (fin false l h) Q w z =
        let g = gap true (l * up h) (down h) 2 in
        let v = 2 * down h * pi_den in
        let F = fair g v (v_pos (down h) (down_pos h)) z.low p q (m * up e * down f) (n * up f * down e) (down e * down f) (cross (m * up e) (down e) (down f) U p y_is) (cross' (n * up f) (down e) (down f) U q x-is) (met t p q g v (v_pos (down h) (down_pos h)) z.tight w) in
        let G = toward_of (fin false m e) (fin true n f) (l * up h) (down h) 2 true z.k_is z.side (case_back (m * up e) (down e) (n * up f) (down f) (larger (fin false m e) (fin true n f)) (sin_sum g v) (cos_sum g v) F (most_right (m * up e * down f) (n * up f * down e)) (pos_left (n * up f) U q (down f) x-is Q (down_pos f)) (down_pos e)) in
        record { small = G.0; ahead = G.1 }
