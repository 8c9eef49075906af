-- Where an angle lands: on the grid of 2 ^ -53 or 2 ^ -51, within the cell of its k. Assumes nothing.
use Rattle.std.proofs.Common.{◌≡◌, ℕ, suc, ◌+◌, ◌-◌, ◌*◌, ◌/◌, ◌^◌, ◌<◌, ◌≤◌, Bool, true, false, T, pos, negsuc, sym, refl, ap, ◌∙◌, subst, true≢false, le_trans, lt_of_le_of_lt, le_of_lt, mul-le-mul_right, mul_assoc, mul-lt-mul_of_pos_right, mul-pos, le_of_mul-le-mul_right, arith, lit<, lit≤, pow_pos, pow-add}
use lib.Ieee.{Float, nan, inf, fin, binary64, up, down, mul, round, of_int, le}
use lib.Ieee.Fits.{down_pos}
use lib.Ieee.Order.{le_of_values}
use lib.Ieee.Positive.{num as top, den as bot}
use lib.Ieee.Exact.{HasValue, round_exact}
use lib.Ieee.Scale.{round_same}
use Rattle.trig.proofs.Slope.{Apart}
use Rattle.trig.specs.Angle.{pi_num, pi_den, nearest_k, gap}
use Rattle.trig.proofs.NearestTurn.{Side, Nearest, nearest_is}
use Rattle.trig.proofs.GridAngle.{vv}
use Rattle.trig.specs.Direction.{pi}
use Rattle.trig.specs.Arctangent.{grid_float, quarter_float}

-- ---- exact floats: n * 2 ^ -51 and n * 2 ^ -53
exact : (y : Float) (n l r : ℕ) → l + r ≡ 1073 → HasValue y false n 1 → n < 2 ^ 53 → n * 2 ^ r < 2 ^ 2098 → HasValue (mul binary64 y (fin false 1 (negsuc l))) false n (2 ^ suc l)
exact nan n l r e v h b = absurd v
exact (inf s) n l r e v h b = absurd v
exact (fin true m d) n l r e v h b = absurd (true≢false v.0)
exact (fin false m d) n l r e v h b =
    subst (λ (z : Float). HasValue z false n (2 ^ suc l)) (sym (opened ∙ round_same binary64 false (m * up d * (1 * 1)) (down d * 2 ^ suc l) n (2 ^ suc l) (mul-pos (down_pos d) (pow_pos (suc l))) (pow_pos (suc l)) (cross (m * up d) (down d) (2 ^ suc l) v.1)))
    (round_exact binary64 false n (2 ^ suc l) n r (pow_pos (suc l)) h b (ap (λ (z : ℕ). n * z) (sym (ap (λ (k : ℕ). 2 ^ k) (whole l r e)) ∙ pow-add 2 r (suc l)) ∙ sym (mul_assoc n (2 ^ r) (2 ^ suc l))))
  where
    opened : mul binary64 (fin false m d) (fin false 1 (negsuc l)) ≡ round binary64 false (m * up d * (1 * 1)) (down d * 2 ^ suc l)
    opened = unfold mul in refl

    whole : (l r : ℕ) → l + r ≡ 1073 → r + suc l ≡ 1074
    whole l r e = omega arith

    cross : (a d p : ℕ) → a * 1 ≡ n * d → a * (1 * 1) * p ≡ n * (d * p)
    cross a d p e =
        let f : a * 1 * p ≡ n * d * p = ap (λ (z : ℕ). z * p) e in
        omega arith

int_exact : (n : ℕ) → n < 2 ^ 53 → HasValue (of_int binary64 (pos n)) false n 1
unfolding of_int
int_exact n h = round_exact binary64 false n 1 n 1074 (lit< tt) h (lt_of_le_of_lt (mul-le-mul_right (2 ^ 1074) (le_of_lt h)) (lit< tt)) (one (n * 2 ^ 1074))
  where
    one : (a : ℕ) → a ≡ a * 1
    one a = omega arith

quarters_is : (z : ℕ) → z < 2 ^ 53 → HasValue (quarter_float z) false z (2 ^ 51)
unfolding quarter_float
quarters_is z h = exact (of_int binary64 (pos z)) z 50 1023 refl (int_exact z h) h (lt_of_le_of_lt (mul-le-mul_right (2 ^ 1023) (le_of_lt h)) (lit< tt))

steps_is : (z : ℕ) → z < 2 ^ 53 → HasValue (grid_float z) false z (2 ^ 53)
unfolding grid_float
steps_is z h = exact (of_int binary64 (pos z)) z 52 1021 refl (int_exact z h) h (lt_of_le_of_lt (mul-le-mul_right (2 ^ 1021) (le_of_lt h)) (lit< tt))

-- ---- the angle r is k * Pi / 2, less i * 2 ^ -53 where b is true, and plus it otherwise, to within 5 * 2 ^ -53
abbrev pub Plain : Float → Type 0
Plain nan = ⊥
Plain (inf s) = ⊥
Plain (fin true m e) = ⊥
Plain (fin false m e) = Unit {0}

pub record Lands (k : ℕ) (b : Bool) (i : ℕ) (r : Float) : Type 0 where
  pub plain : Plain r
  pub k_is : nearest_k (top r) (bot r) ≡ k
  pub side : Side b (top r) (bot r) k
  pub near : Apart (i * (2 * bot r * pi_den)) (gap b (top r) (bot r) k * vv) (5 * (2 * bot r * pi_den))
  pub low : gap b (top r) (bot r) k ≤ 2 * bot r * pi_den
  pub greatest : T (le r pi)

apart : (x y : ℕ) → y ≤ x → x ≡ y + (x - y)
apart x y h = omega arith

under_gap : (x d a k p e g B i : ℕ) → x * d ≡ a * 2 ^ 53 → k * p * d ≡ 2 * a * e + g → B * e ≤ k * p * 2 ^ 52 → k * p * 2 ^ 52 ≤ (B + 1) * e → B ≤ x + i + 4 → x + i ≤ B + 4
    → Apart (i * (2 * d * e)) (g * 2 ^ 53) (5 * (2 * d * e))
under_gap x d a k p e g B i h v l u m n = go (ap (λ (z : ℕ). z * e) h) (mul-le-mul_right d l) (mul-le-mul_right d u) (mul-le-mul_right (d * e) m) (mul-le-mul_right (d * e) n)
  where
    go : x * d * e ≡ a * 2 ^ 53 * e → B * e * d ≤ k * p * 2 ^ 52 * d → k * p * 2 ^ 52 * d ≤ (B + 1) * e * d → B * (d * e) ≤ (x + i + 4) * (d * e) → (x + i) * (d * e) ≤ (B + 4) * (d * e) → Apart (i * (2 * d * e)) (g * 2 ^ 53) (5 * (2 * d * e))
    go b c f s t = (omega arith, omega arith)

over_gap : (x d a k p e g B i : ℕ) → x * d ≡ a * 2 ^ 53 → 2 * a * e ≡ k * p * d + g → B * e ≤ k * p * 2 ^ 52 → k * p * 2 ^ 52 ≤ (B + 1) * e → x ≤ B + i + 4 → B + i ≤ x + 4
    → Apart (i * (2 * d * e)) (g * 2 ^ 53) (5 * (2 * d * e))
over_gap x d a k p e g B i h v l u m n = go (ap (λ (z : ℕ). z * e) h) (mul-le-mul_right d l) (mul-le-mul_right d u) (mul-le-mul_right (d * e) m) (mul-le-mul_right (d * e) n)
  where
    go : x * d * e ≡ a * 2 ^ 53 * e → B * e * d ≤ k * p * 2 ^ 52 * d → k * p * 2 ^ 52 * d ≤ (B + 1) * e * d → x * (d * e) ≤ (B + i + 4) * (d * e) → (B + i) * (d * e) ≤ (x + 4) * (d * e) → Apart (i * (2 * d * e)) (g * 2 ^ 53) (5 * (2 * d * e))
    go b c f s t = (omega arith, omega arith)

-- the gap is no larger than 1
low_of : (i g v : ℕ) → i ≤ 7074237752028440 → g * 2 ^ 53 ≤ i * v + 5 * v → g ≤ v
low_of i g v h l = le_of_mul-le-mul_right {k = 2 ^ 53} (go (mul-le-mul_right v h)) (lit< tt)
  where
    go : i * v ≤ 7074237752028440 * v → g * 2 ^ 53 ≤ v * 2 ^ 53
    go a = omega arith

side_under : (x d a k p e : ℕ) → 0 < d → x * d ≡ a * 2 ^ 53 → x * e < k * p * 2 ^ 52 → 2 * a * e < k * p * d
side_under x d a k p e D h l = go (mul-lt-mul_of_pos_right l D) (ap (λ (z : ℕ). z * e) h)
  where
    go : x * e * d < k * p * 2 ^ 52 * d → x * d * e ≡ a * 2 ^ 53 * e → 2 * a * e < k * p * d
    go a b = omega arith

side_over : (x d a k p e : ℕ) → x * d ≡ a * 2 ^ 53 → k * p * 2 ^ 52 ≤ x * e → k * p * d ≤ 2 * a * e
side_over x d a k p e h l = go (mul-le-mul_right d l) (ap (λ (z : ℕ). z * e) h)
  where
    go : k * p * 2 ^ 52 * d ≤ x * e * d → x * d * e ≡ a * 2 ^ 53 * e → k * p * d ≤ 2 * a * e
    go a b = omega arith

four : (m z d : ℕ) → m * 2 ^ 51 ≡ z * d → 4 * z * d ≡ m * 2 ^ 53
four m z d e = omega arith

vv_is : vv ≡ 2 ^ 53
unfolding vv
vv_is = refl

pi_is : HasValue pi false 7074237752028440 (2 ^ 51)
pi_is = (refl, refl)

pub lands_under : (r : Float) (k B z i : ℕ) → HasValue r false z (2 ^ 51) → z ≤ 7074237752028440 → i ≤ 7074237752028440 → B * pi_den ≤ k * pi_num * 2 ^ 52 → k * pi_num * 2 ^ 52 ≤ (B + 1) * pi_den → 4 * z * pi_den < k * pi_num * 2 ^ 52 → Nearest (4 * z) k
    → B ≤ 4 * z + i + 4 → 4 * z + i ≤ B + 4 → Lands k true i r
lands_under nan k B z i v zl il l u s n m o = absurd v
lands_under (inf t) k B z i v zl il l u s n m o = absurd v
lands_under (fin true a e) k B z i v zl il l u s n m o = absurd (true≢false v.0)
lands_under (fin false a e) k B z i v zl il l u s n m o =
    let f : 4 * z * down e ≡ a * up e * 2 ^ 53 = four (a * up e) z (down e) v.1 in
    let w : 2 * (a * up e) * pi_den < k * pi_num * down e = side_under (4 * z) (down e) (a * up e) k pi_num pi_den (down_pos e) f s in
    let g = under_gap (4 * z) (down e) (a * up e) k pi_num pi_den (k * pi_num * down e - 2 * (a * up e) * pi_den) B i f (apart (k * pi_num * down e) (2 * (a * up e) * pi_den) (le_of_lt w)) l u m o in
    record {
      plain = tt;
      k_is = nearest_is (a * up e) (down e) (4 * z) k (down_pos e) f n;
      side = w;
      near = unfold vv in g;
      low = low_of i (k * pi_num * down e - 2 * (a * up e) * pi_den) (2 * down e * pi_den) il g.1;
      greatest = le_of_values (fin false a e) pi z (2 ^ 51) 7074237752028440 (2 ^ 51) (pow_pos 51) (pow_pos 51) v pi_is (mul-le-mul_right (2 ^ 51) zl);
    }

pub lands_over : (r : Float) (k B z i : ℕ) → HasValue r false z (2 ^ 51) → z ≤ 7074237752028440 → i ≤ 7074237752028440 → B * pi_den ≤ k * pi_num * 2 ^ 52 → k * pi_num * 2 ^ 52 ≤ (B + 1) * pi_den → k * pi_num * 2 ^ 52 ≤ 4 * z * pi_den → Nearest (4 * z) k
    → 4 * z ≤ B + i + 4 → B + i ≤ 4 * z + 4 → Lands k false i r
lands_over nan k B z i v zl il l u s n m o = absurd v
lands_over (inf t) k B z i v zl il l u s n m o = absurd v
lands_over (fin true a e) k B z i v zl il l u s n m o = absurd (true≢false v.0)
lands_over (fin false a e) k B z i v zl il l u s n m o =
    let f : 4 * z * down e ≡ a * up e * 2 ^ 53 = four (a * up e) z (down e) v.1 in
    let w : k * pi_num * down e ≤ 2 * (a * up e) * pi_den = side_over (4 * z) (down e) (a * up e) k pi_num pi_den f s in
    let g = over_gap (4 * z) (down e) (a * up e) k pi_num pi_den (2 * (a * up e) * pi_den - k * pi_num * down e) B i f (apart (2 * (a * up e) * pi_den) (k * pi_num * down e) w) l u m o in
    record {
      plain = tt;
      k_is = nearest_is (a * up e) (down e) (4 * z) k (down_pos e) f n;
      side = w;
      near = unfold vv in g;
      low = low_of i (2 * (a * up e) * pi_den - k * pi_num * down e) (2 * down e * pi_den) il g.1;
      greatest = le_of_values (fin false a e) pi z (2 ^ 51) 7074237752028440 (2 ^ 51) (pow_pos 51) (pow_pos 51) v pi_is (mul-le-mul_right (2 ^ 51) zl);
    }

-- ---- k = 1 and 2: Pi / 2 and Pi in units of 2 ^ -53, and the two ties between
half_lo : 14148475504056880 * pi_den ≤ 1 * pi_num * 2 ^ 52
unfolding pi_num pi_den
half_lo = lit≤ tt

half_hi : 1 * pi_num * 2 ^ 52 ≤ (14148475504056880 + 1) * pi_den
unfolding pi_num pi_den
half_hi = lit≤ tt

half_lt : 14148475504056880 * pi_den < 1 * pi_num * 2 ^ 52
unfolding pi_num pi_den
half_lt = lit< tt

pi_lo : 28296951008113761 * pi_den ≤ 2 * pi_num * 2 ^ 52
unfolding pi_num pi_den
pi_lo = lit≤ tt

pi_hi : 2 * pi_num * 2 ^ 52 ≤ (28296951008113761 + 1) * pi_den
unfolding pi_num pi_den
pi_hi = lit≤ tt

pi_lt : 28296951008113761 * pi_den < 2 * pi_num * 2 ^ 52
unfolding pi_num pi_den
pi_lt = lit< tt

-- x is past the first tie, before the second, past the second
tie_1 : 2 * 1 * pi_num * 2 ^ 51 ≤ 7074237752028444 * pi_den + pi_num * 2 ^ 51
unfolding pi_num pi_den
tie_1 = lit≤ tt

tie_2 : 21222713256085320 * pi_den < (2 * 1 + 1) * pi_num * 2 ^ 51
unfolding pi_num pi_den
tie_2 = lit< tt

tie_3 : 2 * 2 * pi_num * 2 ^ 51 ≤ 21222713256085324 * pi_den + pi_num * 2 ^ 51
unfolding pi_num pi_den
tie_3 = lit≤ tt

tie_4 : 28296951008113760 * pi_den < (2 * 2 + 1) * pi_num * 2 ^ 51
unfolding pi_num pi_den
tie_4 = lit< tt

nearest_at : (x k lo hi : ℕ) → k ≤ 510 → lo ≤ x → x ≤ hi → 2 * k * pi_num * 2 ^ 51 ≤ lo * pi_den + pi_num * 2 ^ 51 → hi * pi_den < (2 * k + 1) * pi_num * 2 ^ 51 → Nearest x k
nearest_at x k lo hi f a b l h = record { least = le_trans l (more (pi_num * 2 ^ 51) (lo * pi_den) (x * pi_den) (mul-le-mul_right pi_den a)); most = lt_of_le_of_lt (mul-le-mul_right pi_den b) h; few = f }
  where
    more : (p x y : ℕ) → x ≤ y → x + p ≤ y + p
    more p x y h = omega arith

-- Pi / 2 - i, Pi / 2 + i, Pi - i, as z * 2 ^ -51
pub lands_rise : (z i : ℕ) → i ≤ 7074237752028440 → 1768559438007111 ≤ z → z ≤ 3537118876014220 → 14148475504056880 ≤ 4 * z + i + 4 → 4 * z + i ≤ 14148475504056880 + 4 → Lands 1 true i (quarter_float z)
lands_rise z i h a b m o =
    lands_under (quarter_float z) 1 14148475504056880 z i (quarters_is z (le_trans (up z b) (lit≤ tt))) (le_trans b (lit≤ tt)) h half_lo half_hi (lt_of_le_of_lt (mul-le-mul_right pi_den (top' z b)) half_lt)
    (nearest_at (4 * z) 1 7074237752028444 21222713256085320 (lit≤ tt) (bottom z a) (le_trans (top' z b) (lit≤ tt)) tie_1 tie_2) m o
  where
    up : (z : ℕ) → z ≤ 3537118876014220 → suc z ≤ 3537118876014221
    up z h = omega arith

    top' : (z : ℕ) → z ≤ 3537118876014220 → 4 * z ≤ 14148475504056880
    top' z h = omega arith

    bottom : (z : ℕ) → 1768559438007111 ≤ z → 7074237752028444 ≤ 4 * z
    bottom z h = omega arith

pub lands_lean : (z i : ℕ) → i ≤ 7074237752028440 → 3537118876014221 ≤ z → z ≤ 5305678314021330 → 4 * z ≤ 14148475504056880 + i + 4 → 14148475504056880 + i ≤ 4 * z + 4 → Lands 1 false i (quarter_float z)
lands_lean z i h a b m o =
    lands_over (quarter_float z) 1 14148475504056880 z i (quarters_is z (le_trans (up z b) (lit≤ tt))) (le_trans b (lit≤ tt)) h half_lo half_hi (le_trans half_hi (mul-le-mul_right pi_den (bottom z a)))
    (nearest_at (4 * z) 1 7074237752028444 21222713256085320 (lit≤ tt) (le_trans (lit≤ tt) (bottom z a)) (top' z b) tie_1 tie_2) m o
  where
    up : (z : ℕ) → z ≤ 5305678314021330 → suc z ≤ 5305678314021331
    up z h = omega arith

    top' : (z : ℕ) → z ≤ 5305678314021330 → 4 * z ≤ 21222713256085320
    top' z h = omega arith

    bottom : (z : ℕ) → 3537118876014221 ≤ z → 14148475504056880 + 1 ≤ 4 * z
    bottom z h = omega arith

pub lands_back : (z i : ℕ) → i ≤ 7074237752028440 → 5305678314021331 ≤ z → z ≤ 7074237752028440 → 28296951008113761 ≤ 4 * z + i + 4 → 4 * z + i ≤ 28296951008113761 + 4 → Lands 2 true i (quarter_float z)
lands_back z i h a b m o =
    lands_under (quarter_float z) 2 28296951008113761 z i (quarters_is z (le_trans (up z b) (lit≤ tt))) b h pi_lo pi_hi (lt_of_le_of_lt (mul-le-mul_right pi_den (le_trans (top' z b) (lit≤ tt))) pi_lt)
    (nearest_at (4 * z) 2 21222713256085324 28296951008113760 (lit≤ tt) (bottom z a) (top' z b) tie_3 tie_4) m o
  where
    up : (z : ℕ) → z ≤ 7074237752028440 → suc z ≤ 7074237752028441
    up z h = omega arith

    top' : (z : ℕ) → z ≤ 7074237752028440 → 4 * z ≤ 28296951008113760
    top' z h = omega arith

    bottom : (z : ℕ) → 5305678314021331 ≤ z → 21222713256085324 ≤ 4 * z
    bottom z h = omega arith

-- i itself
first_most : 7074237752028440 * pi_den < (2 * 0 + 1) * pi_num * 2 ^ 51
unfolding pi_num pi_den
first_most = lit< tt

pub lands_flat : (r : Float) (i : ℕ) → HasValue r false i (2 ^ 53) → i ≤ 7074237752028440 → Lands 0 false i r
lands_flat nan i v h = absurd v
lands_flat (inf t) i v h = absurd v
lands_flat (fin true a e) i v h = absurd (true≢false v.0)
lands_flat (fin false a e) i v h =
    let g : Apart (i * (2 * down e * pi_den)) ((2 * (a * up e) * pi_den - 0 * pi_num * down e) * 2 ^ 53) (5 * (2 * down e * pi_den)) = still i (down e) (a * up e) (0 * pi_num * down e) pi_den (none pi_num (down e)) (sym v.1) in
    record {
      plain = tt;
      k_is = nearest_is (a * up e) (down e) i 0 (down_pos e) (sym v.1) (record { least = zeros pi_num (i * pi_den); most = lt_of_le_of_lt (mul-le-mul_right pi_den h) first_most; few = lit≤ tt });
      side = nothing (0 * pi_num * down e) (2 * (a * up e) * pi_den) (none pi_num (down e));
      near = subst (λ (z : ℕ). Apart (i * (2 * down e * pi_den)) ((2 * (a * up e) * pi_den - 0 * pi_num * down e) * z) (5 * (2 * down e * pi_den))) (sym vv_is) g;
      low = low_of i (2 * (a * up e) * pi_den - 0 * pi_num * down e) (2 * down e * pi_den) h g.1;
      greatest = le_of_values (fin false a e) pi i (2 ^ 53) 7074237752028440 (2 ^ 51) (pow_pos 53) (pow_pos 51) v pi_is (le_trans (mul-le-mul_right (2 ^ 51) h) (lit≤ tt));
    }
  where
    none : (p d : ℕ) → 0 * p * d ≡ 0
    none p d = omega arith

    nothing : (x y : ℕ) → x ≡ 0 → x ≤ y
    nothing x y e = omega arith

    zeros : (p x : ℕ) → 2 * 0 * p * 2 ^ 51 ≤ x + p * 2 ^ 51
    zeros p x = omega arith

    still : (i d a z q : ℕ) → z ≡ 0 → i * d ≡ a * 2 ^ 53 → Apart (i * (2 * d * q)) ((2 * a * q - z) * 2 ^ 53) (5 * (2 * d * q))
    still i d a z q e f = go (2 * a * q - z) (same (2 * a * q) e) (ap (λ (x : ℕ). x * (2 * q)) f)
      where
        same : (x : ℕ) → z ≡ 0 → x - z ≡ x
        same x e = omega arith

        go : (g : ℕ) → g ≡ 2 * a * q → i * d * (2 * q) ≡ a * 2 ^ 53 * (2 * q) → Apart (i * (2 * d * q)) (g * 2 ^ 53) (5 * (2 * d * q))
        go g e f = (omega arith, omega arith)

pub lands_steps : (i : ℕ) → i ≤ 7074237752028440 → Lands 0 false i (grid_float i)
lands_steps i h = lands_flat (grid_float i) i (steps_is i (lt_of_le_of_lt h (lit< tt))) h

-- ---- for the code
pub rise_least : (i : ℕ) → i ≤ 7074237752028440 → (14148475504056880 - i) / 4 < 1768559438007111 → Lands 1 true i (quarter_float 1768559438007111)
rise_least i h l = lands_rise 1768559438007111 i h (lit≤ tt) (lit≤ tt) (omega arith) (omega arith)

pub rise_most : (i : ℕ) → i ≤ 7074237752028440 → 1768559438007111 ≤ (14148475504056880 - i) / 4 → Lands 1 true i (quarter_float ((14148475504056880 - i) / 4))
rise_most i h l = lands_rise ((14148475504056880 - i) / 4) i h l (omega arith) (omega arith) (omega arith)

pub lean_most : (i : ℕ) → i ≤ 7074237752028440 → 5305678314021330 < (14148475504056880 + i) / 4 + 1 → Lands 1 false i (quarter_float 5305678314021330)
lean_most i h l = lands_lean 5305678314021330 i h (lit≤ tt) (lit≤ tt) (omega arith) (omega arith)

pub lean_least : (i : ℕ) → i ≤ 7074237752028440 → (14148475504056880 + i) / 4 + 1 ≤ 5305678314021330 → Lands 1 false i (quarter_float ((14148475504056880 + i) / 4 + 1))
lean_least i h l = lands_lean ((14148475504056880 + i) / 4 + 1) i h (omega arith) l (omega arith) (omega arith)

pub back_least : (i : ℕ) → i ≤ 7074237752028440 → (28296951008113761 - i) / 4 < 5305678314021331 → Lands 2 true i (quarter_float 5305678314021331)
back_least i h l = lands_back 5305678314021331 i h (lit≤ tt) (lit≤ tt) (omega arith) (omega arith)

pub back_most : (i : ℕ) → i ≤ 7074237752028440 → 5305678314021331 ≤ (28296951008113761 - i) / 4 → Lands 2 true i (quarter_float ((28296951008113761 - i) / 4))
back_most i h l = lands_back ((28296951008113761 - i) / 4) i h l (omega arith) (omega arith) (omega arith)
