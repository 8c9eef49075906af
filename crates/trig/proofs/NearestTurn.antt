-- The argument reduction, on whole numbers: x counts units of 2 ^ -53, and is at most 800. Assumes nothing.
use Rattle.std.proofs.Common.{◌≡◌, ℕ, zero, suc, ◌+◌, ◌-◌, ◌*◌, ◌/◌, ◌%◌, ◌^◌, ◌<◌, ◌≤◌, Bool, true, false, cond, not, ◌&&◌, T, ltb, leb, sym, refl, ap, subst, le_trans, le_of_suc-le-suc, lt_of_le_of_lt, le_of_lt, mul-le-mul_right, div-lt_iff_lt-mul, le_antisymm, lt_of_mul-lt-mul_right, mul-le-mul_left, mul-lt-mul_of_pos_right, mul-pos, le-div_iff_mul-le, div-le_self, not-le_of_lt, div-mul-le_self, le_of_mul-le-mul_right, arith, lit<, lit≤, ltb→lt, lt→ltb, leb→le, nltb→le}
use native.Mathlib.Nat.{div-div-eq-div-mul}
use lib.Dec.{nleb→lt}
use lib.Ieee.Fits.{and_l, and_r}
use Rattle.float.proofs.Rounding.{Within}
use Rattle.trig.specs.Reduction.{tie, turns, base, part, rest}
use Rattle.trig.specs.Angle.{pi_num, pi_den, nearest_k, gap}

pub pi_den_pos : 0 < pi_den
unfolding pi_den
pi_den_pos = lit< tt

pub pi_num_pos : 0 < pi_num
unfolding pi_num
pi_num_pos = lit< tt

-- the whole part of Pi / 2 * 2 ^ 53, and 50 more digits
phi_lo : 14148475504056880 * pi_den ≤ pi_num * 2 ^ 52
unfolding pi_num pi_den
phi_lo = lit≤ tt

phi_hi : pi_num * 2 ^ 52 ≤ 14148475504056881 * pi_den
unfolding pi_num pi_den
phi_hi = lit≤ tt

g_lo : (14148475504056880 * 2 ^ 50 + 620969700002688) * pi_den ≤ pi_num * 2 ^ 102
unfolding pi_num pi_den
g_lo = lit≤ tt

g_hi : pi_num * 2 ^ 102 ≤ (14148475504056880 * 2 ^ 50 + 620969700002689) * pi_den
unfolding pi_num pi_den
g_hi = lit≤ tt

-- 3 pi_den < pi_num, so 509 pi_den is far below pi_num * 2 ^ 51
pi_big : 3 * pi_den ≤ pi_num
unfolding pi_num pi_den
pi_big = lit≤ tt

pub pi_small : 100 * pi_num ≤ 316 * pi_den
unfolding pi_num pi_den
pi_small = lit≤ tt

-- ---- a test that passes below n
abbrev all : ℕ → (ℕ → Bool) → Bool
all zero t = true
all (suc n) t = t n && all n t

from_all : (n : ℕ) (t : ℕ → Bool) → T (all n t) → (k : ℕ) → k < n → T (t k)
from_all zero t h k l = absurd (none k l)
  where
    none : (k : ℕ) → k < 0 → ⊥
    none k l = omega arith
from_all (suc n) t h k l = go (leb n k) (leb→le n k) (nleb→lt n k) (from_all n t (and_r (t n) (all n t) h) k)
  where
    go : (b : Bool) → (T b → n ≤ k) → (T (not b) → k < n) → (k < n → T (t k)) → T (t k)
    go true a c f = subst (λ (j : ℕ). T (t j)) (le_antisymm (a tt) (le_of_suc-le-suc l)) (and_l (t n) (all n t) h)
    go false a c f = f (c tt)

abbrev tie_test : ℕ → Bool
tie_test k = ltb (tie k * pi_den) ((2 * k + 1) * pi_num * 2 ^ 51) && ltb ((2 * k + 1) * pi_num * 2 ^ 51) ((tie k + 1) * pi_den)

ties_pass : T (all 510 tie_test)
unfolding tie pi_num pi_den
ties_pass = tt

tie_below : (k : ℕ) → k < 510 → tie k * pi_den < (2 * k + 1) * pi_num * 2 ^ 51
tie_below k h = ltb→lt (tie k * pi_den) ((2 * k + 1) * pi_num * 2 ^ 51) (and_l (ltb (tie k * pi_den) ((2 * k + 1) * pi_num * 2 ^ 51)) (ltb ((2 * k + 1) * pi_num * 2 ^ 51) ((tie k + 1) * pi_den)) (from_all 510 tie_test ties_pass k h))

tie_above : (k : ℕ) → k < 510 → (2 * k + 1) * pi_num * 2 ^ 51 < (tie k + 1) * pi_den
tie_above k h = ltb→lt ((2 * k + 1) * pi_num * 2 ^ 51) ((tie k + 1) * pi_den) (and_r (ltb (tie k * pi_den) ((2 * k + 1) * pi_num * 2 ^ 51)) (ltb ((2 * k + 1) * pi_num * 2 ^ 51) ((tie k + 1) * pi_den)) (from_all 510 tie_test ties_pass k h))

-- k is the whole number nearest to x / (Pi / 2 * 2 ^ 53)
pub record Nearest (x k : ℕ) : Type 0 where
  pub least : 2 * k * pi_num * 2 ^ 51 ≤ x * pi_den + pi_num * 2 ^ 51
  pub most : x * pi_den < (2 * k + 1) * pi_num * 2 ^ 51
  pub few : k ≤ 510

few_turns : (x k : ℕ) → x ≤ 800 * 2 ^ 53 → k * 14148475504056880 ≤ x → k < 510
few_turns x k h l = omega arith

above_tie : (x t k p e : ℕ) → t < x → k < 510 → x < (k + 1) * 14148475504056880 → (2 * k + 1) * p * 2 ^ 51 < (t + 1) * e → 14148475504056880 * e ≤ p * 2 ^ 52 → 0 < e
    → (2 * (k + 1) * p * 2 ^ 51 ≤ x * e + p * 2 ^ 51) × (x * e < (2 * (k + 1) + 1) * p * 2 ^ 51) × (k + 1 ≤ 510)
above_tie x t k p e a s h u l z = go (mul-le-mul_right e a) (mul-lt-mul_of_pos_right h z) (mul-le-mul_left (k + 1) l)
  where
    go : suc t * e ≤ x * e → x * e < (k + 1) * 14148475504056880 * e → (k + 1) * (14148475504056880 * e) ≤ (k + 1) * (p * 2 ^ 52) → (2 * (k + 1) * p * 2 ^ 51 ≤ x * e + p * 2 ^ 51) × (x * e < (2 * (k + 1) + 1) * p * 2 ^ 51) × (k + 1 ≤ 510)
    go b c d = (omega arith, omega arith, omega arith)

below_tie : (x t k p e : ℕ) → x ≤ t → k < 510 → k * 14148475504056880 ≤ x → t * e < (2 * k + 1) * p * 2 ^ 51 → p * 2 ^ 52 ≤ 14148475504056881 * e → 3 * e ≤ p
    → (2 * k * p * 2 ^ 51 ≤ x * e + p * 2 ^ 51) × (x * e < (2 * k + 1) * p * 2 ^ 51) × (k ≤ 510)
below_tie x t k p e a s h u l z = go (mul-le-mul_right e a) (mul-le-mul_right e h) (mul-le-mul_left k l) (mul-le-mul_right e s)
  where
    go : x * e ≤ t * e → k * 14148475504056880 * e ≤ x * e → k * (p * 2 ^ 52) ≤ k * (14148475504056881 * e) → suc k * e ≤ 510 * e → (2 * k * p * 2 ^ 51 ≤ x * e + p * 2 ^ 51) × (x * e < (2 * k + 1) * p * 2 ^ 51) × (k ≤ 510)
    go b c d f = (omega arith, omega arith, omega arith)

nearest_of : {x k : ℕ} → (2 * k * pi_num * 2 ^ 51 ≤ x * pi_den + pi_num * 2 ^ 51) × (x * pi_den < (2 * k + 1) * pi_num * 2 ^ 51) × (k ≤ 510) → Nearest x k
nearest_of t = record { least = t.0; most = t.1; few = t.2 }

pub turns_nearest : (x : ℕ) → x ≤ 800 * 2 ^ 53 → Nearest x (turns x)
unfolding turns
turns_nearest x h = go (ltb (tie k) x) (ltb→lt (tie k) x) (nltb→le (tie k) x)
  where
    k : ℕ
    k = x / 14148475504056880

    lo : k * 14148475504056880 ≤ x
    lo = omega arith

    hi : x < (k + 1) * 14148475504056880
    hi = omega arith

    small : k < 510
    small = few_turns x k h lo

    go : (b : Bool) → (T b → tie k < x) → (T (not b) → x ≤ tie k) → Nearest x (cond b (k + 1) k)
    go true a c = nearest_of (above_tie x (tie k) k pi_num pi_den (a tt) small hi (tie_above k small) phi_lo pi_den_pos)
    go false a c = nearest_of (below_tie x (tie k) k pi_num pi_den (c tt) small lo (tie_below k small) phi_hi pi_big)

quotient : (n b q : ℕ) → 0 < b → q * b ≤ n → n < (q + 1) * b → n / b ≡ q
quotient n b q B l h = le_antisymm (le_of_suc-le-suc (go ((div-lt_iff_lt-mul B).1 h))) ((le-div_iff_mul-le B).1 l)
  where
    go : n / b < q + 1 → n / b < suc q
    go h = omega arith

pub nearest_is : (a d x k : ℕ) → 0 < d → x * d ≡ a * 2 ^ 53 → Nearest x k → nearest_k a d ≡ k
unfolding nearest_k
nearest_is a d x k D e n =
    quotient (4 * a * pi_den + pi_num * d) (2 * pi_num * d) k (mul-pos (mul-pos (lit< tt) pi_num_pos) D)
    (lo (4 * a * pi_den) pi_num pi_den (mul-le-mul_right d n.least) (ap (λ (z : ℕ). z * pi_den) e))
    (hi pi_num pi_den (mul-lt-mul_of_pos_right n.most D) (ap (λ (z : ℕ). z * pi_den) e))
  where
    lo : (f p q : ℕ) → 2 * k * p * 2 ^ 51 * d ≤ (x * q + p * 2 ^ 51) * d → x * d * q ≡ a * 2 ^ 53 * q → k * (2 * p * d) ≤ 4 * a * q + p * d
    lo f p q h g = omega arith

    hi : (p q : ℕ) → x * q * d < (2 * k + 1) * p * 2 ^ 51 * d → x * d * q ≡ a * 2 ^ 53 * q → 4 * a * q + p * d < (k + 1) * (2 * p * d)
    hi p q h g = omega arith

base_lo : (k : ℕ) → base k * pi_den ≤ k * pi_num * 2 ^ 52
unfolding base
base_lo k = go (k * 14148475504056880 + k * 620969700002688 / 1125899906842624) pi_num pi_den (whole k) (mul-le-mul_left k g_lo)
  where
    whole : (k : ℕ) → (k * 14148475504056880 + k * 620969700002688 / 1125899906842624) * 2 ^ 50 ≤ k * (14148475504056880 * 2 ^ 50 + 620969700002688)
    whole k = omega arith

    go : (b p e : ℕ) → b * 2 ^ 50 ≤ k * (14148475504056880 * 2 ^ 50 + 620969700002688) → k * ((14148475504056880 * 2 ^ 50 + 620969700002688) * e) ≤ k * (p * 2 ^ 102) → b * e ≤ k * p * 2 ^ 52
    go b p e h l = sum (mul-le-mul_right e h)
      where
        sum : b * 2 ^ 50 * e ≤ k * (14148475504056880 * 2 ^ 50 + 620969700002688) * e → b * e ≤ k * p * 2 ^ 52
        sum a = omega arith

abbrev base_test : ℕ → Bool
base_test k = ltb (k * pi_num * 2 ^ 52) ((base k + 1) * pi_den)

bases_pass : T (all 511 base_test)
unfolding base pi_num pi_den
bases_pass = tt

base_hi : (k : ℕ) → k ≤ 510 → k * pi_num * 2 ^ 52 < (base k + 1) * pi_den
base_hi k h = ltb→lt (k * pi_num * 2 ^ 52) ((base k + 1) * pi_den) (from_all 511 base_test bases_pass k (more k h))
  where
    more : (k : ℕ) → k ≤ 510 → k < 511
    more k h = omega arith

abbrev base_test' : ℕ → Bool
base_test' k = ltb (base (suc k) * pi_den) (suc k * pi_num * 2 ^ 52)

bases_pass' : T (all 510 base_test')
unfolding base pi_num pi_den
bases_pass' = tt

-- x is below k * Pi / 2 where it is at most `base k`
base_lt : (x k : ℕ) → 0 < x → k ≤ 510 → x ≤ base k → x * pi_den < k * pi_num * 2 ^ 52
base_lt x zero X s h = absurd (none (le_trans h zero_base))
  where
    zero_base : base 0 ≤ 0
    zero_base = unfold base in lit≤ tt

    none : x ≤ 0 → ⊥
    none h = omega arith
base_lt x (suc k) X s h = lt_of_le_of_lt (mul-le-mul_right pi_den h) (ltb→lt (base (suc k) * pi_den) (suc k * pi_num * 2 ^ 52) (from_all 510 base_test' bases_pass' k s))

part_small : (k : ℕ) → part k < 512
unfolding part
part_small k = omega arith

digits : (k : ℕ) → ((base k * 512 + part k) * 2 ^ 41 ≤ k * (14148475504056880 * 2 ^ 50 + 620969700002688)) × (k * (14148475504056880 * 2 ^ 50 + 620969700002688) < (base k * 512 + part k + 1) * 2 ^ 41)
unfolding base part
digits k = go (k * 620969700002688) (k * 620969700002688 / 1125899906842624) (k * 620969700002688 / 2199023255552) refl (sym (div-div-eq-div-mul (k * 620969700002688) 2199023255552 512)) refl
  where
    go : (m b c : ℕ) → m ≡ k * 620969700002688 → b ≡ c / 512 → c ≡ m / 2199023255552
        → (((k * 14148475504056880 + b) * 512 + c % 512) * 2 ^ 41 ≤ k * (14148475504056880 * 2 ^ 50 + 620969700002688)) × (k * (14148475504056880 * 2 ^ 50 + 620969700002688) < ((k * 14148475504056880 + b) * 512 + c % 512 + 1) * 2 ^ 41)
    go m b c e f g = omega arith

q_lo : (k : ℕ) → (base k * 512 + part k) * pi_den ≤ k * pi_num * 2 ^ 61
q_lo k = go (base k * 512 + part k) pi_num pi_den (mul-le-mul_right pi_den (digits k).0) (mul-le-mul_left k g_lo)
  where
    go : (q p e : ℕ) → q * 2 ^ 41 * e ≤ k * (14148475504056880 * 2 ^ 50 + 620969700002688) * e → k * ((14148475504056880 * 2 ^ 50 + 620969700002688) * e) ≤ k * (p * 2 ^ 102) → q * e ≤ k * p * 2 ^ 61
    go q p e h l = omega arith

q_hi : (k : ℕ) → k ≤ 510 → k * pi_num * 2 ^ 61 ≤ (base k * 512 + part k + 2) * pi_den
q_hi k s = go (base k * 512 + part k) pi_num pi_den (14148475504056880 * 2 ^ 50 + 620969700002688) (mul-le-mul_right pi_den (digits k).1) (mul-le-mul_left k g_hi) (mul-le-mul_right pi_den s)
  where
    go : (q p e g : ℕ) → suc (k * g) * e ≤ (q + 1) * 2 ^ 41 * e → k * (p * 2 ^ 102) ≤ k * (suc g * e) → k * e ≤ 510 * e → k * p * 2 ^ 61 ≤ (q + 2) * e
    go q p e g h l m = omega arith

abbrev pub Side : Bool → ℕ → ℕ → ℕ → Type 0
Side true a d k = 2 * a * pi_den < k * pi_num * d
Side false a d k = k * pi_num * d ≤ 2 * a * pi_den

pub record Rest (a d k : ℕ) (b : Bool) (r : ℕ) : Type 0 where
  pub side : Side b a d k
  pub near : Within r (gap b a d k * 2 ^ 62) (2 * d * pi_den) 2
  pub small : 100 * gap b a d k ≤ 79 * (2 * d * pi_den)

-- with m = k * pi_num * d, n = 2 * a * pi_den, o = 2 * d * pi_den
apart : (x y : ℕ) → y ≤ x → x ≡ y + (x - y)
apart x y h = omega arith

under_side : (x d a k p e : ℕ) → 0 < d → x * d ≡ a * 2 ^ 53 → x * e < k * p * 2 ^ 52 → 2 * a * e < k * p * d
under_side x d a k p e D h l = go (mul-lt-mul_of_pos_right l D) (ap (λ (z : ℕ). z * e) h)
  where
    go : x * e * d < k * p * 2 ^ 52 * d → x * d * e ≡ a * 2 ^ 53 * e → 2 * a * e < k * p * d
    go a b = omega arith

over_side : (x d a k p e q r : ℕ) → x * d ≡ a * 2 ^ 53 → k * p * 2 ^ 52 ≤ x * e → k * p * d ≤ 2 * a * e
over_side x d a k p e q r h l = go (mul-le-mul_right d l) (ap (λ (z : ℕ). z * e) h)
  where
    go : k * p * 2 ^ 52 * d ≤ x * e * d → x * d * e ≡ a * 2 ^ 53 * e → k * p * d ≤ 2 * a * e
    go a b = omega arith

-- r + 512 x = q, and q e ≤ k p 2 ^ 61 ≤ (q + 2) e
under_near : (x d a k p e q r g : ℕ) → x * d ≡ a * 2 ^ 53 → r + 512 * x ≡ q → q * e ≤ k * p * 2 ^ 61 → k * p * 2 ^ 61 ≤ (q + 2) * e → k * p * d ≡ 2 * a * e + g → Within r (g * 2 ^ 62) (2 * d * e) 2
under_near x d a k p e q r g h s l u v = go (ap (λ (z : ℕ). z * e) h) (ap (λ (z : ℕ). z * (d * e)) s) (mul-le-mul_right d l) (mul-le-mul_right d u)
  where
    go : x * d * e ≡ a * 2 ^ 53 * e → (r + 512 * x) * (d * e) ≡ q * (d * e) → q * e * d ≤ k * p * 2 ^ 61 * d → k * p * 2 ^ 61 * d ≤ (q + 2) * e * d → Within r (g * 2 ^ 62) (2 * d * e) 2
    go b c f i = (omega arith, omega arith)

over_near : (x d a k p e q r g : ℕ) → x * d ≡ a * 2 ^ 53 → r + q ≡ 512 * x → q * e ≤ k * p * 2 ^ 61 → k * p * 2 ^ 61 ≤ (q + 2) * e → 2 * a * e ≡ k * p * d + g → Within r (g * 2 ^ 62) (2 * d * e) 2
over_near x d a k p e q r g h s l u v = go (ap (λ (z : ℕ). z * e) h) (ap (λ (z : ℕ). z * (d * e)) s) (mul-le-mul_right d l) (mul-le-mul_right d u)
  where
    go : x * d * e ≡ a * 2 ^ 53 * e → (r + q) * (d * e) ≡ 512 * x * (d * e) → q * e * d ≤ k * p * 2 ^ 61 * d → k * p * 2 ^ 61 * d ≤ (q + 2) * e * d → Within r (g * 2 ^ 62) (2 * d * e) 2
    go b c f i = (omega arith, omega arith)

under_small : (x d a k p e g : ℕ) → x * d ≡ a * 2 ^ 53 → 2 * k * p * 2 ^ 51 ≤ x * e + p * 2 ^ 51 → 100 * p ≤ 316 * e → k * p * d ≡ 2 * a * e + g → 100 * g ≤ 79 * (2 * d * e)
under_small x d a k p e g h l u v = go (ap (λ (z : ℕ). z * e) h) (mul-le-mul_right d l) (mul-le-mul_right d u)
  where
    go : x * d * e ≡ a * 2 ^ 53 * e → 2 * k * p * 2 ^ 51 * d ≤ (x * e + p * 2 ^ 51) * d → 100 * p * d ≤ 316 * e * d → 100 * g ≤ 79 * (2 * d * e)
    go b c f = omega arith

over_small : (x d a k p e g : ℕ) → x * d ≡ a * 2 ^ 53 → x * e ≤ (2 * k + 1) * p * 2 ^ 51 → 100 * p ≤ 316 * e → 2 * a * e ≡ k * p * d + g → 100 * g ≤ 79 * (2 * d * e)
over_small x d a k p e g h l u v = go (ap (λ (z : ℕ). z * e) h) (mul-le-mul_right d l) (mul-le-mul_right d u)
  where
    go : x * d * e ≡ a * 2 ^ 53 * e → x * e * d ≤ (2 * k + 1) * p * 2 ^ 51 * d → 100 * p * d ≤ 316 * e * d → 100 * g ≤ 79 * (2 * d * e)
    go b c f = omega arith

pub rest_right : (x d a k : ℕ) → 0 < x → 0 < d → x * d ≡ a * 2 ^ 53 → Nearest x k → Rest a d k (leb x (base k)) (rest x k)
unfolding rest
rest_right x d a k X D e n = go (leb x (base k)) (leb→le x (base k)) (nleb→lt x (base k))
  where
    q : ℕ
    q = base k * 512 + part k

    go : (b : Bool) → (T b → x ≤ base k) → (T (not b) → base k < x) → Rest a d k b (cond b ((base k - x) * 512 + part k) ((x - base k) * 512 - part k))
    go true h l =
        let s : Side true a d k = under_side x d a k pi_num pi_den D e (base_lt x k X n.few (h tt)) in
        let w : 2 * a * pi_den ≤ k * pi_num * d = le_of_lt s in
        record {
          side = s;
          near = under_near x d a k pi_num pi_den q ((base k - x) * 512 + part k) (gap true a d k) e (whole (base k) (part k) (h tt)) (q_lo k) (q_hi k n.few) (apart (k * pi_num * d) (2 * a * pi_den) w);
          small = under_small x d a k pi_num pi_den (gap true a d k) e n.least pi_small (apart (k * pi_num * d) (2 * a * pi_den) w);
        }
      where
        whole : (b p : ℕ) → x ≤ b → (b - x) * 512 + p + 512 * x ≡ b * 512 + p
        whole b p h = omega arith
    go false h l =
        let s : Side false a d k = over_side x d a k pi_num pi_den q 0 e (le_trans (le_of_lt (base_hi k n.few)) (mul-le-mul_right pi_den (next (base k) (l tt)))) in
        record {
          side = s;
          near = over_near x d a k pi_num pi_den q ((x - base k) * 512 - part k) (gap false a d k) e (whole (base k) (part k) (part_small k) (l tt)) (q_lo k) (q_hi k n.few) (apart (2 * a * pi_den) (k * pi_num * d) s);
          small = over_small x d a k pi_num pi_den (gap false a d k) e (le_of_lt n.most) pi_small (apart (2 * a * pi_den) (k * pi_num * d) s);
        }
      where
        next : (b : ℕ) → b < x → b + 1 ≤ x
        next b h = omega arith

        whole : (b p : ℕ) → p < 512 → b < x → (x - b) * 512 - p + (b * 512 + p) ≡ 512 * x
        whole b p h l = omega arith

pub side_is : (b : Bool) (a d k : ℕ) → Side b a d k → ltb (2 * a * pi_den) (k * pi_num * d) ≡ b
side_is true a d k h = go (ltb (2 * a * pi_den) (k * pi_num * d)) (lt→ltb (2 * a * pi_den) (k * pi_num * d) h)
  where
    go : (t : Bool) → T t → t ≡ true
    go true u = refl
    go false u = absurd u
side_is false a d k h = go (ltb (2 * a * pi_den) (k * pi_num * d)) (ltb→lt (2 * a * pi_den) (k * pi_num * d))
  where
    go : (t : Bool) → (T t → 2 * a * pi_den < k * pi_num * d) → t ≡ false
    go true u = absurd (not-le_of_lt (u tt) h)
    go false u = refl

-- ---- for the code
pub turns_up : (x : ℕ) → tie (x / 14148475504056880) < x → x / 14148475504056880 + 1 ≡ turns x
unfolding turns
turns_up x h = go (ltb (tie (x / 14148475504056880)) x) (lt→ltb (tie (x / 14148475504056880)) x h)
  where
    go : (b : Bool) → T b → x / 14148475504056880 + 1 ≡ cond b (x / 14148475504056880 + 1) (x / 14148475504056880)
    go true t = refl
    go false t = absurd t

pub turns_same : (x : ℕ) → x ≤ tie (x / 14148475504056880) → x / 14148475504056880 ≡ turns x
unfolding turns
turns_same x h = go (ltb (tie (x / 14148475504056880)) x) (ltb→lt (tie (x / 14148475504056880)) x)
  where
    go : (b : Bool) → (T b → tie (x / 14148475504056880) < x) → x / 14148475504056880 ≡ cond b (x / 14148475504056880 + 1) (x / 14148475504056880)
    go true t = absurd (not-le_of_lt (t tt) h)
    go false t = refl

pi_four : pi_num ≤ 4 * pi_den
unfolding pi_num pi_den
pi_four = lit≤ tt

pub base_near : (x k : ℕ) → Nearest x k → (base k ≤ x + 2 ^ 53) × (x ≤ base k + 2 ^ 53)
base_near x k n = (le_of_mul-le-mul_right {k = pi_den} (lo (base k) pi_num pi_den (base_lo k) n.least pi_four) pi_den_pos, le_of_suc-le-suc (lt_of_mul-lt-mul_right pi_den (hi (base k) pi_num pi_den (base_hi k n.few) n.most pi_four)))
  where
    lo : (b p e : ℕ) → b * e ≤ k * p * 2 ^ 52 → 2 * k * p * 2 ^ 51 ≤ x * e + p * 2 ^ 51 → p ≤ 4 * e → b * e ≤ (x + 2 ^ 53) * e
    lo b p e h l f = omega arith

    hi : (b p e : ℕ) → k * p * 2 ^ 52 < (b + 1) * e → x * e < (2 * k + 1) * p * 2 ^ 51 → p ≤ 4 * e → x * e < suc (b + 2 ^ 53) * e
    hi b p e h l f = omega arith

pub part_lt : (k : ℕ) → part k < 512
part_lt k = part_small k

sum_fits : (a b : ℕ) → a ≤ 2 ^ 63 → b ≤ 2 ^ 59 → a + b < 2 ^ 64
sum_fits a b h k = omega arith

pub base_fits : (k : ℕ) → k ≤ 510 → k * 14148475504056880 + k * 620969700002688 / 1125899906842624 < 2 ^ 64
base_fits k h = sum_fits (k * 14148475504056880) (k * 620969700002688 / 1125899906842624) (le_trans (mul-le-mul_right 14148475504056880 h) (lit≤ tt)) (le_trans (div-le_self (k * 620969700002688) 1125899906842624) (le_trans (mul-le-mul_right 620969700002688 h) (lit≤ tt)))

few_whole : (x : ℕ) → x ≤ 800 * 2 ^ 53 → x / 14148475504056880 ≤ 509
few_whole x h = go (few_turns x (x / 14148475504056880) h (div-mul-le_self x 14148475504056880))
  where
    go : {k : ℕ} → k < 510 → k ≤ 509
    go h = le_of_suc-le-suc h

odd_few : (k : ℕ) → k ≤ 509 → 2 * k + 1 ≤ 1019
odd_few k h = omega arith

pub tie_fits : (x : ℕ) → x ≤ 800 * 2 ^ 53 → (2 * (x / 14148475504056880) + 1) * 7074237752028440 + (2 * (x / 14148475504056880) + 1) * 310484850001344 / 1125899906842624 < 2 ^ 64
tie_fits x h = go (2 * (x / 14148475504056880) + 1) (odd_few (x / 14148475504056880) (few_whole x h))
  where
    go : (o : ℕ) → o ≤ 1019 → o * 7074237752028440 + o * 310484850001344 / 1125899906842624 < 2 ^ 64
    go o l = sum_fits (o * 7074237752028440) (o * 310484850001344 / 1125899906842624) (le_trans (mul-le-mul_right 7074237752028440 l) (lit≤ tt)) (le_trans (div-le_self (o * 310484850001344) 1125899906842624) (le_trans (mul-le-mul_right 310484850001344 l) (lit≤ tt)))

pub one_more_fits : (x : ℕ) → x ≤ 800 * 2 ^ 53 → x / 14148475504056880 + 1 < 2 ^ 64
one_more_fits x h = go (x / 14148475504056880) (few_whole x h)
  where
    go : (k : ℕ) → k ≤ 509 → k + 1 < 2 ^ 64
    go k l = omega arith
