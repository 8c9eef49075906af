-- Square roots of whole numbers, cut to whole numbers: the steps by which the code and the definition find them, that there is one, and that they are in order.
use Rattle.std.proofs.Common.{◌≡◌, ℕ, zero, suc, ◌+◌, ◌-◌, ◌*◌, ◌/◌, ◌%◌, ◌^◌, ◌<◌, ◌≤◌, Bool, true, false, cond, not, T, leb, sym, ap, subst, le_trans, le_of_eq, lt_of_lt_of_le, lt_of_le_of_lt, mul-le-mul_right, mod-lt, mul-le-mul, le_antisymm, lt_of_not-le, div-add-mod', not-le_of_lt, div-mul-le_self, le_of_mul-le-mul_right, arith, lit<, leb→le, pow_pos}
use native.Mathlib.Nat.{pow-succ'}
use lib.Dec.{nleb→lt}
use lib.Ieee.{size}
use lib.Ieee.Digits.{size-lt}
use Rattle.root.specs.Root.{root_digits, whole_root}
use Rattle.root.specs.RootSteps.{WholeRoot}

-- ---- from h / 4 to h
module _ (h q : ℕ) (r : WholeRoot (h / 4) q) where
  quarter_lo : 2 * q * (2 * q) ≤ h
  quarter_lo = go (q * q) r.below (reg q)
    where
      reg : (q : ℕ) → 2 * q * (2 * q) ≡ 4 * (q * q)
      reg q = omega arith

      go : (x : ℕ) → x ≤ h / 4 → 2 * q * (2 * q) ≡ 4 * x → 2 * q * (2 * q) ≤ h
      go x a b = omega arith

  quarter_hi : h < (2 * q + 2) * (2 * q + 2)
  quarter_hi = go ((q + 1) * (q + 1)) r.above (reg q)
    where
      reg : (q : ℕ) → (2 * q + 2) * (2 * q + 2) ≡ 4 * ((q + 1) * (q + 1))
      reg q = omega arith

      go : (x : ℕ) → h / 4 < x → (2 * q + 2) * (2 * q + 2) ≡ 4 * x → h < (2 * q + 2) * (2 * q + 2)
      go x a b = omega arith

  pub step_yes : (2 * q + 1) * (2 * q + 1) ≤ h → WholeRoot h (2 * q + 1)
  step_yes l = record { below = l; above = lt_of_lt_of_le quarter_hi (le_of_eq (reg q)) }
    where
      reg : (q : ℕ) → (2 * q + 2) * (2 * q + 2) ≡ (2 * q + 1 + 1) * (2 * q + 1 + 1)
      reg q = omega arith

  pub step_no : h < (2 * q + 1) * (2 * q + 1) → WholeRoot h (2 * q)
  step_no l = record { below = quarter_lo; above = l }

-- a root is small: of a number below k * k it is below k
pub root_lt : (n s k : ℕ) → WholeRoot n s → n < k * k → s < k
root_lt n s k r h = lt_of_not-le (λ (g : k ≤ s). not-le_of_lt (lt_of_le_of_lt r.below h) (mul-le-mul g g))

pub root_ge : (n s k : ℕ) → WholeRoot n s → k * k ≤ n → k ≤ s
root_ge n s k r h = go (lt_of_not-le (λ (g : s + 1 ≤ k). not-le_of_lt (lt_of_lt_of_le r.above (mul-le-mul g g)) h))
  where
    go : k < s + 1 → k ≤ s
    go l = omega arith

-- ---- one division gives 22 more digits
-- h = s * s + d, d * k = 2 s * q + u, u < 2 s: h * k * k = (s k + q) ^ 2 - q ^ 2 + u k
expand : (h s d k q u : ℕ) → h ≡ s * s + d → d * k ≡ q * (2 * s) + u → h * (k * k) + q * q ≡ (s * k + q) * (s * k + q) + u * k
expand h s d k q u e f =
    let a : h * (k * k) ≡ (s * s + d) * (k * k) = ap (λ (z : ℕ). z * (k * k)) e in
    let b : d * k * k ≡ (q * (2 * s) + u) * k = ap (λ (z : ℕ). z * k) f in
    omega arith

pub more_yes : (h s d k q u : ℕ) → h ≡ s * s + d → d * k ≡ q * (2 * s) + u → u < 2 * s → q * q ≤ u * k → WholeRoot (h * (k * k)) (s * k + q)
more_yes h s d k q u e f l g = record { below = lo (h * (k * k)) (q * q) ((s * k + q) * (s * k + q)) (u * k) (expand h s d k q u e f) g; above = hi (h * (k * k)) (expand h s d k q u e f) (mul-le-mul_right k l) }
  where
    lo : (m x y z : ℕ) → m + x ≡ y + z → x ≤ z → y ≤ m
    lo m x y z e h = omega arith

    hi : (m : ℕ) → m + q * q ≡ (s * k + q) * (s * k + q) + u * k → suc u * k ≤ 2 * s * k → m < (s * k + q + 1) * (s * k + q + 1)
    hi m e h = omega arith

pub more_no : (h s d k q u : ℕ) → h ≡ s * s + d → d * k ≡ q * (2 * s) + u → u * k < q * q → q * q < 2 * (s * k + q) → WholeRoot (h * (k * k)) (s * k + q - 1)
more_no h s d k q u e f l g = go (s * k + q) (expand h s d k q u e f) g
  where
    go : (t : ℕ) → h * (k * k) + q * q ≡ t * t + u * k → q * q < 2 * t → WholeRoot (h * (k * k)) (t - 1)
    go zero a b = absurd (none (q * q) b)
      where
        none : (x : ℕ) → x < 2 * 0 → ⊥
        none x h = omega arith
    go (suc t) a b = record { below = lo (h * (k * k)) (q * q) (u * k) a b; above = hi (h * (k * k)) (q * q) (u * k) a l }
      where
        lo : (m x y : ℕ) → m + x ≡ suc t * suc t + y → x < 2 * suc t → (suc t - 1) * (suc t - 1) ≤ m
        lo m x y e h = le_trans (le_of_eq (ap (λ (z : ℕ). z * z) (one t))) (sum t)
          where
            one : (t : ℕ) → suc t - 1 ≡ t
            one t = omega arith

            sum : (t' : ℕ) → t * t ≤ m
            sum t' = omega arith

        hi : (m x y : ℕ) → m + x ≡ suc t * suc t + y → y < x → m < (suc t - 1 + 1) * (suc t - 1 + 1)
        hi m x y e h = lt_of_lt_of_le sum (le_of_eq (ap (λ (z : ℕ). z * z) (one t)))
          where
            one : (t : ℕ) → suc t ≡ suc t - 1 + 1
            one t = omega arith

            sum : m < suc t * suc t
            sum = omega arith

-- ---- for the code
pub small_root : (h q : ℕ) → h < 2 ^ 64 → WholeRoot (h / 4) q → q < 2 ^ 31
small_root h q l r = root_lt (h / 4) q (2 ^ 31) r (go h l)
  where
    go : (h : ℕ) → h < 2 ^ 64 → h / 4 < 2 ^ 62
    go h l = omega arith

pub small_square_fits : (q : ℕ) → q < 2 ^ 31 → (2 * q + 1) * (2 * q + 1) < 2 ^ 64
small_square_fits q l = lt_of_le_of_lt (mul-le-mul (go q l) (go q l)) (lit< {m = 4294967295 * 4294967295} tt)
  where
    go : (q : ℕ) → q < 2 ^ 31 → 2 * q + 1 ≤ 4294967295
    go q l = omega arith

pub root_zero : (h : ℕ) → h ≡ 0 → WholeRoot h 0
root_zero h e = record { below = le_of_eq (sym e); above = go h e }
  where
    go : (h : ℕ) → h ≡ 0 → h < (0 + 1) * (0 + 1)
    go h e = omega arith

pub falls : (h : ℕ) → ((h ≡ 0) → ⊥) → h / 4 < h
falls h n = omega arith

module _ (h s : ℕ) (l : 2 ^ 62 ≤ h) (b : h < 2 ^ 64) (r : WholeRoot h s) where
  s_lo : 2147483648 ≤ s
  s_lo = root_ge h s 2147483648 r l

  s_hi : s < 4294967296
  s_hi = root_lt h s 4294967296 r b

  pub twice_fits : 2 * s < 2 ^ 64
  twice_fits = omega (arith, s_hi)

  pub twice_pos : 0 < 2 * s
  twice_pos = omega (arith, s_lo)

  d_is : h ≡ s * s + (h - s * s)
  d_is = go (s * s) r.below
    where
      go : (x : ℕ) → x ≤ h → h ≡ x + (h - x)
      go x a = omega arith

  d_le : h - s * s ≤ 2 * s
  d_le = go (s * s) r.below (next s r.above)
    where
      next : (s : ℕ) → h < (s + 1) * (s + 1) → h ≤ s * s + 2 * s
      next s a = omega arith

      go : (x : ℕ) → x ≤ h → h ≤ x + 2 * s → h - x ≤ 2 * s
      go x a c = omega arith

  n_le : (h - s * s) * 4194304 ≤ 4194304 * (2 * s)
  n_le = go (h - s * s) d_le
    where
      go : (d : ℕ) → d ≤ 2 * s → d * 4194304 ≤ 4194304 * (2 * s)
      go d a = omega arith

  pub n_fits : (h - s * s) * 4194304 < 2 ^ 64
  n_fits = lt_of_le_of_lt n_le (go s s_hi)
    where
      go : (s : ℕ) → s < 4294967296 → 4194304 * (2 * s) < 2 ^ 64
      go s a = omega arith

  q : ℕ
  q = (h - s * s) * 4194304 / (2 * s)

  u : ℕ
  u = (h - s * s) * 4194304 % (2 * s)

  divided : (h - s * s) * 4194304 ≡ (h - s * s) * 4194304 / (2 * s) * (2 * s) + (h - s * s) * 4194304 % (2 * s)
  divided = sym (div-add-mod' ((h - s * s) * 4194304) (2 * s))

  pub q_le : (h - s * s) * 4194304 / (2 * s) ≤ 4194304
  q_le = le_of_mul-le-mul_right (le_trans (div-mul-le_self ((h - s * s) * 4194304) (2 * s)) n_le) twice_pos

  u_lt : (h - s * s) * 4194304 % (2 * s) < 2 * s
  u_lt = mod-lt ((h - s * s) * 4194304) twice_pos

  pub t_fits : (q : ℕ) → q ≤ 4194304 → (s * 4194304 < 2 ^ 64) × (s * 4194304 + q < 2 ^ 64) × (q * q < 2 ^ 64) × (0 < s * 4194304 + q) × (q * q < 2 * (s * 4194304 + q))
  t_fits q a = go s (q * q) s_hi s_lo (mul-le-mul a a)
    where
      go : (s x : ℕ) → s < 4294967296 → 2147483648 ≤ s → x ≤ 17592186044416 → (s * 4194304 < 2 ^ 64) × (s * 4194304 + q < 2 ^ 64) × (x < 2 ^ 64) × (0 < s * 4194304 + q) × (x < 2 * (s * 4194304 + q))
      go s x b c d = (omega arith, omega arith, omega arith, omega arith, omega arith)

  pub u_fits : (h - s * s) * 4194304 % (2 * s) * 4194304 < 2 ^ 64
  u_fits = go ((h - s * s) * 4194304 % (2 * s)) u_lt s_hi
    where
      go : (u : ℕ) → u < 2 * s → s < 4294967296 → u * 4194304 < 2 ^ 64
      go u a c = omega arith

  pub answer_yes : (h - s * s) * 4194304 / (2 * s) * ((h - s * s) * 4194304 / (2 * s)) ≤ (h - s * s) * 4194304 % (2 * s) * 4194304 → WholeRoot (h * 2 ^ 44) (s * 4194304 + (h - s * s) * 4194304 / (2 * s))
  answer_yes g = more_yes h s (h - s * s) 4194304 ((h - s * s) * 4194304 / (2 * s)) ((h - s * s) * 4194304 % (2 * s)) d_is divided u_lt g

  pub answer_no : (h - s * s) * 4194304 % (2 * s) * 4194304 < (h - s * s) * 4194304 / (2 * s) * ((h - s * s) * 4194304 / (2 * s)) → WholeRoot (h * 2 ^ 44) (s * 4194304 + (h - s * s) * 4194304 / (2 * s) - 1)
  answer_no g = more_no h s (h - s * s) 4194304 ((h - s * s) * 4194304 / (2 * s)) ((h - s * s) * 4194304 % (2 * s)) d_is divided g (t_fits ((h - s * s) * 4194304 / (2 * s)) q_le).4

-- ---- `whole_root` is the whole root
quarter_lt : (n k : ℕ) → n < 2 ^ suc k * 2 ^ suc k → n / 4 < 2 ^ k * 2 ^ k
quarter_lt n k h = go (2 ^ k) (subst (λ (z : ℕ). n < z * z) (pow-succ' 2 k) h)
  where
    go : (p : ℕ) → n < 2 * p * (2 * p) → n / 4 < p * p
    go p h = last (p * p) (lt_of_lt_of_le h (le_of_eq (flat p)))
      where
        flat : (p : ℕ) → 2 * p * (2 * p) ≡ 4 * (p * p)
        flat p = omega arith

        last : (x : ℕ) → n < 4 * x → n / 4 < x
        last x h = omega arith

digits_root : (k n : ℕ) → n < 2 ^ k * 2 ^ k → WholeRoot n (root_digits k n)
unfolding root_digits
digits_root zero n h = root_zero n (none n h)
  where
    none : (n : ℕ) → n < 1 * 1 → n ≡ 0
    none n h = omega arith
digits_root (suc k) n h = go (root_digits k (n / 4)) (digits_root k (n / 4) (quarter_lt n k h))
  where
    go : (q : ℕ) → WholeRoot (n / 4) q → WholeRoot n (cond (leb ((2 * q + 1) * (2 * q + 1)) n) (2 * q + 1) (2 * q))
    go q r = test (leb ((2 * q + 1) * (2 * q + 1)) n) (leb→le ((2 * q + 1) * (2 * q + 1)) n) (nleb→lt ((2 * q + 1) * (2 * q + 1)) n)
      where
        test : (b : Bool) → (T b → (2 * q + 1) * (2 * q + 1) ≤ n) → (T (not b) → n < (2 * q + 1) * (2 * q + 1)) → WholeRoot n (cond b (2 * q + 1) (2 * q))
        test true x y = step_yes n q r (x tt)
        test false x y = step_no n q r (y tt)

pub whole_root_right : (n : ℕ) → WholeRoot n (whole_root n)
unfolding whole_root
whole_root_right n = digits_root (size n) n (lt_of_lt_of_le (size-lt n) (more (2 ^ size n) (pow_pos (size n))))
  where
    more : (p : ℕ) → 0 < p → p ≤ p * p
    more p h = le_trans (le_of_eq (one p)) (mul-le-mul_right p h)
      where
        one : (p : ℕ) → p ≡ 1 * p
        one p = omega arith

-- there is one
pub root_one : (n s t : ℕ) → WholeRoot n s → WholeRoot n t → s ≡ t
root_one n s t r q = le_antisymm (go s t (root_lt n s (t + 1) r q.above)) (go t s (root_lt n t (s + 1) q r.above))
  where
    go : (a b : ℕ) → a < b + 1 → a ≤ b
    go a b h = omega arith

pub whole_root_is : (n s : ℕ) → WholeRoot n s → whole_root n ≡ s
whole_root_is n s r = root_one n (whole_root n) s (whole_root_right n) r

pub whole_root_mono : (m n : ℕ) → m ≤ n → whole_root m ≤ whole_root n
whole_root_mono m n h = root_ge n (whole_root n) (whole_root m) (whole_root_right n) (le_trans (whole_root_right m).below h)
