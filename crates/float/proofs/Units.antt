-- A finite f64 is a whole number of units of 2 ^ -1074, and that number and the sign are all of it.
use Rattle.std.proofs.Common.{◌≡◌, ℕ, zero, suc, ◌+◌, ◌-◌, ◌*◌, ◌/◌, ◌%◌, ◌^◌, ◌<◌, ◌≤◌, Bool, true, false, cond, not, ◌&&◌, T, eqb, ltb, leb, ◌⊎◌, ℤ, pos, negsuc, sym, refl, ap, ◌∙◌, subst, inl, inr, le_of_eq, lt_of_lt_of_le, lt_of_le_of_lt, lt_of_mul-lt-mul_right, mul-lt-mul_of_pos_right, mul-pos, mul_right_comm, not-le_of_lt, mul-div_cancel, arith, eqb→eq, ltb→lt, leb→le, pow_pos, pow_mono, pow-add}
use lib.Dec.{nleb→lt}
use lib.Pow.{pow-lt}
use lib.Ieee.{Float, nan, inf, fin, binary64, up, down, size, round, fits, to_bits, of_bits, is_nan}
use lib.Ieee.Fits.{and_l, and_r, down_pos, round-fits}
use lib.Ieee.Bits.{of_bits-to_bits}
use lib.Ieee.Exact.{round_exact}
use lib.Ieee.Scale.{finite}
use Rattle.float.proofs.Rounding.{U_pos}
use Rattle.float.specs.Units.{U, Is}

pub le_or_lt : (a b : ℕ) → (a ≤ b) ⊎ (b < a)
le_or_lt a b = go (leb a b) (leb→le a b) (nleb→lt a b)
  where
    go : (t : Bool) → (T t → a ≤ b) → (T (not t) → b < a) → (a ≤ b) ⊎ (b < a)
    go true h k = inl (h tt)
    go false h k = inr (k tt)

-- x has the sign s and is v units: q * 2 ^ j, q of 53 digits at the most
pub record Held (x : Float) : Type 0 where
  pub s : Bool
  pub v : ℕ
  pub q : ℕ
  pub j : ℕ
  pub is : Is x s v
  pub shape : v ≡ q * 2 ^ j
  pub few : q < 2 ^ 53
  pub small : v < 2 ^ 2098

scale_at : (e : ℤ) → down e ≤ 2 ^ 1074 → (j : ℕ) × (down e * 2 ^ j ≡ up e * U)
unfolding U
scale_at (pos k) h = (k + 1074, one (2 ^ (k + 1074)) ∙ pow-add 2 k 1074)
  where
    one : (a : ℕ) → 1 * a ≡ a
    one a = omega arith
scale_at (negsuc k) h = (1074 - suc k, sym (pow-add 2 (suc k) (1074 - suc k)) ∙ ap (λ (z : ℕ). 2 ^ z) (join k (low (le_or_lt (suc k) 1074))) ∙ one (2 ^ 1074))
  where
    one : (a : ℕ) → a ≡ 1 * a
    one a = omega arith

    join : (k : ℕ) → suc k ≤ 1074 → suc k + (1074 - suc k) ≡ 1074
    join k s = omega arith

    low : (suc k ≤ 1074) ⊎ (1074 < suc k) → suc k ≤ 1074
    low (inl g) = g
    low (inr g) = absurd (not-le_of_lt (pow-lt g) h)

record Parts (m : ℕ) (e : ℤ) : Type 0 where
  few : m < 2 ^ 53
  deep : down e ≤ 2 ^ 1074
  high : m * up e < 2 ^ 1024 * down e

parts : (s : Bool) (m : ℕ) (e : ℤ) → T (fits binary64 (fin s m e)) → Parts m e
unfolding fits
parts s zero (pos k) t = record { few = pow_pos 53; deep = pow_pos 1074; high = lt_of_le_of_lt (le_of_eq (none (2 ^ k))) (mul-pos (pow_pos 1024) (pow_pos 0)) }
  where
    none : (p : ℕ) → 0 * p ≡ 0
    none p = omega arith
parts s zero (negsuc k) t = absurd (no (2 ^ suc k) (two k) (eqb→eq (1 * 2 ^ suc k) 1 t))
  where
    two : (k : ℕ) → 2 ≤ 2 ^ suc k
    two k = pow_mono {i = 1} (one k)
      where
        one : (k : ℕ) → 1 ≤ suc k
        one k = omega arith

    no : (p : ℕ) → 2 ≤ p → 1 * p ≡ 1 → ⊥
    no p h e = omega arith
parts s (suc m) e t =
    let a : Bool = eqb (suc m % 2) 1 in
    let b : Bool = ltb (suc m) (2 ^ 53) in
    let c : Bool = leb (down e) (2 ^ 1074) in
    let d : Bool = ltb (suc m * up e) (2 ^ 1024 * down e) in
    record {
      few = ltb→lt (suc m) (2 ^ 53) (and_r a b (and_l (a && b) c (and_l (a && b && c) d t)));
      deep = leb→le (down e) (2 ^ 1074) (and_r (a && b) c (and_l (a && b && c) d t));
      high = ltb→lt (suc m * up e) (2 ^ 1024 * down e) (and_r (a && b && c) d t);
    }

top_is : 2 ^ 1024 * U ≡ 2 ^ 2098
unfolding U
top_is = refl

under_top : (mu d p v u : ℕ) → 0 < u → mu * u ≡ v * d → mu < p * d → v < p * u
under_top mu d p v u P e h = lt_of_mul-lt-mul_right d (lt_of_le_of_lt (le_of_eq (sym e)) (lt_of_lt_of_le (mul-lt-mul_of_pos_right h P) (le_of_eq (mul_right_comm p d u))))

pub held : (x : Float) → T (fits binary64 x) → T (finite x) → Held x
held nan t f = absurd f
held (inf s) t f = absurd f
held (fin s m e) t f =
    let p = parts s m e t in
    let k = scale_at e p.deep in
    let i : m * up e * U ≡ m * 2 ^ k.0 * down e = go m (up e) (down e) (2 ^ k.0) U k.1 in
    record {
      s = s;
      v = m * 2 ^ k.0;
      q = m;
      j = k.0;
      is = (refl, i);
      shape = refl;
      few = p.few;
      small = subst (λ (z : ℕ). m * 2 ^ k.0 < z) top_is (under_top (m * up e) (down e) (2 ^ 1024) (m * 2 ^ k.0) U U_pos i p.high);
    }
  where
    go : (m a d t u : ℕ) → d * t ≡ a * u → m * a * u ≡ m * t * d
    go m a d t u e =
        let f : m * (d * t) ≡ m * (a * u) = ap (λ (z : ℕ). m * z) e in
        omega arith

-- ---- the sign and the number of units are all of it
pub units_div : (mu d v u : ℕ) → 0 < d → mu * u ≡ v * d → mu * u / d ≡ v
units_div mu d v u D e = ap (λ (z : ℕ). z / d) e ∙ mul-div_cancel v D

abbrev pub pattern : Bool → ℕ → ℕ
pattern s v = cond s (2 ^ 63) 0 + (size v - 53) * 2 ^ 52 + v / 2 ^ (size v - 53)

pub bits_of : (x : Float) (s : Bool) (v : ℕ) → Is x s v → to_bits binary64 x ≡ pattern s v
bits_of nan s v h = absurd h
bits_of (inf t) s v h = absurd h
bits_of (fin t m e) s v h = opened ∙ ap (λ (z : Bool). pattern z (m * up e * 2 ^ 1074 / down e)) h.0 ∙ ap (λ (z : ℕ). pattern s z) (units_div (m * up e) (down e) v (2 ^ 1074) (down_pos e) (unfold U in h.1))
  where
    opened : to_bits binary64 (fin t m e) ≡ pattern t (m * up e * 2 ^ 1074 / down e)
    opened = unfold to_bits in refl

pub one_float : (x y : Float) (s : Bool) (v : ℕ) → T (fits binary64 x) → T (fits binary64 y) → Is x s v → Is y s v → x ≡ y
one_float x y s v f g h k =
    sym (of_bits-to_bits binary64 x f) ∙ ap (λ (z : ℕ). of_bits binary64 z) (bits_of x s v h ∙ sym (bits_of y s v k)) ∙ of_bits-to_bits binary64 y g

-- ---- q * 2 ^ j units, q of 53 digits at the most, are rounded to themselves
pub exact_is : (s : Bool) (v q j : ℕ) → v ≡ q * 2 ^ j → q < 2 ^ 53 → v < 2 ^ 2098 → Is (round binary64 s v U) s v
unfolding U
exact_is s v q j e f b = round_exact binary64 s v (2 ^ 1074) q j (pow_pos 1074) f (subst (λ (z : ℕ). z < 2 ^ 2098) e b) (ap (λ (z : ℕ). z * 2 ^ 1074) e)

pub round_self : (x : Float) (f : T (fits binary64 x)) (h : Held x) → x ≡ round binary64 h.s h.v U
round_self x f h = one_float x (round binary64 h.s h.v U) h.s h.v f (round-fits binary64 h.s h.v U) h.is (exact_is h.s h.v h.q h.j h.shape h.few h.small)

-- one number of units
pub one_number : (x : Float) (s t : Bool) (a b : ℕ) → Is x s a → Is x t b → (s ≡ t) × (a ≡ b)
one_number nan s t a b p q = absurd p
one_number (inf r) s t a b p q = absurd p
one_number (fin r m e) s t a b p q = (sym p.0 ∙ q.0, sym (units_div (m * up e) (down e) a U (down_pos e) p.1) ∙ units_div (m * up e) (down e) b U (down_pos e) q.1)

pub is_finite : (x : Float) (s : Bool) (v : ℕ) → Is x s v → T (finite x)
is_finite nan s v h = absurd h
is_finite (inf t) s v h = absurd h
is_finite (fin t m e) s v h = tt

pub number : (x : Float) (s : Bool) (v : ℕ) → Is x s v → is_nan x ≡ false
unfolding is_nan
number nan s v h = absurd h
number (inf t) s v h = absurd h
number (fin t m e) s v h = refl
