-- Floats of at most a whole number n in size, below 2 ^ 53: sums, differences, products and the whole numbers nearest
-- to them stay within what their operands allow. Rounding does not pass a whole number, so nothing is added for errors.
-- `Bounded` has the same for powers of two of any size.
use Rattle.std.proofs.Common.{◌≡◌, ℕ, suc, ◌+◌, ◌*◌, ◌%◌, ◌^◌, ◌<◌, ◌≤◌, Bool, true, false, not, T, sym, refl, ap, ◌∙◌, subst, le_trans, le_of_eq, lt_of_lt_of_le, lt_of_le_of_lt, mul-le-mul_right, mod-lt, div-lt_iff_lt-mul, mul-le-mul, mul-lt-mul_of_pos_right, mul-pos, div-add-mod', le_of_mul-le-mul_right, arith, lit<, lit≤, pow_pos}
use mathlib.Core.Bool.{false≢true}
use lib.Ieee.{Float, nan, inf, fin, binary64, unlike, up, down, round, add, sub, mul, neg, le, lt, eq, fits, of_bits}
use lib.Ieee.Bits.{is_true}
use lib.Ieee.Order.{round_mono}
use lib.Ieee.Scale.{finite, round_same}
use Rattle.float.proofs.Rounding.{U_pos, round_near, mul_is}
use Rattle.float.proofs.Signed.{pl, mi, Rnd, rnd_add, round_neg, neg_is, le_val, val_le}
use Rattle.float.proofs.Sizes.{size_is}
use Rattle.float.proofs.Whole.{whole_units}
use Rattle.float.proofs.Units.{held, exact_is, is_finite}
use Rattle.float.proofs.Zeros.{nought_is}
use Rattle.float.specs.Units.{U, Is}
use Rattle.float.specs.Helpers.{nought, one, size_of, round_half_away, nearest_whole}

-- ---- order and units
-- what is not below a number that is not negative has as many units, or more
pub units_le : (x y : Float) (t : Bool) (a b : ℕ) → Is x false a → Is y t b → le x y ≡ true → a ≤ b
units_le x y t a b i j h = go t (val_le x y false t a b i j h)
  where
    go : (t : Bool) → a + mi t b ≤ pl t b + 0 → a ≤ b
    go true h = omega arith
    go false h = omega arith

pub le_of_units : (x y : Float) (s : Bool) (a b : ℕ) → Is x s a → Is y false b → a ≤ b → le x y ≡ true
le_of_units x y s a b i j h = le_val x y s false a b i j (go s)
  where
    go : (s : Bool) → pl s a + 0 ≤ b + mi s a
    go true = omega arith
    go false = omega arith

pub one_is : Is one false U
unfolding of_bits U
one_is = (refl, refl)

-- |x| is at most n
pub record UpTo (n : ℕ) (x : Float) : Type 0 where
  pub s : Bool
  pub v : ℕ
  pub is : Is x s v
  pub most : v ≤ n * U

pub nought_up_to : UpTo 0 nought
nought_up_to = record { s = false; v = 0; is = nought_is; most = zero_le (0 * U) }
  where
    zero_le : (a : ℕ) → 0 ≤ a
    zero_le a = omega arith

pub up_to_finite : (n : ℕ) (x : Float) → UpTo n x → T (finite x)
up_to_finite n x X = is_finite x X.s X.v X.is

pub up_to_more : (n m : ℕ) (x : Float) → n ≤ m → UpTo n x → UpTo m x
up_to_more n m x h X = record { s = X.s; v = X.v; is = X.is; most = le_trans X.most (mul-le-mul_right U h) }

pub up_to_neg : (n : ℕ) (x : Float) → UpTo n x → UpTo n (neg x)
up_to_neg n x X = record { s = not X.s; v = X.v; is = neg_is x X.s X.v X.is; most = X.most }

-- ---- a whole number below 2 ^ 53 is a double, and no fraction up to it is rounded past it
whole_room : (n : ℕ) → n < 2 ^ 53 → n * U < 2 ^ 1127
unfolding U
whole_room n h = lt_of_lt_of_le (mul-lt-mul_of_pos_right h (pow_pos 1074)) (lit≤ tt)

pub whole_is : (s : Bool) (n : ℕ) → n < 2 ^ 53 → Is (round binary64 s (n * U) U) s (n * U)
whole_is s n h = exact_is s (n * U) n 1074 (same n) h (lt_of_lt_of_le (whole_room n h) (lit≤ tt))
  where
    same : (n : ℕ) → n * U ≡ n * 2 ^ 1074
    same n = ap (λ (z : ℕ). n * z) (unit_is)
      where
        unit_is : U ≡ 2 ^ 1074
        unit_is = unfold U in refl

room : (n v k u B : ℕ) → n * u < B → 0 < k → v ≤ n * k → v * u < B * k
room n v k u B h K l = lt_of_le_of_lt (le_trans (mul-le-mul_right u l) (le_of_eq (turned n k u))) (mul-lt-mul_of_pos_right h K)
  where
    turned : (n k u : ℕ) → n * k * u ≡ n * u * k
    turned n k u = omega arith

scaled : (n v k u : ℕ) → v ≤ n * k → v * u ≤ n * u * k
scaled n v k u l = le_trans (mul-le-mul_right u l) (le_of_eq (turned n k u))
  where
    turned : (n k u : ℕ) → n * k * u ≡ n * u * k
    turned n k u = omega arith

round_up_to : (n v k : ℕ) → n < 2 ^ 53 → 0 < k → v ≤ n * k → UpTo n (round binary64 false v k)
round_up_to n v k h K l =
    let R = round_near false v k 1100 K (lit≤ tt) (room n v k U (2 ^ 1154) (lt_of_lt_of_le (whole_room n h) (lit≤ tt)) K l) in
    let m = is_true _ (round_mono binary64 v k (n * U) U K U_pos (scaled n v k U l)) in
    record { s = false; v = R.v; is = R.is; most = units_le (round binary64 false v k) (round binary64 false (n * U) U) false R.v (n * U) R.is (whole_is false n h) m }

pub signed_up_to : (s : Bool) (n v k : ℕ) → n < 2 ^ 53 → 0 < k → v ≤ n * k → UpTo n (round binary64 s v k)
signed_up_to false n v k h K l = round_up_to n v k h K l
signed_up_to true n v k h K l = subst (UpTo n) (sym (round_neg v k)) (up_to_neg n (round binary64 false v k) (round_up_to n v k h K l))

-- ---- of an exact result (p - n) / c
positive_part : (v k p n c N : ℕ) → v * c + n * k ≡ p * k + 0 * c → p * k ≤ (n + N * c) * k → v * c ≤ N * k * c
positive_part v k p n c N e h = omega arith

negative_part : (v k p n c N : ℕ) → 0 * c + n * k ≡ p * k + v * c → n * k ≤ (p + N * c) * k → v * c ≤ N * k * c
negative_part v k p n c N e h = omega arith

exact_part : (s : Bool) (v k p n c N : ℕ) → 0 < c → pl s v * c + n * k ≡ p * k + mi s v * c → p ≤ n + N * c → n ≤ p + N * c → v ≤ N * k
exact_part false v k p n c N C e a b = le_of_mul-le-mul_right {k = c} (positive_part v k p n c N e (mul-le-mul_right k a)) C
exact_part true v k p n c N C e a b = le_of_mul-le-mul_right {k = c} (negative_part v k p n c N e (mul-le-mul_right k b)) C

pub rnd_up_to : (z : Float) (p n c N : ℕ) → 0 < c → N < 2 ^ 53 → Rnd z p n c → p ≤ n + N * c → n ≤ p + N * c → UpTo N z
rnd_up_to z p n c N C h r a b =
    subst (UpTo N) (sym r.is) (signed_up_to r.s N r.v r.k h r.k_pos (exact_part r.s r.v r.k p n c N C r.same a b))

-- ---- sums and differences
sides : (s t : Bool) (a b n m u : ℕ) → a ≤ n * u → b ≤ m * u → (pl s a + pl t b ≤ mi s a + mi t b + (n + m) * u) × (mi s a + mi t b ≤ pl s a + pl t b + (n + m) * u)
sides true true a b n m u h l = (omega arith, omega arith)
sides true false a b n m u h l = (omega arith, omega arith)
sides false true a b n m u h l = (omega arith, omega arith)
sides false false a b n m u h l = (omega arith, omega arith)

module _ (n m : ℕ) (x y : Float) (h : n + m < 2 ^ 53) (X : UpTo n x) (Y : UpTo m y) where
  pub up_to_add : UpTo (n + m) (add binary64 x y)
  up_to_add =
      let w = sides X.s Y.s X.v Y.v n m U X.most Y.most in
      rnd_up_to (add binary64 x y) _ _ U (n + m) U_pos h (rnd_add x y X.s Y.s X.v Y.v X.is Y.is) w.0 w.1

module _ (n m : ℕ) (x y : Float) (h : n + m < 2 ^ 53) (X : UpTo n x) (Y : UpTo m y) where
  pub up_to_sub : UpTo (n + m) (sub binary64 x y)
  unfolding sub
  up_to_sub = up_to_add n m x (neg y) h X (up_to_neg m y Y)

-- ---- products
products : (n m u : ℕ) → n * u * (m * u) ≡ n * m * (u * u)
products n m u = omega arith

pub up_to_mul : (n m : ℕ) (x y : Float) → n * m < 2 ^ 53 → UpTo n x → UpTo m y → UpTo (n * m) (mul binary64 x y)
up_to_mul n m x y h X Y =
    subst (UpTo (n * m)) (sym (mul_is x y X.s Y.s X.v Y.v X.is Y.is))
    (signed_up_to (unlike X.s Y.s) (n * m) (X.v * Y.v) (U * U) h (mul-pos U_pos U_pos) (le_trans (mul-le-mul X.most Y.most) (le_of_eq (products n m U))))

-- ---- the nearest whole number
near_whole : (a d n : ℕ) → 0 < d → a ≤ n * d → nearest_whole a d ≤ n
near_whole a d n D h = one_less ((div-lt_iff_lt-mul (mul-pos (lit< tt) D)).1 (go (mul-pos (lit< tt) D)))
  where
    go : 0 < 2 * d → 2 * a + d < suc n * (2 * d)
    go p = omega arith

    one_less : {m : ℕ} → m < suc n → m ≤ n
    one_less l = omega arith

half_near : (v u : ℕ) → 0 < u → (2 * (nearest_whole v u * u) ≤ 2 * v + u) × (2 * v ≤ 2 * (nearest_whole v u * u) + u)
half_near v u P = go (nearest_whole v u) ((2 * v + u) % (2 * u)) (div-add-mod' (2 * v + u) (2 * u)) (mod-lt (2 * v + u) (mul-pos (lit< tt) P))
  where
    go : (N r : ℕ) → N * (2 * u) + r ≡ 2 * v + u → r < 2 * u → (2 * (N * u) ≤ 2 * v + u) × (2 * v ≤ 2 * (N * u) + u)
    go N r e l = (omega arith, omega arith)

-- x is v units with the sign s: the whole number N that is nearest to it has its sign, and is no larger than a whole
-- number n that x does not pass
pub record Rounds (x : Float) (s : Bool) (v n : ℕ) : Type 0 where
  pub N : ℕ
  pub is : Is (round_half_away x) s (N * U)
  pub most : N ≤ n
  pub low : 2 * (N * U) ≤ 2 * v + U
  pub high : 2 * v ≤ 2 * (N * U) + U

whole_same : (N u : ℕ) → N * u * 1 ≡ N * u
whole_same N u = omega arith

pub rounds : (n : ℕ) (x : Float) → n < 2 ^ 53 → (X : UpTo n x) → Rounds x X.s X.v n
rounds n nan h X = absurd X.is
rounds n (inf s) h X = absurd X.is
rounds n (fin s m e) h X = record {
  N = nearest_whole X.v U;
  is = subst (λ (z : Float). Is z X.s (nearest_whole X.v U * U)) (sym answer) (whole_is X.s (nearest_whole X.v U) (lt_of_le_of_lt (near_whole X.v U n U_pos X.most) h));
  most = near_whole X.v U n U_pos X.most;
  low = (half_near X.v U U_pos).0;
  high = (half_near X.v U U_pos).1;
}
  where
    opened : round_half_away (fin s m e) ≡ round binary64 s (nearest_whole (m * up e) (down e)) 1
    opened = unfold round_half_away in refl

    answer : round_half_away (fin s m e) ≡ round binary64 X.s (nearest_whole X.v U * U) U
    answer =
        opened ∙ ap (λ (z : Bool). round binary64 z (nearest_whole (m * up e) (down e)) 1) X.is.0 ∙ ap (λ (z : ℕ). round binary64 X.s z 1) (whole_units m e X.v X.is.1)
        ∙ round_same binary64 X.s (nearest_whole X.v U) 1 (nearest_whole X.v U * U) U (lit< tt) U_pos (sym (whole_same (nearest_whole X.v U) U))

-- ---- a whole number times a whole number, exactly
pub whole_mul : (x y : Float) (s t : Bool) (n m : ℕ) → n * m < 2 ^ 53 → Is x s (n * U) → Is y t (m * U) → Is (mul binary64 x y) (unlike s t) (n * m * U)
whole_mul x y s t n m h X Y =
    subst (λ (z : Float). Is z (unlike s t) (n * m * U))
    (round_same binary64 (unlike s t) (n * m * U) U (n * U * (m * U)) (U * U) U_pos (mul-pos U_pos U_pos) (crossed n m U) ∙ sym (mul_is x y s t (n * U) (m * U) X Y))
    (whole_is (unlike s t) (n * m) h)
  where
    crossed : (n m u : ℕ) → n * m * u * (u * u) ≡ n * u * (m * u) * u
    crossed n m u = omega arith

-- ---- by `le`: the bound c is the whole number n
module _ (n : ℕ) (c : Float) (C : Is c false (n * U)) where
  pub up_to_le : (x : Float) → UpTo n x → (le (neg c) x ≡ true) × (le x c ≡ true)
  up_to_le x X = (
    le_val (neg c) x true X.s (n * U) X.v (neg_is c false (n * U) C) X.is (under X.s X.v (n * U) X.most),
    le_of_units x c X.s X.v (n * U) X.is C X.most,
  )
    where
      under : (s : Bool) (v b : ℕ) → v ≤ b → 0 + mi s v ≤ pl s v + b
      under true v b h = omega arith
      under false v b h = omega arith

  -- a number whose value is known
  pub size_up_to : (x : Float) (s : Bool) (v : ℕ) → Is x s v → le (size_of x) c ≡ true → UpTo n x
  size_up_to x s v i h = record { s = s; v = v; is = i; most = units_le (size_of x) c false v (n * U) (size_is x s v i) C h }

  pub size_finite : (x : Float) → le (size_of x) c ≡ true → T (finite x)
  size_finite nan h = absurd (false≢true (sym (nan_left c) ∙ h))
    where
      nan_left : (c : Float) → le (size_of nan) c ≡ false
      nan_left c = unfold le in unfold size_of in unfold lt in unfold eq in refl
  size_finite (inf s) h = inf_left c C h
    where
      inf_left : (c : Float) → Is c false (n * U) → le (size_of (inf s)) c ≡ true → ⊥
      inf_left nan i h = i
      inf_left (inf t) i h = i
      inf_left (fin t m e) i h = false≢true (unfold le in unfold size_of in unfold lt in unfold eq in h)
  size_finite (fin s m e) h = tt

  -- a double
  pub double_up_to : (x : Float) → T (fits binary64 x) → le (size_of x) c ≡ true → UpTo n x
  double_up_to x f h = let k = held x f (size_finite x h) in size_up_to x k.s k.v k.is h
