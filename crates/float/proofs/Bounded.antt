-- Floats of at most 2 ^ k in size, for k up to 900: sums, differences, products, and quotients by what is not small,
-- have such a bound too. The bounds are generous, so that a law of many roundings is one on exponents; with them a
-- number is shown to be finite. `UpTo` has whole numbers, and loses nothing.
use Rattle.std.proofs.Common.{◌≡◌, ℕ, zero, suc, ◌+◌, ◌*◌, ◌^◌, ◌<◌, ◌≤◌, Bool, true, false, cond, not, T, leb, sym, refl, ap, ◌∙◌, subst, true≢false, le_trans, le_of_eq, lt_of_lt_of_le, le_of_lt, mul-le-mul_right, mul-le-mul, mul-pos, le_of_mul-le-mul_right, arith, lit<, lit≤, leb→le, pow_pos, pow_mono, pow-add}
use lib.Ieee.{Float, nan, inf, fin, binary64, unlike, up, down, round, add, sub, mul, div, neg, le, is_nan, of_bits, fits}
use lib.Ieee.Bits.{is_true, of_bits-fits}
use lib.Ieee.Fits.{round-fits, neg-fits, cond-fits, down_pos}
use lib.Ieee.Order.{round_mono}
use lib.Ieee.Scale.{finite}
use Rattle.float.specs.Units.{U, Is}
use Rattle.float.specs.Helpers.{nought, one, clamp_unit}
use Rattle.float.proofs.Order.{le_left, neg_neg}
use Rattle.float.proofs.Rounding.{W, U-is, U_pos, W-pos, Rounded, mul_is, div_is, mul_rounded, div_rounded}
use Rattle.float.proofs.Signed.{pl, mi, neg_is, round_neg}
use Rattle.float.proofs.SignedError.{NearUnits, add_near}
use Rattle.float.proofs.Sizes.{not_nan_neg}
use Rattle.float.proofs.Units.{Held, held}
use Rattle.float.proofs.UpTo.{UpTo, up_to_finite, up_to_more, up_to_neg, one_is, nought_up_to, units_le}

-- |x| is at most 2 ^ k
abbrev pub Small : ℕ → Float → Type 0
Small k x = UpTo (2 ^ k) x

pub small_finite : (k : ℕ) (x : Float) → Small k x → T (finite x)
small_finite k x X = up_to_finite (2 ^ k) x X

pub finite_small : (k : ℕ) (x : Float) → Small k x → finite x ≡ true
finite_small k x X = is_true (finite x) (small_finite k x X)

pub raise : (k l : ℕ) (x : Float) → k ≤ l → Small k x → Small l x
raise k l x h X = up_to_more (2 ^ k) (2 ^ l) x (pow_mono h) X

pub small_neg : (k : ℕ) (x : Float) → Small k x → Small k (neg x)
small_neg k x X = up_to_neg (2 ^ k) x X

pub nought_small : Small 0 nought
nought_small = up_to_more 0 1 nought (lit≤ tt) nought_up_to

pub one_small : Small 0 one
one_small = record { s = false; v = U; is = one_is; most = once U }
  where
    once : (u : ℕ) → u ≤ 1 * u
    once u = omega arith

-- every finite double
pub held_small : (x : Float) → Held x → Small 1024 x
held_small x h = record { s = h.s; v = h.v; is = h.is; most = le_of_lt (subst (λ (z : ℕ). h.v < z) (sym top_is) h.small) }
  where
    top_is : 2 ^ 1024 * U ≡ 2 ^ 2098
    top_is = unfold U in refl

-- ---- products
power_of : (k n : ℕ) → 2 ^ (k + n) ≡ 2 ^ n * 2 ^ k
power_of k n = pow-add 2 k n ∙ swap (2 ^ k) (2 ^ n)
  where
    swap : (a b : ℕ) → a * b ≡ b * a
    swap a b = omega arith

product_room : (a b p q u w : ℕ) → u ≡ 2 ^ 57 * w → 0 < u → 0 < p * q → a * b ≤ p * u * (q * u) → a * b < 2 ^ 58 * (p * q) * w * u
product_room a b p q u w e U+ P+ h =
    let x : p * q * u * u ≡ p * q * u * (2 ^ 57 * w) = ap (λ (z : ℕ). p * q * u * z) e in
    let y : 0 < p * q * u * u = mul-pos (mul-pos P+ U+) U+ in
    omega arith

product_most : (a b v p q u w : ℕ) → u ≡ 2 ^ 57 * w → 0 < u → a * b ≤ p * u * (q * u) → v * u ≤ a * b + 16 * (p * q) * w * u → v ≤ 2 * (p * q) * u
product_most a b v p q u w e U+ h r = le_of_mul-le-mul_right {k = u} go U+
  where
    go : v * u ≤ 2 * (p * q) * u * u
    go =
        let x : p * q * u * u ≡ p * q * u * (2 ^ 57 * w) = ap (λ (z : ℕ). p * q * u * z) e in
        omega arith

power : (k l n : ℕ) → 2 ^ (k + l + n) ≡ 2 ^ n * (2 ^ k * 2 ^ l)
power k l n = power_of (k + l) n ∙ ap (λ (z : ℕ). 2 ^ n * z) (pow-add 2 k l)

module _ (k l : ℕ) (x y : Float) (h : k + l ≤ 900) (X : Small k x) (Y : Small l y) where
  both_most : X.v * Y.v ≤ 2 ^ k * U * (2 ^ l * U)
  both_most = mul-le-mul X.most Y.most

  room : X.v * Y.v < 2 ^ (54 + (k + l + 4)) * W * U
  room = subst (λ (z : ℕ). X.v * Y.v < z * W * U) (sym same) (product_room X.v Y.v (2 ^ k) (2 ^ l) U W U-is U_pos (mul-pos (pow_pos k) (pow_pos l)) both_most)
    where
      same : 2 ^ (54 + (k + l + 4)) ≡ 2 ^ 58 * (2 ^ k * 2 ^ l)
      same = pow-add 2 54 (k + l + 4) ∙ ap (λ (z : ℕ). 2 ^ 54 * z) (power k l 4) ∙ go (2 ^ k * 2 ^ l)
        where
          go : (a : ℕ) → 2 ^ 54 * (2 ^ 4 * a) ≡ 2 ^ 58 * a
          go a = omega arith

  product : Rounded (mul binary64 x y) (unlike X.s Y.s) (X.v * Y.v) U (2 ^ (k + l + 4) * W)
  product = mul_rounded x y X.s Y.s X.v Y.v (k + l + 4) (omega arith) X.is Y.is room

  pub small_mul : Small (k + l + 1) (mul binary64 x y)
  small_mul = record { s = unlike X.s Y.s; v = product.v; is = product.is; most = subst (λ (z : ℕ). product.v ≤ z * U) (sym (power k l 1)) go }
    where
      near : product.v * U ≤ X.v * Y.v + 16 * (2 ^ k * 2 ^ l) * W * U
      near = subst (λ (z : ℕ). product.v * U ≤ X.v * Y.v + z * W * U) (power k l 4) product.near.0

      go : product.v ≤ 2 * (2 ^ k * 2 ^ l) * U
      go = product_most X.v Y.v product.v (2 ^ k) (2 ^ l) U W U-is U_pos both_most near

-- ---- sums and differences
sum_room : (k : ℕ) → 2 ^ (54 + (k + 1022)) ≡ 4 * (2 ^ k * U)
unfolding U
sum_room k = pow-add 2 54 (k + 1022) ∙ ap (λ (z : ℕ). 2 ^ 54 * z) (pow-add 2 k 1022) ∙ go (2 ^ k) (2 ^ 1022) (2 ^ 1074) refl
  where
    go : (a c d : ℕ) → 2 ^ 54 * c ≡ 4 * d → 2 ^ 54 * (a * c) ≡ 4 * (a * d)
    go a c d e =
        let x : a * (2 ^ 54 * c) ≡ a * (4 * d) = ap (λ (z : ℕ). a * z) e in
        omega arith

sum_error : (k : ℕ) → 2 ^ (k + 1022) ≤ 2 ^ k * U
unfolding U
sum_error k = subst (λ (z : ℕ). 2 ^ (k + 1022) ≤ z) (pow-add 2 k 1074) (pow_mono (omega arith))

-- p - n is that of two numbers of at most B, whatever their signs
apart : (s t : Bool) (a b B : ℕ) → 0 < B → a ≤ B → b ≤ B → pl s a + pl t b < mi s a + mi t b + 4 * B
apart true true a b B P h l = omega arith
apart true false a b B P h l = omega arith
apart false true a b B P h l = omega arith
apart false false a b B P h l = omega arith

under : (s t : Bool) (a b B : ℕ) → 0 < B → a ≤ B → b ≤ B → mi s a + mi t b < pl s a + pl t b + 4 * B
under true true a b B P h l = omega arith
under true false a b B P h l = omega arith
under false true a b B P h l = omega arith
under false false a b B P h l = omega arith

sum_most : (r s t : Bool) (v a b B e : ℕ) → a ≤ B → b ≤ B → e ≤ B → pl s a + pl t b + mi r v ≤ pl r v + (mi s a + mi t b) + e → pl r v + (mi s a + mi t b) ≤ pl s a + pl t b + mi r v + e → v ≤ 4 * B
sum_most true true true v a b B e h l m p q = omega arith
sum_most true true false v a b B e h l m p q = omega arith
sum_most true false true v a b B e h l m p q = omega arith
sum_most true false false v a b B e h l m p q = omega arith
sum_most false true true v a b B e h l m p q = omega arith
sum_most false true false v a b B e h l m p q = omega arith
sum_most false false true v a b B e h l m p q = omega arith
sum_most false false false v a b B e h l m p q = omega arith

module _ (k : ℕ) (x y : Float) (h : k ≤ 900) (X : Small k x) (Y : Small k y) where
  sum : NearUnits (add binary64 x y) (pl X.s X.v + pl Y.s Y.v) (mi X.s X.v + mi Y.s Y.v) (2 ^ (k + 1022))
  sum =
      add_near x y X.s Y.s X.v Y.v (k + 1022) X.is Y.is (omega arith)
      (subst (λ (z : ℕ). pl X.s X.v + pl Y.s Y.v < mi X.s X.v + mi Y.s Y.v + z) (sym (sum_room k)) (apart X.s Y.s X.v Y.v (2 ^ k * U) (mul-pos (pow_pos k) U_pos) X.most Y.most))
      (subst (λ (z : ℕ). mi X.s X.v + mi Y.s Y.v < pl X.s X.v + pl Y.s Y.v + z) (sym (sum_room k)) (under X.s Y.s X.v Y.v (2 ^ k * U) (mul-pos (pow_pos k) U_pos) X.most Y.most))

  pub small_add : Small (k + 2) (add binary64 x y)
  small_add = record { s = sum.s; v = sum.v; is = sum.is; most = subst (λ (z : ℕ). sum.v ≤ z) same (sum_most sum.s X.s Y.s sum.v X.v Y.v (2 ^ k * U) (2 ^ (k + 1022)) X.most Y.most (sum_error k) sum.low sum.high) }
    where
      same : 4 * (2 ^ k * U) ≡ 2 ^ (k + 2) * U
      same = go (2 ^ k) U ∙ ap (λ (z : ℕ). z * U) (sym (power_of k 2))
        where
          go : (a u : ℕ) → 4 * (a * u) ≡ 4 * a * u
          go a u = omega arith

module _ (k : ℕ) (x y : Float) (h : k ≤ 900) (X : Small k x) (Y : Small k y) where
  pub small_sub : Small (k + 2) (sub binary64 x y)
  unfolding sub
  small_sub = small_add k x (neg y) h X (small_neg k y Y)

-- ---- the same to any larger bound
pub times : (k l n : ℕ) (x y : Float) → k + l + 1 ≤ n → n ≤ 900 → Small k x → Small l y → Small n (mul binary64 x y)
times k l n x y h m X Y = raise (k + l + 1) n (mul binary64 x y) h (small_mul k l x y (omega arith) X Y)

pub plus : (k l m n : ℕ) (x y : Float) → k ≤ m → l ≤ m → m + 2 ≤ n → n ≤ 900 → Small k x → Small l y → Small n (add binary64 x y)
plus k l m n x y a b h o X Y = raise (m + 2) n (add binary64 x y) h (small_add m x y (omega arith) (raise k m x a X) (raise l m y b Y))

pub minus : (k l m n : ℕ) (x y : Float) → k ≤ m → l ≤ m → m + 2 ≤ n → n ≤ 900 → Small k x → Small l y → Small n (sub binary64 x y)
minus k l m n x y a b h o X Y = raise (m + 2) n (sub binary64 x y) h (small_sub m x y (omega arith) (raise k m x a X) (raise l m y b Y))

-- ---- quotients by what is at least 2 ^ -30: b units
quotient_room : (a b u w k : ℕ) → u ≡ 2 ^ 57 * w → a ≤ k * u → u ≤ 2 ^ 30 * b → 0 < b → 0 < w → 0 < k → a * u < 2 ^ 54 * (2 ^ 34 * k) * w * b
quotient_room a b u w k e h l B W+ K = lt_of_lt_of_le (go (a * u) (k * u * (2 ^ 30 * b)) (k * b * w) (mul-le-mul h l) (turned k b u w e) (mul-pos (mul-pos K B) W+)) (le_of_eq (same k b w))
  where
    turned : (k b u w : ℕ) → u ≡ 2 ^ 57 * w → k * u * (2 ^ 30 * b) ≡ 2 ^ 87 * (k * b * w)
    turned k b u w e = ap (λ (z : ℕ). k * z * (2 ^ 30 * b)) e ∙ flat k b w
      where
        flat : (k b w : ℕ) → k * (2 ^ 57 * w) * (2 ^ 30 * b) ≡ 2 ^ 87 * (k * b * w)
        flat k b w = omega arith

    go : (x y z : ℕ) → x ≤ y → y ≡ 2 ^ 87 * z → 0 < z → x < 2 ^ 88 * z
    go x y z p q r = omega arith

    same : (k b w : ℕ) → 2 ^ 88 * (k * b * w) ≡ 2 ^ 54 * (2 ^ 34 * k) * w * b
    same k b w = omega arith

quotient_most : (v a b u w k : ℕ) → u ≡ 2 ^ 57 * w → a ≤ k * u → u ≤ 2 ^ 30 * b → 0 < b → v * b ≤ a * u + 2 ^ 34 * k * w * b → v ≤ 2 ^ 31 * k * u
quotient_most v a b u w k e h l B n = le_of_mul-le-mul_right {k = b} (le_trans (go (v * b) (a * u) (k * u * (2 ^ 30 * b)) (k * u * b) (2 ^ 34 * k * w * b) n (mul-le-mul h l) (flat k b u) (small k b u w e)) (le_of_eq (same k b u))) B
  where
    flat : (k b u : ℕ) → k * u * (2 ^ 30 * b) ≡ 2 ^ 30 * (k * u * b)
    flat k b u = omega arith

    small : (k b u w : ℕ) → u ≡ 2 ^ 57 * w → 2 ^ 34 * k * w * b ≤ k * u * b
    small k b u w e = subst (λ (z : ℕ). 2 ^ 34 * k * w * b ≤ k * z * b) (sym e) (less (k * w * b) (le_of_eq (turned k w b)) (le_of_eq (turned' k w b)))
      where
        turned : (k w b : ℕ) → 2 ^ 34 * k * w * b ≡ 2 ^ 34 * (k * w * b)
        turned k w b = omega arith

        turned' : (k w b : ℕ) → 2 ^ 57 * (k * w * b) ≡ k * (2 ^ 57 * w) * b
        turned' k w b = omega arith

        less : (z : ℕ) {x y : ℕ} → x ≤ 2 ^ 34 * z → 2 ^ 57 * z ≤ y → x ≤ y
        less z p q = omega arith

    go : (x y z t d : ℕ) → x ≤ y + d → y ≤ z → z ≡ 2 ^ 30 * t → d ≤ t → x ≤ 2 ^ 31 * t
    go x y z t d p q r s = omega arith

    same : (k b u : ℕ) → 2 ^ 31 * (k * u * b) ≡ 2 ^ 31 * k * u * b
    same k b u = omega arith

long : (b : ℕ) → U ≤ 2 ^ 30 * b → 0 < b
long zero h = absurd (go U U_pos h)
  where
    go : (u : ℕ) → 0 < u → u ≤ 2 ^ 30 * 0 → ⊥
    go u p q = omega arith
long (suc b) h = omega arith

pub small_div : (k n : ℕ) (x y : Float) (t : Bool) (b : ℕ) → k + 31 ≤ n → n ≤ 900 → Small k x → Is y t b → U ≤ 2 ^ 30 * b → Small n (div binary64 x y)
small_div k n x y t b h o X Y l = raise (k + 31) n (div binary64 x y) h (record { s = unlike X.s t; v = R.v; is = R.is; most = subst (λ (z : ℕ). R.v ≤ z * U) (sym (power_of k 31)) most })
  where
    B : 0 < b
    B = long b l

    room : X.v * U < 2 ^ (54 + (k + 34)) * W * b
    room = subst (λ (z : ℕ). X.v * U < z * W * b) (sym (pow-add 2 54 (k + 34) ∙ ap (λ (z : ℕ). 2 ^ 54 * z) (power_of k 34))) (quotient_room X.v b U W (2 ^ k) U-is X.most l B W-pos (pow_pos k))

    R : Rounded (div binary64 x y) (unlike X.s t) (X.v * U) b (2 ^ (k + 34) * W)
    R = div_rounded x y X.s t X.v b (k + 34) (omega arith) B X.is Y room

    most : R.v ≤ 2 ^ 31 * 2 ^ k * U
    most = quotient_most R.v X.v b U W (2 ^ k) U-is X.most l B (subst (λ (z : ℕ). R.v * b ≤ X.v * U + z * W * b) (power_of k 34) R.near.0)

-- ---- a clamped number is at most 1
pub clamp_fits : (x : Float) → T (fits binary64 x) → T (fits binary64 (clamp_unit x))
unfolding clamp_unit
clamp_fits nan f = f
clamp_fits (inf s) f = cond-fits binary64 s (neg one) one (neg-fits binary64 one (of_bits-fits binary64 0x3ff0_0000_0000_0000)) (of_bits-fits binary64 0x3ff0_0000_0000_0000)
clamp_fits (fin s m e) f =
    cond-fits binary64 (leb (m * up e) (down e)) (fin s m e) _ f
    (cond-fits binary64 s (neg one) one (neg-fits binary64 one (of_bits-fits binary64 0x3ff0_0000_0000_0000)) (of_bits-fits binary64 0x3ff0_0000_0000_0000))

one_most : (v u d m : ℕ) → 0 < d → m * u ≡ v * d → m ≤ d → v ≤ 1 * u
one_most v u d m D e h = le_of_mul-le-mul_right {k = d} (go (mul-le-mul_right u h)) D
  where
    go : m * u ≤ d * u → v * d ≤ 1 * u * d
    go l = omega arith

pub clamp_small : (x : Float) → T (fits binary64 x) → is_nan x ≡ false → Small 0 (clamp_unit x)
unfolding clamp_unit
clamp_small nan f h = absurd (true≢false (unfold is_nan in h))
clamp_small (inf true) f h = small_neg 0 one one_small
clamp_small (inf false) f h = one_small
clamp_small (fin s m e) f h = go (leb (m * up e) (down e)) refl s
  where
    go : (b : Bool) → leb (m * up e) (down e) ≡ b → (t : Bool) → Small 0 (cond b (fin s m e) (cond t (neg one) one))
    go true p t = let k = held (fin s m e) f tt in record { s = k.s; v = k.v; is = k.is; most = one_most k.v U (down e) (m * up e) (down_pos e) k.is.1 (leb→le (m * up e) (down e) (subst T (sym p) tt)) }
    go false p true = small_neg 0 one one_small
    go false p false = one_small

plus_number : (a c : ℕ) → 0 < c → is_nan (round binary64 false a c) ≡ false
plus_number a c C = le_left (round binary64 false a c) (round binary64 false a c) (is_true _ (round_mono binary64 a c a c C C (le_of_eq refl)))

rounded_number : (s : Bool) (a c : ℕ) → 0 < c → is_nan (round binary64 s a c) ≡ false
rounded_number false a c C = plus_number a c C
rounded_number true a c C = subst (λ (z : Float). is_nan z ≡ false) (sym (round_neg a c)) (not_nan_neg (round binary64 false a c) (plus_number a c C))

-- by what is not zero
pub clamped_quotient : (k : ℕ) (x y : Float) (t : Bool) (b : ℕ) → Small k x → Is y t b → 0 < b → Small 0 (clamp_unit (div binary64 x y))
clamped_quotient k x y t b X Y B =
    let e = div_is x y X.s t X.v b X.is Y B in
    clamp_small (div binary64 x y) (subst (λ (z : Float). T (fits binary64 z)) (sym e) (round-fits binary64 (unlike X.s t) (X.v * U) (U * b)))
    (subst (λ (z : Float). is_nan z ≡ false) (sym e) (rounded_number (unlike X.s t) (X.v * U) (U * b) (mul-pos U_pos B)))

pub clamp_finite : (x : Float) → finite x ≡ true → finite (clamp_unit x) ≡ true
unfolding clamp_unit neg of_bits
clamp_finite nan h = h
clamp_finite (inf true) h = refl
clamp_finite (inf false) h = refl
clamp_finite (fin s m e) h = go (leb (m * up e) (down e)) s
  where
    go : (b s : Bool) → finite (cond b (fin s m e) (cond s (neg one) one)) ≡ true
    go true s = refl
    go false true = unfold neg of_bits in refl
    go false false = unfold of_bits in refl

-- ---- the least number above zero, one unit
abbrev pub least : Float
least = round binary64 false 1 U

pub least_is : Is least false 1
unfolding round U
least_is = (refl, refl)

-- a product of at least 2 ^ -537 with at least 2 ^ -30 is not zero
pub product_apart : (k l n : ℕ) (x y : Float) (X : Small k x) (Y : Small l y) (Z : Small n (mul binary64 x y)) → 2 ^ 537 ≤ X.v → U ≤ 2 ^ 30 * Y.v → 0 < Z.v
product_apart k l n x y X Y Z p q = go (unlike X.s Y.s) (mul_is x y X.s Y.s X.v Y.v X.is Y.is)
  where
    enough : (a b u : ℕ) → 2 ^ 537 ≤ a → u ≤ 2 ^ 30 * b → 1 * (u * u) ≤ a * b * u
    enough a b u p q =
        let l = mul-le-mul_right u (mul-le-mul p q) in
        le_trans (large u) (le_of_mul-le-mul_right {k = 2 ^ 30} (le_trans (le_of_eq (turned u)) (le_trans l (le_of_eq (turned' a b u)))) (lit< tt))
      where
        large : (u : ℕ) → 1 * (u * u) ≤ 2 ^ 507 * (u * u)
        large u = mul-le-mul_right (u * u) (lit≤ tt)

        turned : (u : ℕ) → 2 ^ 507 * (u * u) * 2 ^ 30 ≡ 2 ^ 537 * u * u
        turned u = flat (2 ^ 507) (2 ^ 30) (2 ^ 537) u refl
          where
            flat : (a b c u : ℕ) → a * b ≡ c → a * (u * u) * b ≡ c * u * u
            flat a b c u e = plain a b u ∙ ap (λ (z : ℕ). z * u * u) e
              where
                plain : (a b u : ℕ) → a * (u * u) * b ≡ a * b * u * u
                plain a b u = omega arith

        turned' : (a b u : ℕ) → a * (2 ^ 30 * b) * u ≡ a * b * u * 2 ^ 30
        turned' a b u = omega arith

    large : le least (round binary64 false (X.v * Y.v) (U * U)) ≡ true
    large = is_true _ (round_mono binary64 1 U (X.v * Y.v) (U * U) U_pos (mul-pos U_pos U_pos) (enough X.v Y.v U p q))

    go : (s : Bool) → mul binary64 x y ≡ round binary64 s (X.v * Y.v) (U * U) → 0 < Z.v
    go false e = units_le least (mul binary64 x y) Z.s 1 Z.v least_is Z.is (subst (λ (z : Float). le least z ≡ true) (sym e) large)
    go true e =
        units_le least (neg (mul binary64 x y)) (not Z.s) 1 Z.v least_is (neg_is (mul binary64 x y) Z.s Z.v Z.is)
        (subst (λ (z : Float). le least z ≡ true) (sym (ap neg (e ∙ round_neg _ _) ∙ neg_neg _)) large)
