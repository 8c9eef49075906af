-- From a float to a whole number of 2 ^ -53, and from a whole number of 2 ^ -62 back to a float. Assumes nothing.
use Rattle.std.proofs.Common.{◌≡◌, ℕ, zero, suc, ◌+◌, ◌-◌, ◌*◌, ◌/◌, ◌%◌, ◌^◌, ◌<◌, ◌≤◌, min, Bool, true, false, cond, ◌&&◌, T, eqb, ltb, leb, ◌⊎◌, ℤ, pos, negsuc, sym, refl, ap, ◌∙◌, subst, inl, inr, true≢false, le_trans, le_of_eq, lt_of_le_of_lt, mul-le-mul_right, mul_assoc, mul-lt-mul_of_pos_right, mul-pos, not-le_of_lt, le_of_mul-le-mul_right, mul-div_cancel, arith, lit<, lit≤, eqb→eq, ltb→lt, lt→ltb, leb→le, pow_pos, pow_mono, pow-add}
use lib.Pow.{pow-lt}
use lib.Ieee.{Float, nan, inf, fin, binary64, up, down, mul, of_int, to_unsigned, lt, fits}
use lib.Ieee.Fits.{and_l, and_r, down_pos}
use lib.Ieee.Exact.{HasValue, round_exact}
use lib.Ieee.Scale.{round_same}
use Rattle.float.proofs.Rounding.{Within}
use Rattle.float.proofs.Units.{le_or_lt}
use Rattle.float.specs.Units.{U, Is}
use Rattle.float.proofs.Rounding.{W, U-is, U_pos, W-pos, Rounded, mul_rounded, round_rounded}
use Rattle.trig.specs.Reduction.{rest_float}

-- ---- a whole number of 2 ^ -62 as a float
unfoldable pub Y : ℕ
Y = 2 ^ 1012

Y-is : U ≡ 2 ^ 62 * Y
unfolding U Y
Y-is = refl

Y-pos : 0 < Y
unfolding Y
Y-pos = pow_pos 1012

tiny_is : Is (fin false 1 (negsuc 61)) false Y
tiny_is = (refl, go U Y Y-is)
  where
    go : (u y : ℕ) → u ≡ 2 ^ 62 * y → 1 * 1 * u ≡ y * 2 ^ 62
    go u y e = omega arith

size_of : (t r rn rd : ℕ) → 200 ≤ t → r * rd ≤ rn * t + 2 * rd → 100 * rn ≤ 79 * rd → 100 * r * rd ≤ 80 * t * rd
size_of t r rn rd b h s = go (mul-le-mul_right t s) (mul-le-mul_right rd b)
  where
    go : 100 * rn * t ≤ 79 * rd * t → 200 * rd ≤ t * rd → 100 * r * rd ≤ 80 * t * rd
    go a c = omega arith

below_of : (t v r u w : ℕ) → 2000 ≤ t → u ≡ 2 ^ 57 * w → 0 < u → v * 1 ≤ r * u + 2 ^ 65 * w * 1 → 100 * r * u ≤ 80 * t * u → v < t * u
below_of t v r u w b e p h l = go (mul-le-mul_right u b) (part h)
  where
    part : v * 1 ≤ r * u + 2 ^ 65 * w * 1 → v ≤ r * u + 256 * u
    part h = omega (arith, e)

    go : 2000 * u ≤ t * u → v ≤ r * u + 256 * u → v < t * u
    go a c = small (r * u) (t * u) a c (regroup l)
      where
        regroup : 100 * r * u ≤ 80 * t * u → 100 * (r * u) ≤ 80 * (t * u)
        regroup l = omega arith

        small : (x y : ℕ) → 2000 * u ≤ y → v ≤ x + 256 * u → 100 * x ≤ 80 * y → v < y
        small x y a c l = omega arith

module _ (r rn rd : ℕ) (P : 0 < rd) (near : Within r (rn * 2 ^ 62) rd 2) (small : 100 * rn ≤ 79 * rd) where
  r_size : 100 * r ≤ 80 * 2 ^ 62
  r_size = le_of_mul-le-mul_right {k = rd} (size_of (2 ^ 62) r rn rd (lit≤ tt) near.0 small) P

  int_fits : r * U < 2 ^ 119 * W * 1
  int_fits = go U W U-is W-pos (mul-le-mul_right W r_size)
    where
      go : (u w : ℕ) → u ≡ 2 ^ 57 * w → 0 < w → 100 * r * w ≤ 80 * 2 ^ 62 * w → r * u < 2 ^ 119 * w * 1
      go u w e p h =
          let a : r * u ≡ r * (2 ^ 57 * w) = ap (λ (z : ℕ). r * z) e in
          omega arith

  int : Rounded (of_int binary64 (pos r)) false (r * U) 1 (2 ^ 65 * W)
  int = unfold of_int in round_rounded false r 1 65 (lit< tt) (lit≤ tt) int_fits

  mul_fits : int.v * Y < 2 ^ 57 * W * U
  mul_fits = go int.v U W Y U-is Y-is U_pos Y-pos (mul-le-mul_right U r_size) int.near.0
    where
      go : (v u w y : ℕ) → u ≡ 2 ^ 57 * w → u ≡ 2 ^ 62 * y → 0 < u → 0 < y → 100 * r * u ≤ 80 * 2 ^ 62 * u → v * 1 ≤ r * u + 2 ^ 65 * w * 1 → v * y < 2 ^ 57 * w * u
      go v u w y e f o q h l =
          let a : v < 2 ^ 62 * u = below_of (2 ^ 62) v r u w (lit≤ tt) e o l h in
          sum (mul-lt-mul_of_pos_right a q) (ap (λ (z : ℕ). z * u) e) (ap (λ (z : ℕ). u * z) f)
        where
          sum : v * y < 2 ^ 62 * u * y → u * u ≡ 2 ^ 57 * w * u → u * u ≡ u * (2 ^ 62 * y) → v * y < 2 ^ 57 * w * u
          sum a b c = omega arith

  float : Rounded (rest_float r) false (int.v * Y) U (8 * W)
  float = unfold rest_float in mul_rounded (of_int binary64 (pos r)) (fin false 1 (negsuc 61)) false false int.v Y 3 (lit≤ tt) int.is tiny_is mul_fits

  -- |float - r * 2 ^ -62| ≤ 16 W
  both : (f v u w y : ℕ) → 0 < u → u ≡ 2 ^ 62 * y → Within f (v * y) u (8 * w) → Within v (r * u) 1 (2 ^ 65 * w) → (2 ^ 62 * f ≤ r * u + 2 ^ 66 * w) × (r * u ≤ 2 ^ 62 * f + 2 ^ 66 * w)
  both f v u w y P e h l =
      let a : u * v ≡ 2 ^ 62 * y * v = ap (λ (z : ℕ). z * v) e in
      let b : 2 ^ 62 * f ≤ v + 2 ^ 65 * w = le_of_mul-le-mul_right {k = u} (omega arith) P in
      let c : v ≤ 2 ^ 62 * f + 2 ^ 65 * w = le_of_mul-le-mul_right {k = u} (omega arith) P in
      (omega arith, omega arith)

  pub small_near : Rounded (rest_float r) false (rn * U) rd (24 * W)
  small_near = record { v = float.v; is = float.is; near = go float.v U W U-is (both float.v int.v U W Y U_pos Y-is float.near int.near) }
    where
      go : (f u w : ℕ) → u ≡ 2 ^ 57 * w → (2 ^ 62 * f ≤ r * u + 2 ^ 66 * w) × (r * u ≤ 2 ^ 62 * f + 2 ^ 66 * w) → Within f (rn * u) rd (24 * w)
      go f u w e h = sums (mul-le-mul_right rd h.0) (mul-le-mul_right rd h.1) (mul-le-mul_right u near.0) (mul-le-mul_right u near.1) (ap (λ (z : ℕ). z * rd) e)
        where
          sums : 2 ^ 62 * f * rd ≤ (r * u + 2 ^ 66 * w) * rd → r * u * rd ≤ (2 ^ 62 * f + 2 ^ 66 * w) * rd → r * rd * u ≤ (rn * 2 ^ 62 + 2 * rd) * u → rn * 2 ^ 62 * u ≤ (r * rd + 2 * rd) * u → u * rd ≡ 2 ^ 57 * w * rd → Within f (rn * u) rd (24 * w)
          sums a b c d e = (omega arith, omega arith)

-- ---- a float that is a whole number x
pub whole_is : (y : Float) (x : ℕ) → HasValue y false x 1 → x < 2 ^ 64 → to_unsigned 64 y ≡ x
unfolding to_unsigned
whole_is nan x h l = absurd h
whole_is (inf s) x h l = absurd h
whole_is (fin s n d) x h l =
    ap (λ (t : Bool). cond t 0 (min (n * up d / down d) (2 ^ 64 - 1))) h.0
    ∙ ap (λ (z : ℕ). min z (2 ^ 64 - 1)) (ap (λ (z : ℕ). z / down d) (one (n * up d) (x * down d) h.1) ∙ mul-div_cancel x (down_pos d))
    ∙ capped x l
  where
    one : (a b : ℕ) → a * 1 ≡ b → a ≡ b
    one a b e = omega arith

    capped : (x : ℕ) → x < 2 ^ 64 → min x (2 ^ 64 - 1) ≡ x
    capped x l = omega arith

pub whole_low : (y : Float) (x : ℕ) → HasValue y false x 1 → T (lt (fin true 1 (pos 0)) y)
unfolding lt
whole_low nan x h = absurd h
whole_low (inf s) x h = absurd h
whole_low (fin true n d) x h = absurd (true≢false h.0)
whole_low (fin false n d) x h = lt→ltb 0 (1 * 1 * down d + n * up d * 1) (go (down d) (n * up d * 1) (down_pos d))
  where
    go : (a b : ℕ) → 0 < a → 0 < 1 * 1 * a + b
    go a b h = omega arith

pub whole_high : (y : Float) (x : ℕ) → HasValue y false x 1 → x < 2 ^ 64 → T (lt y (fin false 1 (pos 64)))
unfolding lt
whole_high nan x h l = absurd h
whole_high (inf s) x h l = absurd h
whole_high (fin true n d) x h l = absurd (true≢false h.0)
whole_high (fin false n d) x h l = lt→ltb (n * up d * 1) (1 * 2 ^ 64 * down d) (go (n * up d) (down d) h.1 (mul-lt-mul_of_pos_right l (down_pos d)))
  where
    go : (a d : ℕ) → a * 1 ≡ x * d → x * d < 2 ^ 64 * d → a * 1 < 1 * 2 ^ 64 * d
    go a d e h = omega arith

-- ---- a * 2 ^ 53 is a whole number, for a float a from 1/2 up to 800
unfoldable pub times53 : Float → Float
unfolding mul
times53 a = mul binary64 a (fin false 1 (pos 53))

scale_exact : (m : ℕ) (e : ℤ) (t j : ℕ) → m < 2 ^ 53 → down e * t ≡ 2 ^ 53 → up e * t ≡ 2 ^ j → m * 2 ^ j * 2 ^ 1074 < 2 ^ 2098 → HasValue (times53 (fin false m e)) false (m * up e * t) 1
unfolding times53
scale_exact m e t j M d u b =
    subst (λ (z : Float). HasValue z false (m * up e * t) 1) (sym (round_same binary64 false (m * up e * (1 * 2 ^ 53)) (down e * 1) (m * up e * t) 1 (mul-pos (down_pos e) (lit< tt)) (lit< tt) (cross (m * up e) (down e) (2 ^ 53) d)))
    (round_exact binary64 false (m * up e * t) 1 m (j + 1074) (lit< tt) M (subst (λ (z : ℕ). z < 2 ^ 2098) (mul_assoc m (2 ^ j) (2 ^ 1074) ∙ ap (λ (z : ℕ). m * z) (sym (pow-add 2 j 1074))) b)
    (ap (λ (z : ℕ). z * 2 ^ 1074) (mul_assoc m (up e) t ∙ ap (λ (z : ℕ). m * z) u) ∙ mul_assoc m (2 ^ j) (2 ^ 1074) ∙ ap (λ (z : ℕ). m * z) (sym (pow-add 2 j 1074)) ∙ last (m * 2 ^ (j + 1074))))
  where
    cross : (a d p : ℕ) → d * t ≡ p → a * (1 * p) * 1 ≡ a * t * (d * 1)
    cross a d p e =
        let f : a * (d * t) ≡ a * p = ap (λ (z : ℕ). a * z) e in
        omega arith

    last : (a : ℕ) → a ≡ a * 1
    last a = omega arith

pub record Counted (m : ℕ) (e : ℤ) : Type 0 where
  pub x : ℕ
  pub value : HasValue (times53 (fin false m e)) false x 1
  pub exact : x * down e ≡ m * up e * 2 ^ 53
  pub most : x ≤ 800 * 2 ^ 53

counted_at : (m : ℕ) (e : ℤ) (t j : ℕ) → m < 2 ^ 53 → down e * t ≡ 2 ^ 53 → up e * t ≡ 2 ^ j → m * up e ≤ 800 * down e → Counted m e
counted_at m e t j M d u b =
    let l : m * up e * t ≤ 800 * 2 ^ 53 = subst (λ (z : ℕ). m * up e * t ≤ 800 * z) d (le_trans (mul-le-mul_right t b) (le_of_eq (mul_assoc 800 (down e) t))) in
    let i : m * 2 ^ j ≤ 800 * 2 ^ 53 = subst (λ (z : ℕ). z ≤ 800 * 2 ^ 53) (mul_assoc m (up e) t ∙ ap (λ (z : ℕ). m * z) u) l in
    record {
      x = m * up e * t;
      value = scale_exact m e t j M d u (lt_of_le_of_lt (mul-le-mul_right (2 ^ 1074) i) (lit< tt));
      exact = cross (m * up e) (down e) (2 ^ 53) d;
      most = l;
    }
  where
    cross : (a d p : ℕ) → d * t ≡ p → a * t * d ≡ a * p
    cross a d p e =
        let f : a * (d * t) ≡ a * p = ap (λ (z : ℕ). a * z) e in
        omega arith

pub counted : (m : ℕ) (e : ℤ) → m < 2 ^ 53 → down e ≤ m * up e * 2 → m * up e ≤ 800 * down e → Counted m e
counted m (pos k) M h b = counted_at m (pos k) (2 ^ 53) (k + 53) M (one (2 ^ 53)) (sym (pow-add 2 k 53)) b
  where
    one : (a : ℕ) → 1 * a ≡ a
    one a = omega arith
counted m (negsuc k) M h b =
    let s : suc k ≤ 53 = small (le_or_lt (suc k) 53) in
    counted_at m (negsuc k) (2 ^ (53 - suc k)) (53 - suc k) M (sym (pow-add 2 (suc k) (53 - suc k)) ∙ ap (λ (z : ℕ). 2 ^ z) (join k s)) (one (2 ^ (53 - suc k))) b
  where
    one : (a : ℕ) → 1 * a ≡ a
    one a = omega arith

    join : (k : ℕ) → suc k ≤ 53 → suc k + (53 - suc k) ≡ 53
    join k s = omega arith

    clash : (p : ℕ) → 2 ^ 54 ≤ p → p ≤ m * 1 * 2 → m < 2 ^ 53 → ⊥
    clash p a b c = omega arith

    small : (suc k ≤ 53) ⊎ (53 < suc k) → suc k ≤ 53
    small (inl h) = h
    small (inr g) = absurd (clash (2 ^ suc k) (pow_mono g) h M)

-- ---- a finite float is a whole number of units
units_at : (m : ℕ) (e : ℤ) → down e ≤ 2 ^ 1074 → (t : ℕ) × (down e * t ≡ U)
unfolding U
units_at m (pos k) h = (2 ^ 1074, one (2 ^ 1074))
  where
    one : (a : ℕ) → 1 * a ≡ a
    one a = omega arith
units_at m (negsuc k) h = (2 ^ (1074 - suc k), sym (pow-add 2 (suc k) (1074 - suc k)) ∙ ap (λ (z : ℕ). 2 ^ z) (join k (small (le_or_lt (suc k) 1074))))
  where
    join : (k : ℕ) → suc k ≤ 1074 → suc k + (1074 - suc k) ≡ 1074
    join k s = omega arith

    small : (suc k ≤ 1074) ⊎ (1074 < suc k) → suc k ≤ 1074
    small (inl g) = g
    small (inr g) = absurd (not-le_of_lt (pow-lt g) h)

down_fits : (s : Bool) (m : ℕ) (e : ℤ) → T (fits binary64 (fin s m e)) → down e ≤ 2 ^ 1074
unfolding fits
down_fits s zero (pos k) t = pow_pos 1074
down_fits s zero (negsuc k) t = absurd (no (2 ^ suc k) (two k) (eqb→eq (1 * 2 ^ suc k) 1 t))
  where
    two : (k : ℕ) → 2 ≤ 2 ^ suc k
    two k = pow_mono {i = 1} (one k)
      where
        one : (k : ℕ) → 1 ≤ suc k
        one k = omega arith

    no : (p : ℕ) → 2 ≤ p → 1 * p ≡ 1 → ⊥
    no p h e = omega arith
down_fits s (suc m) e t =
    let a : Bool = eqb (suc m % 2) 1 in
    let b : Bool = ltb (suc m) (2 ^ 53) in
    let c : Bool = leb (down e) (2 ^ 1074) in
    let d : Bool = ltb (suc m * up e) (2 ^ 1024 * down e) in
    leb→le (down e) (2 ^ 1074) (and_r (a && b) c (and_l (a && b && c) d t))

pub digits_fit : (s : Bool) (m : ℕ) (e : ℤ) → T (fits binary64 (fin s m e)) → m < 2 ^ 53
unfolding fits
digits_fit s zero e t = pow_pos 53
digits_fit s (suc m) e t =
    let a : Bool = eqb (suc m % 2) 1 in
    let b : Bool = ltb (suc m) (2 ^ 53) in
    let c : Bool = leb (down e) (2 ^ 1074) in
    let d : Bool = ltb (suc m * up e) (2 ^ 1024 * down e) in
    ltb→lt (suc m) (2 ^ 53) (and_r a b (and_l (a && b) c (and_l (a && b && c) d t)))

pub units_of : (s : Bool) (m : ℕ) (e : ℤ) → T (fits binary64 (fin s m e)) → (v : ℕ) × Is (fin s m e) s v × (v * down e ≡ m * up e * U)
units_of s m e t =
    let u = units_at m e (down_fits s m e t) in
    let h : m * up e * U ≡ m * up e * u.0 * down e = go (m * up e) (down e) u.0 U u.1 in
    (m * up e * u.0, (refl, h), sym h)
  where
    go : (a d t u : ℕ) → d * t ≡ u → a * u ≡ a * t * d
    go a d t u e =
        let f : a * (d * t) ≡ a * u = ap (λ (z : ℕ). a * z) e in
        omega arith
