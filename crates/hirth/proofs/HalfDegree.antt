-- `snapped` is the nearest half degree (`nearest_tooth`): h half degrees for the whole number h nearest to twice the angle, a
-- half away from zero, with the sign of the angle, and +0.0 for none. Each step but the rounding to a whole number is exact.
use Rattle.std.proofs.Common.{◌≡◌, ℕ, zero, suc, ◌+◌, ◌*◌, ◌/◌, ◌^◌, ◌<◌, ◌≤◌, Bool, true, false, T, ℤ, sym, refl, ap, ◌∙◌, subst, le_trans, le_of_eq, le_of_suc-le-suc, lt_of_le_of_lt, mul-le-mul_right, div-lt_iff_lt-mul, le_antisymm, lt_of_mul-lt-mul_right, mul-lt-mul_of_pos_right, mul-pos, le-div_iff_mul-le, div-mul-le_self, le_of_mul-le-mul_right, arith, lit<, pow-add}
use native.Mathlib.Nat.{lt-mul-div-succ}
use lib.Ieee.{Float, nan, inf, fin, binary64, up, down, round, add, mul, neg, of_bits, fits}
use lib.Ieee.Bits.{of_bits-fits}
use lib.Ieee.Fits.{down_pos, mul-fits, neg-fits}
use lib.Ieee.Exact.{HasValue}
use lib.Ieee.Scale.{round_same}
use Rattle.float.specs.Units.{U, Is}
use Rattle.float.specs.Helpers.{nought, nearest_whole, round_half_away}
use Rattle.float.proofs.Units.{held, exact_is, one_float, one_number}
use Rattle.float.proofs.Rounding.{U_pos, mul_is}
use Rattle.float.proofs.Zeros.{add_zero, minus_zero_add}
use Rattle.float.proofs.UpTo.{UpTo}
use Rattle.hirth.specs.Snapping.{two, half, snapped, sign_at, NearestTooth}

-- ---- the whole number nearest to n / d depends on the value alone
quotient : (n b q : ℕ) → 0 < b → q * b ≤ n → n < (q + 1) * b → n / b ≡ q
quotient n b q B l h = le_antisymm (le_of_suc-le-suc (go ((div-lt_iff_lt-mul B).1 h))) ((le-div_iff_mul-le B).1 l)
  where
    go : n / b < q + 1 → n / b < suc q
    go h = omega arith

pub nearest_same : (n d m e : ℕ) → 0 < d → 0 < e → n * e ≡ m * d → nearest_whole n d ≡ nearest_whole m e
nearest_same n d m e D E s =
    quotient (2 * n + d) (2 * d) q (mul-pos (lit< tt) D)
    (le_of_mul-le-mul_right {k = e} (lo q (mul-le-mul_right d (div-mul-le_self (2 * m + e) (2 * e)))) E)
    (lt_of_mul-lt-mul_right e (hi q (mul-lt-mul_of_pos_right (lt-mul-div-succ (2 * m + e) (mul-pos (lit< tt) E)) D)))
  where
    q : ℕ
    q = (2 * m + e) / (2 * e)

    lo : (q : ℕ) → q * (2 * e) * d ≤ (2 * m + e) * d → q * (2 * d) * e ≤ (2 * n + d) * e
    lo q h = omega arith

    hi : (q : ℕ) → (2 * m + e) * d < 2 * e * (q + 1) * d → (2 * n + d) * e < (q + 1) * (2 * d) * e
    hi q h = omega arith

-- ---- the three steps, each exact but the rounding to a whole number
two_is : Is two false (2 * U)
unfolding of_bits U
two_is = (refl, refl)

unfoldable pub H : ℕ
H = 2 ^ 1073

H-is : U ≡ 2 * H
unfolding U H
H-is = refl

half_is : Is half false H
unfolding of_bits U H
half_is = (refl, refl)

-- a value in units, over any other denominator
over_of : (y : Float) (s t : Bool) (w a d v : ℕ) → 0 < d → a * U ≡ v * d → s ≡ t → HasValue y t (w * v) U → HasValue y s (w * a) d
over_of nan s t w a d v D e q h = absurd h
over_of (inf r) s t w a d v D e q h = absurd h
over_of (fin r m k) s t w a d v D e q h = (h.0 ∙ sym q, cancel (m * up k * d) (w * a * down k) U U_pos (go (m * up k) (down k) U h.1 e))
  where
    cancel : (x y u : ℕ) → 0 < u → x * u ≡ y * u → x ≡ y
    cancel x y u P e = le_antisymm (le_of_mul-le-mul_right {k = u} (le_of_eq e) P) (le_of_mul-le-mul_right {k = u} (le_of_eq (sym e)) P)

    go : (x c u : ℕ) → x * u ≡ w * v * c → a * u ≡ v * d → x * d * u ≡ w * a * c * u
    go x c u f g = sum (ap (λ (z : ℕ). z * d) f) (ap (λ (z : ℕ). z * (w * c)) g)
      where
        sum : x * u * d ≡ w * v * c * d → a * u * (w * c) ≡ v * d * (w * c) → x * d * u ≡ w * a * c * u
        sum p q = omega arith

-- twice a double that is at most 45,000
pub doubled : (s : Bool) (m : ℕ) (e : ℤ) → T (fits binary64 (fin s m e)) → m * up e ≤ 45000 * down e → HasValue (mul binary64 (fin s m e) two) s (2 * (m * up e)) (down e)
doubled s m e f h =
    let k = held (fin s m e) f tt in
    over_of (mul binary64 (fin s m e) two) s k.s 2 (m * up e) (down e) k.v (down_pos e) k.is.1 k.is.0
    (subst (λ (z : Float). Is z k.s (2 * k.v)) (sym (mul_is (fin s m e) two k.s false k.v (2 * U) k.is two_is ∙ same k.s k.v))
    (exact_is k.s (2 * k.v) k.q (1 + k.j) (ap (λ (z : ℕ). 2 * z) k.shape ∙ turn k.q (2 ^ k.j) ∙ ap (λ (z : ℕ). k.q * z) (sym (pow-add 2 1 k.j))) k.few (small k.v k.is.1)))
  where
    turn : (q p : ℕ) → 2 * (q * p) ≡ q * (2 * p)
    turn q p = omega arith

    same : (t : Bool) (v : ℕ) → round binary64 (lib.Ieee.unlike t false) (v * (2 * U)) (U * U) ≡ round binary64 t (2 * v) U
    same true v = round_same binary64 true (v * (2 * U)) (U * U) (2 * v) U (mul-pos U_pos U_pos) U_pos (cross v U)
      where
        cross : (v u : ℕ) → v * (2 * u) * u ≡ 2 * v * (u * u)
        cross v u = omega arith
    same false v = round_same binary64 false (v * (2 * U)) (U * U) (2 * v) U (mul-pos U_pos U_pos) U_pos (cross v U)
      where
        cross : (v u : ℕ) → v * (2 * u) * u ≡ 2 * v * (u * u)
        cross v u = omega arith

    small : (v : ℕ) → m * up e * U ≡ v * down e → 2 * v < 2 ^ 2098
    small v g = lt_of_le_of_lt (go v U (le_of_mul-le-mul_right {k = down e} (most (m * up e) (down e) v U g h) (down_pos e))) (unfold U in lit< tt)
      where
        most : (a d v u : ℕ) → a * u ≡ v * d → a ≤ 45000 * d → v * d ≤ 45000 * u * d
        most a d v u g h = le_trans (le_of_eq (sym g)) (le_trans (mul-le-mul_right u h) (le_of_eq (turned d u)))
          where
            turned : (d u : ℕ) → 45000 * d * u ≡ 45000 * u * d
            turned d u = omega arith

        go : (v u : ℕ) → v ≤ 45000 * u → 2 * v ≤ 90000 * u
        go v u h = omega arith

-- ---- a whole number of halves
abbrev pub nearest_halves : ℕ → ℕ → ℕ
nearest_halves a d = nearest_whole (2 * a) d

rounded_of : (y : Float) (s : Bool) (a d : ℕ) → 0 < d → HasValue y s a d → round_half_away y ≡ round binary64 s (nearest_whole a d) 1
unfolding round_half_away
rounded_of nan s a d D h = absurd h
rounded_of (inf r) s a d D h = absurd h
rounded_of (fin r m k) s a d D h = ap (λ (z : ℕ). round binary64 r z 1) (nearest_same (m * up k) (down k) a d (down_pos k) D h.1) ∙ ap (λ (t : Bool). round binary64 t (nearest_whole a d) 1) h.0

pub few_halves : (a d : ℕ) → 0 < d → a ≤ 45000 * d → nearest_halves a d ≤ 90000
few_halves a d D h = le_of_suc-le-suc ((div-lt_iff_lt-mul (mul-pos (lit< tt) D)).1 (go a d D h))
  where
    go : (a d : ℕ) → 0 < d → a ≤ 45000 * d → 2 * (2 * a) + d < 90001 * (2 * d)
    go a d D h = omega arith

whole_is : (s : Bool) (h : ℕ) → h ≤ 90000 → Is (round binary64 s h 1) s (h * U)
whole_is s h l =
    subst (λ (z : Float). Is z s (h * U)) (sym (round_same binary64 s h 1 (h * U) U (lit< tt) U_pos (turn h U)))
    (exact_is s (h * U) h 1074 (unfold U in refl) (few h l) (unfold U in lt_of_le_of_lt (mul-le-mul_right (2 ^ 1074) l) (lit< tt)))
  where
    turn : (h u : ℕ) → h * u ≡ h * u * 1
    turn h u = omega arith

    few : (h : ℕ) → h ≤ 90000 → h < 2 ^ 53
    few h l = omega arith

halved : (s : Bool) (h : ℕ) → h ≤ 90000 → Is (mul binary64 (round binary64 s h 1) half) s (h * H)
halved s h l =
    subst (λ (z : Float). Is z s (h * H)) (sym (mul_is (round binary64 s h 1) half s false (h * U) H (whole_is s h l) half_is ∙ same s))
    (exact_is s (h * H) h 1073 (unfold H in refl) (few h l) (unfold H in lt_of_le_of_lt (mul-le-mul_right (2 ^ 1073) l) (lit< tt)))
  where
    few : (h : ℕ) → h ≤ 90000 → h < 2 ^ 53
    few h l = omega arith

    cross : (h u v : ℕ) → h * u * v * u ≡ h * v * (u * u)
    cross h u v = omega arith

    same : (t : Bool) → round binary64 (lib.Ieee.unlike t false) (h * U * H) (U * U) ≡ round binary64 t (h * H) U
    same true = round_same binary64 true (h * U * H) (U * U) (h * H) U (mul-pos U_pos U_pos) U_pos (cross h U H)
    same false = round_same binary64 false (h * U * H) (U * U) (h * H) U (mul-pos U_pos U_pos) U_pos (cross h U H)

-- ---- h halves, with the sign, and +0.0 for none
pub before_plain : (s : Bool) (m : ℕ) (e : ℤ) → T (fits binary64 (fin s m e)) → m * up e ≤ 45000 * down e
    → Is (mul binary64 (round_half_away (mul binary64 (fin s m e) two)) half) s (nearest_halves (m * up e) (down e) * H)
before_plain s m e f h =
    subst (λ (z : Float). Is (mul binary64 z half) s (nearest_halves (m * up e) (down e) * H)) (sym (rounded_of (mul binary64 (fin s m e) two) s (2 * (m * up e)) (down e) (down_pos e) (doubled s m e f h)))
    (halved s (nearest_halves (m * up e) (down e)) (few_halves (m * up e) (down e) (down_pos e) h))

plus_is : Is nought false (0 * H)
unfolding of_bits
plus_is = (refl, go U H)
  where
    go : (u h : ℕ) → 0 * 1 * u ≡ 0 * h * 1
    go u h = omega arith

minus_is : Is (neg nought) true (0 * H)
unfolding of_bits neg
minus_is = (refl, go U H)
  where
    go : (u h : ℕ) → 0 * 1 * u ≡ 0 * h * 1
    go u h = omega arith

plus_plus : add binary64 nought nought ≡ nought
unfolding add of_bits
plus_plus = refl

plain_is : (y : Float) (s : Bool) (h : ℕ) → T (fits binary64 y) → Is y s (h * H) → Is (add binary64 y nought) (sign_at s h) (h * H)
plain_is y s (suc h) f i = subst (λ (z : Float). Is z s (suc h * H)) (sym (add_zero y f (λ e. clash H (unfold H in lit< tt) (one_number (neg nought) s true (suc h * H) (0 * H) (subst (λ (z : Float). Is z s (suc h * H)) e i) minus_is).1))) i
  where
    clash : (b : ℕ) → 0 < b → suc h * b ≡ 0 * b → ⊥
    clash b P e = omega arith
plain_is y true zero f i = subst (λ (z : Float). Is (add binary64 z nought) false (0 * H)) (sym (one_float y (neg nought) true (0 * H) f (neg-fits binary64 nought (of_bits-fits binary64 0)) i minus_is)) (subst (λ (z : Float). Is z false (0 * H)) (sym minus_zero_add) plus_is)
plain_is y false zero f i = subst (λ (z : Float). Is (add binary64 z nought) false (0 * H)) (sym (one_float y nought false (0 * H) f (of_bits-fits binary64 0) i plus_is)) (subst (λ (z : Float). Is z false (0 * H)) (sym plus_plus) plus_is)

pub snapped_is : (s : Bool) (m : ℕ) (e : ℤ) → T (fits binary64 (fin s m e)) → m * up e ≤ 45000 * down e
    → HasValue (snapped (fin s m e)) (sign_at s (nearest_halves (m * up e) (down e))) (nearest_halves (m * up e) (down e)) 2
unfolding snapped
snapped_is s m e f h =
    over_two (add binary64 (mul binary64 (round_half_away (mul binary64 (fin s m e) two)) half) nought) (sign_at s (nearest_halves (m * up e) (down e))) (nearest_halves (m * up e) (down e))
    (plain_is (mul binary64 (round_half_away (mul binary64 (fin s m e) two)) half) s (nearest_halves (m * up e) (down e)) (mul-fits binary64 (round_half_away (mul binary64 (fin s m e) two)) half) (before_plain s m e f h))
  where
    over_two : (y : Float) (t : Bool) (n : ℕ) → Is y t (n * H) → HasValue y t n 2
    over_two nan t n i = absurd i
    over_two (inf r) t n i = absurd i
    over_two (fin r k d) t n i = (i.0, cancel (k * up d * 2) (n * down d) H (unfold H in lit< tt) (go (k * up d) (down d) U H H-is i.1))
      where
        cancel : (x y u : ℕ) → 0 < u → x * u ≡ y * u → x ≡ y
        cancel x y u P e = le_antisymm (le_of_mul-le-mul_right {k = u} (le_of_eq e) P) (le_of_mul-le-mul_right {k = u} (le_of_eq (sym e)) P)

        go : (x c u v : ℕ) → u ≡ 2 * v → x * u ≡ n * v * c → x * 2 * v ≡ n * c * v
        go x c u v f g = sum (ap (λ (z : ℕ). x * z) f)
          where
            sum : x * u ≡ x * (2 * v) → x * 2 * v ≡ n * c * v
            sum p = omega arith

-- ---- the law, of every double up to 45,000
least : (a d : ℕ) → 2 * nearest_halves a d * d ≤ 4 * a + d
least a d = go (nearest_halves a d) (div-mul-le_self (2 * (2 * a) + d) (2 * d))
  where
    go : (h : ℕ) → h * (2 * d) ≤ 2 * (2 * a) + d → 2 * h * d ≤ 4 * a + d
    go h l = omega arith

most : (a d : ℕ) → 0 < d → 4 * a + d < 2 * (nearest_halves a d + 1) * d
most a d D = go (nearest_halves a d) (lt-mul-div-succ (2 * (2 * a) + d) (mul-pos (lit< tt) D))
  where
    go : (h : ℕ) → 2 * (2 * a) + d < 2 * d * (h + 1) → 4 * a + d < 2 * (h + 1) * d
    go h l = omega arith

pub in_degrees : (n : ℕ) (s : Bool) (m : ℕ) (e : ℤ) → UpTo n (fin s m e) → m * up e ≤ n * down e
in_degrees n s m e X = le_of_mul-le-mul_right {k = U} (go (m * up e) (down e) X.v U X.is.1 X.most) U_pos
  where
    go : (a d v u : ℕ) → a * u ≡ v * d → v ≤ n * u → a * u ≤ n * d * u
    go a d v u p q = le_trans (le_of_eq p) (le_trans (mul-le-mul_right d q) (le_of_eq (turned d u)))
      where
        turned : (d u : ℕ) → n * u * d ≡ n * d * u
        turned d u = omega arith

pub nearest_tooth : (a : Float) → T (fits binary64 a) → UpTo 45000 a → NearestTooth a (snapped a)
nearest_tooth nan f X = absurd X.is
nearest_tooth (inf s) f X = absurd X.is
nearest_tooth (fin s m e) f X = record {
  h = nearest_halves (m * up e) (down e);
  value = snapped_is s m e f (in_degrees 45000 s m e X);
  low = least (m * up e) (down e);
  high = most (m * up e) (down e) (down_pos e);
}
