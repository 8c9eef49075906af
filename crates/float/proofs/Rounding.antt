-- Rounding errors of binary64, as facts on whole numbers of units (`specs/Units.antt`): +, -, * and / of finite operands give the exact result to within an absolute error that
-- the result's size bounds, one rule for normal and subnormal results. Signed sums and differences are in `Signed.antt`.
use Rattle.std.proofs.Common.{◌≡◌, ℕ, zero, suc, ◌+◌, ◌-◌, ◌*◌, ◌/◌, ◌%◌, ◌^◌, ◌<◌, ◌≤◌, Bool, true, false, cond, not, T, eqb, ltb, sym, refl, ap, ◌∙◌, subst, le_trans, le_of_eq, lt_of_lt_of_le, lt_irrefl, mul-le-mul_right, mod-lt, mul_assoc, mul_comm, div-lt_iff_lt-mul, lt_of_mul-lt-mul_right, mul-le-mul_left, mul-lt-mul_of_pos_right, mul-pos, div-add-mod', not-le_of_lt, le_of_mul-le-mul_right, arith, eqb→eq, ltb→lt, leb→le, pow_pos, pow_mono, pow-add}
use Prim.Native.Nat.{compare, Ordering}
use native.Mathlib.Nat.{mul-mul-mul_comm}
use lib.Dec.{is_le, compare_is_eq, nleb→lt, eqb_refl}
use lib.Arith.{lt_of_le-ne}
use lib.Ieee.{Float, nan, inf, fin, binary64, low, up, down, size, nearest, round, unlike, sum, add, sub, mul, div}
use lib.Ieee.Digits.{size-le}
use lib.Ieee.Fits.{round_is, down_pos}
use lib.Ieee.Exact.{HasValue, units_val}
use lib.Ieee.Nearest.{closest}
use lib.Ieee.Order.{drop, kept}
use lib.Ieee.Scale.{grid, round_same}
use Rattle.float.specs.Units.{U, Is}

-- ---- the nearest whole number to n / u is within a half of it
abbrev Cmp : Ordering → ℕ → ℕ → Type 0
Cmp Ordering.lt a b = a < b
Cmp Ordering.eq a b = a ≡ b
Cmp Ordering.gt a b = b < a

cmp : (a b : ℕ) → Cmp (compare a b) a b
cmp a b = go (compare a b) (leb→le a b) (nleb→lt a b) (eqb→eq a b) (λ (e : a ≡ b). subst (λ (x : ℕ). T (eqb a x)) e (eqb_refl a))
  where
    go : (o : Ordering) → (T (is_le o) → a ≤ b) → (T (not (is_le o)) → b < a) → (T (compare_is_eq o) → a ≡ b) → (a ≡ b → T (compare_is_eq o)) → Cmp o a b
    go Ordering.lt h k e n = lt_of_le-ne (h tt) n
    go Ordering.eq h k e n = e tt
    go Ordering.gt h k e n = k tt

-- |v * c - n| ≤ e * c
abbrev pub Within : ℕ → ℕ → ℕ → ℕ → Type 0
Within v n c e = (v * c ≤ n + e * c) × (n ≤ v * c + e * c)

bit : (w : ℕ) → w % 2 ≤ 1
bit w = omega arith

half_within : (o : Ordering) (w r u n : ℕ) → Cmp o (r * 2) u → w * u + r ≡ n → r < u → (2 * (nearest w o * u) ≤ 2 * n + u) × (2 * n ≤ 2 * (nearest w o * u) + u)
half_within Ordering.lt w r u n h e l = omega arith
half_within Ordering.eq w r u n h e l = at_tie (w % 2) (mul-le-mul_right u (bit w))
  where
    at_tie : (b : ℕ) → b * u ≤ 1 * u → (2 * ((w + b) * u) ≤ 2 * n + u) × (2 * n ≤ 2 * ((w + b) * u) + u)
    at_tie b k = omega arith
half_within Ordering.gt w r u n h e l = omega arith

pub closest_within : (n u : ℕ) → 0 < u → (2 * (closest n u * u) ≤ 2 * n + u) × (2 * n ≤ 2 * (closest n u * u) + u)
closest_within n u U = half_within (compare (n % u * 2) u) (n / u) (n % u) u n (cmp (n % u * 2) u) (div-add-mod' n u) (mod-lt n U)

-- ---- a fraction below 2 ^ (54 + h) units is rounded to within 2 ^ h units
few : (z h : ℕ) → z ≤ 54 + h → z - 53 ≤ suc h
few z h l = omega arith

-- k digits dropped, at most suc h: half of 2 ^ k is at most 2 ^ h
grid_within : (n c k h q : ℕ) → 2 ^ k ≤ 2 * 2 ^ h → (2 * (q * (c * 2 ^ k)) ≤ 2 * n + c * 2 ^ k) × (2 * n ≤ 2 * (q * (c * 2 ^ k)) + c * 2 ^ k) → Within (q * 2 ^ k) n c (2 ^ h)
grid_within n c k h q l w = go (2 ^ k) (2 ^ h) l w
  where
    go : (K H : ℕ) → K ≤ 2 * H → (2 * (q * (c * K)) ≤ 2 * n + c * K) × (2 * n ≤ 2 * (q * (c * K)) + c * K) → Within (q * K) n c H
    go K H l w = omega (arith, mul-le-mul_left c l)

pow_suc2 : (h : ℕ) → 2 ^ suc h ≡ 2 * 2 ^ h
pow_suc2 h = omega arith

pub round_within : (a c h : ℕ) → 0 < c → a * 2 ^ low binary64 < 2 ^ (54 + h) * c → Within (grid binary64 a c) (a * 2 ^ low binary64) c (2 ^ h)
round_within a c h C l =
    let n = a * 2 ^ low binary64 in
    let k = drop 53 n c in
    let z : size (n / c) ≤ 54 + h = size-le (n / c) (54 + h) ((div-lt_iff_lt-mul C).1 l) in
    let kh : 2 ^ k ≤ 2 * 2 ^ h = le_trans (pow_mono (few (size (n / c)) h z)) (le_of_eq (pow_suc2 h)) in
    grid_within n c k h (closest n (c * 2 ^ k)) kh (closest_within n (c * 2 ^ k) (mul-pos C (pow_pos k)))

-- ---- the unit, and 2 ^ -57 in units, in which errors are counted
unfoldable pub W : ℕ
W = 2 ^ 1017

pub U-is : U ≡ 2 ^ 57 * W
unfolding U W
U-is = refl

pub U_pos : 0 < U
unfolding U
U_pos = pow_pos 1074

pub W-pos : 0 < W
unfolding W
W-pos = pow_pos 1017

-- x has the sign s and is n / c units in size, to within e units
pub record Rounded (x : Float) (s : Bool) (n c e : ℕ) : Type 0 where
  pub v : ℕ
  pub is : Is x s v
  pub near : Within v n c e

-- ---- a fraction below 2 ^ (54 + h) units, rounded, is within 2 ^ h units
top_room : (v B e P : ℕ) → v < B + e → B ≤ P → e ≤ P → v < P + P
top_room v B e P h k l = omega arith

twice_top : 2 ^ 2097 + 2 ^ 2097 ≡ 2 ^ 2098
twice_top = refl

under : (v c n e B : ℕ) → 0 < c → v * c ≤ n + e * c → n < B * c → v < B + e
under v c n e B C h l = lt_of_mul-lt-mul_right c (omega arith)

exps : (h : ℕ) → h ≤ 2040 → (54 + h ≤ 2097) × (h ≤ 2097)
exps h l = omega arith

pub round_near : (s : Bool) (a c h : ℕ) → 0 < c → h ≤ 2040 → a * U < 2 ^ (54 + h) * c → Rounded (round binary64 s a c) s (a * U) c (2 ^ h)
unfolding U
round_near s a c h C H l =
    let w : Within (grid binary64 a c) (a * 2 ^ 1074) c (2 ^ h) = round_within a c h C l in
    let g : grid binary64 a c < 2 ^ 2098 =
    subst (λ (z : ℕ). grid binary64 a c < z) twice_top (top_room (grid binary64 a c) (2 ^ (54 + h)) (2 ^ h) (2 ^ 2097) (under (grid binary64 a c) c (a * 2 ^ 1074) (2 ^ h) (2 ^ (54 + h)) C w.0 l) (pow_mono (exps h H).0) (pow_mono (exps h H).1)) in
    record {
      v = grid binary64 a c;
      is = subst (λ (z : Float). HasValue z s (grid binary64 a c) (2 ^ 1074)) (sym (round_is binary64 s a c)) (units_val binary64 s (kept 53 (a * 2 ^ 1074) c) (drop 53 (a * 2 ^ 1074) c) g);
      near = w;
    }

-- the same with the error counted in W: a result below 2 ^ (i - 3) is within 2 ^ (i - 57)
lift : (i : ℕ) → 2 ^ (1017 + i) ≡ 2 ^ i * W
unfolding W
lift i = pow-add 2 1017 i ∙ mul_comm (2 ^ 1017) (2 ^ i)

lift54 : (i : ℕ) → 2 ^ (54 + (1017 + i)) ≡ 2 ^ (54 + i) * W
lift54 i = pow-add 2 54 (1017 + i) ∙ ap (λ (z : ℕ). 2 ^ 54 * z) (lift i) ∙ sym (mul_assoc (2 ^ 54) (2 ^ i) W) ∙ ap (λ (z : ℕ). z * W) (sym (pow-add 2 54 i))

pub round_rounded : (s : Bool) (a c i : ℕ) → 0 < c → i ≤ 1000 → a * U < 2 ^ (54 + i) * W * c → Rounded (round binary64 s a c) s (a * U) c (2 ^ i * W)
round_rounded s a c i C I l =
    subst (Rounded (round binary64 s a c) s (a * U) c) (lift i)
    (round_near s a c (1017 + i) C (in_range i I) (subst (λ (z : ℕ). a * U < z * c) (sym (lift54 i)) l))
  where
    in_range : (i : ℕ) → i ≤ 1000 → 1017 + i ≤ 2040
    in_range i h = omega arith

-- ---- a common factor of n and c does not count
pub within_scale : (v n c e k : ℕ) → 0 < k → Within v (n * k) (c * k) e → Within v n c e
within_scale v n c e k K w = (le_of_mul-le-mul_right {k = k} (omega arith) K, le_of_mul-le-mul_right {k = k} (omega arith) K)

rescaled : {x : Float} {s : Bool} (n c e k : ℕ) → 0 < k → Rounded x s (n * k) (c * k) e → Rounded x s n c e
rescaled n c e k K r = record { v = r.v; is = r.is; near = within_scale r.v n c e k K r.near }

-- ---- the product
mul_cross : (x y a b de dd u : ℕ) → x * u ≡ a * de → y * u ≡ b * dd → x * y * (u * u) ≡ a * b * (de * dd)
mul_cross x y a b de dd u p q = mul-mul-mul_comm x y u u ∙ ap (λ (z : ℕ). z * (y * u)) p ∙ ap (λ (z : ℕ). a * de * z) q ∙ mul-mul-mul_comm a de b dd

pub mul_is : (x y : Float) (s t : Bool) (a b : ℕ) → Is x s a → Is y t b → mul binary64 x y ≡ round binary64 (unlike s t) (a * b) (U * U)
mul_is nan y s t a b p q = absurd p
mul_is (inf s') y s t a b p q = absurd p
mul_is (fin s' m e) nan s t a b p q = absurd q
mul_is (fin s' m e) (inf t') s t a b p q = absurd q
mul_is (fin s' m e) (fin t' n d) s t a b p q =
    opened ∙ ap (λ (z : Bool). round binary64 (unlike z t') (m * up e * (n * up d)) (down e * down d)) p.0
    ∙ ap (λ (z : Bool). round binary64 (unlike s z) (m * up e * (n * up d)) (down e * down d)) q.0
    ∙ round_same binary64 (unlike s t) (m * up e * (n * up d)) (down e * down d) (a * b) (U * U) (mul-pos (down_pos e) (down_pos d)) (mul-pos U_pos U_pos)
    (mul_cross (m * up e) (n * up d) a b (down e) (down d) U p.1 q.1)
  where
    opened : mul binary64 (fin s' m e) (fin t' n d) ≡ round binary64 (unlike s' t') (m * up e * (n * up d)) (down e * down d)
    opened = unfold mul in refl

at_units : (a K u : ℕ) → 0 < u → a < K * u → a * u < K * (u * u)
at_units a K u P h = lt_of_lt_of_le (mul-lt-mul_of_pos_right h P) (le_of_eq (mul_assoc K u u))

pub mul_rounded : (x y : Float) (s t : Bool) (a b i : ℕ) → i ≤ 1000 → Is x s a → Is y t b → a * b < 2 ^ (54 + i) * W * U → Rounded (mul binary64 x y) (unlike s t) (a * b) U (2 ^ i * W)
mul_rounded x y s t a b i I p q l =
    rescaled (a * b) U (2 ^ i * W) U U_pos
    (subst (λ (z : Float). Rounded z (unlike s t) (a * b * U) (U * U) (2 ^ i * W)) (sym (mul_is x y s t a b p q))
    (round_rounded (unlike s t) (a * b) (U * U) i (mul-pos U_pos U_pos) I (at_units (a * b) (2 ^ (54 + i) * W) U U_pos l)))

-- ---- the quotient, by a divisor above zero
div_cross : (x y a b de dd u : ℕ) → x * u ≡ a * de → y * u ≡ b * dd → x * dd * (u * b) ≡ a * u * (y * de)
div_cross x y a b de dd u p q =
    let l : x * dd * (u * b) ≡ x * u * (b * dd) = omega arith in
    let r : a * u * (y * de) ≡ a * de * (y * u) = omega arith in
    l ∙ ap (λ (z : ℕ). z * (b * dd)) p ∙ ap (λ (z : ℕ). a * de * z) (sym q) ∙ sym r

is_pos : (n u b d : ℕ) → n * u ≡ b * d → 0 < b → 0 < d → 0 < n
is_pos zero u b d e B D = absurd (lt_irrefl 0 (lt_of_lt_of_le (mul-pos B D) (le_of_eq (sym e ∙ zero_times u))))
  where
    zero_times : (u : ℕ) → 0 * u ≡ 0
    zero_times u = omega arith
is_pos (suc n) u b d e B D = omega arith

not_zero : {A : Type 0} (n : ℕ) (x y : A) → 0 < n → cond (eqb n 0) x y ≡ y
not_zero n x y h = go (eqb n 0) (eqb→eq n 0)
  where
    go : (t : Bool) → (T t → n ≡ 0) → cond t x y ≡ y
    go true k = absurd (clash (k tt))
      where
        clash : n ≡ 0 → ⊥
        clash e = omega arith
    go false k = refl

pub div_is : (x y : Float) (s t : Bool) (a b : ℕ) → Is x s a → Is y t b → 0 < b → div binary64 x y ≡ round binary64 (unlike s t) (a * U) (U * b)
div_is nan y s t a b p q B = absurd p
div_is (inf s') y s t a b p q B = absurd p
div_is (fin s' m e) nan s t a b p q B = absurd q
div_is (fin s' m e) (inf t') s t a b p q B = absurd q
div_is (fin s' m e) (fin t' n d) s t a b p q B =
    let N : 0 < n * up d = is_pos (n * up d) U b (down d) q.1 B (down_pos d) in
    opened (first N) ∙ ap (λ (z : Bool). round binary64 (unlike z t') (m * up e * down d) (n * up d * down e)) p.0
    ∙ ap (λ (z : Bool). round binary64 (unlike s z) (m * up e * down d) (n * up d * down e)) q.0
    ∙ round_same binary64 (unlike s t) (m * up e * down d) (n * up d * down e) (a * U) (U * b) (mul-pos N (down_pos e)) (mul-pos U_pos B)
    (div_cross (m * up e) (n * up d) a b (down e) (down d) U p.1 q.1)
  where
    opened : 0 < n → div binary64 (fin s' m e) (fin t' n d) ≡ round binary64 (unlike s' t') (m * up e * down d) (n * up d * down e)
    opened h = unfold div in not_zero n _ _ h

    first : 0 < n * up d → 0 < n
    first h = go n h
      where
        go : (k : ℕ) → 0 < k * up d → 0 < k
        go zero h = absurd (lt_irrefl 0 (lt_of_lt_of_le h (le_of_eq (zero_times (up d)))))
          where
            zero_times : (u : ℕ) → 0 * u ≡ 0
            zero_times u = omega arith
        go (suc k) h = omega arith

-- a / b is a * U / b units
pub div_rounded : (x y : Float) (s t : Bool) (a b i : ℕ) → i ≤ 1000 → 0 < b → Is x s a → Is y t b → a * U < 2 ^ (54 + i) * W * b → Rounded (div binary64 x y) (unlike s t) (a * U) b (2 ^ i * W)
div_rounded x y s t a b i I B p q l =
    rescaled (a * U) b (2 ^ i * W) U U_pos
    (subst (λ (z : ℕ). Rounded (div binary64 x y) (unlike s t) (a * U * U) z (2 ^ i * W)) (mul_comm U b)
    (subst (λ (z : Float). Rounded z (unlike s t) (a * U * U) (U * b) (2 ^ i * W)) (sym (div_is x y s t a b p q B))
    (round_rounded (unlike s t) (a * U) (U * b) i (mul-pos U_pos B) I (lt_of_lt_of_le (mul-lt-mul_of_pos_right l U_pos) (le_of_eq (mul_assoc (2 ^ (54 + i) * W) b U ∙ ap (λ (z : ℕ). 2 ^ (54 + i) * W * z) (mul_comm b U)))))))

-- ---- the sum of two values of one sign
add_cross : (x y a b de dd u : ℕ) → x * u ≡ a * de → y * u ≡ b * dd → (x * dd + y * de) * u ≡ (a + b) * (de * dd)
add_cross x y a b de dd u p q =
    let l : x * u * dd ≡ a * de * dd = ap (λ (z : ℕ). z * dd) p in
    let r : y * u * de ≡ b * dd * de = ap (λ (z : ℕ). z * de) q in
    omega arith

pub add_is : (x y : Float) (s : Bool) (a b : ℕ) → Is x s a → Is y s b → add binary64 x y ≡ round binary64 s (a + b) U
add_is nan y s a b p q = absurd p
add_is (inf s') y s a b p q = absurd p
add_is (fin s' m e) nan s a b p q = absurd q
add_is (fin s' m e) (inf t') s a b p q = absurd q
add_is (fin s' m e) (fin t' n d) s a b p q =
    opened ∙ ap (λ (z : Bool). sum binary64 z A t' B C) p.0 ∙ ap (λ (z : Bool). sum binary64 s A z B C) q.0 ∙ same s
    ∙ round_same binary64 s (A + B) C (a + b) U (mul-pos (down_pos e) (down_pos d)) U_pos (add_cross (m * up e) (n * up d) a b (down e) (down d) U p.1 q.1)
  where
    A : ℕ
    A = m * up e * down d

    B : ℕ
    B = n * up d * down e

    C : ℕ
    C = down e * down d

    opened : add binary64 (fin s' m e) (fin t' n d) ≡ sum binary64 s' A t' B C
    opened = unfold add in refl

    same : (s : Bool) → sum binary64 s A s B C ≡ round binary64 s (A + B) C
    same true = unfold sum in refl
    same false = unfold sum in refl

whole_units : (a K : ℕ) → a < K → a * U < K * U
whole_units a K h = mul-lt-mul_of_pos_right h U_pos

one_times : (x : ℕ) → 1 * x ≡ x
one_times x = omega arith

pub add_rounded : (x y : Float) (s : Bool) (a b i : ℕ) → i ≤ 1000 → Is x s a → Is y s b → a + b < 2 ^ (54 + i) * W → Rounded (add binary64 x y) s (a + b) 1 (2 ^ i * W)
add_rounded x y s a b i I p q l =
    rescaled (a + b) 1 (2 ^ i * W) U U_pos
    (subst (λ (z : Float). Rounded z s ((a + b) * U) (1 * U) (2 ^ i * W)) (sym (add_is x y s a b p q))
    (subst (λ (z : ℕ). Rounded (round binary64 s (a + b) U) s ((a + b) * U) z (2 ^ i * W)) (sym (one_times U))
    (round_rounded s (a + b) U i U_pos I (whole_units (a + b) (2 ^ (54 + i) * W) l))))

-- ---- the difference of two values that are not negative, the second no larger
sub_cross : (X Y a b C u : ℕ) → 0 < u → X * u ≡ a * C → Y * u ≡ b * C → b ≤ a → (Y ≤ X) × ((X - Y) * u ≡ (a - b) * C)
sub_cross X Y a b C u P p q h =
    let l : Y * u ≤ X * u = le_trans (le_of_eq q) (le_trans (mul-le-mul_right C h) (le_of_eq (sym p))) in
    let m : Y ≤ X = le_of_mul-le-mul_right l P in
    (m, go (X - Y) (a - b) (split X Y m) (split a b h))
  where
    split : (x y : ℕ) → y ≤ x → x ≡ y + (x - y)
    split x y h = omega arith

    go : (k j : ℕ) → X ≡ Y + k → a ≡ b + j → k * u ≡ j * C
    go k j e f =
        let x : X * u ≡ (Y + k) * u = ap (λ (z : ℕ). z * u) e in
        let y : a * C ≡ (b + j) * C = ap (λ (z : ℕ). z * C) f in
        omega arith

cross1 : (x a de dd u : ℕ) → x * u ≡ a * de → x * dd * u ≡ a * (de * dd)
cross1 x a de dd u p =
    let l : x * u * dd ≡ a * de * dd = ap (λ (z : ℕ). z * dd) p in
    omega arith

cross2 : (y b de dd u : ℕ) → y * u ≡ b * dd → y * de * u ≡ b * (de * dd)
cross2 y b de dd u p =
    let l : y * u * de ≡ b * dd * de = ap (λ (z : ℕ). z * de) p in
    omega arith

pick_le : (A B C : ℕ) → B ≤ A → sum binary64 false A true B C ≡ round binary64 false (A - B) C
pick_le A B C h = unfold sum in go (ltb A B) (ltb→lt A B)
  where
    go : (t : Bool) → (T t → A < B) → cond t (round binary64 true (B - A) C) (round binary64 false (A - B) C) ≡ round binary64 false (A - B) C
    go true k = absurd (not-le_of_lt (k tt) h)
    go false k = refl

pub sub_is : (x y : Float) (a b : ℕ) → Is x false a → Is y false b → b ≤ a → sub binary64 x y ≡ round binary64 false (a - b) U
sub_is nan y a b p q h = absurd p
sub_is (inf s') y a b p q h = absurd p
sub_is (fin s' m e) nan a b p q h = absurd q
sub_is (fin s' m e) (inf t') a b p q h = absurd q
sub_is (fin s' m e) (fin t' n d) a b p q h =
    let k = sub_cross A B a b C U U_pos (cross1 (m * up e) a (down e) (down d) U p.1) (cross2 (n * up d) b (down e) (down d) U q.1) h in
    opened ∙ ap (λ (z : Bool). sum binary64 z A (not t') B C) p.0 ∙ ap (λ (z : Bool). sum binary64 false A (not z) B C) q.0
    ∙ pick_le A B C k.0
    ∙ round_same binary64 false (A - B) C (a - b) U (mul-pos (down_pos e) (down_pos d)) U_pos k.1
  where
    A : ℕ
    A = m * up e * down d

    B : ℕ
    B = n * up d * down e

    C : ℕ
    C = down e * down d

    opened : sub binary64 (fin s' m e) (fin t' n d) ≡ sum binary64 s' A (not t') B C
    opened = unfold sub in refl

pub sub_rounded : (x y : Float) (a b i : ℕ) → i ≤ 1000 → Is x false a → Is y false b → b ≤ a → a - b < 2 ^ (54 + i) * W → Rounded (sub binary64 x y) false (a - b) 1 (2 ^ i * W)
sub_rounded x y a b i I p q h l =
    rescaled (a - b) 1 (2 ^ i * W) U U_pos
    (subst (λ (z : Float). Rounded z false ((a - b) * U) (1 * U) (2 ^ i * W)) (sym (sub_is x y a b p q h))
    (subst (λ (z : ℕ). Rounded (round binary64 false (a - b) U) false ((a - b) * U) z (2 ^ i * W)) (sym (one_times U))
    (round_rounded false (a - b) U i U_pos I (whole_units (a - b) (2 ^ (54 + i) * W) l))))
