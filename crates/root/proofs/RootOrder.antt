-- The square root of every f64 above zero is the nearest value (`root_rooted`); roots are in the order of what they are roots of (`root_mono`); a norm that is small has small parts, grows with its parts, and is
-- the same from either end.
use Rattle.std.proofs.Common.{◌≡◌, ℕ, zero, suc, ◌+◌, ◌-◌, ◌*◌, ◌^◌, ◌<◌, ◌≤◌, Bool, true, false, T, ◌⊎◌, ℤ, sym, refl, ap, ◌∙◌, subst, inl, inr, true≢false, le_trans, le_of_eq, lt_of_lt_of_le, le_of_lt, mul-le-mul_right, mul_assoc, mul-le-mul, lt_of_mul-lt-mul_right, mul-lt-mul_of_pos_right, mul-pos, not-le_of_lt, arith, pow_pos, pow_mono, pow-add}
use lib.Ieee.{Float, nan, inf, fin, binary64, unlike, up, down, size, round, add, sub, mul, lt, eq, le, fits, is_nan, of_bits}
use lib.Ieee.Fits.{mul-fits, add-fits}
use lib.Ieee.Digits.{size-lt, size-le, size_reaches}
use lib.Ieee.Bits.{is_true}
use lib.Ieee.Order.{round_mono}
use lib.Ieee.Scale.{finite}
use Rattle.float.proofs.Rounding.{U_pos, mul_is}
use Rattle.float.proofs.Units.{held, le_or_lt, one_number, is_finite}
use Rattle.float.proofs.Signed.{pl, mi, le_val, val_le, rnd_mono1, rnd_self, rnd_add}
use Rattle.float.proofs.Monotone.{add_mono, add_mono_right, le_top}
use Rattle.float.proofs.Commute.{square_sub_symmetric}
use Rattle.float.proofs.Sizes.{size_is}
use Rattle.float.proofs.Zeros.{nought_is, neg_below}
use Rattle.float.proofs.Order as order
use Rattle.root.specs.Root.{root, root_units, whole_root, Rooted}
use Rattle.root.proofs.RootParts.{rooted, radicand}
use Rattle.root.proofs.RootCases.{Above, above_of}
use Rattle.float.specs.Units.{U, Is}
use Rattle.float.specs.Helpers.{nought, size_of}
use Rattle.root.proofs.WholeRoot.{whole_root_right, whole_root_mono}

-- ---- the nearest value: v is q * 2 ^ j, and q has at most 53 digits
module _ (v q j : ℕ) (shape : v ≡ q * 2 ^ j) (few : q < 2 ^ 53) (high : v < 2 ^ 2098) (q-pos : 0 < q) where
  pub z_lo : 0 < size q
  z_lo = go (le_or_lt 1 (size q))
    where
      go : (1 ≤ size q) ⊎ (size q < 1) → 0 < size q
      go (inl h) = h
      go (inr h) = absurd (not-le_of_lt (lt_of_lt_of_le (size-lt q) (pow_mono {j = 0} (none (size q) h))) q-pos)
        where
          none : (z : ℕ) → z < 1 → z ≤ 0
          none z h = omega arith

  pub z_hi : size q ≤ 53
  z_hi = size-le q 53 few

  m : ℕ
  m = q * 2 ^ (53 - size q)

  pub m_lo : 4503599627370496 ≤ q * 2 ^ (53 - size q)
  m_lo = le_trans (le_of_eq (ap (λ (x : ℕ). 2 ^ x) (go (size q) z_lo z_hi) ∙ pow-add 2 (size q - 1) (53 - size q))) (mul-le-mul_right (2 ^ (53 - size q)) (size_reaches q (size q - 1) (less (size q) z_lo)))
    where
      go : (z : ℕ) → 0 < z → z ≤ 53 → 52 ≡ z - 1 + (53 - z)
      go z a b = omega arith

      less : (z : ℕ) → 0 < z → z - 1 < z
      less z h = omega arith

  pub m_hi : q * 2 ^ (53 - size q) < 9007199254740992
  m_hi = lt_of_lt_of_le (mul-lt-mul_of_pos_right (size-lt q) (pow_pos (53 - size q))) (le_of_eq (sym (pow-add 2 (size q) (53 - size q)) ∙ ap (λ (x : ℕ). 2 ^ x) (go (size q) z_hi)))
    where
      go : (z : ℕ) → z ≤ 53 → z + (53 - z) ≡ 53
      go z b = omega arith

  j_hi : size q - 1 + j < 2098
  j_hi = go (le_or_lt 2098 (size q - 1 + j))
    where
      less : (z : ℕ) → 0 < z → z - 1 < z
      less z h = omega arith

      go : (2098 ≤ size q - 1 + j) ⊎ (size q - 1 + j < 2098) → size q - 1 + j < 2098
      go (inr h) = h
      go (inl h) = absurd (not-le_of_lt high (le_trans (pow_mono h) (le_trans (le_of_eq (pow-add 2 (size q - 1) j)) (le_trans (mul-le-mul_right (2 ^ j) (size_reaches q (size q - 1) (less (size q) z_lo))) (le_of_eq (sym shape))))))

  f_hi : size q + j + 12 ≤ 2200
  f_hi = go (size q) j z_lo j_hi
    where
      go : (z j : ℕ) → 0 < z → z - 1 + j < 2098 → z + j + 12 ≤ 2200
      go z j a b = omega arith

  v_is : v * 2 ^ 64 ≡ q * 2 ^ (53 - size q) * 2 ^ (size q + j + 12 - 1)
  v_is =
      ap (λ (x : ℕ). x * 2 ^ 64) shape ∙ mul_assoc q (2 ^ j) (2 ^ 64) ∙ ap (λ (x : ℕ). q * x) (sym (pow-add 2 j 64) ∙ ap (λ (x : ℕ). 2 ^ x) (go (size q) j z_lo z_hi) ∙ pow-add 2 (53 - size q) (size q + j + 12 - 1)) ∙ sym (mul_assoc q (2 ^ (53 - size q)) (2 ^ (size q + j + 12 - 1)))
    where
      go : (z j : ℕ) → 0 < z → z ≤ 53 → j + 64 ≡ 53 - z + (z + j + 12 - 1)
      go z j a b = omega arith

  f_lo : 1 ≤ size q + j + 12
  f_lo = go (size q + j)
    where
      go : (a : ℕ) → 1 ≤ a + 12
      go a = omega arith

  shape_rooted : Rooted v (root_units v)
  shape_rooted =
      let h = radicand (q * 2 ^ (53 - size q)) (size q + j + 12) * 2 ^ 44 in
      rooted (q * 2 ^ (53 - size q)) (size q + j + 12) m_lo m_hi f_lo f_hi (whole_root h) (whole_root_right h) v v_is

pub root_rooted : (x : Float) → T (fits binary64 x) → (A : Above x) → Rooted A.v (root x)
root_rooted x t A =
    let H = held x t (is_finite x false A.v A.is) in
    let e = (one_number x false H.s A.v H.v A.is H.is).1 in
    subst (Rooted A.v) (sym A.root_is) (shape_rooted A.v H.q H.j (e ∙ H.shape) H.few A.high (lib.Ieee.Positive.first_pos H.q (2 ^ H.j) (lt_of_lt_of_le A.pos (le_of_eq (e ∙ H.shape)))))

-- ---- roots are in order
units_mono : (v w : ℕ) → v ≤ w → le (root_units v) (root_units w) ≡ true
unfolding root_units
units_mono v w h =
    is_true (le (root_units v) (root_units w))
    (round_mono binary64 (whole_root (v * 2 ^ 1076)) (2 ^ 1075) (whole_root (w * 2 ^ 1076)) (2 ^ 1075) (pow_pos 1075) (pow_pos 1075) (mul-le-mul_right (2 ^ 1075) (whole_root_mono (v * 2 ^ 1076) (w * 2 ^ 1076) (mul-le-mul_right (2 ^ 1076) h))))

zero_root : root_units 0 ≡ nought
unfolding root_units of_bits round
zero_root = refl

-- x is not below zero: an infinity, or v units whose root is `root_units v` but for the sign of a zero
data Kind (x : Float) : Type 0 where
  top : x ≡ inf false → Kind x
  val : (v : ℕ) (s : Bool) → Is x s v → mi s v ≡ 0 → le (root x) (root_units v) ≡ true → le (root_units v) (root x) ≡ true → Kind x

zero_kind : (s : Bool) (e : ℤ) → Kind (fin s zero e)
zero_kind s e =
    let i : Is (fin s zero e) s 0 = (refl, flat (up e) U (down e)) in
    val 0 s i (none s)
    (ap (λ (z : Float). le z (root_units 0)) opened ∙ ap (λ (z : Float). le (fin s zero e) z) zero_root ∙ le_val (fin s zero e) nought s false 0 0 i nought_is (any s))
    (ap (λ (z : Float). le (root_units 0) z) opened ∙ ap (λ (z : Float). le z (fin s zero e)) zero_root ∙ le_val nought (fin s zero e) false s 0 0 nought_is i (any' s))
  where
    flat : (a u d : ℕ) → 0 * a * u ≡ 0 * d
    flat a u d = omega arith

    opened : root (fin s zero e) ≡ fin s zero e
    opened = unfold root in refl

    none : (s : Bool) → mi s 0 ≡ 0
    none true = refl
    none false = refl

    any : (s : Bool) → pl s 0 + 0 ≤ 0 + mi s 0
    any true = omega arith
    any false = omega arith

    any' : (s : Bool) → 0 + mi s 0 ≤ pl s 0 + 0
    any' true = omega arith
    any' false = omega arith

zero_round : round binary64 false 0 1 ≡ nought
unfolding round of_bits
zero_round = refl

one : 0 < 1
one = omega arith

pub round_nn : (a c : ℕ) → 0 < c → le nought (round binary64 false a c) ≡ true
round_nn a c C = subst (λ (z : Float). le z (round binary64 false a c) ≡ true) zero_round (is_true (le (round binary64 false 0 1) (round binary64 false a c)) (round_mono binary64 0 1 a c one C (omega arith)))

units_nn : (v : ℕ) → le nought (root_units v) ≡ true
unfolding root_units
units_nn v = round_nn (whole_root (v * 2 ^ 1076)) (2 ^ 1075) (pow_pos 1075)

units_refl : (v : ℕ) → le (root_units v) (root_units v) ≡ true
units_refl v = order.le_refl (root_units v) (order.le_right nought (root_units v) (units_nn v))

not_above_top : (s : Bool) (m : ℕ) (e : ℤ) → le (inf false) (fin s m e) ≡ false
unfolding le lt eq
not_above_top s m e = refl

nought_low : le nought (inf true) ≡ false
unfolding le lt eq of_bits
nought_low = refl

top_root : root (inf false) ≡ inf false
unfolding root
top_root = refl

nan_is : is_nan nan ≡ true
unfolding is_nan
nan_is = refl

kind : (x : Float) → T (fits binary64 x) → le nought x ≡ true → Kind x
kind nan t h = absurd (true≢false (sym nan_is ∙ order.le_right nought nan h))
kind (inf true) t h = absurd (true≢false (sym h ∙ nought_low))
kind (inf false) t h = top refl
kind (fin s zero e) t h = zero_kind s e
kind (fin true (suc m) e) t h = absurd (true≢false (sym h ∙ order.lt_not_le (fin true (suc m) e) nought (neg_below m e)))
kind (fin false (suc m) e) t h =
    let A = above_of m e t in
    val A.v false A.is refl
    (ap (λ (z : Float). le z (root_units A.v)) A.root_is ∙ units_refl A.v)
    (ap (λ (z : Float). le (root_units A.v) z) A.root_is ∙ units_refl A.v)

-- the root of v units that are not below zero
pub root_of_units : (x : Float) (v : ℕ) → T (fits binary64 x) → Is x false v → le (root_units v) (root x) ≡ true
root_of_units x v t i = go (kind x t (le_val nought x false false 0 v nought_is i (low v)))
  where
    low : (v : ℕ) → 0 + 0 ≤ v + 0
    low v = omega arith

    no : (x : Float) → Is x false v → x ≡ inf false → ⊥
    no nan i e = i
    no (inf s) i e = i
    no (fin s m e') i e = subst (λ (z : Float). fin_only z) e tt
      where
        fin_only : Float → Type 0
        fin_only nan = ⊥
        fin_only (inf s) = ⊥
        fin_only (fin s m e) = Unit {0}

    go : Kind x → le (root_units v) (root x) ≡ true
    go (top e) = absurd (no x i e)
    go (val w s j m a b) = subst (λ (z : ℕ). le (root_units z) (root x) ≡ true) (one_number x s false w v j i).1 b

no_sign : (s : Bool) (v : ℕ) → mi s v ≡ 0 → pl s v ≡ v
no_sign true v h = sym h
no_sign false v h = refl

pub root_mono : (x y : Float) → T (fits binary64 x) → T (fits binary64 y) → le nought x ≡ true → le x y ≡ true → le (root x) (root y) ≡ true
root_mono x y tx ty n h = go (kind x tx n) (kind y ty (order.le_trans nought x y n h))
  where
    finite_top : (z : Float) (s : Bool) (v : ℕ) → Is z s v → le (inf false) z ≡ true → ⊥
    finite_top nan s v i l = i
    finite_top (inf t) s v i l = i
    finite_top (fin t m e) s v i l = true≢false (sym l ∙ not_above_top t m e)

    ordered : (v w a b c d : ℕ) → a ≡ v → b ≡ 0 → c ≡ w → d ≡ 0 → a + d ≤ c + b → v ≤ w
    ordered v w a b c d e f g i l = omega arith

    go : Kind x → Kind y → le (root x) (root y) ≡ true
    go (top e) (top f) = ap (λ (z : Float). le (root z) (root y)) e ∙ ap (λ (z : Float). le (root (inf false)) (root z)) f ∙ ap (λ (z : Float). le z z) top_root ∙ le_top (inf false) (unfold is_nan in refl)
    go (top e) (val w t j m b d) = absurd (finite_top y t w j (subst (λ (z : Float). le z y ≡ true) e h))
    go (val v s i k a c) (top f) = ap (λ (z : Float). le (root x) (root z)) f ∙ ap (λ (z : Float). le (root x) z) top_root ∙ le_top (root x) (order.le_left (root x) (root_units v) a)
    go (val v s i k a c) (val w t j m b d) =
        order.le_trans (root x) (root_units v) (root y) a
        (order.le_trans (root_units v) (root_units w) (root y) (units_mono v w (ordered v w (pl s v) (mi s v) (pl t w) (mi t w) (no_sign s v k) k (no_sign t w m) m (val_le x y s t v w i j h))) d)

-- ---- sums and squares of what is not below zero
mi_none : (x : Float) (s : Bool) (v : ℕ) → Is x s v → le nought x ≡ true → mi s v ≡ 0
mi_none x s v i h = go s (val_le nought x false s 0 v nought_is i h)
  where
    go : (s : Bool) → 0 + mi s v ≤ pl s v + 0 → mi s v ≡ 0
    go true l = omega arith
    go false l = refl

fin_add : (x y : Float) → T (fits binary64 x) → T (fits binary64 y) → T (finite x) → T (finite y) → le nought x ≡ true → le nought y ≡ true → (le x (add binary64 x y) ≡ true) × (le y (add binary64 x y) ≡ true)
fin_add x y tx ty fx fy nx ny =
    let X = held x tx fx in
    let Y = held y ty fy in
    let r = rnd_add x y X.s Y.s X.v Y.v X.is Y.is in (
      rnd_mono1 x (add binary64 x y) (pl X.s X.v) (mi X.s X.v) (pl X.s X.v + pl Y.s Y.v) (mi X.s X.v + mi Y.s Y.v) U U_pos (rnd_self x tx X) r (left (pl X.s X.v) (mi X.s X.v) (pl Y.s Y.v) (mi Y.s Y.v) (mi_none y Y.s Y.v Y.is ny)),
      rnd_mono1 y (add binary64 x y) (pl Y.s Y.v) (mi Y.s Y.v) (pl X.s X.v + pl Y.s Y.v) (mi X.s X.v + mi Y.s Y.v) U U_pos (rnd_self y ty Y) r (right (pl X.s X.v) (mi X.s X.v) (pl Y.s Y.v) (mi Y.s Y.v) (mi_none x X.s X.v X.is nx)),
    )
  where
    left : (p n q m : ℕ) → m ≡ 0 → p + (n + m) ≤ p + q + n
    left p n q m e = omega arith

    right : (p n q m : ℕ) → n ≡ 0 → q + (n + m) ≤ p + q + m
    right p n q m e = omega arith

top_add : (y : Float) → le nought y ≡ true → add binary64 (inf false) y ≡ inf false
unfolding add
top_add nan h = absurd (true≢false (sym nan_is ∙ order.le_right nought nan h))
top_add (inf true) h = absurd (true≢false (sym h ∙ nought_low))
top_add (inf false) h = refl
top_add (fin s m e) h = refl

add_top : (x : Float) → le nought x ≡ true → add binary64 x (inf false) ≡ inf false
unfolding add
add_top nan h = absurd (true≢false (sym nan_is ∙ order.le_right nought nan h))
add_top (inf true) h = absurd (true≢false (sym h ∙ nought_low))
add_top (inf false) h = refl
add_top (fin s m e) h = refl

both_top : (x y z : Float) → z ≡ inf false → le nought x ≡ true → le nought y ≡ true → (le x z ≡ true) × (le y z ≡ true)
both_top x y z e nx ny = (ap (λ (w : Float). le x w) e ∙ le_top x (order.le_right nought x nx), ap (λ (w : Float). le y w) e ∙ le_top y (order.le_right nought y ny))

pub add_above : (x y : Float) → T (fits binary64 x) → T (fits binary64 y) → le nought x ≡ true → le nought y ≡ true → (le x (add binary64 x y) ≡ true) × (le y (add binary64 x y) ≡ true)
add_above nan y tx ty nx ny = absurd (true≢false (sym nan_is ∙ order.le_right nought nan nx))
add_above (inf true) y tx ty nx ny = absurd (true≢false (sym nx ∙ nought_low))
add_above (inf false) y tx ty nx ny = both_top (inf false) y (add binary64 (inf false) y) (top_add y ny) nx ny
add_above (fin s m e) nan tx ty nx ny = absurd (true≢false (sym nan_is ∙ order.le_right nought nan ny))
add_above (fin s m e) (inf true) tx ty nx ny = absurd (true≢false (sym ny ∙ nought_low))
add_above (fin s m e) (inf false) tx ty nx ny = both_top (fin s m e) (inf false) (add binary64 (fin s m e) (inf false)) (add_top (fin s m e) nx) nx ny
add_above (fin s m e) (fin t n d) tx ty nx ny = fin_add (fin s m e) (fin t n d) tx ty tt tt nx ny

pub sq_is : (d : Float) (s : Bool) (a : ℕ) → Is d s a → mul binary64 d d ≡ round binary64 false (a * a) (U * U)
sq_is d s a i = mul_is d d s s a a i i ∙ ap (λ (z : Bool). round binary64 z (a * a) (U * U)) (same s)
  where
    same : (s : Bool) → unlike s s ≡ false
    same true = refl
    same false = refl

sq_nn : (d : Float) → T (fits binary64 d) → T (finite d) → le nought (mul binary64 d d) ≡ true
sq_nn d t f = let H = held d t f in ap (λ (z : Float). le nought z) (sq_is d H.s H.v H.is) ∙ round_nn (H.v * H.v) (U * U) (mul-pos U_pos U_pos)

sq_mono : (x d : Float) (s t : Bool) (a b : ℕ) → Is x s a → Is d t b → a ≤ b → le (mul binary64 x x) (mul binary64 d d) ≡ true
sq_mono x d s t a b i j h =
    ap (λ (z : Float). le z (mul binary64 d d)) (sq_is x s a i) ∙ ap (λ (z : Float). le (round binary64 false (a * a) (U * U)) z) (sq_is d t b j)
    ∙ is_true (le (round binary64 false (a * a) (U * U)) (round binary64 false (b * b) (U * U))) (round_mono binary64 (a * a) (U * U) (b * b) (U * U) (mul-pos U_pos U_pos) (mul-pos U_pos U_pos) (mul-le-mul_right (U * U) (mul-le-mul h h)))

abbrev pub norm : Float → Float → Float → Float
norm x y z = root (add binary64 (add binary64 (mul binary64 x x) (mul binary64 y y)) (mul binary64 z z))

-- ---- a value c of 53 digits, M * 2 ^ k units, and the next value up, n, which is at most the root of its own square
module _ (c n : Float) (M k : ℕ) (c-is : Is c false (M * 2 ^ k)) (n_is : Is n false (suc M * 2 ^ k)) (n_fits : T (fits binary64 n)) (M-lo : 2 ^ 52 ≤ M) (n_root : le n (root (mul binary64 n n)) ≡ true) where
  -- nothing lies between the two
  jump : (a q j : ℕ) → a ≡ q * 2 ^ j → q < 2 ^ 53 → M * 2 ^ k < a → suc M * 2 ^ k ≤ a
  jump a q j e f h = go (le_or_lt k j)
    where
      split : (j : ℕ) → k ≤ j → j ≡ j - k + k
      split j h = omega arith

      go : (k ≤ j) ⊎ (j < k) → suc M * 2 ^ k ≤ a
      go (inl l) =
          let i : a ≡ q * 2 ^ (j - k) * 2 ^ k = e ∙ ap (λ (z : ℕ). q * z) (ap (λ (z : ℕ). 2 ^ z) (split j l) ∙ pow-add 2 (j - k) k) ∙ sym (mul_assoc q (2 ^ (j - k)) (2 ^ k)) in
          le_trans (mul-le-mul_right (2 ^ k) (lt_of_mul-lt-mul_right (2 ^ k) (lt_of_lt_of_le h (le_of_eq i)))) (le_of_eq (sym i))
      go (inr l) = absurd (small (2 ^ j) (2 ^ k) a (mul-le-mul_right (2 ^ j) (le_of_lt f)) (le_trans (le_of_eq (sym (native.Mathlib.Nat.pow-succ' 2 j))) (pow_mono l)) (mul-le-mul_right (2 ^ k) M-lo) h e)
        where
          small : (p g a : ℕ) → q * p ≤ 2 ^ 53 * p → 2 * p ≤ g → 2 ^ 52 * g ≤ M * g → M * g < a → a ≡ q * p → ⊥
          small p g a x y u z w = omega arith

  next_not : le n c ≡ true → ⊥
  next_not h = go (2 ^ k) (pow_pos k) (val_le n c false false (suc M * 2 ^ k) (M * 2 ^ k) n_is c-is h)
    where
      go : (g : ℕ) → 0 < g → suc M * g + 0 ≤ M * g + 0 → ⊥
      go g p h = omega arith

  -- a part whose square is at most a sum with a root up to c
  part_small : (d sum : Float) → T (fits binary64 d) → T (finite d) → T (fits binary64 sum) → le (mul binary64 d d) sum ≡ true → le (root sum) c ≡ true → le (size_of d) c ≡ true
  part_small d sum td fd ts h l = test (le (size_of d) c) refl
    where
      test : (b : Bool) → le (size_of d) c ≡ b → le (size_of d) c ≡ true
      test true e = e
      test false e =
          let H = held d td fd in
          let big : suc M * 2 ^ k ≤ H.v = jump H.v H.q H.j H.shape H.few (more (le_or_lt H.v (M * 2 ^ k))) in
          let up : le (mul binary64 n n) sum ≡ true = order.le_trans (mul binary64 n n) (mul binary64 d d) sum (sq_mono n d false H.s (suc M * 2 ^ k) H.v n_is H.is big) h in
          let r : le (root (mul binary64 n n)) (root sum) ≡ true = root_mono (mul binary64 n n) sum (mul-fits binary64 n n) ts (sq_nn n n_fits (is_finite n false (suc M * 2 ^ k) n_is)) up in
          absurd (next_not (order.le_trans n (root sum) c (order.le_trans n (root (mul binary64 n n)) (root sum) n_root r) l))
        where
          more : ((held d td fd).v ≤ M * 2 ^ k) ⊎ (M * 2 ^ k < (held d td fd).v) → M * 2 ^ k < (held d td fd).v
          more (inr g) = g
          more (inl g) = absurd (true≢false (sym (le_val (size_of d) c false false (held d td fd).v (M * 2 ^ k) (size_is d (held d td fd).s (held d td fd).v (held d td fd).is) c-is (flat (held d td fd).v (M * 2 ^ k) g)) ∙ e))
            where
              flat : (a b : ℕ) → a ≤ b → a + 0 ≤ b + 0
              flat a b h = omega arith

  -- the gap law
  pub gap_law_at : (x y z : Float) → T (fits binary64 x) → T (fits binary64 y) → T (fits binary64 z) → T (finite x) → T (finite y) → T (finite z)
      → le (norm x y z) c ≡ true → (le (size_of x) c ≡ true) × (le (size_of y) c ≡ true) × (le (size_of z) c ≡ true)
  gap_law_at x y z tx ty tz fx fy fz h =
      let X = mul binary64 x x in
      let Y = mul binary64 y y in
      let Z = mul binary64 z z in
      let P = add binary64 X Y in
      let Q = add binary64 P Z in
      let nx = sq_nn x tx fx in
      let ny = sq_nn y ty fy in
      let nz = sq_nn z tz fz in
      let p = add_above X Y (mul-fits binary64 x x) (mul-fits binary64 y y) nx ny in
      let np : le nought P ≡ true = order.le_trans nought X P nx p.0 in
      let q = add_above P Z (add-fits binary64 X Y) (mul-fits binary64 z z) np nz in (
        part_small x Q tx fx (add-fits binary64 P Z) (order.le_trans X P Q p.0 q.0) h,
        part_small y Q ty fy (add-fits binary64 P Z) (order.le_trans Y P Q p.1 q.0) h,
        part_small z Q tz fz (add-fits binary64 P Z) q.1 h,
      )

-- ---- a norm grows with its parts
size_units : (x x' : Float) (tx : T (fits binary64 x)) (tx' : T (fits binary64 x')) (fx : T (finite x)) (fx' : T (finite x')) → le (size_of x) (size_of x') ≡ true → (held x tx fx).v ≤ (held x' tx' fx').v
size_units x x' tx tx' fx fx' h =
    let X = held x tx fx in
    let Y = held x' tx' fx' in
    go X.v Y.v (val_le (size_of x) (size_of x') false false X.v Y.v (size_is x X.s X.v X.is) (size_is x' Y.s Y.v Y.is) h)
  where
    go : (a b : ℕ) → a + 0 ≤ b + 0 → a ≤ b
    go a b h = omega arith

sq_grows : (x x' : Float) → T (fits binary64 x) → T (fits binary64 x') → T (finite x) → T (finite x') → le (size_of x) (size_of x') ≡ true → le (mul binary64 x x) (mul binary64 x' x') ≡ true
sq_grows x x' tx tx' fx fx' h =
    let X = held x tx fx in
    let Y = held x' tx' fx' in
    sq_mono x x' X.s Y.s X.v Y.v X.is Y.is (size_units x x' tx tx' fx fx' h)

sum_number : (x y : Float) → T (fits binary64 x) → T (fits binary64 y) → le nought x ≡ true → le nought y ≡ true → is_nan (add binary64 x y) ≡ false
sum_number x y tx ty nx ny = order.le_right x (add binary64 x y) (add_above x y tx ty nx ny).0

sum_grows : (x x' y y' : Float) → T (fits binary64 x) → T (fits binary64 x') → T (fits binary64 y) → T (fits binary64 y') → le nought x ≡ true → le nought y ≡ true → le x x' ≡ true → le y y' ≡ true → le (add binary64 x y) (add binary64 x' y') ≡ true
sum_grows x x' y y' tx tx' ty ty' nx ny h k =
    let nx' = order.le_trans nought x x' nx h in
    let ny' = order.le_trans nought y y' ny k in
    order.le_trans (add binary64 x y) (add binary64 x' y) (add binary64 x' y') (add_mono x x' y tx tx' ty (sum_number x y tx ty nx ny) (sum_number x' y tx' ty nx' ny) h) (add_mono_right x' y y' tx' ty ty' (sum_number x' y tx' ty nx' ny) (sum_number x' y' tx' ty' nx' ny') k)

sum_nn : (x y : Float) → T (fits binary64 x) → T (fits binary64 y) → le nought x ≡ true → le nought y ≡ true → le nought (add binary64 x y) ≡ true
sum_nn x y tx ty nx ny = order.le_trans nought x (add binary64 x y) nx (add_above x y tx ty nx ny).0

pub norm_mono : (x y z x' y' z' : Float) → T (fits binary64 x) → T (fits binary64 y) → T (fits binary64 z) → T (fits binary64 x') → T (fits binary64 y') → T (fits binary64 z')
    → T (finite x) → T (finite y) → T (finite z) → T (finite x') → T (finite y') → T (finite z')
    → le (size_of x) (size_of x') ≡ true → le (size_of y) (size_of y') ≡ true → le (size_of z) (size_of z') ≡ true → le (norm x y z) (norm x' y' z') ≡ true
norm_mono x y z x' y' z' tx ty tz tx' ty' tz' fx fy fz fx' fy' fz' a b c =
    let X = mul binary64 x x in
    let Y = mul binary64 y y in
    let Z = mul binary64 z z in
    let X' = mul binary64 x' x' in
    let Y' = mul binary64 y' y' in
    let Z' = mul binary64 z' z' in
    let nX = sq_nn x tx fx in
    let nY = sq_nn y ty fy in
    let nZ = sq_nn z tz fz in
    let p = sum_grows X X' Y Y' (mul-fits binary64 x x) (mul-fits binary64 x' x') (mul-fits binary64 y y) (mul-fits binary64 y' y') nX nY (sq_grows x x' tx tx' fx fx' a) (sq_grows y y' ty ty' fy fy' b) in
    let nP = sum_nn X Y (mul-fits binary64 x x) (mul-fits binary64 y y) nX nY in
    let q = sum_grows (add binary64 X Y) (add binary64 X' Y') Z Z' (add-fits binary64 X Y) (add-fits binary64 X' Y') (mul-fits binary64 z z) (mul-fits binary64 z' z') nP nZ p (sq_grows z z' tz tz' fz fz' c) in
    root_mono (add binary64 (add binary64 X Y) Z) (add binary64 (add binary64 X' Y') Z') (add-fits binary64 (add binary64 X Y) Z) (add-fits binary64 (add binary64 X' Y') Z') (sum_nn (add binary64 X Y) Z (add-fits binary64 X Y) (mul-fits binary64 z z) nP nZ) q

-- ---- a distance is the same from either end, bit for bit, for every f64
abbrev pub distance : Float → Float → Float → Float → Float → Float → Float
distance a b c x y z = norm (sub binary64 a x) (sub binary64 b y) (sub binary64 c z)

pub distance_symmetric : (a b c x y z : Float) → T (fits binary64 a) → T (fits binary64 b) → T (fits binary64 c) → T (fits binary64 x) → T (fits binary64 y) → T (fits binary64 z) → distance a b c x y z ≡ distance x y z a b c
distance_symmetric a b c x y z ta tb tc tx ty tz =
    let B = mul binary64 (sub binary64 b y) (sub binary64 b y) in
    let C = mul binary64 (sub binary64 c z) (sub binary64 c z) in
    let X = mul binary64 (sub binary64 x a) (sub binary64 x a) in
    let Y = mul binary64 (sub binary64 y b) (sub binary64 y b) in
    ap (λ (w : Float). root (add binary64 (add binary64 w B) C)) (square_sub_symmetric a x ta tx)
    ∙ ap (λ (w : Float). root (add binary64 (add binary64 X w) C)) (square_sub_symmetric b y tb ty)
    ∙ ap (λ (w : Float). root (add binary64 (add binary64 X Y) w)) (square_sub_symmetric c z tc tz)
