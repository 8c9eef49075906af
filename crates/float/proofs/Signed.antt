-- The order of finite f64 values as one of whole numbers of units, and rounding that keeps it, signs and all: of two exact results the larger rounds to a value that is no smaller.
-- A signed number is a difference of two whole numbers: `pl` less `mi`.
use Rattle.std.proofs.Common.{◌≡◌, ℕ, zero, suc, ◌+◌, ◌-◌, ◌*◌, ◌^◌, ◌<◌, ◌≤◌, Bool, true, false, cond, not, T, ltb, ◌⊎◌, sym, refl, ap, ◌∙◌, subst, inl, inr, true≢false, le_trans, le_of_eq, mul-le-mul_right, mul-pos, not-le_of_lt, le_of_mul-le-mul_right, arith, ltb→lt, nltb→le}
use lib.Ieee.{Float, nan, inf, fin, binary64, unlike, up, down, odd, units, round, sum, add, sub, mul, neg, lt, eq, le, fits}
use lib.Ieee.Fits.{round_is, down_pos}
use lib.Ieee.Bits.{is_true}
use lib.Ieee.Order.{round_mono, drop, kept}
use lib.Ieee.Scale.{finite}
use Rattle.float.proofs.Rounding.{U_pos, mul_is}
use Rattle.float.proofs.Order as order
use Rattle.float.proofs.Order.{Leq, leq, to, from, neg_le}
use Rattle.float.proofs.Units.{Held, held, round_self, le_or_lt, number}
use Rattle.float.specs.Units.{U, Is}
use Rattle.float.specs.Helpers.{negative}

abbrev pub pl : Bool → ℕ → ℕ
pl false v = v
pl true v = 0

abbrev pub mi : Bool → ℕ → ℕ
mi false v = 0
mi true v = v

pub negative_is : (x : Float) (s : Bool) (v : ℕ) → Is x s v → negative x ≡ s
negative_is nan s v h = absurd h
negative_is (inf t) s v h = absurd h
negative_is (fin t m e) s v h = h.0

-- ---- `le` of two finite values, by their units
abbrev pub Below : Bool → ℕ → Bool → ℕ → Type 0
Below s a t b = pl s a + mi t b ≤ pl t b + mi s a

leq_of : (s : Bool) (a : ℕ) (t : Bool) (b : ℕ) → Below s a t b → Leq s a t b
leq_of false a false b h = omega arith
leq_of false a true b h = (omega arith, omega arith)
leq_of true a false b h = tt
leq_of true a true b h = omega arith

of_leq : (s : Bool) (a : ℕ) (t : Bool) (b : ℕ) → Leq s a t b → Below s a t b
of_leq false a false b h = omega arith
of_leq false a true b h = omega arith
of_leq true a false b h = omega arith
of_leq true a true b h = omega arith

scale_le : (A B a b C u : ℕ) → 0 < u → A * u ≡ a * C → B * u ≡ b * C → a ≤ b → A ≤ B
scale_le A B a b C u P e f h = le_of_mul-le-mul_right {k = u} (le_trans (le_of_eq e) (le_trans (mul-le-mul_right C h) (le_of_eq (sym f)))) P

scale_zero : (A a C u : ℕ) → 0 < u → A * u ≡ a * C → a ≡ 0 → A ≡ 0
scale_zero A a C u P e h = go (scale_le A 0 a 0 C u P e (none u C) (le_of_eq h))
  where
    none : (u c : ℕ) → 0 * u ≡ 0 * c
    none u c = omega arith

    go : A ≤ 0 → A ≡ 0
    go l = omega arith

leq_scale : (s t : Bool) (A B a b C u : ℕ) → 0 < u → A * u ≡ a * C → B * u ≡ b * C → Leq s a t b → Leq s A t B
leq_scale false false A B a b C u P e f h = scale_le A B a b C u P e f h
leq_scale false true A B a b C u P e f h = (scale_zero A a C u P e h.0, scale_zero B b C u P f h.1)
leq_scale true false A B a b C u P e f h = tt
leq_scale true true A B a b C u P e f h = scale_le B A b a C u P f e h

cross1 : (x a de dd u : ℕ) → x * u ≡ a * de → x * dd * u ≡ a * (de * dd)
cross1 x a de dd u p =
    let l : x * u * dd ≡ a * de * dd = ap (λ (z : ℕ). z * dd) p in
    omega arith

cross2 : (y b de dd u : ℕ) → y * u ≡ b * dd → y * de * u ≡ b * (de * dd)
cross2 y b de dd u p =
    let l : y * u * de ≡ b * dd * de = ap (λ (z : ℕ). z * de) p in
    omega arith

pub le_val : (x y : Float) (s t : Bool) (a b : ℕ) → Is x s a → Is y t b → Below s a t b → le x y ≡ true
le_val nan y s t a b p q h = absurd p
le_val (inf r) y s t a b p q h = absurd p
le_val (fin s' m e) nan s t a b p q h = absurd q
le_val (fin s' m e) (inf t') s t a b p q h = absurd q
le_val (fin s' m e) (fin t' n d) s t a b p q h =
    unfold le in unfold lt in unfold eq in
    from s' (m * up e * down d) t' (n * up d * down e)
    (leq_scale s' t' (m * up e * down d) (n * up d * down e) a b (down e * down d) U U_pos (cross1 (m * up e) a (down e) (down d) U p.1) (cross2 (n * up d) b (down e) (down d) U q.1)
    (leq_of s' a t' b (subst (λ (z : Bool). Below z a t' b) (sym p.0) (subst (λ (z : Bool). Below s a z b) (sym q.0) h))))

pub val_le : (x y : Float) (s t : Bool) (a b : ℕ) → Is x s a → Is y t b → le x y ≡ true → Below s a t b
val_le nan y s t a b p q h = absurd p
val_le (inf r) y s t a b p q h = absurd p
val_le (fin s' m e) nan s t a b p q h = absurd q
val_le (fin s' m e) (inf t') s t a b p q h = absurd q
val_le (fin s' m e) (fin t' n d) s t a b p q h =
    subst (λ (z : Bool). Below z a t b) p.0
    (subst (λ (z : Bool). Below s' a z b) q.0
    (of_leq s' a t' b
    (leq_scale s' t' a b (m * up e * down d) (n * up d * down e) U (down e * down d) (mul-pos (down_pos e) (down_pos d)) (sym (cross1 (m * up e) a (down e) (down d) U p.1)) (sym (cross2 (n * up d) b (down e) (down d) U q.1))
    (to s' (m * up e * down d) t' (n * up d * down e) (opened h)))))
  where
    opened : le (fin s' m e) (fin t' n d) ≡ true → leq s' (m * up e * down d) t' (n * up d * down e) ≡ true
    opened h = unfold le in unfold lt in unfold eq in h

pub val_lt : (x y : Float) (s t : Bool) (a b : ℕ) → Is x s a → Is y t b → lt x y ≡ true → pl s a + mi t b < pl t b + mi s a
val_lt x y s t a b p q h = go (le_or_lt (pl t b + mi s a) (pl s a + mi t b))
  where
    go : (pl t b + mi s a ≤ pl s a + mi t b) ⊎ (pl s a + mi t b < pl t b + mi s a) → pl s a + mi t b < pl t b + mi s a
    go (inr l) = l
    go (inl l) = absurd (true≢false (sym (le_val y x t s b a q p l) ∙ order.lt_not_le x y h))

pub lt_val : (x y : Float) (s t : Bool) (a b : ℕ) → Is x s a → Is y t b → pl s a + mi t b < pl t b + mi s a → lt x y ≡ true
lt_val x y s t a b p q h = order.not_le_lt x y (number x s a p) (number y t b q) (go (le y x) refl)
  where
    go : (r : Bool) → le y x ≡ r → r ≡ false
    go false e = refl
    go true e = absurd (not-le_of_lt h (val_le y x t s b a q p e))

-- ---- `round` with the sign set is `neg` of `round`
odd_neg : (d q k l : ℕ) → odd d true q k l ≡ neg (odd d false q k l)
unfolding odd neg
odd_neg d zero k l = refl
odd_neg d (suc q) k l = refl

units_neg : (q k : ℕ) → units binary64 true q k ≡ neg (units binary64 false q k)
unfolding units neg
units_neg q k = go (ltb (q * 2 ^ k) (2 ^ 2098))
  where
    go : (b : Bool) → cond b (odd 54 true q k 1074) (inf true) ≡ neg (cond b (odd 54 false q k 1074) (inf false))
    go true = odd_neg 54 q k 1074
    go false = refl

pub round_neg : (a c : ℕ) → round binary64 true a c ≡ neg (round binary64 false a c)
round_neg a c =
    round_is binary64 true a c ∙ units_neg (kept 53 (a * 2 ^ 1074) c) (drop 53 (a * 2 ^ 1074) c) ∙ ap neg (sym (round_is binary64 false a c))

-- ---- rounding keeps the order
abbrev nought : Float
nought = round binary64 false 0 1

nought_le : le nought (neg nought) ≡ true
unfolding le lt eq neg round
nought_le = refl

le_nought : le (neg nought) nought ≡ true
unfolding le lt eq neg round
le_nought = refl

pos_mono : (a b c d : ℕ) → 0 < b → 0 < d → a * d ≤ c * b → le (round binary64 false a b) (round binary64 false c d) ≡ true
pos_mono a b c d B D h = is_true (le (round binary64 false a b) (round binary64 false c d)) (round_mono binary64 a b c d B D h)

neg_mono : (a b c d : ℕ) → 0 < b → 0 < d → c * b ≤ a * d → le (round binary64 true a b) (round binary64 true c d) ≡ true
neg_mono a b c d B D h =
    ap (λ (z : Float). le z (round binary64 true c d)) (round_neg a b) ∙ ap (λ (z : Float). le (neg (round binary64 false a b)) z) (round_neg c d)
    ∙ neg_le (round binary64 false c d) (round binary64 false a b) ∙ pos_mono c d a b D B h

one : 0 < 1
one = omega arith

neg_pos : (a b c d : ℕ) → 0 < b → 0 < d → le (round binary64 true a b) (round binary64 false c d) ≡ true
neg_pos a b c d B D =
    order.le_trans (round binary64 true a b) (neg nought) (round binary64 false c d)
    (subst (λ (z : Float). le (round binary64 true a b) z ≡ true) (round_neg 0 1) (neg_mono a b 0 1 B one (omega arith)))
    (order.le_trans (neg nought) nought (round binary64 false c d) le_nought (pos_mono 0 1 c d one D (omega arith)))

pos_neg : (b d : ℕ) → 0 < b → 0 < d → le (round binary64 false 0 b) (round binary64 true 0 d) ≡ true
pos_neg b d B D =
    order.le_trans (round binary64 false 0 b) nought (round binary64 true 0 d) (pos_mono 0 b 0 1 B one (omega arith))
    (order.le_trans nought (neg nought) (round binary64 true 0 d) nought_le
    (subst (λ (z : Float). le z (round binary64 true 0 d) ≡ true) (round_neg 0 1) (neg_mono 0 1 0 d one D (omega arith))))

-- z is (p - n) / c units, rounded. (p - n) / c is ± v / k
pub record Rnd (z : Float) (p n c : ℕ) : Type 0 where
  pub s : Bool
  pub v : ℕ
  pub k : ℕ
  pub k_pos : 0 < k
  pub is : z ≡ round binary64 s v k
  pub same : pl s v * c + n * k ≡ p * k + mi s v * c

mono_pp : (v w k l p n p' n' c c' : ℕ) → 0 < c → 0 < c' → v * c + n * k ≡ p * k + 0 * c → w * c' + n' * l ≡ p' * l + 0 * c' → p * c' + n' * c ≤ p' * c + n * c' → v * l ≤ w * k
mono_pp v w k l p n p' n' c c' C C' e f h = le_of_mul-le-mul_right {k = c * c'} (go (ap (λ (z : ℕ). z * (c' * l)) e) (ap (λ (z : ℕ). z * (c * k)) f) (mul-le-mul_right (k * l) h)) (mul-pos C C')
  where
    go : (v * c + n * k) * (c' * l) ≡ (p * k + 0 * c) * (c' * l) → (w * c' + n' * l) * (c * k) ≡ (p' * l + 0 * c') * (c * k) → (p * c' + n' * c) * (k * l) ≤ (p' * c + n * c') * (k * l) → v * l * (c * c') ≤ w * k * (c * c')
    go a b d = omega arith

mono_nn : (v w k l p n p' n' c c' : ℕ) → 0 < c → 0 < c' → 0 * c + n * k ≡ p * k + v * c → 0 * c' + n' * l ≡ p' * l + w * c' → p * c' + n' * c ≤ p' * c + n * c' → w * k ≤ v * l
mono_nn v w k l p n p' n' c c' C C' e f h = le_of_mul-le-mul_right {k = c * c'} (go (ap (λ (z : ℕ). z * (c' * l)) e) (ap (λ (z : ℕ). z * (c * k)) f) (mul-le-mul_right (k * l) h)) (mul-pos C C')
  where
    go : (0 * c + n * k) * (c' * l) ≡ (p * k + v * c) * (c' * l) → (0 * c' + n' * l) * (c * k) ≡ (p' * l + w * c') * (c * k) → (p * c' + n' * c) * (k * l) ≤ (p' * c + n * c') * (k * l) → w * k * (c * c') ≤ v * l * (c * c')
    go a b d = omega arith

mono_pn : (v w k l p n p' n' c c' : ℕ) → 0 < c → 0 < c' → 0 < k → 0 < l → v * c + n * k ≡ p * k + 0 * c → 0 * c' + n' * l ≡ p' * l + w * c' → p * c' + n' * c ≤ p' * c + n * c' → (v ≡ 0) × (w ≡ 0)
mono_pn v w k l p n p' n' c c' C C' K L e f h =
    let s : v * l * (c * c') + w * k * (c * c') ≤ 0 = go (ap (λ (z : ℕ). z * (c' * l)) e) (ap (λ (z : ℕ). z * (c * k)) f) (mul-le-mul_right (k * l) h) in
    (zero_of v (l * (c * c')) (mul-pos L (mul-pos C C')) (left s), zero_of w (k * (c * c')) (mul-pos K (mul-pos C C')) (right s))
  where
    go : (v * c + n * k) * (c' * l) ≡ (p * k + 0 * c) * (c' * l) → (0 * c' + n' * l) * (c * k) ≡ (p' * l + w * c') * (c * k) → (p * c' + n' * c) * (k * l) ≤ (p' * c + n * c') * (k * l) → v * l * (c * c') + w * k * (c * c') ≤ 0
    go a b d = omega arith

    left : v * l * (c * c') + w * k * (c * c') ≤ 0 → v * (l * (c * c')) ≤ 0
    left s = omega arith

    right : v * l * (c * c') + w * k * (c * c') ≤ 0 → w * (k * (c * c')) ≤ 0
    right s = omega arith

    zero_of : (a b : ℕ) → 0 < b → a * b ≤ 0 → a ≡ 0
    zero_of a b B g = fin0 (le_of_mul-le-mul_right {m = a} {n = 0} {k = b} (none g) B)
      where
        none : a * b ≤ 0 → a * b ≤ 0 * b
        none g = omega arith

        fin0 : a ≤ 0 → a ≡ 0
        fin0 h = omega arith

signed_mono : (s t : Bool) (v w k l p n p' n' c c' : ℕ) → 0 < c → 0 < c' → 0 < k → 0 < l → pl s v * c + n * k ≡ p * k + mi s v * c → pl t w * c' + n' * l ≡ p' * l + mi t w * c'
    → p * c' + n' * c ≤ p' * c + n * c' → le (round binary64 s v k) (round binary64 t w l) ≡ true
signed_mono false false v w k l p n p' n' c c' C C' K L e f h = pos_mono v k w l K L (mono_pp v w k l p n p' n' c c' C C' e f h)
signed_mono false true v w k l p n p' n' c c' C C' K L e f h =
    let z = mono_pn v w k l p n p' n' c c' C C' K L e f h in
    ap (λ (x : ℕ). le (round binary64 false x k) (round binary64 true w l)) z.0 ∙ ap (λ (x : ℕ). le (round binary64 false 0 k) (round binary64 true x l)) z.1 ∙ pos_neg k l K L
signed_mono true false v w k l p n p' n' c c' C C' K L e f h = neg_pos v k w l K L
signed_mono true true v w k l p n p' n' c c' C C' K L e f h = neg_mono v k w l K L (mono_nn v w k l p n p' n' c c' C C' e f h)

pub rnd_mono : (z w : Float) (p n p' n' c c' : ℕ) → 0 < c → 0 < c' → Rnd z p n c → Rnd w p' n' c' → p * c' + n' * c ≤ p' * c + n * c' → le z w ≡ true
rnd_mono z w p n p' n' c c' C C' r r' h =
    ap (λ (x : Float). le x w) r.is ∙ ap (λ (x : Float). le (round binary64 r.s r.v r.k) x) r'.is
    ∙ signed_mono r.s r'.s r.v r'.v r.k r'.k p n p' n' c c' C C' r.k_pos r'.k_pos r.same r'.same h

-- with one denominator
pub rnd_mono1 : (z w : Float) (p n p' n' c : ℕ) → 0 < c → Rnd z p n c → Rnd w p' n' c → p + n' ≤ p' + n → le z w ≡ true
rnd_mono1 z w p n p' n' c C r r' h = rnd_mono z w p n p' n' c c C C r r' (go (mul-le-mul_right c h))
  where
    go : (p + n') * c ≤ (p' + n) * c → p * c + n' * c ≤ p' * c + n * c
    go l = omega arith

-- ---- a value is its own rounding
pub rnd_self : (x : Float) (f : T (fits binary64 x)) (h : Held x) → Rnd x (pl h.s h.v) (mi h.s h.v) U
rnd_self x f h = record { s = h.s; v = h.v; k = U; k_pos = U_pos; is = round_self x f h; same = refl }

-- ---- the sum
sum_rnd : (s t : Bool) (A B a b C u : ℕ) → 0 < C → A * u ≡ a * C → B * u ≡ b * C → Rnd (sum binary64 s A t B C) (pl s a + pl t b) (mi s a + mi t b) u
sum_rnd false false A B a b C u P e f = record { s = false; v = A + B; k = C; k_pos = P; is = unfold sum in refl; same = omega arith }
sum_rnd true true A B a b C u P e f = record { s = true; v = A + B; k = C; k_pos = P; is = unfold sum in refl; same = omega arith }
sum_rnd false true A B a b C u P e f = unfold sum in go (ltb A B) (ltb→lt A B) (nltb→le A B)
  where
    less : A < B → B ≡ A + (B - A)
    less l = omega arith

    more : B ≤ A → A ≡ B + (A - B)
    more l = omega arith

    yes_eq : (x : ℕ) → B ≡ A + x → 0 * u + (0 + b) * C ≡ (a + 0) * C + x * u
    yes_eq x g =
        let i : B * u ≡ (A + x) * u = ap (λ (z : ℕ). z * u) g in
        omega arith

    no_eq : (x : ℕ) → A ≡ B + x → x * u + (0 + b) * C ≡ (a + 0) * C + 0 * u
    no_eq x g =
        let i : A * u ≡ (B + x) * u = ap (λ (z : ℕ). z * u) g in
        omega arith

    go : (t : Bool) → (T t → A < B) → (T (not t) → B ≤ A) → Rnd (cond t (round binary64 true (B - A) C) (round binary64 false (A - B) C)) (a + 0) (0 + b) u
    go true h l = record { s = true; v = B - A; k = C; k_pos = P; is = refl; same = yes_eq (B - A) (less (h tt)) }
    go false h l = record { s = false; v = A - B; k = C; k_pos = P; is = refl; same = no_eq (A - B) (more (l tt)) }
sum_rnd true false A B a b C u P e f = unfold sum in go (ltb A B) (ltb B A) (ltb→lt A B) (nltb→le A B) (nltb→le B A)
  where
    less : A < B → B ≡ A + (B - A)
    less l = omega arith

    more : B ≤ A → A ≡ B + (A - B)
    more l = omega arith

    none : B ≤ A → A ≤ B → B ≡ A + (A - B)
    none h l = omega arith

    yes_eq : (x : ℕ) → B ≡ A + x → x * u + (a + 0) * C ≡ (0 + b) * C + 0 * u
    yes_eq x g =
        let i : B * u ≡ (A + x) * u = ap (λ (z : ℕ). z * u) g in
        omega arith

    no_eq : (x : ℕ) → A ≡ B + x → 0 * u + (a + 0) * C ≡ (0 + b) * C + x * u
    no_eq x g =
        let i : A * u ≡ (B + x) * u = ap (λ (z : ℕ). z * u) g in
        omega arith

    go : (t r : Bool) → (T t → A < B) → (T (not t) → B ≤ A) → (T (not r) → A ≤ B) → Rnd (cond t (round binary64 false (B - A) C) (round binary64 r (A - B) C)) (0 + b) (a + 0) u
    go true r h l m = record { s = false; v = B - A; k = C; k_pos = P; is = refl; same = yes_eq (B - A) (less (h tt)) }
    go false true h l m = record { s = true; v = A - B; k = C; k_pos = P; is = refl; same = no_eq (A - B) (more (l tt)) }
    go false false h l m = record { s = false; v = A - B; k = C; k_pos = P; is = refl; same = yes_eq (A - B) (none (l tt) (m tt)) }

pub rnd_add : (x y : Float) (s t : Bool) (a b : ℕ) → Is x s a → Is y t b → Rnd (add binary64 x y) (pl s a + pl t b) (mi s a + mi t b) U
rnd_add nan y s t a b p q = absurd p
rnd_add (inf r) y s t a b p q = absurd p
rnd_add (fin s' m e) nan s t a b p q = absurd q
rnd_add (fin s' m e) (inf t') s t a b p q = absurd q
rnd_add (fin s' m e) (fin t' n d) s t a b p q =
    subst (λ (z : Bool). Rnd (add binary64 (fin s' m e) (fin t' n d)) (pl z a + pl t b) (mi z a + mi t b) U) p.0
    (subst (λ (z : Bool). Rnd (add binary64 (fin s' m e) (fin t' n d)) (pl s' a + pl z b) (mi s' a + mi z b) U) q.0
    (subst (λ (z : Float). Rnd z (pl s' a + pl t' b) (mi s' a + mi t' b) U) (sym opened)
    (sum_rnd s' t' (m * up e * down d) (n * up d * down e) a b (down e * down d) U (mul-pos (down_pos e) (down_pos d)) (cross1 (m * up e) a (down e) (down d) U p.1) (cross2 (n * up d) b (down e) (down d) U q.1))))
  where
    opened : add binary64 (fin s' m e) (fin t' n d) ≡ sum binary64 s' (m * up e * down d) t' (n * up d * down e) (down e * down d)
    opened = unfold add in refl

-- ---- the difference
pub neg_is : (y : Float) (t : Bool) (b : ℕ) → Is y t b → Is (neg y) (not t) b
unfolding neg
neg_is nan t b h = absurd h
neg_is (inf s) t b h = absurd h
neg_is (fin s m e) t b h = (ap not h.0, h.1)

swap_sign : (t : Bool) (b : ℕ) → (pl (not t) b ≡ mi t b) × (mi (not t) b ≡ pl t b)
swap_sign true b = (refl, refl)
swap_sign false b = (refl, refl)

pub rnd_sub : (x y : Float) (s t : Bool) (a b : ℕ) → Is x s a → Is y t b → Rnd (sub binary64 x y) (pl s a + mi t b) (mi s a + pl t b) U
rnd_sub x y s t a b p q =
    subst (λ (z : ℕ). Rnd (sub binary64 x y) (pl s a + z) (mi s a + pl t b) U) (swap_sign t b).0
    (subst (λ (z : ℕ). Rnd (sub binary64 x y) (pl s a + pl (not t) b) (mi s a + z) U) (swap_sign t b).1
    (unfold sub in rnd_add x (neg y) s (not t) a b p (neg_is y t b q)))

-- ---- the product
mul_signs : (s t : Bool) (a b k : ℕ) → pl (unlike s t) (a * b) * k + (pl s a * mi t b + mi s a * pl t b) * k ≡ (pl s a * pl t b + mi s a * mi t b) * k + mi (unlike s t) (a * b) * k
mul_signs false false a b k = omega arith
mul_signs false true a b k = omega arith
mul_signs true false a b k = omega arith
mul_signs true true a b k = omega arith

pub rnd_mul : (x y : Float) (s t : Bool) (a b : ℕ) → Is x s a → Is y t b → Rnd (mul binary64 x y) (pl s a * pl t b + mi s a * mi t b) (pl s a * mi t b + mi s a * pl t b) (U * U)
rnd_mul x y s t a b p q = record { s = unlike s t; v = a * b; k = U * U; k_pos = mul-pos U_pos U_pos; is = mul_is x y s t a b p q; same = mul_signs s t a b (U * U) }

-- ---- so +, - and * by what is not negative keep the order of finite values; the results may overflow
module _ (x x' y : Float) (fx : T (fits binary64 x)) (fx' : T (fits binary64 x')) (fy : T (fits binary64 y)) (hx : T (finite x)) (hx' : T (finite x')) (hy : T (finite y)) (h : le x x' ≡ true) where
  X : Held x
  X = held x fx hx

  X' : Held x'
  X' = held x' fx' hx'

  Y : Held y
  Y = held y fy hy

  below : Below X.s X.v X'.s X'.v
  below = val_le x x' X.s X'.s X.v X'.v X.is X'.is h

  pub add_mono : le (add binary64 x y) (add binary64 x' y) ≡ true
  add_mono = rnd_mono1 (add binary64 x y) (add binary64 x' y) _ _ _ _ U U_pos (rnd_add x y X.s Y.s X.v Y.v X.is Y.is) (rnd_add x' y X'.s Y.s X'.v Y.v X'.is Y.is)
      (go (pl X.s X.v) (mi X.s X.v) (pl X'.s X'.v) (mi X'.s X'.v) (pl Y.s Y.v) (mi Y.s Y.v) below)
    where
      go : (p n p' n' q r : ℕ) → p + n' ≤ p' + n → p + q + (n' + r) ≤ p' + q + (n + r)
      go p n p' n' q r h = omega arith

  pub sub_mono : le (sub binary64 x y) (sub binary64 x' y) ≡ true
  sub_mono = rnd_mono1 (sub binary64 x y) (sub binary64 x' y) _ _ _ _ U U_pos (rnd_sub x y X.s Y.s X.v Y.v X.is Y.is) (rnd_sub x' y X'.s Y.s X'.v Y.v X'.is Y.is)
      (go (pl X.s X.v) (mi X.s X.v) (pl X'.s X'.v) (mi X'.s X'.v) (pl Y.s Y.v) (mi Y.s Y.v) below)
    where
      go : (p n p' n' q r : ℕ) → p + n' ≤ p' + n → p + r + (n' + q) ≤ p' + r + (n + q)
      go p n p' n' q r h = omega arith

  pub sub_anti : le (sub binary64 y x') (sub binary64 y x) ≡ true
  sub_anti = rnd_mono1 (sub binary64 y x') (sub binary64 y x) _ _ _ _ U U_pos (rnd_sub y x' Y.s X'.s Y.v X'.v Y.is X'.is) (rnd_sub y x Y.s X.s Y.v X.v Y.is X.is)
      (go (pl X.s X.v) (mi X.s X.v) (pl X'.s X'.v) (mi X'.s X'.v) (pl Y.s Y.v) (mi Y.s Y.v) below)
    where
      go : (p n p' n' q r : ℕ) → p + n' ≤ p' + n → q + n' + (r + p) ≤ q + n + (r + p')
      go p n p' n' q r h = omega arith

  -- y is +0 or above
  pub mul_mono : negative y ≡ false → le (mul binary64 x y) (mul binary64 x' y) ≡ true
  mul_mono e = rnd_mono1 (mul binary64 x y) (mul binary64 x' y) _ _ _ _ (U * U) (mul-pos U_pos U_pos) (rnd_mul x y X.s false X.v Y.v X.is is) (rnd_mul x' y X'.s false X'.v Y.v X'.is is)
      (go (pl X.s X.v) (mi X.s X.v) (pl X'.s X'.v) (mi X'.s X'.v) Y.v (mul-le-mul_right Y.v below))
    where
      is : Is y false Y.v
      is = subst (λ (z : Bool). Is y z Y.v) (sym (negative_is y Y.s Y.v Y.is) ∙ e) Y.is

      go : (p n p' n' q : ℕ) → (p + n') * q ≤ (p' + n) * q → p * q + n * 0 + (p' * 0 + n' * q) ≤ p' * q + n' * 0 + (p * 0 + n * q)
      go p n p' n' q h = omega arith
