-- The order of every f64, infinities included: equal up to the sign of a zero, and +, - and * by a value above zero keep it.
use Rattle.std.proofs.Common.{◌≡◌, ℕ, ◌+◌, ◌*◌, ◌<◌, ◌≤◌, Bool, true, false, cond, not, T, eqb, ◌⊎◌, ℤ, pos, sym, refl, ap, ◌∙◌, subst, inl, inr, true≢false, le_of_eq, mul-le-mul_right, mul-pos, not-le_of_lt, arith, ltb→lt, ne_eqb}
use mathlib.Core.Bool.{false≢true}
use lib.Ieee.{Float, nan, inf, fin, binary64, up, down, round, add, sub, mul, div, neg, lt, eq, le, fits, is_nan}
use lib.Ieee.Fits.{neg-fits}
use lib.Ieee.Scale.{finite}
use lib.Ieee.Positive.{positive, positive-finite, value_pos}
use Rattle.float.proofs.Rounding.{U_pos, div_is}
use Rattle.float.proofs.Order as order
use Rattle.float.proofs.Units.{held, one_float}
use Rattle.float.proofs.Signed.{pl, mi, negative_is, val_le, Rnd, rnd_mono1}
use Rattle.float.proofs.Signed as signed
use Rattle.float.proofs.Commute.{add_commutes, mul_neg}
use Rattle.float.specs.Units.{U, Is}
use Rattle.float.specs.Helpers.{negative}

-- ---- the ends
pub le_top : (z : Float) → is_nan z ≡ false → le z (inf false) ≡ true
unfolding le lt eq is_nan
le_top nan h = absurd (true≢false h)
le_top (inf true) h = refl
le_top (inf false) h = refl
le_top (fin s m e) h = refl

pub le_bottom : (z : Float) → is_nan z ≡ false → le (inf true) z ≡ true
unfolding le lt eq is_nan
le_bottom nan h = absurd (true≢false h)
le_bottom (inf true) h = refl
le_bottom (inf false) h = refl
le_bottom (fin s m e) h = refl

pub top_le : (z : Float) → le (inf false) z ≡ true → z ≡ inf false
unfolding le lt eq
top_le nan h = absurd (false≢true h)
top_le (inf true) h = absurd (false≢true h)
top_le (inf false) h = refl
top_le (fin s m e) h = absurd (false≢true h)

pub bottom_le : (z : Float) → le z (inf true) ≡ true → z ≡ inf true
unfolding le lt eq
bottom_le nan h = absurd (false≢true h)
bottom_le (inf true) h = refl
bottom_le (inf false) h = absurd (false≢true h)
bottom_le (fin s m e) h = absurd (false≢true h)

inf_number : (s : Bool) → is_nan (inf s) ≡ false
unfolding is_nan
inf_number s = refl

nan_nan : is_nan nan ≡ true
unfolding is_nan
nan_nan = refl

-- ---- antisymmetric: the same value, or the two zeros
zero_is : (s : Bool) → Is (fin s 0 (pos 0)) s 0
zero_is s = (refl, go U)
  where
    go : (u : ℕ) → 0 * 1 * u ≡ 0 * 1
    go u = omega arith

zero_fits : (s : Bool) → T (fits binary64 (fin s 0 (pos 0)))
unfolding fits
zero_fits s = tt

fin_same : (x y : Float) → T (fits binary64 x) → T (fits binary64 y) → T (finite x) → T (finite y) → le x y ≡ true → le y x ≡ true → (x ≡ y) ⊎ ((s : Bool) × (x ≡ fin s 0 (pos 0)) × (y ≡ fin (not s) 0 (pos 0)))
fin_same x y tx ty fx fy h l =
    let X = held x tx fx in
    let Y = held y ty fy in
    go X.s Y.s X.v Y.v X.is Y.is (val_le x y X.s Y.s X.v Y.v X.is Y.is h) (val_le y x Y.s X.s Y.v X.v Y.is X.is l)
  where
    same : (s : Bool) (a b : ℕ) → Is x s a → Is y s b → a ≡ b → x ≡ y
    same s a b i j e = one_float x y s b tx ty (subst (Is x s) e i) j

    zero_of : (z : Float) (s : Bool) (a : ℕ) → T (fits binary64 z) → Is z s a → a ≡ 0 → z ≡ fin s 0 (pos 0)
    zero_of z s a t i e = one_float z (fin s 0 (pos 0)) s 0 t (zero_fits s) (subst (Is z s) e i) (zero_is s)

    go : (s t : Bool) (a b : ℕ) → Is x s a → Is y t b → pl s a + mi t b ≤ pl t b + mi s a → pl t b + mi s a ≤ pl s a + mi t b → (x ≡ y) ⊎ ((s : Bool) × (x ≡ fin s 0 (pos 0)) × (y ≡ fin (not s) 0 (pos 0)))
    go false false a b i j h l = inl (same false a b i j (omega arith))
    go false true a b i j h l = inr (false, zero_of x false a tx i (omega arith), zero_of y true b ty j (omega arith))
    go true false a b i j h l = inr (true, zero_of x true a tx i (omega arith), zero_of y false b ty j (omega arith))
    go true true a b i j h l = inl (same true a b i j (omega arith))

pub le_same : (x y : Float) → T (fits binary64 x) → T (fits binary64 y) → le x y ≡ true → le y x ≡ true → (x ≡ y) ⊎ ((s : Bool) × (x ≡ fin s 0 (pos 0)) × (y ≡ fin (not s) 0 (pos 0)))
le_same nan y tx ty h l = absurd (true≢false (sym nan_nan ∙ order.le_left nan y h))
le_same (inf true) y tx ty h l = inl (sym (bottom_le y l))
le_same (inf false) y tx ty h l = inl (sym (top_le y h))
le_same (fin s m e) nan tx ty h l = absurd (true≢false (sym nan_nan ∙ order.le_left nan (fin s m e) l))
le_same (fin s m e) (inf true) tx ty h l = inl (bottom_le (fin s m e) h)
le_same (fin s m e) (inf false) tx ty h l = inl (top_le (fin s m e) l)
le_same (fin s m e) (fin t n d) tx ty h l = fin_same (fin s m e) (fin t n d) tx ty tt tt h l

-- ---- sums
add_nan : (x : Float) → is_nan (add binary64 x nan) ≡ true
unfolding add is_nan
add_nan nan = refl
add_nan (inf s) = refl
add_nan (fin s m e) = refl

add_inf : (x : Float) (t : Bool) → is_nan (add binary64 x (inf t)) ≡ false → add binary64 x (inf t) ≡ inf t
unfolding add is_nan
add_inf nan t h = absurd (true≢false h)
add_inf (inf true) true h = refl
add_inf (inf true) false h = absurd (true≢false h)
add_inf (inf false) true h = absurd (true≢false h)
add_inf (inf false) false h = refl
add_inf (fin s m e) t h = refl

inf_add : (s t : Bool) (n : ℕ) (d : ℤ) → add binary64 (inf s) (fin t n d) ≡ inf s
unfolding add
inf_add s t n d = refl

same_inf : (x y : Float) (s : Bool) → x ≡ inf s → y ≡ inf s → le x y ≡ true
same_inf x y s e f = ap (λ (z : Float). le z y) e ∙ ap (λ (z : Float). le (inf s) z) f ∙ order.le_refl (inf s) (inf_number s)

-- x ≤ x' gives x + y ≤ x' + y, where neither sum is a NaN
pub add_mono : (x x' y : Float) → T (fits binary64 x) → T (fits binary64 x') → T (fits binary64 y) → is_nan (add binary64 x y) ≡ false → is_nan (add binary64 x' y) ≡ false → le x x' ≡ true → le (add binary64 x y) (add binary64 x' y) ≡ true
add_mono x x' nan tx tx' ty a b h = absurd (true≢false (sym (add_nan x) ∙ a))
add_mono x x' (inf t) tx tx' ty a b h = same_inf (add binary64 x (inf t)) (add binary64 x' (inf t)) t (add_inf x t a) (add_inf x' t b)
add_mono nan x' (fin t n d) tx tx' ty a b h = absurd (true≢false (sym nan_nan ∙ order.le_left nan x' h))
add_mono (inf true) x' (fin t n d) tx tx' ty a b h = ap (λ (z : Float). le z (add binary64 x' (fin t n d))) (inf_add true t n d) ∙ le_bottom (add binary64 x' (fin t n d)) b
add_mono (inf false) x' (fin t n d) tx tx' ty a b h = same_inf (add binary64 (inf false) (fin t n d)) (add binary64 x' (fin t n d)) false (inf_add false t n d) (ap (λ (z : Float). add binary64 z (fin t n d)) (top_le x' h) ∙ inf_add false t n d)
add_mono (fin s m e) nan (fin t n d) tx tx' ty a b h = absurd (true≢false (sym nan_nan ∙ order.le_right (fin s m e) nan h))
add_mono (fin s m e) (inf true) (fin t n d) tx tx' ty a b h = same_inf (add binary64 (fin s m e) (fin t n d)) (add binary64 (inf true) (fin t n d)) true (ap (λ (z : Float). add binary64 z (fin t n d)) (bottom_le (fin s m e) h) ∙ inf_add true t n d) (inf_add true t n d)
add_mono (fin s m e) (inf false) (fin t n d) tx tx' ty a b h = ap (λ (z : Float). le (add binary64 (fin s m e) (fin t n d)) z) (inf_add false t n d) ∙ le_top (add binary64 (fin s m e) (fin t n d)) a
add_mono (fin s m e) (fin s' m' e') (fin t n d) tx tx' ty a b h = signed.add_mono (fin s m e) (fin s' m' e') (fin t n d) tx tx' ty tt tt tt h

pub sub_mono : (x x' y : Float) → T (fits binary64 x) → T (fits binary64 x') → T (fits binary64 y) → is_nan (sub binary64 x y) ≡ false → is_nan (sub binary64 x' y) ≡ false → le x x' ≡ true → le (sub binary64 x y) (sub binary64 x' y) ≡ true
unfolding sub
sub_mono x x' y tx tx' ty a b h = add_mono x x' (neg y) tx tx' (neg-fits binary64 y ty) a b h

-- y ≤ y' gives x + y ≤ x + y'
pub add_mono_right : (x y y' : Float) → T (fits binary64 x) → T (fits binary64 y) → T (fits binary64 y') → is_nan (add binary64 x y) ≡ false → is_nan (add binary64 x y') ≡ false → le y y' ≡ true → le (add binary64 x y) (add binary64 x y') ≡ true
add_mono_right x y y' tx ty ty' a b h =
    ap (λ (z : Float). le z (add binary64 x y')) (add_commutes binary64 x y) ∙ ap (λ (z : Float). le (add binary64 y x) z) (add_commutes binary64 x y')
    ∙ add_mono y y' x ty ty' tx (ap is_nan (add_commutes binary64 y x) ∙ a) (ap is_nan (add_commutes binary64 y' x) ∙ b) h

-- y ≤ y' gives x - y' ≤ x - y
pub sub_anti : (x y y' : Float) → T (fits binary64 x) → T (fits binary64 y) → T (fits binary64 y') → is_nan (sub binary64 x y) ≡ false → is_nan (sub binary64 x y') ≡ false → le y y' ≡ true → le (sub binary64 x y') (sub binary64 x y) ≡ true
unfolding sub
sub_anti x y y' tx ty ty' a b h = add_mono_right x (neg y') (neg y) tx (neg-fits binary64 y' ty') (neg-fits binary64 y ty) b a (order.neg_le y y' ∙ h)

-- ---- products by a finite value above zero
inf_mul : (s : Bool) (n : ℕ) (d : ℤ) → 0 < n → mul binary64 (inf s) (fin false n d) ≡ inf s
inf_mul s n d h = opened ∙ ap (λ (b : Bool). cond b nan (inf (lib.Ieee.unlike s false))) (ne_eqb n 0 (λ e. not-le_of_lt h (le_of_eq e))) ∙ ap inf (like s)
  where
    opened : mul binary64 (inf s) (fin false n d) ≡ cond (eqb n 0) nan (inf (lib.Ieee.unlike s false))
    opened = unfold mul in refl

    like : (s : Bool) → lib.Ieee.unlike s false ≡ s
    like true = refl
    like false = refl

mul_number : (x : Float) (n : ℕ) (d : ℤ) → T (fits binary64 x) → T (fits binary64 (fin false n d)) → 0 < n → is_nan x ≡ false → is_nan (mul binary64 x (fin false n d)) ≡ false
mul_number nan n d tx tc p h = absurd (true≢false (sym nan_nan ∙ h))
mul_number (inf s) n d tx tc p h = ap is_nan (inf_mul s n d p) ∙ inf_number s
mul_number (fin s m e) n d tx tc p h = order.le_left (mul binary64 (fin s m e) (fin false n d)) (mul binary64 (fin s m e) (fin false n d)) (signed.mul_mono (fin s m e) (fin s m e) (fin false n d) tx tx tc tt tt tt (order.le_refl (fin s m e) h) refl)

-- x ≤ x' gives x * c ≤ x' * c for a finite c above zero
pub mul_mono : (x x' c : Float) → T (fits binary64 x) → T (fits binary64 x') → T (fits binary64 c) → T (positive c) → le x x' ≡ true → le (mul binary64 x c) (mul binary64 x' c) ≡ true
mul_mono x x' nan tx tx' tc p h = absurd p
mul_mono x x' (inf t) tx tx' tc p h = absurd p
mul_mono x x' (fin true n d) tx tx' tc p h = absurd p
mul_mono nan x' (fin false n d) tx tx' tc p h = absurd (true≢false (sym nan_nan ∙ order.le_left nan x' h))
mul_mono (inf true) x' (fin false n d) tx tx' tc p h = ap (λ (z : Float). le z (mul binary64 x' (fin false n d))) (inf_mul true n d (ltb→lt 0 n p)) ∙ le_bottom (mul binary64 x' (fin false n d)) (mul_number x' n d tx' tc (ltb→lt 0 n p) (order.le_right (inf true) x' h))
mul_mono (inf false) x' (fin false n d) tx tx' tc p h = same_inf (mul binary64 (inf false) (fin false n d)) (mul binary64 x' (fin false n d)) false (inf_mul false n d (ltb→lt 0 n p)) (ap (λ (z : Float). mul binary64 z (fin false n d)) (top_le x' h) ∙ inf_mul false n d (ltb→lt 0 n p))
mul_mono (fin s m e) nan (fin false n d) tx tx' tc p h = absurd (true≢false (sym nan_nan ∙ order.le_right (fin s m e) nan h))
mul_mono (fin s m e) (inf true) (fin false n d) tx tx' tc p h = same_inf (mul binary64 (fin s m e) (fin false n d)) (mul binary64 (inf true) (fin false n d)) true (ap (λ (z : Float). mul binary64 z (fin false n d)) (bottom_le (fin s m e) h) ∙ inf_mul true n d (ltb→lt 0 n p)) (inf_mul true n d (ltb→lt 0 n p))
mul_mono (fin s m e) (inf false) (fin false n d) tx tx' tc p h = ap (λ (z : Float). le (mul binary64 (fin s m e) (fin false n d)) z) (inf_mul false n d (ltb→lt 0 n p)) ∙ le_top (mul binary64 (fin s m e) (fin false n d)) (mul_number (fin s m e) n d tx tc (ltb→lt 0 n p) (order.le_left (fin s m e) (inf false) h))
mul_mono (fin s m e) (fin s' m' e') (fin false n d) tx tx' tc p h = signed.mul_mono (fin s m e) (fin s' m' e') (fin false n d) tx tx' tc tt tt tt h refl

-- x ≤ x' gives x' * c ≤ x * c for a finite c below zero
pub mul_anti : (x x' c : Float) → T (fits binary64 x) → T (fits binary64 x') → T (fits binary64 c) → T (positive (neg c)) → le x x' ≡ true → le (mul binary64 x' c) (mul binary64 x c) ≡ true
mul_anti x x' c tx tx' tc p h =
    ap (λ (z : Float). le z (mul binary64 x c)) (turned x') ∙ ap (λ (z : Float). le (neg (mul binary64 x' (neg c))) z) (turned x) ∙ order.neg_le (mul binary64 x (neg c)) (mul binary64 x' (neg c))
    ∙ mul_mono x x' (neg c) tx tx' (neg-fits binary64 c tc) p h
  where
    turned : (x : Float) → mul binary64 x c ≡ neg (mul binary64 x (neg c))
    turned x = ap (λ (z : Float). mul binary64 x z) (sym (order.neg_neg c)) ∙ mul_neg x (neg c)

-- ---- quotients by a finite value above zero
inf_div : (s : Bool) (n : ℕ) (d : ℤ) → div binary64 (inf s) (fin false n d) ≡ inf s
inf_div true n d = unfold div in refl
inf_div false n d = unfold div in refl

fin_div : (x x' y : Float) → T (fits binary64 x) → T (fits binary64 x') → T (fits binary64 y) → T (finite x) → T (finite x') → T (positive y) → le x x' ≡ true → le (div binary64 x y) (div binary64 x' y) ≡ true
fin_div x x' y tx tx' ty fx fx' p h =
    let X = held x tx fx in
    let X' = held x' tx' fx' in
    let Y = held y ty (positive-finite y p) in
    let i : Is y false Y.v = subst (λ (z : Bool). Is y z Y.v) (sym (negative_is y Y.s Y.v Y.is) ∙ plain y p) Y.is in
    let P : 0 < Y.v = value_pos y Y.v U p U_pos i in
    rnd_mono1 (div binary64 x y) (div binary64 x' y) _ _ _ _ (U * Y.v) (mul-pos U_pos P) (quotient x X.s X.v Y.v X.is i P) (quotient x' X'.s X'.v Y.v X'.is i P)
    (go (pl X.s X.v) (mi X.s X.v) (pl X'.s X'.v) (mi X'.s X'.v) U (mul-le-mul_right U (val_le x x' X.s X'.s X.v X'.v X.is X'.is h)))
  where
    plain : (y : Float) → T (positive y) → negative y ≡ false
    plain nan p = absurd p
    plain (inf s) p = absurd p
    plain (fin true n d) p = absurd p
    plain (fin false n d) p = refl

    like : (s : Bool) → lib.Ieee.unlike s false ≡ s
    like true = refl
    like false = refl

    signs : (s : Bool) (a u c : ℕ) → pl s (a * u) * c + mi s a * u * c ≡ pl s a * u * c + mi s (a * u) * c
    signs true a u c = omega arith
    signs false a u c = omega arith

    quotient : (z : Float) (s : Bool) (a b : ℕ) → Is z s a → Is y false b → 0 < b → Rnd (div binary64 z y) (pl s a * U) (mi s a * U) (U * b)
    quotient z s a b i j B = record {
      s = s;
      v = a * U;
      k = U * b;
      k_pos = mul-pos U_pos B;
      is = div_is z y s false a b i j B ∙ ap (λ (w : Bool). round binary64 w (a * U) (U * b)) (like s);
      same = signs s a U (U * b);
    }

    go : (p n p' n' u : ℕ) → (p + n') * u ≤ (p' + n) * u → p * u + n' * u ≤ p' * u + n * u
    go p n p' n' u h = omega arith

div_number : (x : Float) (n : ℕ) (d : ℤ) → T (fits binary64 x) → T (fits binary64 (fin false n d)) → T (positive (fin false n d)) → is_nan x ≡ false → is_nan (div binary64 x (fin false n d)) ≡ false
div_number nan n d tx tc p h = absurd (true≢false (sym nan_nan ∙ h))
div_number (inf s) n d tx tc p h = ap is_nan (inf_div s n d) ∙ inf_number s
div_number (fin s m e) n d tx tc p h = order.le_left (div binary64 (fin s m e) (fin false n d)) (div binary64 (fin s m e) (fin false n d)) (fin_div (fin s m e) (fin s m e) (fin false n d) tx tx tc tt tt p (order.le_refl (fin s m e) h))

-- x ≤ x' gives x / c ≤ x' / c for a finite c above zero
pub div_mono : (x x' c : Float) → T (fits binary64 x) → T (fits binary64 x') → T (fits binary64 c) → T (positive c) → le x x' ≡ true → le (div binary64 x c) (div binary64 x' c) ≡ true
div_mono x x' nan tx tx' tc p h = absurd p
div_mono x x' (inf t) tx tx' tc p h = absurd p
div_mono x x' (fin true n d) tx tx' tc p h = absurd p
div_mono nan x' (fin false n d) tx tx' tc p h = absurd (true≢false (sym nan_nan ∙ order.le_left nan x' h))
div_mono (inf true) x' (fin false n d) tx tx' tc p h = ap (λ (z : Float). le z (div binary64 x' (fin false n d))) (inf_div true n d) ∙ le_bottom (div binary64 x' (fin false n d)) (div_number x' n d tx' tc p (order.le_right (inf true) x' h))
div_mono (inf false) x' (fin false n d) tx tx' tc p h = same_inf (div binary64 (inf false) (fin false n d)) (div binary64 x' (fin false n d)) false (inf_div false n d) (ap (λ (z : Float). div binary64 z (fin false n d)) (top_le x' h) ∙ inf_div false n d)
div_mono (fin s m e) nan (fin false n d) tx tx' tc p h = absurd (true≢false (sym nan_nan ∙ order.le_right (fin s m e) nan h))
div_mono (fin s m e) (inf true) (fin false n d) tx tx' tc p h = same_inf (div binary64 (fin s m e) (fin false n d)) (div binary64 (inf true) (fin false n d)) true (ap (λ (z : Float). div binary64 z (fin false n d)) (bottom_le (fin s m e) h) ∙ inf_div true n d) (inf_div true n d)
div_mono (fin s m e) (inf false) (fin false n d) tx tx' tc p h = ap (λ (z : Float). le (div binary64 (fin s m e) (fin false n d)) z) (inf_div false n d) ∙ le_top (div binary64 (fin s m e) (fin false n d)) (div_number (fin s m e) n d tx tc p (order.le_left (fin s m e) (inf false) h))
div_mono (fin s m e) (fin s' m' e') (fin false n d) tx tx' tc p h = fin_div (fin s m e) (fin s' m' e') (fin false n d) tx tx' tc tt tt p h
