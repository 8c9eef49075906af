-- Sums and products in either order, signs in products, and the square of a difference in either order: equal bit for bit, for every f64.
use Rattle.std.proofs.Common.{◌≡◌, ℕ, ◌+◌, ◌-◌, ◌*◌, ◌<◌, ◌≤◌, Bool, true, false, cond, not, T, eqb, ltb, sym, refl, ap, ◌∙◌, subst, mul_comm, add_comm, arith, ltb→lt, nltb→le}
use lib.Ieee.{Float, nan, inf, fin, Format, binary64, unlike, up, down, round, sum, add, sub, mul, neg, fits}
use lib.Ieee.Scale.{finite, round_same}
use Rattle.float.proofs.Rounding.{U_pos}
use Rattle.float.proofs.Order.{neg_neg}
use Rattle.float.proofs.Units.{held}
use Rattle.float.proofs.Signed.{pl, mi, Rnd, rnd_sub, round_neg}
use Rattle.float.specs.Units.{U}

-- ---- sums
sum_commutes : (f : Format) (s : Bool) (a : ℕ) (t : Bool) (b c : ℕ) → sum f s a t b c ≡ sum f t b s a c
sum_commutes f false a false b c = unfold sum in ap (λ (z : ℕ). round f false z c) (add_comm a b)
sum_commutes f true a true b c = unfold sum in ap (λ (z : ℕ). round f true z c) (add_comm a b)
sum_commutes f false a true b c = unfold sum in go (ltb a b) (ltb b a) (ltb→lt a b) (nltb→le a b) (ltb→lt b a) (nltb→le b a)
  where
    none : b ≤ a → a ≤ b → a - b ≡ b - a
    none h l = omega arith

    clash : a < b → b < a → ⊥
    clash h l = omega arith

    go : (p q : Bool) → (T p → a < b) → (T (not p) → b ≤ a) → (T q → b < a) → (T (not q) → a ≤ b) → cond p (round f true (b - a) c) (round f false (a - b) c) ≡ cond q (round f false (a - b) c) (round f p (b - a) c)
    go true true h l m n = absurd (clash (h tt) (m tt))
    go true false h l m n = refl
    go false true h l m n = refl
    go false false h l m n = ap (λ (z : ℕ). round f false z c) (none (l tt) (n tt))
sum_commutes f true a false b c = unfold sum in go (ltb a b) (ltb b a) (ltb→lt a b) (nltb→le a b) (ltb→lt b a) (nltb→le b a)
  where
    none : b ≤ a → a ≤ b → a - b ≡ b - a
    none h l = omega arith

    clash : a < b → b < a → ⊥
    clash h l = omega arith

    go : (p q : Bool) → (T p → a < b) → (T (not p) → b ≤ a) → (T q → b < a) → (T (not q) → a ≤ b) → cond p (round f false (b - a) c) (round f q (a - b) c) ≡ cond q (round f true (a - b) c) (round f false (b - a) c)
    go true true h l m n = absurd (clash (h tt) (m tt))
    go true false h l m n = refl
    go false true h l m n = refl
    go false false h l m n = ap (λ (z : ℕ). round f false z c) (none (l tt) (n tt))

pub add_commutes : (f : Format) (x y : Float) → add f x y ≡ add f y x
unfolding add
add_commutes f nan nan = refl
add_commutes f nan (inf t) = refl
add_commutes f nan (fin t n d) = refl
add_commutes f (inf s) nan = refl
add_commutes f (inf true) (inf true) = refl
add_commutes f (inf true) (inf false) = refl
add_commutes f (inf false) (inf true) = refl
add_commutes f (inf false) (inf false) = refl
add_commutes f (inf s) (fin t n d) = refl
add_commutes f (fin s m e) nan = refl
add_commutes f (fin s m e) (inf t) = refl
add_commutes f (fin s m e) (fin t n d) = sum_commutes f s (m * up e * down d) t (n * up d * down e) (down e * down d) ∙ ap (λ (z : ℕ). sum f t (n * up d * down e) s (m * up e * down d) z) (mul_comm (down e) (down d))

-- ---- products
unlike_commutes : (s t : Bool) → unlike s t ≡ unlike t s
unlike_commutes true true = refl
unlike_commutes true false = refl
unlike_commutes false true = refl
unlike_commutes false false = refl

pub mul_commutes : (f : Format) (x y : Float) → mul f x y ≡ mul f y x
unfolding mul
mul_commutes f nan nan = refl
mul_commutes f nan (inf t) = refl
mul_commutes f nan (fin t n d) = refl
mul_commutes f (inf s) nan = refl
mul_commutes f (inf s) (inf t) = ap inf (unlike_commutes s t)
mul_commutes f (inf s) (fin t n d) = ap (λ (z : Bool). cond (eqb n 0) nan (inf z)) (unlike_commutes s t)
mul_commutes f (fin s m e) nan = refl
mul_commutes f (fin s m e) (inf t) = ap (λ (z : Bool). cond (eqb m 0) nan (inf z)) (unlike_commutes s t)
mul_commutes f (fin s m e) (fin t n d) =
    ap (λ (z : Bool). round f z (m * up e * (n * up d)) (down e * down d)) (unlike_commutes s t) ∙ ap (λ (z : ℕ). round f (unlike t s) z (down e * down d)) (mul_comm (m * up e) (n * up d))
    ∙ ap (λ (z : ℕ). round f (unlike t s) (n * up d * (m * up e)) z) (mul_comm (down e) (down d))

unlike_not : (s t : Bool) → unlike (not s) (not t) ≡ unlike s t
unlike_not true true = refl
unlike_not true false = refl
unlike_not false true = refl
unlike_not false false = refl

pub neg_mul_neg : (f : Format) (x y : Float) → mul f (neg x) (neg y) ≡ mul f x y
unfolding mul neg
neg_mul_neg f nan nan = refl
neg_mul_neg f nan (inf t) = refl
neg_mul_neg f nan (fin t n d) = refl
neg_mul_neg f (inf s) nan = refl
neg_mul_neg f (inf s) (inf t) = ap inf (unlike_not s t)
neg_mul_neg f (inf s) (fin t n d) = ap (λ (z : Bool). cond (eqb n 0) nan (inf z)) (unlike_not s t)
neg_mul_neg f (fin s m e) nan = refl
neg_mul_neg f (fin s m e) (inf t) = ap (λ (z : Bool). cond (eqb m 0) nan (inf z)) (unlike_not s t)
neg_mul_neg f (fin s m e) (fin t n d) = ap (λ (z : Bool). round f z (m * up e * (n * up d)) (down e * down d)) (unlike_not s t)

-- ---- the square of a rounded value does not turn on its sign
sq_round : (s : Bool) (v k : ℕ) → mul binary64 (round binary64 s v k) (round binary64 s v k) ≡ mul binary64 (round binary64 false v k) (round binary64 false v k)
sq_round false v k = refl
sq_round true v k = ap (λ (z : Float). mul binary64 z z) (round_neg v k) ∙ neg_mul_neg binary64 (round binary64 false v k) (round binary64 false v k)

-- ± v / k is (p - n) / c, and ± w / l is (n - p) / c: so v / k and w / l are the same
same_size : (s t : Bool) (v w k l p n c : ℕ) → 0 < c → pl s v * c + n * k ≡ p * k + mi s v * c → pl t w * c + p * l ≡ n * l + mi t w * c → v * l ≡ w * k
same_size s t v w k l p n c C e f = native.Mathlib.Nat.eq_of_mul-eq-mul_right c C (v * l) (w * k) (go s t (ap (λ (z : ℕ). z * l) e) (ap (λ (z : ℕ). z * k) f))
  where
    go : (s t : Bool) → (pl s v * c + n * k) * l ≡ (p * k + mi s v * c) * l → (pl t w * c + p * l) * k ≡ (n * l + mi t w * c) * k → v * l * c ≡ w * k * c
    go false true a b = omega arith
    go true false a b = omega arith
    go false false a b = both a b
      where
        both : (v * c + n * k) * l ≡ (p * k + 0 * c) * l → (w * c + p * l) * k ≡ (n * l + 0 * c) * k → v * l * c ≡ w * k * c
        both a b = omega arith
    go true true a b = both a b
      where
        both : (0 * c + n * k) * l ≡ (p * k + v * c) * l → (0 * c + p * l) * k ≡ (n * l + w * c) * k → v * l * c ≡ w * k * c
        both a b = omega arith

fin_square : (x y : Float) → T (fits binary64 x) → T (fits binary64 y) → T (finite x) → T (finite y) → mul binary64 (sub binary64 x y) (sub binary64 x y) ≡ mul binary64 (sub binary64 y x) (sub binary64 y x)
fin_square x y tx ty fx fy =
    let X = held x tx fx in
    let Y = held y ty fy in
    go (pl X.s X.v) (mi X.s X.v) (pl Y.s Y.v) (mi Y.s Y.v) (rnd_sub x y X.s Y.s X.v Y.v X.is Y.is) (rnd_sub y x Y.s X.s Y.v X.v Y.is X.is)
  where
    go : (a b c d : ℕ) → Rnd (sub binary64 x y) (a + d) (b + c) U → Rnd (sub binary64 y x) (c + b) (d + a) U → mul binary64 (sub binary64 x y) (sub binary64 x y) ≡ mul binary64 (sub binary64 y x) (sub binary64 y x)
    go a b c d r q =
        let i : round binary64 false r.v r.k ≡ round binary64 false q.v q.k =
        round_same binary64 false r.v r.k q.v q.k r.k_pos q.k_pos
        (same_size r.s q.s r.v q.v r.k q.k (a + d) (b + c) U U_pos r.same
        (subst (λ (z : ℕ). pl q.s q.v * U + z * q.k ≡ (b + c) * q.k + mi q.s q.v * U) (add_comm d a) (subst (λ (z : ℕ). pl q.s q.v * U + (d + a) * q.k ≡ z * q.k + mi q.s q.v * U) (add_comm c b) q.same))) in
        ap (λ (z : Float). mul binary64 z z) r.is ∙ sq_round r.s r.v r.k ∙ ap (λ (z : Float). mul binary64 z z) i ∙ sym (sq_round q.s q.v q.k) ∙ sym (ap (λ (z : Float). mul binary64 z z) q.is)

nan_square : (y : Float) → mul binary64 (sub binary64 nan y) (sub binary64 nan y) ≡ mul binary64 (sub binary64 y nan) (sub binary64 y nan)
unfolding sub add neg mul
nan_square nan = refl
nan_square (inf t) = refl
nan_square (fin t n d) = refl

-- (x - y) * (x - y) is (y - x) * (y - x)
pub square_sub_symmetric : (x y : Float) → T (fits binary64 x) → T (fits binary64 y) → mul binary64 (sub binary64 x y) (sub binary64 x y) ≡ mul binary64 (sub binary64 y x) (sub binary64 y x)
square_sub_symmetric nan y tx ty = nan_square y
square_sub_symmetric (inf s) nan tx ty = unfold sub in unfold add in unfold neg in refl
square_sub_symmetric (inf true) (inf true) tx ty = refl
square_sub_symmetric (inf true) (inf false) tx ty = unfold sub in unfold add in unfold neg in unfold mul in refl
square_sub_symmetric (inf false) (inf true) tx ty = unfold sub in unfold add in unfold neg in unfold mul in refl
square_sub_symmetric (inf false) (inf false) tx ty = refl
square_sub_symmetric (inf true) (fin t n d) tx ty = unfold sub in unfold add in unfold neg in unfold mul in refl
square_sub_symmetric (inf false) (fin t n d) tx ty = unfold sub in unfold add in unfold neg in unfold mul in refl
square_sub_symmetric (fin s m e) nan tx ty = unfold sub in unfold add in unfold neg in refl
square_sub_symmetric (fin s m e) (inf true) tx ty = unfold sub in unfold add in unfold neg in unfold mul in refl
square_sub_symmetric (fin s m e) (inf false) tx ty = unfold sub in unfold add in unfold neg in unfold mul in refl
square_sub_symmetric (fin s m e) (fin t n d) tx ty = fin_square (fin s m e) (fin t n d) tx ty tt tt

-- ---- the sign of a product
round_not : (s : Bool) (a c : ℕ) → round binary64 (not s) a c ≡ neg (round binary64 s a c)
round_not false a c = round_neg a c
round_not true a c = sym (neg_neg (round binary64 false a c)) ∙ ap neg (sym (round_neg a c))

unlike_right : (s t : Bool) → unlike s (not t) ≡ not (unlike s t)
unlike_right true true = refl
unlike_right true false = refl
unlike_right false true = refl
unlike_right false false = refl

cond_neg : (b s : Bool) → cond b nan (inf (not s)) ≡ neg (cond b nan (inf s))
cond_neg true s = unfold neg in refl
cond_neg false s = unfold neg in refl

pub mul_neg : (x y : Float) → mul binary64 x (neg y) ≡ neg (mul binary64 x y)
unfolding mul neg
mul_neg nan y = refl
mul_neg (inf s) nan = refl
mul_neg (inf s) (inf t) = ap inf (unlike_right s t)
mul_neg (inf s) (fin t n d) = ap (λ (z : Bool). cond (eqb n 0) nan (inf z)) (unlike_right s t) ∙ cond_neg (eqb n 0) (unlike s t)
mul_neg (fin s m e) nan = refl
mul_neg (fin s m e) (inf t) = ap (λ (z : Bool). cond (eqb m 0) nan (inf z)) (unlike_right s t) ∙ cond_neg (eqb m 0) (unlike s t)
mul_neg (fin s m e) (fin t n d) = ap (λ (z : Bool). round binary64 z (m * up e * (n * up d)) (down e * down d)) (unlike_right s t) ∙ round_not (unlike s t) (m * up e * (n * up d)) (down e * down d)
