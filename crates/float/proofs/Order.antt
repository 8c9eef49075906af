-- The order of floats, of every format, nan and infinities among them: reflexive but for nan, transitive, antisymmetric up to `eq`, total but for nan; `lt`, and `neg`.
use Rattle.std.proofs.Common.{◌≡◌, ℕ, ◌+◌, ◌*◌, ◌<◌, ◌≤◌, Bool, true, false, not, ◌&&◌, ◌||◌, eqb, ltb, sym, refl, ap, ◌∙◌, subst, mul-le-mul_right, le_of_mul-le-mul_right, arith, ltb-true, lt-ltb, eq-eqb, eqb-true}
use mathlib.Core.Bool.{false≢true, or-true}
use lib.Ieee.{Float, nan, inf, fin, up, down, below, level, lt, eq, le, neg, is_nan}
use lib.Ieee.Fits.{down_pos}
use native.Mathlib.Decide.{dec_lt}

-- ±a ≤ ±b, as numbers
abbrev pub Leq : Bool → ℕ → Bool → ℕ → Type 0
Leq false a false b = a ≤ b
Leq false a true b = (a ≡ 0) × (b ≡ 0)
Leq true a false b = Unit {0}
Leq true a true b = b ≤ a

abbrev pub leq : Bool → ℕ → Bool → ℕ → Bool
leq s a t b = below s a t b || level s a t b

or_cases : {C : Type 0} (x y : Bool) → (x || y) ≡ true → (x ≡ true → C) → (y ≡ true → C) → C
or_cases true y e f g = f refl
or_cases false y e f g = g e

and_parts : (x y : Bool) → (x && y) ≡ true → (x ≡ true) × (y ≡ true)
and_parts true y e = (refl, e)
and_parts false y e = absurd (false≢true e)

pub to : (s : Bool) (a : ℕ) (t : Bool) (b : ℕ) → leq s a t b ≡ true → Leq s a t b
to false a false b h = or_cases (ltb a b) _ h (λ e. let l = ltb-true a b e in omega arith) (λ e. let l = eqb-true a b (and_parts (eqb a b) _ e).0 in omega arith)
to false a true b h = let p = and_parts (eqb a b) _ h in let l = eqb-true a b p.0 in let z = eqb-true a 0 p.1 in (z, omega arith)
to true a false b h = tt
to true a true b h = or_cases (ltb b a) _ h (λ e. let l = ltb-true b a e in omega arith) (λ e. let l = eqb-true a b (and_parts (eqb a b) _ e).0 in omega arith)

from_le : (a b : ℕ) → a ≤ b → (ltb a b || (eqb a b && true)) ≡ true
from_le a b h = go (dec_lt a b)
  where
    go : Dec (a < b) → (ltb a b || (eqb a b && true)) ≡ true
    go (yes l) = rw (lt-ltb a b l)
    go (no l) = let e : a ≡ b = omega arith in rw (eq-eqb a b e) (or-true (ltb a b))

pub from : (s : Bool) (a : ℕ) (t : Bool) (b : ℕ) → Leq s a t b → leq s a t b ≡ true
from false a false b h = from_le a b h
from false a true b h = let e : a ≡ b = h.0 ∙ sym h.1 in rw (eq-eqb a b e, eq-eqb a 0 h.0)
from true a false b h = go (dec_lt 0 (a + b))
  where
    go : Dec (0 < a + b) → leq true a false b ≡ true
    go (yes l) = rw (lt-ltb 0 (a + b) l)
    go (no l) = let e : a ≡ b = omega arith in let f : a ≡ 0 = omega arith in rw (eq-eqb a b e, eq-eqb a 0 f) (or-true (ltb 0 (a + b)))
from true a true b h = go (dec_lt b a)
  where
    go : Dec (b < a) → leq true a true b ≡ true
    go (yes l) = rw (lt-ltb b a l)
    go (no l) = let e : a ≡ b = omega arith in rw (eq-eqb a b e) (or-true (ltb b a))

-- the numbers: A / de ≤ B / dd and B / dd ≤ C / dk give A / de ≤ C / dk
none : (a c : ℕ) → 0 < c → a * c ≤ 0 → a ≡ 0
none a c h l = let k : a ≤ 0 = le_of_mul-le-mul_right {m = a} {n = 0} {k = c} (omega arith) h in omega arith

zero_times : {a : ℕ} (c : ℕ) → a ≤ 0 * c → a ≤ 0
zero_times c h = omega arith

chain : (A B C de dd dk : ℕ) → 0 < dd → A * dd ≤ B * de → B * dk ≤ C * dd → A * dk ≤ C * de
chain A B C de dd dk h l m =
    le_of_mul-le-mul_right {m = A * dk} {n = C * de} {k = dd} (omega (arith, mul-le-mul_right dk l, mul-le-mul_right de m)) h

carry : (s t u : Bool) (A B C de dd dk : ℕ) → 0 < de → 0 < dd → 0 < dk → Leq s (A * dd) t (B * de) → Leq t (B * dk) u (C * dd) → Leq s (A * dk) u (C * de)
carry false false false A B C de dd dk x y z h l = chain A B C de dd dk y h l
carry false false true A B C de dd dk x y z h l =
    let b : B ≡ 0 = none B dk z (omega arith) in
    let c : C ≡ 0 = none C dd y (omega arith) in
    let a : A ≡ 0 = none A dd y (zero_times de (subst (λ (k : ℕ). A * dd ≤ k * de) b h)) in
    (ap (λ (k : ℕ). k * dk) a ∙ omega arith, ap (λ (k : ℕ). k * de) c ∙ omega arith)
carry false true false A B C de dd dk x y z h l = let a : A ≡ 0 = none A dd y (omega arith) in subst (λ (k : ℕ). k * dk ≤ C * de) (sym a) (omega arith)
carry false true true A B C de dd dk x y z h l =
    let a : A ≡ 0 = none A dd y (omega arith) in
    let b : B ≡ 0 = none B de x (omega arith) in
    let c : C ≡ 0 = none C dd y (zero_times dk (subst (λ (k : ℕ). C * dd ≤ k * dk) b l)) in
    (ap (λ (k : ℕ). k * dk) a ∙ omega arith, ap (λ (k : ℕ). k * de) c ∙ omega arith)
carry true false false A B C de dd dk x y z h l = tt
carry true false true A B C de dd dk x y z h l = let c : C ≡ 0 = none C dd y (omega arith) in subst (λ (k : ℕ). k * de ≤ A * dk) (sym c) (omega arith)
carry true true false A B C de dd dk x y z h l = tt
carry true true true A B C de dd dk x y z h l = chain C B A dk dd de y l h

no_nan : (x : Float) → le x nan ≡ true → ⊥
unfolding le lt eq
no_nan nan h = false≢true h
no_nan (inf s) h = false≢true h
no_nan (fin s m e) h = false≢true h

pub le_trans : (x y z : Float) → le x y ≡ true → le y z ≡ true → le x z ≡ true
unfolding le lt eq
le_trans nan y z h l = absurd (false≢true h)
le_trans (inf s) nan z h l = absurd (false≢true h)
le_trans (inf s) (inf t) nan h l = absurd (false≢true l)
le_trans (inf true) (inf t) (inf true) h l = refl
le_trans (inf true) (inf t) (inf false) h l = refl
le_trans (inf false) (inf true) (inf u) h l = absurd (false≢true h)
le_trans (inf false) (inf false) (inf u) h l = l
le_trans (inf true) (inf t) (fin u p k) h l = refl
le_trans (inf false) (inf true) (fin u p k) h l = absurd (false≢true h)
le_trans (inf false) (inf false) (fin u p k) h l = l
le_trans (inf s) (fin t n d) nan h l = absurd (no_nan (fin t n d) l)
le_trans (inf true) (fin t n d) (inf true) h l = refl
le_trans (inf true) (fin t n d) (inf false) h l = refl
le_trans (inf false) (fin t n d) (inf u) h l = absurd (false≢true h)
le_trans (inf true) (fin t n d) (fin u p k) h l = refl
le_trans (inf false) (fin t n d) (fin u p k) h l = absurd (false≢true h)
le_trans (fin s m e) nan z h l = absurd (no_nan (fin s m e) h)
le_trans (fin s m e) (inf t) nan h l = absurd (false≢true l)
le_trans (fin s m e) (inf true) (inf u) h l = absurd (false≢true h)
le_trans (fin s m e) (inf false) (inf true) h l = absurd (false≢true l)
le_trans (fin s m e) (inf false) (inf false) h l = refl
le_trans (fin s m e) (inf true) (fin u p k) h l = absurd (false≢true h)
le_trans (fin s m e) (inf false) (fin u p k) h l = absurd (false≢true l)
le_trans (fin s m e) (fin t n d) nan h l = absurd (no_nan (fin t n d) l)
le_trans (fin s m e) (fin t n d) (inf true) h l = absurd (false≢true l)
le_trans (fin s m e) (fin t n d) (inf false) h l = refl
le_trans (fin s m e) (fin t n d) (fin u p k) h l =
    from s (m * up e * down k) u (p * up k * down e)
    (carry s t u (m * up e) (n * up d) (p * up k) (down e) (down d) (down k) (down_pos e) (down_pos d) (down_pos k)
    (to s (m * up e * down d) t (n * up d * down e) h) (to t (n * up d * down k) u (p * up k * down d) l))

-- ---- two Booleans that are true together
pub iff_eq : (b c : Bool) → (b ≡ true → c ≡ true) → (c ≡ true → b ≡ true) → b ≡ c
iff_eq true c f g = sym (f refl)
iff_eq false true f g = g refl
iff_eq false false f g = refl

pub is_not : (b c : Bool) → (b ≡ true → c ≡ true → ⊥) → (c ≡ false → b ≡ true) → b ≡ not c
is_not true true f g = absurd (f refl refl)
is_not true false f g = refl
is_not false true f g = refl
is_not false false f g = g refl

-- ---- reflexive, antisymmetric, total
same_leq : (s : Bool) (a : ℕ) → Leq s a s a
same_leq false a = omega arith
same_leq true a = omega arith

pub le_refl : (x : Float) → is_nan x ≡ false → le x x ≡ true
unfolding le lt eq is_nan
le_refl nan h = absurd (false≢true (sym h))
le_refl (inf true) h = refl
le_refl (inf false) h = refl
le_refl (fin s m e) h = from s (m * up e * down e) s (m * up e * down e) (same_leq s (m * up e * down e))

-- what stands in a comparison that holds is no NaN
pub le_left : (x y : Float) → le x y ≡ true → is_nan x ≡ false
unfolding le lt eq is_nan
le_left nan y h = absurd (false≢true h)
le_left (inf s) y h = refl
le_left (fin s m e) y h = refl

pub le_right : (x y : Float) → le x y ≡ true → is_nan y ≡ false
unfolding is_nan
le_right x nan h = absurd (no_nan x h)
le_right x (inf s) h = refl
le_right x (fin s m e) h = refl

same_level : (s : Bool) (a : ℕ) (t : Bool) (b : ℕ) → Leq s a t b → Leq t b s a → level s a t b ≡ true
same_level false a false b h l = let e : a ≡ b = omega arith in rw (eq-eqb a b e)
same_level false a true b h l = let e : a ≡ b = omega arith in rw (eq-eqb a b e, eq-eqb a 0 h.0)
same_level true a false b h l = let e : a ≡ b = omega arith in let z : a ≡ 0 = omega arith in rw (eq-eqb a b e, eq-eqb a 0 z)
same_level true a true b h l = let e : a ≡ b = omega arith in rw (eq-eqb a b e)

pub le_antisym : (x y : Float) → le x y ≡ true → le y x ≡ true → eq x y ≡ true
unfolding le lt eq
le_antisym nan y h l = absurd (false≢true h)
le_antisym (inf s) nan h l = absurd (false≢true h)
le_antisym (inf true) (inf true) h l = refl
le_antisym (inf true) (inf false) h l = absurd (false≢true l)
le_antisym (inf false) (inf true) h l = absurd (false≢true h)
le_antisym (inf false) (inf false) h l = refl
le_antisym (inf true) (fin t n d) h l = absurd (false≢true l)
le_antisym (inf false) (fin t n d) h l = absurd (false≢true h)
le_antisym (fin s m e) nan h l = absurd (no_nan (fin s m e) h)
le_antisym (fin s m e) (inf true) h l = absurd (false≢true h)
le_antisym (fin s m e) (inf false) h l = absurd (false≢true l)
le_antisym (fin s m e) (fin t n d) h l =
    same_level s (m * up e * down d) t (n * up d * down e) (to s (m * up e * down d) t (n * up d * down e) h) (to t (n * up d * down e) s (m * up e * down d) l)

pub eq_le : (x y : Float) → eq x y ≡ true → le x y ≡ true
unfolding le
eq_le x y h = rw h (or-true (lt x y))

pub lt_le : (x y : Float) → lt x y ≡ true → le x y ≡ true
unfolding le
lt_le x y h = rw h

-- ---- `lt` is the denial of `le` the other way round, but for a NaN
apart : (s : Bool) (a : ℕ) (t : Bool) (b : ℕ) → below s a t b ≡ true → Leq t b s a → ⊥
apart false a false b h l = let k = ltb-true a b h in absurd (clash k l)
  where
    clash : a < b → b ≤ a → ⊥
    clash k l = omega arith
apart false a true b h l = false≢true h
apart true a false b h l = clash (ltb-true 0 (a + b) h) l
  where
    clash : 0 < a + b → (b ≡ 0) × (a ≡ 0) → ⊥
    clash k l = omega arith
apart true a true b h l = clash (ltb-true b a h) l
  where
    clash : b < a → a ≤ b → ⊥
    clash k l = omega arith

-- one of the two holds
other : (s : Bool) (a : ℕ) (t : Bool) (b : ℕ) → (Leq t b s a → ⊥) → below s a t b ≡ true
other false a false b h = lt-ltb a b (lt_of (dec_lt a b))
  where
    lt_of : Dec (a < b) → a < b
    lt_of (yes l) = l
    lt_of (no l) = absurd (h (omega arith))
other false a true b h = absurd (h tt)
other true a false b h = lt-ltb 0 (a + b) (lt_of (dec_lt 0 (a + b)))
  where
    lt_of : Dec (0 < a + b) → 0 < a + b
    lt_of (yes l) = l
    lt_of (no l) = absurd (h (omega arith, omega arith))
other true a true b h = lt-ltb b a (lt_of (dec_lt b a))
  where
    lt_of : Dec (b < a) → b < a
    lt_of (yes l) = l
    lt_of (no l) = absurd (h (omega arith))

denied : (s : Bool) (a : ℕ) (t : Bool) (b : ℕ) → below s a t b ≡ not (leq t b s a)
denied s a t b =
    is_not (below s a t b) (leq t b s a) (λ h l. apart s a t b h (to t b s a l))
    (λ h. other s a t b (λ l. false≢true (sym h ∙ from t b s a l)))

pub lt_is : (x y : Float) → is_nan x ≡ false → is_nan y ≡ false → lt x y ≡ not (le y x)
unfolding le lt eq is_nan
lt_is nan y h l = absurd (false≢true (sym h))
lt_is (inf s) nan h l = absurd (false≢true (sym l))
lt_is (inf true) (inf true) h l = refl
lt_is (inf true) (inf false) h l = refl
lt_is (inf false) (inf true) h l = refl
lt_is (inf false) (inf false) h l = refl
lt_is (inf true) (fin t n d) h l = refl
lt_is (inf false) (fin t n d) h l = refl
lt_is (fin s m e) nan h l = absurd (false≢true (sym l))
lt_is (fin s m e) (inf true) h l = refl
lt_is (fin s m e) (inf false) h l = refl
lt_is (fin s m e) (fin t n d) h l = denied s (m * up e * down d) t (n * up d * down e)

number_left : (x y : Float) → lt x y ≡ true → is_nan x ≡ false
number_left x y h = le_left x y (lt_le x y h)

number_right : (x y : Float) → lt x y ≡ true → is_nan y ≡ false
number_right x y h = le_right x y (lt_le x y h)

not_le : (b : Bool) → true ≡ not b → b ≡ false
not_le true h = absurd (false≢true (sym h))
not_le false h = refl

pub lt_not_le : (x y : Float) → lt x y ≡ true → le y x ≡ false
lt_not_le x y h = not_le (le y x) (sym h ∙ lt_is x y (number_left x y h) (number_right x y h))

pub not_le_lt : (x y : Float) → is_nan x ≡ false → is_nan y ≡ false → le y x ≡ false → lt x y ≡ true
not_le_lt x y h l k = lt_is x y h l ∙ ap not k

pub le_total : (x y : Float) → is_nan x ≡ false → is_nan y ≡ false → le y x ≡ false → le x y ≡ true
le_total x y h l k = lt_le x y (not_le_lt x y h l k)

from_no : (b : Bool) → (b ≡ true → ⊥) → b ≡ false
from_no true h = absurd (h refl)
from_no false h = refl

pub lt_le_trans : (x y z : Float) → lt x y ≡ true → le y z ≡ true → lt x z ≡ true
lt_le_trans x y z h l =
    not_le_lt x z (number_left x y h) (le_right y z l) (from_no (le z x) (λ k. false≢true (sym (lt_not_le x y h) ∙ le_trans y z x l k)))

pub le_lt_trans : (x y z : Float) → le x y ≡ true → lt y z ≡ true → lt x z ≡ true
le_lt_trans x y z h l =
    not_le_lt x z (le_left x y h) (number_right y z l) (from_no (le z x) (λ k. false≢true (sym (lt_not_le y z l) ∙ le_trans z x y k h)))

-- ---- `neg` turns the order round
turned : (s : Bool) (a : ℕ) (t : Bool) (b : ℕ) → Leq s a t b → Leq (not t) b (not s) a
turned false a false b h = h
turned false a true b h = (h.1, h.0)
turned true a false b h = tt
turned true a true b h = h

leq_turned_back : (s : Bool) (a : ℕ) (t : Bool) (b : ℕ) → Leq (not t) b (not s) a → Leq s a t b
leq_turned_back false a false b h = h
leq_turned_back false a true b h = (h.1, h.0)
leq_turned_back true a false b h = tt
leq_turned_back true a true b h = h

pub neg_le : (x y : Float) → le (neg y) (neg x) ≡ le x y
unfolding le lt eq neg
neg_le nan nan = refl
neg_le nan (inf s) = refl
neg_le nan (fin s m e) = refl
neg_le (inf s) nan = refl
neg_le (inf true) (inf true) = refl
neg_le (inf true) (inf false) = refl
neg_le (inf false) (inf true) = refl
neg_le (inf false) (inf false) = refl
neg_le (inf true) (fin t n d) = refl
neg_le (inf false) (fin t n d) = refl
neg_le (fin s m e) nan = refl
neg_le (fin s m e) (inf true) = refl
neg_le (fin s m e) (inf false) = refl
neg_le (fin s m e) (fin t n d) =
    iff_eq (leq (not t) (n * up d * down e) (not s) (m * up e * down d)) (leq s (m * up e * down d) t (n * up d * down e))
    (λ h. from s (m * up e * down d) t (n * up d * down e) (leq_turned_back s (m * up e * down d) t (n * up d * down e) (to (not t) (n * up d * down e) (not s) (m * up e * down d) h)))
    (λ h. from (not t) (n * up d * down e) (not s) (m * up e * down d) (turned s (m * up e * down d) t (n * up d * down e) (to s (m * up e * down d) t (n * up d * down e) h)))

pub neg_neg : (x : Float) → neg (neg x) ≡ x
unfolding neg
neg_neg nan = refl
neg_neg (inf true) = refl
neg_neg (inf false) = refl
neg_neg (fin true m e) = refl
neg_neg (fin false m e) = refl
