-- `order_key` is in the order that `before` states, and tells floats apart: so a comparison of two keys is totalOrder.
use Rattle.std.proofs.Common.{◌≡◌, ℕ, ◌+◌, ◌-◌, ◌^◌, ◌<◌, ◌≤◌, Bool, true, false, cond, not, ◌&&◌, ◌||◌, T, ltb, ◌⊎◌, ℤ, sym, refl, ap, ◌∙◌, subst, inl, inr, true≢false, le_of_eq, lt_of_le_of_lt, le_antisymm, not-le_of_lt, arith, lit<, ltb-true, ltb-false, le-ltb, lt-ltb}
use lib.Ieee.{Float, nan, inf, fin, binary64, neg, lt, eq, le, fits, is_nan, to_bits}
use lib.Ieee.Fits.{neg-fits}
use Rattle.float.proofs.Units.{held, le_or_lt, number}
use Rattle.float.proofs.Pattern.{rank, bits_rank, rank_hi, rank_mono, rank_one}
use Rattle.float.proofs.Order.{iff_eq, lt_is, lt_not_le, not_le_lt, neg_le}
use Rattle.float.proofs.Signed.{le_val, val_le, neg_is}
use Rattle.float.specs.Units.{Is}
use Rattle.float.specs.TotalOrder.{before, total_compare, order_key}
use Rattle.std.specs.Ordering.{nat_cmp, MatchOrdering}
use Rattle.std.specs.Cmp.{nat_cmp_is}
use Rattle.std.specs.declared.cmp.Ordering.TheVariants.{Less, Equal, Greater}

-- ---- where a key stands: p is the pattern, the sign apart
abbrev place : Bool → ℕ → ℕ
place true p = 2 ^ 63 - 1 - p
place false p = p + 2 ^ 63

key_of : (x : Float) (s : Bool) (p : ℕ) → is_nan x ≡ false → to_bits binary64 x ≡ cond s (2 ^ 63) 0 + p → p < 2 ^ 63 → order_key x ≡ place s p
unfolding order_key
key_of x true p n e h = rw (n, e, le-ltb (2 ^ 63 + p) (2 ^ 63) (more p)) (less p h)
  where
    more : (p : ℕ) → 2 ^ 63 ≤ 2 ^ 63 + p
    more p = omega arith

    less : (p : ℕ) → p < 2 ^ 63 → 2 ^ 64 - 1 - (2 ^ 63 + p) ≡ 2 ^ 63 - 1 - p
    less p h = omega arith
key_of x false p n e h = rw (n, e, lt-ltb (0 + p) (2 ^ 63) (plain p h)) (same p)
  where
    plain : (p : ℕ) → p < 2 ^ 63 → 0 + p < 2 ^ 63
    plain p h = omega arith

    same : (p : ℕ) → 0 + p + 2 ^ 63 ≡ p + 2 ^ 63
    same p = omega arith

-- the pattern of infinity
abbrev top : ℕ
top = 9218868437227405312

below_top : (p : ℕ) → p < top → p < 2 ^ 63
below_top p h = omega arith

fin_key : (x : Float) (s : Bool) (v : ℕ) → Is x s v → v < 2 ^ 2098 → order_key x ≡ place s (rank v)
fin_key x s v i h = key_of x s (rank v) (number x s v i) (bits_rank x s v i) (below_top (rank v) (rank_hi v h))

inf_key : (s : Bool) → order_key (inf s) ≡ place s top
inf_key s = key_of (inf s) s top (unfold is_nan in refl) (unfold to_bits in refl) (lit< tt)

nan_key : order_key nan ≡ 2 ^ 64 - 1
unfolding order_key is_nan
nan_key = refl

-- ---- two tests that hold together
same_test : (a b c d : ℕ) → (a < b → c < d) → (c < d → a < b) → ltb a b ≡ ltb c d
same_test a b c d f g = iff_eq (ltb a b) (ltb c d) (λ h. lt-ltb c d (f (ltb-true a b h))) (λ h. lt-ltb a b (g (ltb-true c d h)))

-- ---- finite values of one sign
lt_rank : (x y : Float) (a b : ℕ) → T (fits binary64 x) → T (fits binary64 y) → Is x false a → Is y false b → lt x y ≡ ltb (rank a) (rank b)
lt_rank x y a b tx ty i j = iff_eq (lt x y) (ltb (rank a) (rank b)) up down
  where
    flat : b ≤ a → b + 0 ≤ a + 0
    flat h = omega arith

    less : lt x y ≡ true → a < b
    less h = go (le_or_lt b a)
      where
        go : (b ≤ a) ⊎ (a < b) → a < b
        go (inr l) = l
        go (inl l) = absurd (true≢false (sym (le_val y x false false b a j i (flat l)) ∙ lt_not_le x y h))

    apart : a < b → rank a ≡ rank b → ⊥
    apart l e = clash l (val_le y x false false b a j i (subst (λ (z : Float). le z x ≡ true) (rank_one x y false a b tx ty i j e) (le_val x x false false a a i i (le_of_eq refl))))
      where
        clash : a < b → b + 0 ≤ a + 0 → ⊥
        clash l m = omega arith

    up : lt x y ≡ true → ltb (rank a) (rank b) ≡ true
    up h = lt-ltb (rank a) (rank b) (go (le_or_lt (rank b) (rank a)))
      where
        weak : a < b → a ≤ b
        weak l = omega arith

        go : (rank b ≤ rank a) ⊎ (rank a < rank b) → rank a < rank b
        go (inr l) = l
        go (inl l) = absurd (apart (less h) (le_antisymm (rank_mono a b (weak (less h))) l))

    down : ltb (rank a) (rank b) ≡ true → lt x y ≡ true
    down h = not_le_lt x y (number x false a i) (number y false b j) (go (le y x) refl)
      where
        order_of : b + 0 ≤ a + 0 → b ≤ a
        order_of h = omega arith

        go : (t : Bool) → le y x ≡ t → t ≡ false
        go false e = refl
        go true e = absurd (not-le_of_lt (ltb-true (rank a) (rank b) h) (rank_mono b a (order_of (val_le y x false false b a j i e))))

neg_lt : (x y : Float) → is_nan x ≡ false → is_nan y ≡ false → is_nan (neg x) ≡ false → is_nan (neg y) ≡ false → lt (neg y) (neg x) ≡ lt x y
neg_lt x y p q r s = lt_is (neg y) (neg x) s r ∙ ap not (neg_le y x) ∙ sym (lt_is x y p q)

-- ---- finite values
no_more : (l e : Bool) → (l || (e && false)) ≡ l
no_more true e = refl
no_more false true = refl
no_more false false = refl

and_true : (b : Bool) → (b && true) ≡ b
and_true true = refl
and_true false = refl

shifted : (p q : ℕ) → ltb p q ≡ ltb (p + 2 ^ 63) (q + 2 ^ 63)
shifted p q = same_test p q (p + 2 ^ 63) (q + 2 ^ 63) (λ h. omega arith) (λ h. omega arith)

turned : (p q : ℕ) → p < top → q < top → ltb q p ≡ ltb (2 ^ 63 - 1 - p) (2 ^ 63 - 1 - q)
turned p q h l = same_test q p (2 ^ 63 - 1 - p) (2 ^ 63 - 1 - q) (λ m. omega arith) (λ m. omega arith)

opened : (s t : Bool) (m n : ℕ) (e d : ℤ) → before (fin s m e) (fin t n d) ≡ (lt (fin s m e) (fin t n d) || (eq (fin s m e) (fin t n d) && (s && not t)))
unfolding before is_nan
opened s t m n e d = refl

fin_before : (x y : Float) (s t : Bool) (a b : ℕ) → T (fits binary64 x) → T (fits binary64 y) → Is x s a → Is y t b → a < 2 ^ 2098 → b < 2 ^ 2098
    → (lt x y || (eq x y && (s && not t))) ≡ ltb (place s (rank a)) (place t (rank b))
fin_before x y false t a b tx ty i j h l = no_more (lt x y) (eq x y) ∙ go t j
  where
    go : (t : Bool) → Is y t b → lt x y ≡ ltb (rank a + 2 ^ 63) (place t (rank b))
    go false j = lt_rank x y a b tx ty i j ∙ shifted (rank a) (rank b)
    go true j =
        lt_is x y (number x false a i) (number y true b j)
        ∙ ap not (le_val y x true false b a j i (zero_le a b))
        ∙ sym (le-ltb (rank a + 2 ^ 63) (2 ^ 63 - 1 - rank b) (above (rank a) (rank b)))
      where
        zero_le : (a b : ℕ) → 0 + 0 ≤ a + b
        zero_le a b = omega arith

        above : (p q : ℕ) → 2 ^ 63 - 1 - q ≤ p + 2 ^ 63
        above p q = omega arith
fin_before x y true false a b tx ty i j h l =
    ap (λ (z : Bool). lt x y || z) (and_true (eq x y)) ∙ level ∙ sym (lt-ltb (2 ^ 63 - 1 - rank a) (rank b + 2 ^ 63) (below (rank a) (rank b)))
  where
    zero_le : (a b : ℕ) → 0 + 0 ≤ b + a
    zero_le a b = omega arith

    level : (lt x y || eq x y) ≡ true
    level = unfold le in le_val x y true false a b i j (zero_le a b)

    below : (p q : ℕ) → 2 ^ 63 - 1 - p < q + 2 ^ 63
    below p q = omega arith
fin_before x y true true a b tx ty i j h l =
    no_more (lt x y) (eq x y)
    ∙ sym (neg_lt x y (number x true a i) (number y true b j) (number (neg x) false a (neg_is x true a i)) (number (neg y) false b (neg_is y true b j)))
    ∙ lt_rank (neg y) (neg x) b a (neg-fits binary64 y ty) (neg-fits binary64 x tx) (neg_is y true b j) (neg_is x true a i)
    ∙ turned (rank a) (rank b) (rank_hi a h) (rank_hi b l)

-- ---- every float
inf_inf : (s t : Bool) → before (inf s) (inf t) ≡ ltb (place s top) (place t top)
unfolding before is_nan lt eq
inf_inf true true = refl
inf_inf true false = refl
inf_inf false true = refl
inf_inf false false = refl

inf_fin : (s t : Bool) (n : ℕ) (d : ℤ) (p : ℕ) → p < top → before (inf s) (fin t n d) ≡ ltb (place s top) (place t p)
unfolding before is_nan lt eq
inf_fin true true n d p h = sym (lt-ltb (2 ^ 63 - 1 - top) (2 ^ 63 - 1 - p) (omega arith))
inf_fin true false n d p h = sym (lt-ltb (2 ^ 63 - 1 - top) (p + 2 ^ 63) (omega arith))
inf_fin false true n d p h = sym (le-ltb (top + 2 ^ 63) (2 ^ 63 - 1 - p) (omega arith))
inf_fin false false n d p h = sym (le-ltb (top + 2 ^ 63) (p + 2 ^ 63) (omega arith))

fin_inf : (s t : Bool) (m : ℕ) (e : ℤ) (p : ℕ) → p < top → before (fin s m e) (inf t) ≡ ltb (place s p) (place t top)
unfolding before is_nan lt eq
fin_inf true true m e p h = sym (le-ltb (2 ^ 63 - 1 - p) (2 ^ 63 - 1 - top) (omega arith))
fin_inf true false m e p h = sym (lt-ltb (2 ^ 63 - 1 - p) (top + 2 ^ 63) (omega arith))
fin_inf false true m e p h = sym (le-ltb (p + 2 ^ 63) (2 ^ 63 - 1 - top) (omega arith))
fin_inf false false m e p h = sym (lt-ltb (p + 2 ^ 63) (top + 2 ^ 63) (omega arith))

record Placed (x : Float) : Type 0 where
  s : Bool
  p : ℕ
  most : p ≤ top
  key : order_key x ≡ place s p

placed : (x : Float) → T (fits binary64 x) → is_nan x ≡ false → Placed x
placed nan t h = absurd (true≢false (sym nan_nan ∙ h))
  where
    nan_nan : is_nan nan ≡ true
    nan_nan = unfold is_nan in refl
placed (inf s) t h = record { s = s; p = top; most = le_of_eq refl; key = inf_key s }
placed (fin s m e) t h =
    let X = held (fin s m e) t tt in
    record { s = X.s; p = rank X.v; most = weak (rank X.v) (rank_hi X.v X.small); key = fin_key (fin s m e) X.s X.v X.is X.small }
  where
    weak : (p : ℕ) → p < top → p ≤ top
    weak p h = omega arith

place_hi : (s : Bool) (p : ℕ) → p ≤ top → place s p < 2 ^ 64 - 1
place_hi true p h = omega arith
place_hi false p h = omega arith

key_hi : (x : Float) → T (fits binary64 x) → is_nan x ≡ false → order_key x < 2 ^ 64 - 1
key_hi x t h = let q = placed x t h in lt_of_le_of_lt (le_of_eq q.key) (place_hi q.s q.p q.most)

before_nan : (x : Float) → is_nan x ≡ false → before x nan ≡ true
unfolding before is_nan
before_nan x h = ap not h

nan_before : (y : Float) → is_nan y ≡ false → before nan y ≡ false
unfolding before lt eq
nan_before y h = ap (λ (b : Bool). cond b (not (is_nan nan)) false) h

pub before_is : (x y : Float) → T (fits binary64 x) → T (fits binary64 y) → before x y ≡ ltb (order_key x) (order_key y)
before_is nan nan tx ty = unfold before in unfold is_nan in sym (le-ltb (order_key nan) (order_key nan) (le_of_eq refl))
before_is nan (inf t) tx ty = nan_before (inf t) (unfold is_nan in refl) ∙ sym (le-ltb (order_key nan) (order_key (inf t)) (lt_le (key_hi (inf t) ty (unfold is_nan in refl))))
  where
    lt_le : order_key (inf t) < 2 ^ 64 - 1 → order_key (inf t) ≤ order_key nan
    lt_le h = subst (λ (z : ℕ). order_key (inf t) ≤ z) (sym nan_key) (native.Mathlib.Nat.le_of_lt h)
before_is nan (fin t n d) tx ty = nan_before (fin t n d) (unfold is_nan in refl) ∙ sym (le-ltb (order_key nan) (order_key (fin t n d)) (lt_le (key_hi (fin t n d) ty (unfold is_nan in refl))))
  where
    lt_le : order_key (fin t n d) < 2 ^ 64 - 1 → order_key (fin t n d) ≤ order_key nan
    lt_le h = subst (λ (z : ℕ). order_key (fin t n d) ≤ z) (sym nan_key) (native.Mathlib.Nat.le_of_lt h)
before_is (inf s) nan tx ty = before_nan (inf s) (unfold is_nan in refl) ∙ sym (lt-ltb (order_key (inf s)) (order_key nan) (subst (λ (z : ℕ). order_key (inf s) < z) (sym nan_key) (key_hi (inf s) tx (unfold is_nan in refl))))
before_is (fin s m e) nan tx ty = before_nan (fin s m e) (unfold is_nan in refl) ∙ sym (lt-ltb (order_key (fin s m e)) (order_key nan) (subst (λ (z : ℕ). order_key (fin s m e) < z) (sym nan_key) (key_hi (fin s m e) tx (unfold is_nan in refl))))
before_is (inf s) (inf t) tx ty = rw (inf_key s, inf_key t) (inf_inf s t)
before_is (inf s) (fin t n d) tx ty =
    let Y = held (fin t n d) ty tt in
    rw (inf_key s, fin_key (fin t n d) t Y.v (refl, Y.is.1) Y.small) (inf_fin s t n d (rank Y.v) (rank_hi Y.v Y.small))
before_is (fin s m e) (inf t) tx ty =
    let X = held (fin s m e) tx tt in
    rw (inf_key t, fin_key (fin s m e) s X.v (refl, X.is.1) X.small) (fin_inf s t m e (rank X.v) (rank_hi X.v X.small))
before_is (fin s m e) (fin t n d) tx ty =
    let X = held (fin s m e) tx tt in
    let Y = held (fin t n d) ty tt in
    let i : Is (fin s m e) s X.v = (refl, X.is.1) in
    let j : Is (fin t n d) t Y.v = (refl, Y.is.1) in
    opened s t m n e d ∙ fin_before (fin s m e) (fin t n d) s t X.v Y.v tx ty i j X.small Y.small
    ∙ ap (λ (z : ℕ). ltb z (place t (rank Y.v))) (sym (fin_key (fin s m e) s X.v i X.small))
    ∙ ap (λ (z : ℕ). ltb (order_key (fin s m e)) z) (sym (fin_key (fin t n d) t Y.v j Y.small))

-- ---- so totalOrder is one of whole numbers
-- comparing two numbers is two tests
by_tests : (a b : ℕ) → nat_cmp a b ≡ cond (ltb a b) Less (cond (ltb b a) Greater Equal)
by_tests a b = sym (nat_cmp_is a b _ (go (ltb a b) (ltb b a) refl refl))
  where
    go : (p q : Bool) → ltb a b ≡ p → ltb b a ≡ q → MatchOrdering (cond p Less (cond q Greater Equal)) (a < b) (a ≡ b) (b < a)
    go true q h l = ltb-true a b h
    go false true h l = ltb-true b a l
    go false false h l = le_antisymm (ltb-false b a l) (ltb-false a b h)

pub compare_is : (x y : Float) → T (fits binary64 x) → T (fits binary64 y) → nat_cmp (order_key x) (order_key y) ≡ total_compare x y
unfolding total_compare
compare_is x y tx ty = rw (before_is x y tx ty, before_is y x ty tx) (by_tests (order_key x) (order_key y))

pub before_irreflexive : (x : Float) → T (fits binary64 x) → before x x ≡ false
before_irreflexive x t = before_is x x t t ∙ le-ltb (order_key x) (order_key x) (le_of_eq refl)

pub before_trans : (x y z : Float) → T (fits binary64 x) → T (fits binary64 y) → T (fits binary64 z) → before x y ≡ true → before y z ≡ true → before x z ≡ true
before_trans x y z tx ty tz h l =
    before_is x z tx tz
    ∙ lt-ltb (order_key x) (order_key z) (native.Mathlib.Nat.lt_trans (ltb-true (order_key x) (order_key y) (sym (before_is x y tx ty) ∙ h)) (ltb-true (order_key y) (order_key z) (sym (before_is y z ty tz) ∙ l)))
