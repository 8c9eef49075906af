-- How large a root is. Its square is what it is the root of, within 2 ^ -51 (`root_square`); a bounded number has a
-- bounded root (`root_small`), what is at least 2 ^ -100 has one of at least 2 ^ -50 (`root_long`), and a root that is
-- not zero is at least 2 ^ -537 (`root_apart`).
use Rattle.std.proofs.Common.{◌≡◌, ℕ, zero, suc, ◌+◌, ◌-◌, ◌*◌, ◌^◌, ◌<◌, ◌≤◌, Bool, true, false, cond, not, T, pos, negsuc, sym, refl, ap, ◌∙◌, subst, true≢false, le_trans, mul-le-mul_right, mul-pos, not-le_of_lt, arith, lit≤, pow_pos}
use lib.Ieee.{Float, nan, inf, fin, binary64, up, down, round, neg, le, lt, eq, is_nan, of_bits, fits}
use lib.Ieee.Bits.{of_bits-fits}
use lib.Ieee.Fits.{round-fits, nan-fits, down_pos}
use lib.Ieee.Scale.{finite}
use Rattle.float.specs.Units.{U, Is}
use Rattle.float.specs.Helpers.{nought, maximum}
use Rattle.float.proofs.Order as order
use Rattle.float.proofs.Rounding.{U_pos}
use Rattle.float.proofs.Signed.{pl, mi, le_val, val_le}
use Rattle.float.proofs.Sizes.{parts_size_le}
use Rattle.float.proofs.Units.{number, one_number}
use Rattle.float.proofs.Zeros.{nought_is}
use Rattle.float.proofs.UpTo.{units_le, le_of_units, double_up_to}
use Rattle.float.proofs.Bounded.{Small, raise, nought_small, least, least_is}
use Rattle.root.specs.Root.{root, root_units, Rooted}
use Rattle.root.proofs.WholeRoot.{whole_root_is}
use Rattle.root.proofs.RootCases.{Above, above_of}
use Rattle.root.proofs.RootOrder.{round_nn, root_mono, root_rooted}

-- ---- a root is a double, and finite only of what is finite
pub root_fits : (a : Float) → T (fits binary64 a) → T (fits binary64 (root a))
unfolding root root_units
root_fits nan h = h
root_fits (inf true) h = nan-fits binary64
root_fits (inf false) h = h
root_fits (fin s zero e) h = h
root_fits (fin true (suc m) e) h = nan-fits binary64
root_fits (fin false (suc m) e) h = round-fits binary64 false _ _

pub root_finite : (a : Float) → T (finite (root a)) → T (finite a)
unfolding root
root_finite nan h = h
root_finite (inf true) h = h
root_finite (inf false) h = h
root_finite (fin s m e) h = tt

-- ---- the square of a root: l units are the root of x units
four : (x : ℕ) → x * 2 ^ 1076 ≡ 4 * (x * U)
unfolding U
four x = go (2 ^ 1076) (2 ^ 1074) refl
  where
    go : (a b : ℕ) → a ≡ 4 * b → x * a ≡ 4 * (x * b)
    go a b e =
        let z : x * a ≡ x * (4 * b) = ap (λ (c : ℕ). x * c) e in
        omega arith

-- q has 53 digits, so g, a unit of the last of them, is at most 2 ^ -52 of q g
high : (q g X : ℕ) → 2 ^ 52 ≤ q → (2 * q - 1) * g * ((2 * q - 1) * g) < 4 * X → 2 ^ 51 * (q * g * (q * g)) ≤ 2 ^ 51 * X + q * g * (q * g)
high q g X h l = go (2 * q - 1) (apart q h) l (mul-le-mul_right (q * (g * g)) h)
  where
    apart : (q : ℕ) → 2 ^ 52 ≤ q → 2 * q ≡ 2 * q - 1 + 1
    apart q h = omega arith

    go : (z : ℕ) → 2 * q ≡ z + 1 → z * g * (z * g) < 4 * X → 2 ^ 52 * (q * (g * g)) ≤ q * (q * (g * g)) → 2 ^ 51 * (q * g * (q * g)) ≤ 2 ^ 51 * X + q * g * (q * g)
    go z e l k = sum (ap (λ (y : ℕ). y * (q * (g * g))) e) (ap (λ (y : ℕ). z * (y * (g * g))) e) (ap (λ (y : ℕ). y * (g * g)) e)
      where
        sum : 2 * q * (q * (g * g)) ≡ (z + 1) * (q * (g * g)) → z * (2 * q * (g * g)) ≡ z * ((z + 1) * (g * g)) → 2 * q * (g * g) ≡ (z + 1) * (g * g) → 2 ^ 51 * (q * g * (q * g)) ≤ 2 ^ 51 * X + q * g * (q * g)
        sum a b c = omega arith

low : (q g X : ℕ) → 2 ^ 52 ≤ q → 4 * X < (2 * q + 1) * g * ((2 * q + 1) * g) → 2 ^ 51 * X ≤ 2 ^ 51 * (q * g * (q * g)) + q * g * (q * g)
low q g X h l = go (mul-le-mul_right (q * (g * g)) h) (mul-le-mul_right (g * g) (le_trans (lit≤ tt) h))
  where
    go : 2 ^ 52 * (q * (g * g)) ≤ q * (q * (g * g)) → 1 * (g * g) ≤ q * (g * g) → 2 ^ 51 * X ≤ 2 ^ 51 * (q * g * (q * g)) + q * g * (q * g)
    go a b = omega arith

pub record RootSquare (x l : ℕ) : Type 0 where
  pub high : 2 ^ 51 * (l * l) ≤ 2 ^ 51 * (x * U) + l * l
  pub low : 2 ^ 51 * (x * U) ≤ 2 ^ 51 * (l * l) + l * l

pub root_square : (x : ℕ) (y : Float) (r : Rooted x y) → RootSquare x (r.q * r.g)
root_square x y r = record {
  high = high r.q r.g (x * U) r.low (subst (λ (z : ℕ). (2 * r.q - 1) * r.g * ((2 * r.q - 1) * r.g) < z) (four x) r.above);
  low = low r.q r.g (x * U) r.low (subst (λ (z : ℕ). z < (2 * r.q + 1) * r.g * ((2 * r.q + 1) * r.g)) (four x) r.below);
}

-- ---- a double above zero, by its units
pub above_is : (x : Float) (v : ℕ) → T (fits binary64 x) → Is x false v → 0 < v → Above x
above_is nan v f i p = absurd i
above_is (inf s) v f i p = absurd i
above_is (fin true m e) v f i p = absurd (true≢false i.0)
above_is (fin false zero e) v f i p = absurd (none (up e) (down e) U v (down_pos e) p i.1)
  where
    none : (a d u v : ℕ) → 0 < d → 0 < v → 0 * a * u ≡ v * d → ⊥
    none a d u v D P h = go (mul-pos P D) h
      where
        go : 0 < v * d → 0 * a * u ≡ v * d → ⊥
        go x y = omega arith
above_is (fin false (suc m) e) v f i p = above_of m e f

pub units_rooted : (x : Float) (v : ℕ) → T (fits binary64 x) → Is x false v → 0 < v → Rooted v (root x)
units_rooted x v f i p =
    let A = above_is x v f i p in
    subst (λ (z : ℕ). Rooted z (root x)) (one_number x false false A.v v A.is i).1 (root_rooted x f A)

-- ---- worked roots: of zero, and of 2 ^ 200, 2 ^ -100 and the least number above zero
root_nought : root nought ≡ nought
unfolding root of_bits
root_nought = refl

nought_nought : le nought nought ≡ true
nought_nought = order.le_refl nought (number nought false 0 nought_is)

nought_root : (x : Float) → T (fits binary64 x) → le nought x ≡ true → le nought (root x) ≡ true
nought_root x f n = subst (λ (z : Float). le z (root x) ≡ true) root_nought (root_mono nought x (of_bits-fits binary64 0) f nought_nought n)

abbrev far : Float
far = round binary64 false (2 ^ 200) 1

far_is : far ≡ fin false 1 (pos 200)
unfolding round
far_is = refl

far_units : Is far false (2 ^ 200 * U)
unfolding round U
far_units = (refl, refl)

root_far : root far ≡ round binary64 false (2 ^ 1175) (2 ^ 1075)
unfolding root root_units
root_far = ap root far_is ∙ ap (λ (n : ℕ). round binary64 false n (2 ^ 1075)) (whole_root_is _ (2 ^ 1175) (record { below = lit≤ tt; above = lit≤ tt }))

root_far_is : Is (round binary64 false (2 ^ 1175) (2 ^ 1075)) false (2 ^ 100 * U)
unfolding round U
root_far_is = (refl, refl)

abbrev pub short : Float
short = round binary64 false 1 (2 ^ 100)

short_is : short ≡ fin false 1 (negsuc 99)
unfolding round
short_is = refl

pub short_units : Is short false (2 ^ 974)
unfolding round U
short_units = (refl, refl)

root_short : root short ≡ round binary64 false (2 ^ 1025) (2 ^ 1075)
unfolding root root_units
root_short = ap root short_is ∙ ap (λ (n : ℕ). round binary64 false n (2 ^ 1075)) (whole_root_is _ (2 ^ 1025) (record { below = lit≤ tt; above = lit≤ tt }))

root_short_is : Is (round binary64 false (2 ^ 1025) (2 ^ 1075)) false (2 ^ 1024)
unfolding round U
root_short_is = (refl, refl)

least_fin : least ≡ fin false 1 (negsuc 1073)
unfolding round U
least_fin = refl

root_least : root least ≡ round binary64 false (2 ^ 538) (2 ^ 1075)
unfolding root root_units
root_least = ap root least_fin ∙ ap (λ (n : ℕ). round binary64 false n (2 ^ 1075)) (whole_root_is _ (2 ^ 538) (record { below = lit≤ tt; above = lit≤ tt }))

root_least_is : Is (round binary64 false (2 ^ 538) (2 ^ 1075)) false (2 ^ 537)
unfolding round U
root_least_is = (refl, refl)

-- ---- from above: up to 2 ^ 200
below_nought : le (neg (round binary64 false (2 ^ 1175) (2 ^ 1075))) nought ≡ true
unfolding le lt eq neg of_bits round
below_nought = refl

pub root_small : (x : Float) → T (fits binary64 x) → le nought x ≡ true → Small 200 x → Small 100 (root x)
root_small x f n X =
    let c = round binary64 false (2 ^ 1175) (2 ^ 1075) in
    let up : le x far ≡ true = le_of_units x far X.s X.v (2 ^ 200 * U) X.is far_units X.most in
    let high : le (root x) c ≡ true = subst (λ (z : Float). le (root x) z ≡ true) root_far (root_mono x far f (round-fits binary64 false (2 ^ 200) 1) n up) in
    double_up_to (2 ^ 100) c root_far_is (root x) (root_fits x f) (parts_size_le (root x) c (order.le_trans (neg c) nought (root x) below_nought (nought_root x f n)) high)

-- the root of what is cut off at zero
pub root_of_max : (k : ℕ) (x : Float) → k ≤ 200 → T (fits binary64 x) → Small k x → Small 100 (root (maximum x nought))
unfolding maximum
root_of_max k x h f X = go (is_nan x) (number x X.s X.v X.is) (lt x nought) refl
  where
    turned : (b : Bool) → not b ≡ false → b ≡ true
    turned true h = refl
    turned false h = absurd (true≢false h)

    go : (a : Bool) → a ≡ false → (b : Bool) → lt x nought ≡ b → Small 100 (root (cond a nought (cond b nought x)))
    go true e b p = absurd (true≢false e)
    go false e true p = root_small nought (of_bits-fits binary64 0) nought_nought (raise 0 200 nought (lit≤ tt) nought_small)
    go false e false p = root_small x f (turned (le nought x) (sym (order.lt_is x nought (number x X.s X.v X.is) (number nought false 0 nought_is)) ∙ p)) (raise k 200 x h X)

-- ---- from below: of what is at least 2 ^ -100
module _ (x : Float) (f : T (fits binary64 x)) (h : le short x ≡ true) where
  over_short : le (round binary64 false (2 ^ 1025) (2 ^ 1075)) (root x) ≡ true
  over_short = subst (λ (z : Float). le z (root x) ≡ true) root_short (root_mono short x (round-fits binary64 false 1 (2 ^ 100)) f (round_nn 1 (2 ^ 100) (pow_pos 100)) h)

  -- b units are the root
  pub root_long : (t : Bool) (b : ℕ) → Is (root x) t b → 2 ^ 1024 ≤ b
  root_long t b i = units_le (round binary64 false (2 ^ 1025) (2 ^ 1075)) (root x) t (2 ^ 1024) b root_short_is i over_short

  pub root_not_zero : eq (root x) nought ≡ false
  root_not_zero = go (eq (root x) nought) (order.eq_le (root x) nought)
    where
      go : (b : Bool) → (b ≡ true → le (root x) nought ≡ true) → b ≡ false
      go false g = refl
      go true g =
          absurd (not-le_of_lt (pow_pos 1024)
          (units_le (round binary64 false (2 ^ 1025) (2 ^ 1075)) nought false (2 ^ 1024) 0 root_short_is nought_is
          (order.le_trans (round binary64 false (2 ^ 1025) (2 ^ 1075)) (root x) nought over_short (g refl))))

-- a root that is not zero
pub root_apart : (k : ℕ) (x : Float) → T (fits binary64 x) → le nought x ≡ true → (X : Small k x) → eq (root x) nought ≡ false → (l : ℕ) (Y : Small l (root x)) → 2 ^ 537 ≤ Y.v
root_apart k x f n X h l Y =
    units_le (round binary64 false (2 ^ 538) (2 ^ 1075)) (root x) Y.s (2 ^ 537) Y.v root_least_is Y.is (subst (λ (z : Float). le z (root x) ≡ true) root_least over)
  where
    zero_le : (v : ℕ) → v ≡ 0 → v ≤ 0
    zero_le v e = omega arith

    none : X.v ≡ 0 → ⊥
    none e =
        true≢false
        (sym (order.le_antisym (root x) nought
        (subst (λ (z : Float). le (root x) z ≡ true) root_nought (root_mono x nought f (of_bits-fits binary64 0) n (le_of_units x nought X.s X.v 0 X.is nought_is (zero_le X.v e))))
        (nought_root x f n)) ∙ h)

    some : (v : ℕ) → (v ≡ 0 → ⊥) → 1 ≤ v
    some zero h = absurd (h refl)
    some (suc v) h = omega arith

    -- x is not below zero and not zero, so it is at least one unit
    signed : (s : Bool) (v : ℕ) → 1 ≤ v → 0 + mi s v ≤ pl s v + 0 → 1 + mi s v ≤ pl s v + 0
    signed true v p q = absurd (clash v p q)
      where
        clash : (v : ℕ) → 1 ≤ v → 0 + v ≤ 0 + 0 → ⊥
        clash v p q = omega arith
    signed false v p q = omega arith

    over : le (root least) (root x) ≡ true
    over =
        root_mono least x (round-fits binary64 false 1 U) f (round_nn 1 U U_pos)
        (le_val least x false X.s 1 X.v least_is X.is (signed X.s X.v (some X.v none) (val_le nought x false X.s 0 X.v nought_is X.is n)))
