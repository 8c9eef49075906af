-- Horner's form of the Taylor sums, exactly: 1 - z / (i (i + 1)) (1 - z / ((i + 2) (i + 3)) ( .. )), n terms after the first, is num / den at z = zn / zd.
-- It is the sum of specs/Taylor.antt (`terms_are`, `den_is`, `sin_is`, `cos_is`). At i = 2 it is sin r / r, and at i = 1 it is cos r, for z = r ^ 2. Assumes nothing.
use Rattle.std.proofs.Common.{◌≡◌, ℕ, zero, suc, ◌+◌, ◌-◌, ◌*◌, ◌^◌, ◌<◌, ◌≤◌, true, false, sym, refl, ap, ◌∙◌, le_trans, le_refl, lt_of_lt_of_le, mul-le-mul_right, mul_assoc, mul-le-mul, mul-pos, mul-one, arith, lit<, lit≤}
use native.Mathlib.Nat.{pow-succ'}
use native.Mathlib.Numerals.{unary_clauses}
use Rattle.trig.specs.Taylor.{rising, term, terms, sin_sum, cos_sum}

-- ---- exactly: z is zn / zd
unfoldable pub den : ℕ → ℕ → ℕ → ℕ
den zd zero i = 1
den zd (suc n) i = i * suc i * zd * den zd n (2 + i)

unfoldable pub num : ℕ → ℕ → ℕ → ℕ → ℕ
unfolding den
num zn zd zero i = 1
num zn zd (suc n) i = den zd (suc n) i - zn * num zn zd n (2 + i)

pub two_le : (i : ℕ) → 1 ≤ i → 2 ≤ i * suc i
two_le i h = le_trans (lit≤ tt) (mul-le-mul h (bump i h))
  where
    bump : (i : ℕ) → 1 ≤ i → 2 ≤ suc i
    bump i h = omega arith

pub den_pos : (zd n i : ℕ) → 0 < zd → 1 ≤ i → 0 < den zd n i
unfolding den
den_pos zd zero i Z h = lit< tt
den_pos zd (suc n) i Z h = mul-pos (mul-pos (lt_of_lt_of_le (lit< tt) (two_le i h)) Z) (den_pos zd n (2 + i) Z (omega arith))

less : (a b : ℕ) → a - b ≤ a
less a b = omega arith

pub num_le : (zn zd n i : ℕ) → num zn zd n i ≤ den zd n i
unfolding num
num_le zn zd zero i = le_refl 1
num_le zn zd (suc n) i = less (den zd (suc n) i) (zn * num zn zd n (2 + i))

-- ---- Horner's denominators
two_suc : (n : ℕ) → 2 * suc n ≡ suc (suc (2 * n))
two_suc n = omega arith

pow_two_suc : (v n : ℕ) → v ^ (2 * suc n) ≡ v * v * v ^ (2 * n)
pow_two_suc v n = ap (λ (k : ℕ). v ^ k) (two_suc n) ∙ pow-succ' v (suc (2 * n)) ∙ ap (λ (k : ℕ). v * k) (pow-succ' v (2 * n)) ∙ sym (mul_assoc v v (v ^ (2 * n)))

two_more : (m : ℕ) → 2 + suc m ≡ suc (suc (suc m))
two_more m = omega arith

two_plus : (m : ℕ) → suc (suc m) ≡ 2 + m
two_plus m = omega arith

pub den_is : (v n m : ℕ) → den (v * v) n (suc m) ≡ v ^ (2 * n) * rising m (2 * n)
unfolding den rising
den_is v zero m = simp unary_clauses
den_is v (suc n) m =
    ap (λ (k : ℕ). suc m * suc (suc m) * (v * v) * den (v * v) n k) (two_more m)
    ∙ ap (λ (k : ℕ). suc m * suc (suc m) * (v * v) * k) (den_is v n (suc (suc m)))
    ∙ go (suc m) (suc (suc m)) (v * v) (v ^ (2 * n)) (rising (suc (suc m)) (2 * n))
    ∙ ap (λ (k : ℕ). k * (suc m * (suc (suc m) * rising (suc (suc m)) (2 * n)))) (sym (pow_two_suc v n))
    ∙ ap (λ (k : ℕ). v ^ (2 * suc n) * rising m k) (sym (two_suc n))
  where
    go : (a b z x y : ℕ) → a * b * z * (x * y) ≡ z * x * (a * (b * y))
    go a b z x y = omega arith

term_is : (u v p n : ℕ) → term u v p n ≡ u ^ p * den (v * v) n (suc p)
unfolding term
term_is u v p n = mul_assoc (u ^ p) (v ^ (2 * n)) (rising p (2 * n)) ∙ ap (λ (k : ℕ). u ^ p * k) (sym (den_is v n p))

-- ---- Horner's numerators
-- zn * num ≤ den: a term is no larger than the one before it
pub bounded : (zn zd n i : ℕ) → zn ≤ zd → 1 ≤ i → zn * num zn zd n (2 + i) ≤ den zd (suc n) i
unfolding den
bounded zn zd n i h I = le_trans (mul-le-mul h (num_le zn zd n (2 + i))) (mul-le-mul_right (den zd n (2 + i)) (go i I))
  where
    go : (i : ℕ) → 1 ≤ i → zd ≤ i * suc i * zd
    go zero I = omega arith
    go (suc i) I = omega arith

pub terms_are : (u v n p : ℕ) → u * u ≤ v * v → terms u v true n p ≡ u ^ p * num (u * u) (v * v) n (suc p) + terms u v false n p
unfolding terms num
terms_are u v zero p h = term_is u v p zero ∙ unfold den in go (u ^ p)
  where
    go : (x : ℕ) → x * 1 ≡ x * 1 + 0
    go x = omega arith
terms_are u v (suc n) p h =
    ap (λ (k : ℕ). k + terms u v false n (2 + p)) (term_is u v p (suc n))
    ∙ go (u ^ p) (u * u) (u ^ (2 + p)) (den (v * v) (suc n) (suc p)) (num (u * u) (v * v) n (2 + suc p)) (num (u * u) (v * v) n (suc (2 + p))) (terms u v false n (2 + p)) (terms u v true n (2 + p))
    (ap (λ (k : ℕ). num (u * u) (v * v) n k) (same p)) (up p) (bounded (u * u) (v * v) n (suc p) h (first p)) (terms_are u v n (2 + p) h)
  where
    same : (p : ℕ) → 2 + suc p ≡ suc (2 + p)
    same p = omega arith

    first : (p : ℕ) → 1 ≤ suc p
    first p = omega arith

    up : (p : ℕ) → u ^ (2 + p) ≡ u * u * u ^ p
    up p = ap (λ (k : ℕ). u ^ k) (sym (two_plus p)) ∙ pow-succ' u (suc p) ∙ ap (λ (k : ℕ). u * k) (pow-succ' u p) ∙ sym (mul_assoc u u (u ^ p))

    go : (x z y D N N' M P : ℕ) → N ≡ N' → y ≡ z * x → z * N ≤ D → P ≡ y * N' + M → x * D + M ≡ x * (D - z * N) + P
    go x z y D N N' M P e f l g = split (D - z * N) (apart D (z * N) l)
      where
        apart : (a b : ℕ) → b ≤ a → a ≡ b + (a - b)
        apart a b h = omega arith

        split : (k : ℕ) → D ≡ z * N + k → x * D + M ≡ x * k + P
        split k s =
            let a : x * D ≡ x * (z * N + k) = ap (λ (w : ℕ). x * w) s in
            let b : y * N' ≡ z * x * N' = ap (λ (w : ℕ). w * N') f in
            let c : z * x * N ≡ z * x * N' = ap (λ (w : ℕ). z * x * w) e in
            omega arith

-- ---- the two sums as differences
pub sin_is : (g v : ℕ) → g ≤ v → ((sin_sum g v).plus ≡ g * num (g * g) (v * v) 12 2 + (sin_sum g v).minus) × (v * den (v * v) 12 2 ≡ (sin_sum g v).over)
unfolding sin_sum
sin_is g v h = (
  terms_are g v 12 1 (mul-le-mul h h) ∙ ap (λ (z : ℕ). z * num (g * g) (v * v) 12 2 + terms g v false 12 1) (power g),
  ap (λ (z : ℕ). v * z) (den_is v 12 1) ∙ sym (mul_assoc v (v ^ 24) (rising 1 24)) ∙ ap (λ (z : ℕ). z * rising 1 24) (sym (pow-succ' v 24)) ∙ ap (λ (z : ℕ). v ^ 25 * z) fact,
)
  where
    power : (a : ℕ) → a ^ 1 ≡ a
    power a = pow-succ' a 0 ∙ ap (λ (z : ℕ). a * z) (none a) ∙ mul-one a
      where
        none : (a : ℕ) → a ^ 0 ≡ 1
        none a = simp unary_clauses

    fact : rising 1 24 ≡ rising 0 25
    fact = unfold rising in refl

pub cos_is : (g v : ℕ) → g ≤ v → ((cos_sum g v).plus ≡ num (g * g) (v * v) 12 1 + (cos_sum g v).minus) × (den (v * v) 12 1 ≡ (cos_sum g v).over)
unfolding cos_sum
cos_is g v h = (terms_are g v 12 0 (mul-le-mul h h) ∙ ap (λ (z : ℕ). z + terms g v false 12 0) (power g (num (g * g) (v * v) 12 1)), den_is v 12 0)
  where
    power : (a b : ℕ) → a ^ 0 * b ≡ b
    power a b = simp unary_clauses (omega arith)
