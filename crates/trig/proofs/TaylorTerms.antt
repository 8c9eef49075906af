-- The terms of specs/Taylor.antt are those of a calculus book: each is (u / v)ᵖ / p!, over the common denominator v ^ (p + 2 n) * (p + 2 n)!. Assumes nothing.
use Rattle.std.proofs.Common.{◌≡◌, ℕ, zero, suc, ◌+◌, ◌*◌, ◌^◌, sym, ap, ◌∙◌, mul_assoc, arith, pow-add}
use Rattle.trig.specs.Taylor.{rising, term}

-- (m + a)! / m! * (m + a + b)! / (m + a)! = (m + a + b)! / m!
pub rising_split : (m a b : ℕ) → rising m a * rising (m + a) b ≡ rising m (a + b)
unfolding rising
rising_split m zero b = ap (λ (k : ℕ). 1 * rising k b) (none m) ∙ once (rising m b) ∙ ap (rising m) (first b)
  where
    none : (m : ℕ) → m + 0 ≡ m
    none m = omega arith

    once : (x : ℕ) → 1 * x ≡ x
    once x = omega arith

    first : (b : ℕ) → b ≡ 0 + b
    first b = omega arith
rising_split m (suc a) b =
    ap (λ (k : ℕ). suc m * rising (suc m) a * rising k b) (shift m a)
    ∙ mul_assoc (suc m) (rising (suc m) a) (rising (suc m + a) b)
    ∙ ap (λ (k : ℕ). suc m * k) (rising_split (suc m) a b)
    ∙ ap (rising m) (more a b)
  where
    shift : (m a : ℕ) → m + suc a ≡ suc m + a
    shift m a = omega arith

    more : (a b : ℕ) → suc (a + b) ≡ suc a + b
    more a b = omega arith

-- term / (v ^ (p + 2 n) * (p + 2 n)!) = uᵖ / (vᵖ * p!)
pub term_value : (u v p n : ℕ) → term u v p n * (v ^ p * rising 0 p) ≡ u ^ p * (v ^ (p + 2 * n) * rising 0 (p + 2 * n))
unfolding term
term_value u v p n =
    regroup (u ^ p) (v ^ (2 * n)) (rising p (2 * n)) (v ^ p) (rising 0 p)
    ∙ ap (λ (k : ℕ). u ^ p * (k * (rising 0 p * rising p (2 * n)))) (sym (pow-add v p (2 * n)))
    ∙ ap (λ (k : ℕ). u ^ p * (v ^ (p + 2 * n) * (rising 0 p * rising k (2 * n)))) (first p)
    ∙ ap (λ (k : ℕ). u ^ p * (v ^ (p + 2 * n) * k)) (rising_split 0 p (2 * n))
  where
    regroup : (a b c d e : ℕ) → a * b * c * (d * e) ≡ a * (d * b * (e * c))
    regroup a b c d e = omega arith

    first : (p : ℕ) → p ≡ 0 + p
    first p = omega arith
