-- The Taylor sums of the sine and the cosine at a fraction u / v:
--     S(x) = x - x³/3! + x⁵/5! - .. + x²⁵/25!        C(x) = 1 - x²/2! + x⁴/4! - .. + x²⁴/24!
-- over the common denominators v²⁵ * 25! and v²⁴ * 24!. Definitions only. proofs/Examples.antt computes some.
use Rattle.std.specs.Prelude.{ℕ, zero, suc, ◌+◌, ◌*◌, ◌^◌, Bool, true, false}
use Rattle.trig.specs.Fraction.{Frac}

-- (m + 1) * .. * (m + n), which is (m + n)! / m!; `rising 0 n` is n!
unfoldable pub rising : ℕ → ℕ → ℕ
rising m zero = 1
rising m (suc n) = suc m * rising (suc m) n

-- (u / v)ᵖ / p!, times the denominator v ^ (p + 2 n) * (p + 2 n)!
unfoldable pub term : ℕ → ℕ → ℕ → ℕ → ℕ
unfolding rising
term u v p n = u ^ p * v ^ (2 * n) * rising p (2 * n)

-- Of the n + 1 terms with the powers p, p + 2, .. , p + 2 n and the signs +, -, +, ..: the sum of those with + (true),
-- and of those with - (false), each times the same denominator
unfoldable pub terms : ℕ → ℕ → Bool → ℕ → ℕ → ℕ
unfolding term
terms u v true zero p = term u v p zero
terms u v false zero p = 0
terms u v true (suc n) p = term u v p (suc n) + terms u v false n (2 + p)
terms u v false (suc n) p = terms u v true n (2 + p)

-- S(u / v)
unfoldable pub sin_sum : ℕ → ℕ → Frac
unfolding terms rising
sin_sum u v = record { plus = terms u v true 12 1; minus = terms u v false 12 1; over = v ^ 25 * rising 0 25 }

-- C(u / v)
unfoldable pub cos_sum : ℕ → ℕ → Frac
unfolding terms rising
cos_sum u v = record { plus = terms u v true 12 0; minus = terms u v false 12 0; over = v ^ 24 * rising 0 24 }
