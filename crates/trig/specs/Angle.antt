-- The sine and the cosine of document 01: x = k * Pi / 2 + r for the whole number k nearest to x over half of Pi, and S
-- or C of r, placed by k modulo 4.
-- Over any fraction x = a / d, or -a / d: no floats but in the last two definitions. Definitions only.
use Rattle.std.specs.Prelude.{ℕ, zero, suc, ◌+◌, ◌-◌, ◌*◌, ◌/◌, ◌%◌, ◌^◌, Bool, true, false, cond, not, nat_lt, Float}
use Rattle.std.specs.Float.{nan, inf, fin}
use Rattle.std.specs.Float.Ieee.{up, down}
use Rattle.trig.specs.Fraction.{Frac, negated, nothing}
use Rattle.trig.specs.Taylor.{sin_sum, cos_sum}

-- Pi is pi_num / pi_den
unfoldable pub pi_num : ℕ
pi_num = 31415926535897932384626433832795028841971

unfoldable pub pi_den : ℕ
pi_den = 10 ^ 40

-- the size of k: (a / d) / (Pi / 2) and a half, cut. So a half goes away from zero
unfoldable pub nearest_k : ℕ → ℕ → ℕ
nearest_k a d = (4 * a * pi_den + pi_num * d) / (2 * pi_num * d)

-- a / d is less than k * Pi / 2
abbrev pub under : ℕ → ℕ → ℕ → Bool
under a d k = nat_lt (2 * a * pi_den) (k * pi_num * d)

-- |a / d - k * Pi / 2|, times 2 * d * pi_den, where `under` is true, and where it is false
abbrev pub gap : Bool → ℕ → ℕ → ℕ → ℕ
gap true a d k = k * pi_num * d - 2 * a * pi_den
gap false a d k = 2 * a * pi_den - k * pi_num * d

-- a number that leaves the same rest modulo 4 as k, or as -k where s is true
abbrev pub quarter : Bool → ℕ → ℕ
quarter true k = 4 - k % 4
quarter false k = k

-- r = x - k * Pi / 2 is below zero, for x = a / d from `under`; for x = -a / d all signs change
abbrev pub rest_below : Bool → Bool → Bool
rest_below true b = not b
rest_below false b = b

-- sin (k * Pi / 2 + r) for k modulo 4, from the sums s and c at |r|; b is true where r is below zero
abbrev pub place : ℕ → Bool → Frac → Frac → Frac
place zero b s c = cond b (negated s) s
place (suc zero) b s c = c
place (suc (suc zero)) b s c = cond b s (negated s)
place (suc (suc (suc k))) b s c = negated c

-- sin (x + j * Pi / 2), for x = a / d, or -a / d where s is true
unfoldable pub wave : Bool → ℕ → ℕ → ℕ → Frac
unfolding sin_sum cos_sum
wave s j a d =
    let k = nearest_k a d in
    let b = under a d k in
    place ((quarter s k + j) % 4) (rest_below s b) (sin_sum (gap b a d k) (2 * d * pi_den)) (cos_sum (gap b a d k) (2 * d * pi_den))

-- sin x and cos x = sin (x + Pi / 2) of a float
abbrev pub sine : Float → Frac
sine nan = nothing
sine (inf s) = nothing
sine (fin s m e) = wave s 0 (m * up e) (down e)

abbrev pub cosine : Float → Frac
cosine nan = nothing
cosine (inf s) = nothing
cosine (fin s m e) = wave s 1 (m * up e) (down e)
