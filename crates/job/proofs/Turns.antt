-- The whole turns in a wind: the two divisions of the code are the one of the definition, and no larger number of turns
-- fits.
use Rattle.std.proofs.Common.{◌≡◌, ℕ, ◌+◌, ◌*◌, ◌/◌, ◌^◌, ◌<◌, ◌≤◌, min, Bool, true, false, ◌&&◌, ◌||◌, T, eqb, ltb, ◌⊎◌, ℤ, pos, sym, refl, ◌∙◌, subst, inl, inr, div-lt_iff_lt-mul, le-div_iff_mul-le, div-mul-le_self, arith, ltb-true, lt-ltb, eqb-true}
use native.Mathlib.Nat.{div-div-eq-div-mul}
use mathlib.Core.Bool.{false≢true}
use lib.Ieee.{Float, nan, inf, fin, up, down, lt, le, eq, of_bits, to_unsigned}
use lib.Ieee.Fits.{down_pos}
use Rattle.float.specs.Helpers.{size_of}
use Rattle.chain.specs.Check.{within}
use Rattle.job.specs.Cable.{Turned, turns_of, most_wound}

-- ---- a float of at most n * 2 ^ k
either : (a b : ℕ) (s x y : Bool) → ltb a b ≡ x → eqb a b ≡ y → (x || (y && s)) ≡ true → a ≤ b
either a b s true y p q h = let l = ltb-true a b p in omega (arith, l)
either a b s false true p q h = let l = eqb-true a b q in omega (arith, l)
either a b s false false p q h = absurd (false≢true h)

pub at_most : (n k m : ℕ) (e : ℤ) → le (fin false m e) (fin false n (pos k)) ≡ true → m * up e ≤ n * 2 ^ k * down e
unfolding le lt eq
at_most n k m e h = let l = either (m * up e * 1) (n * 2 ^ k * down e) _ (ltb (m * up e * 1) (n * 2 ^ k * down e)) (eqb (m * up e * 1) (n * 2 ^ k * down e)) refl refl h in omega (arith, l)

pub no_nan : (x : Float) → le nan x ≡ false
unfolding le lt eq
no_nan x = refl

pub no_inf : (n k : ℕ) → le (inf false) (fin false n (pos k)) ≡ false
unfolding le lt eq
no_inf n k = refl

-- ---- a wind of at most 72,000 degrees
wound : most_wound ≡ fin false 1125 (pos 6)
wound = unfold of_bits in refl

wound_most : (m : ℕ) (e : ℤ) → le (fin false m e) most_wound ≡ true → m * up e ≤ 72000 * down e
wound_most m e h = at_most 1125 6 m e (rw wound at h)

low : (u d : ℕ) → 0 < d → ltb 0 (1 * 1 * d + u * 1) ≡ true
low u d h = lt-ltb 0 (1 * 1 * d + u * 1) (omega (arith, h))

high : (u d : ℕ) → 0 < d → u ≤ 72000 * d → ltb (u * 1) (1 * 18446744073709551616 * d) ≡ true
high u d p q = lt-ltb (u * 1) (1 * 18446744073709551616 * d) (omega (arith, p, q))

-- what `truncating_f64_to_u64` asks
pub in_range : (a : Float) → within a most_wound ≡ true → T (lt (fin true 1 (pos 0)) (size_of a)) × T (lt (size_of a) (fin false 1 (pos 64)))
unfolding within size_of
in_range nan h = absurd (false≢true (sym (no_nan most_wound) ∙ h))
in_range (inf s) h = absurd (false≢true (sym (no_inf 1125 6) ∙ rw wound at h))
in_range (fin s m e) h =
    let l = wound_most m e h in
    unfold lt in (subst T (sym (low (m * up e) (down e) (down_pos e))) tt, subst T (sym (high (m * up e) (down e) (down_pos e) l)) tt)

few : (u d : ℕ) → 0 < d → u ≤ 72000 * d → u / d < 72001
few u d p q = (div-lt_iff_lt-mul p).1 (omega (arith, p, q))

by_parts : (u d : ℕ) → 0 < d → u ≤ 72000 * d → min (u / d) 18446744073709551615 / 360 ≡ u / (d * 360)
by_parts u d p q =
    let f = few u d p q in
    let e : min (u / d) 18446744073709551615 ≡ u / d = omega (arith, f) in
    rw e (div-div-eq-div-mul u d 360)

pub turns_counted : (a : Float) → within a most_wound ≡ true → to_unsigned 64 (size_of a) / 360 ≡ turns_of a
unfolding within size_of turns_of to_unsigned
turns_counted nan h = absurd (false≢true (sym (no_nan most_wound) ∙ h))
turns_counted (inf s) h = absurd (false≢true (sym (no_inf 1125 6) ∙ rw wound at h))
turns_counted (fin s m e) h = by_parts (m * up e) (down e) (down_pos e) (wound_most m e h)

-- ---- the largest number of turns
-- for each number of turns: it fits exactly if it is at most `turns_of`
pub turned_of : (a : Float) → turns_of a ≡ 0 ⊎ Turned (turns_of a) a
unfolding turns_of Turned
turned_of nan = inl refl
turned_of (inf s) = inl refl
turned_of (fin s m e) = inr (fits_in (m * up e) (down e))
  where
    shape : (n d : ℕ) → n * 360 * d ≡ n * (d * 360)
    shape n d = omega arith

    fits_in : (u d : ℕ) → u / (d * 360) * 360 * d ≤ u
    fits_in u d = rw (shape (u / (d * 360)) d) (div-mul-le_self u (d * 360))

pub turned_most : (n : ℕ) (a : Float) → Turned n a → n ≤ turns_of a
unfolding turns_of Turned
turned_most n nan h = absurd h
turned_most n (inf s) h = absurd h
turned_most n (fin s m e) h = most (m * up e) (down e) (down_pos e) h
  where
    shape : (d : ℕ) → n * 360 * d ≡ n * (d * 360)
    shape d = omega arith

    most : (u d : ℕ) → 0 < d → n * 360 * d ≤ u → n ≤ u / (d * 360)
    most u d p q = (le-div_iff_mul-le {k = d * 360} {x = n} {y = u} (omega (arith, p))).1 (rw (shape d) at q)
