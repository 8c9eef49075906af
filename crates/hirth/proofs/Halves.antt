-- What the program must not overflow: twice an angle of at most 45,000 degrees fits a word, and an entry of the table is
-- exact as a double.
use Rattle.std.proofs.Common.{◌≡◌, ℕ, zero, suc, ◌+◌, ◌*◌, ◌<◌, ◌≤◌, Bool, true, false, ◌&&◌, ◌||◌, T, eqb, ltb, leb, List, [], ◌∷◌, get_or, ℤ, pos, sym, refl, ◌∙◌, subst, arith, lit≤, leb→le, ltb-true, lt-ltb, eqb-true}
use lib.Ieee.Fits.{and_l, and_r}
use mathlib.Core.Bool.{false≢true}
use lib.Ieee.{Float, nan, inf, fin, up, down, lt, le, eq, of_bits}
use lib.Ieee.Fits.{down_pos}
use Rattle.float.specs.Helpers.{size_of}
use Rattle.chain.specs.Check.{within}
use Rattle.hirth.specs.Teeth.{teeth, tooth_at}
use Rattle.hirth.specs.Turning.{most_halves}

either : (a b : ℕ) (s x y : Bool) → ltb a b ≡ x → eqb a b ≡ y → (x || (y && s)) ≡ true → a ≤ b
either a b s true y p q h = let l = ltb-true a b p in omega (arith, l)
either a b s false true p q h = let l = eqb-true a b q in omega (arith, l)
either a b s false false p q h = absurd (false≢true h)

at_most : (m : ℕ) (e : ℤ) → le (fin false m e) most_halves ≡ true → m * up e ≤ 90000 * down e
unfolding le lt eq of_bits
at_most m e h = let l = either (m * up e * 1) (90000 * down e) _ (ltb (m * up e * 1) (90000 * down e)) (eqb (m * up e * 1) (90000 * down e)) refl refl h in omega (arith, l)

no_nan : le nan most_halves ≡ false
unfolding le lt eq
no_nan = refl

no_inf : le (inf false) most_halves ≡ false
unfolding le lt eq of_bits
no_inf = refl

low : (u d : ℕ) → 0 < d → ltb 0 (1 * 1 * d + u * 1) ≡ true
low u d h = lt-ltb 0 (1 * 1 * d + u * 1) (omega (arith, h))

high : (u d : ℕ) → 0 < d → u ≤ 90000 * d → ltb (u * 1) (1 * 18446744073709551616 * d) ≡ true
high u d p q = lt-ltb (u * 1) (1 * 18446744073709551616 * d) (omega (arith, p, q))

-- what `truncating_f64_to_u64` asks
pub in_range : (a : Float) → within a most_halves ≡ true → T (lt (fin true 1 (pos 0)) (size_of a)) × T (lt (size_of a) (fin false 1 (pos 64)))
unfolding within size_of
in_range nan h = absurd (false≢true (sym no_nan ∙ h))
in_range (inf s) h = absurd (false≢true (sym no_inf ∙ h))
in_range (fin s m e) h =
    let l = at_most m e h in
    unfold lt in (subst T (sym (low (m * up e) (down e) (down_pos e))) tt, subst T (sym (high (m * up e) (down e) (down_pos e) l)) tt)

-- ---- no entry of the table is above 2 ^ 53
abbrev under : List ℕ → Bool
under [] = true
under (t ∷ ts) = leb t 9007199254740992 && under ts

all_under : T (under teeth)
unfolding teeth
all_under = tt

at_index : (ts : List ℕ) → T (under ts) → (i : ℕ) → get_or ts i 0 ≤ 9007199254740992
at_index [] h i = lit≤ tt
at_index (t ∷ ts) h zero = leb→le t 9007199254740992 (and_l (leb t 9007199254740992) (under ts) h)
at_index (t ∷ ts) h (suc i) = at_index ts (and_r (leb t 9007199254740992) (under ts) h) i

pub tooth_most : (i : ℕ) → tooth_at i ≤ 9007199254740992
unfolding tooth_at
tooth_most i = at_index teeth all_under i
