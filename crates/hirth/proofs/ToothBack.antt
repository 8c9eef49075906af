-- The turn by a tooth is the turn by the negated angle with its sine negated, a zero staying +0.0, in every bit and for every
-- float (`tooth_back`). So `inverse`'s own step for the position, which turns a table forth from the turn by which forward moves
-- it, turns it by its tooth (`position_forth`). And no turn has a -0.0 (`tooth_sign`).
use Rattle.std.proofs.Common.{◌≡◌, ℕ, Bool, true, false, cond, not, T, eqb, ℤ, sym, refl, ap, ◌∙◌}
use lib.Ieee.{Float, nan, inf, fin, binary64, add, sub, mul, neg, le, lt, eq, of_bits, to_unsigned, fits}
use lib.Ieee.Fits.{mul-fits, neg-fits, cond-fits}
use Rattle.float.specs.Helpers.{nought, size_of}
use Rattle.float.proofs.Commute.{add_commutes, mul_commutes, mul_neg}
use Rattle.float.proofs.Order.{neg_neg}
use Rattle.float.proofs.Sizes.{size_neg}
use Rattle.trig.specs.Degrees.{plain}
use Rattle.trig.proofs.DegreeZeros.{plain_back, plain_sign, nought_sign, one_sign}
use Rattle.trig.proofs.WaveSteps.{lt_pos, lt_neg, swap}
use Rattle.trig.proofs.DegreeBack.{neg_false}
use Rattle.geometry.specs.declared.Turn.{Turn}
use Rattle.geometry.specs.declared.Vec3.{Vec3}
use Rattle.geometry.specs.Turn.{turned_back}
use Rattle.chain.specs.declared.Carrier.{Carrier}
use Rattle.chain.specs.declared.Carrier.TheVariants.{Table, Head}
use Rattle.chain.specs.declared.Prepared.{Prepared}
use Rattle.chain.specs.Check.{within}
use Rattle.chain.specs.Forward.{of_second, swing_from, forth_from, position}
use Rattle.chain.proofs.TablesForth.{second_from}
use Rattle.inverse.specs.declared.Angles.{Angles}
use Rattle.inverse.specs.Inverse.{joints_from}
use Rattle.hirth.specs.Snapping.{two}
use Rattle.hirth.specs.Turning.{unscaled, quartered, part_turn, half_turns, toward, still, most_halves, halves, tooth_turn}
use Rattle.hirth.specs.Profile.{tooth_swing, tooth_turns}

-- ---- the angle negated
doubled_back : (a : Float) → mul binary64 (neg a) two ≡ neg (mul binary64 a two)
doubled_back a = mul_commutes binary64 (neg a) two ∙ mul_neg two a ∙ ap neg (mul_commutes binary64 two a)

halves_back : (a : Float) → halves (neg a) ≡ halves a
unfolding halves
halves_back a = ap (to_unsigned 64) (ap size_of (doubled_back a) ∙ size_neg (mul binary64 a two))

within_back : (a : Float) → within (mul binary64 (neg a) two) most_halves ≡ within (mul binary64 a two) most_halves
unfolding within
within_back a = ap (λ (x : Float). le x most_halves) (ap size_of (doubled_back a) ∙ size_neg (mul binary64 a two))

-- ---- sine and cosine are doubles
unscaled_fits : (t : ℕ) → T (fits binary64 (unscaled t))
unfolding unscaled
unscaled_fits t = mul-fits binary64 _ _

quartered_fits : (q : ℕ) (s c : Float) → T (fits binary64 s) → T (fits binary64 c) → T (fits binary64 (quartered q s c))
unfolding quartered
quartered_fits q s c f g =
    cond-fits binary64 (eqb q 0) _ _ f (cond-fits binary64 (eqb q 1) _ _ g (cond-fits binary64 (eqb q 2) _ _ (neg-fits binary64 s f) (neg-fits binary64 c g)))

pub sine_fits : (h : ℕ) → T (fits binary64 (half_turns h).sine)
unfolding half_turns part_turn
sine_fits h = quartered_fits _ _ _ (unscaled_fits _) (unscaled_fits _)

pub cosine_fits : (h : ℕ) → T (fits binary64 (half_turns h).cosine)
unfolding half_turns part_turn
cosine_fits h = quartered_fits _ _ _ (unscaled_fits _) (unscaled_fits _)

minus_plain : (s : Float) → sub binary64 nought s ≡ plain (neg s)
unfolding sub
minus_plain s = add_commutes binary64 nought (neg s)

abbrev backward : Turn → Turn
backward t = record { sine = sub binary64 nought t.sine; cosine = t.cosine }

still_back : backward still ≡ still
unfolding sub add neg of_bits
still_back = refl

neg_true : (m : ℕ) (e : ℤ) → neg (fin true m e) ≡ fin false m e
unfolding neg
neg_true m e = refl

-- ---- the turn toward and the turn back
toward_back : (t : Turn) → T (fits binary64 t.sine) → backward (toward t true) ≡ toward t false
unfolding toward
toward_back t f =
    let e : sub binary64 nought (plain (neg t.sine)) ≡ plain t.sine = minus_plain (plain (neg t.sine)) ∙ plain_back (neg t.sine) (neg-fits binary64 t.sine f) ∙ ap plain (neg_neg t.sine) in
    ap (λ (y : Float). record { sine = y; cosine = plain t.cosine }) e

back_toward : (t : Turn) → T (fits binary64 t.sine) → backward (toward t false) ≡ toward t true
unfolding toward
back_toward t f = ap (λ (y : Float). record { sine = y; cosine = plain t.cosine }) (minus_plain (plain t.sine) ∙ plain_back t.sine f)

toward_signs : (s : Bool) (m : ℕ) (e : ℤ) (t : Turn) → T (fits binary64 t.sine) → eq (fin s m e) nought ≡ false → backward (toward t (lt (neg (fin s m e)) nought)) ≡ toward t (lt (fin s m e) nought)
toward_signs true m e t f z =
    let u : lt (neg (fin true m e)) nought ≡ false = ap (λ (x : Float). lt x nought) (neg_true m e) ∙ lt_pos m e in
    let v : lt (fin true m e) nought ≡ true = lt_neg m e z in
    rw (u, v) (back_toward t f)
toward_signs false m e t f z =
    let w : eq (fin true m e) nought ≡ false = ap (λ (x : Float). eq x nought) (sym (neg_false m e)) ∙ swap false m e ∙ z in
    let u : lt (neg (fin false m e)) nought ≡ true = ap (λ (x : Float). lt x nought) (neg_false m e) ∙ lt_neg m e w in
    let v : lt (fin false m e) nought ≡ false = lt_pos m e in
    rw (u, v) (toward_back t f)

finite_back : (s : Bool) (m : ℕ) (e : ℤ) → backward (tooth_turn (neg (fin s m e))) ≡ tooth_turn (fin s m e)
unfolding tooth_turn
finite_back s m e =
    rw (swap s m e, within_back (fin s m e), halves_back (fin s m e)) (go (eq (fin s m e) nought) (within (mul binary64 (fin s m e) two) most_halves) refl)
  where
    go : (z w : Bool) → eq (fin s m e) nought ≡ z
        → backward (cond z still (cond (not w) still (toward (half_turns (halves (fin s m e))) (lt (neg (fin s m e)) nought))))
        ≡ cond z still (cond (not w) still (toward (half_turns (halves (fin s m e))) (lt (fin s m e) nought)))
    go true w p = still_back
    go false false p = still_back
    go false true p = toward_signs s m e (half_turns (halves (fin s m e))) (sine_fits (halves (fin s m e))) p

nan_still : tooth_turn nan ≡ still
unfolding tooth_turn within mul eq lt le size_of of_bits
nan_still = refl

inf_still : (s : Bool) → tooth_turn (inf s) ≡ still
unfolding tooth_turn within mul eq lt le size_of of_bits
inf_still true = refl
inf_still false = refl

at : (a : Float) → backward (tooth_turn (neg a)) ≡ tooth_turn a
at nan = unfold neg in rw nan_still still_back
at (inf s) = unfold neg in rw (inf_still (not s), inf_still s) still_back
at (fin s m e) = finite_back s m e

-- of every float, on a tooth or not
pub tooth_back : (a : Float) → turned_back (tooth_turn (neg a)) ≡ tooth_turn a
unfolding turned_back
tooth_back a = at a

-- ---- so the position is worked out with every table turned forth by its tooth
abbrev pub tooth_forth : Carrier → Float → Turn
tooth_forth Table angle = tooth_turn angle
tooth_forth Head angle = still

swing_forth : (m : Carrier) (a : Float) → swing_from m (tooth_swing m a) ≡ tooth_forth m a
swing_forth Table a = tooth_back a
swing_forth Head a = refl

pub position_forth : (p : Prepared) (angles : Angles) (tip tip0 : Vec3)
    → (joints_from p (tooth_turns p angles) angles tip tip0).xyz ≡ position p (record { first = tooth_forth p.first.carrier angles.a0; second = of_second p.second still (λ s. tooth_forth s.carrier angles.a1) }) tip tip0
unfolding joints_from forth_from tooth_turns
position_forth p angles tip tip0 =
    rw (swing_forth p.first.carrier angles.a0, second_from p.second (λ c. tooth_swing c angles.a1) (λ c. tooth_forth c angles.a1) swing_from (λ c. swing_forth c angles.a1))

-- ---- never -0.0
toward_sign : (t : Turn) (b : Bool) → T (fits binary64 t.sine) → T (fits binary64 t.cosine) → ((toward t b).sine ≡ neg nought → ⊥) × ((toward t b).cosine ≡ neg nought → ⊥)
unfolding toward
toward_sign t true f g = (plain_sign (neg t.sine) (neg-fits binary64 t.sine f), plain_sign t.cosine g)
toward_sign t false f g = (plain_sign t.sine f, plain_sign t.cosine g)

pub tooth_sign : (a : Float) → ((tooth_turn a).sine ≡ neg nought → ⊥) × ((tooth_turn a).cosine ≡ neg nought → ⊥)
unfolding tooth_turn
tooth_sign a = go (eq a nought) (within (mul binary64 a two) most_halves)
  where
    Signed : Turn → Type 0
    Signed t = (t.sine ≡ neg nought → ⊥) × (t.cosine ≡ neg nought → ⊥)

    go : (z w : Bool) → Signed (cond z still (cond (not w) still (toward (half_turns (halves a)) (lt a nought))))
    go true w = (nought_sign, one_sign)
    go false false = (nought_sign, one_sign)
    go false true = toward_sign (half_turns (halves a)) (lt a nought) (sine_fits (halves a)) (cosine_fits (halves a))
