-- The sine and the cosine of degrees are finite, doubles, and at most 1 + 2 ^ -50 in size, for every float x, a double
-- or not (`pair_tidy`): for laws that lean on no more than a turn. Assumes nothing.
use Rattle.std.proofs.Common.{◌≡◌, ℕ, zero, suc, ◌+◌, ◌*◌, ◌%◌, ◌^◌, ◌<◌, ◌≤◌, Bool, true, false, cond, T, ltb, ℤ, pos, sym, refl, ap, subst, true≢false, le_of_lt, mul-le-mul_right, mul-le-mul, mul-lt-mul_of_pos_right, mul-pos, le_of_mul-le-mul_right, arith, lit<, lit≤}
use lib.Ieee.{Float, nan, inf, fin, binary64, up, down, neg, mul, of_int, of_bits, le, lt, eq, fits}
use lib.Ieee.Fits.{down_pos, neg-fits, cond-fits, add-fits}
use lib.Ieee.Bits.{of_bits-fits}
use lib.Ieee.Scale.{finite}
use Rattle.std.specs.Prelude.{None, Option, Some}
use Rattle.float.specs.Units.{U, Is}
use Rattle.float.specs.Helpers.{to_radians}
use Rattle.float.proofs.Units.{is_finite}
use Rattle.float.proofs.Rounding.{Within, W, U-is, U_pos, round_rounded}
use Rattle.trig.specs.declared.Pair.{Pair}
use Rattle.trig.specs.Kernel.{plus_zero, one, sine_kernel, cosine_kernel}
use Rattle.trig.specs.Waves.{placed, Sized}
use Rattle.trig.specs.Degrees.{plain, turnable}
use Rattle.trig.specs.DegreeSteps.{quarter_turns, quarter_turn, in_units, forty_five, radians_of, beside, degree_k, degree_below, degree_rest, degree_float, sine_degrees, cosine_degrees, degree_pair}
use Rattle.trig.proofs.Choices.{chosen}
use Rattle.trig.proofs.HornerForm.{num, den, num_le, den_pos}
use Rattle.trig.proofs.KernelError.{sin_near, cos_near}
use Rattle.trig.proofs.WaveError.{sized_of, one_sized}
use Rattle.trig.proofs.WaveSteps.{lt_pos, lt_neg}
use Rattle.trig.proofs.DegreeError.{C, product, t_most}
use Rattle.trig.proofs.DegreeFloats.{Y, Y-is, units_is, lt_cross, forty_five_is}
use Rattle.trig.proofs.DegreeZeros.{degree_fits, plain_sized, plain_finite, nought_sized}

-- finite, and at most 1 + 2 ^ -50 in size
abbrev pub Tidy : Float → Type 0
Tidy y = (finite y ≡ true) × Sized y

finite_is : (y : Float) → T (finite y) → finite y ≡ true
finite_is nan h = absurd h
finite_is (inf s) h = absurd h
finite_is (fin s m e) h = refl

-- ---- of every r from 0 to 0.79
module _ (r : Float) (rv : ℕ) (i : Is r false rv) (s : 100 * rv ≤ 79 * U) where
  pub exact : Within rv (rv * U) U (24 * W)
  exact = go rv U W
    where
      go : (v u w : ℕ) → Within v (v * u) u (24 * w)
      go v u w = (omega arith, omega arith)

  least : rv ≤ U
  least = go rv U s
    where
      go : (v u : ℕ) → 100 * v ≤ 79 * u → v ≤ u
      go v u h = omega arith

  sine_kernel_tidy : Tidy (sine_kernel r)
  sine_kernel_tidy =
      let n = sin_near r rv rv U U_pos s i exact in (
        finite_is (sine_kernel r) (is_finite (sine_kernel r) false n.v n.is),
        sized_of (sine_kernel r) (rv * num (rv * rv) (U * U) 12 2) (U * den (U * U) 12 2) (mul-pos U_pos (den_pos (U * U) 12 2 (mul-pos U_pos U_pos) (lit≤ tt))) (mul-le-mul least (num_le (rv * rv) (U * U) 12 2)) n,
      )

  cosine_kernel_tidy : Tidy (cosine_kernel r)
  cosine_kernel_tidy =
      let n = cos_near r rv rv U U_pos s i exact in (
        finite_is (cosine_kernel r) (is_finite (cosine_kernel r) false n.v n.is),
        sized_of (cosine_kernel r) (num (rv * rv) (U * U) 12 1) (den (U * U) 12 1) (den_pos (U * U) 12 1 (mul-pos U_pos U_pos) (lit≤ tt)) (num_le (rv * rv) (U * U) 12 1) n,
      )

tidy_neg : (y : Float) → Tidy y → Tidy (neg y)
unfolding neg
tidy_neg nan h = h
tidy_neg (inf s) h = h
tidy_neg (fin true m e) h = h
tidy_neg (fin false m e) h = h

placed_tidy : (q : ℕ) (b : Bool) (s c : Float) → Tidy s → Tidy c → Tidy (placed q b s c)
placed_tidy zero true s c S C = tidy_neg s S
placed_tidy zero false s c S C = S
placed_tidy (suc zero) b s c S C = C
placed_tidy (suc (suc zero)) true s c S C = S
placed_tidy (suc (suc zero)) false s c S C = tidy_neg s S
placed_tidy (suc (suc (suc q))) b s c S C = tidy_neg c C

-- ---- the rest, in radians
abbrev pub Narrow : Float → Type 0
Narrow r = (v : ℕ) × Is r false v × (100 * v ≤ 79 * U)

-- F * 2 ^ -58 is the factor
product_fits : (a d u w F H T : ℕ) → u ≡ T * w → 0 < d * u → 0 < H → 45 * F < H → a ≤ 45 * d → a * (F * 1) * u < T * w * (d * H)
product_fits a d u w F H T e o P f h = go (mul-le-mul_right (F * u) h) (mul-lt-mul_of_pos_right f o) (ap (λ (z : ℕ). z * (d * H)) e)
  where
    go : a * (F * u) ≤ 45 * d * (F * u) → 45 * F * (d * u) < H * (d * u) → u * (d * H) ≡ T * w * (d * H) → a * (F * 1) * u < T * w * (d * H)
    go x y z = omega arith

product_most : (a d v u w F H T : ℕ) → u ≡ T * w → 8000 ≤ T → 45000 * F ≤ 786 * H → a ≤ 45 * d → v * (d * H) ≤ a * (F * 1) * u + 8 * w * (d * H) → 100 * v * (d * H) ≤ 79 * u * (d * H)
product_most a d v u w F H T e t f h n = go (mul-le-mul_right (F * u) h) (mul-le-mul_right (d * u) f) (mul-le-mul_right (w * (d * H)) t) (ap (λ (z : ℕ). z * (d * H)) e)
  where
    go : a * (F * u) ≤ 45 * d * (F * u) → 45000 * F * (d * u) ≤ 786 * H * (d * u) → 8000 * (w * (d * H)) ≤ T * (w * (d * H)) → u * (d * H) ≡ T * w * (d * H) → 100 * v * (d * H) ≤ 79 * u * (d * H)
    go x y z q = omega arith

small_narrow : (m : ℕ) (e : ℤ) → m * up e < 45 * down e → Narrow (to_radians (fin false m e))
unfolding to_radians mul of_bits
small_narrow m e h =
    let r = round_rounded false (m * up e * (5030569068109113 * 1)) (down e * 2 ^ 58) 3 (mul-pos (down_pos e) (lit< tt)) (lit≤ tt) (product_fits (m * up e) (down e) U W 5030569068109113 (2 ^ 58) (2 ^ 57) U-is (mul-pos (down_pos e) U_pos) (lit< tt) (lit< tt) (le_of_lt h)) in
    (r.v, r.is, le_of_mul-le-mul_right {k = down e * 2 ^ 58} (product_most (m * up e) (down e) r.v U W 5030569068109113 (2 ^ 58) (2 ^ 57) U-is (lit≤ tt) (lit≤ tt) (le_of_lt h) r.near.0) (mul-pos (down_pos e) (lit< tt)))

factor_tight : 45000 * C ≤ 786 * U
unfolding C U
factor_tight = lit≤ tt

beside_half : (x : ℕ) (b : Bool) → beside b x (quarter_turns x * quarter_turn) ≤ 6333186975989760
unfolding quarter_turns
beside_half x true = omega arith
beside_half x false = omega arith

-- r up to 45 degrees in units of 2 ^ -47
large_narrow : (r : ℕ) → r ≤ 6333186975989760 → Narrow (radians_of r)
unfolding radians_of
large_narrow r h =
    let p = product t (r * Y) r (2 ^ 47) (lit< tt) (units_is r (few r h)) (value r U Y Y-is) (some r h) in
    (p.v, p.is, le_of_mul-le-mul_right {k = U} (most (r * Y) p.v U W C (2 ^ 57) U-is (lit≤ tt) (t_most t (r * Y) r (2 ^ 47) (lit< tt) (units_is r (few r h)) (value r U Y Y-is) (some r h)) factor_tight p.near.0) U_pos)
  where
    t : Float
    t = mul binary64 (of_int binary64 (pos r)) (of_bits binary64 0x3d00_0000_0000_0000)

    few : (r : ℕ) → r ≤ 6333186975989760 → r < 2 ^ 53
    few r h = omega arith

    some : (r : ℕ) → r ≤ 6333186975989760 → r ≤ 45 * 2 ^ 47
    some r h = omega arith

    value : (r u y : ℕ) → u ≡ 2 ^ 47 * y → r * y * 2 ^ 47 ≡ r * u
    value r u y e = go (ap (λ (z : ℕ). r * z) e)
      where
        go : r * u ≡ r * (2 ^ 47 * y) → r * y * 2 ^ 47 ≡ r * u
        go x = omega arith

    most : (tv v u w c T : ℕ) → u ≡ T * w → 8000 ≤ T → tv ≤ 45 * u → 45000 * c ≤ 786 * u → v * u ≤ tv * c + 8 * w * u → 100 * v * u ≤ 79 * u * u
    most tv v u w c T e t a b n = go (mul-le-mul_right c a) (mul-le-mul_right u b) (mul-le-mul_right (w * u) t) (ap (λ (z : ℕ). z * u) e)
      where
        go : tv * c ≤ 45 * u * c → 45000 * c * u ≤ 786 * u * u → 8000 * (w * u) ≤ T * (w * u) → u * u ≡ T * w * u → 100 * v * u ≤ 79 * u * u
        go x y z q = omega arith

-- ---- above zero, whatever the float
pub rest_narrow : (m : ℕ) (e : ℤ) → Narrow (degree_rest (fin false m e))
unfolding degree_rest
rest_narrow m e =
    chosen Narrow (lt (fin false m e) forty_five) _ _ (λ h. small_narrow m e (lt_cross m e (subst (λ (z : Float). lt (fin false m e) z ≡ true) forty_five_is h)))
    (λ h. large_narrow _ (beside_half (in_units (fin false m e)) (ltb (in_units (fin false m e)) (quarter_turns (in_units (fin false m e)) * quarter_turn))))

degree_tidy : (j m : ℕ) (e : ℤ) → Tidy (degree_float j (fin false m e))
unfolding degree_float
degree_tidy j m e =
    let r = rest_narrow m e in
    placed_tidy ((degree_k (fin false m e) + j) % 4) (degree_below (fin false m e)) _ _ (sine_kernel_tidy (degree_rest (fin false m e)) r.0 r.1 r.2) (cosine_kernel_tidy (degree_rest (fin false m e)) r.0 r.1 r.2)

plain_tidy : (y : Float) → T (fits binary64 y) → Tidy y → Tidy (plain y)
plain_tidy y f h = (plain_finite y f h.0, plain_sized y f h.1)

signed_tidy : (j : ℕ) (x : Float) → turnable x ≡ true → eq x plus_zero ≡ false → Tidy (degree_float j (cond (lt x plus_zero) (neg x) x))
unfolding turnable neg
signed_tidy j nan h z = absurd (true≢false (sym (unfold le in h)))
signed_tidy j (inf true) h z = absurd (true≢false (sym (unfold le of_bits neg in h)))
signed_tidy j (inf false) h z = absurd (true≢false (sym (unfold le of_bits in h)))
signed_tidy j (fin true m e) h z = subst (λ (b : Bool). Tidy (degree_float j (cond b (fin false m e) (fin true m e)))) (sym (lt_neg m e z)) (degree_tidy j m e)
signed_tidy j (fin false m e) h z = subst (λ (b : Bool). Tidy (degree_float j (cond b (fin true m e) (fin false m e)))) (sym (lt_pos m e)) (degree_tidy j m e)

pub nought_tidy : Tidy plus_zero
nought_tidy = (unfold of_bits in refl, nought_sized)

pub one_tidy : Tidy one
one_tidy = (unfold of_bits in refl, one_sized)

module _ (x : Float) (h : turnable x ≡ true) where
  pub sine_tidy : Tidy (sine_degrees x)
  unfolding sine_degrees
  sine_tidy =
      chosen Tidy (eq x plus_zero) _ _ (λ z. nought_tidy)
      (λ z. plain_tidy _ (cond-fits binary64 (lt x plus_zero) _ _ (neg-fits binary64 _ (degree_fits 0 (neg x))) (degree_fits 0 x)) (go (lt x plus_zero) (signed_tidy 0 x h z)))
    where
      go : (b : Bool) → Tidy (degree_float 0 (cond b (neg x) x)) → Tidy (cond b (neg (degree_float 0 (neg x))) (degree_float 0 x))
      go true s = tidy_neg _ s
      go false s = s

  pub cosine_tidy : Tidy (cosine_degrees x)
  unfolding cosine_degrees
  cosine_tidy =
      chosen Tidy (eq x plus_zero) _ _ (λ z. one_tidy)
      (λ z. plain_tidy _ (cond-fits binary64 (lt x plus_zero) _ _ (degree_fits 1 (neg x)) (degree_fits 1 x)) (go (lt x plus_zero) (signed_tidy 1 x h z)))
    where
      go : (b : Bool) → Tidy (degree_float 1 (cond b (neg x) x)) → Tidy (cond b (degree_float 1 (neg x)) (degree_float 1 x))
      go true s = s
      go false s = s

  sine_double : T (fits binary64 (sine_degrees x))
  unfolding sine_degrees
  sine_double = cond-fits binary64 (eq x plus_zero) _ _ (of_bits-fits binary64 0) (add-fits binary64 _ plus_zero)

  cosine_double : T (fits binary64 (cosine_degrees x))
  unfolding cosine_degrees
  cosine_double = cond-fits binary64 (eq x plus_zero) _ _ (of_bits-fits binary64 0x3ff0_0000_0000_0000) (add-fits binary64 _ plus_zero)

abbrev pub TidyPair : Option Pair → Type 0
TidyPair (Some p) = (T (fits binary64 p.sine) × Tidy p.sine) × (T (fits binary64 p.cosine) × Tidy p.cosine)
TidyPair None = Unit {0}

pub pair_tidy : (x : Float) → TidyPair (degree_pair x)
unfolding degree_pair
pair_tidy x = chosen TidyPair (turnable x) _ _ (λ h. ((sine_double x h, sine_tidy x h), (cosine_double x h, cosine_tidy x h))) (λ h. tt)
