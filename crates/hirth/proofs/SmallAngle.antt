-- An angle that passes the program's test is within the tolerance: with a cosine from 15/16 up it is at most 1.28 times
-- the sine, so at most 73.4 degrees times it, and the test asks that the sine's square is at most that of 1/74 of the
-- tolerance. What is between the two is more than what rounding takes.
use Rattle.std.proofs.Common.{◌≡◌, ℕ, ◌+◌, ◌-◌, ◌*◌, ◌^◌, ◌<◌, ◌≤◌, Bool, true, false, not, ◌&&◌, T, ◌⊎◌, pos, sym, refl, ap, ◌∙◌, subst, inl, inr, true≢false, le_trans, mul-le-mul_left, mul-le-mul_right, mul-le-mul, mul-pos, le_of_mul-le-mul_right, le_of_lt, lt_of_lt_of_le, pow_pos, arith, lit<, lit≤}
use mathlib.Core.Bool.{false≢true}
use lib.Ieee.{Float, nan, inf, fin, binary64, up, down, round, mul, div, of_bits, le, lt, eq, is_nan, fits}
use lib.Ieee.Bits.{of_bits-fits, is_true}
use lib.Ieee.Fits.{down_pos}
use lib.Ieee.Scale.{finite}
use Rattle.std.specs.Prelude.{Some}
use Rattle.float.specs.Units.{U, Is}
use Rattle.float.specs.Helpers.{nought, one, negative, size_of, clamp_unit, to_degrees}
use Rattle.float.proofs.Rounding.{W, U-is, U_pos, W-pos, Within, Rounded, mul_rounded}
use Rattle.float.proofs.Bounded.{clamp_fits, clamp_small}
use Rattle.float.proofs.UpTo.{UpTo, one_is, units_le, le_of_units}
use Rattle.float.proofs.Units.{le_or_lt, held, is_finite}
use Rattle.float.proofs.Sizes.{size_is}
use Rattle.float.proofs.Monotone.{le_same}
use Rattle.float.proofs.Order as order
use Rattle.trig.specs.Kernel.{plus_zero}
use Rattle.trig.specs.Reduction.{quarter_pi}
use Rattle.trig.specs.Angle.{pi_den, pi_num, gap}
use Rattle.trig.specs.Arctangent.{start_float, passes, grid_float, grid_angle, flat_float, ratio_float, right_float, upper_float, level_float, angle_float}
use Rattle.trig.proofs.Choices.{chosen, pick}
use Rattle.trig.proofs.Laws.{arctangent_is}
use Rattle.trig.proofs.HornerForm.{num, den, num_le, den_pos}
use Rattle.trig.proofs.NearestTurn.{pi_den_pos}
use Rattle.trig.proofs.GridAngle.{Tangent, val}
use Rattle.trig.proofs.Bisection.{grid_right}
use Rattle.trig.proofs.WaveSteps.{lt_neg}
use Rattle.trig.proofs.Cells.{Plain, lands_steps}
use Rattle.trig.proofs.TangentError.{Tight}
use Rattle.trig.proofs.Quadrants.{Aimed}
use Rattle.trig.proofs.CandidateCheck.{flat_passed}
use Rattle.trig.proofs.ArctangentLaws.{start_fits}
use Rattle.trig.proofs.DirectionLaws.{Up, up_is, val_of, up_above, Proper, Ratio, proper_le, ratio_below, ratio_one, aimed}
use Rattle.trig.proofs.AngleDegrees.{arctangent_double}
use Rattle.geometry.specs.declared.Vec3.{Vec3}
use Rattle.geometry.specs.Vector.{dot, cross, norm}
use Rattle.geometry.specs.Direction.{unit_direction}
use Rattle.geometry.specs.Slerp.{angle_between_deg}
use Rattle.float.proofs.Zeros.{nought_is}
use Rattle.root.specs.Root.{root}
use Rattle.root.proofs.RootSizes.{root_fits, root_square, units_rooted}
use Rattle.geometry.proofs.FitVectors.{dot_fits}
use Rattle.hirth.specs.Profile.{close}
use Rattle.hirth.specs.ProfileSteps.{nearly_one, least_degrees, most_degrees, square_degrees, surely_within}

-- ---- S(r) is at least 5/6 r for r up to 1
five_sixths : (g v : ℕ) → g ≤ v → 5 * den (v * v) 12 2 ≤ 6 * num (g * g) (v * v) 12 2
unfolding num den
five_sixths g v h = go (v * v) (g * g) (den (v * v) 11 4) (num (g * g) (v * v) 11 4) (mul-le-mul (mul-le-mul h h) (num_le (g * g) (v * v) 11 4))
  where
    go : (z y d n : ℕ) → y * n ≤ z * d → 5 * (2 * 3 * z * d) ≤ 6 * (2 * 3 * z * d - y * n)
    go z y d n l = omega arith

-- so the angle g / v of the tangent t is at most 6/5 t and a little more
angle_most : (t g v : ℕ) → 0 < v → g ≤ v → Tight t g v → 5 * (g * U) ≤ 6 * ((t + 848 * W) * v)
angle_most t g v P h z =
    le_of_mul-le-mul_right {k = den (v * v) 12 2}
    (last g (num (g * g) (v * v) 12 2) U (den (v * v) 12 2) ((t + 848 * W) * v)
    (le_of_mul-le-mul_right {k = den (v * v) 12 1} (first t g v W U (num (g * g) (v * v) 12 1) (den (v * v) 12 1) (num (g * g) (v * v) 12 2) (den (v * v) 12 2) z.down (mul-le-mul_left (t * (v * den (v * v) 12 2)) (num_le (g * g) (v * v) 12 1))) (den_pos (v * v) 12 1 (mul-pos P P) (lit≤ tt)))
    (mul-le-mul_left (g * U) (five_sixths g v h)))
    (den_pos (v * v) 12 2 (mul-pos P P) (lit≤ tt))
  where
    first : (t g v w u n d m f : ℕ) → g * m * u * d ≤ t * n * (v * f) + 848 * w * (v * f * d) → t * (v * f) * n ≤ t * (v * f) * d → g * m * u * d ≤ (t + 848 * w) * v * f * d
    first t g v w u n d m f a b = omega arith

    last : (g m u f e : ℕ) → g * m * u ≤ e * f → g * u * (5 * f) ≤ g * u * (6 * m) → 5 * (g * u) * f ≤ 6 * e * f
    last g m u f e a b = omega arith

-- the same of a float r, in units
radians_most : (t : ℕ) (r : Float) (v : ℕ) → Aimed t 0 false r → Is r false v → 5 * v ≤ 6 * (t + 848 * W)
radians_most t nan v z i = absurd i
radians_most t (inf s) v z i = absurd i
radians_most t (fin true m e) v z i = absurd z.plain
radians_most t (fin false m e) v z i =
    le_of_mul-le-mul_right {k = 2 * down e * pi_den}
    (go (m * up e) (down e) pi_den pi_num U W t v i.1 (angle_most t (gap false (m * up e) (down e) 0) (2 * down e * pi_den) over_pos z.low z.tight)) over_pos
  where
    over_pos : 0 < 2 * down e * pi_den
    over_pos = mul-pos (mul-pos (lit< tt) (down_pos e)) pi_den_pos

    whole : (a d p q : ℕ) → 2 * a * p - 0 * q * d ≡ 2 * a * p
    whole a d p q = omega arith

    sum : (a d p u w t v : ℕ) → a * u ≡ v * d → 5 * (2 * a * p * u) ≤ 6 * ((t + 848 * w) * (2 * d * p)) → 5 * v * (2 * d * p) ≤ 6 * (t + 848 * w) * (2 * d * p)
    sum a d p u w t v e h =
        let b : p * (a * u) ≡ p * (v * d) = ap (λ (z : ℕ). p * z) e in
        omega (arith, b, h)

    go : (a d p q u w t v : ℕ) → a * u ≡ v * d → 5 * ((2 * a * p - 0 * q * d) * u) ≤ 6 * ((t + 848 * w) * (2 * d * p)) → 5 * v * (2 * d * p) ≤ 6 * (t + 848 * w) * (2 * d * p)
    go a d p q u w t v e h = sum a d p u w t v e (subst (λ (z : ℕ). 5 * (z * u) ≤ 6 * ((t + 848 * w) * (2 * d * p))) (whole a d p q) h)

-- ---- the angle of a tangent from 0 to 1
flat_aimed : (t : Float) → Tangent t → Aimed (val t) 0 false (flat_float t)
unfolding flat_float
flat_aimed t g =
    chosen (Aimed (val t) 0 false) (lt plus_zero (start_float t)) _ _
    (λ p. chosen (Aimed (val t) 0 false) (le (start_float t) quarter_pi) _ _
    (λ q. chosen (Aimed (val t) 0 false) (passes t (start_float t)) _ _ (λ h. flat_passed t (start_float t) g (start_fits t) p q h) (λ h. coarse))
    (λ q. coarse))
    (λ p. coarse)
  where
    coarse : Aimed (val t) 0 false (grid_float (grid_angle t))
    coarse = let a = grid_right t g in aimed t 0 (grid_angle t) false (grid_float (grid_angle t)) g a (lands_steps (grid_angle t) a.small)

ratio_near : (a b : Float) → Proper a b → Ratio a b (ratio_float a b)
unfolding ratio_float
ratio_near a b p = chosen (Ratio a b) (le (div binary64 a b) one) _ _ (ratio_below a b p) (ratio_one a b p)

-- with a cosine from 15/16 up
tangent_most : (t y x : ℕ) → 15 * U ≤ 16 * x → Within t (y * U) x (16 * W) → 15 * t ≤ 16 * y + 240 * W
tangent_most t y x h w = le_of_mul-le-mul_right {k = U} (go (le_or_lt t (16 * W))) U_pos
  where
    near : (t y x u w : ℕ) → t ≤ 16 * w → 15 * t * u ≤ (16 * y + 240 * w) * u
    near t y x u w l = let a = mul-le-mul_right u l in omega (arith, a)

    far : (t y x u w : ℕ) → 16 * w < t → 15 * u ≤ 16 * x → t * x ≤ y * u + 16 * w * x → 15 * t * u ≤ (16 * y + 240 * w) * u
    far t y x u w l h k = apart (t - 16 * w) (split t (16 * w) l)
      where
        split : (t a : ℕ) → a < t → t ≡ t - a + a
        split t a l = omega arith

        apart : (d : ℕ) → t ≡ d + 16 * w → 15 * t * u ≤ (16 * y + 240 * w) * u
        apart d e =
            let a : d * (15 * u) ≤ d * (16 * x) = mul-le-mul_left d h in
            let b : t * x ≡ (d + 16 * w) * x = ap (λ (z : ℕ). z * x) e in
            let c : t * u ≡ (d + 16 * w) * u = ap (λ (z : ℕ). z * u) e in
            omega arith

    go : (t ≤ 16 * W) ⊎ (16 * W < t) → 15 * t * U ≤ (16 * y + 240 * W) * U
    go (inl l) = near t y x U W l
    go (inr l) = far t y x U W l h w.0

-- ---- in degrees
-- 2 ^ -44 in units
unfoldable Q : ℕ
Q = 2 ^ 1030

Q-is : U ≡ 2 ^ 44 * Q
unfolding U Q
Q-is = refl

abbrev per_radian : Float
per_radian = of_bits binary64 0x404c_a5dc_1a63_c1f8

per_radian_is : Is per_radian false (1007958012753983 * Q)
unfolding of_bits
per_radian_is = (refl, go U Q Q-is)
  where
    go : (u q : ℕ) → u ≡ 2 ^ 44 * q → 1007958012753983 * 1 * u ≡ 1007958012753983 * q * 2 ^ 44
    go u q e = omega arith

-- 1/16 in units
unfoldable Q16 : ℕ
Q16 = 2 ^ 1070

Q16-is : U ≡ 16 * Q16
unfolding U Q16
Q16-is = refl

nearly_is : Is nearly_one false (15 * Q16)
unfolding of_bits
nearly_is = (refl, go U Q16 Q16-is)
  where
    go : (u q : ℕ) → u ≡ 16 * q → 15 * 1 * u ≡ 15 * q * 2 ^ 4
    go u q e = omega arith

-- 2 ^ -10, 64 and 5476
least_is : Is least_degrees false (140737488355328 * W)
unfolding of_bits
least_is = (refl, go U W U-is)
  where
    go : (u w : ℕ) → u ≡ 2 ^ 57 * w → 1 * 1 * u ≡ 140737488355328 * w * 2 ^ 10
    go u w e = omega arith

most_is : Is most_degrees false (64 * U)
unfolding of_bits U
most_is = (refl, refl)

factor_is : Is square_degrees false (5476 * U)
unfolding of_bits U
factor_is = (refl, refl)

-- an angle of v units and a tolerance of T
module _ (r : Float) (v b T : ℕ) (i : Is r false v) (most : 75 * v ≤ 96 * b + 77760 * W) (low : b ≤ U) (wide : 147 * b ≤ 2 * T) (least : 140737488355328 * W ≤ T) where
  turned : Rounded (mul binary64 r per_radian) false (v * (1007958012753983 * Q)) U (1024 * W)
  turned = mul_rounded r per_radian false false v (1007958012753983 * Q) 10 (lit≤ tt) i per_radian_is (go v b U W Q U-is Q-is W-pos most low)
    where
      go : (v b u w q : ℕ) → u ≡ 2 ^ 57 * w → u ≡ 2 ^ 44 * q → 0 < w → 75 * v ≤ 96 * b + 77760 * w → b ≤ u → v * (1007958012753983 * q) < 2 ^ 64 * w * u
      go v b u w q e f p h l =
          let a : v ≤ 2 * u = omega (arith, e, p, h, l) in
          let c = mul-le-mul_right (1007958012753983 * q) a in
          let d : 0 < u = omega (arith, e, p) in
          let k : u * u ≡ u * (2 ^ 57 * w) = ap (λ (z : ℕ). u * z) e in
          let n : u * u ≡ u * (2 ^ 44 * q) = ap (λ (z : ℕ). u * z) f in
          let s : 0 < u * u = mul-pos d d in
          omega (arith, c, k, n, s)

  turned_most : turned.v ≤ T
  turned_most = le_of_mul-le-mul_right {k = U} (go turned.v T v b U W Q U-is Q-is most wide least turned.near.0) U_pos
    where
      go : (t a v b u w q : ℕ) → u ≡ 2 ^ 57 * w → u ≡ 2 ^ 44 * q → 75 * v ≤ 96 * b + 77760 * w → 147 * b ≤ 2 * a → 140737488355328 * w ≤ a → t * u ≤ v * (1007958012753983 * q) + 1024 * w * u → t * u ≤ a * u
      go t a v b u w q e f h k l n =
          let c = mul-le-mul_right (1007958012753983 * q) h in
          let d = mul-le-mul_right (1007958012753983 * q) k in
          let g = mul-le-mul_right u l in
          let x : a * u ≡ a * (2 ^ 44 * q) = ap (λ (z : ℕ). a * z) f in
          let y : w * u ≡ w * (2 ^ 44 * q) = ap (λ (z : ℕ). w * z) f in
          omega (arith, c, d, g, n, x, y)

  degrees_below : (tol : Float) → Is tol false T → le (size_of (to_degrees r)) tol ≡ true
  unfolding to_degrees
  degrees_below tol j = le_of_units (size_of (mul binary64 r per_radian)) tol false turned.v T (size_is (mul binary64 r per_radian) false turned.v turned.is) j turned_most

-- ---- the squares: a sine of b units, whose square has s, and a tolerance of T
module _ (square tol : Float) (s T : ℕ) (i : Is square false s) (j : Is tol false T) (low : s ≤ U) (high : T ≤ 64 * U) (test : le (mul binary64 square square_degrees) (mul binary64 tol tol) ≡ true) where
  left : Rounded (mul binary64 square square_degrees) false (s * (5476 * U)) U (65536 * W)
  left = mul_rounded square square_degrees false false s (5476 * U) 16 (lit≤ tt) i factor_is (go s U W U-is U_pos low)
    where
      go : (s u w : ℕ) → u ≡ 2 ^ 57 * w → 0 < u → s ≤ u → s * (5476 * u) < 2 ^ 70 * w * u
      go s u w e p l =
          let a = mul-le-mul_right (5476 * u) l in
          let k : u * u ≡ u * (2 ^ 57 * w) = ap (λ (z : ℕ). u * z) e in
          let n : 0 < u * u = mul-pos p p in
          omega (arith, a, k, n)

  right : Rounded (mul binary64 tol tol) false (T * T) U (65536 * W)
  right = mul_rounded tol tol false false T T 16 (lit≤ tt) j j (go T U W U-is U_pos (mul-le-mul high high))
    where
      go : (t u w : ℕ) → u ≡ 2 ^ 57 * w → 0 < u → t * t ≤ 64 * u * (64 * u) → t * t < 2 ^ 70 * w * u
      go t u w e p l =
          let k : u * u ≡ u * (2 ^ 57 * w) = ap (λ (z : ℕ). u * z) e in
          let n : 0 < u * u = mul-pos p p in
          omega (arith, l, k, n)

  squares : 5476 * (s * U) ≤ T * T + 131072 * (W * U)
  squares = go left.v right.v s T U W left.near.1 right.near.0 (mul-le-mul_right U (units_le (mul binary64 square square_degrees) (mul binary64 tol tol) false left.v right.v left.is right.is test))
    where
      go : (l r s t u w : ℕ) → s * (5476 * u) ≤ l * u + 65536 * w * u → r * u ≤ t * t + 65536 * w * u → l * u ≤ r * u → 5476 * (s * u) ≤ t * t + 131072 * (w * u)
      go l r s t u w a b c = omega (arith, a, b, c)

  sine_most : (b : ℕ) → 2 ^ 51 * (b * b) ≤ 2 ^ 51 * (s * U) + b * b → 140737488355328 * W ≤ T → 147 * b ≤ 2 * T
  sine_most b h l = go (le_or_lt (147 * b) (2 * T))
    where
      clash : (b s t u w : ℕ) → u ≡ 2 ^ 57 * w → 0 < w → 2 ^ 51 * (b * b) ≤ 2 ^ 51 * (s * u) + b * b → 5476 * (s * u) ≤ t * t + 131072 * (w * u) → 140737488355328 * w * (140737488355328 * w) ≤ t * t → 2 * t * (2 * t) ≤ 147 * b * (147 * b) → ⊥
      clash b s t u w e p h q l k =
          let x : w * u ≡ w * (2 ^ 57 * w) = ap (λ (z : ℕ). w * z) e in
          let y : 0 < w * w = mul-pos p p in
          omega (arith, h, q, l, k, x, y)

      go : (147 * b ≤ 2 * T) ⊎ (2 * T < 147 * b) → 147 * b ≤ 2 * T
      go (inl k) = k
      go (inr k) = absurd (clash b s T U W U-is W-pos h squares (mul-le-mul l l) (mul-le-mul (le_of_lt k) (le_of_lt k)))

-- ---- the test
both : (a b : Bool) → (a && b) ≡ true → (a ≡ true) × (b ≡ true)
both true b h = (refl, h)
both false b h = absurd (false≢true h)

between_finite : (x : Float) → le nought x ≡ true → le x most_degrees ≡ true → finite x ≡ true
unfolding le lt eq of_bits
between_finite nan a b = absurd (false≢true a)
between_finite (inf true) a b = absurd (false≢true a)
between_finite (inf false) a b = absurd (false≢true b)
between_finite (fin s m e) a b = refl

plain_is : (r : Float) → Plain r → T (fits binary64 r) → (v : ℕ) × Is r false v
plain_is nan p f = absurd p
plain_is (inf s) p f = absurd p
plain_is (fin true m e) p f = absurd p
plain_is (fin false m e) p f = let h = held (fin false m e) f tt in (h.v, (refl, h.is.1))

-- what is finite and has a sign is not above zero
below_zero : (x : Float) → finite x ≡ true → negative x ≡ true → le x nought ≡ true
below_zero nan F n = absurd (false≢true F)
below_zero (inf s) F n = absurd (false≢true F)
below_zero (fin false m e) F n = absurd (false≢true n)
below_zero (fin true m e) F n = go (eq (fin true m e) plus_zero) refl
  where
    go : (b : Bool) → eq (fin true m e) plus_zero ≡ b → le (fin true m e) nought ≡ true
    go true z = order.eq_le (fin true m e) nought z
    go false z = order.lt_le (fin true m e) nought (lt_neg m e z)

one_most : le one most_degrees ≡ true
unfolding le lt eq of_bits
one_most = refl

nearly_above : le nearly_one nought ≡ false
unfolding le lt eq of_bits
nearly_above = refl

nearly_from : le nought nearly_one ≡ true
unfolding le lt eq of_bits
nearly_from = refl

zero_turned : (s : Bool) → size_of (to_degrees (fin s 0 (pos 0))) ≡ nought
unfolding size_of to_degrees mul round of_bits
zero_turned true = refl
zero_turned false = refl

zero_eq : (s : Bool) → eq (fin s 0 (pos 0)) plus_zero ≡ true
unfolding eq of_bits
zero_eq true = refl
zero_eq false = refl

least_above : le nought least_degrees ≡ true
unfolding le lt eq of_bits
least_above = refl

least_zero : (s : Bool) → le least_degrees (fin s 0 (pos 0)) ≡ false
unfolding le lt eq of_bits
least_zero true = refl
least_zero false = refl

zero_sign : (x : Float) → (x ≡ nought) ⊎ ((s : Bool) × (x ≡ fin s 0 (pos 0)) × (nought ≡ fin (not s) 0 (pos 0))) → (s : Bool) × (x ≡ fin s 0 (pos 0))
unfolding of_bits
zero_sign x (inl e) = (false, e)
zero_sign x (inr z) = (z.0, z.1)

zero_or_up : (x : Float) → T (fits binary64 x) → le nought x ≡ true → finite x ≡ true → ((s : Bool) × (x ≡ fin s 0 (pos 0))) ⊎ ((v : ℕ) × Is x false v × (0 < v))
zero_or_up x f h F = go (eq x plus_zero) refl
  where
    not_below : (c : Bool) → lt x plus_zero ≡ c → c ≡ false
    not_below true l = absurd (true≢false (sym h ∙ order.lt_not_le x nought l))
    not_below false l = refl

    go : (c : Bool) → eq x plus_zero ≡ c → ((s : Bool) × (x ≡ fin s 0 (pos 0))) ⊎ ((v : ℕ) × Is x false v × (0 < v))
    go true z = inl (zero_sign x (le_same x nought f (of_bits-fits binary64 0) (order.eq_le x nought z) h))
    go false z = let u = up_is x (up_above x F z (not_below (lt x plus_zero) refl)) f in inr (val x, u.0, u.1)

module _ (x tol : Float) (g : T (fits binary64 x)) (ahead : le nearly_one x ≡ true) (most : le x one ≡ true) where
  abbrev WithinTolerance : Float → Type 0
  WithinTolerance r = le (size_of (to_degrees r)) tol ≡ true

  x_above : le x nought ≡ true → ⊥
  x_above h = true≢false (sym (order.le_trans nearly_one x nought ahead h) ∙ nearly_above)

  x_finite : finite x ≡ true
  x_finite = between_finite x (order.le_trans nought nearly_one x nearly_from ahead) (order.le_trans x one most_degrees most one_most)

  x_plus : negative x ≡ false
  x_plus = go (negative x) refl
    where
      go : (b : Bool) → negative x ≡ b → b ≡ false
      go true e = absurd (x_above (below_zero x x_finite e))
      go false e = refl

  x_up : Up x
  x_up = up_above x x_finite (not_zero (eq x plus_zero) refl) (not_below (lt x plus_zero) refl)
    where
      not_zero : (b : Bool) → eq x plus_zero ≡ b → b ≡ false
      not_zero true l = absurd (x_above (order.eq_le x nought l))
      not_zero false l = refl

      not_below : (b : Bool) → lt x plus_zero ≡ b → b ≡ false
      not_below true l = absurd (x_above (order.lt_le x nought l))
      not_below false l = refl

  -- of a zero
  zero_within : (y : Float) (s : Bool) → y ≡ fin s 0 (pos 0) → le nought tol ≡ true → WithinTolerance (angle_float y x)
  unfolding angle_float level_float
  zero_within y s e h =
      chosen WithinTolerance (eq y plus_zero) _ _
      (λ z. chosen WithinTolerance (negative x) _ _ (λ n. absurd (true≢false (sym n ∙ x_plus)))
      (λ n. subst (λ (r : Float). le (size_of (to_degrees r)) tol ≡ true) (sym e) (subst (λ (r : Float). le r tol ≡ true) (sym (zero_turned s)) h)))
      (λ z. absurd (true≢false (sym (ap (λ (r : Float). eq r plus_zero) e ∙ zero_eq s) ∙ z)))

  -- above zero
  module _ (y : Float) (f : T (fits binary64 y)) (b t : ℕ) (i : Is y false b) (positive : 0 < b) (wide : 147 * b ≤ 2 * t) (least : 140737488355328 * W ≤ t) (high : t ≤ 64 * U) where
    y_above : le y nought ≡ true → ⊥
    y_above h = none b positive (units_le y nought false b 0 i nought_is h)
      where
        none : (b : ℕ) → 0 < b → b ≤ 0 → ⊥
        none b p l = omega arith

    y_finite : finite y ≡ true
    y_finite = is_true (finite y) (is_finite y false b i)

    y_up : Up y
    y_up = up_above y y_finite (not_zero (eq y plus_zero) refl) (not_below (lt y plus_zero) refl)
      where
        not_zero : (c : Bool) → eq y plus_zero ≡ c → c ≡ false
        not_zero true l = absurd (y_above (order.eq_le y nought l))
        not_zero false l = refl

        not_below : (c : Bool) → lt y plus_zero ≡ c → c ≡ false
        not_below true l = absurd (y_above (order.lt_le y nought l))
        not_below false l = refl

    least_x : 15 * Q16 ≤ val x
    least_x = units_le nearly_one x false (15 * Q16) (val x) nearly_is (up_is x x_up g).0 ahead

    low : b ≤ val x
    low = go b t (val x) U Q16 Q16-is wide high least_x
      where
        go : (b t x u q : ℕ) → u ≡ 16 * q → 147 * b ≤ 2 * t → t ≤ 64 * u → 15 * q ≤ x → b ≤ x
        go b t x u q e h k l = omega (arith, e, h, k, l)

    in_order : le y x ≡ true
    in_order = le_of_units y x false b (val x) i (up_is x x_up g).0 low

    angle_is : angle_float y x ≡ flat_float (ratio_float y x)
    unfolding angle_float upper_float right_float
    angle_is =
        chosen (λ (r : Float). r ≡ flat_float (ratio_float y x)) (eq y plus_zero) _ _ (λ h. absurd (y_above (order.eq_le y nought h)))
        (λ h. chosen (λ (r : Float). r ≡ flat_float (ratio_float y x)) (lt y plus_zero) _ _ (λ l. absurd (y_above (order.lt_le y nought l)))
        (λ l. chosen (λ (r : Float). r ≡ flat_float (ratio_float y x)) (eq x plus_zero) _ _ (λ n. absurd (x_above (order.eq_le x nought n)))
        (λ n. chosen (λ (r : Float). r ≡ flat_float (ratio_float y x)) (lt x plus_zero) _ _ (λ m. absurd (x_above (order.lt_le x nought m)))
        (λ m. sym (pick (le y x) (flat_float (ratio_float y x)) _ in_order)))))

    double : T (fits binary64 (angle_float y x))
    double = arctangent_double y x (angle_float y x) f (arctangent_is y x y_finite x_finite)

    up_within : Is tol false t → WithinTolerance (angle_float y x)
    up_within j =
        let p = proper_le y x y_up x_up f g in_order in
        let q = ratio_near y x p in
        let a = flat_aimed (ratio_float y x) q.good in
        let k = plain_is (flat_float (ratio_float y x)) a.plain (subst (λ (r : Float). T (fits binary64 r)) angle_is double) in
        let l = units_le x one false (val x) U p.b_is one_is most in
        let n = subst (λ (z : ℕ). Within (val (ratio_float y x)) (z * U) (val x) (16 * W)) (val_of y false b i) q.near in
        subst WithinTolerance (sym angle_is)
        (degrees_below (flat_float (ratio_float y x)) k.0 b t k.1
        (sums k.0 (val (ratio_float y x)) b W (radians_most (val (ratio_float y x)) (flat_float (ratio_float y x)) k.0 a k.1) (tangent_most (val (ratio_float y x)) b (val x) (sixteenths (val x) least_x) n))
        (le_trans low l) wide least tol j)
      where
        sums : (v t b w : ℕ) → 5 * v ≤ 6 * (t + 848 * w) → 15 * t ≤ 16 * b + 240 * w → 75 * v ≤ 96 * b + 77760 * w
        sums v t b w h k = omega arith

        sixteenths : (x : ℕ) → 15 * Q16 ≤ x → 15 * U ≤ 16 * x
        sixteenths x h = go U Q16 Q16-is h
          where
            go : (u q : ℕ) → u ≡ 16 * q → 15 * q ≤ x → 15 * u ≤ 16 * x
            go u q e h = omega arith

-- a square that is not below zero, and its root
root_zero : (s : Bool) → root (fin s 0 (pos 0)) ≡ fin s 0 (pos 0)
unfolding root
root_zero true = refl
root_zero false = refl

record Passed (square x tol : Float) : Type 0 where
  least : le least_degrees tol ≡ true
  high : le tol most_degrees ≡ true
  ahead : le nearly_one x ≡ true
  above : le nought square ≡ true
  low : le square one ≡ true
  test : le (mul binary64 square square_degrees) (mul binary64 tol tol) ≡ true

passed : (square x tol : Float) → surely_within square x tol ≡ true → Passed square x tol
unfolding surely_within
passed square x tol h =
    let p = both _ _ h in
    let q = both _ _ p.0 in
    let r = both _ _ q.0 in
    let s = both _ _ r.0 in
    let t = both _ _ s.0 in
    record { least = t.0; high = t.1; ahead = s.1; above = r.1; low = q.1; test = p.1 }

up_to_one : (x : Float) → UpTo 1 x → le x one ≡ true
up_to_one x X = le_of_units x one X.s X.v U X.is one_is (go X.v U X.most)
  where
    go : (v u : ℕ) → v ≤ 1 * u → v ≤ u
    go v u h = omega arith

-- a clamped number from 15/16 up is at most 1
clamped_most : (x : Float) → T (fits binary64 x) → le nearly_one (clamp_unit x) ≡ true → le (clamp_unit x) one ≡ true
unfolding of_bits is_nan
clamped_most nan f h = absurd (false≢true (unfold clamp_unit le lt eq in h))
clamped_most (inf s) f h = up_to_one (clamp_unit (inf s)) (clamp_small (inf s) f refl)
clamped_most (fin s m e) f h = up_to_one (clamp_unit (fin s m e)) (clamp_small (fin s m e) f refl)

module _ (square x tol : Float) (f : T (fits binary64 square)) (g : T (fits binary64 x)) (h : T (fits binary64 tol)) (most : le x one ≡ true) (p : Passed square x tol) where
  tol_finite : finite tol ≡ true
  tol_finite = between_finite tol (order.le_trans nought least_degrees tol least_above p.least) p.high

  square_finite : finite square ≡ true
  square_finite = between_finite square p.above (order.le_trans square one most_degrees p.low one_most)

  tol_from : le nought tol ≡ true
  tol_from = order.le_trans nought least_degrees tol least_above p.least

  tol_is : (v : ℕ) × Is tol false v × (140737488355328 * W ≤ v) × (v ≤ 64 * U)
  tol_is = go (zero_or_up tol h tol_from tol_finite)
    where
      go : ((s : Bool) × (tol ≡ fin s 0 (pos 0))) ⊎ ((v : ℕ) × Is tol false v × (0 < v)) → (v : ℕ) × Is tol false v × (140737488355328 * W ≤ v) × (v ≤ 64 * U)
      go (inl z) = absurd (true≢false (sym p.least ∙ ap (λ (r : Float). le least_degrees r) z.1 ∙ least_zero z.0))
      go (inr z) = (z.0, z.1, units_le least_degrees tol false (140737488355328 * W) z.0 least_is z.1 p.least, units_le tol most_degrees false z.0 (64 * U) z.1 most_is p.high)

  root_within : (finite (root square) ≡ true) × (le (size_of (to_degrees (angle_float (root square) x))) tol ≡ true)
  root_within = go (zero_or_up square f p.above square_finite)
    where
      go : ((s : Bool) × (square ≡ fin s 0 (pos 0))) ⊎ ((v : ℕ) × Is square false v × (0 < v)) → (finite (root square) ≡ true) × (le (size_of (to_degrees (angle_float (root square) x))) tol ≡ true)
      go (inl z) = let e = ap root z.1 ∙ root_zero z.0 in (ap finite e, zero_within x tol g p.ahead most (root square) z.0 e tol_from)
      go (inr z) =
          let r = units_rooted square z.0 f z.1 z.2 in
          let b = r.q * r.g in
          let t = tol_is.0 in
          let l = sine_most square tol z.0 t z.1 tol_is.1 (units_le square one false z.0 U z.1 one_is p.low) tol_is.3 p.test b (root_square z.0 (root square) r).high tol_is.2 in (
            is_true (finite (root square)) (is_finite (root square) false b r.y_is),
            up_within x tol g p.ahead most (root square) (root_fits square f) b t r.y_is (mul-pos (lt_of_lt_of_le (lit< tt) r.low) (subst (λ (n : ℕ). 0 < n) (sym r.g_is) (pow_pos r.e))) l tol_is.2 tol_is.3 tol_is.1,
          )

-- ---- the test of the profile
pub surely_close : (left right a b : Vec3) (tol : Float) → T (fits binary64 tol) → unit_direction left ≡ Some a → unit_direction right ≡ Some b → surely_within (dot (cross a b) (cross a b)) (clamp_unit (dot a b)) tol ≡ true → close left right tol ≡ true
unfolding close angle_between_deg norm
surely_close left right a b tol f l r h =
    let p = passed (dot (cross a b) (cross a b)) (clamp_unit (dot a b)) tol h in
    let g = clamp_fits (dot a b) (dot_fits a b) in
    let m = clamped_most (dot a b) (dot_fits a b) p.ahead in
    let w = root_within (dot (cross a b) (cross a b)) (clamp_unit (dot a b)) tol (dot_fits (cross a b) (cross a b)) g f m p in
    rw (l, r, arctangent_is (root (dot (cross a b) (cross a b))) (clamp_unit (dot a b)) w.0 (x_finite (clamp_unit (dot a b)) tol g p.ahead m)) w.1
