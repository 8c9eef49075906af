-- The angle that each eighth of the plane gives is in the direction of (x, y): y above zero, then below it, then zero. And what the code's tests say. Assumes nothing.
use Rattle.std.proofs.Common.{◌≡◌, ℕ, zero, suc, ◌+◌, ◌*◌, ◌/◌, ◌^◌, ◌<◌, ◌≤◌, Bool, true, false, cond, not, ◌&&◌, ◌||◌, T, eqb, ltb, ◌⊎◌, ℤ, pos, negsuc, sym, refl, ap, ◌∙◌, subst, inl, inr, true≢false, le_of_eq, mul-le-mul_right, eq-zero-or-pos, le_antisymm, mul-pos, mul-div_cancel, arith, lit<, lit≤, ltb→lt, lt→ltb}
use lib.Dec.{eqb_refl}
use lib.Ieee.{Float, nan, inf, fin, binary64, up, down, neg, div, of_bits, le, lt, eq, fits, is_nan}
use Rattle.std.specs.Float.{is_sign_negative, float_with_sign}
use lib.Ieee.Fits.{down_pos, up_pos}
use lib.Ieee.Positive.{den as bot}
use Rattle.float.proofs.Rounding.{Within}
use Rattle.float.specs.Units.{U, Is}
use Rattle.float.proofs.Rounding.{W, U-is, U_pos, W-pos, Rounded, div_rounded}
use Rattle.trig.proofs.Scaling.{units_of}
use Rattle.trig.specs.Fraction.{Frac, negated, product, total, difference, Small, Positive, worth}
use Rattle.trig.specs.Angle.{wave, sine, cosine}
use Rattle.trig.specs.Arctangent.{half_pi, pi_float, quarter_float}
use Rattle.float.proofs.UpTo.{one_is}
use Rattle.trig.proofs.HornerForm.{num}
use Rattle.trig.proofs.WaveLaws.{zero_test}
use Rattle.trig.proofs.WaveError.{wave_odd, wave_even, le_cross, zero_of, Zero}
use Rattle.trig.proofs.GridAngle.{vv, Upper, Lower, Tangent, Angle, val, cn, cd, sn, sd, le_units, lt_units}
use Rattle.trig.proofs.WaveSteps.{lt_pos, lt_neg}
use Rattle.float.proofs.Order.{neg_neg}
use Rattle.trig.proofs.Choices.{is_true, not_true}
use Rattle.float.proofs.Units.{le_or_lt}
use lib.Ieee.Scale.{finite}
use Rattle.float.specs.Helpers.{negative}
use Rattle.trig.specs.Direction.{larger, Toward, Direction, pi, nought, signed}
use Rattle.trig.proofs.Cells.{Plain, Lands, lands_flat, lands_rise, lands_back}
use Rattle.trig.proofs.Quadrants.{Aimed, aim, toward_flat, toward_rise, toward_lean, toward_back}
use Rattle.trig.specs.Kernel.{one, plus_zero}

-- ---- a float's units
pub val_of : (x : Float) (s : Bool) (v : ℕ) → Is x s v → val x ≡ v
val_of nan s v h = absurd h
val_of (inf t) s v h = absurd h
val_of (fin t m e) s v h = ap (λ (z : ℕ). z / down e) h.1 ∙ mul-div_cancel v (down_pos e)

-- finite and above zero
abbrev pub Up : Float → Type 0
Up nan = ⊥
Up (inf s) = ⊥
Up (fin true m e) = ⊥
Up (fin false m e) = 0 < m

pub up_is : (x : Float) → Up x → T (fits binary64 x) → Is x false (val x) × (0 < val x)
up_is nan h f = absurd h
up_is (inf s) h f = absurd h
up_is (fin true m e) h f = absurd h
up_is (fin false m e) h f =
    let u = units_of false m e f in
    let v : val (fin false m e) ≡ u.0 = val_of (fin false m e) false u.0 u.1 in
    (subst (λ (z : ℕ). Is (fin false m e) false z) (sym v) u.1, subst (λ (z : ℕ). 0 < z) (sym v) (go u.0 (subst (λ (z : ℕ). 0 < z) u.1.1 (mul-pos (mul-pos h (up_pos e)) U_pos))))
  where
    go : (v : ℕ) → 0 < v * down e → 0 < v
    go zero h = omega arith
    go (suc v) h = omega arith

-- ---- the ratio
pub record Proper (a b : Float) : Type 0 where
  pub a_is : Is a false (val a)
  pub b_is : Is b false (val b)
  pub positive : 0 < val b
  pub less : val a ≤ val b

pub record Ratio (a b t : Float) : Type 0 where
  pub good : Tangent t
  pub near : Within (val t) (val a * U) (val b) (16 * W)

module _ (a b : Float) (p : Proper a b) where
  quotient : Rounded (div binary64 a b) false (val a * U) (val b) (16 * W)
  quotient = div_rounded a b false false (val a) (val b) 4 (lit≤ tt) p.positive p.a_is p.b_is (go (val a) (val b) U W U-is p.less (mul-pos W-pos p.positive))
    where
      go : (a b u w : ℕ) → u ≡ 2 ^ 57 * w → a ≤ b → 0 < w * b → a * u < 2 ^ 58 * w * b
      go a b u w e l h = sum (mul-le-mul_right u l) (ap (λ (z : ℕ). b * z) e)
        where
          sum : a * u ≤ b * u → b * u ≡ b * (2 ^ 57 * w) → a * u < 2 ^ 58 * w * b
          sum x y = omega arith

  quotient_is : val (div binary64 a b) ≡ quotient.v
  quotient_is = val_of (div binary64 a b) false quotient.v quotient.is

  pub ratio_below : le (div binary64 a b) one ≡ true → Ratio a b (div binary64 a b)
  ratio_below h = record {
    good = record {
      is = subst (λ (z : ℕ). Is (div binary64 a b) false z) (sym quotient_is) quotient.is;
      most = subst (λ (z : ℕ). z ≤ U) (sym quotient_is) (le_units (div binary64 a b) one quotient.v U quotient.is one_is (is_true _ h));
    };
    near = subst (λ (z : ℕ). Within z (val a * U) (val b) (16 * W)) (sym quotient_is) quotient.near;
  }

  pub ratio_one : le (div binary64 a b) one ≡ false → Ratio a b one
  ratio_one h = record {
    good = record { is = subst (λ (z : ℕ). Is one false z) (sym one_val) one_is; most = le_of_eq one_val };
    near = subst (λ (z : ℕ). Within z (val a * U) (val b) (16 * W)) (sym one_val)
        (go (val a) (val b) U W quotient.v p.less (lt_units (div binary64 a b) one quotient.v U quotient.is one_is (not_true _ h)) quotient.near.0);
  }
    where
      one_val : val one ≡ U
      one_val = val_of one false U one_is

      go : (a b u w v : ℕ) → a ≤ b → u ≤ v → v * b ≤ a * u + 16 * w * b → Within u (a * u) b (16 * w)
      go a b u w v l k h = sum (mul-le-mul_right u l) (mul-le-mul_right b k)
        where
          sum : a * u ≤ b * u → u * b ≤ v * b → Within u (a * u) b (16 * w)
          sum x y = (omega arith, omega arith)

-- ---- y above zero: the angle is from 0 up to pi
pub record Upward (y x r : Float) : Type 0 where
  pub plain : Plain r
  pub greatest : T (le r pi)
  pub toward : Toward y x r

pub by_flat : (y x t r : Float) → Up y → Up x → Proper y x → Ratio y x t → Aimed (val t) 0 false r → Upward y x r
by_flat nan x t r Y X p q z = absurd Y
by_flat (inf s) x t r Y X p q z = absurd Y
by_flat (fin true m e) x t r Y X p q z = absurd Y
by_flat (fin false m e) nan t r Y X p q z = absurd X
by_flat (fin false m e) (inf s) t r Y X p q z = absurd X
by_flat (fin false m e) (fin true n f) t r Y X p q z = absurd X
by_flat (fin false m e) (fin false n f) t r Y X p q z =
    record { plain = z.plain; greatest = z.greatest; toward = toward_flat m e n f (val (fin false m e)) (val (fin false n f)) (val t) p.a_is.1 p.b_is.1 r p.positive q.near z }

pub by_rise : (y x t r : Float) → Up y → Up x → Proper x y → Ratio x y t → Aimed (val t) 1 true r → Upward y x r
by_rise nan x t r Y X p q z = absurd Y
by_rise (inf s) x t r Y X p q z = absurd Y
by_rise (fin true m e) x t r Y X p q z = absurd Y
by_rise (fin false m e) nan t r Y X p q z = absurd X
by_rise (fin false m e) (inf s) t r Y X p q z = absurd X
by_rise (fin false m e) (fin true n f) t r Y X p q z = absurd X
by_rise (fin false m e) (fin false n f) t r Y X p q z =
    record { plain = z.plain; greatest = z.greatest; toward = toward_rise m e n f (val (fin false m e)) (val (fin false n f)) (val t) p.b_is.1 p.a_is.1 r p.positive q.near z }

pub by_lean : (y x t r : Float) → Up y → Up x → Proper x y → Ratio x y t → Aimed (val t) 1 false r → Upward y (neg x) r
unfolding neg
by_lean nan x t r Y X p q z = absurd Y
by_lean (inf s) x t r Y X p q z = absurd Y
by_lean (fin true m e) x t r Y X p q z = absurd Y
by_lean (fin false m e) nan t r Y X p q z = absurd X
by_lean (fin false m e) (inf s) t r Y X p q z = absurd X
by_lean (fin false m e) (fin true n f) t r Y X p q z = absurd X
by_lean (fin false m e) (fin false n f) t r Y X p q z =
    record { plain = z.plain; greatest = z.greatest; toward = toward_lean m e n f (val (fin false m e)) (val (fin false n f)) (val t) p.b_is.1 p.a_is.1 r p.positive q.near z }

pub by_back : (y x t r : Float) → Up y → Up x → Proper y x → Ratio y x t → Aimed (val t) 2 true r → Upward y (neg x) r
unfolding neg
by_back nan x t r Y X p q z = absurd Y
by_back (inf s) x t r Y X p q z = absurd Y
by_back (fin true m e) x t r Y X p q z = absurd Y
by_back (fin false m e) nan t r Y X p q z = absurd X
by_back (fin false m e) (inf s) t r Y X p q z = absurd X
by_back (fin false m e) (fin true n f) t r Y X p q z = absurd X
by_back (fin false m e) (fin false n f) t r Y X p q z =
    record { plain = z.plain; greatest = z.greatest; toward = toward_back m e n f (val (fin false m e)) (val (fin false n f)) (val t) p.a_is.1 p.b_is.1 r p.positive q.near z }

pub aimed : (t : Float) (k i : ℕ) (b : Bool) (r : Float) → Tangent t → Angle t i → Lands k b i r → Aimed (val t) k b r
aimed t k i b r g a l = aim (val t) k i b r g.most a.small a.up a.low l

-- the order of two, from the test
pub proper_le : (y x : Float) → Up y → Up x → T (fits binary64 y) → T (fits binary64 x) → le y x ≡ true → Proper y x
proper_le y x Y X f g h =
    let a = up_is y Y f in
    let b = up_is x X g in
    record { a_is = a.0; b_is = b.0; positive = b.1; less = le_units y x (val y) (val x) a.0 b.0 (is_true _ h) }

pub proper_gt : (y x : Float) → Up y → Up x → T (fits binary64 y) → T (fits binary64 x) → le y x ≡ false → Proper x y
proper_gt y x Y X f g h =
    let a = up_is y Y f in
    let b = up_is x X g in
    record { a_is = b.0; b_is = a.0; positive = a.1; less = lt_units y x (val y) (val x) a.0 b.0 (not_true _ h) }

-- ---- a zero: the tangent 0, at the angle 0 of the grid
zero_upper : Upper 0 0 (448 * W)
unfolding sn
zero_upper = record { up = go (num (0 * 0) (vv * vv) 12 2) U cd (0 * cn 0 * sd + 448 * W * (cd * sd)) }
  where
    go : (n u d y : ℕ) → 0 * n * u * d ≤ y
    go n u d y = omega arith

zero_lower : Lower 0 0 (448 * W)
zero_lower = record { low = go (cn 0) sd (sn 0 * U * cd + 448 * W * (cd * sd)) }
  where
    go : (n d y : ℕ) → 0 * n * d ≤ y
    go n d y = omega arith

zero_aimed : (k : ℕ) (b : Bool) (r : Float) → Lands k b 0 r → Aimed 0 k b r
zero_aimed k b r l = aim 0 k 0 b r (none U) (lit≤ tt) zero_upper zero_lower l
  where
    none : (u : ℕ) → 0 ≤ u
    none u = omega arith

zero_within : (q : ℕ) → Within 0 (0 * U) q (16 * W)
zero_within q = go q U W
  where
    go : (q u w : ℕ) → Within 0 (0 * u) q (16 * w)
    go q u w = (omega arith, omega arith)

half_quarters : quarter_float 3537118876014220 ≡ half_pi
unfolding quarter_float of_bits lib.Ieee.mul lib.Ieee.of_int
half_quarters = refl

half_lands : Lands 1 true 0 half_pi
half_lands = subst (λ (z : Float). Lands 1 true 0 z) half_quarters (lands_rise 3537118876014220 0 (lit≤ tt) (lit≤ tt) (lit≤ tt) (lit≤ tt) (lit≤ tt))

pi_quarters : quarter_float 7074237752028440 ≡ pi
unfolding quarter_float lib.Ieee.mul lib.Ieee.of_int
pi_quarters = refl

pi_lands : Lands 2 true 0 pi
pi_lands = subst (λ (z : Float). Lands 2 true 0 z) pi_quarters (lands_back 7074237752028440 0 (lit≤ tt) (lit≤ tt) (lit≤ tt) (lit≤ tt) (lit≤ tt))

zero_units : (n a u d : ℕ) → n ≡ 0 → n * a * u ≡ 0 * d
zero_units n a u d e = ap (λ (z : ℕ). z * a * u) e ∙ go a u d
  where
    go : (a u d : ℕ) → 0 * a * u ≡ 0 * d
    go a u d = omega arith

zero_top : (n a : ℕ) → n ≡ 0 → n * a ≡ 0
zero_top n a e = ap (λ (z : ℕ). z * a) e ∙ go a
  where
    go : (a : ℕ) → 0 * a ≡ 0
    go a = omega arith

-- a zero is worth the same with either sign
worth_zero : (n : ℕ) (f : ℤ) → n ≡ 0 → worth (fin false n f) ≡ worth (fin true n f)
worth_zero n f e =
    ap (λ (z : ℕ). record { plus = z; minus = 0; over = down f }) (zero_top n (up f) e)
    ∙ ap (λ (z : ℕ). record { plus = 0; minus = z; over = down f }) (sym (zero_top n (up f) e))

toward_zero : (y r : Float) (n : ℕ) (f : ℤ) → n ≡ 0 → Toward y (fin false n f) r → Toward y (fin true n f) r
toward_zero y r n f e w = record {
  small = subst (λ (z : Frac). Small (difference (product (worth y) (cosine r)) (product z (sine r))) (larger y (fin false n f)) (bot y * down f)) (worth_zero n f e) w.small;
  ahead = subst (λ (z : Frac). Positive (total (product z (cosine r)) (product (worth y) (sine r)))) (worth_zero n f e) w.ahead;
}

pub by_half : (y x : Float) → Up y → T (fits binary64 y) → Zero x → Upward y x half_pi
by_half nan x Y f z = absurd Y
by_half (inf s) x Y f z = absurd Y
by_half (fin true m e) x Y f z = absurd Y
by_half (fin false m e) nan Y f z = absurd z
by_half (fin false m e) (inf s) Y f z = absurd z
by_half (fin false m e) (fin s n g) Y f z =
    let a = zero_aimed 1 true half_pi half_lands in
    let u = up_is (fin false m e) Y f in
    let w = toward_rise m e n g (val (fin false m e)) 0 0 u.0.1 (zero_units n (up g) U (down g) z) half_pi u.1 (zero_within (val (fin false m e))) a in
    record { plain = a.plain; greatest = a.greatest; toward = go s w }
  where
    go : (s : Bool) → Toward (fin false m e) (fin false n g) half_pi → Toward (fin false m e) (fin s n g) half_pi
    go true w = toward_zero (fin false m e) half_pi n g z w
    go false w = w

-- ---- y below zero
small_half : (P M O P' M' O' a d : ℕ) → P' ≡ M → M' ≡ P → O' ≡ O → 2 ^ 46 * (M * d) ≤ 2 ^ 46 * (P * d) + a * O → 2 ^ 46 * (P' * d) ≤ 2 ^ 46 * (M' * d) + a * O'
small_half P M O P' M' O' a d e f g h = go (ap (λ (z : ℕ). z * d) e) (ap (λ (z : ℕ). z * d) f) (ap (λ (z : ℕ). a * z) g)
  where
    go : P' * d ≡ M * d → M' * d ≡ P * d → a * O' ≡ a * O → 2 ^ 46 * (P' * d) ≤ 2 ^ 46 * (M' * d) + a * O'
    go x y z = omega arith

swapped : (f g : Frac) (a d : ℕ) → g.plus ≡ f.minus → g.minus ≡ f.plus → g.over ≡ f.over → Small f a d → Small g a d
swapped f g a d e h o s = record {
  above = small_half f.plus f.minus f.over g.plus g.minus g.over a d e h o s.below;
  below = small_half f.minus f.plus f.over g.minus g.plus g.over a d h e o s.above;
}

-- y is a / d, and x is (b - b') / e
turn : (a d b b' e : ℕ) (s c : Frac) (L D : ℕ) → Small (difference (product (record { plus = a; minus = 0; over = d }) c) (product (record { plus = b; minus = b'; over = e }) s)) L D
    → Small (difference (product (record { plus = 0; minus = a; over = d }) c) (product (record { plus = b; minus = b'; over = e }) (negated s))) L D
turn a d b b' e s c L D h =
    swapped (difference (product (record { plus = a; minus = 0; over = d }) c) (product (record { plus = b; minus = b'; over = e }) s)) (difference (product (record { plus = 0; minus = a; over = d }) c) (product (record { plus = b; minus = b'; over = e }) (negated s))) L D
    (one a d b b' e c.plus c.minus c.over s.plus s.minus s.over) (two a d b b' e c.plus c.minus c.over s.plus s.minus s.over) refl h
  where
    one : (a d b b' e cp cm co sp sm so : ℕ) → (0 * cp + a * cm) * (e * so) + (b * sp + b' * sm) * (d * co) ≡ (a * cm + 0 * cp) * (e * so) + (b * sp + b' * sm) * (d * co)
    one a d b b' e cp cm co sp sm so = omega arith

    two : (a d b b' e cp cm co sp sm so : ℕ) → (0 * cm + a * cp) * (e * so) + (b * sm + b' * sp) * (d * co) ≡ (a * cp + 0 * cm) * (e * so) + (b * sm + b' * sp) * (d * co)
    two a d b b' e cp cm co sp sm so = omega arith

turn_ahead : (a d b b' e : ℕ) (s c : Frac) → Positive (total (product (record { plus = b; minus = b'; over = e }) c) (product (record { plus = a; minus = 0; over = d }) s))
    → Positive (total (product (record { plus = b; minus = b'; over = e }) c) (product (record { plus = 0; minus = a; over = d }) (negated s)))
turn_ahead a d b b' e s c h = go c.plus c.minus c.over s.plus s.minus s.over h
  where
    go : (cp cm co sp sm so : ℕ) → (b * cm + b' * cp) * (d * so) + (a * sm + 0 * sp) * (e * co) < (b * cp + b' * cm) * (d * so) + (a * sp + 0 * sm) * (e * co)
        → (b * cm + b' * cp) * (d * so) + (0 * sp + a * sm) * (e * co) < (b * cp + b' * cm) * (d * so) + (0 * sm + a * sp) * (e * co)
    go cp cm co sp sm so h = omega arith

-- y is below zero: the same angle below zero, with the sign outside of its sine
mirror_plain : (m : ℕ) (e : ℤ) (x : Float) (l : ℕ) (h : ℤ) → Toward (fin false m e) x (fin false l h)
    → Small (difference (product (worth (fin true m e)) (wave false 1 (l * up h) (down h))) (product (worth x) (negated (wave false 0 (l * up h) (down h))))) (larger (fin true m e) x) (down e * bot x)
    × Positive (total (product (worth x) (wave false 1 (l * up h) (down h))) (product (worth (fin true m e)) (negated (wave false 0 (l * up h) (down h)))))
mirror_plain m e nan l h w = (turn (m * up e) (down e) 0 0 0 (wave false 0 (l * up h) (down h)) (wave false 1 (l * up h) (down h)) _ _ w.small, turn_ahead (m * up e) (down e) 0 0 0 (wave false 0 (l * up h) (down h)) (wave false 1 (l * up h) (down h)) w.ahead)
mirror_plain m e (inf s) l h w = (turn (m * up e) (down e) 0 0 0 (wave false 0 (l * up h) (down h)) (wave false 1 (l * up h) (down h)) _ _ w.small, turn_ahead (m * up e) (down e) 0 0 0 (wave false 0 (l * up h) (down h)) (wave false 1 (l * up h) (down h)) w.ahead)
mirror_plain m e (fin true n f) l h w = (turn (m * up e) (down e) 0 (n * up f) (down f) (wave false 0 (l * up h) (down h)) (wave false 1 (l * up h) (down h)) _ _ w.small, turn_ahead (m * up e) (down e) 0 (n * up f) (down f) (wave false 0 (l * up h) (down h)) (wave false 1 (l * up h) (down h)) w.ahead)
mirror_plain m e (fin false n f) l h w = (turn (m * up e) (down e) (n * up f) 0 (down f) (wave false 0 (l * up h) (down h)) (wave false 1 (l * up h) (down h)) _ _ w.small, turn_ahead (m * up e) (down e) (n * up f) 0 (down f) (wave false 0 (l * up h) (down h)) (wave false 1 (l * up h) (down h)) w.ahead)

mirror : (m : ℕ) (e : ℤ) (x : Float) (l : ℕ) (h : ℤ) → Toward (fin false m e) x (fin false l h) → Toward (fin true m e) x (fin true l h)
mirror m e x l h w =
    let p = mirror_plain m e x l h w in
    let o = sym (wave_odd (l * up h) (down h)) in
    let v = sym (wave_even (l * up h) (down h)) in
    record {
      small = subst (λ (c : Frac). Small (difference (product (worth (fin true m e)) c) (product (worth x) (wave true 0 (l * up h) (down h)))) (larger (fin true m e) x) (down e * bot x)) v
          (subst (λ (s : Frac). Small (difference (product (worth (fin true m e)) (wave false 1 (l * up h) (down h))) (product (worth x) s)) (larger (fin true m e) x) (down e * bot x)) o p.0);
      ahead = subst (λ (c : Frac). Positive (total (product (worth x) c) (product (worth (fin true m e)) (wave true 0 (l * up h) (down h))))) v
          (subst (λ (s : Frac). Positive (total (product (worth x) (wave false 1 (l * up h) (down h))) (product (worth (fin true m e)) s))) o p.1);
    }

-- ---- the range
or_left : (a b : Bool) → T a → T (a || b)
or_left true b t = tt
or_left false b t = absurd t

or_right : (a b : Bool) → T b → T (a || b)
or_right true b t = tt
or_right false b t = t

some : (a b : ℕ) → 0 < a → 0 < a + b
some a b h = omega arith

some' : (a b : ℕ) → 0 < b → 0 < a + b
some' a b h = omega arith

pi_times : (d : ℕ) → 0 < d → 0 < 884279719003555 * 1 * d
pi_times d h = mul-pos (lit< tt) h

above_minus : (l : ℕ) (h : ℤ) → T (le (neg pi) (fin false l h))
unfolding le neg
above_minus l h = or_left (ltb 0 (884279719003555 * 1 * down h + l * up h * 2 ^ 48)) (eqb (884279719003555 * 1 * down h) (l * up h * 2 ^ 48) && (false || eqb (884279719003555 * 1 * down h) 0)) (lt→ltb 0 (884279719003555 * 1 * down h + l * up h * 2 ^ 48) (some (884279719003555 * 1 * down h) (l * up h * 2 ^ 48) (pi_times (down h) (down_pos h))))

below_pi : (l : ℕ) (h : ℤ) → T (le (fin true l h) pi)
unfolding le
below_pi l h = or_left (ltb 0 (l * up h * 2 ^ 48 + 884279719003555 * 1 * down h)) (eqb (l * up h * 2 ^ 48) (884279719003555 * 1 * down h) && (false || eqb (l * up h * 2 ^ 48) 0)) (lt→ltb 0 (l * up h * 2 ^ 48 + 884279719003555 * 1 * down h) (some' (l * up h * 2 ^ 48) (884279719003555 * 1 * down h) (pi_times (down h) (down_pos h))))

above_mirror : (l : ℕ) (h : ℤ) → T (le (fin false l h) pi) → T (le (neg pi) (fin true l h))
unfolding le neg
above_mirror l h t = go (le_or_lt (884279719003555 * 1 * down h) (l * up h * 2 ^ 48))
  where
    same : (a b : ℕ) → a ≡ b → T (eqb a b && (true || eqb a 0))
    same a b e = subst (λ (z : ℕ). T (eqb a z && (true || eqb a 0))) e (both (eqb a a) (eqb_refl a))
      where
        both : (x : Bool) → T x → T (x && true)
        both true t = tt
        both false t = t

    go : (884279719003555 * 1 * down h ≤ l * up h * 2 ^ 48) ⊎ (l * up h * 2 ^ 48 < 884279719003555 * 1 * down h) → T (ltb (l * up h * 2 ^ 48) (884279719003555 * 1 * down h) || (eqb (884279719003555 * 1 * down h) (l * up h * 2 ^ 48) && (true || eqb (884279719003555 * 1 * down h) 0)))
    go (inl k) = or_right (ltb (l * up h * 2 ^ 48) (884279719003555 * 1 * down h)) (eqb (884279719003555 * 1 * down h) (l * up h * 2 ^ 48) && (true || eqb (884279719003555 * 1 * down h) 0)) (same (884279719003555 * 1 * down h) (l * up h * 2 ^ 48) (le_antisymm k (le_cross l h 884279719003555 (negsuc 47) t)))
    go (inr k) = or_left (ltb (l * up h * 2 ^ 48) (884279719003555 * 1 * down h)) (eqb (884279719003555 * 1 * down h) (l * up h * 2 ^ 48) && (true || eqb (884279719003555 * 1 * down h) 0)) (lt→ltb (l * up h * 2 ^ 48) (884279719003555 * 1 * down h) k)

-- ---- the contract
up_top : (m : ℕ) (e : ℤ) → 0 < m → m * up e ≡ 0 → ⊥
up_top m e h z = go (m * up e) (mul-pos h (up_pos e)) z
  where
    go : (a : ℕ) → 0 < a → a ≡ 0 → ⊥
    go a h e = omega arith

pub direction_up : (y x r : Float) → Up y → Upward y x r → Direction y x r
direction_up nan x r Y w = absurd Y
direction_up (inf s) x r Y w = absurd Y
direction_up (fin true m e) x r Y w = absurd Y
direction_up (fin false m e) x nan Y w = absurd w.plain
direction_up (fin false m e) x (inf s) Y w = absurd w.plain
direction_up (fin false m e) x (fin true l h) Y w = absurd w.plain
direction_up (fin false m e) x (fin false l h) Y w =
    record { least = above_minus l h; greatest = w.greatest; sign = refl; toward = λ k. w.toward; zeros = λ z. absurd (up_top m e Y z) }

pub direction_down : (y x r : Float) → Up (neg y) → Upward (neg y) x r → Direction y x (neg r)
unfolding neg
direction_down nan x r Y w = absurd Y
direction_down (inf s) x r Y w = absurd Y
direction_down (fin false m e) x r Y w = absurd Y
direction_down (fin true m e) x nan Y w = absurd w.plain
direction_down (fin true m e) x (inf s) Y w = absurd w.plain
direction_down (fin true m e) x (fin true l h) Y w = absurd w.plain
direction_down (fin true m e) x (fin false l h) Y w =
    record { least = unfold neg in above_mirror l h w.greatest; greatest = below_pi l h; sign = refl; toward = λ k. mirror m e x l h w.toward; zeros = λ z. absurd (up_top m e Y z) }

-- y is a zero, and x is not negative: the angle is y
first_top : (a b m n : ℕ) → m ≡ 0 → 0 < m * a + n * b → 0 < n
first_top a b m zero e h = absurd (go (ap (λ (z : ℕ). z * a) e) h)
  where
    go : m * a ≡ 0 * a → 0 < m * a + 0 * b → ⊥
    go e h = omega arith
first_top a b m (suc n) e h = omega arith

units_pos : (s : Bool) (n : ℕ) (f : ℤ) → 0 < n → T (fits binary64 (fin s n f)) → (v : ℕ) × (n * up f * U ≡ v * down f) × (0 < v)
units_pos s n f h t =
    let u = units_of s n f t in
    (u.0, u.1.1, go u.0 (subst (λ (z : ℕ). 0 < z) u.1.1 (mul-pos (mul-pos h (up_pos f)) U_pos)))
  where
    go : (v : ℕ) → 0 < v * down f → 0 < v
    go zero h = omega arith
    go (suc v) h = omega arith

still : (m : ℕ) (e : ℤ) → m ≡ 0 → Lands 0 false 0 (fin false m e)
still m e z = lands_flat (fin false m e) 0 (refl, zero_units m (up e) (2 ^ 53) (down e) z) (lit≤ tt)

zero_least : (s : Bool) (m : ℕ) (e : ℤ) → m ≡ 0 → T (le (neg pi) (fin s m e)) × T (le (fin s m e) pi)
zero_least true m e z = (above_mirror m e (still m e z).greatest, below_pi m e)
zero_least false m e z = (above_minus m e, (still m e z).greatest)

pub direction_still : (y x : Float) → Zero y → T (fits binary64 y) → T (fits binary64 x) → finite x ≡ true → negative x ≡ false → Direction y x y
direction_still nan x z g k F N = absurd z
direction_still (inf s) x z g k F N = absurd z
direction_still (fin s m e) nan z g k F N = absurd (true≢false (sym F))
direction_still (fin s m e) (inf t) z g k F N = absurd (true≢false (sym F))
direction_still (fin s m e) (fin true n f) z g k F N = absurd (true≢false N)
direction_still (fin s m e) (fin false n f) z g k F N = record {
  least = (zero_least s m e z).0;
  greatest = (zero_least s m e z).1;
  sign = refl;
  toward = λ h. go s (base (first_top (up e) (up f) m n z h));
  zeros = λ h. sym (zero_of s m e z g) ∙ plain s;
}
  where
    plain : (s : Bool) → fin s 0 (pos 0) ≡ signed s nought
    plain true = unfold neg in refl
    plain false = refl

    base : 0 < n → Toward (fin false m e) (fin false n f) (fin false m e)
    base h =
        let u = units_pos false n f h k in
        toward_flat m e n f 0 u.0 0 (zero_units m (up e) U (down e) z) u.1 (fin false m e) u.2 (zero_within u.0) (zero_aimed 0 false (fin false m e) (still m e z))

    go : (s : Bool) → Toward (fin false m e) (fin false n f) (fin false m e) → Toward (fin s m e) (fin false n f) (fin s m e)
    go true w = mirror m e (fin false n f) m e w
    go false w = w

-- y is a zero, and x is negative, -0 too: the angle is pi with the sign of y
pub direction_back : (y x : Float) → Zero y → T (fits binary64 x) → finite x ≡ true → negative x ≡ true → Direction y x (signed (negative y) pi)
direction_back nan x z k F N = absurd z
direction_back (inf s) x z k F N = absurd z
direction_back (fin s m e) nan z k F N = absurd (true≢false (sym F))
direction_back (fin s m e) (inf t) z k F N = absurd (true≢false (sym F))
direction_back (fin s m e) (fin false n f) z k F N = absurd (true≢false (sym N))
direction_back (fin s m e) (fin true n f) z k F N = go s
  where
    base : 0 < m * up e + n * up f → Toward (fin false m e) (fin true n f) pi
    base h =
        let u = units_pos true n f (first_top (up e) (up f) m n z h) k in
        toward_back m e n f 0 u.0 0 (zero_units m (up e) U (down e) z) u.1 pi u.2 (zero_within u.0) (zero_aimed 2 true pi pi_lands)

    go : (s : Bool) → Direction (fin s m e) (fin true n f) (signed s pi)
    go true = record { least = unfold neg in above_mirror 884279719003555 (negsuc 47) pi_lands.greatest; greatest = unfold neg in below_pi 884279719003555 (negsuc 47); sign = unfold neg in refl; toward = λ h. unfold neg in mirror m e (fin true n f) 884279719003555 (negsuc 47) (base h); zeros = λ h. refl }
    go false = record { least = above_minus 884279719003555 (negsuc 47); greatest = pi_lands.greatest; sign = refl; toward = base; zeros = λ h. refl }

abbrev top_bits : Float
top_bits = of_bits binary64 9218868437227405312

pub finite_yes : (x : Float) → lt x top_bits ≡ true → lt (neg top_bits) x ≡ finite x
unfolding of_bits lt neg
finite_yes nan h = refl
finite_yes (inf true) h = refl
finite_yes (inf false) h = absurd (true≢false (sym h))
finite_yes (fin s m e) h = refl

pub finite_no : (x : Float) → lt x top_bits ≡ false → false ≡ finite x
unfolding of_bits lt
finite_no nan h = refl
finite_no (inf s) h = refl
finite_no (fin s m e) h = absurd (true≢false h)

pub no_nan : (x : Float) → finite x ≡ true → T (not (is_nan x))
unfolding is_nan
no_nan nan F = absurd (true≢false (sym F))
no_nan (inf s) F = absurd (true≢false (sym F))
no_nan (fin s m e) F = tt

pub sign_is : (x : Float) → is_sign_negative x ≡ negative x
unfolding is_sign_negative
sign_is nan = refl
sign_is (inf s) = refl
sign_is (fin s m e) = refl

-- pi with the sign of x
pub pi_signed : (x : Float) → float_with_sign (is_sign_negative x) pi_float ≡ cond (negative x) (neg pi_float) pi_float
unfolding is_sign_negative float_with_sign neg of_bits
pi_signed nan = refl
pi_signed (inf true) = refl
pi_signed (inf false) = refl
pi_signed (fin true m e) = refl
pi_signed (fin false m e) = refl

pub up_neg : (x : Float) → finite x ≡ true → lt x plus_zero ≡ true → Up (neg x)
unfolding neg lt of_bits
up_neg nan F h = absurd (true≢false (sym F))
up_neg (inf s) F h = absurd (true≢false (sym F))
up_neg (fin true m e) F h = go m (ltb→lt 0 (m * up e * 1 + 0 * 1 * down e) (is_true (ltb 0 (m * up e * 1 + 0 * 1 * down e)) h))
  where
    go : (m : ℕ) → 0 < m * up e * 1 + 0 * 1 * down e → 0 < m
    go zero h = absurd (no (up e) (down e) h)
      where
        no : (a d : ℕ) → 0 < 0 * a * 1 + 0 * 1 * d → ⊥
        no a d h = omega arith
    go (suc m) h = omega arith
up_neg (fin false m e) F h = absurd (true≢false (sym h ∙ lt_pos m e))

pub up_above : (x : Float) → finite x ≡ true → eq x plus_zero ≡ false → lt x plus_zero ≡ false → Up x
up_above nan F z h = absurd (true≢false (sym F))
up_above (inf s) F z h = absurd (true≢false (sym F))
up_above (fin true m e) F z h = absurd (true≢false (sym (lt_neg m e z) ∙ h))
up_above (fin false m e) F z h = elim (eq-zero-or-pos m) [ inl w ↦ absurd (true≢false (sym (zero_test (fin false m e) refl (zero_top m (up e) w)) ∙ z)) | inr w ↦ w ]

-- ---- for the code
pi_bits_is : pi ≡ pi_float
unfolding of_bits
pi_bits_is = refl

pub level_minus : (y x : Float) → Zero y → T (fits binary64 x) → finite x ≡ true → negative x ≡ true → negative y ≡ true → Direction y x (neg pi_float)
level_minus y x z k F N M = subst (λ (p : Float). Direction y x (neg p)) pi_bits_is (subst (λ (s : Bool). Direction y x (signed s pi)) M (direction_back y x z k F N))

pub level_plus : (y x : Float) → Zero y → T (fits binary64 x) → finite x ≡ true → negative x ≡ true → negative y ≡ false → Direction y x pi_float
level_plus y x z k F N M = subst (λ (p : Float). Direction y x p) pi_bits_is (subst (λ (s : Bool). Direction y x (signed s pi)) M (direction_back y x z k F N))

pub by_left : (y x r : Float) → Upward y (neg (neg x)) r → Upward y x r
by_left y x r w = subst (λ (z : Float). Upward y z r) (neg_neg x) w
