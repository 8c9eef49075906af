-- What `arccosine` answers is right, for every c: the root is finite and not below +0, so the angle is from +0 to pi. Assumes nothing.
use Rattle.std.proofs.Common.{◌≡◌, ℕ, zero, suc, ◌+◌, ◌-◌, ◌*◌, ◌^◌, ◌<◌, ◌≤◌, true, false, T, ℤ, pos, sym, refl, ap, ◌∙◌, subst, true≢false, mul-le-mul, mul-pos, arith, lit<, lit≤}
use lib.Ieee.{Float, nan, inf, fin, binary64, up, down, add, sub, mul, neg, of_bits, le, is_nan, fits}
use lib.Ieee.Fits.{down_pos, mul-fits}
use lib.Ieee.Order.{le_of_values}
use Rattle.std.specs.Prelude.{None, Option, Some}
use Rattle.float.specs.Units.{U, Is}
use Rattle.float.proofs.Rounding.{W, U-is, U_pos, W-pos, Rounded, add_rounded, sub_rounded, mul_rounded}
use Rattle.float.proofs.Units.{held}
use Rattle.float.proofs.Order.{neg_le}
use Rattle.root.specs.Root.{root}
use Rattle.root.proofs.RootCases.{above_of}
use Rattle.root.proofs.RootOrder.{root_rooted}
use Rattle.root.proofs.RootSizes.{root_fits}
use Rattle.trig.specs.Kernel.{plus_zero, one}
use lib.Ieee.Scale.{finite}
use Rattle.float.specs.Helpers.{negative, clamp_unit}
use Rattle.trig.specs.Direction.{pi}
use Rattle.trig.specs.Arctangent.{angle_float, arctangent_of}
use Rattle.trig.specs.Arccosine.{sine_of_cosine, cosine_range, arccosine_of, ArccosineValue, ArccosineAnswer}
use Rattle.trig.proofs.Choices.{is_true, pick, drop, chosen, both_true}
use Rattle.float.proofs.UpTo.{UpTo, one_is, up_to_neg, up_to_le}
use Rattle.float.proofs.Bounded.{clamp_small}
use Rattle.trig.proofs.GridAngle.{le_units}
use Rattle.trig.proofs.ArctangentLaws.{angle_right, arctangent_both}

-- ---- 1 - x and 1 + x, for x from 0 to 1
module _ (x : Float) (v : ℕ) (x-is : Is x false v) (most : v ≤ U) where
  less : Rounded (sub binary64 one x) false (U - v) 1 (16 * W)
  less = sub_rounded one x U v 4 (lit≤ tt) one_is x-is most (go U W U-is W-pos)
    where
      go : (u w : ℕ) → u ≡ 2 ^ 57 * w → 0 < w → u - v < 2 ^ 58 * w
      go u w e p = omega arith

  more : Rounded (add binary64 one x) false (U + v) 1 (32 * W)
  more = add_rounded one x false U v 5 (lit≤ tt) one_is x-is (go U W U-is W-pos most)
    where
      go : (u w : ℕ) → u ≡ 2 ^ 57 * w → 0 < w → v ≤ u → u + v < 2 ^ 59 * w
      go u w e p l = omega arith

  less_size : less.v ≤ 2 * U
  less_size = go less.v U W U-is less.near.0
    where
      go : (a u w : ℕ) → u ≡ 2 ^ 57 * w → a * 1 ≤ u - v + 16 * w * 1 → a ≤ 2 * u
      go a u w e h = omega arith

  more_size : more.v ≤ 3 * U
  more_size = go more.v U W U-is most more.near.0
    where
      go : (a u w : ℕ) → u ≡ 2 ^ 57 * w → v ≤ u → a * 1 ≤ u + v + 32 * w * 1 → a ≤ 3 * u
      go a u w e l h = omega arith

  -- either order of the two
  first : Rounded (mul binary64 (sub binary64 one x) (add binary64 one x)) false (less.v * more.v) U (64 * W)
  first = mul_rounded (sub binary64 one x) (add binary64 one x) false false less.v more.v 6 (lit≤ tt) less.is more.is (go (less.v * more.v) U W U-is U_pos (mul-le-mul less_size more_size))
    where
      go : (a u w : ℕ) → u ≡ 2 ^ 57 * w → 0 < u → a ≤ 2 * u * (3 * u) → a < 2 ^ 60 * w * u
      go a u w e p h =
          let b : u * u ≡ 2 ^ 57 * w * u = ap (λ (z : ℕ). z * u) e in
          let c : 0 < u * u = mul-pos p p in
          omega arith

  second : Rounded (mul binary64 (add binary64 one x) (sub binary64 one x)) false (more.v * less.v) U (64 * W)
  second = mul_rounded (add binary64 one x) (sub binary64 one x) false false more.v less.v 6 (lit≤ tt) more.is less.is (go (more.v * less.v) U W U-is U_pos (mul-le-mul more_size less_size))
    where
      go : (a u w : ℕ) → u ≡ 2 ^ 57 * w → 0 < u → a ≤ 3 * u * (2 * u) → a < 2 ^ 60 * w * u
      go a u w e p h =
          let b : u * u ≡ 2 ^ 57 * w * u = ap (λ (z : ℕ). z * u) e in
          let c : 0 < u * u = mul-pos p p in
          omega arith

-- ---- a root is finite, and its sign bit is not set
abbrev Sound : Float → Type 0
Sound y = (finite y ≡ true) × (negative y ≡ false)

sound_of : (y : Float) (v : ℕ) → Is y false v → Sound y
sound_of nan v h = absurd h
sound_of (inf s) v h = absurd h
sound_of (fin s m e) v h = (refl, h.0)

sound_root : (x : Float) (v : ℕ) → T (fits binary64 x) → Is x false v → Sound (root x)
sound_root nan v f h = absurd h
sound_root (inf s) v f h = absurd h
sound_root (fin true m e) v f h = absurd (true≢false h.0)
sound_root (fin false zero e) v f h = unfold root in (refl, refl)
sound_root (fin false (suc m) e) v f h = let r = root_rooted (fin false (suc m) e) f (above_of m e f) in sound_of (root (fin false (suc m) e)) _ r.y_is

module _ (c : Float) (f : T (fits binary64 c)) (h : cosine_range c ≡ true) where
  upper : le c one ≡ true
  upper = (both_true (le c one) (le (neg one) c) (unfold cosine_range in h)).0

  lower : le (neg one) c ≡ true
  lower = (both_true (le c one) (le (neg one) c) (unfold cosine_range in h)).1

size_above : (m : ℕ) (e : ℤ) (f : T (fits binary64 (fin false m e))) → le (fin false m e) one ≡ true → (held (fin false m e) f tt).v ≤ U
size_above m e f h = let k = held (fin false m e) f tt in le_units (fin false m e) one k.v U (refl, k.is.1) one_is (is_true _ h)

pub sine_sound : (c : Float) → T (fits binary64 c) → cosine_range c ≡ true → Sound (sine_of_cosine c)
unfolding sine_of_cosine
sine_sound nan f h = absurd (true≢false (sym (unfold le in upper nan f h)))
sine_sound (inf true) f h = absurd (true≢false (sym (unfold le neg of_bits in lower (inf true) f h)))
sine_sound (inf false) f h = absurd (true≢false (sym (unfold le of_bits in upper (inf false) f h)))
sine_sound (fin false m e) f h =
    let k = held (fin false m e) f tt in
    let p = first (fin false m e) k.v (refl, k.is.1) (size_above m e f (upper (fin false m e) f h)) in
    sound_root (mul binary64 (sub binary64 one (fin false m e)) (add binary64 one (fin false m e))) p.v (mul-fits binary64 _ _) p.is
sine_sound (fin true m e) f h = subst (λ (y : Float). Sound (root y)) same (sound_root (mul binary64 (add binary64 one (fin false m e)) (sub binary64 one (fin false m e))) p.v (mul-fits binary64 _ _) p.is)
  where
    same : mul binary64 (add binary64 one (fin false m e)) (sub binary64 one (fin false m e)) ≡ mul binary64 (sub binary64 one (fin true m e)) (add binary64 one (fin true m e))
    same = unfold sub neg in refl

    below : le (fin false m e) one ≡ true
    below = sym (neg_le (fin false m e) one) ∙ (unfold neg in lower (fin true m e) f h)

    g : T (fits binary64 (fin false m e))
    g = unfold fits in f

    p : Rounded (mul binary64 (add binary64 one (fin false m e)) (sub binary64 one (fin false m e))) false ((more (fin false m e) (held (fin false m e) g tt).v (refl, (held (fin false m e) g tt).is.1) (size_above m e g below)).v * (less (fin false m e) (held (fin false m e) g tt).v (refl, (held (fin false m e) g tt).is.1) (size_above m e g below)).v) U (64 * W)
    p = second (fin false m e) (held (fin false m e) g tt).v (refl, (held (fin false m e) g tt).is.1) (size_above m e g below)

range_finite : (c : Float) → cosine_range c ≡ true → finite c ≡ true
unfolding cosine_range le of_bits neg
range_finite nan h = absurd (true≢false (sym h))
range_finite (inf true) h = absurd (true≢false (sym h))
range_finite (inf false) h = absurd (true≢false (sym h))
range_finite (fin s m e) h = refl

-- ---- an angle between -pi and pi whose sign bit is not set is from +0
from_zero : (r : Float) → T (le (neg pi) r) → T (le r pi) → negative r ≡ false → T (le plus_zero r)
unfolding of_bits
from_zero nan a b n = absurd (unfold le in b)
from_zero (inf true) a b n = absurd (true≢false n)
from_zero (inf false) a b n = absurd (unfold le in b)
from_zero (fin true m e) a b n = absurd (true≢false n)
from_zero (fin false m e) a b n = le_of_values (fin false 0 (pos 0)) (fin false m e) 0 1 (m * up e) (down e) (lit< tt) (down_pos e) (refl, refl) (refl, refl) (go (m * up e) (down e))
  where
    go : (a d : ℕ) → 0 * d ≤ a * 1
    go a d = omega arith

module _ (c : Float) (f : T (fits binary64 c)) (h : cosine_range c ≡ true) where
  pub sine_fits : T (fits binary64 (sine_of_cosine c))
  unfolding sine_of_cosine
  sine_fits = root_fits (mul binary64 (sub binary64 one c) (add binary64 one c)) (mul-fits binary64 _ _)

  pub arccosine_value : ArccosineValue c (angle_float (sine_of_cosine c) c)
  arccosine_value =
      let s = sine_sound c f h in
      let d = angle_right (sine_of_cosine c) c s.0 (range_finite c h) sine_fits f in
      record { least = from_zero (angle_float (sine_of_cosine c) c) d.least d.greatest (d.sign ∙ s.1); greatest = d.greatest; positive = d.sign ∙ s.1; direction = d }

  pub arccosine_is : Some (angle_float (sine_of_cosine c) c) ≡ arctangent_of (sine_of_cosine c) c
  arccosine_is = arctangent_both (sine_of_cosine c) c (angle_float (sine_of_cosine c) c) (sine_sound c f h).0 refl (range_finite c h) refl refl

pub arccosine_answer : (c : Float) → T (fits binary64 c) → ArccosineAnswer c (arccosine_of c)
unfolding arccosine_of
arccosine_answer c f = chosen (ArccosineAnswer c) (cosine_range c) _ _ (λ h. subst (ArccosineAnswer c) (arccosine_is c f h) (h, arccosine_value c f h)) (λ h. h)

-- ---- for the code
pub arccosine_served : (c y : Float) (a : Option Float) → cosine_range c ≡ true → y ≡ root (mul binary64 (sub binary64 one c) (add binary64 one c)) → a ≡ arctangent_of y c → a ≡ arccosine_of c
unfolding arccosine_of sine_of_cosine
arccosine_served c y a h e g = g ∙ ap (λ (z : Float). arctangent_of z c) e ∙ pick (cosine_range c) _ _ h

pub arccosine_refused : (c : Float) → cosine_range c ≡ false → None ≡ arccosine_of c
unfolding arccosine_of
arccosine_refused c h = drop (cosine_range c) _ _ h

-- ---- a clamped number is a cosine, and so is its opposite
range_of : (c : Float) → UpTo 1 c → cosine_range c ≡ true
unfolding cosine_range
range_of c C = let p = up_to_le 1 one whole_one c C in rw (p.1, p.0)
  where
    once : (u : ℕ) → u ≡ 1 * u
    once u = omega arith

    whole_one : Is one false (1 * U)
    whole_one = subst (λ (z : ℕ). Is one false z) (once U) one_is

pub clamped_range : (x : Float) → T (fits binary64 x) → finite x ≡ true → (cosine_range (clamp_unit x) ≡ true) × (cosine_range (neg (clamp_unit x)) ≡ true)
clamped_range x f h = let C = clamp_small x f (number x h) in (range_of (clamp_unit x) C, range_of (neg (clamp_unit x)) (up_to_neg 1 (clamp_unit x) C))
  where
    number : (x : Float) → finite x ≡ true → is_nan x ≡ false
    number nan h = absurd (true≢false (sym h))
    number (inf s) h = unfold is_nan in refl
    number (fin s m e) h = unfold is_nan in refl
