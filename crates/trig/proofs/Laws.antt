-- The laws of the four functions for the crates above, in words of `sine_of`, `cosine_of`, `arctangent_of` and `arccosine_of` alone.
-- `T (fits binary64 x)` says that x is a double: it holds of every value that code has. Assumes nothing.
use Rattle.std.proofs.Common.{◌≡◌, Bool, true, false, cond, not, T, pos, sym, refl, ap, ◌∙◌, subst}
use lib.Ieee.{Float, nan, inf, fin, binary64, round, add, sub, mul, neg, of_bits, le, lt, eq, fits}
use lib.Ieee.Fits.{neg-fits}
use Rattle.std.specs.Prelude.{None, Option, Some}
use Rattle.float.proofs.Bounded.{clamp_fits}
use Rattle.root.specs.Root.{root}
use Rattle.trig.specs.Kernel.{plus_zero, one}
use lib.Ieee.Scale.{finite}
use Rattle.float.specs.Helpers.{negative, clamp_unit}
use Rattle.trig.specs.Direction.{pi, Direction}
use Rattle.trig.specs.Waves.{sine_float, cosine_float, served, sine_of, cosine_of, Sized, SineValue, CosineValue, SineAnswer, CosineAnswer}
use Rattle.trig.specs.Arctangent.{half_pi, pi_float, level_float, upper_float, angle_float, arctangent_of, ArctangentAnswer}
use Rattle.trig.specs.Arccosine.{sine_of_cosine, cosine_range, arccosine_of, ArccosineValue, ArccosineAnswer}
use Rattle.trig.proofs.Choices.{pick}
use Rattle.trig.proofs.WaveLaws as Waves
use Rattle.trig.proofs.ArctangentLaws as Arctangent
use Rattle.trig.proofs.ArccosineLaws as Arccosine

-- ---- what holds of each answer, for every argument
module _ (x : Float) (f : T (fits binary64 x)) where
  pub sine_answer : SineAnswer x (sine_of x)
  sine_answer = Waves.sine_answer x f

  pub cosine_answer : CosineAnswer x (cosine_of x)
  cosine_answer = Waves.cosine_answer x f

  pub arccosine_answer : ArccosineAnswer x (arccosine_of x)
  arccosine_answer = Arccosine.arccosine_answer x f

pub arctangent_answer : (y x : Float) → T (fits binary64 y) → T (fits binary64 x) → ArctangentAnswer y x (arctangent_of y x)
arctangent_answer y x f g = Arctangent.arctangent_answer y x f g

-- ---- the sine and the cosine are finite and at most 1 + 2 ^ -50 in size
module _ (x y : Float) (f : T (fits binary64 x)) where
  pub sine_value : sine_of x ≡ Some y → (served x ≡ true) × SineValue x y
  sine_value e = subst (SineAnswer x) e (sine_answer x f)

  pub cosine_value : cosine_of x ≡ Some y → (served x ≡ true) × CosineValue x y
  cosine_value e = subst (CosineAnswer x) e (cosine_answer x f)

  pub sine_finite : sine_of x ≡ Some y → finite y ≡ true
  sine_finite e = (sine_value e).1.is_finite

  pub cosine_finite : cosine_of x ≡ Some y → finite y ≡ true
  cosine_finite e = (cosine_value e).1.is_finite

  pub sine_size : sine_of x ≡ Some y → Sized y
  sine_size e = (sine_value e).1.size

  pub cosine_size : cosine_of x ≡ Some y → Sized y
  cosine_size e = (cosine_value e).1.size

-- what is served has an answer, and nothing else
pub sine_is : (x : Float) → served x ≡ true → sine_of x ≡ Some (sine_float x)
sine_is x h = sym (Waves.sine_served x h)

pub cosine_is : (x : Float) → served x ≡ true → cosine_of x ≡ Some (cosine_float x)
cosine_is x h = sym (Waves.cosine_served x h)

pub sine_served : (x : Float) → served x ≡ true → (y : Float) × (sine_of x ≡ Some y)
sine_served x h = (sine_float x, sine_is x h)

pub cosine_served : (x : Float) → served x ≡ true → (y : Float) × (cosine_of x ≡ Some y)
cosine_served x h = (cosine_float x, cosine_is x h)

pub sine_refused : (x : Float) → served x ≡ false → sine_of x ≡ None
sine_refused x h = sym (Waves.sine_refused x h)

pub cosine_refused : (x : Float) → served x ≡ false → cosine_of x ≡ None
cosine_refused x h = sym (Waves.cosine_refused x h)

-- ---- the sine is odd and the cosine even, in every bit and for every x
abbrev pub negated_answer : Option Float → Option Float
negated_answer (Some y) = Some (neg y)
negated_answer None = None

pub sine_odd : (x : Float) → sine_of (neg x) ≡ negated_answer (sine_of x)
unfolding sine_of
sine_odd x = ap (λ (b : Bool). cond b (Some (sine_float (neg x))) None) (Waves.served_even x) ∙ go (served x) (Waves.sine_float_odd x)
  where
    go : (b : Bool) → (b ≡ true → sine_float (neg x) ≡ neg (sine_float x)) → cond b (Some (sine_float (neg x))) None ≡ negated_answer (cond b (Some (sine_float x)) None)
    go true h = ap Some (h refl)
    go false h = refl

pub cosine_even : (x : Float) → cosine_of (neg x) ≡ cosine_of x
unfolding cosine_of
cosine_even x = ap (λ (b : Bool). cond b (Some (cosine_float (neg x))) None) (Waves.served_even x) ∙ go (served x) (Waves.cosine_float_even x)
  where
    go : (b : Bool) → (b ≡ true → cosine_float (neg x) ≡ cosine_float x) → cond b (Some (cosine_float (neg x))) None ≡ cond b (Some (cosine_float x)) None
    go true h = ap Some (h refl)
    go false h = refl

-- the sine of +0 and -0 is that zero, and the cosine is 1
pub sine_zero : (s : Bool) → sine_of (fin s 0 (pos 0)) ≡ Some (fin s 0 (pos 0))
unfolding sine_of served sine_float le neg eq of_bits
sine_zero true = refl
sine_zero false = refl

pub cosine_zero : (s : Bool) → cosine_of (fin s 0 (pos 0)) ≡ Some one
unfolding cosine_of served cosine_float le neg eq of_bits
cosine_zero true = refl
cosine_zero false = refl

-- ---- the arctangent: between -pi and pi, with the sign of y
module _ (y x r : Float) (f : T (fits binary64 y)) (g : T (fits binary64 x)) (e : arctangent_of y x ≡ Some r) where
  pub arctangent_direction : Direction y x r
  arctangent_direction = (subst (ArctangentAnswer y x) e (arctangent_answer y x f g)).1

  pub arctangent_least : T (le (neg pi) r)
  arctangent_least = arctangent_direction.least

  pub arctangent_greatest : T (le r pi)
  arctangent_greatest = arctangent_direction.greatest

  pub arctangent_sign : negative r ≡ negative y
  arctangent_sign = arctangent_direction.sign

  pub arctangent_finite : finite r ≡ true
  arctangent_finite = go r arctangent_least arctangent_greatest
    where
      go : (r : Float) → T (le (neg pi) r) → T (le r pi) → finite r ≡ true
      go nan a b = absurd (unfold le in b)
      go (inf true) a b = absurd (unfold le neg in a)
      go (inf false) a b = absurd (unfold le in b)
      go (fin s m d) a b = refl

pub arctangent_is : (y x : Float) → finite y ≡ true → finite x ≡ true → arctangent_of y x ≡ Some (angle_float y x)
arctangent_is y x F G = sym (Arctangent.arctangent_both y x (angle_float y x) F refl G refl refl)

pub arctangent_served : (y x : Float) → finite y ≡ true → finite x ≡ true → (r : Float) × (arctangent_of y x ≡ Some r)
arctangent_served y x F G = (angle_float y x, arctangent_is y x F G)

-- odd in y, in every bit
pub arctangent_odd : (y x : Float) → arctangent_of (neg y) x ≡ negated_answer (arctangent_of y x)
unfolding arctangent_of
arctangent_odd nan x = unfold neg in refl
arctangent_odd (inf s) x = unfold neg in refl
arctangent_odd (fin s m e) x = go (finite x) (unfold neg in Arctangent.angle_odd s m e x)
  where
    go : (b : Bool) → angle_float (neg (fin s m e)) x ≡ neg (angle_float (fin s m e) x)
        → cond (not (finite (neg (fin s m e)))) None (cond (not b) None (Some (angle_float (neg (fin s m e)) x))) ≡ negated_answer (cond (not b) None (Some (angle_float (fin s m e) x)))
    go true h = unfold neg in ap Some (unfold neg in h)
    go false h = unfold neg in refl

-- ---- the arccosine: from +0 to pi
module _ (c r : Float) (f : T (fits binary64 c)) (e : arccosine_of c ≡ Some r) where
  pub arccosine_value : (cosine_range c ≡ true) × ArccosineValue c r
  arccosine_value = subst (ArccosineAnswer c) e (arccosine_answer c f)

  pub arccosine_least : T (le plus_zero r)
  arccosine_least = arccosine_value.1.least

  pub arccosine_greatest : T (le r pi)
  arccosine_greatest = arccosine_value.1.greatest

pub arccosine_is : (c : Float) → T (fits binary64 c) → cosine_range c ≡ true → arccosine_of c ≡ Some (angle_float (sine_of_cosine c) c)
arccosine_is c f h = sym (Arccosine.arccosine_is c f h ∙ unfold arccosine_of in pick (cosine_range c) _ _ h)

pub arccosine_served : (c : Float) → T (fits binary64 c) → cosine_range c ≡ true → (r : Float) × (arccosine_of c ≡ Some r)
arccosine_served c f h = (angle_float (sine_of_cosine c) c, arccosine_is c f h)

-- of a clamped number and of its opposite it never refuses
pub clamped_arccosines : (x : Float) → T (fits binary64 x) → finite x ≡ true
    → ((r : Float) × (arccosine_of (clamp_unit x) ≡ Some r)) × ((r : Float) × (arccosine_of (neg (clamp_unit x)) ≡ Some r))
clamped_arccosines x f h =
    let r = Arccosine.clamped_range x f h in
    (arccosine_served (clamp_unit x) (clamp_fits x f) r.0, arccosine_served (neg (clamp_unit x)) (neg-fits binary64 (clamp_unit x) (clamp_fits x f)) r.1)

-- acos 1 = +0, acos (-1) is the double nearest to pi, and acos (+0) and acos (-0) are the double below pi / 2
pub arccosine_one : arccosine_of one ≡ Some plus_zero
unfolding arccosine_of cosine_range sine_of_cosine arctangent_of angle_float level_float root add sub mul neg round of_bits le eq
arccosine_one = refl

pub arccosine_minus_one : arccosine_of (neg one) ≡ Some pi_float
unfolding arccosine_of cosine_range sine_of_cosine arctangent_of angle_float level_float root add sub mul neg round of_bits le eq
arccosine_minus_one = refl

pub arccosine_zero : arccosine_of plus_zero ≡ Some half_pi
unfolding arccosine_of cosine_range sine_of_cosine arctangent_of angle_float upper_float root add sub mul neg round of_bits le lt eq
arccosine_zero = refl

pub arccosine_minus_zero : arccosine_of (neg plus_zero) ≡ Some half_pi
unfolding arccosine_of cosine_range sine_of_cosine arctangent_of angle_float upper_float root add sub mul neg round of_bits le lt eq
arccosine_minus_zero = refl

-- the double nearest to pi, in both spellings
pub pi_is : pi_float ≡ pi
unfolding of_bits
pi_is = refl
