-- An argument is refused exactly where it is out of range, so that a slice form tests each without an evaluation.
use mathlib.Core.Path.{◌≡◌, ap}
use mathlib.Core.Bool.{not, ◌&&◌}
use lib.Dec.{T}
use lib.Ieee.{Float, binary64, fits}
use lib.Ieee.Scale.{finite}
use Rattle.std.specs.Prelude.{None, Option, Some}
use Rattle.trig.specs.Waves.{served, sine_of, cosine_of, SineAnswer, CosineAnswer}
use Rattle.trig.specs.Arctangent.{arctangent_of, ArctangentAnswer}
use Rattle.trig.specs.Arccosine.{cosine_range, arccosine_of, ArccosineAnswer}
use Rattle.trig.proofs.Laws.{sine_answer, cosine_answer, arctangent_answer, arccosine_answer}
use Rattle.maztubel.specs.Answers.{refuses}

by_sine : (x : Float) (a : Option Float) → SineAnswer x a → not (served x) ≡ refuses a
by_sine x (Some y) h = ap not h.0
by_sine x None h = ap not h

by_cosine : (x : Float) (a : Option Float) → CosineAnswer x a → not (served x) ≡ refuses a
by_cosine x (Some y) h = ap not h.0
by_cosine x None h = ap not h

by_arccosine : (c : Float) (a : Option Float) → ArccosineAnswer c a → not (cosine_range c) ≡ refuses a
by_arccosine c (Some r) h = ap not h.0
by_arccosine c None h = ap not h

by_arctangent : (y x : Float) (a : Option Float) → ArctangentAnswer y x a → not (finite y && finite x) ≡ refuses a
by_arctangent y x (Some r) h = ap not h.0
by_arctangent y x None h = ap not h

module _ (x : Float) (f : T (fits binary64 x)) where
  pub sine_ranges : not (served x) ≡ refuses (sine_of x)
  sine_ranges = by_sine x (sine_of x) (sine_answer x f)

  pub cosine_ranges : not (served x) ≡ refuses (cosine_of x)
  cosine_ranges = by_cosine x (cosine_of x) (cosine_answer x f)

  pub arccosine_ranges : not (cosine_range x) ≡ refuses (arccosine_of x)
  arccosine_ranges = by_arccosine x (arccosine_of x) (arccosine_answer x f)

pub arctangent_ranges : (y x : Float) → T (fits binary64 y) → T (fits binary64 x) → not (finite y && finite x) ≡ refuses (arctangent_of y x)
arctangent_ranges y x f g = by_arctangent y x (arctangent_of y x) (arctangent_answer y x f g)
