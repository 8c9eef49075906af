-- Paden-Kahan subproblems 1 and 2 (Murray, Li, Sastry 1994) as the Rust computes them, step by step.
use Rattle.std.specs.Prelude.{cond, Float, None, Option, Some}
use Rattle.std.specs.Float.Ieee as Ieee
use Rattle.std.specs.Float.{binary64}
use Rattle.std.specs.Float.Ieee.{of_bits}
use Rattle.float.specs.Helpers.{nought, one, size_of, clamp_unit, maximum, to_degrees}
use Rattle.root.specs.Root.{root}
use Rattle.trig.specs.Arctangent.{arctangent_of}
use Rattle.geometry.specs.declared.Vec3.{Vec3}
use Rattle.geometry.specs.Vector.{add, sub, scale, dot, cross, norm, plus, minus, times, over}
use Rattle.inverse.specs.declared.SolvedAngle.{SolvedAngle}
use Rattle.inverse.specs.declared.SolvedAngle.TheVariants.{Fixed, Free}
use Rattle.inverse.specs.UpToTwo.{SolvedPairs, first_only}

-- 1e-7 and 1e-9
abbrev pub gap_tolerance : Float
gap_tolerance = of_bits binary64 0x3e7a_d7f2_9abc_af48

abbrev pub shortest : Float
shortest = of_bits binary64 0x3e11_2e0b_e826_d695

unfoldable pub square_part : Vec3 → Vec3 → Float → Vec3
square_part v w along = sub v (scale w along)

-- ---- subproblem 1
abbrev pub fixed_at : Option Float → Option SolvedAngle
fixed_at (Some radians) = Some (Fixed (to_degrees radians))
fixed_at None = None

unfoldable pub turned_by : Vec3 → Vec3 → Vec3 → Option SolvedAngle
turned_by w u v = fixed_at (arctangent_of (dot w (cross u v)) (dot u v))

-- of the parts u, v square to w: refused where their lengths differ, free where they are short
unfoldable pub between_parts : Vec3 → Vec3 → Vec3 → Option SolvedAngle
between_parts w u v =
    cond (Ieee.lt gap_tolerance (size_of (minus (norm u) (norm v)))) None
    (cond (Ieee.lt (norm u) shortest) (Some Free) (turned_by w u v))

unfoldable pub sp1 : Vec3 → Vec3 → Vec3 → Option SolvedAngle
sp1 w u v =
    cond (Ieee.lt gap_tolerance (size_of (minus (dot w u) (dot w v)))) None
    (between_parts w (square_part u w (dot w u)) (square_part v w (dot w v)))

-- ---- subproblem 2
abbrev pub both_solved : Option SolvedAngle → Option SolvedAngle → Option (SolvedAngle × SolvedAngle)
both_solved (Some y) (Some x) = Some (x, y)
both_solved (Some y) None = None
both_solved None x = None

unfoldable pub solved_pair : Vec3 → Vec3 → Vec3 → Vec3 → Vec3 → Option (SolvedAngle × SolvedAngle)
solved_pair wa wb p q c = both_solved (sp1 wb p c) (sp1 wa c q)

unfoldable pub on_circle : Vec3 → Float → Float → Vec3 → Vec3 → Float → Float → Vec3
on_circle wa qa rho e1 e2 cosine sine = add (scale wa qa) (scale (add (scale e1 cosine) (scale e2 sine)) rho)

-- the root of (1 - c) (1 + c), not below zero
unfoldable pub sine_beside : Float → Float
sine_beside c = root (maximum (times (minus one c) (plus one c)) nought)

unfoldable pub both_points : Vec3 → Vec3 → Vec3 → Vec3 → Vec3 → Vec3 → Float → Float → Float → SolvedPairs
both_points wa wb p q e1 e2 cosine qa rho =
    cond (Ieee.le (sine_beside cosine) shortest)
    (first_only (solved_pair wa wb p q (on_circle wa qa rho e1 e2 cosine (times one (sine_beside cosine)))))
    (record {
      first = solved_pair wa wb p q (on_circle wa qa rho e1 e2 cosine (times one (sine_beside cosine)));
      second = solved_pair wa wb p q (on_circle wa qa rho e1 e2 cosine (times (Ieee.neg one) (sine_beside cosine)));
    })

-- e1 along the square part of wb, e2 square to it and to wa
unfoldable pub in_frame : Vec3 → Vec3 → Vec3 → Vec3 → Vec3 → Float → Float → Float → SolvedPairs
in_frame wa wb p q e1 cosine qa rho =
    cond (Ieee.le (norm (cross wa e1)) shortest) (first_only None)
    (both_points wa wb p q e1 (scale (cross wa e1) (over one (norm (cross wa e1)))) cosine qa rho)

unfoldable pub about_circle : Vec3 → Vec3 → Vec3 → Vec3 → Vec3 → Float → Float → Float → SolvedPairs
about_circle wa wb p q e1 cosine qa rho =
    cond (Ieee.lt (plus one gap_tolerance) (size_of cosine)) (first_only None) (in_frame wa wb p q e1 (clamp_unit cosine) qa rho)

unfoldable pub through_point : Vec3 → Vec3 → Vec3 → Vec3 → Vec3 → Float → Float → Float → Float → SolvedPairs
through_point wa wb p q wbPerp wbLen d qa rho =
    cond (Ieee.eq rho nought) (first_only (solved_pair wa wb p q (scale wa qa)))
    (about_circle wa wb p q (scale wbPerp (over one wbLen)) (over (minus (dot wb p) (times d qa)) (times rho wbLen)) qa rho)

unfoldable pub beside : Vec3 → Vec3 → Vec3 → Vec3 → Vec3 → Float → Float → Float → SolvedPairs
beside wa wb p q wbPerp wbLen d qa = through_point wa wb p q wbPerp wbLen d qa (norm (square_part q wa qa))

unfoldable pub sp2 : Vec3 → Vec3 → Vec3 → Vec3 → SolvedPairs
sp2 wa wb p q =
    cond (Ieee.le (norm (square_part wb wa (dot wa wb))) shortest) (first_only None)
    (beside wa wb p q (square_part wb wa (dot wa wb)) (norm (square_part wb wa (dot wa wb))) (dot wa wb) (dot wa q))

-- ---- a joint's angle
abbrev pub apply_angle : SolvedAngle → Float → Float → Float
apply_angle Free sign hint = hint
apply_angle (Fixed angle) sign hint = times sign angle
