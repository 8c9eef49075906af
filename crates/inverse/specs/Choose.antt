-- One of the solutions: the nearest to two angles, or the first whose first angle is at least -1e-9, or at most 1e-9;
-- else the first of all.
use Rattle.std.specs.Prelude.{Bool, true, cond, List, get_or, Float, Err, Ok, Result}
use Rattle.std.specs.List.{fold, find}
use Rattle.std.specs.Option.{unwrap_or}
use Rattle.std.specs.Float.Ieee as Ieee
use Rattle.refusal.specs.declared.Refusal.{Refusal}
use Rattle.float.specs.Helpers.{nought, size_of, maximum}
use Rattle.geometry.specs.Vector.{minus}
use Rattle.chain.specs.declared.Joints.{Joints}
use Rattle.chain.specs.declared.Kinematics.{Kinematics}
use Rattle.chain.specs.declared.ToolPose.{ToolPose}
use Rattle.inverse.specs.Subproblem.{shortest}
use Rattle.inverse.specs.Wraps.{angles_of}
use Rattle.inverse.specs.Solutions.{nowhere}
use Rattle.inverse.specs.Inverse.{Answers, inverse}
use Rattle.inverse.specs.declared.Angles.{Angles}
use Rattle.inverse.specs.declared.Ranked.{Ranked}
use Rattle.inverse.specs.declared.Choice.{Choice}
use Rattle.inverse.specs.declared.Choice.TheVariants.{Nearest, FirstPositive, FirstNegative}

-- the first of all; nowhere of none
abbrev pub first : List Joints → Joints
first l = get_or l 0 nowhere

-- ---- the nearest
unfoldable pub distance_to : Joints → Angles → Float
distance_to j preferred = maximum (size_of (minus j.a0 preferred.a0)) (size_of (minus j.a1 preferred.a1))

unfoldable pub best_of : Angles → Joints → Ranked
best_of preferred j = record { joints = j; distance = distance_to j preferred }

unfoldable pub nearer : Angles → Ranked → Joints → Ranked
nearer preferred best j = cond (Ieee.le best.distance (best_of preferred j).distance) best (best_of preferred j)

unfoldable pub nearest : List Joints → Angles → Joints
nearest l preferred = (fold (nearer preferred) (best_of preferred (first l)) l).joints

-- ---- the first that suits
abbrev pub suits : Choice → Joints → Bool
suits (Nearest a0 a1) j = true
suits FirstPositive j = Ieee.le (Ieee.neg shortest) j.a0
suits FirstNegative j = Ieee.le j.a0 shortest

unfoldable pub first_suiting : List Joints → Choice → Joints
first_suiting l choice = unwrap_or (find (suits choice) l) (first l)

-- ---- the choice
abbrev pub hint_of : Choice → Angles
hint_of (Nearest a0 a1) = angles_of a0 a1
hint_of FirstPositive = angles_of nought nought
hint_of FirstNegative = angles_of nought nought

abbrev pub picked : List Joints → Choice → Joints
picked l (Nearest a0 a1) = nearest l (angles_of a0 a1)
picked l FirstPositive = first_suiting l FirstPositive
picked l FirstNegative = first_suiting l FirstNegative

abbrev pub chosen : Answers → Choice → Result Joints Refusal
chosen (Ok s) choice = Ok (picked s.items choice)
chosen (Err r) choice = Err r

unfoldable pub choose : Kinematics → ToolPose → Float → Choice → Result Joints Refusal
choose k pose tool choice =
    chosen (inverse k pose tool (hint_of choice)) choice
