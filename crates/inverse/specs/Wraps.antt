-- Whole turns of the raw angles: each angle two turns back, one back, as it is, one on and two on, where its rotary may
-- go; each first angle with each second one; a pair that is the same as an earlier one left out.
use Rattle.std.specs.Prelude.{Bool, ◌&&◌, cond, List, [], ◌∷◌, ◌++◌, eqb, Float, None, Option, Some}
use Rattle.std.specs.List.{list_any}
use Rattle.std.specs.Float.Ieee as Ieee
use Rattle.std.specs.Float.{binary64}
use Rattle.std.specs.Float.Ieee.{of_bits}
use Rattle.lists.specs.Fold.{fold}
use Rattle.float.specs.Helpers.{nought, size_of}
use Rattle.geometry.specs.Vector.{plus, minus}
use Rattle.chain.specs.declared.RotaryLimits.{RotaryLimits}
use Rattle.chain.specs.declared.Joints.{Joints}
use Rattle.chain.specs.declared.Kinematics.{Kinematics}
use Rattle.chain.specs.Check.{contains}
use Rattle.inverse.specs.Subproblem.{shortest}
use Rattle.inverse.specs.declared.Angles.{Angles}
use Rattle.inverse.specs.UpToTwo.{RawPair}

-- ---- one angle
abbrev pub half_turn : Float
half_turn = of_bits binary64 0x4066_8000_0000_0000

abbrev pub one_turn : Float
one_turn = of_bits binary64 0x4076_8000_0000_0000

abbrev pub two_turns : Float
two_turns = of_bits binary64 0x4086_8000_0000_0000

-- 360 times k, k from -2 to 2
abbrev pub whole_turns : List Float
whole_turns = Ieee.neg two_turns ∷ Ieee.neg one_turn ∷ nought ∷ one_turn ∷ two_turns ∷ []

unfoldable pub principal : Float → Bool
principal angle = Ieee.lt (Ieee.neg half_turn) angle && Ieee.le angle half_turn

abbrev pub allowed : Option RotaryLimits → Float → Bool
allowed (Some limits) angle = contains limits angle
allowed None angle = principal angle

unfoldable pub keep_allowed : Option RotaryLimits → List Float → Float → List Float
keep_allowed travel l angle = cond (allowed travel angle) (l ++ (angle ∷ [])) l

unfoldable pub angle_candidates : Float → Option RotaryLimits → List Float
angle_candidates angle travel = fold (λ l turn. keep_allowed travel l (plus angle turn)) [] whole_turns

-- ---- pairs
unfoldable pub same_angles : Angles → Angles → Bool
same_angles left right = Ieee.lt (size_of (minus left.a0 right.a0)) shortest && Ieee.lt (size_of (minus left.a1 right.a1)) shortest

unfoldable pub has : Angles → List Angles → Bool
has pair l = list_any (λ have. same_angles have pair) l

abbrev pub angles_of : Float → Float → Angles
angles_of a0 a1 = record { a0 = a0; a1 = a1 }

-- those of a joint set
abbrev pub angles_in : Joints → Angles
angles_in j = angles_of j.a0 j.a1

unfoldable pub add_pair : Float → List Angles → Float → List Angles
add_pair a0 l a1 = cond (has (angles_of a0 a1) l) l (l ++ (angles_of a0 a1 ∷ []))

unfoldable pub add_row : List Float → List Angles → Float → List Angles
add_row second l a0 = fold (add_pair a0) l second

unfoldable pub add_rows : List Float → List Float → List Angles → List Angles
add_rows first second l = fold (add_row second) l first

abbrev pub add_raw : Option RotaryLimits → Option RotaryLimits → Option Angles → List Angles → List Angles
add_raw first second (Some raw) l = add_rows (angle_candidates raw.a0 first) (angle_candidates raw.a1 second) l
add_raw first second None l = l

-- ---- the raw angles, in their order
unfoldable pub expand_wraps : Option RotaryLimits → Option RotaryLimits → RawPair → List Angles
expand_wraps first second raw = add_raw first second raw.second (add_raw first second raw.first [])

-- a second rotary that the chain has not is without limits
unfoldable pub second_travel : Kinematics → Option RotaryLimits
second_travel k = cond (eqb k.count 2) k.second.limits None
