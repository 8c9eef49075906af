-- The tolerance test of two neighbours, and the rule of document 01's halving: two neighbours are divided if they fail
-- the test and their midpoint differs from each by more than 1e-12. There is one test, at a list of portions of the
-- way: the Rust's asks at the middle alone, and the strict one at both quarters too.
use Rattle.std.specs.Prelude.{Bool, true, false, not, cond, ◌&&◌, ◌||◌, List, [], ◌∷◌, Float, None, Option, Some}
use Rattle.std.specs.Float.Ieee as Ieee
use Rattle.std.specs.Float.{binary64}
use Rattle.std.specs.Float.Ieee.{of_bits}
use Rattle.float.specs.Helpers.{nought, size_of}
use Rattle.lists.specs.Search.{all}
use Rattle.geometry.specs.declared.Vec3.{Vec3}
use Rattle.geometry.specs.Vector.{gap_vec, lerp, lerp_vec, minus}
use Rattle.geometry.specs.Slerp.{slerp_axis, angle_between_deg}
use Rattle.chain.specs.declared.Joints.{Joints}
use Rattle.chain.specs.declared.Prepared.{Prepared}
use Rattle.chain.specs.declared.ToolPose.{ToolPose}
use Rattle.chain.specs.Forward.{forward_core, turns_of}
use Rattle.middle.specs.declared.Item.{Item}
use Rattle.middle.specs.declared.Tolerances.{Tolerances}

-- 1e-12, 0.5, 0.25 and 0.75
abbrev pub least : Float
least = of_bits binary64 0x3d71_9799_812d_ea11

abbrev pub half : Float
half = of_bits binary64 0x3fe0_0000_0000_0000

abbrev pub quarter : Float
quarter = of_bits binary64 0x3fd0_0000_0000_0000

abbrev pub three_quarters : Float
three_quarters = of_bits binary64 0x3fe8_0000_0000_0000

-- ---- joints that do not differ: the Rust's comparison, by the length of the positions' difference and each angle's
unfoldable pub as_near : Float → Float → Bool
as_near left right = Ieee.le (size_of (minus left right)) least

unfoldable pub joints_unchanged : Joints → Joints → Bool
joints_unchanged left right = Ieee.le (gap_vec left.xyz right.xyz) least && as_near left.a0 right.a0 && as_near left.a1 right.a1

-- ---- the joints at a portion t of the way: all five numbers from the left end on, by the Rust's lerp
unfoldable pub joints_between : Float → Joints → Joints → Joints
joints_between t left right = record {
  xyz = lerp_vec left.xyz right.xyz t;
  a0 = lerp left.a0 right.a0 t;
  a1 = lerp left.a1 right.a1 t;
}

abbrev pub lerp_joints : Joints → Joints → Joints
lerp_joints left right = joints_between half left right

-- the pose that joints reach at tool length 0
unfoldable pub pose_of : Prepared → Joints → ToolPose
pose_of p j = forward_core p (turns_of p j.a0 j.a1) j.xyz nought

-- ---- the midpoint: halfway in all five numbers, and the pose that they reach
unfoldable pub midpoint : Prepared → Item → Item → Item
midpoint p left right = record { pose = pose_of p (lerp_joints left.joints right.joints); joints = lerp_joints left.joints right.joints }

-- ---- both tolerances at a portion t of the way: the tip beside the same portion of the way between the two tips, and
-- the axis beside that between the two axes that the joints reach
unfoldable pub pose_within : Tolerances → Item → Item → Vec3 → Vec3 → Float → ToolPose → Bool
pose_within tol left right axis_left axis_right t pose =
    Ieee.le (gap_vec pose.tip (lerp_vec left.pose.tip right.pose.tip t)) tol.chord
    && Ieee.le (angle_between_deg pose.axis (slerp_axis axis_left axis_right t)) tol.axis

unfoldable pub within_at : Prepared → Tolerances → Item → Item → Vec3 → Vec3 → Float → Bool
within_at p tol left right axis_left axis_right t =
    pose_within tol left right axis_left axis_right t (pose_of p (joints_between t left.joints right.joints))

-- ---- the tolerance test: at the middle, and if it is strict at both quarters
abbrev pub portions : Bool → List Float
portions false = half ∷ []
portions true = half ∷ quarter ∷ three_quarters ∷ []

unfoldable pub portions_within : Prepared → Tolerances → Item → Item → Vec3 → Vec3 → Bool
portions_within p tol left right axis_left axis_right = all (within_at p tol left right axis_left axis_right) (portions tol.strict)

unfoldable pub segment_within : Prepared → Tolerances → Item → Item → Bool
segment_within p tol left right =
    cond (joints_unchanged left.joints right.joints) true
    (portions_within p tol left right (pose_of p left.joints).axis (pose_of p right.joints).axis)

-- the tolerances of a call, and those of another with the same numbers and the Rust's test or the strict one
abbrev pub tolerances : Bool → Float → Float → Tolerances
tolerances strict chord axis = record { chord = chord; axis = axis; strict = strict }

abbrev pub plain : Tolerances → Tolerances
plain tol = tolerances false tol.chord tol.axis

abbrev pub strictly : Tolerances → Tolerances
strictly tol = tolerances true tol.chord tol.axis

-- ---- what the Rust's test asks of the midpoint: its tip beside the middle of the two tips, and its axis beside the
-- middle of the two axes that the joints reach. It is the test at the portion `half` (`old`, proofs/StrictTest)
unfoldable pub tip_gap : Item → Item → Item → Float
tip_gap left right middle = gap_vec middle.pose.tip (lerp_vec left.pose.tip right.pose.tip half)

unfoldable pub axis_gap : Vec3 → Vec3 → Item → Float
axis_gap axis_left axis_right middle = angle_between_deg middle.pose.axis (slerp_axis axis_left axis_right half)

unfoldable pub middle_within : Tolerances → Item → Item → Vec3 → Vec3 → Item → Bool
middle_within tol left right axis_left axis_right middle =
    Ieee.le (tip_gap left right middle) tol.chord && Ieee.le (axis_gap axis_left axis_right middle) tol.axis

-- what the strict test asks besides
unfoldable pub quarters_within : Prepared → Tolerances → Item → Item → Vec3 → Vec3 → Bool
quarters_within p tol left right axis_left axis_right =
    within_at p tol left right axis_left axis_right quarter && within_at p tol left right axis_left axis_right three_quarters

-- ---- the rule
unfoldable pub near_an_end : Item → Item → Item → Bool
near_an_end left right middle = joints_unchanged middle.joints left.joints || joints_unchanged middle.joints right.joints

-- two neighbours are divided
unfoldable pub divides : Prepared → Tolerances → Item → Item → Bool
divides p tol left right = not (segment_within p tol left right) && not (near_an_end left right (midpoint p left right))

-- the same from the axes that the two joint sets reach
unfoldable pub verdict_with : Prepared → Tolerances → Item → Item → Vec3 → Vec3 → Option Item
verdict_with p tol left right axis_left axis_right =
    cond (joints_unchanged left.joints right.joints) None
    (cond (portions_within p tol left right axis_left axis_right) None
    (cond (near_an_end left right (midpoint p left right)) None
    (Some (midpoint p left right))))
