-- "On long arcs the chord can be right at the middle and wrong at both quarters": a table C that turns by 720 degrees
-- under a tip 1 mm beside its axis, by computing the definitions. The two given poses and the middle are the same, at
-- both quarters the tip is on the other side: the Rust's test passes this, and the strict one does not.
use mathlib.Core.Path.{◌≡◌, refl}
use mathlib.Core.Bool.{true, false}
use lib.Ieee as Ieee
use lib.Ieee.{Float, binary64, of_bits}
use Rattle.std.specs.Prelude.{None}
use Rattle.lists.specs.Search.{all}
use Rattle.float.specs.Helpers.{nought, one, size_of, clamp_unit, to_degrees, to_radians}
use Rattle.root.specs.Root.{root}
use Rattle.trig.specs.Kernel.{reciprocal, step, sum, sine_kernel, cosine_kernel}
use Rattle.trig.specs.Waves.{sine_of}
use Rattle.trig.specs.Arctangent.{level_float, angle_float, arctangent_of}
use Rattle.trig.specs.Arccosine.{sine_of_cosine, arccosine_of}
use Rattle.trig.specs.Degrees.{turnable}
use Rattle.trig.specs.DegreeSteps.{quarter_turns, radians_of, degree_k, degree_below, degree_rest, degree_float, sine_degrees, cosine_degrees, degree_pair}
use Rattle.geometry.specs.declared.Vec3.{Vec3}
use Rattle.geometry.specs.Vector.{vector, add, sub, scale, dot, cross, norm, gap_vec, lerp_vec}
use Rattle.geometry.specs.Direction.{all_finite, tiny, with_length, unit_direction, unit_or}
use Rattle.geometry.specs.Turn.{turn_of, rotate_vector, rotate_point}
use Rattle.geometry.specs.Slerp.{slerp_cosine, slerp_axis, angle_between_deg}
use Rattle.chain.specs.declared.Carrier.TheVariants.{Table}
use Rattle.chain.specs.declared.Kinematics.{Kinematics}
use Rattle.chain.specs.ChainBytes.{no_rotary}
use Rattle.chain.specs.Forward.{turns_of, head_point, head_vector, table_point, table_vector, reach_axis, reach, forward_core}
use Rattle.chain.specs.Prepared.{unit_axis, spin_of, second_spin, prepared}
use Rattle.middle.specs.declared.Item.{Item}
use Rattle.middle.specs.declared.Tolerances.{Tolerances}
use Rattle.middle.specs.Testing.{quarter, three_quarters, as_near, joints_unchanged, joints_between, pose_of, pose_within, within_at, portions_within, segment_within, tolerances, plain, strictly}

abbrev along_z : Vec3
along_z = vector nought nought one

-- the letter C is the byte 67
abbrev chain : Kinematics
chain = record {
  count = 1;
  first = record { letter = 67; carrier = Table; limits = None; axis = along_z; pivot = vector nought nought nought; rest = nought };
  second = no_rotary;
  spindle_axis = along_z;
}

abbrev turned : Float → Item
turned angle = record {
  pose = record { tip = vector one nought nought; axis = along_z };
  joints = record { xyz = vector one nought nought; a0 = angle; a1 = nought };
}

-- 0 and 720 degrees; 1 mm and 1 degree
abbrev left : Item
left = turned nought

abbrev right : Item
right = turned (of_bits binary64 0x4086_8000_0000_0000)

abbrev tol : Tolerances
tol = tolerances false one one

pub right_in_the_middle : segment_within (prepared chain) (plain tol) left right ≡ true
unfolding segment_within portions_within within_at pose_within all joints_unchanged as_near joints_between lerp_vec pose_of gap_vec slerp_axis slerp_cosine angle_between_deg clamp_unit arccosine_of sine_of_cosine arctangent_of angle_float level_float sine_of prepared second_spin spin_of unit_axis unit_or unit_direction all_finite tiny with_length forward_core reach reach_axis table_point table_vector head_point head_vector turns_of turn_of rotate_vector rotate_point degree_pair turnable sine_degrees cosine_degrees degree_float degree_k degree_below degree_rest quarter_turns radians_of to_radians sine_kernel cosine_kernel sum step reciprocal norm dot cross scale add sub root size_of to_degrees Ieee.add Ieee.sub Ieee.mul Ieee.div Ieee.neg Ieee.lt Ieee.le Ieee.eq Ieee.sum Ieee.round Ieee.of_int Ieee.to_unsigned of_bits
right_in_the_middle = refl

pub wrong_at_both_quarters : (within_at (prepared chain) tol left right (pose_of (prepared chain) left.joints).axis (pose_of (prepared chain) right.joints).axis quarter ≡ false)
    × (within_at (prepared chain) tol left right (pose_of (prepared chain) left.joints).axis (pose_of (prepared chain) right.joints).axis three_quarters ≡ false)
unfolding within_at pose_within joints_between lerp_vec pose_of gap_vec slerp_axis slerp_cosine angle_between_deg clamp_unit arccosine_of sine_of_cosine arctangent_of angle_float level_float sine_of prepared second_spin spin_of unit_axis unit_or unit_direction all_finite tiny with_length forward_core reach reach_axis table_point table_vector head_point head_vector turns_of turn_of rotate_vector rotate_point degree_pair turnable sine_degrees cosine_degrees degree_float degree_k degree_below degree_rest quarter_turns radians_of to_radians sine_kernel cosine_kernel sum step reciprocal norm dot cross scale add sub root size_of to_degrees Ieee.add Ieee.sub Ieee.mul Ieee.div Ieee.neg Ieee.lt Ieee.le Ieee.eq Ieee.sum Ieee.round Ieee.of_int Ieee.to_unsigned of_bits
wrong_at_both_quarters = (refl, refl)

pub strict_fails : segment_within (prepared chain) (strictly tol) left right ≡ false
unfolding segment_within portions_within within_at pose_within all joints_unchanged as_near joints_between lerp_vec pose_of gap_vec slerp_axis slerp_cosine angle_between_deg clamp_unit arccosine_of sine_of_cosine arctangent_of angle_float level_float sine_of prepared second_spin spin_of unit_axis unit_or unit_direction all_finite tiny with_length forward_core reach reach_axis table_point table_vector head_point head_vector turns_of turn_of rotate_vector rotate_point degree_pair turnable sine_degrees cosine_degrees degree_float degree_k degree_below degree_rest quarter_turns radians_of to_radians sine_kernel cosine_kernel sum step reciprocal norm dot cross scale add sub root size_of to_degrees Ieee.add Ieee.sub Ieee.mul Ieee.div Ieee.neg Ieee.lt Ieee.le Ieee.eq Ieee.sum Ieee.round Ieee.of_int Ieee.to_unsigned of_bits
strict_fails = refl
