-- A path for which the price list's statement speaks of something: the job `tiny` of examples/jobs, two poses on a
-- table C that is far from its pivot. By computing the definitions: its joints are solved, and dividing it inserts one
-- pose.
use mathlib.Core.Path.{◌≡◌, refl}
use mathlib.Core.Bool.{false}
use mathlib.Core.List.{List, [], ◌∷◌}
use lib.Ieee as Ieee
use lib.Ieee.{Float, binary64, of_bits}
use Rattle.std.specs.Prelude.{None}
use Rattle.lists.specs.Rows.{rows, flat, paired}
use Rattle.lists.specs.Search.{all}
use Rattle.float.specs.Helpers.{nought, one, size_of, round_half_away, clamp_unit, to_degrees}
use Rattle.root.specs.Root.{root}
use Rattle.trig.specs.Waves.{sine_float, served, sine_of}
use Rattle.trig.specs.Arctangent.{level_float, angle_float, arctangent_of}
use Rattle.trig.specs.Arccosine.{sine_of_cosine, arccosine_of}
use Rattle.trig.specs.Degrees.{turnable}
use Rattle.trig.specs.DegreeSteps.{sine_degrees, cosine_degrees, degree_pair}
use Rattle.geometry.specs.declared.Vec3.{Vec3}
use Rattle.geometry.specs.Vector.{vector, add, sub, scale, dot, cross, norm, gap_vec, lerp_vec}
use Rattle.geometry.specs.Direction.{all_finite, tiny, with_length, unit_direction, unit_or}
use Rattle.geometry.specs.Turn.{turn_of, rotate_vector, rotate_point}
use Rattle.geometry.specs.Slerp.{slerp_cosine, slerp_axis, angle_between_deg}
use Rattle.chain.specs.declared.Carrier.TheVariants.{Table}
use Rattle.chain.specs.declared.Joints.{Joints}
use Rattle.chain.specs.declared.Kinematics.{Kinematics}
use Rattle.chain.specs.Check.{travel_good, has_direction, known_letter, rotary_check, one_or_two, second_check, chain_check, within, all_within, rotary_within, chain_within, joints_within}
use Rattle.chain.specs.ChainBytes.{no_rotary}
use Rattle.chain.specs.Forward.{turns_of, tables_forth, head_point, head_vector, table_point, table_vector, reach_axis, reach, forward_core, position}
use Rattle.chain.specs.Prepared.{unit_axis, spin_of, second_spin, prepared}
use Rattle.inverse.specs.Subproblem.{square_part, turned_by, between_parts, sp1}
use Rattle.inverse.specs.Orientation.{one_joint_angles, orientation_angles}
use Rattle.inverse.specs.Inverse.{pose_at, misses, joints_at}
use Rattle.path.specs.Unwinding.{by_turns, unwind_angle, unwind_angles, first_inside, second_inside, inside}
use Rattle.path.specs.Singular.{singular_frame}
use Rattle.path.specs.Locking.{within_limits}
use Rattle.path.specs.Exact.{reached_by, second_candidate, unwound, alone, of_positions, of_raw, exact_pose}
use Rattle.path.specs.Posing.{bounds_of, set_up, turned_within, solve_one, solved_tip, solved_pose, pose_answer}
use Rattle.path.specs.Solving.{Along, joint_numbers, poses_in, solve_poses, whole_records, cone_good, parallel, path_chain, path_sizes, solve_check, solve_checked, solve_path}
use Rattle.halving.specs.Halving as Halving
use Rattle.halving.specs.Halving.{Done, halve}
use Rattle.middle.specs.declared.Item.{Item}
use Rattle.middle.specs.declared.Tolerances.{Tolerances}
use Rattle.middle.specs.Testing.{as_near, joints_unchanged, joints_between, pose_of, midpoint, pose_within, within_at, portions_within, segment_within, near_an_end, divides, tolerances}
use Rattle.turn.specs.Items.{items_in, space_in}
use Rattle.machine.specs.Dividing.{division}
use Rattle.divide.specs.Checking as Checking
use Rattle.divide.specs.Checking.{tolerance_good, tip_within, joint_sets_in, division_sizes, four_whole, checks_in_order, division_check}
use Rattle.divide.specs.Subdividing.{Halved, division_within, subdivide_path}

-- ---- the job
abbrev zero : Vec3
zero = vector nought nought nought

abbrev along_z : Vec3
along_z = vector nought nought one

-- 100,000 mm three times
abbrev far : Vec3
far = vector (of_bits binary64 0x40f8_6a00_0000_0000) (of_bits binary64 0x40f8_6a00_0000_0000) (of_bits binary64 0x40f8_6a00_0000_0000)

-- the letter C is the byte 67
abbrev pub chain : Kinematics
chain = record { count = 1; first = record { letter = 67; carrier = Table; limits = None; axis = along_z; pivot = far; rest = nought }; second = no_rotary; spindle_axis = along_z }

-- 1.8e-12 mm
abbrev apart : Float
apart = of_bits binary64 0x3d7f_aa7a_b552_a552

-- six numbers each: the tip, then the axis
abbrev pub poses : List Float
poses = nought ∷ nought ∷ nought ∷ nought ∷ nought ∷ one ∷ apart ∷ apart ∷ apart ∷ nought ∷ nought ∷ one ∷ []

abbrev at : Float → Joints
at x = record { xyz = vector x x x; a0 = nought; a1 = nought }

-- ---- it is solved, from angles zero with a cone of 1 degree: the table stays where it is
pub solved : solve_path chain poses None one 10 ≡ Along (at nought ∷ at apart ∷ [])
unfolding solve_path solve_checked solve_check whole_records cone_good path_chain parallel path_sizes poses_in rows solve_poses pose_answer solved_pose solved_tip solve_one set_up bounds_of turned_within singular_frame chain_check second_check rotary_check one_or_two known_letter travel_good has_direction within all_within rotary_within chain_within no_rotary prepared second_spin spin_of unit_axis unit_or unit_direction all_finite tiny with_length exact_pose of_raw of_positions second_candidate reached_by alone unwound within_limits inside first_inside second_inside unwind_angles unwind_angle by_turns round_half_away orientation_angles one_joint_angles sp1 between_parts turned_by square_part misses pose_at joints_at position forward_core reach reach_axis table_point table_vector head_point head_vector turns_of tables_forth turn_of rotate_vector rotate_point degree_pair turnable sine_degrees cosine_degrees norm dot cross scale add sub root size_of Ieee.add Ieee.sub Ieee.mul Ieee.div Ieee.neg Ieee.lt Ieee.le Ieee.eq Ieee.sum Ieee.round of_bits
solved = refl

-- ---- and divided, with a chord tolerance of 1e-13 mm, an axis tolerance of 1 degree and just the space: the midpoint
-- of the two is inserted, and its own midpoints are too near to be
abbrev tol : Tolerances
tol = tolerances false (of_bits binary64 0x3d3c_25c2_6849_7682) one

-- 0.9e-12 mm
abbrev middle : Float
middle = of_bits binary64 0x3d6f_aa7a_b552_a552

abbrev posed : Vec3 → Joints → Item
posed tip joints = record { pose = record { tip = tip; axis = along_z }; joints = joints }

abbrev result : List Item
result = posed zero (at nought) ∷ posed zero (at middle) ∷ posed (vector apart apart apart) (at apart) ∷ []

pub divided : subdivide_path chain tol poses (flat joint_numbers (at nought ∷ at apart ∷ [])) 18 15 ≡ Halved (Done 1 result)
unfolding subdivide_path division_check checks_in_order four_whole whole_records tolerance_good Checking.all_finite division_sizes tip_within joint_sets_in joints_within all flat path_chain parallel chain_check second_check rotary_check one_or_two known_letter travel_good has_direction within all_within rotary_within chain_within no_rotary poses_in rows items_in paired space_in division_within division halve Halving.step divides segment_within portions_within within_at pose_within near_an_end joints_unchanged as_near midpoint joints_between lerp_vec pose_of gap_vec slerp_axis slerp_cosine angle_between_deg clamp_unit arccosine_of sine_of_cosine arctangent_of angle_float level_float sine_of sine_float served prepared second_spin spin_of unit_axis unit_or unit_direction all_finite tiny with_length forward_core reach reach_axis table_point table_vector head_point head_vector turns_of turn_of rotate_vector rotate_point degree_pair turnable sine_degrees cosine_degrees norm dot cross scale add sub root size_of to_degrees Ieee.add Ieee.sub Ieee.mul Ieee.div Ieee.neg Ieee.lt Ieee.le Ieee.eq Ieee.sum Ieee.round of_bits
divided = refl
