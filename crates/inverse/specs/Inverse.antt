-- Inverse: the raw angles of the target axis, their whole turns within the limits, and for each pair that puts the
-- spindle within 1e-9 of the target the gauge position that puts the tip on its place.
use Rattle.std.specs.Prelude.{Bool, ◌&&◌, ◌||◌, cond, List, [], ◌∷◌, ltb, length, Float, Err, None, Ok, Option, Some, Result, is_some}
use Rattle.std.specs.List.{list_all}
use Rattle.std.specs.Float.Ieee as Ieee
use Rattle.std.specs.Float.Ieee.Scale.{finite}
use Rattle.arrayvec.specs.ArrayVec.{ArrayVec}
use Rattle.geometry.specs.declared.Vec3.{Vec3}
use Rattle.geometry.specs.Vector.{sub, norm}
use Rattle.geometry.specs.Direction.{all_finite, unit_direction}
use Rattle.refusal.specs.Numbers.{refusal}
use Rattle.refusal.specs.declared.Refusal.{Refusal}
use Rattle.refusal.specs.declared.Cause.{Cause}
use Rattle.chain.specs.Checked.{Checked}
use Rattle.chain.specs.declared.Joints.{Joints}
use Rattle.chain.specs.declared.Kinematics.{Kinematics}
use Rattle.chain.specs.declared.Prepared.{Prepared}
use Rattle.chain.specs.declared.ToolPose.{ToolPose}
use Rattle.chain.specs.declared.Turns.{Turns}
use Rattle.chain.specs.Check.{demand, first_refusal, chain_check, has_direction, within, all_within, chain_within, longest, most_turned}
use Rattle.chain.specs.Forward.{forward_core, turns_of, tables_forth, forth_from, position, length_good}
use Rattle.chain.specs.Prepared.{prepared}
use Rattle.inverse.specs.Subproblem.{shortest}
use Rattle.inverse.specs.Orientation.{orientation_angles}
use Rattle.inverse.specs.Wraps.{expand_wraps, second_travel}
use Rattle.inverse.specs.Solutions.{origin, insert, filled, sorted}
use Rattle.inverse.specs.declared.Angles.{Angles}
use Rattle.inverse.specs.UpToTwo.{RawPair}

-- ---- one pair of angles
-- the pose at position zero
unfoldable pub pose_at : Prepared → Angles → Float → ToolPose
pose_at p angles tool = forward_core p (turns_of p angles.a0 angles.a1) origin tool

unfoldable pub misses : Vec3 → Vec3 → Bool
misses axis target = Ieee.lt shortest (norm (sub axis target))

unfoldable pub joints_at : Prepared → Angles → Vec3 → Vec3 → Joints
joints_at p angles tip tip0 = record { xyz = position p (tables_forth p angles.a0 angles.a1) tip tip0; a0 = angles.a0; a1 = angles.a1 }

-- the same, from the turns of the rotaries at these angles
unfoldable pub pose_from : Prepared → Turns → Float → ToolPose
pose_from p turns tool = forward_core p turns origin tool

unfoldable pub joints_from : Prepared → Turns → Angles → Vec3 → Vec3 → Joints
joints_from p turns angles tip tip0 = record { xyz = position p (forth_from p turns) tip tip0; a0 = angles.a0; a1 = angles.a1 }

-- those of a pair that puts the spindle on the target
unfoldable pub reached_at : Prepared → Vec3 → Vec3 → Float → Angles → Option Joints
reached_at p target tip tool angles =
    cond (misses (pose_at p angles tool).axis target) None (Some (joints_at p angles tip (pose_at p angles tool).tip))

-- ---- the pairs that reach the target, in order
unfoldable pub reached : Prepared → Vec3 → Vec3 → Float → List Angles → List Joints
reached p target tip tool [] = []
reached p target tip tool (angles ∷ l) =
    cond (misses (pose_at p angles tool).axis target) (reached p target tip tool l)
    (joints_at p angles tip (pose_at p angles tool).tip ∷ reached p target tip tool l)

unfoldable pub solutions : Prepared → Vec3 → Vec3 → Float → List Angles → List Joints
solutions p target tip tool pairs = sorted (reached p target tip tool pairs)

-- the solutions with that of one pair more
unfoldable pub taken_in : Prepared → Vec3 → Vec3 → Float → List Joints → Angles → List Joints
taken_in p target tip tool l angles =
    cond (misses (pose_at p angles tool).axis target) l (insert l (joints_at p angles tip (pose_at p angles tool).tip))

-- ---- what may be wrong with them
unfoldable pub positions_finite : List Joints → Bool
positions_finite l = list_all (λ j. all_finite j.xyz) l

unfoldable pub some_raw : RawPair → Bool
some_raw raw = is_some raw.first || is_some raw.second

unfoldable pub solved_check : RawPair → List Angles → List Joints → Checked
solved_check raw pairs l =
    first_refusal
    (demand (some_raw raw) Cause.NotReachable 0
    ∷ demand (ltb 0 (length pairs)) Cause.OutsideLimits 0
    ∷ demand (positions_finite l) Cause.NotFinite 0
    ∷ demand (ltb 0 (length l)) Cause.NotReachable 0
    ∷ [])

-- ---- the answers
abbrev pub Answers : Type 0
Answers = Result (ArrayVec Joints) Refusal

abbrev pub answered : Checked → ArrayVec Joints → Answers
answered (Ok _) s = Ok s
answered (Err r) s = Err r

-- of the answers: that none is refused, and the joint sets, none where one is
abbrev pub checked_in : Answers → Checked
checked_in (Ok s) = Ok tt
checked_in (Err r) = Err r

abbrev pub solutions_in : Answers → List Joints
solutions_in (Ok s) = s.items
solutions_in (Err r) = []

unfoldable pub raw_angles : Kinematics → Vec3 → Angles → RawPair
raw_angles k target hint = orientation_angles (prepared k) target hint

unfoldable pub wrapped : Kinematics → Vec3 → Angles → List Angles
wrapped k target hint = expand_wraps k.first.limits (second_travel k) (raw_angles k target hint)

abbrev pub outcome : RawPair → List Angles → List Joints → Answers
outcome raw pairs l = answered (solved_check raw pairs l) (filled l)

unfoldable pub solved : Kinematics → Vec3 → Vec3 → Float → Angles → Answers
solved k target tip tool hint =
    outcome (raw_angles k target hint) (wrapped k target hint) (solutions (prepared k) target tip tool (wrapped k target hint))

-- ---- the entry
unfoldable pub hint_finite : Angles → Bool
hint_finite hint = finite hint.a0 && finite hint.a1

unfoldable pub hint_within : Angles → Bool
hint_within hint = within hint.a0 most_turned && within hint.a1 most_turned

unfoldable pub inverse_sizes : Kinematics → Vec3 → Float → Angles → Bool
inverse_sizes k tip tool hint = within tool longest && all_within tip longest && hint_within hint && chain_within k

unfoldable pub inverse_check : Kinematics → ToolPose → Float → Angles → Checked
inverse_check k pose tool hint =
    first_refusal
    (demand (length_good tool) Cause.ToolLength 0
    ∷ demand (has_direction pose.axis) Cause.ToolAxisZero 0
    ∷ chain_check k
    ∷ demand (all_finite pose.tip) Cause.NotFinite 0
    ∷ demand (hint_finite hint) Cause.NotFinite 0
    ∷ demand (inverse_sizes k pose.tip tool hint) Cause.TooLarge 0
    ∷ [])

abbrev pub toward : Option Vec3 → Kinematics → Vec3 → Float → Angles → Answers
toward (Some target) k tip tool hint = solved k target tip tool hint
toward None k tip tool hint = Err (refusal Cause.ToolAxisZero 0)

abbrev pub unless_refused : Checked → Answers → Answers
unless_refused (Ok _) answers = answers
unless_refused (Err r) answers = Err r

unfoldable pub inverse : Kinematics → ToolPose → Float → Angles → Answers
inverse k pose tool hint = unless_refused (inverse_check k pose tool hint) (toward (unit_direction pose.axis) k pose.tip tool hint)
