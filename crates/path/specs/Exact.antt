-- Outside the cone: the solutions of the raw angles, at most two; the closest to the angles before, as long as it is
-- within the limits; else the other one, if that is within them and on the same branch.
-- The position is that of the raw angles, the answer's angles are unwound.
use Rattle.std.specs.Prelude.{Bool, true, false, not, cond, None, Ok, Option, Result, Some}
use Rattle.float.specs.Helpers.{nought}
use Rattle.float.specs.TotalOrder.{before}
use Rattle.refusal.specs.declared.Refusal.{Refusal}
use Rattle.refusal.specs.declared.Cause.{Cause}
use Rattle.geometry.specs.declared.Vec3.{Vec3}
use Rattle.geometry.specs.Direction.{all_finite}
use Rattle.chain.specs.declared.Joints.{Joints}
use Rattle.chain.specs.declared.Prepared.{Prepared}
use Rattle.inverse.specs.Orientation.{orientation_angles}
use Rattle.inverse.specs.Wraps.{same_angles}
use Rattle.inverse.specs.Solutions.{precedes}
use Rattle.inverse.specs.Inverse.{pose_at, misses, joints_at}
use Rattle.inverse.specs.declared.Angles.{Angles}
use Rattle.path.specs.Unwinding.{unwind_angles, rotary_distance, different_branch, inside, has_second}
use Rattle.path.specs.Locking.{refused, within_limits}
use Rattle.path.specs.declared.Bounds.{Bounds}
use Rattle.inverse.specs.declared.Ranked.{Ranked}
use Rattle.path.specs.declared.Setup.{Setup}

-- ---- the candidates
unfoldable pub reached_by : Prepared → Vec3 → Vec3 → Angles → Option Joints
reached_by p target tip angles =
    cond (misses (pose_at p angles nought).axis target) None (Some (joints_at p angles tip (pose_at p angles nought).tip))

abbrev pub candidate : Prepared → Vec3 → Vec3 → Option Angles → Option Joints
candidate p target tip (Some angles) = reached_by p target tip angles
candidate p target tip None = None

abbrev pub angles_of : Joints → Angles
angles_of j = record { a0 = j.a0; a1 = j.a1 }

abbrev pub repeats : Option Joints → Option Angles → Bool
repeats (Some j) (Some angles) = same_angles (angles_of j) angles
repeats (Some j) None = false
repeats None raw = false

unfoldable pub second_candidate : Prepared → Vec3 → Vec3 → Option Joints → Option Angles → Option Joints
second_candidate p target tip first raw = cond (repeats first raw) None (candidate p target tip raw)

abbrev pub position_finite : Option Joints → Bool
position_finite (Some j) = all_finite j.xyz
position_finite None = true

-- ---- the closest
unfoldable pub unwound : Bool → Angles → Joints → Joints
unwound two previous j = record {
  xyz = j.xyz;
  a0 = (unwind_angles two (angles_of j) previous).a0;
  a1 = (unwind_angles two (angles_of j) previous).a1;
}

unfoldable pub ranked : Bool → Angles → Joints → Ranked
ranked two previous j = record {
  joints = unwound two previous j;
  distance = rotary_distance two (angles_of (unwound two previous j)) previous;
}

unfoldable pub ranks_before : Ranked → Ranked → Bool
ranks_before r q =
    cond (before r.distance q.distance) true
    (cond (before q.distance r.distance) false
    (precedes r.joints q.joints))

-- ---- the limits: 23 where only another branch is inside, else 24 with the closest's first rotary outside
unfoldable pub closest_or_other : Bounds → Joints → Joints → Result Joints Refusal
closest_or_other b closest other =
    cond (inside b closest) (Ok closest)
    (cond (inside b other) (cond (different_branch (has_second b) other closest) (refused Cause.BranchFlips) (Ok other))
    (within_limits b closest))

-- of two that tie the first
unfoldable pub of_ranked : Bounds → Ranked → Ranked → Result Joints Refusal
of_ranked b first second =
    cond (ranks_before second first) (closest_or_other b second.joints first.joints) (closest_or_other b first.joints second.joints)

unfoldable pub alone : Bounds → Angles → Joints → Result Joints Refusal
alone b previous j = within_limits b (unwound (has_second b) previous j)

unfoldable pub both : Bounds → Angles → Joints → Joints → Result Joints Refusal
both b previous j k = of_ranked b (ranked (has_second b) previous j) (ranked (has_second b) previous k)

abbrev pub of_candidates : Bounds → Angles → Option Joints → Option Joints → Result Joints Refusal
of_candidates b previous (Some j) (Some k) = both b previous j k
of_candidates b previous (Some j) None = alone b previous j
of_candidates b previous None (Some k) = alone b previous k
of_candidates b previous None None = refused Cause.PoseUnreachable

unfoldable pub of_positions : Bounds → Angles → Option Joints → Option Joints → Result Joints Refusal
of_positions b previous first second =
    cond (not (position_finite first)) (refused Cause.NotFinite)
    (cond (not (position_finite second)) (refused Cause.NotFinite)
    (of_candidates b previous first second))

-- of both raw pairs
unfoldable pub of_raw : Setup → Vec3 → Vec3 → Angles → Option Angles → Option Angles → Result Joints Refusal
of_raw s target tip previous one two =
    of_positions s.bounds previous (candidate s.chain target tip one) (second_candidate s.chain target tip (candidate s.chain target tip one) two)

unfoldable pub exact_pose : Setup → Vec3 → Vec3 → Angles → Result Joints Refusal
exact_pose s target tip previous =
    of_raw s target tip previous (orientation_angles s.chain target previous).first (orientation_angles s.chain target previous).second
