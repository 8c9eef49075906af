-- The pose of joints is `forward`'s at tool length 0. `served_pose`: where `forward` serves joints, it gives that pose.
-- `pose_served`: it does serve them where its checks pass and the axis that they reach has a direction.
use mathlib.Core.Path.{◌≡◌, refl, ap}
use mathlib.Core.Bool.{Bool, true, false, false≢true}
use Rattle.std.specs.Prelude.{Err, None, Ok, Option, Result, Some}
use Rattle.refusal.specs.declared.Refusal.{Refusal}
use Rattle.float.specs.Helpers.{nought}
use Rattle.geometry.specs.declared.Vec3.{Vec3}
use Rattle.geometry.specs.Direction.{unit_or, along, unit_direction}
use Rattle.chain.specs.Checked.{Checked}
use Rattle.chain.specs.declared.Joints.{Joints}
use Rattle.chain.specs.declared.Kinematics.{Kinematics}
use Rattle.chain.specs.declared.ToolPose.{ToolPose}
use Rattle.chain.specs.Check.{served, has_direction}
use Rattle.chain.specs.Prepared.{prepared}
use Rattle.chain.specs.Forward.{forward, forward_check, forward_core, posed, reach, reach_axis, turns_of, unless_refused, with_axis}
use Rattle.middle.specs.Testing.{pose_of}

abbrev is_at : Result ToolPose Refusal → Bool
is_at (Ok p) = true
is_at (Err r) = false

abbrev pose_in : ToolPose → Result ToolPose Refusal → ToolPose
pose_in d (Ok p) = p
pose_in d (Err r) = d

by_parts : (c : Checked) (d : Option Vec3) (tip s : Vec3) (q : ToolPose) → unless_refused c (with_axis tip d) ≡ Ok q
    → record { tip = tip; axis = along d s (λ u. u) } ≡ q
by_parts (Ok _) (Some a) tip s q e = ap (pose_in q) e
by_parts (Ok _) None tip s q e = absurd (false≢true (ap is_at e))
by_parts (Err r) d tip s q e = absurd (false≢true (ap is_at e))

of_parts : (d : Option Vec3) (tip s : Vec3) → served d ≡ true → with_axis tip d ≡ Ok (record { tip = tip; axis = along d s (λ u. u) })
of_parts (Some a) tip s h = refl
of_parts None tip s h = absurd (false≢true h)

module _ (k : Kinematics) (j : Joints) where
  pub served_pose : (q : ToolPose) → forward k j nought ≡ Ok q → pose_of (prepared k) j ≡ q
  unfolding forward posed pose_of forward_core unit_or
  served_pose q e =
      let r = reach (prepared k) (turns_of (prepared k) j.a0 j.a1) j.xyz nought in
      by_parts (forward_check k j nought) (unit_direction r.axis) r.tip (prepared k).spindle q e

  pub pose_served : forward_check k j nought ≡ Ok tt → has_direction (reach_axis (prepared k) (turns_of (prepared k) j.a0 j.a1)) ≡ true
      → forward k j nought ≡ Ok (pose_of (prepared k) j)
  unfolding forward posed pose_of forward_core unit_or reach has_direction
  pose_served passed directed =
      let r = reach (prepared k) (turns_of (prepared k) j.a0 j.a1) j.xyz nought in
      rw passed (of_parts (unit_direction r.axis) r.tip (prepared k).spindle directed)
