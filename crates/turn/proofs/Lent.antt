-- Two lent outputs after one call and another.
use mathlib.Core.Path.{◌≡◌, refl, ap, ◌∙◌}
use mathlib.Core.List.{List}
use lib.Ieee.{Float}
use lib.ListN.{length}
use Rattle.turn.specs.declared.outputs.Outputs.{Outputs}
use Rattle.turn.specs.Lent.{Same, Left}

pub left_alone : (o : Outputs) → Left o o.poses.now o.joints.now o
left_alone o = record { same_poses = refl; same_joints = refl; as_much = refl; in_poses = refl; in_joints = refl }

pub left_so : {a b : Outputs} {p q p' q' : List Float} → Left a p q b → p ≡ p' → q ≡ q' → Left a p' q' b
left_so l e f =
    record {
      same_poses = l.same_poses;
      same_joints = l.same_joints;
      as_much = l.as_much;
      in_poses = l.in_poses ∙ e;
      in_joints = l.in_joints ∙ f;
    }

pub same_alone : (o : Outputs) → Same o o
same_alone o = record { same_poses = refl; same_joints = refl; as_much = refl; long_poses = refl; long_joints = refl }

pub same_then : {a b c : Outputs} → Same a b → Same b c → Same a c
same_then l m =
    record {
      same_poses = m.same_poses ∙ l.same_poses;
      same_joints = m.same_joints ∙ l.same_joints;
      as_much = m.as_much ∙ l.as_much;
      long_poses = m.long_poses ∙ l.long_poses;
      long_joints = m.long_joints ∙ l.long_joints;
    }

pub left_same : {a b : Outputs} {p q : List Float} → Left a p q b → length p ≡ length a.poses.now → length q ≡ length a.joints.now → Same a b
left_same l e f =
    record {
      same_poses = l.same_poses;
      same_joints = l.same_joints;
      as_much = l.as_much;
      long_poses = ap length l.in_poses ∙ e;
      long_joints = ap length l.in_joints ∙ f;
    }

-- what is left behind a call that leaves them the same
pub same_left : {a b c : Outputs} {p q : List Float} → Same a b → Left b p q c → Left a p q c
same_left l m =
    record {
      same_poses = m.same_poses ∙ l.same_poses;
      same_joints = m.same_joints ∙ l.same_joints;
      as_much = m.as_much ∙ l.as_much;
      in_poses = m.in_poses;
      in_joints = m.in_joints;
    }
