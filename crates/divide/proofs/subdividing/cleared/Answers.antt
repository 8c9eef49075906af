use mathlib.Core.Path.{refl, ◌∙◌}
use Rattle.divide.proofs.Idle.{idle_poses, idle_joints}
use Rattle.divide.proofs.subdividing.cleared.Goals as goal

pub returns : goal.returns
returns c = record {
  answer = c.idle_answer.ensures;
  lent = record { same_poses = refl; same_joints = refl; as_much = refl; in_poses = c.fill.ensures.after (λ y e. e) ∙ idle_poses _ _ _; in_joints = c.fill-2.ensures.after (λ y e. e) ∙ idle_joints _ _ _ };
}
