use Rattle.path.proofs.Setups.{setup_fits}
use Rattle.path.proofs.posing.pose_answer.Goals as goal

pub invariant_of-pose_answer_of : goal.invariant_of-pose_answer_of
invariant_of-pose_answer_of c = record { bounded = c.requires; fits = setup_fits c.args.s _ c.well_formed.0 }
