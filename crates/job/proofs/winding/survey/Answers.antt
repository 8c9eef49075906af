use Rattle.std.proofs.Common.{◌∙◌}
use Rattle.job.proofs.Surveying.{survey_chunks}
use Rattle.job.proofs.winding.survey.Goals as goal

pub returns : goal.returns
returns c = c.surveyed_by.ensures ∙ survey_chunks c.args.rest c.args.rotary c.args.joints.now
