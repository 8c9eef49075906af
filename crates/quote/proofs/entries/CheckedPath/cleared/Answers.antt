use mathlib.Core.Path.{◌∙◌}
use Rattle.quote.proofs.Checks.{cleared_so}
use Rattle.quote.proofs.entries.CheckedPath.cleared.Goals as goal

pub returns : goal.returns
returns c = record { answer = c.within-answer.ensures; joints = c.fill.ensures.after (λ y e. e) ∙ cleared_so c.args.scratch_joints.now c.within-answer.new.stack c.within-answer.auto.stack; tips = c.fill-2.ensures.after (λ y e. e) ∙ cleared_so c.args.scratch_tips.now c.within-answer.new.tips c.within-answer.auto.tips }
