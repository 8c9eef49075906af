use mathlib.Core.Path.{ap, ◌∙◌}
use Rattle.turn.specs.Turning.{axis_at}
use lib.Dec.{lit≤}
use Rattle.quote.specs.QuotationSteps.{begun}
use Rattle.quote.proofs.Kept.{begun_axis}
use Rattle.quote.proofs.Poses.{kept_none}
use Rattle.quote.proofs.stepping.QuotedPath.begin.Goals as goal

pub evaluated-requires : goal.evaluated-requires
evaluated-requires c = ((lit≤ tt, kept_none c.args.self.now.p c.args.stack.now c.args.tips.now), (c.axis-left_axis.ensures ∙ begun_axis c.args.self.now.p c.args.self.now.given.poses.now c.args.self.now.given.joints.now c.item-left.ensures, c.axis-end_axis.ensures ∙ ap (axis_at c.args.self.now.p c.args.self.now.given.joints.now) c.next_given.ensures.same))

pub returns : goal.returns
unfolding begun
returns c = rw c.item-left.ensures at c.evaluated.ensures
