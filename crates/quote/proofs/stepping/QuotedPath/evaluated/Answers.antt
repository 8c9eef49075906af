use Rattle.quote.proofs.Kept.{evaluated_so}
use Rattle.quote.proofs.stepping.QuotedPath.evaluated.Goals as goal

pub returns : goal.returns
returns c = evaluated_so c.args.self.now.p c.args.self.now.given.count c.args.self.now.given.poses.now c.args.self.now.given.joints.now c.args.stack.now c.args.s c.requires.1.0 c.requires.1.1 c.first_waiting-right.ensures c.waiting_axis-right_axis.ensures
