use Rattle.quote.proofs.Kept.{moved_on, past_top}
use Rattle.quote.proofs.Poses.{kept_past}
use Rattle.quote.proofs.stepping.QuotedPath.move_on.Goals as goal

pub first_waiting-m-requires : goal.first_waiting-m-requires
first_waiting-m-requires c = let s = c.args.m.now.place in rw c.past.ensures (past_top c.args.self.now.p c.args.self.now.given.count c.args.self.now.given.poses.now c.args.self.now.given.joints.now c.args.stack.now s c.args.m.now.right c.args.tested c.requires.0.0.0.0, kept_past c.args.self.now.p s c.args.m.now.right c.args.tested c.args.stack.now c.args.tips.now c.requires.1.1.1)

pub returns : goal.returns
returns c = moved_on c.args.self.now.p c.args.self.now.given.count c.args.self.now.given.poses.now c.args.self.now.given.joints.now c.args.stack.now c.args.m.now c.args.tested c.requires.1.0 c.past.ensures c.end_after-m.ensures c.first_waiting-m.ensures c.waiting_axis-m.ensures
