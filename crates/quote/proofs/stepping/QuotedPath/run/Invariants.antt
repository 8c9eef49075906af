use lib.ListN.{length}
use Rattle.quote.proofs.Going.{Running, to_do}
use Rattle.quote.proofs.stepping.QuotedPath.run.Given as goal

abbrev pub invariant-loop-state : goal.invariant-loop-state
invariant-loop-state l = Running l.self.p l.self.tol l.self.given.count l.self.given.poses.now l.self.given.joints.now (length l.initial.stack) l.stack l.tips l.state

abbrev pub decreases-loop-state : goal.decreases-loop-state
decreases-loop-state l = to_do l.self.given.count l.state.place
