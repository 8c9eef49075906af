use Rattle.model.proofs.Links.{left}
use Rattle.meet.proofs.Filling.{Filling}
use Rattle.meet.proofs.link_balls.balls_in.Given as goal

abbrev pub invariant-loop-link : goal.invariant-loop-link
invariant-loop-link l = Filling l.model.chain l.model.bytes.now l.balls.items (left l.link-iterator)
