use Rattle.inverse.specs.AxisMap.{hint_x, hint_y}
use Rattle.inverse.proofs.AxisMap.hints.Goals as goal

pub returns-then-self : goal.returns-then-self
unfolding hint_x hint_y
returns-then-self c = rw c.if-self.true

pub returns : goal.returns
unfolding hint_x hint_y
returns c = rw c.if-self.false
