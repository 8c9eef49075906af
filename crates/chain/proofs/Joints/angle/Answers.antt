use borrow.Author.Tests.{eq-eqb}
use Rattle.chain.specs.Angles.{angle_of}
use Rattle.chain.proofs.Joints.angle.Goals as goal

pub returns-then-rotary-eq0 : goal.returns-then-rotary-eq0
unfolding angle_of
returns-then-rotary-eq0 c = rw (eq-eqb _ _ c.if-rotary-eq0.true)
