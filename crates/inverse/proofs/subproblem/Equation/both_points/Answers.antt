use Rattle.inverse.specs.Subproblem.{both_points}
use Rattle.inverse.proofs.subproblem.Equation.both_points.Goals as goal

pub returns-then-sine : goal.returns-then-sine
unfolding both_points
returns-then-sine c = rw (c.first_only.ensures, c.solved_pair-first.ensures, c.on_circle-above.ensures, c.sine_of-sine.ensures, simp (c.solved_pair-first.ensures, c.on_circle-above.ensures, c.sine_of-sine.ensures) at c.if-sine.true)

pub returns : goal.returns
unfolding both_points
returns c = rw (c.solved_pair-second.ensures, c.on_circle-below.ensures, c.solved_pair-first.ensures, c.on_circle-above.ensures, c.sine_of-sine.ensures, simp (c.solved_pair-first.ensures, c.on_circle-above.ensures, c.sine_of-sine.ensures) at c.if-sine.false)
