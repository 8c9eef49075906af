use Rattle.turn.specs.Turning.{begun}
use Rattle.machine.proofs.dividing.begin.Goals as goal

pub returns : goal.returns
unfolding begun
returns c = rw (c.end_at_start-end_axis.ensures, c.axis_at-left_axis.ensures)
