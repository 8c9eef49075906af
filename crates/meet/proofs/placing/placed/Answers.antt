use Rattle.meet.specs.MeetingSteps.{placed}
use Rattle.meet.proofs.placing.placed.Goals as goal

pub returns : goal.returns
unfolding placed
returns c = rw (c.map_point-middle.ensures, c.frame_for-frame.ensures)
