use mathlib.Core.Path.{◌≡◌}
use mathlib.Core.List.{map}
use lib.ListN.{take}
use Rattle.meet.specs.MeetingSteps.{placed}
use Rattle.meet.proofs.placing.placed_all.Given as goal

abbrev pub invariant-loop-ball : goal.invariant-loop-ball
invariant-loop-ball l = l.all.items ≡ map (placed l.frames) (take l.ball-index l.balls.items)
