use Rattle.path.proofs.Walking.{Walking}
use Rattle.path.proofs.solving.solve_poses.Given as goal

abbrev pub invariant-loop-i : goal.invariant-loop-i
invariant-loop-i l = Walking l.s.setup l.initial.previous l.poses l.n l.initial.out l.out l.previous l.i
