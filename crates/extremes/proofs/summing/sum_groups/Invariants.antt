use Rattle.extremes.specs.Summary.{sets_in}
use Rattle.extremes.proofs.Building.{Built}
use Rattle.extremes.proofs.summing.sum_groups.Given as goal

abbrev pub invariant-loop-g : goal.invariant-loop-g
invariant-loop-g l = Built (sets_in l.joints) l.g-end l.summary l.g
