use Rattle.extremes.proofs.Building.{built_start, built_room, built_step, built_end}
use Rattle.extremes.proofs.summing.sum_groups.Goals as goal

pub loop-g-init : goal.loop-g-init
loop-g-init c = built_start _ c.group_count-g-end.ensures c.requires

pub sum_group-requires : goal.sum_group-requires
sum_group-requires c = built_room _ c.loop-g-test.true c.loop-g.invariant

pub loop-g-preserved : goal.loop-g-preserved
loop-g-preserved c = built_step c.loop-g-test.true c.loop-g.invariant c.sum_group.ensures

pub returns : goal.returns
returns c = built_end c.loop-g-test.false c.loop-g.invariant
