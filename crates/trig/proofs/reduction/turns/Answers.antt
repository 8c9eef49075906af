-- `trig::reduction::turns` meets its contract. Assumes nothing.
use Rattle.trig.specs.Reduction.{tie as TheTie}
use Rattle.trig.proofs.NearestTurn.{turns_up, turns_same, tie_fits, one_more_fits}
use Rattle.trig.proofs.reduction.turns.Goals as goal

pub overflow_add-tie : goal.overflow_add-tie
overflow_add-tie c = record { fits = tie_fits c.args.x c.requires }

pub overflow_add-result : goal.overflow_add-result
overflow_add-result c = record { fits = one_more_fits c.args.x c.requires }

pub returns-then-tie-x : goal.returns-then-tie-x
unfolding TheTie
returns-then-tie-x c = turns_up c.args.x c.if-tie-x.true

pub returns-else-tie-x : goal.returns-else-tie-x
unfolding TheTie
returns-else-tie-x c = turns_same c.args.x c.if-tie-x.false
