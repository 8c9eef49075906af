use Rattle.lists.proofs.Tests.{is}
use Rattle.cell.proofs.States.{long_parts}
use Rattle.cell.proofs.state.state_good.Goals as goal

pub count_in-requires : goal.count_in-requires
count_in-requires c = (long_parts _ _ (is c.state_long.ensures c.if-state_long.true)).0
