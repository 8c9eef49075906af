use Rattle.std.proofs.Common.{◌≡◌, true, rules}
use Rattle.cell.specs.State.{state_long}
use Rattle.cell.proofs.States.{long_parts}
use Rattle.cell.proofs.admitting.state_check.Goals as goal

pub count_in-requires : goal.count_in-requires
count_in-requires c =
    let long : state_long c.args.words.now c.args.numbers.now ≡ true = search rules in
    (long_parts _ _ long).0
