use Rattle.std.proofs.Common.{◌≡◌, true, rules}
use Rattle.cell.specs.Asking.{words_good}
use Rattle.cell.proofs.Looking.{words_long}
use Rattle.cell.proofs.asking.next.Goals as goal

pub next_in-requires : goal.next_in-requires
next_in-requires c =
    let good : words_good c.args.words.now ≡ true = search rules in
    (words_long _ good).0
