use Rattle.std.proofs.Common.{◌≡◌, true, rules, arith}
use Rattle.cell.specs.Asking.{words_good}
use Rattle.cell.proofs.Looking.{words_long}
use Rattle.cell.proofs.asking.count.Goals as goal

pub count_in-n-requires : goal.count_in-n-requires
count_in-n-requires c =
    let good : words_good c.args.words.now ≡ true = search rules in
    (words_long _ good).0

pub count_among-requires : goal.count_among-requires
count_among-requires c =
    let good : words_good c.args.words.now ≡ true = search rules in
    let p = words_long _ good in
    omega (arith, p)
