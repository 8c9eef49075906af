use Rattle.std.proofs.Common.{sym, rules}
use Rattle.text.proofs.Laws.{padded_hex}
use Rattle.text.proofs.HexadecimalDisplay.fmt.Goals as goal

pub returns-clause-writes : goal.returns-clause-writes
returns-clause-writes g c =
    let e = padded_hex c.args.self.now.0 (search rules) in
    rw (sym e) (rw (c.in_radix.ensures, c.laid_out.ensures) at c.write.ensures.writes)
