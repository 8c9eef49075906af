use Rattle.std.proofs.Common.{◌/◌, length}
use Rattle.job.proofs.Lines.{Lining}
use Rattle.job.proofs.spelling.Page.put_lines.Given as goal

abbrev pub invariant-loop-i : goal.invariant-loop-i
invariant-loop-i l = Lining l.joints l.initial.self (length l.joints / 5) l.self l.i
