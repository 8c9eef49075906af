use Rattle.cell.proofs.Looking.{looking_start, looking_found, looking_on, looking_end}
use Rattle.cell.proofs.asking.count_among.Goals as goal

pub loop-i-init : goal.loop-i-init
loop-i-init c = looking_start _ _ _

pub returns-then-words-i : goal.returns-then-words-i
returns-then-words-i c = looking_found _ _ _ c.loop-i-test.true c.loop-i.invariant c.if-words-i.true

pub loop-i-preserved : goal.loop-i-preserved
loop-i-preserved c = looking_on _ _ _ c.loop-i-test.true c.loop-i.invariant c.if-words-i.false

pub returns : goal.returns
returns c = looking_end _ _ _ c.loop-i-test.false c.loop-i.invariant
