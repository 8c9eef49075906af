use Rattle.turn.proofs.Turned.{turned_keep, turned_divide}
use Rattle.turn.proofs.Lent.{left_so}
use Rattle.turn.proofs.Machine.advance.Goals as goal

pub returns-in_default : goal.returns-in_default
returns-in_default c =
    let all = turned_keep _ _ _ _ _ _ c.item-left.ensures c.item-right.ensures c.right_axis-axis.ensures c.verdict_with-said.ensures c.in_default.is c.past-next.ensures in
    record { turn = all.0; lent = left_so c.put.ensures all.1.0 all.1.1 }

pub returns : goal.returns
returns c =
    let all = turned_divide _ _ _ _ _ _ c.item-left.ensures c.item-right.ensures c.right_axis-axis.ensures c.verdict_with-said.ensures c.in-Some.is c.insert.ensures.turn in
    record { turn = all.0; lent = left_so c.insert.ensures.lent all.1.0 all.1.1 }
