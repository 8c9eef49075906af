use Rattle.machine.proofs.Divides.{started, ended_within, ended}
use Rattle.machine.proofs.dividing.divide_after.Goals as goal

pub run-turn-requires : goal.run-turn-requires
run-turn-requires c = started _ _ _ _ c.requires.0 c.requires.1.0 c.requires.1.1 c.bring.ensures.same c.bring.ensures.first c.bring.ensures.rest c.begin-m.ensures

pub close-requires : goal.close-requires
close-requires c = ended_within _ _ _ _ c.requires.0 c.requires.1.0 c.requires.1.1 c.bring.ensures.same c.bring.ensures.first c.bring.ensures.rest
    c.begin-m.ensures c.run-turn.ensures.same c.run-turn.ensures.ran

pub returns : goal.returns
returns c =
    let all = ended _ _ _ _ c.requires.0 c.requires.1.0 c.requires.1.1 c.bring.ensures.same c.bring.ensures.first c.bring.ensures.rest
    c.begin-m.ensures c.run-turn.ensures.same c.run-turn.ensures.ran c.close.ensures.answer c.close.ensures.lent in
    record { answer = all.0; lent = all.1 }
