use mathlib.Core.Path.{◌≡◌, sym, ap, ◌∙◌}
use Rattle.std.proofs.Common.{Option, None, rules}
use Rattle.meet.specs.MeetingSteps.{pair_behind}
use Rattle.meet.specs.declared.LinkPair.{LinkPair}
use Rattle.meet.proofs.Seeking.{pair_there}
use Rattle.meet.proofs.pairs.pair_of.Goals as goal

pub returns-in_err-k : goal.returns-in_err-k
returns-in_err-k c =
    let e : ◌≡◌ {A = Option LinkPair} c.from_residual.result None = search rules in
    e ∙ sym (pair_there _ _ _ c.requires ∙ ap (pair_behind c.args.first) (sym c.first_near.ensures ∙ c.in_err-k.was))

pub returns : goal.returns
returns c = sym (pair_there _ _ _ c.requires ∙ ap (pair_behind c.args.first) (sym c.first_near.ensures ∙ c.in_ok-k.was))
