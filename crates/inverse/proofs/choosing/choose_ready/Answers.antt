-- The check finds this alone. It stands here for must-fail/ready_without_hint.edit, which the fact then
-- refuses: without it a search gives up.
use Rattle.std.proofs.Common.{◌≡◌, ap, sym, ◌∙◌}
use Rattle.std.specs.Prelude.{Ok}
use Rattle.inverse.specs.Inverse.{answered, inverse}
use Rattle.inverse.specs.Choose.{choose, hint_of}
use Rattle.inverse.proofs.choosing.choose_ready.Goals as goal

pub returns : goal.returns
unfolding choose
returns c =
    let e : inverse c.args.ready.now.k.now c.args.pose c.args.tool_length (hint_of c.args.choice) ≡ Ok c.inverse_ready.new.solutions =
    sym (rw c.hint.ensures at c.inverse_ready.ensures.value) ∙ ap (λ a. answered a c.inverse_ready.new.solutions) c.in_ok-inverse_ready.was in
    rw (e, c.pick.ensures, c.deref.ensures.0)
