-- `trig::tangent::guess` meets its contract. Assumes nothing.
use Rattle.std.proofs.Common.{ℕ, min, ap, ◌∙◌}
use Rattle.trig.proofs.Bisection.{guess_is}
use Rattle.trig.proofs.tangent.guess.Goals as goal

pub returns : goal.returns
returns c = c.min-i.ensures ∙ ap (λ (n : ℕ). min n 7074237752028440) c.saturating_f64_to_u64.ensures ∙ guess_is c.args.t c.start.result c.start.ensures
