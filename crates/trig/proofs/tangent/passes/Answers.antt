-- `trig::tangent::passes` meets its contract. Assumes nothing.
use Rattle.std.proofs.Common.{◌∙◌}
use Rattle.trig.proofs.Choices.{pick, drop}
use Rattle.trig.proofs.Bisection.{passes_is}
use Rattle.trig.proofs.tangent.passes.Goals as goal

pub returns-then-s-p : goal.returns-then-s-p
returns-then-s-p c = pick _ _ _ c.if-s-p.true ∙ passes_is c.args.t c.args.r c.sine_kernel-s.result c.cosine_kernel.result c.sine_kernel-s.ensures.name c.cosine_kernel.ensures.name

pub returns-else-s-p : goal.returns-else-s-p
returns-else-s-p c = c.if-s-p.false ∙ drop _ _ _ c.if-s-p.false ∙ passes_is c.args.t c.args.r c.sine_kernel-s.result c.cosine_kernel.result c.sine_kernel-s.ensures.name c.cosine_kernel.ensures.name
