-- `trig::series::sine_kernel` meets its contract. Assumes nothing.
use Rattle.std.proofs.Common.{T, sym, ap, subst}
use lib.Ieee.{Float, binary64, mul}
use Rattle.trig.specs.Kernel.{sine_kernel, SineNear}
use Rattle.trig.proofs.KernelLaws.{sine_kernel_near}
use Rattle.trig.proofs.series.sine_kernel.Goals as goal

pub returns : goal.returns
unfolding sine_kernel
returns c = record { name = (ap (λ (y : Float). mul binary64 c.args.r y) c.sum.ensures); right = subst (SineNear c.args.r) (sym ((ap (λ (y : Float). mul binary64 c.args.r y) c.sum.ensures))) (sine_kernel_near c.args.r ((subst T (sym c.well_formed.0.1) tt))) }
