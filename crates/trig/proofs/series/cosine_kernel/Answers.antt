-- `trig::series::cosine_kernel` meets its contract. Assumes nothing.
use Rattle.std.proofs.Common.{T, sym, subst}
use Rattle.trig.specs.Kernel.{cosine_kernel, CosineNear}
use Rattle.trig.proofs.KernelLaws.{cosine_kernel_near}
use Rattle.trig.proofs.series.cosine_kernel.Goals as goal

pub returns : goal.returns
unfolding cosine_kernel
returns c = record { name = (c.sum.ensures); right = subst (CosineNear c.args.r) (sym ((c.sum.ensures))) (cosine_kernel_near c.args.r ((subst T (sym c.well_formed.0.1) tt))) }
