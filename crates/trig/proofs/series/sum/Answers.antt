-- `trig::series::sum` meets its contract: what is left of the sum, from here, is the whole of it. Assumes nothing.
use Rattle.std.proofs.Common.{refl, ◌∙◌, arith}
use Rattle.trig.proofs.SumError.{sum_none, sum_more}
use Rattle.trig.proofs.series.sum.Goals as goal

pub loop-left-preserved : goal.loop-left-preserved
loop-left-preserved c = sum_more _ _ _ _ _ _ (λ none. omega (arith, none)) c.reciprocal.ensures refl ∙ c.loop-left.invariant

pub returns : goal.returns
returns c = sum_none _ _ _ _ (omega arith) ∙ c.loop-left.invariant
