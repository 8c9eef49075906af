use mathlib.Core.Path.{sym}
use Rattle.extremes.proofs.Comparing.{less_before, less_not_behind}
use Rattle.extremes.proofs.summing.earlier.Goals as goal

pub returns-then-x-y : goal.returns-then-x-y
returns-then-x-y c = sym (less_before _ _ c.if-x-y.true)

pub returns-then-y-x : goal.returns-then-y-x
returns-then-y-x c = sym (less_not_behind _ _ c.if-y-x.true)
