use native.Mathlib.Omega.{arith}
use mathlib.Core.Path.{◌∙◌}
use Rattle.extremes.proofs.Groups.{group_end_is}
use Rattle.extremes.proofs.Building.{group_summed}
use Rattle.extremes.proofs.summing.sum_group.Goals as goal

pub extremes_at-e-requires : goal.extremes_at-e-requires
extremes_at-e-requires c =
    let p = group_end_is _ _ c.requires.0 in
    let e = c.group_end-end.ensures in
    (omega (arith, p, e), omega (arith, p, e))

pub returns : goal.returns
returns c =
    c.put_extremes.ensures
    ∙ group_summed _ _ _ _ _ (omega arith) c.group_end-end.ensures c.extremes_at-e.ensures
