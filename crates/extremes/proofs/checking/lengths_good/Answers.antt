use Prim.Native.Nat.{◌/◌}
use native.Mathlib.Omega.{arith}
use Rattle.extremes.proofs.Groups.{count_most}
use Rattle.extremes.proofs.checking.lengths_good.Goals as goal

pub overflow_mul-result : goal.overflow_mul-result
overflow_mul-result c =
    let e = c.group_count.ensures in
    let most = count_most (c.args.joints / 5) in
    omega (arith, e, most)
