use Rattle.std.proofs.Common.{lit≤, rules, sym, ◌∙◌}
use Rattle.root.proofs.RootQuick.{nan_root, near_root, no_nan_near, sum_room}
use Rattle.root.proofs.square_root.quick_root.Goals as goal

pub returns-then-is_nan : goal.returns-then-is_nan
returns-then-is_nan c = nan_root _ (sym c.is_nan.ensures.value ∙ c.if-is_nan.true)

pub overflow_add-result : goal.overflow_add-result
overflow_add-result c = record { fits = sum_room _ c.if-b-ge4607182418766462976.true c.if-b-lt4607182418833571840.true _ (lit≤ tt) }

pub float_from_bits-result : goal.float_from_bits-result
float_from_bits-result c = no_nan_near _ c.if-b-ge4607182418766462976.true c.if-b-lt4607182418833571840.true _ (lit≤ tt)

pub returns-then-b-lt4607182418833571840 : goal.returns-then-b-lt4607182418833571840
returns-then-b-lt4607182418833571840 c = near_root _ (search rules) c.if-b-ge4607182418766462976.true c.if-b-lt4607182418833571840.true

pub returns : goal.returns
returns c = c.root.ensures
