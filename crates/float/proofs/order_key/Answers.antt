use Rattle.std.proofs.Common.{sym, ◌∙◌, arith, rules, lt-ltb}
use lib.Ieee.{binary64}
use lib.Ieee.Bits.{to_bits-lt}
use Rattle.float.specs.TotalOrder.{order_key}
use Rattle.float.proofs.order_key.Goals as goal

pub returns-then-bits-lt9223372036854775808 : goal.returns-then-bits-lt9223372036854775808
unfolding order_key
returns-then-bits-lt9223372036854775808 c = rw (sym c.is_nan.ensures.value ∙ c.if-is_nan.false, lt-ltb _ _ c.if-bits-lt9223372036854775808.true)

pub overflow_sub-result : goal.overflow_sub-result
overflow_sub-result c = omega (arith, to_bits-lt binary64 c.args.x (search rules))
