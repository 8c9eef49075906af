use Rattle.std.proofs.Common.{rules, sym, ◌∙◌}
use Rattle.float.proofs.SizeBits.{nan_itself, no_nan_size, bits_size}
use Rattle.float.proofs.size.Goals as goal

pub returns-then-is_nan : goal.returns-then-is_nan
returns-then-is_nan c = nan_itself _ (sym c.is_nan.ensures.value ∙ c.if-is_nan.true)

pub float_from_bits-result : goal.float_from_bits-result
float_from_bits-result c = no_nan_size _ (search rules) (search rules)

pub returns : goal.returns
returns c = bits_size _ (search rules) (search rules)
