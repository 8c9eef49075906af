use Rattle.std.proofs.Common.{◌∙◌, sym}
use Rattle.job.proofs.Written.{bits_are}
use Rattle.job.proofs.spelling.bits_of.Goals as goal

pub returns : goal.returns
returns c = c.f64_to_bits_with_nan.ensures ∙ sym (bits_are c.args.x)
