use mathlib.Core.Path.{◌∙◌}
use Rattle.writer.proofs.Texts.{number_low}
use Rattle.writer.proofs.writing.put_number.Goals as goal

pub put-requires : goal.put-requires
put-requires c = rw (c.to_le_bytes.ensures ∙ number_low c.args.x _ c.bits_of.ensures) c.requires

pub returns : goal.returns
returns c = rw (c.to_le_bytes.ensures ∙ number_low c.args.x _ c.bits_of.ensures) at c.put.ensures
