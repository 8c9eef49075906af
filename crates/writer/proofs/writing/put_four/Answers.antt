use Rattle.writer.proofs.Texts.{four_low}
use Rattle.writer.proofs.writing.put_four.Goals as goal

pub put-requires : goal.put-requires
put-requires c = rw (c.to_le_bytes.ensures, four_low) c.requires

pub returns : goal.returns
returns c = rw (c.to_le_bytes.ensures, four_low) at c.put.ensures
