use mathlib.Core.Path.{◌∙◌}
use Rattle.chain.proofs.Bytes.{chunk_word}
use Rattle.chain.proofs.bytes_at.word_at.Goals as goal

pub returns : goal.returns
returns c = c.from_le_bytes.ensures ∙ chunk_word _ _ _ (rw c.unwrap.ensures at c.first_chunk.ensures.cases).same
