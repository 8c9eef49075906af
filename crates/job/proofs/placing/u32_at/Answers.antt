use Rattle.std.proofs.Common.{◌∙◌}
use Rattle.job.proofs.JobWithin.{chunk_four}
use Rattle.job.proofs.placing.u32_at.Goals as goal

pub returns : goal.returns
returns c = c.from_le_bytes.ensures ∙ chunk_four _ _ _ (rw c.unwrap.ensures at c.first_chunk.ensures.cases).same
