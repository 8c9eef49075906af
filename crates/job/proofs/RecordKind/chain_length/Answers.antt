use mathlib.Core.Path.{refl}
use Rattle.job.proofs.RecordKind.chain_length.Goals as goal

-- The check finds this alone. It stands here for must-fail/chain_without_spindle.edit, which the fact then refuses:
-- without it a search gives up.
pub returns : goal.returns
returns c = rw c.bytes.ensures refl
