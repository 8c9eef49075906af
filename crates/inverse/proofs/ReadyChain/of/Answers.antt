-- The check finds this alone. It stands here for must-fail/ready_of_another.edit, which the fact then
-- refuses: without it a search gives up.
use Rattle.std.proofs.Common.{refl}
use Rattle.inverse.proofs.ReadyChain.of.Goals as goal

pub returns : goal.returns
returns c = refl
