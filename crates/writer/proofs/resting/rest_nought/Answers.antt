use mathlib.Core.Path.{refl}
use Rattle.writer.specs.Writing.{rest_nought}
use Rattle.writer.proofs.resting.rest_nought.Goals as goal

-- The check finds this alone. It stands here for must-fail/rest_by_value.edit, which the fact then refuses: without it
-- a search gives up.
pub returns : goal.returns
unfolding rest_nought
returns c = rw c.bits_of.ensures refl
