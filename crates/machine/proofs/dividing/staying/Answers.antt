use borrow.Author.Rules.{rules}
use Rattle.machine.proofs.dividing.staying.Goals as goal

-- The check finds this alone. It stands here for must-fail/not_cleared_without_space.edit, which the fact then refuses:
-- without it a search gives up.
pub returns : goal.returns
returns c = search rules
