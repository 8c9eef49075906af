use borrow.Author.Rules.{rules}
use Rattle.divide.proofs.RefusalFromDivisionError.from.Goals as goal

-- The check finds this alone. It stands here for must-fail/stop_at_its_count.edit, which the
-- fact then refuses: without it a search gives up.
pub returns-in-Stopped : goal.returns-in-Stopped
returns-in-Stopped c = search rules
