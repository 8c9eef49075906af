use borrow.Author.Rules.{rules}
use Rattle.machine.proofs.dividing.answer_in.Goals as goal

-- The check finds this alone. It stands here for must-fail/count_of_space.edit, which the fact then refuses: without it
-- a search gives up.
pub returns : goal.returns
returns c = search rules
