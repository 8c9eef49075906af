use borrow.Author.Rules.{rules}
use Rattle.quote.proofs.RefusalFromQuoteError.from.Goals as goal

-- The check finds this alone. It stands here for must-fail/figures_refused_at_their_count.edit, which the
-- fact then refuses: without it a search gives up.
pub returns-in-Stopped : goal.returns-in-Stopped
returns-in-Stopped c = search rules
