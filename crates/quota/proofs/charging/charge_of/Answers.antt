use borrow.Author.Rules.{rules}
use Rattle.quota.proofs.charging.charge_of.Goals as goal

-- The check finds this alone. It stands here for must-fail/charge_on_27.edit, which the fact then refuses: without it a
-- search gives up.
pub returns : goal.returns
returns c = search rules
