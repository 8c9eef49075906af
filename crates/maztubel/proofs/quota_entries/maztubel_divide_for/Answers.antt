use Rattle.maztubel.proofs.Causes.{subdivide_cause}
use Rattle.maztubel.proofs.ChargesFor.{charged_says}
use Rattle.maztubel.proofs.quota_entries.maztubel_divide_for.Goals as goal

pub returns-clause-says : goal.returns-clause-says
returns-clause-says c = charged_says _ _ _ (subdivide_cause _ _ _ _ _ _) _ (rw c.charged_of-said.ensures.answer at c.hand_over.ensures.number)
