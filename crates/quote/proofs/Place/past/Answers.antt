use borrow.Author.Tests.{eq-eqb, ne_eqb}
use Rattle.quote.specs.QuotationSteps.{past}
use Rattle.quote.proofs.Place.past.Goals as goal

pub returns-then-self-eq-STACK : goal.returns-then-self-eq-STACK
unfolding past
returns-then-self-eq-STACK c = rw (eq-eqb _ _ c.if-self-eq-STACK.true)

pub returns-else-self-eq-STACK : goal.returns-else-self-eq-STACK
unfolding past
returns-else-self-eq-STACK c = rw (ne_eqb _ _ c.if-self-eq-STACK.false)
