use Rattle.quote.specs.Quotation.{per_test}
use Rattle.quote.proofs.Costs.{strict_counts, plain_counts}
use Rattle.quote.proofs.stepping.per_test.Goals as goal

pub returns-then-tol : goal.returns-then-tol
unfolding per_test
returns-then-tol c = strict_counts c.args.tol.strict c.if-tol.true

pub returns : goal.returns
unfolding per_test
returns c = plain_counts c.args.tol.strict c.if-tol.false
