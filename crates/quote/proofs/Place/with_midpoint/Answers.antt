use mathlib.Core.Path.{refl}
use Rattle.quote.specs.QuotationSteps.{with_midpoint}
use Rattle.quote.proofs.Place.with_midpoint.Goals as goal

pub returns : goal.returns
unfolding with_midpoint
returns c = refl
