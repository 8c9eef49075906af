use Rattle.extremes.specs.Asking.{above, opened}
use Rattle.extremes.proofs.Question.opened.Goals as goal

pub returns : goal.returns
unfolding above opened
returns c = rw (c.above.ensures, c.joints_in-high.ensures)
