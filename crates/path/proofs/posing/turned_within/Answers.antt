use Rattle.inverse.specs.Inverse.{hint_within}
use Rattle.path.specs.Posing.{turned_within}
use Rattle.path.proofs.posing.turned_within.Goals as goal

pub returns : goal.returns
unfolding turned_within hint_within
returns c = rw (c.angles_within.ensures, c.from.ensures)
