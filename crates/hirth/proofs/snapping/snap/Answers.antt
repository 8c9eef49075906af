use Rattle.hirth.specs.Snapping.{snapped}
use Rattle.hirth.proofs.snapping.snap.Goals as goal

pub returns : goal.returns
unfolding snapped
returns c = rw c.round.ensures
