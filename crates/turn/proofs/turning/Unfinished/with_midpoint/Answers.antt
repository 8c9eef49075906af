use mathlib.Core.Path.{refl}
use Rattle.turn.specs.Turning.{with_midpoint, before}
use Rattle.turn.proofs.turning.Unfinished.with_midpoint.Goals as goal

pub returns : goal.returns
unfolding with_midpoint before
returns c = refl
