use mathlib.Core.Path.{refl}
use Rattle.geometry.specs.Turn.{turned_back}
use Rattle.geometry.proofs.Turn.turned_back.Goals as goal

pub returns : goal.returns
unfolding turned_back
returns c = refl
