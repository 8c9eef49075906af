use mathlib.Core.Path.{refl}
use Rattle.geometry.proofs.Turn.still.Goals as goal

pub returns : goal.returns
returns c = refl
