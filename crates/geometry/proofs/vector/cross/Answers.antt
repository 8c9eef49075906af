use mathlib.Core.Path.{refl}
use Rattle.geometry.specs.Vector.{cross}
use Rattle.geometry.proofs.vector.cross.Goals as goal

pub returns : goal.returns
unfolding cross
returns c = refl
