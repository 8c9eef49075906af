use mathlib.Core.Path.{refl}
use Rattle.geometry.specs.Vector.{dot}
use Rattle.geometry.proofs.vector.dot.Goals as goal

pub returns : goal.returns
unfolding dot
returns c = refl
