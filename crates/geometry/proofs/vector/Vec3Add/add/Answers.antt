use mathlib.Core.Path.{refl}
use Rattle.geometry.specs.Vector.{add}
use Rattle.geometry.proofs.vector.Vec3Add.add.Goals as goal

pub returns : goal.returns
unfolding add
returns c = refl
