use mathlib.Core.Path.{refl}
use Rattle.geometry.specs.Vector.{scale}
use Rattle.geometry.proofs.vector.Vec3MulF64.mul.Goals as goal

pub returns : goal.returns
unfolding scale
returns c = refl
