use mathlib.Core.Path.{refl}
use Rattle.geometry.specs.Vector.{sub}
use Rattle.geometry.proofs.vector.Vec3Sub.sub.Goals as goal

pub returns : goal.returns
unfolding sub
returns c = refl
