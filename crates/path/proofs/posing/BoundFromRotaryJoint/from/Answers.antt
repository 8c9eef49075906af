use mathlib.Core.Path.{refl}
use Rattle.path.proofs.posing.BoundFromRotaryJoint.from.Goals as goal

pub returns : goal.returns
returns c = refl
