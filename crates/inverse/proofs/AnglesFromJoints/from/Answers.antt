use mathlib.Core.Path.{refl}
use Rattle.inverse.proofs.AnglesFromJoints.from.Goals as goal

pub returns : goal.returns
returns c = refl
