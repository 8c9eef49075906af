use Rattle.std.proofs.Common.{refl, ◌∙◌}
use lib.Ieee.{div, of_bits}
use Rattle.float.specs.Helpers.{to_radians}
use Rattle.float.proofs.to_radians.Goals as goal

pub returns : goal.returns
unfolding to_radians div of_bits
returns c = c.to_radians.ensures ∙ refl
