use Rattle.std.proofs.Common.{refl, ◌∙◌}
use lib.Ieee.{div, of_bits}
use Rattle.float.specs.Helpers.{to_degrees}
use Rattle.float.proofs.to_degrees.Goals as goal

pub returns : goal.returns
unfolding to_degrees div of_bits
returns c = c.to_degrees.ensures ∙ refl
