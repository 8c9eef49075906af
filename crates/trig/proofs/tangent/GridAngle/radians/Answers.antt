-- `trig::tangent::GridAngle::radians` meets its contract. Assumes nothing.
use Rattle.std.proofs.Common.{refl, le_trans, lit≤, le→leb}
use lib.Ieee.{in_float, of_bits}
use Rattle.trig.specs.Arctangent.{grid_float}
use Rattle.trig.proofs.tangent.GridAngle.radians.Goals as goal

pub int_to_float-result : goal.int_to_float-result
int_to_float-result c = unfold in_float in le→leb c.args.self.i 9007199254740992 (le_trans c.args.self.small (lit≤ tt))

pub returns : goal.returns
unfolding grid_float of_bits
returns c = refl
