-- `trig::bearing::quarter` meets its contract. Assumes nothing.
use Rattle.std.proofs.Common.{refl, le_of_lt, le→leb}
use lib.Ieee.{in_float, of_bits}
use Rattle.trig.specs.Arctangent.{quarter_float}
use Rattle.trig.proofs.bearing.quarter.Goals as goal

pub int_to_float-result : goal.int_to_float-result
int_to_float-result c = unfold in_float in le→leb c.args.z 9007199254740992 (le_of_lt c.requires)

pub returns : goal.returns
unfolding quarter_float of_bits
returns c = refl
