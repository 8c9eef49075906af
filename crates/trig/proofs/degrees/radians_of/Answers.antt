use Rattle.std.proofs.Common.{le→leb}
use lib.Ieee.{in_float}
use Rattle.trig.specs.DegreeSteps.{radians_of}
use Rattle.trig.proofs.degrees.radians_of.Goals as goal

pub int_to_float-r : goal.int_to_float-r
int_to_float-r c = unfold in_float in le→leb c.args.r 9007199254740992 c.requires

pub returns : goal.returns
unfolding radians_of
returns c = c.to_radians.ensures
