use Rattle.std.proofs.Common.{refl, le→leb, rules}
use lib.Ieee.{in_float}
use Rattle.hirth.specs.Turning.{unscaled}
use Rattle.hirth.proofs.turning.unscaled.Goals as goal

pub int_to_float-result : goal.int_to_float-result
int_to_float-result c = unfold in_float in le→leb c.args.entry 9007199254740992 (search rules)

pub returns : goal.returns
unfolding unscaled
returns c = refl
