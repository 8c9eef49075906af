use Rattle.std.proofs.Common.{refl, arith}
use Rattle.hirth.specs.Teeth.{teeth, tooth_at, entries}
use Rattle.hirth.proofs.Rule.{tooth_nearest}
use Rattle.hirth.proofs.teeth.entries.Goals as goal

pub returns : goal.returns
unfolding teeth tooth_at entries
returns c = record { name = refl; right = (tooth_nearest _ (omega arith), tooth_nearest _ (omega arith)) }
