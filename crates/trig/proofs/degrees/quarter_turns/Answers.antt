use Rattle.std.proofs.Common.{arith, rules}
use Rattle.trig.specs.DegreeSteps.{quarter_turns}
use Rattle.trig.proofs.degrees.quarter_turns.Goals as goal

pub overflow_add-result : goal.overflow_add-result
overflow_add-result c = omega arith

pub returns : goal.returns
unfolding quarter_turns
returns c = search rules
