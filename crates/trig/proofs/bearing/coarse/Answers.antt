-- `trig::bearing::coarse` meets its contract. Assumes nothing.
use Rattle.std.proofs.Common.{ap, ◌∙◌}
use Rattle.trig.specs.Arctangent.{grid_float}
use Rattle.trig.proofs.bearing.coarse.Goals as goal

pub returns : goal.returns
returns c = c.radians.ensures ∙ ap grid_float c.grid_angle.ensures
