use mathlib.Core.Path.{sym}
use Rattle.path.specs.Singular.{in_singular_cone}
use Rattle.path.proofs.FarFromPole.{outside_the_cone}
use Rattle.path.proofs.singular.in_singular_cone.Goals as goal

pub returns-then-well_outside : goal.returns-then-well_outside
returns-then-well_outside c =
    sym (outside_the_cone c.args.f c.args.cone c.args.axis (rw (c.well_outside.ensures, c.clamp_unit-cosine.ensures, c.dot.ensures) at c.if-well_outside.true))

pub returns : goal.returns
unfolding in_singular_cone
returns c = rw c.pole_clearance_deg.ensures
