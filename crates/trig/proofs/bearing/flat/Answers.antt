-- `trig::bearing::flat` meets its contract. Assumes nothing.
use Rattle.std.proofs.Common.{refl, ◌∙◌}
use Rattle.trig.proofs.Choices.{pick, drop}
use Rattle.trig.specs.Arctangent.{grid_float, grid_angle, passes}
use Rattle.trig.proofs.Bisection.{flat_is}
use Rattle.trig.proofs.bearing.flat.Goals as goal
use Rattle.trig.proofs.bearing.flat.Goals.{else-r-via-then-r+then-r-2+else-passes, else-r-via-then-r+else-r-2, else-r-via-else-r}

pub returns-then-passes : goal.returns-then-passes
returns-then-passes c =
    let t = c.args.t in
    pick c.passes.result c.start-r.result (grid_float (grid_angle t)) c.if-passes.true ∙ pick _ _ _ c.if-r-2.true ∙ pick _ _ _ c.if-r.true ∙ flat_is t c.start-r.result c.passes.result (grid_float (grid_angle t)) c.start-r.ensures c.passes.ensures refl

pub returns-else-r : goal.returns-else-r
returns-else-r c =
    let t = c.args.t in
    let r = c.start-r.result in
    let o = c.coarse.result in
    elim c.else-r.branch [
      | else-r-via-then-r+then-r-2+else-passes w ↦ drop w.passes.result r o w.if-passes.false ∙ pick _ _ _ w.if-r-2.true ∙ pick _ _ _ w.if-r.true ∙ flat_is t r w.passes.result o c.start-r.ensures w.passes.ensures c.coarse.ensures
      | else-r-via-then-r+else-r-2 w ↦ drop _ _ _ w.if-r-2.false ∙ pick _ _ _ w.if-r.true ∙ flat_is t r (passes t r) o c.start-r.ensures refl c.coarse.ensures
      | else-r-via-else-r w ↦ drop _ _ _ w.if-r.false ∙ flat_is t r (passes t r) o c.start-r.ensures refl c.coarse.ensures
    ]
