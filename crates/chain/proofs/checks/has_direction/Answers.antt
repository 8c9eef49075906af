use Rattle.std.proofs.Common.{◌≡◌, refl, ap, ◌∙◌}
use Rattle.std.specs.Prelude.{Option, Some, None, is_some}
use Rattle.geometry.specs.declared.Vec3.{Vec3}
use Rattle.geometry.specs.Direction.{unit_direction}
use Rattle.chain.specs.Check.{served, has_direction}
use Rattle.chain.proofs.checks.has_direction.Goals as goal

there : (d : Option Vec3) → is_some d ≡ served d
there (Some u) = refl
there None = refl

pub returns : goal.returns
unfolding has_direction
returns c = c.is_some.ensures ∙ (ap (λ (d : Option Vec3). is_some d) c.unit_direction.ensures ∙ there (unit_direction c.args.v))
