use Rattle.std.proofs.Common.{◌≡◌, refl, ap, ◌∙◌}
use Rattle.std.specs.Prelude.{Option, Some, None}
use Rattle.std.specs.Option.{unwrap_or}
use Rattle.geometry.specs.declared.Vec3.{Vec3}
use Rattle.geometry.specs.Direction.{along, unit_direction, unit_or}
use Rattle.geometry.proofs.normal.unit_or.Goals as goal

kept : (d : Option Vec3) (fallback : Vec3) → unwrap_or d fallback ≡ along d fallback (λ u. u)
kept (Some u) fallback = refl
kept None fallback = refl

pub returns : goal.returns
unfolding unit_or
returns c = c.unwrap_or.ensures ∙ (ap (λ (d : Option Vec3). unwrap_or d c.args.fallback) c.unit_direction.ensures ∙ kept (unit_direction c.args.v) c.args.fallback)
