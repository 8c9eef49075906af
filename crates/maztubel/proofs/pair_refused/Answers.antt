use mathlib.Core.Path.{◌≡◌, sym, subst, ap, ◌∙◌}
use mathlib.Core.Bool.{not, ◌&&◌}
use lib.Dec.{T}
use lib.Ieee.Scale.{finite}
use Rattle.std.proofs.Common.{rules}
use Rattle.maztubel.proofs.Ranges.{arctangent_ranges}
use Rattle.maztubel.proofs.pair_refused.Goals as goal

pub returns : goal.returns
returns c =
    let e : c.if-finite.result ≡ (finite c.args.y && finite c.args.x) = search rules in
    ap not e ∙ arctangent_ranges c.args.y c.args.x (subst T (sym c.well_formed.0.1) tt) (subst T (sym c.well_formed.1.0.1) tt)
