use mathlib.Core.Path.{◌≡◌}
use Rattle.std.proofs.Common.{rules}
use Rattle.std.specs.Prelude.{None, Option, Some, MatchOption}
use Rattle.geometry.specs.declared.Vec3.{Vec3}
use Rattle.geometry.specs.declared.Turn.{Turn}
use Rattle.chain.specs.declared.Spin.{Spin}
use Rattle.chain.specs.Forward.{by_second}
use Rattle.chain.proofs.forward_map.carried.Goals as goal

-- named, so that another order is refused by the two sides that differ, and not by a search that ends
told : (f : Spin → Turn → Vec3 → Vec3) (second : Option Spin) (t : Turn) (v r : Vec3) (P : Spin → Type 0) → MatchOption second (r ≡ v) P
    → ((s : Spin) → P s → r ≡ f s t v) → r ≡ by_second second (λ s. f s t) v
told f (Some s) t v r P e by = by s e
told f None t v r P e by = e

pub returns : goal.returns
returns g c =
    λ f h.
    let inner =
    told f c.args.p.second c.args.turns.second c.args.v c.map_or-inner.result _ c.map_or-inner.ensures
    (λ s e. h s c.args.turns.second c.args.v c.map_or-inner.result (search rules)) in
    rw (h _ _ _ _ c.turned.ensures, inner)
