-- Vectors of doubles, as every vector is that code has. What `scale`, `dot` and `unit_direction` make are doubles whatever
-- they are made of.
use mathlib.Core.Path.{◌≡◌, subst}
use mathlib.Core.Bool.{Bool, true, false, not, cond}
use lib.Dec.{T}
use lib.Ieee.{Float, binary64, eq, fits}
use lib.Ieee.Fits.{add-fits, mul-fits}
use lib.Ieee.Scale.{finite}
use Rattle.std.specs.Prelude.{None, Option, Some}
use Rattle.float.specs.Helpers.{nought, one}
use Rattle.root.specs.Root.{root}
use Rattle.geometry.specs.declared.Vec3.{Vec3}
use Rattle.geometry.specs.Doubles.{FitVec}
use Rattle.geometry.specs.Vector.{add, scale, dot, over}
use Rattle.geometry.specs.Direction.{all_finite, tiny, with_length, unit_direction, along, unit_or}

pub added_fits : (v w : Vec3) → FitVec (add v w)
unfolding add
added_fits v w = (add-fits binary64 _ _, add-fits binary64 _ _, add-fits binary64 _ _)

pub scaled_fits : (v : Vec3) (f : Float) → FitVec (scale v f)
unfolding scale
scaled_fits v f = (mul-fits binary64 _ _, mul-fits binary64 _ _, mul-fits binary64 _ _)

pub dot_fits : (v w : Vec3) → T (fits binary64 (dot v w))
unfolding dot
dot_fits v w = add-fits binary64 _ _

-- ---- unit vectors
abbrev FitDirection : Option Vec3 → Type 0
FitDirection (Some u) = FitVec u
FitDirection None = Unit {0}

direction_fits : (v : Vec3) → FitDirection (unit_direction v)
unfolding unit_direction with_length
direction_fits v = go (all_finite v) (tiny v) (finite (root (dot v v))) (eq (root (dot v v)) nought)
  where
    go : (a b c d : Bool) → FitDirection (cond (not a) None (cond b None (cond (not c) None (cond d None (Some (scale v (over one (root (dot v v)))))))))
    go false b c d = tt
    go true true c d = tt
    go true false false d = tt
    go true false true true = tt
    go true false true false = scaled_fits v (over one (root (dot v v)))

pub unit_fits : (v u : Vec3) → unit_direction v ≡ Some u → FitVec u
unit_fits v u e = subst FitDirection e (direction_fits v)

pub unit_or_fits : (v fallback : Vec3) → FitVec fallback → FitVec (unit_or v fallback)
unfolding unit_or
unit_or_fits v fallback F = go (unit_direction v) (direction_fits v)
  where
    go : (d : Option Vec3) → FitDirection d → FitVec (along d fallback (λ u. u))
    go (Some u) h = h
    go None h = F
