-- The unit vector of a vector of doubles has finite numbers, since none is above 2 in size (`unit_small` of geometry).
use mathlib.Core.Path.{◌≡◌, refl}
use mathlib.Core.Bool.{true}
use Rattle.std.specs.Prelude.{None, Option, Some}
use Rattle.geometry.specs.declared.Vec3.{Vec3}
use Rattle.geometry.specs.Direction.{all_finite, along, unit_direction, unit_or}
use Rattle.geometry.specs.Doubles.{FitVec}
use Rattle.geometry.proofs.Bounded.{vec_finite}
use Rattle.geometry.proofs.UnitSize.{unit_small}

pub unit_or_finite : (v fallback : Vec3) → FitVec v → all_finite fallback ≡ true → all_finite (unit_or v fallback) ≡ true
unfolding unit_or
unit_or_finite v fallback fit h = go (unit_direction v) refl
  where
    go : (d : Option Vec3) → unit_direction v ≡ d → all_finite (along d fallback (λ u. u)) ≡ true
    go (Some u) e = vec_finite 1 u (unit_small v u fit e)
    go None e = h
