-- The solid of a link. A number of it that is not finite is a bad solid.
use Rattle.std.specs.Prelude.{Bool, cond, ◌&&◌, List, ℕ, ◌+◌, leb, eqb, length, Float}
use Rattle.std.specs.Float.Ieee as Ieee
use Rattle.std.specs.Float.Ieee.Scale.{finite}
use Rattle.float.specs.Helpers.{nought}
use Rattle.geometry.specs.declared.Vec3.{Vec3}
use Rattle.geometry.specs.Direction.{all_finite}
use Rattle.chain.specs.Bytes.{byte_at, number_at, vector_at}
use Rattle.chain.specs.Check.{has_direction}
use Rattle.model.specs.declared.LinkSolid.{LinkSolid}
use Rattle.model.specs.declared.LinkSolid.TheVariants.{Box, Cylinder}

unfoldable pub solid_at : List ℕ → ℕ → LinkSolid
solid_at bytes kind =
    cond (eqb (byte_at bytes kind) 0) (Box (vector_at bytes (kind + 1)) (vector_at bytes (kind + 25)))
    (Cylinder (vector_at bytes (kind + 1)) (vector_at bytes (kind + 25)) (number_at bytes (kind + 49)) (number_at bytes (kind + 57)))

unfoldable pub box_good : Vec3 → Vec3 → Bool
box_good min max =
    all_finite min && all_finite max && Ieee.lt min.x max.x && Ieee.lt min.y max.y && Ieee.lt min.z max.z

unfoldable pub positive : Float → Bool
positive x = finite x && Ieee.lt nought x

unfoldable pub cylinder_good : Vec3 → Vec3 → Float → Float → Bool
cylinder_good base axis radius length =
    all_finite base && all_finite axis && positive radius && positive length && has_direction axis

abbrev pub solid_good : LinkSolid → Bool
solid_good (Box min max) = box_good min max
solid_good (Cylinder base axis radius length) = cylinder_good base axis radius length

unfoldable pub good_solid_at : List ℕ → ℕ → Bool
good_solid_at bytes kind = leb (kind + 65) (length bytes) && solid_good (solid_at bytes kind)
