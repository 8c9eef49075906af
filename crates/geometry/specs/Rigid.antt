-- Rigid placements: a point p goes to origin + p.x axis_x + p.y axis_y + p.z axis_z.
use Rattle.std.specs.Float.Ieee as Ieee
use Rattle.std.specs.Prelude.{Float}
use Rattle.float.specs.Helpers.{nought, one}
use Rattle.geometry.specs.Vector.{vector, add, scale, plus, times}
use Rattle.geometry.specs.declared.Vec3.{Vec3}
use Rattle.geometry.specs.declared.Rigid.{Rigid}

abbrev pub from_axes : Vec3 → Vec3 → Vec3 → Vec3 → Rigid
from_axes origin x y z = record { origin = origin; axis_x = x; axis_y = y; axis_z = z }

unfoldable pub identity : Rigid
identity = from_axes (vector nought nought nought) (vector one nought nought) (vector nought one nought) (vector nought nought one)

unfoldable pub map_direction : Rigid → Vec3 → Vec3
map_direction r d = add (add (scale r.axis_x d.x) (scale r.axis_y d.y)) (scale r.axis_z d.z)

unfoldable pub map_point : Rigid → Vec3 → Vec3
map_point r p = add r.origin (map_direction r p)

-- -(a · o), as the Rust writes it out
abbrev pub back : Vec3 → Vec3 → Float
back a o = Ieee.neg (plus (plus (times a.x o.x) (times a.y o.y)) (times a.z o.z))

unfoldable pub inverse : Rigid → Rigid
inverse r =
    from_axes (vector (back r.axis_x r.origin) (back r.axis_y r.origin) (back r.axis_z r.origin))
    (vector r.axis_x.x r.axis_y.x r.axis_z.x)
    (vector r.axis_x.y r.axis_y.y r.axis_z.y)
    (vector r.axis_x.z r.axis_y.z r.axis_z.z)

-- `inner` first, then `outer`
unfoldable pub compose : Rigid → Rigid → Rigid
compose outer inner =
    from_axes (map_point outer inner.origin) (map_direction outer inner.axis_x) (map_direction outer inner.axis_y) (map_direction outer inner.axis_z)
