-- Vectors of binary64: each operation with its rounded steps in the Rust's order. No sum is reordered and nothing is
-- fused.
use Rattle.std.specs.Float.Ieee as Ieee
use Rattle.std.specs.Prelude.{Float}
use Rattle.std.specs.Float.{binary64}
use Rattle.root.specs.Root.{root}
use Rattle.geometry.specs.declared.Vec3.{Vec3}

-- a + b, a - b, a * b, a / b in binary64
abbrev pub plus : Float → Float → Float
plus a b = Ieee.add binary64 a b

abbrev pub minus : Float → Float → Float
minus a b = Ieee.sub binary64 a b

abbrev pub times : Float → Float → Float
times a b = Ieee.mul binary64 a b

abbrev pub over : Float → Float → Float
over a b = Ieee.div binary64 a b

abbrev pub vector : Float → Float → Float → Vec3
vector x y z = record { x = x; y = y; z = z }

unfoldable pub add : Vec3 → Vec3 → Vec3
add a b = vector (plus a.x b.x) (plus a.y b.y) (plus a.z b.z)

unfoldable pub sub : Vec3 → Vec3 → Vec3
sub a b = vector (minus a.x b.x) (minus a.y b.y) (minus a.z b.z)

unfoldable pub scale : Vec3 → Float → Vec3
scale a f = vector (times a.x f) (times a.y f) (times a.z f)

unfoldable pub dot : Vec3 → Vec3 → Float
dot a b = plus (plus (times a.x b.x) (times a.y b.y)) (times a.z b.z)

unfoldable pub cross : Vec3 → Vec3 → Vec3
cross a b =
    vector (minus (times a.y b.z) (times a.z b.y)) (minus (times a.z b.x) (times a.x b.z))
    (minus (times a.x b.y) (times a.y b.x))

unfoldable pub norm : Vec3 → Float
norm v = root (dot v v)

unfoldable pub gap_vec : Vec3 → Vec3 → Float
gap_vec left right = norm (sub left right)

-- l + (r - l) * t
abbrev pub lerp : Float → Float → Float → Float
lerp l r t = plus l (times (minus r l) t)

unfoldable pub lerp_vec : Vec3 → Vec3 → Float → Vec3
lerp_vec left right t = vector (lerp left.x right.x t) (lerp left.y right.y t) (lerp left.z right.z t)
