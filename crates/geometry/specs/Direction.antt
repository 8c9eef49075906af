-- The unit vector of a direction: the vector times one over its length. It is not idempotent: a unit vector normalised
-- again may change in its last bits, so callers normalise exactly as often as the Rust does.
use Rattle.std.specs.Prelude.{Bool, ◌&&◌, not, cond, Float, None, Option, Some}
use Rattle.std.specs.Float.Ieee as Ieee
use Rattle.std.specs.Float.{binary64}
use Rattle.std.specs.Float.Ieee.{of_bits}
use Rattle.std.specs.Float.Ieee.Scale.{finite}
use Rattle.float.specs.Helpers.{nought, one, size_of}
use Rattle.root.specs.Root.{root}
use Rattle.geometry.specs.Vector.{dot, scale, over}
use Rattle.geometry.specs.declared.Vec3.{Vec3}

-- 1e-15
abbrev pub smallest : Float
smallest = of_bits binary64 0x3cd2_03af_9ee7_5616

unfoldable pub all_finite : Vec3 → Bool
all_finite v = finite v.x && finite v.y && finite v.z

unfoldable pub tiny : Vec3 → Bool
tiny v = Ieee.le (size_of v.x) smallest && Ieee.le (size_of v.y) smallest && Ieee.le (size_of v.z) smallest

unfoldable pub with_length : Vec3 → Float → Option Vec3
with_length v len = cond (not (finite len)) None (cond (Ieee.eq len nought) None (Some (scale v (over one len))))

unfoldable pub unit_direction : Vec3 → Option Vec3
unit_direction v = cond (not (all_finite v)) None (cond (tiny v) None (with_length v (root (dot v v))))

-- what a direction gives a step, or a fallback where there is none
abbrev pub along : {A : Type 0} → Option Vec3 → A → (Vec3 → A) → A
along (Some u) fallback step = step u
along None fallback step = fallback

unfoldable pub unit_or : Vec3 → Vec3 → Vec3
unit_or v fallback = along (unit_direction v) fallback (λ u. u)
