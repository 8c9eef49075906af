-- The ball of a link's solid, in rounded steps as the Rust's: of a box the middle between its corners and half the
-- diagonal; of a cylinder the middle of its length and the distance from there to the rim. A middle is placed by the
-- frame of what carries the link.
use Rattle.std.specs.Prelude.{List, ℕ, Float}
use Rattle.std.specs.Float.{binary64}
use Rattle.std.specs.Float.Ieee.{of_bits}
use Rattle.root.specs.Root.{root}
use Rattle.geometry.specs.declared.Vec3.{Vec3}
use Rattle.geometry.specs.Rigid.{map_point}
use Rattle.geometry.specs.Vector.{plus, times, add, scale, gap_vec, lerp_vec}
use Rattle.chain.specs.declared.Joints.{Joints}
use Rattle.chain.specs.declared.Kinematics.{Kinematics}
use Rattle.chain.specs.Prepared.{unit_axis}
use Rattle.model.specs.declared.Link.{Link}
use Rattle.model.specs.declared.LinkSolid.{LinkSolid}
use Rattle.model.specs.declared.LinkSolid.TheVariants.{Box, Cylinder}
use Rattle.model.specs.Frame.{world_frame}
use Rattle.model.specs.ModelCheck.{carrier_of}
use Rattle.model.specs.Solid.{solid_at}

-- 0.5
abbrev pub half : Float
half = of_bits binary64 0x3fe0_0000_0000_0000

-- ---- a box
unfoldable pub box_middle : Vec3 → Vec3 → Vec3
box_middle min max = lerp_vec min max half

unfoldable pub box_radius : Vec3 → Vec3 → Float
box_radius min max = times (gap_vec max min) half

-- ---- a cylinder. Half the length is rounded once and used for both. The axis of a good solid has a direction, so that
-- the unit vector is never the given axis itself (`no_fallback`, in proofs).
abbrev pub half_of : Float → Float
half_of length = times length half

unfoldable pub cylinder_middle : Vec3 → Vec3 → Float → Vec3
cylinder_middle base axis length = add base (scale (unit_axis axis) (half_of length))

unfoldable pub cylinder_radius : Float → Float → Float
cylinder_radius radius length = root (plus (times radius radius) (times (half_of length) (half_of length)))

-- ---- a link
abbrev pub middle_of : LinkSolid → Vec3
middle_of (Box min max) = box_middle min max
middle_of (Cylinder base axis radius length) = cylinder_middle base axis length

abbrev pub radius_of : LinkSolid → Float
radius_of (Box min max) = box_radius min max
radius_of (Cylinder base axis radius length) = cylinder_radius radius length

unfoldable pub middle_at : Kinematics → List ℕ → Joints → Link → Vec3
middle_at k bytes j l = map_point (world_frame k j (carrier_of bytes l)) (middle_of (solid_at bytes l.kind))

unfoldable pub radius_at : List ℕ → Link → Float
radius_at bytes l = radius_of (solid_at bytes l.kind)
