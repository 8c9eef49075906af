-- Link frames: the frame that a chain's rotaries carry, each turned forth by its angle, the inner joint first. Tables
-- stand still; heads move with the gauge point.
use Rattle.std.specs.Prelude.{Bool, cond, ◌&&◌, List, [], ◌∷◌, ℕ, eqb, Float, Err, None, Ok, Option, Result, Some}
use Rattle.geometry.specs.declared.Vec3.{Vec3}
use Rattle.geometry.specs.declared.Rigid.{Rigid}
use Rattle.geometry.specs.Vector.{add}
use Rattle.geometry.specs.Turn.{turn_of}
use Rattle.geometry.specs.Rigid.{from_axes, identity, inverse, compose}
use Rattle.refusal.specs.declared.Refusal.{Refusal}
use Rattle.refusal.specs.declared.Cause.{Cause}
use Rattle.chain.specs.Checked.{Checked}
use Rattle.chain.specs.declared.Carrier.{Carrier}
use Rattle.chain.specs.declared.Spin.{Spin}
use Rattle.chain.specs.declared.Prepared.{Prepared}
use Rattle.chain.specs.declared.Turns.{Turns}
use Rattle.chain.specs.declared.Joints.{Joints}
use Rattle.chain.specs.declared.Kinematics.{Kinematics}
use Rattle.chain.specs.Check.{demand, first_refusal, joints_finite, joints_within, chain_within}
use Rattle.chain.specs.Forward.{by_second, head_point, head_vector, table_point, table_vector}
use Rattle.chain.specs.Prepared.{prepared}
use Rattle.model.specs.declared.LinkKind.{LinkKind}
use Rattle.model.specs.declared.LinkKind.TheVariants.{Base, Table, Head, Rotary, Unknown}
use Rattle.model.specs.Carrier.{carrier_kind, known}
use Rattle.model.specs.ModelCheck.{full_check}

unfoldable pub turns_forth : Float → Float → Turns
turns_forth a0 a1 = record { first = turn_of a0; second = turn_of a1 }

-- ---- the tables' chain and the heads', the inner joint first
unfoldable pub table_map_point : Prepared → Turns → Vec3 → Vec3
table_map_point p t v = table_point p.first t.first (by_second p.second (λ s. table_point s t.second) v)

unfoldable pub table_map_direction : Prepared → Turns → Vec3 → Vec3
table_map_direction p t v = table_vector p.first t.first (by_second p.second (λ s. table_vector s t.second) v)

unfoldable pub head_map_point : Prepared → Turns → Vec3 → Vec3
head_map_point p t v = head_point p.first t.first (by_second p.second (λ s. head_point s t.second) v)

unfoldable pub head_map_direction : Prepared → Turns → Vec3 → Vec3
head_map_direction p t v = head_vector p.first t.first (by_second p.second (λ s. head_vector s t.second) v)

-- ---- frames: the identity, carried along
unfoldable pub table_frame : Prepared → Turns → Rigid
table_frame p t =
    from_axes (table_map_point p t identity.origin) (table_map_direction p t identity.axis_x) (table_map_direction p t identity.axis_y)
    (table_map_direction p t identity.axis_z)

unfoldable pub head_frame : Prepared → Turns → Vec3 → Rigid
head_frame p t xyz =
    from_axes (add (head_map_point p t identity.origin) xyz) (head_map_direction p t identity.axis_x)
    (head_map_direction p t identity.axis_y)
    (head_map_direction p t identity.axis_z)

-- ---- one rotary, with all that carry it
unfoldable pub rotary_at_index : Prepared → ℕ → Option Spin
rotary_at_index p i = cond (eqb i 0) (Some p.first) p.second

-- the rotaries up to and including that one
unfoldable pub through : Prepared → ℕ → Prepared
through p i = cond (eqb i 0) (record { first = p.first; second = None; spindle = p.spindle }) p

abbrev pub by_carrier : Carrier → Rigid → Rigid → Rigid
by_carrier Carrier.Table by_table by_head = by_table
by_carrier Carrier.Head by_table by_head = by_head

-- where there is no such rotary, the identity
abbrev pub by_rotary : Option Spin → Rigid → Rigid → Rigid
by_rotary (Some s) by_table by_head = by_carrier s.carrier by_table by_head
by_rotary None by_table by_head = identity

unfoldable pub rotary_frame : Prepared → Turns → Vec3 → ℕ → Rigid
rotary_frame p t xyz i = by_rotary (rotary_at_index p i) (table_frame (through p i) t) (head_frame (through p i) t xyz)

abbrev pub frame_of : Prepared → Turns → Vec3 → LinkKind → Rigid
frame_of p t xyz Base = identity
frame_of p t xyz Table = table_frame p t
frame_of p t xyz Head = head_frame p t xyz
frame_of p t xyz (Rotary i) = rotary_frame p t xyz i
frame_of p t xyz Unknown = identity

-- ---- the calls
unfoldable pub frame_sizes : Kinematics → Joints → Bool
frame_sizes k j = joints_within j && chain_within k

unfoldable pub frame_check : List ℕ → Kinematics → List ℕ → Joints → LinkKind → Checked
frame_check name k bytes j kind =
    first_refusal
    (full_check name k bytes
    ∷ demand (joints_finite j) Cause.NotFinite 0
    ∷ demand (known kind) Cause.CarrierUnknown 0
    ∷ demand (frame_sizes k j) Cause.TooLarge 0
    ∷ [])

abbrev pub placed_unless : Checked → Rigid → Result Rigid Refusal
placed_unless (Ok _) r = Ok r
placed_unless (Err r) placed = Err r

abbrev pub world_frame : Kinematics → Joints → List ℕ → Rigid
world_frame k j carrier = frame_of (prepared k) (turns_forth j.a0 j.a1) j.xyz (carrier_kind k carrier)

abbrev pub part_frame : Kinematics → Joints → Rigid
part_frame k j = inverse (table_frame (prepared k) (turns_forth j.a0 j.a1))

unfoldable pub link_world : List ℕ → Kinematics → List ℕ → Joints → List ℕ → Result Rigid Refusal
link_world name k bytes j carrier = placed_unless (frame_check name k bytes j (carrier_kind k carrier)) (world_frame k j carrier)

unfoldable pub link_in_part : List ℕ → Kinematics → List ℕ → Joints → List ℕ → Result Rigid Refusal
link_in_part name k bytes j carrier =
    placed_unless (frame_check name k bytes j (carrier_kind k carrier)) (compose (part_frame k j) (world_frame k j carrier))
