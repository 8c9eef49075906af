-- The words in which inner functions promise their results. A reader who believes `Meeting` needs none of them.
use Rattle.std.specs.Prelude.{Bool, true, false, cond, not, ◌&&◌, List, [], ◌∷◌, map, drop, ℕ, ◌+◌, eqb, leb, length, position, Float, None, Option, Some}
use Rattle.std.specs.Float.Ieee as Ieee
use Rattle.geometry.specs.declared.Rigid.{Rigid}
use Rattle.geometry.specs.declared.Vec3.{Vec3}
use Rattle.geometry.specs.Rigid.{identity, map_point}
use Rattle.geometry.specs.Vector.{plus, gap_vec}
use Rattle.chain.specs.declared.Joints.{Joints}
use Rattle.chain.specs.declared.Kinematics.{Kinematics}
use Rattle.chain.specs.declared.Prepared.{Prepared}
use Rattle.model.specs.declared.Link.{Link}
use Rattle.model.specs.declared.LinkKind.{LinkKind}
use Rattle.model.specs.declared.LinkKind.TheVariants.{Base, Table, Head, Rotary, Unknown}
use Rattle.model.specs.Carrier.{carrier_kind}
use Rattle.model.specs.Frame.{frame_of, turns_forth}
use Rattle.model.specs.ModelCheck.{carrier_of}
use Rattle.model.specs.Solid.{solid_at}
use Rattle.meet.specs.Balls.{middle_of, radius_of}
use Rattle.meet.specs.Meeting.{first_pair, link_pair}
use Rattle.meet.specs.declared.Ball.{Ball}
use Rattle.meet.specs.declared.Frames.{Frames}
use Rattle.meet.specs.declared.LinkPair.{LinkPair}

-- ---- whether one thing carries two links
abbrev pub same_kind : LinkKind → LinkKind → Bool
same_kind Base Base = true
same_kind Table Table = true
same_kind Head Head = true
same_kind (Rotary i) (Rotary j) = eqb i j
same_kind Unknown Unknown = true
same_kind a b = false

-- ---- balls
abbrev pub carried_ball : LinkKind → Vec3 → Float → Ball
carried_ball c m r = record { kind = c; middle = m; radius = r }

unfoldable pub link_ball : Kinematics → List ℕ → Link → Ball
link_ball k bytes l =
    carried_ball (carrier_kind k (carrier_of bytes l)) (middle_of (solid_at bytes l.kind)) (radius_of (solid_at bytes l.kind))

unfoldable pub whole_solid : List ℕ → Link → Bool
whole_solid bytes l = leb (l.kind + 65) (length bytes)

-- ---- placed
unfoldable pub frames_at : Prepared → Joints → Frames
frames_at p j = record {
  table = frame_of p (turns_forth j.a0 j.a1) j.xyz Table;
  head = frame_of p (turns_forth j.a0 j.a1) j.xyz Head;
  first = frame_of p (turns_forth j.a0 j.a1) j.xyz (Rotary 0);
  second = frame_of p (turns_forth j.a0 j.a1) j.xyz (Rotary 1);
}

abbrev pub frame_for : Frames → LinkKind → Rigid
frame_for f Base = identity
frame_for f Table = f.table
frame_for f Head = f.head
frame_for f (Rotary i) = cond (eqb i 0) f.first f.second
frame_for f Unknown = identity

unfoldable pub placed : Frames → Ball → Ball
placed f b = carried_ball b.kind (map_point (frame_for f b.kind) b.middle) b.radius

-- ---- searched
unfoldable pub near : Ball → Ball → Bool
near a b = not (same_kind a.kind b.kind) && Ieee.lt (gap_vec a.middle b.middle) (plus a.radius b.radius)

-- the ball at i and the one so many behind it
abbrev pub pair_behind : ℕ → Option ℕ → Option LinkPair
pair_behind i (Some k) = Some (link_pair i (i + 1 + k))
pair_behind i None = None

-- the first of the later balls that is near the ball at i
abbrev pub pair_in : ℕ → List Ball → Option LinkPair
pair_in i [] = None
pair_in i (b ∷ later) = pair_behind i (position (near b) later)

unfoldable pub pair_of : List Ball → ℕ → Option LinkPair
pair_of l i = pair_in i (drop i l)

unfoldable pub pair_at : Prepared → List Ball → Joints → Option LinkPair
pair_at p l j = first_pair near 0 (map (placed (frames_at p j)) l)
