-- Forward: tip = T⁻¹ (xyz + H (-L spindle)), axis = T⁻¹ H spindle, normalised, for the heads H = H1 H2 and the tables
-- T = T1 T2, outer joint first. Turning back is the turn by the negated angle.
use Rattle.std.specs.Prelude.{Bool, not, ◌&&◌, [], ◌∷◌, Float, Err, None, Ok, Option, Result, Some}
use Rattle.std.specs.Float.Ieee as Ieee
use Rattle.std.specs.Float.Ieee.Scale.{finite}
use Rattle.float.specs.Helpers.{nought}
use Rattle.geometry.specs.declared.Vec3.{Vec3}
use Rattle.geometry.specs.declared.Turn.{Turn}
use Rattle.geometry.specs.Vector.{add, sub, scale}
use Rattle.geometry.specs.Turn.{turn_of, turned_back, rotate_vector, rotate_point}
use Rattle.geometry.specs.Turn as Turning
use Rattle.geometry.specs.Direction.{unit_direction, unit_or}
use Rattle.refusal.specs.declared.Refusal.{Refusal}
use Rattle.refusal.specs.Numbers.{refusal}
use Rattle.refusal.specs.declared.Cause.{Cause}
use Rattle.chain.specs.Checked.{Checked}
use Rattle.chain.specs.declared.Carrier.{Carrier}
use Rattle.chain.specs.declared.Carrier.TheVariants.{Table, Head}
use Rattle.chain.specs.declared.Spin.{Spin}
use Rattle.chain.specs.declared.Prepared.{Prepared}
use Rattle.chain.specs.declared.Turns.{Turns}
use Rattle.chain.specs.declared.Joints.{Joints}
use Rattle.chain.specs.declared.ToolPose.{ToolPose}
use Rattle.chain.specs.declared.Kinematics.{Kinematics}
use Rattle.chain.specs.Check.{demand, first_refusal, chain_check, within, longest, joints_finite, joints_within, chain_within}
use Rattle.chain.specs.Prepared.{prepared}

-- of the second rotary, where there is one
abbrev pub of_second : {A : Type 0} → Option Spin → A → (Spin → A) → A
of_second (Some s) without with = with s
of_second None without with = without

-- what it makes of a point or a vector
abbrev pub by_second : Option Spin → (Spin → Vec3 → Vec3) → Vec3 → Vec3
by_second s move v = of_second s v (λ s. move s v)

-- ---- the turns
abbrev pub still : Turn
still = Turning.still

-- a head by its angle, a table by the negated one
abbrev pub forward_angle : Carrier → Float → Float
forward_angle Table angle = Ieee.neg angle
forward_angle Head angle = angle

-- by what makes a turn of an angle
abbrev pub turns_by : (Float → Turn) → Prepared → Float → Float → Turns
turns_by turn p a0 a1 = record { first = turn (forward_angle p.first.carrier a0); second = of_second p.second still (λ s. turn (forward_angle s.carrier a1)) }

abbrev pub swing : Carrier → Float → Turn
swing c angle = turn_of (forward_angle c angle)

unfoldable pub turns_of : Prepared → Float → Float → Turns
turns_of p a0 a1 = turns_by turn_of p a0 a1

-- the tables forth, for the position
abbrev pub swing_forth : Carrier → Float → Turn
swing_forth Table angle = turn_of angle
swing_forth Head angle = still

unfoldable pub tables_forth : Prepared → Float → Float → Turns
tables_forth p a0 a1 = record { first = swing_forth p.first.carrier a0; second = of_second p.second still (λ s. swing_forth s.carrier a1) }

-- the same, from the turns by which forward moves the rotaries: a table's is the turn back
abbrev pub swing_from : Carrier → Turn → Turn
swing_from Table back = turned_back back
swing_from Head back = still

unfoldable pub forth_from : Prepared → Turns → Turns
forth_from p back = record { first = swing_from p.first.carrier back.first; second = of_second p.second still (λ s. swing_from s.carrier back.second) }

-- ---- one rotary: a head moves what is on the tool side, a table what is on the part side
abbrev pub by_head : {A : Type 0} → Carrier → A → A → A
by_head Head moved unmoved = moved
by_head Table moved unmoved = unmoved

abbrev pub by_table : {A : Type 0} → Carrier → A → A → A
by_table Table moved unmoved = moved
by_table Head moved unmoved = unmoved

unfoldable pub head_point : Spin → Turn → Vec3 → Vec3
head_point s turn p = by_head s.carrier (rotate_point s.axis s.pivot p turn) p

unfoldable pub head_vector : Spin → Turn → Vec3 → Vec3
head_vector s turn v = by_head s.carrier (rotate_vector s.axis v turn) v

unfoldable pub table_point : Spin → Turn → Vec3 → Vec3
table_point s turn p = by_table s.carrier (rotate_point s.axis s.pivot p turn) p

unfoldable pub table_vector : Spin → Turn → Vec3 → Vec3
table_vector s turn v = by_table s.carrier (rotate_vector s.axis v turn) v

-- ---- the chain: heads from the inner joint outwards, then tables back from the outer joint inwards
-- by the inner rotary and then the first, where f is how a rotary takes a vector along; and by the first and then the
-- inner one
abbrev pub carried : (Spin → Turn → Vec3 → Vec3) → Prepared → Turns → Vec3 → Vec3
carried f p t v = f p.first t.first (by_second p.second (λ s. f s t.second) v)

abbrev pub carried_back : (Spin → Turn → Vec3 → Vec3) → Prepared → Turns → Vec3 → Vec3
carried_back f p t v = by_second p.second (λ s. f s t.second) (f p.first t.first v)

unfoldable pub reach_axis : Prepared → Turns → Vec3
reach_axis p t =
    by_second p.second (λ s. table_vector s t.second)
    (table_vector p.first t.first
    (head_vector p.first t.first (by_second p.second (λ s. head_vector s t.second) p.spindle)))

unfoldable pub reach : Prepared → Turns → Vec3 → Float → ToolPose
reach p t xyz tool = record {
  tip =
      by_second p.second (λ s. table_point s t.second)
      (table_point p.first t.first
      (add xyz (head_point p.first t.first (by_second p.second (λ s. head_point s t.second) (scale p.spindle (Ieee.neg tool))))));
  axis = reach_axis p t;
}

-- total: where the reached axis has no direction, the unit spindle
unfoldable pub forward_core : Prepared → Turns → Vec3 → Float → ToolPose
forward_core p t xyz tool = record { tip = (reach p t xyz tool).tip; axis = unit_or (reach p t xyz tool).axis p.spindle }

-- the same at joints
abbrev pub pose_at : Prepared → Joints → Float → ToolPose
pose_at p j tool = forward_core p (turns_of p j.a0 j.a1) j.xyz tool

-- the gauge position for a tip, from the tip that forward reaches at position zero; the tables turned forth
unfoldable pub position : Prepared → Turns → Vec3 → Vec3 → Vec3
position p forth tip tip0 = table_vector p.first forth.first (by_second p.second (λ s. table_vector s forth.second) (sub tip tip0))

-- ---- the entry
unfoldable pub length_good : Float → Bool
length_good tool = finite tool && not (Ieee.lt tool nought)

unfoldable pub forward_sizes : Kinematics → Joints → Float → Bool
forward_sizes k j tool = within tool longest && joints_within j && chain_within k

unfoldable pub forward_check : Kinematics → Joints → Float → Checked
forward_check k j tool =
    first_refusal
    (demand (length_good tool) Cause.ToolLength 0
    ∷ chain_check k
    ∷ demand (joints_finite j) Cause.NotFinite 0
    ∷ demand (forward_sizes k j tool) Cause.TooLarge 0
    ∷ [])

abbrev pub with_axis : Vec3 → Option Vec3 → Result ToolPose Refusal
with_axis tip (Some axis) = Ok (record { tip = tip; axis = axis })
with_axis tip None = Err (refusal Cause.SpindleZero 0)

unfoldable pub posed : ToolPose → Result ToolPose Refusal
posed reached = with_axis reached.tip (unit_direction reached.axis)

abbrev pub unless_refused : Checked → Result ToolPose Refusal → Result ToolPose Refusal
unless_refused (Ok _) answer = answer
unless_refused (Err r) answer = Err r

unfoldable pub forward : Kinematics → Joints → Float → Result ToolPose Refusal
forward k j tool =
    unless_refused (forward_check k j tool) (posed (reach (prepared k) (turns_of (prepared k) j.a0 j.a1) j.xyz tool))

-- the same of a chain's bytes, read
abbrev pub forward_read : Result Kinematics Refusal → Joints → Float → Result ToolPose Refusal
forward_read (Err r) j tool = Err r
forward_read (Ok k) j tool = forward k j tool
