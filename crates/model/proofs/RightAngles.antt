-- A table C about Z at 90 degrees: `link_world` gives it a frame whose X axis is exactly Y, for the carrier `table` and
-- for the letter, whatever the pivot, the position, the limits and the model. By computing the definition.
use mathlib.Core.Path.{◌≡◌, refl, ap, ◌∙◌}
use mathlib.Core.List.{List, [], ◌∷◌}
use Prim.Native.Nat.{ℕ}
use lib.Ieee.{Float, add, sub, mul, div, neg, of_bits, le, lt, eq, round}
use Rattle.std.specs.Prelude.{Err, Ok, Option, Result}
use Rattle.refusal.specs.declared.Refusal.{Refusal}
use Rattle.float.specs.Helpers.{nought, one, size_of}
use Rattle.root.specs.Root.{root}
use Rattle.geometry.specs.declared.Vec3.{Vec3}
use Rattle.geometry.specs.declared.Rigid.{Rigid}
use Rattle.geometry.specs.Vector.{vector, dot, scale}
use Rattle.geometry.specs.Direction.{all_finite, tiny, with_length, unit_direction, unit_or}
use Rattle.geometry.specs.Turn.{turn_of, rotate_vector}
use Rattle.geometry.specs.Rigid.{identity}
use Rattle.geometry.proofs.RightAngles.{ninety, x_to_y}
use Rattle.chain.specs.declared.RotaryLimits.{RotaryLimits}
use Rattle.chain.specs.Checked.{Checked}
use Rattle.chain.specs.declared.Carrier.TheVariants as Carrier
use Rattle.chain.specs.declared.RotaryJoint.{RotaryJoint}
use Rattle.chain.specs.declared.Kinematics.{Kinematics}
use Rattle.chain.specs.declared.Joints.{Joints}
use Rattle.chain.specs.Forward.{table_vector}
use Rattle.chain.specs.Prepared.{prepared, spin_of, second_spin, unit_axis}
use Rattle.model.specs.Carrier.{table, carrier_kind, rotary_named}
use Rattle.model.specs.Text.{same_bytes}
use Rattle.model.specs.Frame.{turns_forth, table_map_direction, table_frame, rotary_at_index, through, rotary_frame, world_frame, placed_unless, frame_check, link_world}

abbrev X : Vec3
X = vector one nought nought

abbrev Y : Vec3
Y = vector nought one nought

abbrev Z : Vec3
Z = vector nought nought one

unit_z : unit_axis Z ≡ Z
unfolding unit_axis unit_or unit_direction all_finite tiny with_length root dot scale size_of add sub mul div neg of_bits le lt eq round
unit_z = refl

-- the X axis of a frame that is given is Y
abbrev pub XToY : Result Rigid Refusal → Type 0
XToY (Ok frame) = frame.axis_x ≡ Y
XToY (Err r) = Unit {0}

placed_x_to_y : (c : Checked) (frame : Rigid) → frame.axis_x ≡ Y → XToY (placed_unless c frame)
placed_x_to_y (Ok _) frame h = h
placed_x_to_y (Err r) frame h = tt

-- ---- the chain and the joints: the letter C is the byte 67
module _ (limits : Option RotaryLimits) (pivot spindle xyz : Vec3) (unused : RotaryJoint) (rest a1 : Float) where
  abbrev chain : Kinematics
  chain = record { count = 1; first = record { letter = 67; carrier = Carrier.Table; limits = limits; axis = Z; pivot = pivot; rest = rest }; second = unused; spindle_axis = spindle }

  abbrev joints : Joints
  joints = record { xyz = xyz; a0 = ninety; a1 = a1 }

  turned : rotate_vector (unit_axis Z) X (turn_of ninety) ≡ Y
  turned = ap (λ (axis : Vec3). rotate_vector axis X (turn_of ninety)) unit_z ∙ x_to_y

  turned_table : (world_frame chain joints table).axis_x ≡ Y
  unfolding carrier_kind same_bytes table_frame table_map_direction table_vector prepared spin_of second_spin turns_forth identity
  turned_table = turned

  letter_frame : (world_frame chain joints (67 ∷ [])).axis_x ≡ Y
  unfolding carrier_kind same_bytes rotary_named rotary_frame rotary_at_index through table_frame table_map_direction table_vector prepared spin_of second_spin turns_forth identity
  letter_frame = turned

  pub table_x_to_y : (name model : List ℕ) → XToY (link_world name chain model joints table)
  unfolding link_world
  table_x_to_y name model = placed_x_to_y (frame_check name chain model joints (carrier_kind chain table)) (world_frame chain joints table) turned_table

  pub letter_x_to_y : (name model : List ℕ) → XToY (link_world name chain model joints (67 ∷ []))
  unfolding link_world
  letter_x_to_y name model = placed_x_to_y (frame_check name chain model joints (carrier_kind chain (67 ∷ []))) (world_frame chain joints (67 ∷ [])) letter_frame
