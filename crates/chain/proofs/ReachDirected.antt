-- The axis that joints reach has a direction, for every chain that is not refused and for every two angles: a turn does
-- not make a vector small. So `forward_core` never falls back on the spindle.
use Prim.Native.Nat.{◌*◌}
use mathlib.Core.Path.{◌≡◌, ap}
use mathlib.Core.Bool.{true}
use lib.Ieee.{Float, neg}
use Rattle.std.specs.Prelude.{None, Ok, Option, Some}
use Rattle.geometry.specs.declared.Vec3.{Vec3}
use Rattle.geometry.specs.declared.Turn.{Turn}
use Rattle.geometry.specs.Turn.{rotate_vector}
use Rattle.geometry.specs.Direction.{unit_direction, unit_or}
use Rattle.geometry.proofs.UnitSize.{UnitSized}
use Rattle.geometry.proofs.TurnPair.{TurnSized, turn_pair}
use Rattle.geometry.proofs.TurnSteps.{ω}
use Rattle.geometry.proofs.Directed.{Out, unit_out, out_directed, one_directed, two_directed}
use Rattle.chain.specs.declared.Carrier.{Carrier}
use Rattle.chain.specs.declared.Carrier.TheVariants.{Table, Head}
use Rattle.chain.specs.declared.Spin.{Spin}
use Rattle.chain.specs.declared.Prepared.{Prepared}
use Rattle.chain.specs.declared.Kinematics.{Kinematics}
use Rattle.chain.specs.Check.{served, has_direction, chain_check}
use Rattle.chain.specs.Prepared.{prepared}
use Rattle.chain.specs.Forward.{of_second, by_second, still, swing, turns_of, by_head, by_table, head_vector, table_vector, reach_axis, reach, forward_core, posed}
use Rattle.chain.proofs.UnitAxes.{FitAxes, SecondUnit, UnitChain, chain_units}

-- ---- the turns
swing_sized : (m : Carrier) (angle : Float) → TurnSized (swing m angle)
swing_sized Table angle = turn_pair (neg angle)
swing_sized Head angle = turn_pair angle

-- ---- two rotaries of each carrier: those that move the vector, a head on the way out or a table on the way back, turn
-- it once each
abbrev head : Carrier → Vec3 → Turn → Vec3 → Vec3
head m a t v = by_head m (rotate_vector a v t) v

abbrev table : Carrier → Vec3 → Turn → Vec3 → Vec3
table m a t v = by_table m (rotate_vector a v t) v

moved : (m n : Carrier) (a b spindle : Vec3) (t s : Turn) → UnitSized a → UnitSized b → TurnSized t → TurnSized s → Out 2 (41616 * (41616 * (8 * ω))) spindle
    → Out 10000 (8 * ω) (table n b s (table m a t (head m a t (head n b s spindle))))
moved Table Table a b w t s A B T S o = two_directed a b w t s A T B S o
moved Table Head a b w t s A B T S o = two_directed b a w s t B S A T o
moved Head Table a b w t s A B T S o = two_directed a b w t s A T B S o
moved Head Head a b w t s A B T S o = two_directed b a w s t B S A T o

-- and one alone
moved_one : (m : Carrier) (a spindle : Vec3) (t : Turn) → UnitSized a → TurnSized t → Out 2 (41616 * (41616 * (8 * ω))) spindle → Out 10000 (8 * ω) (table m a t (head m a t spindle))
moved_one Table a w t A T o = one_directed a w t A T o
moved_one Head a w t A T o = one_directed a w t A T o

-- ---- a prepared chain
counted : (first : Spin) (spindle : Vec3) (a0 a1 : Float) → UnitSized first.axis → Out 2 (41616 * (41616 * (8 * ω))) spindle → (o : Option Spin) → SecondUnit o
    → Out 10000 (8 * ω) (by_second o (λ s. table_vector s (of_second o still (λ s. swing s.carrier a1))) (table_vector first (swing first.carrier a0) (head_vector first (swing first.carrier a0) (by_second o (λ s. head_vector s (of_second o still (λ s. swing s.carrier a1))) spindle))))
unfolding head_vector table_vector
counted first w a0 a1 A o (Some s) B = moved first.carrier s.carrier first.axis s.axis w (swing first.carrier a0) (swing s.carrier a1) A B (swing_sized first.carrier a0) (swing_sized s.carrier a1) o
counted first w a0 a1 A o None B = moved_one first.carrier first.axis w (swing first.carrier a0) A (swing_sized first.carrier a0) o

reached : (p : Prepared) → UnitChain p → (a0 a1 : Float) → Out 10000 (8 * ω) (reach_axis p (turns_of p a0 a1))
unfolding reach_axis turns_of
reached p C a0 a1 = counted p.first p.spindle a0 a1 C.first (unit_out p.spindle C.spindle_fits C.spindle) p.second C.second

-- ---- the laws
unit_has_direction : (v u : Vec3) → unit_direction v ≡ Some u → has_direction v ≡ true
unfolding has_direction
unit_has_direction v u e = ap served e

pub reach_directed : (k : Kinematics) → FitAxes k → chain_check k ≡ Ok tt → (a0 a1 : Float) → has_direction (reach_axis (prepared k) (turns_of (prepared k) a0 a1)) ≡ true
reach_directed k F h a0 a1 = unit_has_direction _ _ (out_directed _ (reached (prepared k) (chain_units k F h) a0 a1))

-- forward refuses an axis without a direction, and `forward_core` puts the spindle in its place: neither happens, so
-- they give one pose
pub core_served : (p : Prepared) → UnitChain p → (a0 a1 : Float) (xyz : Vec3) (tool : Float) → posed (reach p (turns_of p a0 a1) xyz tool) ≡ Ok (forward_core p (turns_of p a0 a1) xyz tool)
unfolding posed forward_core reach unit_or
core_served p C a0 a1 xyz tool = rw (out_directed _ (reached p C a0 a1))

pub core_directed : (p : Prepared) → UnitChain p → (a0 a1 : Float) (xyz : Vec3) (tool : Float) → unit_direction (reach_axis p (turns_of p a0 a1)) ≡ Some (forward_core p (turns_of p a0 a1) xyz tool).axis
unfolding forward_core reach unit_or
core_directed p C a0 a1 xyz tool = rw (out_directed _ (reached p C a0 a1))
