-- The axis that joints reach on a checked chain has finite numbers: `reached_finite`.
use mathlib.Core.Path.{◌≡◌}
use mathlib.Core.Bool.{true}
use Rattle.std.specs.Prelude.{None, Ok, Option, Some}
use Rattle.geometry.specs.declared.Vec3.{Vec3}
use Rattle.geometry.specs.declared.Turn.{Turn}
use Rattle.geometry.specs.Turn.{rotate_vector}
use Rattle.geometry.specs.Direction.{all_finite}
use Rattle.geometry.specs.Doubles.{FitVec}
use Rattle.geometry.proofs.FitVectors.{added_fits, unit_or_fits}
use Rattle.refusal.specs.declared.Cause.{Cause}
use Rattle.chain.specs.declared.Joints.{Joints}
use Rattle.chain.specs.declared.Kinematics.{Kinematics}
use Rattle.chain.specs.declared.Carrier.{Carrier}
use Rattle.chain.specs.declared.Carrier.TheVariants.{Table, Head}
use Rattle.chain.specs.declared.Prepared.{Prepared}
use Rattle.chain.specs.declared.Spin.{Spin}
use Rattle.chain.specs.declared.Turns.{Turns}
use Rattle.chain.specs.Check.{demand, chain_check, rotary_check, second_check, one_or_two}
use Rattle.chain.specs.Forward.{by_second, by_head, by_table, head_vector, table_vector, reach_axis, reach, forward_core, turns_of}
use Rattle.chain.specs.Prepared.{unit_axis, prepared}
use Rattle.chain.proofs.Passing.{then_passed, demand_passed}
use Rattle.path.specs.Solving.{path_chain}
use Rattle.middle.specs.Testing.{pose_of}
use Rattle.looser.proofs.UnitFinite.{unit_or_finite}

rotated_fits : (axis v : Vec3) (t : Turn) → FitVec (rotate_vector axis v t)
unfolding rotate_vector
rotated_fits axis v t = added_fits _ _

head_fits : (s : Spin) (t : Turn) (v : Vec3) → FitVec v → FitVec (head_vector s t v)
unfolding head_vector
head_fits s t v f = go s.carrier
  where
    go : (m : Carrier) → FitVec (by_head m (rotate_vector s.axis v t) v)
    go Head = rotated_fits s.axis v t
    go Table = f

table_fits : (s : Spin) (t : Turn) (v : Vec3) → FitVec v → FitVec (table_vector s t v)
unfolding table_vector
table_fits s t v f = go s.carrier
  where
    go : (m : Carrier) → FitVec (by_table m (rotate_vector s.axis v t) v)
    go Table = rotated_fits s.axis v t
    go Head = f

-- of the second rotary, where there is one
second_fits : (o : Option Spin) (move : Spin → Vec3 → Vec3) (v : Vec3) → FitVec v → ((s : Spin) → FitVec (move s v)) → FitVec (by_second o move v)
second_fits (Some s) move v f g = g s
second_fits None move v f g = f

reached_fits : (p : Prepared) (t : Turns) → FitVec p.spindle → FitVec (reach_axis p t)
unfolding reach_axis
reached_fits p t f =
    let tool = second_fits p.second (λ s. head_vector s t.second) p.spindle f (λ s. head_fits s t.second p.spindle f) in
    let part = table_fits p.first t.first _ (head_fits p.first t.first _ tool) in
    second_fits p.second (λ s. table_vector s t.second) _ part (λ s. table_fits s t.second _ part)

-- ---- the spindle: of a vector of doubles
spindle_finite : (k : Kinematics) → path_chain k ≡ Ok tt → all_finite k.spindle_axis ≡ true
unfolding path_chain chain_check
spindle_finite k e =
    let z = then_passed (chain_check k) _ e in
    let a = then_passed (demand (one_or_two k.count) Cause.RotaryCount 0) _ z.0 in
    let b = then_passed (rotary_check k.first None 0) _ a.1 in
    let c = then_passed (second_check k) _ b.1 in
    let d = then_passed (demand (all_finite k.spindle_axis) Cause.ChainNotFinite 0) _ c.1 in
    demand_passed (all_finite k.spindle_axis) Cause.ChainNotFinite 0 d.0

module _ (k : Kinematics) (passed : path_chain k ≡ Ok tt) (fit : FitVec k.spindle_axis) where
  spindle_fits : FitVec (prepared k).spindle
  unfolding prepared unit_axis
  spindle_fits = unit_or_fits k.spindle_axis k.spindle_axis fit

  spindle_numbers : all_finite (prepared k).spindle ≡ true
  unfolding prepared unit_axis
  spindle_numbers = unit_or_finite k.spindle_axis k.spindle_axis fit (spindle_finite k passed)

  pub reached_finite : (j : Joints) → all_finite (pose_of (prepared k) j).axis ≡ true
  unfolding pose_of forward_core reach
  reached_finite j = unit_or_finite (reach_axis (prepared k) (turns_of (prepared k) j.a0 j.a1)) (prepared k).spindle (reached_fits (prepared k) _ spindle_fits) spindle_numbers
