-- Link frames take no fallback, whatever they are asked, once their checks pass: `link_plain`, for `link_world` and
-- `link_in_part` alike, which share their checks and their turns.
use mathlib.Core.Path.{◌≡◌, ap, ◌∙◌}
use mathlib.Core.Bool.{true, ◌&&◌, and-eq-true_iff}
use mathlib.Core.List.{List}
use Prim.Native.Nat.{ℕ}
use Rattle.std.specs.Prelude.{Ok}
use Rattle.refusal.specs.declared.Cause.{Cause}
use Rattle.geometry.specs.declared.Turn.{Turn}
use Rattle.geometry.specs.Turn.{turn_of}
use Rattle.geometry.proofs.Range.{plain_turn, turn_served}
use Rattle.chain.specs.declared.Joints.{Joints}
use Rattle.chain.specs.declared.Kinematics.{Kinematics}
use Rattle.chain.specs.Check.{demand, then, chain_check, joints_finite, joints_within, chain_within}
use Rattle.chain.proofs.Passing.{then_passed, demand_passed}
use Rattle.chain.proofs.UnitAxes.{ChainDirections, chain_directions}
use Rattle.chain.proofs.NeverFallback.{TurnableJoints, joints_turn}
use Rattle.model.specs.declared.LinkKind.{LinkKind}
use Rattle.model.specs.Carrier.{known}
use Rattle.model.specs.Model.{model_fields}
use Rattle.model.specs.ModelCheck.{name_check, links_check, full_check}
use Rattle.model.specs.Frame.{turns_forth, frame_sizes, frame_check}

-- both turns are made of a sine and a cosine
plain_turns : (j : Joints) → TurnableJoints j → turns_forth j.a0 j.a1 ≡ record { first = plain_turn j.a0; second = plain_turn j.a1 }
unfolding turns_forth
plain_turns j t =
    ap (λ (a : Turn). record { first = a; second = turn_of j.a1 }) (turn_served j.a0 t.first.forth)
    ∙ ap (λ (b : Turn). record { first = plain_turn j.a0; second = b }) (turn_served j.a1 t.second.forth)

full_chain : (name : List ℕ) (k : Kinematics) (bytes : List ℕ) → full_check name k bytes ≡ Ok tt → chain_check k ≡ Ok tt
unfolding full_check
full_chain name k bytes h =
    let a = (then_passed (model_fields bytes) (then (name_check name) (then (chain_check k) (links_check k bytes))) h).1 in
    (then_passed (chain_check k) (links_check k bytes) (then_passed (name_check name) (then (chain_check k) (links_check k bytes)) a).1).0

record FramePassed (k : Kinematics) (j : Joints) (kind : LinkKind) : Type 0 where
  chain : chain_check k ≡ Ok tt
  kind_known : known kind ≡ true
  joints : joints_within j ≡ true

frame_passed : (name : List ℕ) (k : Kinematics) (bytes : List ℕ) (j : Joints) (kind : LinkKind) → frame_check name k bytes j kind ≡ Ok tt → FramePassed k j kind
unfolding frame_check frame_sizes
frame_passed name k bytes j kind h =
    let numbers = demand (joints_finite j) Cause.NotFinite 0 in
    let carrier = demand (known kind) Cause.CarrierUnknown 0 in
    let sizes = demand (joints_within j && chain_within k) Cause.TooLarge 0 in
    let a = then_passed (full_check name k bytes) (then numbers (then carrier sizes)) h in
    let b = then_passed carrier sizes (then_passed numbers (then carrier sizes) a.1).1 in
    record {
      chain = full_chain name k bytes a.0;
      kind_known = demand_passed (known kind) Cause.CarrierUnknown 0 b.0;
      joints = ((and-eq-true_iff (joints_within j) (chain_within k)).0 (demand_passed (joints_within j && chain_within k) Cause.TooLarge 0 b.1)).0;
    }

-- What holds where the checks pass. `axes`: the rotaries turn about the unit vectors of the given axes. `turns`: both
-- turns are made of a sine and a cosine. `carried`: the carrier is known, so the frame is not the identity that stands
-- for an unknown one.
pub record FramePlain (k : Kinematics) (j : Joints) (kind : LinkKind) : Type 0 where
  pub axes : ChainDirections k
  pub turns : turns_forth j.a0 j.a1 ≡ record { first = plain_turn j.a0; second = plain_turn j.a1 }
  pub carried : known kind ≡ true

pub link_plain : (name : List ℕ) (k : Kinematics) (bytes : List ℕ) (j : Joints) (kind : LinkKind) → frame_check name k bytes j kind ≡ Ok tt → FramePlain k j kind
link_plain name k bytes j kind h =
    let p = frame_passed name k bytes j kind h in
    record { axes = chain_directions k p.chain; turns = plain_turns j (joints_turn j p.joints); carried = p.kind_known }
