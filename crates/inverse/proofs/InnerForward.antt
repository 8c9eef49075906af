-- Forward as the Rust calls it inside inverse, choose, solve_path and division, where the chain is checked: 16 for an
-- angle that is not finite, turns made of a sine and a cosine, and 9 for an axis without a direction. Within 45,000
-- degrees it refuses nothing, and its pose is that of `forward_core`, which has a fallback for each of the three
-- (`inner_forward`).
use mathlib.Core.Path.{◌≡◌, sym, ap, ◌∙◌}
use mathlib.Core.Bool.{cond, ◌&&◌}
use lib.Ieee.{Float}
use lib.Ieee.Scale.{finite}
use Rattle.std.specs.Prelude.{Err, Ok, Result}
use Rattle.refusal.specs.declared.Refusal.{Refusal}
use Rattle.refusal.specs.Numbers.{refusal}
use Rattle.refusal.specs.declared.Cause.{Cause}
use Rattle.geometry.specs.declared.Vec3.{Vec3}
use Rattle.chain.specs.declared.ToolPose.{ToolPose}
use Rattle.chain.specs.declared.Joints.{Joints}
use Rattle.chain.specs.declared.Prepared.{Prepared}
use Rattle.chain.specs.declared.Turns.{Turns}
use Rattle.chain.specs.Forward.{turns_of, reach, forward_core, posed, position}
use Rattle.chain.proofs.NeverFallback.{plain_turns, plain_tables, turns_plain, tables_plain}
use Rattle.chain.proofs.ReachDirected.{core_served}
use Rattle.chain.proofs.UnitAxes.{UnitChain}
use Rattle.inverse.specs.Inverse.{joints_at}
use Rattle.inverse.specs.declared.Angles.{Angles}
use Rattle.inverse.proofs.AngleBounds.{BothTurnable}

unfoldable pub inner_forward : Prepared → Angles → Vec3 → Float → Result ToolPose Refusal
inner_forward p a xyz tool = cond (finite a.a0 && finite a.a1) (posed (reach p (plain_turns p a.a0 a.a1) xyz tool)) (Err (refusal Cause.NotFinite 0))

pub inner_forward_is : (p : Prepared) → UnitChain p → (a : Angles) → BothTurnable a → (xyz : Vec3) (tool : Float) → inner_forward p a xyz tool ≡ Ok (forward_core p (turns_of p a.a0 a.a1) xyz tool)
unfolding inner_forward
inner_forward_is p C a A xyz tool =
    rw (A.0.number, A.1.number)
    (ap (λ (t : Turns). posed (reach p t xyz tool)) (sym (turns_plain p a.a0 a.a1 A.0 A.1)) ∙ core_served p C a.a0 a.a1 xyz tool)

-- the joints that put the tip on its place, with the tables turned forth by a sine and a cosine
abbrev pub plain_joints : Prepared → Angles → Vec3 → Vec3 → Joints
plain_joints p a tip tip0 = record { xyz = position p (plain_tables p a.a0 a.a1) tip tip0; a0 = a.a0; a1 = a.a1 }

pub joints_plain : (p : Prepared) (a : Angles) → BothTurnable a → (tip tip0 : Vec3) → joints_at p a tip tip0 ≡ plain_joints p a tip tip0
unfolding joints_at
joints_plain p a A tip tip0 = ap (λ (t : Turns). record { xyz = position p t tip tip0; a0 = a.a0; a1 = a.a1 }) (tables_plain p a.a0 a.a1 A.0 A.1)
