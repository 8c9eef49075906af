-- Words of inner functions' contracts alone: no export's contract cites them.
use Rattle.std.specs.Prelude.{ℕ, ◌≡◌, ◌&&◌, cond, List, eqb, length, Float, Err, Ok, Result}
use Rattle.geometry.specs.declared.Rigid.{Rigid}
use Rattle.refusal.specs.declared.Refusal.{Refusal}
use Rattle.refusal.specs.Numbers.{refusal}
use Rattle.refusal.specs.declared.Cause.{Cause}
use Rattle.chain.specs.declared.Joints.{Joints}
use Rattle.chain.specs.declared.Kinematics.{Kinematics}
use Rattle.chain.specs.ChainBytes.{read_chain}
use Rattle.maztubel.specs.Lent.{joints_in}

-- what a function of the chain and the joints that are lent answers, or the first refusal
abbrev pub placed_read : (Kinematics → Joints → Result Rigid Refusal) → Result Kinematics Refusal → Joints → Result Rigid Refusal
placed_read place (Err r) j = Err r
placed_read place (Ok k) j = place k j

abbrev pub placed_by : (Kinematics → Joints → Result Rigid Refusal) → List ℕ → List Float → ℕ → Result Rigid Refusal
placed_by place chain joints room =
    cond (eqb (length joints) 5 && eqb room 12) (placed_read place (read_chain chain) (joints_in joints)) (Err (refusal Cause.LengthsDiffer 0))

-- r is that, whichever function the calls compute
abbrev pub LinkAsked : (Kinematics → Joints → Result Rigid Refusal → Type 0) → List ℕ → List Float → ℕ → Result Rigid Refusal → Type 0
LinkAsked Called chain joints room r =
    (place : Kinematics → Joints → Result Rigid Refusal) → ((k : Kinematics) (j : Joints) (p : Result Rigid Refusal) → Called k j p → p ≡ place k j) → r ≡ placed_by place chain joints room
