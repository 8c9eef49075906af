-- The entries of a model ask for a frame by one function of the chain and the joints: what that answers is what `link_of`
-- says.
use Prim.Native.Nat.{ℕ}
use mathlib.Core.Path.{◌≡◌, refl, ap}
use mathlib.Core.Bool.{◌&&◌, cond}
use mathlib.Core.List.{List}
use lib.Dec.{eqb}
use lib.ListN.{length}
use lib.Ieee.{Float}
use Rattle.std.specs.Prelude.{Err, Ok, Result}
use Rattle.geometry.specs.declared.Rigid.{Rigid}
use Rattle.refusal.specs.declared.Refusal.{Refusal}
use Rattle.refusal.specs.Numbers.{refusal}
use Rattle.refusal.specs.declared.Cause.{Cause}
use Rattle.chain.specs.declared.Kinematics.{Kinematics}
use Rattle.chain.specs.declared.Joints.{Joints}
use Rattle.chain.specs.ChainBytes.{read_chain}
use Rattle.maztubel.specs.Lent.{joints_in}
use Rattle.maztubel.specs.LinkEntries.{Link, link_read, link_of}
use Rattle.maztubel.specs.Steps.{placed_read, placed_by}

module _ (link : Link) (name model carrier : List ℕ) where
  read_alike : (read : Result Kinematics Refusal) (j : Joints) → placed_read (λ k i. link name k model i carrier) read j ≡ link_read link read name model j carrier
  read_alike (Err r) j = refl
  read_alike (Ok k) j = refl

  pub asked_alike : (chain : List ℕ) (joints : List Float) (room : ℕ) → placed_by (λ k j. link name k model j carrier) chain joints room ≡ link_of link name chain model joints carrier room
  unfolding link_of
  asked_alike chain joints room =
      ap (λ (p : Result Rigid Refusal). cond (eqb (length joints) 5 && eqb room 12) p (Err (refusal Cause.LengthsDiffer 0))) (read_alike (read_chain chain) (joints_in joints))
