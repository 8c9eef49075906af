-- Vectors written over lent numbers: each as three numbers in a row, and over the whole of a lent buffer they leave nothing
-- of it.
use Prim.Native.Nat.{ℕ}
use native.Mathlib.Numerals.{towards_suc}
use native.Mathlib.Omega.{arith}
use mathlib.Core.Path.{◌≡◌, refl}
use mathlib.Core.List.{List, [], ◌∷◌}
use lib.ListN.{length}
use lib.Seq.{sets}
use lib.Ieee.{Float}
use Rattle.geometry.specs.declared.Vec3.{Vec3}
use Rattle.geometry.specs.declared.Rigid.{Rigid}
use Rattle.chain.specs.declared.ToolPose.{ToolPose}
use Rattle.maztubel.specs.Lent.{vector_over}
use Rattle.maztubel.specs.ChainEntries.{pose_numbers}
use Rattle.maztubel.specs.LinkEntries.{frame_numbers}

pub vector_sets : (v : Vec3) (l : List Float) (at : ℕ) → vector_over v l at ≡ sets l at (v.x ∷ v.y ∷ v.z ∷ [])
unfolding vector_over
vector_sets v l at = simp towards_suc

pub pose_written : (p : ToolPose) (l : List Float) → length l ≡ 6 → vector_over p.axis (vector_over p.tip l 0) 3 ≡ pose_numbers p
unfolding vector_over pose_numbers
pose_written p [] e = absurd (omega arith)
pose_written p (a ∷ []) e = absurd (omega arith)
pose_written p (a ∷ b ∷ []) e = absurd (omega arith)
pose_written p (a ∷ b ∷ c ∷ []) e = absurd (omega arith)
pose_written p (a ∷ b ∷ c ∷ d ∷ []) e = absurd (omega arith)
pose_written p (a ∷ b ∷ c ∷ d ∷ f ∷ []) e = absurd (omega arith)
pose_written p (a ∷ b ∷ c ∷ d ∷ f ∷ g ∷ []) e = refl
pose_written p (a ∷ b ∷ c ∷ d ∷ f ∷ g ∷ h ∷ l) e = absurd (omega arith)

pub frame_written : (r : Rigid) (l : List Float) → length l ≡ 12
    → vector_over r.axis_z (vector_over r.axis_y (vector_over r.axis_x (vector_over r.origin l 0) 3) 6) 9 ≡ frame_numbers r
unfolding vector_over frame_numbers
frame_written r [] e = absurd (omega arith)
frame_written r (a ∷ []) e = absurd (omega arith)
frame_written r (a ∷ b ∷ []) e = absurd (omega arith)
frame_written r (a ∷ b ∷ c ∷ []) e = absurd (omega arith)
frame_written r (a ∷ b ∷ c ∷ d ∷ []) e = absurd (omega arith)
frame_written r (a ∷ b ∷ c ∷ d ∷ f ∷ []) e = absurd (omega arith)
frame_written r (a ∷ b ∷ c ∷ d ∷ f ∷ g ∷ []) e = absurd (omega arith)
frame_written r (a ∷ b ∷ c ∷ d ∷ f ∷ g ∷ h ∷ []) e = absurd (omega arith)
frame_written r (a ∷ b ∷ c ∷ d ∷ f ∷ g ∷ h ∷ i ∷ []) e = absurd (omega arith)
frame_written r (a ∷ b ∷ c ∷ d ∷ f ∷ g ∷ h ∷ i ∷ j ∷ []) e = absurd (omega arith)
frame_written r (a ∷ b ∷ c ∷ d ∷ f ∷ g ∷ h ∷ i ∷ j ∷ k ∷ []) e = absurd (omega arith)
frame_written r (a ∷ b ∷ c ∷ d ∷ f ∷ g ∷ h ∷ i ∷ j ∷ k ∷ m ∷ []) e = absurd (omega arith)
frame_written r (a ∷ b ∷ c ∷ d ∷ f ∷ g ∷ h ∷ i ∷ j ∷ k ∷ m ∷ n ∷ []) e = refl
frame_written r (a ∷ b ∷ c ∷ d ∷ f ∷ g ∷ h ∷ i ∷ j ∷ k ∷ m ∷ n ∷ o ∷ l) e = absurd (omega arith)
