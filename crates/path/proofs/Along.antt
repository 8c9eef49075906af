-- A path that is solved has a joint set for each pose.
use Prim.Native.Nat.{ℕ, suc, ◌/◌}
use mathlib.Core.Path.{◌≡◌, refl, sym, ap, ◌∙◌}
use mathlib.Core.Bool.{Bool, true, false, false≢true}
use mathlib.Core.List.{List, [], ◌∷◌}
use lib.Ieee.{Float}
use lib.ListN.{length}
use Rattle.std.specs.Prelude.{Err, Ok, Option, Result}
use Rattle.lists.proofs.Rows.{length_rows}
use Rattle.refusal.specs.declared.Cause.{Cause}
use Rattle.refusal.specs.declared.Refusal.{Refusal}
use Rattle.chain.specs.Checked.{Checked}
use Rattle.chain.proofs.Passing.{refused_passed}
use Rattle.chain.specs.declared.Joints.{Joints}
use Rattle.chain.specs.declared.Kinematics.{Kinematics}
use Rattle.chain.specs.declared.ToolPose.{ToolPose}
use Rattle.inverse.specs.declared.Angles.{Angles}
use Rattle.path.specs.Exact.{angles_of}
use Rattle.path.specs.Posing.{pose_answer}
use Rattle.path.specs.Solving.{PathAnswer, Along, AtPose, Kept, pose_from, poses_in, then_on, with_pose, solve_poses, unless_kept, solve_check, solve_checked, solve_path, checked_in}
use Rattle.path.specs.declared.Setup.{Setup}

abbrev is_along : PathAnswer → Bool
is_along (Along l) = true
is_along (AtPose r) = false
is_along (Kept r) = false

abbrev along_in : PathAnswer → List Joints
along_in (Along l) = l
along_in (AtPose r) = []
along_in (Kept r) = []

abbrev none : Refusal
none = record { cause = Cause.PoseUnreachable; at = 0; letter = 0 }

abbrev refusal_of : Checked → Refusal
refusal_of (Ok _) = none
refusal_of (Err r) = r

-- as many joint sets as n, where there are any
abbrev AsLong : ℕ → PathAnswer → Type 0
AsLong n answer = (l : List Joints) → answer ≡ Along l → length l ≡ n

on_long : (j : Joints) (n : ℕ) (answer : PathAnswer) → AsLong n answer → AsLong (suc n) (then_on j answer)
on_long j n (Along m) h l e = ap length (sym (ap along_in e)) ∙ ap suc (h m refl)
on_long j n (AtPose r) h l e = absurd (false≢true (ap is_along e))
on_long j n (Kept r) h l e = absurd (false≢true (ap is_along e))

with_long : (n : ℕ) (answer : Result Joints Refusal) (rest : Joints → PathAnswer) → ((j : Joints) → AsLong n (rest j)) → AsLong (suc n) (with_pose answer rest)
with_long n (Ok j) rest h l e = on_long j n (rest j) (h j) l e
with_long n (Err r) rest h l e = absurd (false≢true (ap is_along e))

poses_long : (s : Setup) (poses : List ToolPose) (previous : Angles) (i : ℕ) → AsLong (length poses) (solve_poses s previous i poses)
unfolding solve_poses
poses_long s [] previous i l e = ap length (sym (ap along_in e))
poses_long s (pose ∷ poses) previous i l e = with_long (length poses) (pose_answer s pose previous i) _ (λ j. poses_long s poses (angles_of j) (suc i)) l e

kept_long : (n : ℕ) (c : Checked) (answer : PathAnswer) → AsLong n answer → AsLong n (unless_kept c answer)
kept_long n (Ok _) answer h l e = h l e
kept_long n (Err r) answer h l e = absurd (false≢true (ap is_along e))

pub along_long : (k : Kinematics) (poses : List Float) (start : Option Joints) (cone : Float) (room : ℕ) (l : List Joints) → solve_path k poses start cone room ≡ Along l → length l ≡ length poses / 6
unfolding solve_path solve_checked poses_in
along_long k poses start cone room l e =
    kept_long (length (poses_in poses)) (solve_check k start cone (length poses) room) _ (poses_long _ (poses_in poses) _ 0) l e ∙ length_rows 6 pose_from (length poses / 6) poses

-- ---- and is never refused without a pose once its checks have passed
abbrev is_kept : PathAnswer → Bool
is_kept (Along l) = false
is_kept (AtPose r) = false
is_kept (Kept r) = true

on_kept : (j : Joints) (answer : PathAnswer) → is_kept answer ≡ false → is_kept (then_on j answer) ≡ false
on_kept j (Along m) h = refl
on_kept j (AtPose r) h = refl
on_kept j (Kept r) h = h

with_kept : (answer : Result Joints Refusal) (rest : Joints → PathAnswer) → ((j : Joints) → is_kept (rest j) ≡ false) → is_kept (with_pose answer rest) ≡ false
with_kept (Ok j) rest h = on_kept j (rest j) (h j)
with_kept (Err r) rest h = refl

poses_kept : (s : Setup) (poses : List ToolPose) (previous : Angles) (i : ℕ) → is_kept (solve_poses s previous i poses) ≡ false
unfolding solve_poses
poses_kept s [] previous i = refl
poses_kept s (pose ∷ poses) previous i = with_kept (pose_answer s pose previous i) _ (λ j. poses_kept s poses (angles_of j) (suc i))

refused_so : (answer : PathAnswer) (r : Refusal) → is_kept answer ≡ false → checked_in answer ≡ Err r → answer ≡ AtPose r
refused_so (Along l) r h e = absurd (refused_passed (sym e))
refused_so (AtPose s) r h e = ap AtPose (ap refusal_of e)
refused_so (Kept s) r h e = absurd (false≢true (sym h))

passed_so : (answer : PathAnswer) → checked_in answer ≡ Ok tt → answer ≡ Along (along_in answer)
passed_so (Along l) e = refl
passed_so (AtPose r) e = absurd (refused_passed e)
passed_so (Kept r) e = absurd (refused_passed e)

module _ (k : Kinematics) (poses : List Float) (start : Option Joints) (cone : Float) where
  pub refused_pose : (r : Refusal) → checked_in (solve_checked k poses start cone) ≡ Err r → solve_checked k poses start cone ≡ AtPose r
  unfolding solve_checked
  refused_pose r e = refused_so _ r (poses_kept _ (poses_in poses) _ 0) e

  pub solved_along : checked_in (solve_checked k poses start cone) ≡ Ok tt → (l : List Joints) × (solve_checked k poses start cone ≡ Along l)
  solved_along e = (along_in (solve_checked k poses start cone), passed_so (solve_checked k poses start cone) e)

-- ---- the three ways out are apart
pub along_one : {l m : List Joints} → Along l ≡ Along m → l ≡ m
along_one e = ap along_in e

pub at_pose_one : {r s : Refusal} → AtPose r ≡ AtPose s → r ≡ s
at_pose_one e = ap refusal_of (ap checked_in e)

pub kept_one : {r s : Refusal} → Kept r ≡ Kept s → r ≡ s
kept_one e = ap refusal_of (ap checked_in e)

pub kept_along : {r : Refusal} {l : List Joints} → Kept r ≡ Along l → ⊥
kept_along e = false≢true (ap is_along e)

pub at_pose_along : {r : Refusal} {l : List Joints} → AtPose r ≡ Along l → ⊥
at_pose_along e = false≢true (ap is_along e)

pub at_pose_kept : {r s : Refusal} → AtPose r ≡ Kept s → ⊥
at_pose_kept e = false≢true (ap is_kept e)
