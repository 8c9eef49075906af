-- The loop over the poses: what is solved so far, and what the rest of the path comes to from there. One record for its invariant, and a law each for its start, its step, a refusal and its end.
use Prim.Native.Nat.{ℕ, suc, ◌+◌, ◌-◌, ◌*◌, ◌/◌, ◌≤◌, ◌<◌}
use native.Mathlib.Numerals.{add-one, towards_suc}
use native.Mathlib.Nat.{sub-zero}
use native.Mathlib.Omega.{arith}
use mathlib.Core.Path.{◌≡◌, refl, sym, ap, ◌∙◌}
use mathlib.Core.List.{List, [], ◌∷◌, ◌++◌, append-nil, append_assoc}
use lib.ListN.{length, replicate, take, drop, length-set, length-append}
use lib.Seq.{sets, sets-eq, take_at, length-take-le, drop-drop}
use lib.Ieee.{Float}
use Rattle.std.specs.Prelude.{Err, Ok, Result}
use Rattle.float.specs.Helpers.{nought}
use Rattle.lists.specs.Padding.{padded}
use Rattle.lists.specs.Rows.{rows, flat}
use Rattle.lists.proofs.Rows.{flat_append}
use Rattle.refusal.specs.declared.Refusal.{Refusal}
use Rattle.chain.specs.Checked.{Checked}
use Rattle.chain.specs.declared.Joints.{Joints}
use Rattle.inverse.specs.declared.Angles.{Angles}
use Rattle.path.specs.Exact.{angles_of}
use Rattle.path.specs.Posing.{pose_answer}
use Rattle.path.specs.Solving.{PathAnswer, Along, AtPose, then_on, pose_from, pose_in, poses_in, joint_numbers, joints_over, solve_poses, checked_in, path_over}
use Rattle.path.specs.declared.Setup.{Setup}

-- ---- what is solved, before what the rest comes to
unfoldable pub before : List Joints → PathAnswer → PathAnswer
before [] rest = rest
before (j ∷ l) rest = then_on j (before l rest)

before_more : (l : List Joints) (j : Joints) (rest : PathAnswer) → before (l ++ (j ∷ [])) rest ≡ before l (then_on j rest)
unfolding before
before_more [] j rest = refl
before_more (k ∷ l) j rest = ap (then_on k) (before_more l j rest)

before_refused : (l : List Joints) (r : Refusal) → before l (AtPose r) ≡ AtPose r
unfolding before
before_refused [] r = refl
before_refused (k ∷ l) r = ap (then_on k) (before_refused l r)

before_end : (l : List Joints) → before l (Along []) ≡ Along l
unfolding before
before_end [] = refl
before_end (k ∷ l) = ap (then_on k) (before_end l)

-- ---- a joint set stored
pub joints_sets : (j : Joints) (l : List Float) (b : ℕ) → joints_over j l b ≡ sets l b (joint_numbers j)
unfolding joints_over
joints_sets j l b = simp towards_suc

pub joints_between : (j : Joints) (l : List Float) (b : ℕ) → b + 5 ≤ length l → take b l ++ (joint_numbers j ++ drop (b + 5) l) ≡ joints_over j l b
joints_between j l b h = sym (joints_sets j l b ∙ sets-eq (joint_numbers j) l b h ∙ append_assoc (take b l) (joint_numbers j) (drop (b + 5) l))

joints_put : (j : Joints) (l : List Float) (b : ℕ) → b + 5 ≤ length l → take (b + 5) (joints_over j l b) ≡ take b l ++ joint_numbers j
joints_put j l b h =
    let q : b ≤ length l = omega arith in
    let e : length (take b l ++ joint_numbers j) ≡ b + 5 = rw (length-append, length-take-le b l) in
    ap (take (b + 5)) (joints_sets j l b ∙ sets-eq (joint_numbers j) l b h) ∙ take_at (take b l ++ joint_numbers j) (drop (b + 5) l) (b + 5) e

joints_long : (j : Joints) (l : List Float) (b : ℕ) → length (joints_over j l b) ≡ length l
unfolding joints_over
joints_long j l b = simp length-set

flat_one : (l : List Joints) (j : Joints) → flat joint_numbers (l ++ (j ∷ [])) ≡ flat joint_numbers l ++ joint_numbers j
unfolding flat
flat_one l j = rw (flat_append joint_numbers l (j ∷ []), append-nil)

-- ---- the loop
pub record Walking (s : Setup) (start : Angles) (l : List Float) (n : ℕ) (out₀ out : List Float) (previous : Angles) (i : ℕ) : Type 0 where
  pub done : List Joints
  pub within : i ≤ n
  pub count : n ≡ length l / 6
  pub room : n * 5 ≤ length out
  pub long : length out ≡ length out₀
  pub front : take (i * 5) out ≡ flat joint_numbers done
  pub whole : solve_poses s start 0 (poses_in l) ≡ before done (solve_poses s previous i (rows 6 pose_from (n - i) (drop (i * 6) l)))

pub walking_start : (s : Setup) (start : Angles) (l : List Float) (out : List Float) → length l / 6 * 5 ≤ length out → Walking s start l (length l / 6) out out start 0
unfolding poses_in flat before
walking_start s start l out h = record { done = []; within = omega arith; count = refl; room = h; long = refl; front = refl; whole = rw sub-zero }

next_pose : (l : List Float) (n i : ℕ) → i < n → rows 6 pose_from (n - i) (drop (i * 6) l) ≡ pose_in l (i * 6) ∷ rows 6 pose_from (n - (i + 1)) (drop ((i + 1) * 6) l)
unfolding rows pose_in
next_pose l n i p =
    let e : n - i ≡ suc (n - (i + 1)) = omega arith in
    let f : i * 6 + 6 ≡ (i + 1) * 6 = omega arith in
    rw (e, drop-drop, f)

module _ {s : Setup} {start : Angles} {l : List Float} {n : ℕ} {out₀ out : List Float} {previous : Angles} {i : ℕ} where
  pub walking_step : {j : Joints} → i < n → Walking s start l n out₀ out previous i → pose_answer s (pose_in l (i * 6)) previous i ≡ Ok j
      → Walking s start l n out₀ (joints_over j out (i * 5)) (angles_of j) (i + 1)
  unfolding solve_poses
  walking_step {j} p g e =
      let h : i * 5 + 5 ≤ length out = omega arith in
      let by5 : (i + 1) * 5 ≡ i * 5 + 5 = omega arith in
      record {
        done = g.done ++ (j ∷ []);
        within = omega arith;
        count = g.count;
        room = rw joints_long g.room;
        long = joints_long j out (i * 5) ∙ g.long;
        front = rw (by5, joints_put j out (i * 5), g.front, flat_one);
        whole = rw (before_more, add-one) (rw (next_pose l n i p, e, add-one) at g.whole);
      }

  refused_at : {r : Refusal} → i < n → Walking s start l n out₀ out previous i → pose_answer s (pose_in l (i * 6)) previous i ≡ Err r → solve_poses s start 0 (poses_in l) ≡ AtPose r
  unfolding solve_poses
  refused_at {r} p g e = (rw (next_pose l n i p, e) at g.whole) ∙ before_refused g.done r

  -- refused at a pose, and the output cleared
  pub walking_refused : {answer : Result Joints Refusal} {r : Refusal} {z : List Float} → i < n → Walking s start l n out₀ out previous i
      → answer ≡ pose_answer s (pose_in l (i * 6)) previous i → answer ≡ Err r → z ≡ replicate (length out) nought
      → (◌≡◌ {A = Checked} (Err r) (checked_in (solve_poses s start 0 (poses_in l)))) × (z ≡ path_over (solve_poses s start 0 (poses_in l)) out₀)
  unfolding path_over
  walking_refused p g e f clear =
      let a = refused_at p g (sym e ∙ f) in
      (rw a, rw (a, clear, g.long))

  -- all solved, and what is behind them cleared
  pub walking_end : {z : List Float} → n ≤ i → Walking s start l n out₀ out previous i → z ≡ padded (length out) nought (take (n * 5) out)
      → ((Ok tt) ≡ checked_in (solve_poses s start 0 (poses_in l))) × (z ≡ path_over (solve_poses s start 0 (poses_in l)) out₀)
  unfolding solve_poses rows path_over
  walking_end p g clear =
      let e : n - i ≡ 0 = omega arith in
      let f : i ≡ n = omega arith in
      let a : solve_poses s start 0 (poses_in l) ≡ Along g.done = (rw e at g.whole) ∙ before_end g.done in
      (rw a, rw (a, clear, ← f, g.front, g.long))
