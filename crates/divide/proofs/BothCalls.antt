-- The call of both: each way out of solving, and then division, is what the definition says; and demand 3 and R-12 hold
-- through what division promises of joints that were solved.
use Prim.Native.Nat.{ℕ, ◌*◌, ◌/◌, ◌≤◌}
use native.Mathlib.Omega.{arith}
use mathlib.Core.Path.{◌≡◌, refl, sym, ap, ◌∙◌, subst}
use mathlib.Core.Bool.{Bool, true, false, cond}
use mathlib.Core.List.{List}
use lib.Ieee.{Float}
use lib.ListN.{length, take, replicate}
use lib.Seq.{take_all}
use Rattle.std.specs.Prelude.{Err, Ok, Option}
use Rattle.float.specs.Helpers.{nought}
use Rattle.lists.specs.Padding.{padded}
use Rattle.lists.specs.Rows.{flat}
use Rattle.lists.proofs.Padding.{take_padded}
use Rattle.lists.proofs.Rows.{length_flat}
use Rattle.refusal.specs.declared.Refusal.{Refusal}
use Rattle.refusal.specs.Numbers.{refusal}
use Rattle.refusal.specs.declared.Cause.{Cause}
use Rattle.chain.specs.Checked.{Checked}
use Rattle.chain.specs.declared.Joints.{Joints}
use Rattle.chain.specs.declared.Kinematics.{Kinematics}
use Rattle.chain.specs.Check.{demand, then}
use Rattle.chain.specs.Prepared.{prepared}
use Rattle.chain.proofs.Passing.{refused_passed}
use Rattle.chain.proofs.UnitAxes.{FitAxes}
use Rattle.path.specs.Solving.{PathAnswer, Along, AtPose, Kept, joint_numbers, unless_kept, solve_check, solve_checked, solve_path, checked_in, path_over}
use Rattle.path.proofs.Along.{along_long, refused_pose, solved_along, along_one, at_pose_one, kept_one, kept_along, at_pose_along, at_pose_kept}
use Rattle.path.specs.Closest.{bounded}
use Rattle.path.proofs.Room.{room_passed, chain_bounded}
use Rattle.middle.specs.declared.Tolerances.{Tolerances}
use Rattle.divide.specs.declared.DivisionError.{DivisionError}
use Rattle.divide.specs.Checking.{division_check}
use Rattle.divide.specs.Subdividing.{DivisionAnswer, division_in, poses_left, joints_left, given, clearing, subdivide_path, three_whole, both_check, solved_path, found_in, solve_and_divide, Division}
use Rattle.turn.specs.Items.{space_in}
use Rattle.divide.specs.Subdividing as Ways
use Rattle.divide.specs.Looser.{Later}
use Rattle.divide.specs.Price.{AllZero, Checks, Price, IfSolved, SolvedAndDivided}
use Rattle.turn.proofs.Stored.{joints_codec}
use Rattle.machine.proofs.Copies.{joints_by_length}
use Rattle.turn.proofs.Space.{space_joints}
use Rattle.divide.proofs.PriceLent.{zero_all, checks_ended}

-- ---- the checks before solving
abbrev refusal_of : Checked → Refusal
refusal_of (Ok _) = refusal Cause.LengthsDiffer 0
refusal_of (Err r) = r

by_check : (whole : Bool) (check : Checked) (answer : PathAnswer) (r : Refusal) → then (demand whole Cause.LengthsDiffer 0) check ≡ Err r
    → cond whole (unless_kept check answer) (Kept (refusal Cause.LengthsDiffer 0)) ≡ Kept r
by_check true (Ok _) answer r e = absurd (refused_passed (sym e))
by_check true (Err s) answer r e = ap Kept (ap refusal_of e)
by_check false check answer r e = ap Kept (ap refusal_of e)

past_check : (whole : Bool) (check : Checked) (answer : PathAnswer) → then (demand whole Cause.LengthsDiffer 0) check ≡ Ok tt
    → (cond whole (unless_kept check answer) (Kept (refusal Cause.LengthsDiffer 0)) ≡ answer) × ((check ≡ Ok tt) × (cond whole (unless_kept check answer) (Kept (refusal Cause.LengthsDiffer 0)) ≡ unless_kept check answer))
past_check true (Ok _) answer e = (refl, (refl, refl))
past_check true (Err s) answer e = absurd (refused_passed e)
past_check false check answer e = absurd (refused_passed e)

module _ (k : Kinematics) (lent : List Float) (start : Option Joints) (cone : Float) (roomPoses roomJoints : ℕ) where
  kept_by : (r : Refusal) → both_check k start cone (length lent) roomPoses roomJoints ≡ Err r → solved_path k lent start cone roomPoses roomJoints ≡ Kept r
  unfolding both_check solved_path solve_path
  kept_by r e = by_check (three_whole (length lent) roomPoses roomJoints) (solve_check k start cone (length lent) (space_in roomPoses roomJoints * 5)) (solve_checked k lent start cone) r e

  solved_by : both_check k start cone (length lent) roomPoses roomJoints ≡ Ok tt
      → (solved_path k lent start cone roomPoses roomJoints ≡ solve_checked k lent start cone)
      × ((solve_check k start cone (length lent) (space_in roomPoses roomJoints * 5) ≡ Ok tt)
      × (solved_path k lent start cone roomPoses roomJoints ≡ solve_path k lent start cone (space_in roomPoses roomJoints * 5)))
  unfolding both_check solved_path solve_path
  solved_by e = past_check (three_whole (length lent) roomPoses roomJoints) (solve_check k start cone (length lent) (space_in roomPoses roomJoints * 5)) (solve_checked k lent start cone) e

  pub room_for : both_check k start cone (length lent) roomPoses roomJoints ≡ Ok tt → length lent / 6 * 5 ≤ roomJoints
  room_for e =
      let a = room_passed k start cone (length lent) (space_in roomPoses roomJoints * 5) (solved_by e).1.0 in
      let b = space_joints roomPoses roomJoints in
      omega (arith, a, b)

  pub chain_for : FitAxes k → both_check k start cone (length lent) roomPoses roomJoints ≡ Ok tt → bounded (prepared k) ≡ true
  chain_for F e = chain_bounded k start cone (length lent) (space_in roomPoses roomJoints * 5) (solved_by e).1.0 F

-- ---- what is left depends on the outputs' lengths alone, but for what keeps them
cleared_by_length : (answer : DivisionAnswer) (o o' : List Float) → length o' ≡ length o → joints_left (clearing answer) o' ≡ joints_left (clearing answer) o
unfolding joints_left
cleared_by_length (Ways.Kept r) o o' e = rw e
cleared_by_length (Ways.AtPose r) o o' e = rw e
cleared_by_length (Ways.Cleared r) o o' e = rw e
cleared_by_length (Ways.Halved a) o o' e = joints_by_length a o o' e

module _ (k : Kinematics) (lent : List Float) (start : Option Joints) (cone : Float) (tol : Tolerances) (p₀ j₀ : List Float) where
  abbrev whole : DivisionAnswer
  whole = solve_and_divide k lent start cone tol (length p₀) (length j₀)

  abbrev solved : PathAnswer
  solved = solved_path k lent start cone (length p₀) (length j₀)

  abbrev So : Division → List Float → List Float → Type 0
  So said poses joints =
      (said ≡ division_in whole)
      × ((poses ≡ poses_left whole p₀) × ((joints ≡ joints_left whole j₀) × SolvedAndDivided k lent start cone tol said p₀ j₀ poses joints))

  -- refused before the first pose
  pub both_kept : {said : Division} (r : Refusal) → both_check k start cone (length lent) (length p₀) (length j₀) ≡ Err r → said ≡ Err (DivisionError.Refused r) → So said p₀ j₀
  unfolding solve_and_divide poses_left joints_left
  both_kept r e s =
      let f : solved ≡ Kept r = kept_by k lent start cone (length p₀) (length j₀) r e in (
        rw f s,
        (
          rw f,
          (
            rw f,
            record {
              kept = λ q w. (s ∙ ap (λ (q : Refusal). Err (DivisionError.Refused q)) (kept_one (sym f ∙ w)), (refl, refl));
              at_pose = λ q w. absurd (at_pose_kept (sym w ∙ f));
              refused = λ l q w c. absurd (kept_along (sym f ∙ w));
              begun = λ l w c. absurd (kept_along (sym f ∙ w));
              price = λ l w. absurd (kept_along (sym f ∙ w));
              later = λ l w. absurd (kept_along (sym f ∙ w));
            },
          ),
        ),
      )

  -- refused at a pose
  pub both_at_pose : {said : Division} {poses joints : List Float} (r : Refusal) → both_check k start cone (length lent) (length p₀) (length j₀) ≡ Ok tt
      → checked_in (solve_checked k lent start cone) ≡ Err r → said ≡ Err (DivisionError.AtPose r)
      → poses ≡ replicate (length p₀) nought → joints ≡ path_over (solve_checked k lent start cone) j₀ → So said poses joints
  unfolding solve_and_divide poses_left joints_left path_over
  both_at_pose {said} {poses} {joints} r e h s u v =
      let g = refused_pose k lent start cone r h in
      let f : solved ≡ AtPose r = (solved_by k lent start cone (length p₀) (length j₀) e).0 ∙ g in
      let v' : joints ≡ replicate (length j₀) nought = rw g at v in (
        rw f s,
        (
          rw f u,
          (
            rw f v',
            record {
              kept = λ q w. absurd (at_pose_kept (sym f ∙ w));
              at_pose = λ q w. (s ∙ ap (λ (q : Refusal). Err (DivisionError.AtPose q)) (at_pose_one (sym f ∙ w)), (zero_all (length p₀) poses u, zero_all (length j₀) joints v'));
              refused = λ l q w c. absurd (at_pose_along (sym f ∙ w));
              begun = λ l w c. absurd (at_pose_along (sym f ∙ w));
              price = λ l w. absurd (at_pose_along (sym f ∙ w));
              later = λ l w. absurd (at_pose_along (sym f ∙ w));
            },
          ),
        ),
      )

  -- solved, and what division makes of it
  module _ (l : List Joints) (along : solved ≡ Along l) where
    pub whole_so : whole ≡ clearing (subdivide_path k tol lent (flat joint_numbers l) (length p₀) (length j₀))
    unfolding solve_and_divide
    whole_so = rw along

    division_refused : {said : Division} {poses joints : List Float} (r : Refusal) → division_check k tol lent (flat joint_numbers l) (length p₀) (length j₀) ≡ Err r
        → said ≡ division_in whole → poses ≡ poses_left whole p₀ → joints ≡ joints_left whole j₀ → (said ≡ Err (DivisionError.Refused r)) × AllZero poses joints
    unfolding subdivide_path poses_left joints_left
    division_refused {said} {poses} {joints} r c s u v =
        let w : whole ≡ Ways.Cleared r = whole_so ∙ (rw c) in
        (rw w at s, (zero_all (length p₀) poses (rw w at u), zero_all (length j₀) joints (rw w at v)))

    division_begun : {said : Division} → division_check k tol lent (flat joint_numbers l) (length p₀) (length j₀) ≡ Ok tt → said ≡ division_in whole → Checks said
    unfolding subdivide_path
    division_begun {said} c s = subst Checks (sym (s ∙ ap division_in whole_so)) (rw c (checks_ended _))

    pub both_along : {said : Division} {poses joints : List Float} → said ≡ division_in whole → poses ≡ poses_left whole p₀ → joints ≡ joints_left whole j₀
        → Price k tol (space_in (length p₀) (length j₀)) (given lent (flat joint_numbers l)) said poses joints
        → Later k tol lent (flat joint_numbers l) (length p₀) (length j₀) said poses joints → So said poses joints
    both_along {said} {poses} {joints} s u v price later = (
      s,
      (
        u,
        (
          v,
          record {
            kept = λ q w. absurd (kept_along (sym w ∙ along));
            at_pose = λ q w. absurd (at_pose_along (sym w ∙ along));
            refused = λ m q w c.
                let e = along_one (sym w ∙ along) in
                division_refused q (subst (λ (z : List Joints). division_check k tol lent (flat joint_numbers z) (length p₀) (length j₀) ≡ Err q) e c) s u v;
            begun = λ m w c.
                let e = along_one (sym w ∙ along) in
                division_begun (subst (λ (z : List Joints). division_check k tol lent (flat joint_numbers z) (length p₀) (length j₀) ≡ Ok tt) e c) s;
            price = λ m w.
                let e = along_one (sym along ∙ w) in
                subst (λ (z : List Joints). Price k tol (space_in (length p₀) (length j₀)) (given lent (flat joint_numbers z)) said poses joints) e price;
            later = λ m w.
                let e = along_one (sym along ∙ w) in
                subst (λ (z : List Joints). Later k tol lent (flat joint_numbers z) (length p₀) (length j₀) said poses joints) e later;
          },
        ),
      ),
    )

  -- the joints that were solved stand at the front of their output
  pub both_divided : {said : Division} {poses joints j₁ : List Float} → both_check k start cone (length lent) (length p₀) (length j₀) ≡ Ok tt
      → checked_in (solve_checked k lent start cone) ≡ Ok tt → j₁ ≡ path_over (solve_checked k lent start cone) j₀ → length j₁ ≡ length j₀
      → said ≡ division_in (found_in k tol lent (length p₀) j₁) → poses ≡ poses_left (found_in k tol lent (length p₀) j₁) p₀ → joints ≡ joints_left (found_in k tol lent (length p₀) j₁) j₁
      → IfSolved k tol lent (take (length lent / 6 * 5) j₁) (length p₀) (length j₁) said poses joints
      → Later k tol lent (take (length lent / 6 * 5) j₁) (length p₀) (length j₁) said poses joints → So said poses joints
  unfolding path_over found_in
  both_divided {said} {poses} {joints} {j₁} e h v n s u w price later = go (solved_along k lent start cone h)
    where
      go : (l : List Joints) × (solve_checked k lent start cone ≡ Along l) → So said poses joints
      go (l, g) =
          let b = solved_by k lent start cone (length p₀) (length j₀) e in
          let along : solved ≡ Along l = b.0 ∙ g in
          let path : solve_path k lent start cone (space_in (length p₀) (length j₀) * 5) ≡ Along l = sym b.1.1 ∙ along in
          let long : length (flat joint_numbers l) ≡ length lent / 6 * 5 = length_flat joints_codec l ∙ ap (λ (i : ℕ). i * 5) (along_long k lent start cone (space_in (length p₀) (length j₀) * 5) l path) in
          let j : j₁ ≡ padded (length j₀) nought (flat joint_numbers l) = rw g at v in
          let front : take (length lent / 6 * 5) j₁ ≡ flat joint_numbers l =
          ap (take (length lent / 6 * 5)) j ∙ take_padded (length j₀) nought (flat joint_numbers l) (length lent / 6 * 5) (omega (arith, long)) ∙ take_all (length lent / 6 * 5) (flat joint_numbers l) (omega (arith, long)) in
          let same : found_in k tol lent (length p₀) j₁ ≡ whole =
          ap (λ (z : List Float). clearing (subdivide_path k tol lent z (length p₀) (length j₁))) front
          ∙ ap (λ (i : ℕ). clearing (subdivide_path k tol lent (flat joint_numbers l) (length p₀) i)) n
          ∙ sym (whole_so l along) in
          let left : joints_left whole j₁ ≡ joints_left whole j₀ =
          ap (λ (a : DivisionAnswer). joints_left a j₁) (whole_so l along)
          ∙ cleared_by_length (subdivide_path k tol lent (flat joint_numbers l) (length p₀) (length j₀)) j₀ j₁ n
          ∙ ap (λ (a : DivisionAnswer). joints_left a j₀) (sym (whole_so l along)) in
          both_along l along (rw same at s) (rw same at u) ((rw same at w) ∙ left)
          (subst (λ (i : ℕ). Price k tol (space_in (length p₀) i) (given lent (flat joint_numbers l)) said poses joints) n
          (subst (λ (z : List Float). Price k tol (space_in (length p₀) (length j₁)) (given lent z) said poses joints) front
          (price.price start cone (space_in (length p₀) (length j₀) * 5) l path front)))
          (subst (λ (i : ℕ). Later k tol lent (flat joint_numbers l) (length p₀) i said poses joints) n
          (subst (λ (z : List Float). Later k tol lent z (length p₀) (length j₁) said poses joints) front later))
