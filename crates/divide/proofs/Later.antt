-- What a division promises of later ones, in the two lent outputs: R-12's two
-- sentences and R-14's, in every way out of the two
-- calls.
use Prim.Native.Nat.{ℕ, ◌*◌, ◌≤◌}
use native.Mathlib.Omega.{arith}
use mathlib.Core.Path.{◌≡◌, sym, ap, ◌∙◌, subst}
use mathlib.Core.Bool.{true, false≢true}
use mathlib.Core.List.{List, map}
use lib.Ieee.{Float}
use lib.ListN.{length, take}
use lib.Seq.{take_all}
use Rattle.std.specs.Prelude.{Ok, Err}
use Rattle.float.specs.Helpers.{nought}
use Rattle.lists.specs.Padding.{padded}
use Rattle.lists.specs.Rows.{flat}
use Rattle.lists.specs.Search.{all}
use Rattle.lists.proofs.Padding.{take_padded}
use Rattle.refusal.specs.declared.Refusal.{Refusal}
use Rattle.chain.specs.declared.Kinematics.{Kinematics}
use Rattle.chain.specs.Prepared.{prepared}
use Rattle.path.specs.Solving.{poses_in, joint_numbers, whole_records}
use Rattle.geometry.specs.Doubles.{FitVec}
use Rattle.halving.specs.Halving.{Answer}
use Rattle.halving.specs.Halving as Halving
use Rattle.machine.specs.Dividing.{divided_in, poses_over, joints_over}
use Rattle.middle.specs.declared.Item.{Item}
use Rattle.middle.specs.declared.Tolerances.{Tolerances}
use Rattle.middle.specs.Testing.{plain}
use Rattle.turn.specs.Items.{pose_numbers, items_in, space_in}
use Rattle.looser.proofs.Reached.{reached_finite}
use Rattle.divide.specs.declared.DivisionError.{DivisionError}
use Rattle.divide.specs.Checking.{FitUpTo, division_check, tip_within}
use Rattle.divide.specs.Subdividing.{Halved, given, division_within, subdivide_path, Division, ended}
use Rattle.divide.specs.Looser.{NotBelow, NeverDearer, path_length, Later}
use Rattle.divide.proofs.Accepted.{Accepted, accepted_parts, accepted_result}
use Rattle.divide.proofs.Dearer.{plain_not_below, never_dearer}
use Rattle.divide.proofs.Again.{divided_again, long_poses, long_joints, poses_back}
use Rattle.divide.proofs.PriceLent.{is_ended, done_by, items_left}

pub refused_later : {k : Kinematics} {tol : Tolerances} {lent solved : List Float} {roomPoses roomJoints : ℕ} {said : Division} {poses joints : List Float} {r : Refusal} → said ≡ Err (DivisionError.Refused r)
    → Later k tol lent solved roomPoses roomJoints said poses joints
refused_later e = record { looser = λ n w. absurd (false≢true (ap is_ended (sym e ∙ w))); old = λ n w. absurd (false≢true (ap is_ended (sym e ∙ w))); again = λ n w. absurd (false≢true (ap is_ended (sym e ∙ w))) }

front : (m n w : ℕ) (l out : List Float) → out ≡ padded m nought l → length l ≡ n * w → take (n * w) out ≡ l
front m n w l out e h = rw (e, ← h) (take_padded m nought l (length l) (omega arith) ∙ take_all (length l) l (omega arith))

module _ (k : Kinematics) (tol : Tolerances) (lent solved p₀ j₀ : List Float) (fit : FitUpTo (length solved) solved) (spindle : FitVec k.spindle_axis)
    (passed : division_check k tol lent solved (length p₀) (length j₀) ≡ Ok tt) {poses joints : List Float}
    (u : poses ≡ poses_over (division_within (prepared k) tol (space_in (length p₀) (length j₀)) (given lent solved)) p₀)
    (v : joints ≡ joints_over (division_within (prepared k) tol (space_in (length p₀) (length j₀)) (given lent solved)) j₀) where
  abbrev answer : Answer Item
  answer = division_within (prepared k) tol (space_in (length p₀) (length j₀)) (given lent solved)

  module _ (n : ℕ) (l : List Item) (f : answer ≡ Halving.Done n l) where
    accepted : subdivide_path k tol lent solved (length p₀) (length j₀) ≡ Halved (Halving.Done n l)
    unfolding subdivide_path
    accepted = rw passed (ap Halved f)

    parts : Accepted k tol lent solved (length p₀) (length j₀) n l
    parts = accepted_parts k tol lent solved (length p₀) (length j₀) n l accepted

    counted : length l ≡ path_length lent solved n
    counted = (accepted_result k tol lent solved (length p₀) (length j₀) n l parts).counted

    items_there : items_in (path_length lent solved n) poses joints ≡ l
    items_there = rw (u, v, f, ← counted) (items_left l (length p₀) (length j₀))

    poses_there : take (path_length lent solved n * 6) poses ≡ flat pose_numbers (map (λ (t : Item). t.pose) l)
    poses_there = front (length p₀) (path_length lent solved n) 6 _ poses (rw f at u) (long_poses l ∙ ap (λ (i : ℕ). i * 6) counted)

    joints_there : take (path_length lent solved n * 5) joints ≡ flat joint_numbers (map (λ (t : Item). t.joints) l)
    joints_there = front (length j₀) (path_length lent solved n) 5 _ joints (rw f at v) (long_joints l ∙ ap (λ (i : ℕ). i * 5) counted)

    dearer_there : (wider : Tolerances) → NotBelow tol wider
        → NeverDearer k tol wider lent solved (length p₀) (length j₀) n (items_in (path_length lent solved n) poses joints)
    dearer_there wider h =
        subst (NeverDearer k tol wider lent solved (length p₀) (length j₀) n) (sym items_there)
        (never_dearer k tol wider h lent solved (length p₀) (length j₀) n l accepted)

    old_below : NotBelow tol (plain tol)
    old_below = let c = parts.checks in plain_not_below tol c.chord_is c.axis_is

    again_there : path_length lent solved n ≤ 100000 → all tip_within (poses_in (take (path_length lent solved n * 6) poses)) ≡ true
        → (a b : ℕ) → whole_records a b ≡ true → path_length lent solved n ≤ space_in a b
        → subdivide_path k tol (take (path_length lent solved n * 6) poses) (take (path_length lent solved n * 5) joints) a b
        ≡ Halved (Halving.Done 0 (items_in (path_length lent solved n) poses joints))
    again_there few tips a b whole space =
        let t : all tip_within (map (λ (t : Item). t.pose) l) ≡ true = rw (poses_there, poses_back l) at tips in
        rw (poses_there, joints_there, items_there)
        (divided_again k tol lent solved (length p₀) (length j₀) n l (reached_finite k parts.checks.chain_is spindle) fit accepted (rw counted few) t a b whole (rw counted space))

  pub ended_later : {said : Division} → said ≡ ended (divided_in answer) → Later k tol lent solved (length p₀) (length j₀) said poses joints
  ended_later e = record {
    looser = λ n w wider h.
        let (l, f) = done_by answer n (sym e ∙ w) in
        dearer_there n l f wider h;
    old = λ n w.
        let (l, f) = done_by answer n (sym e ∙ w) in
        dearer_there n l f (plain tol) (old_below n l f);
    again = λ n w.
        let (l, f) = done_by answer n (sym e ∙ w) in
        again_there n l f;
  }
