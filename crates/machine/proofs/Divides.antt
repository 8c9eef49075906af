-- The whole division: a machine that begins with the items brought to the end is ready, and what it leaves is what the definition says.
use Prim.Native.Nat.{ℕ, ◌+◌, ◌-◌, ◌*◌, ◌≤◌, ◌<◌}
use native.Mathlib.Omega.{arith}
use mathlib.Core.Path.{◌≡◌, refl, sym, ap, ◌∙◌, subst}
use mathlib.Core.List.{List, map}
use borrow.Author.Tests.{lt-leb}
use lib.ListN.{length, get_or, take, drop}
use lib.Seq.{get_or-take}
use lib.Ieee.{Float}
use Rattle.std.specs.Prelude.{Err, Ok}
use Rattle.float.specs.Helpers.{nought}
use Rattle.lists.specs.Padding.{padded}
use Rattle.lists.specs.Rows.{flat}
use Rattle.lists.proofs.Padding.{padded_nil}
use Rattle.lists.proofs.Rows.{flat_firsts, flat_seconds}
use Rattle.halving.specs.Halving.{Answer}
use Rattle.halving.proofs.Machine.{State, start_placed}
use Rattle.chain.specs.declared.Prepared.{Prepared}
use Rattle.path.specs.Solving.{joint_numbers}
use Rattle.turn.specs.declared.Stop.{Stop}
use Rattle.turn.specs.declared.outputs.Outputs.{Outputs}
use Rattle.turn.specs.Lent.{Same, Left}
use Rattle.turn.specs.Items.{pose_numbers, item, items_in}
use Rattle.middle.specs.Testing.{divides, midpoint}
use Rattle.turn.specs.Turning.{most, axis_at, end_at_start, begun, absent, reached, Turn}
use Rattle.machine.specs.Dividing.{division_after, divided_in, poses_over, joints_over, Ready, halved_from, RanTo, Ran, staying, answer_in, Divided, Over}
use Rattle.middle.specs.declared.Item.{Item}
use Rattle.turn.specs.declared.Machine.{Machine}
use Rattle.middle.specs.declared.Tolerances.{Tolerances}
use Rattle.turn.proofs.Stored.{pose_codec, joints_codec, items_length}
use Rattle.turn.proofs.Lent.{same_then, same_left}
use Rattle.turn.proofs.Running.{axis_there}

staying_least : (answer : Answer Item) (space : ℕ) (poses joints : List Float) (r : Turn) → RanTo answer space poses joints r → staying r ≤ space
staying_least answer space poses joints (Ok last) h = h.1
staying_least answer space poses joints (Err (Stop.TooMany n)) h = omega arith
staying_least answer space poses joints (Err (Stop.NoSpace n)) h = omega arith

-- ---- the start
module _ (p : Prepared) (tol : Tolerances) (space count had : ℕ) (poses₀ joints₀ poses joints : List Float) (few : had ≤ most) (some : 0 < count) (fits : count ≤ space)
    (first : take 1 (items_in space poses joints) ≡ take 1 (items_in count poses₀ joints₀))
    (rest : drop (space - count + 1) (items_in space poses joints) ≡ drop 1 (items_in count poses₀ joints₀)) where
  begun_state : State (divides p tol) (midpoint p) space most (items_in count poses₀ joints₀) had (items_in space poses joints) 1 (space - count + 1) had
  begun_state =
      let l = items_length count poses₀ joints₀ in
      let o = items_in space poses joints in
      let g = items_in count poses₀ joints₀ in
      let at_front : get_or o 0 absent ≡ get_or g 0 absent =
      sym (get_or-take 1 o 0 absent (omega arith)) ∙ ap (λ (i : List Item). get_or i 0 absent) first ∙ get_or-take 1 g 0 absent (omega arith) in
      let a : 0 < length g = rw l some in
      let b : length g ≤ space = rw l fits in
      let r : drop (space - length g + 1) o ≡ drop 1 g = rw l rest in
      subst (λ (n : ℕ). State (divides p tol) (midpoint p) space most g had o 1 (space - n + 1) had) l
      (start_placed absent (items_length space poses joints) a b few at_front r)

  begun_end : 0 < count - 1 → end_at_start p space count (axis_at p joints 0) joints ≡ reached p (get_or (items_in space poses joints) (space - (count - 1)) absent)
  unfolding end_at_start
  begun_end h =
      let z : space - count + 1 ≡ space - (count - 1) = omega arith in
      let two : 1 < count = omega arith in
      rw (lt-leb count 1 two) (axis_there p space poses joints (space - count + 1) (omega arith) ∙ ap (λ (i : ℕ). reached p (get_or (items_in space poses joints) i absent)) z)

  pub begun_ready : space * 6 ≤ length poses → space * 5 ≤ length joints → Ready p tol space (begun p space count had joints) poses joints
  unfolding begun
  begun_ready a b =
      let s = begun_state in
      record {
        some_placed = s.some_placed;
        apart = s.apart;
        waits = s.waits;
        few = s.few;
        calm = s.calm;
        cached = record {
          fewer = omega arith;
          at_left = axis_there p space poses joints 0 (omega arith);
          own = λ i u v. absurd (omega arith);
          at_end = begun_end;
        };
        poses_long = a;
        joints_long = b;
      }

  pub begun_same : division_after had p tol space (items_in count poses₀ joints₀) ≡ halved_from p tol space (begun p space count had joints) poses joints
  unfolding division_after halved_from begun
  begun_same = begun_state.same

  pub begun_ran : {m : Machine} {poses' joints' : List Float} {r : Turn} → m ≡ begun p space count had joints → Ran (halved_from p tol space m poses joints) space poses' joints' r
      → Ran (division_after had p tol space (items_in count poses₀ joints₀)) space poses' joints' r
  begun_ran e h = rw (begun_same, ← e) h

-- ---- the end
poses_flat : (k : ℕ) (poses joints : List Float) → k * 6 ≤ length poses → flat pose_numbers (map (λ (t : Item). t.pose) (items_in k poses joints)) ≡ take (k * 6) poses
unfolding items_in
poses_flat k poses joints h = flat_firsts pose_codec joints_codec item k poses joints (λ (t : Item). t.pose) (λ x y. refl) h

joints_flat : (k : ℕ) (poses joints : List Float) → k * 5 ≤ length joints → flat joint_numbers (map (λ (t : Item). t.joints) (items_in k poses joints)) ≡ take (k * 5) joints
unfolding items_in
joints_flat k poses joints h = flat_seconds pose_codec joints_codec item k poses joints (λ (t : Item). t.joints) (λ x y. refl) h

pub left_by : (answer : Answer Item) (space : ℕ) (poses₀ joints₀ poses joints : List Float) {poses' joints' : List Float} {said : Divided} (r : Turn) → RanTo answer space poses joints r
    → length poses ≡ length poses₀ → length joints ≡ length joints₀ → space * 6 ≤ length poses → space * 5 ≤ length joints
    → said ≡ answer_in r → poses' ≡ padded (length poses) nought (take (staying r * 6) poses) → joints' ≡ padded (length joints) nought (take (staying r * 5) joints)
    → (said ≡ divided_in answer) × ((poses' ≡ poses_over answer poses₀) × (joints' ≡ joints_over answer joints₀))
left_by answer space poses₀ joints₀ poses joints (Ok last) h a b c d e f g =
    let k = h.1 in
    let x : last.placed * 6 ≤ length poses = omega (arith, k, c) in
    let y : last.placed * 5 ≤ length joints = omega (arith, k, d) in
    rw h.0 (e, (rw (poses_flat last.placed poses joints x, ← a) f, rw (joints_flat last.placed poses joints y, ← b) g))
left_by answer space poses₀ joints₀ poses joints (Err (Stop.TooMany n)) h a b c d e f g = rw h (e, (rw (← a, ← padded_nil (length poses) nought) f, rw (← b, ← padded_nil (length joints) nought) g))
left_by answer space poses₀ joints₀ poses joints (Err (Stop.NoSpace n)) h a b c d e f g = rw h (e, (rw (← a, ← padded_nil (length poses) nought) f, rw (← b, ← padded_nil (length joints) nought) g))

-- ---- in two outputs: o as they were lent, b with the items brought to the end, d once the machine has run
module _ (p : Prepared) (tol : Tolerances) (count had : ℕ) {o b : Outputs} (few : had ≤ most) (some : 0 < count) (fits : count ≤ o.space) (brought : Same o b)
    (first : take 1 (items_in o.space b.poses.now b.joints.now) ≡ take 1 (items_in count o.poses.now o.joints.now))
    (rest : drop (o.space - count + 1) (items_in o.space b.poses.now b.joints.now) ≡ drop 1 (items_in count o.poses.now o.joints.now)) where
  pub started : {m : Machine} → m ≡ begun p b.space count had b.joints.now → Ready p tol b.space m b.poses.now b.joints.now
  started e =
      let s = brought.as_much in
      let x = b.poses_long in
      let y = b.joints_long in
      rw (e, s) (begun_ready p tol o.space count had o.poses.now o.joints.now b.poses.now b.joints.now few some fits first rest (omega (arith, s, x)) (omega (arith, s, y)))

  module _ {m : Machine} {d : Outputs} {r : Turn} (is : m ≡ begun p b.space count had b.joints.now) (same : Same b d)
      (ran : Ran (halved_from p tol b.space m b.poses.now b.joints.now) b.space d.poses.now d.joints.now r) where
    pub ended_within : staying r ≤ d.space
    ended_within = rw same.as_much (staying_least _ b.space d.poses.now d.joints.now r ran.so)

    pub ended : {e : Outputs} {said : Divided} → said ≡ answer_in r
        → Left d (padded (length d.poses.now) nought (take (staying r * 6) d.poses.now)) (padded (length d.joints.now) nought (take (staying r * 5) d.joints.now)) e
        → (said ≡ divided_in (division_after had p tol o.space (items_in count o.poses.now o.joints.now)))
        × Over (division_after had p tol o.space (items_in count o.poses.now o.joints.now)) o e
    ended {e} f l =
        let all = same_then brought same in
        let all_said = left_by (division_after had p tol o.space (items_in count o.poses.now o.joints.now)) o.space o.poses.now o.joints.now d.poses.now d.joints.now r
        (begun_ran p tol o.space count had o.poses.now o.joints.now b.poses.now b.joints.now few some fits first rest (is ∙ ap (λ (s : ℕ). begun p s count had b.joints.now) brought.as_much)
        (rw brought.as_much at ran)).so all.long_poses all.long_joints (rw all.as_much at d.poses_long) (rw all.as_much at d.joints_long) f l.in_poses l.in_joints in
        (all_said.0, record { same_poses = (same_left all l).same_poses; same_joints = (same_left all l).same_joints; as_much = (same_left all l).as_much; in_poses = all_said.1.0; in_joints = all_said.1.1 })
