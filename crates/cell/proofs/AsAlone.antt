-- A path that is served in turns, its outputs as the last turn left them, ends as its division alone.
use Prim.Native.Nat.{ℕ, ◌*◌, ◌<◌}
use mathlib.Core.Path.{◌≡◌, refl, sym, ap, ◌∙◌, subst}
use mathlib.Core.Bool.{Bool, true, false, true≢false, false≢true}
use mathlib.Core.List.{List}
use borrow.Author.Tests.{ltb-true, ltb-false}
use lib.Dec.{ltb}
use lib.ListN.{length, take}
use lib.Ieee.{Float}
use Rattle.std.specs.Prelude.{Err, Ok}
use Rattle.float.specs.Helpers.{nought}
use Rattle.lists.specs.Padding.{padded}
use Rattle.halving.specs.Halving.{Answer}
use Rattle.chain.specs.declared.Prepared.{Prepared}
use Rattle.middle.specs.declared.Item.{Item}
use Rattle.middle.specs.declared.Tolerances.{Tolerances}
use Rattle.turn.specs.Items.{space_in}
use Rattle.turn.specs.Turning.{Turn}
use Rattle.turn.specs.declared.Machine.{Machine}
use Rattle.turn.proofs.Space.{space_poses, space_joints}
use Rattle.slice.specs.Slicing.{Slice, stopped, sliced}
use Rattle.slice.proofs.Slices.{sliced_long}
use Rattle.machine.specs.Dividing.{Divided, staying, answer_in, Ready, halved_from, divided_in, poses_over, joints_over}
use Rattle.machine.proofs.Alone.{Sliced, Finished, last, again, slices_end}
use Rattle.machine.proofs.Divides.{left_by}
use Rattle.queue.specs.Queue as Queue
use Rattle.cell.specs.State.{Buffers, space_of, tol_of}
use Rattle.cell.specs.Turning.{slice_of, goes_on, closed_in, left, with_machine, serve, fits}
use Rattle.cell.specs.declared.Entry.{Entry}

-- ---- one turn, by its outcome
abbrev is_over : Queue.Outcome Entry Divided → Bool
is_over (Queue.Over d) = true
is_over (Queue.Still e) = false

abbrev over_in : Divided → Queue.Outcome Entry Divided → Divided
over_in d (Queue.Over r) = r
over_in d (Queue.Still e) = d

abbrev still_in : Entry → Queue.Outcome Entry Divided → Entry
still_in d (Queue.Over r) = d
still_in d (Queue.Still e) = e

-- the last turn
pub record Last (e : Entry) (b : Buffers) (r : Divided) (c : Buffers) : Type 0 where
  pub at_end : Turn
  pub poses : List Float
  pub joints : List Float
  pub ran : slice_of e b ≡ stopped at_end poses joints
  pub over : goes_on (space_of b) at_end ≡ false
  pub answer : r ≡ answer_in at_end
  pub left_poses : c.poses ≡ padded (length poses) nought (take (staying at_end * 6) poses)
  pub left_joints : c.joints ≡ padded (length joints) nought (take (staying at_end * 5) joints)

-- a turn that goes on
pub record Next (e : Entry) (b : Buffers) (d : Entry) (c : Buffers) : Type 0 where
  pub machine : Machine
  pub ran : slice_of e b ≡ stopped (Ok machine) c.poses c.joints
  pub is : d ≡ with_machine e machine
  pub more : machine.waiting < space_of b

pub over_last : (e : Entry) (b : Buffers) (r : Divided) → serve e b ≡ Queue.Over r → Last e b r (left e b)
unfolding closed_in
over_last e b r h = go (slice_of e b).turn refl
  where
    by_test : (m : Machine) → (slice_of e b).turn ≡ Ok m → (g : Bool) → ltb m.waiting (space_of b) ≡ g → Last e b r (left e b)
    by_test m is true g = absurd (false≢true (rw (is, g) at (ap is_over h)))
    by_test m is false g = record {
      at_end = Ok m;
      poses = (slice_of e b).poses;
      joints = (slice_of e b).joints;
      ran = rw is;
      over = g;
      answer = sym (ap (over_in r) h) ∙ rw (is, g);
      left_poses = rw (is, g);
      left_joints = rw (is, g);
    }

    go : (t : Turn) → (slice_of e b).turn ≡ t → Last e b r (left e b)
    go (Ok m) is = by_test m is (ltb m.waiting (space_of b)) refl
    go (Err s) is = record {
      at_end = Err s;
      poses = (slice_of e b).poses;
      joints = (slice_of e b).joints;
      ran = rw is;
      over = refl;
      answer = sym (ap (over_in r) h) ∙ rw is;
      left_poses = rw is;
      left_joints = rw is;
    }

pub still_next : (e : Entry) (b : Buffers) (d : Entry) → serve e b ≡ Queue.Still d → Next e b d (left e b)
unfolding closed_in
still_next e b d h = go (slice_of e b).turn refl
  where
    by_test : (m : Machine) → (slice_of e b).turn ≡ Ok m → (g : Bool) → ltb m.waiting (space_of b) ≡ g → Next e b d (left e b)
    by_test m is true g = record {
      machine = m;
      ran = rw (is, g);
      is = sym (ap (still_in d) h) ∙ rw (is, g);
      more = ltb-true m.waiting (space_of b) g;
    }
    by_test m is false g = absurd (true≢false (rw (is, g) at (ap is_over h)))

    go : (t : Turn) → (slice_of e b).turn ≡ t → Next e b d (left e b)
    go (Ok m) is = by_test m is (ltb m.waiting (space_of b)) refl
    go (Err s) is = absurd (true≢false (rw is at (ap is_over h)))

-- ---- turn after turn
finished : (p : Prepared) (tol : Tolerances) (space : ℕ) (poses₀ joints₀ : List Float) (m₀ : Machine) (t : Turn) → goes_on space t ≡ false → Finished p tol space poses₀ joints₀ m₀ t
finished p tol space poses₀ joints₀ m₀ (Ok m) h = ltb-false m.waiting space h
finished p tol space poses₀ joints₀ m₀ (Err s) h = tt

-- all turns of a path alone, as slices of its machine, however paths are admitted
module _ {I : Type 0} (enter : I → Buffers → Queue.Entering Entry) (p : Prepared) (tol : Tolerances) (space : ℕ) (poses₀ joints₀ : List Float) (m₀ : Machine) where
  pub record Served (m : Machine) (poses joints : List Float) (r : Divided) (c : Buffers) : Type 0 where
    pub at_end : Turn
    pub poses' : List Float
    pub joints' : List Float
    pub slices : Sliced p tol space poses₀ joints₀ m₀ 64 m poses joints at_end poses' joints'
    pub poses_kept : length poses' ≡ length poses
    pub joints_kept : length joints' ≡ length joints
    pub answer : r ≡ answer_in at_end
    pub left_poses : c.poses ≡ padded (length poses') nought (take (staying at_end * 6) poses')
    pub left_joints : c.joints ≡ padded (length joints') nought (take (staying at_end * 5) joints')

  abbrev Alone : Entry → Buffers → Divided → Buffers → Type 0
  Alone = Queue.Alone enter fits serve left

  moved : (e : Entry) (b : Buffers) (t : Turn) (ps js : List Float) → e.chain ≡ p → tol_of e ≡ tol → space_of b ≡ space → slice_of e b ≡ stopped t ps js → sliced 64 p tol space e.machine b.poses b.joints ≡ stopped t ps js
  unfolding slice_of
  moved e b t ps js x y z h =
      ap (λ (q : Prepared). sliced 64 q tol space e.machine b.poses b.joints) (sym x) ∙ ap (λ (q : Tolerances). sliced 64 e.chain q space e.machine b.poses b.joints) (sym y)
      ∙ ap (λ (k : ℕ). sliced 64 e.chain (tol_of e) k e.machine b.poses b.joints) (sym z) ∙ h

  turns_served : {e : Entry} {b : Buffers} {r : Divided} {c : Buffers} → Alone e b r c → e.chain ≡ p → tol_of e ≡ tol → space_of b ≡ space → Served e.machine b.poses b.joints r c
  unfolding slice_of
  turns_served {e} {b} {r} (Queue.ends h) x y z =
      let l = over_last e b r h in
      let long = sliced_long e.chain (tol_of e) (space_of b) 64 e.machine b.poses b.joints in
      let q : sliced 64 p tol space e.machine b.poses b.joints ≡ stopped l.at_end l.poses l.joints = moved e b l.at_end l.poses l.joints x y z l.ran in
      record {
        at_end = l.at_end;
        poses' = l.poses;
        joints' = l.joints;
        slices = last q (finished p tol space poses₀ joints₀ m₀ l.at_end (subst (λ (k : ℕ). goes_on k l.at_end ≡ false) z l.over));
        poses_kept = sym (ap (λ (s : Slice). length s.poses) l.ran) ∙ long.0;
        joints_kept = sym (ap (λ (s : Slice). length s.joints) l.ran) ∙ long.1;
        answer = l.answer;
        left_poses = l.left_poses;
        left_joints = l.left_joints;
      }
  turns_served {e} {b} {r} {c} (Queue.goes_on {d = d} h on) x y z =
      let n = still_next e b d h in
      let long = sliced_long e.chain (tol_of e) (space_of b) 64 e.machine b.poses b.joints in
      let a : length (left e b).poses ≡ length b.poses = sym (ap (λ (s : Slice). length s.poses) n.ran) ∙ long.0 in
      let f : length (left e b).joints ≡ length b.joints = sym (ap (λ (s : Slice). length s.joints) n.ran) ∙ long.1 in
      let i = n.is in
      let w : space_of (left e b) ≡ space = ap (λ (k : ℕ). space_in k (length (left e b).joints)) a ∙ ap (λ (k : ℕ). space_in (length b.poses) k) f ∙ z in
      let s = turns_served on (ap (λ (q : Entry). q.chain) i ∙ x) (ap (λ (q : Entry). tol_of q) i ∙ y) w in
      let u : d.machine ≡ n.machine = ap (λ (q : Entry). q.machine) i in
      let q : sliced 64 p tol space e.machine b.poses b.joints ≡ stopped (Ok n.machine) (left e b).poses (left e b).joints = moved e b (Ok n.machine) (left e b).poses (left e b).joints x y z n.ran in
      record {
        at_end = s.at_end;
        poses' = s.poses';
        joints' = s.joints';
        slices = again q (subst (λ (m : Machine). Sliced p tol space poses₀ joints₀ m₀ 64 m (left e b).poses (left e b).joints s.at_end s.poses' s.joints') u s.slices);
        poses_kept = s.poses_kept ∙ a;
        joints_kept = s.joints_kept ∙ f;
        answer = s.answer;
        left_poses = s.left_poses;
        left_joints = s.left_joints;
      }

-- "ends with the bits, count and refusal that it gets alone"
abbrev pub answer_of : Entry → Buffers → Answer Item
answer_of e b = halved_from e.chain (tol_of e) (space_of b) e.machine b.poses b.joints

pub record AsDivided (e : Entry) (b : Buffers) (r : Divided) (c : Buffers) : Type 0 where
  pub answer : r ≡ divided_in (answer_of e b)
  pub poses : c.poses ≡ poses_over (answer_of e b) b.poses
  pub joints : c.joints ≡ joints_over (answer_of e b) b.joints

pub alone_divides : {I : Type 0} (enter : I → Buffers → Queue.Entering Entry) {e : Entry} {b : Buffers} {r : Divided} {c : Buffers} → Queue.Alone enter fits serve left e b r c
    → Ready e.chain (tol_of e) (space_of b) e.machine b.poses b.joints → AsDivided e b r c
alone_divides enter {e} {b} {r} {c} al ready =
    let s = turns_served enter e.chain (tol_of e) (space_of b) b.poses b.joints e.machine al refl refl refl in
    let ran = slices_end e.chain (tol_of e) (space_of b) b.poses b.joints e.machine ready s.slices in
    let x = space_poses (length b.poses) (length b.joints) in
    let y = space_joints (length b.poses) (length b.joints) in
    let h = left_by (answer_of e b) (space_of b) b.poses b.joints s.poses' s.joints' {said = r} s.at_end ran.so s.poses_kept s.joints_kept
    (rw s.poses_kept x) (rw s.joints_kept y) s.answer s.left_poses s.left_joints in
    record { answer = h.0; poses = h.1.0; joints = h.1.1 }
