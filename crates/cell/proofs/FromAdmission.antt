-- A path from its admission on, in a row from an empty dispatcher: it ends as its division alone.
use Prim.Native.Nat.{ℕ, ◌+◌, ◌-◌, ◌*◌, ◌≤◌, ◌<◌}
use native.Mathlib.Omega.{arith}
use mathlib.Core.Path.{◌≡◌, refl, sym, ap, ◌∙◌, subst}
use mathlib.Core.Bool.{Bool, true, false, false≢true}
use mathlib.Core.List.{List}
use borrow.Author.Tests.{eqb-true, eqb-false, eq-eqb, ne_eqb, le-leb, le-ltb}
use lib.Dec.{eqb, ltb}
use lib.ListN.{length, take}
use lib.Ieee.{Float}
use Rattle.std.specs.Prelude.{Ok}
use Rattle.float.specs.Helpers.{nought}
use Rattle.lists.specs.Padding.{padded}
use Rattle.lists.proofs.Padding.{padded_nil}
use Rattle.halving.specs.Halving.{Answer}
use Rattle.chain.specs.declared.Prepared.{Prepared}
use Rattle.chain.specs.Prepared.{prepared}
use Rattle.middle.specs.declared.Item.{Item}
use Rattle.turn.specs.Items.{space_in}
use Rattle.turn.proofs.Space.{space_poses, space_joints}
use Rattle.turn.proofs.Stored.{items_length}
use Rattle.slice.specs.Slicing.{stopped}
use Rattle.slice.proofs.Slices.{nothing_waits}
use Rattle.machine.specs.Dividing.{Divided, Ready, halved_from, division, divided_in, poses_over, joints_over}
use Rattle.machine.proofs.Copies.{poses_by_length, joints_by_length}
use Rattle.divide.specs.Subdividing.{Halved, given, division_within, idle, idle_answer, subdivide_path}
use Rattle.divide.proofs.Lengths.{check_lengths}
use Rattle.divide.proofs.Idle.{idle_within, idle_poses, idle_joints, busy_items}
use Rattle.queue.specs.Queue as Queue
use Rattle.queue.specs.Queue.{smallest_free}
use Rattle.queue.specs.Places.{from_empty}
use Rattle.queue.proofs.FromEmpty.{admitted_alone}
use Rattle.cell.specs.State.{Buffers, buffers, space_of, tol_of}
use Rattle.cell.specs.Turning.{slice_of, closed_in, fits, serve, left}
use Rattle.cell.specs.Admitting.{Inputs, given_count, division_checks, idle_machine, first_machine, machine_on, first_entry, placed_run, placed_in, placed, enter, Begun}
use Rattle.cell.specs.declared.Entry.{Entry}
use Rattle.cell.proofs.Placing.{some_count, run_long, placed_begun}
use Rattle.cell.proofs.Rowed.{ends_at_once}
use Rattle.cell.proofs.AsAlone.{alone_divides}
use Rattle.cell.specs.Rows.{tol_in, AsSubdivided}
use Rattle.cell.proofs.Able.{entered_so}

module _ (i : Inputs) (b : Buffers) (passed : division_checks i (length b.poses) (length b.joints) ≡ Ok tt) (room : given_count i ≤ space_of b) where
  abbrev p : Prepared
  p = prepared i.chain

  abbrev g : List Item
  g = given i.poses i.joints

  lengths : (length i.poses ≡ given_count i * 6) × (length i.joints ≡ given_count i * 5)
  lengths = check_lengths i.chain (tol_in i) i.poses i.joints (length b.poses) (length b.joints) passed

  divides : subdivide_path i.chain (tol_in i) i.poses i.joints (length b.poses) (length b.joints) ≡ Halved (division_within p (tol_in i) (space_of b) g)
  unfolding subdivide_path
  divides = rw passed

  -- ---- with a pose
  module _ (some : 0 < given_count i) where
    abbrev at_poses : List Float
    at_poses = placed_run i.poses 6 b.poses ((space_of b - given_count i + 1) * 6)

    abbrev at_joints : List Float
    at_joints = placed_run i.joints 5 b.joints ((space_of b - given_count i + 1) * 5)

    begun : Begun p (space_of b) (given_count i) i.poses i.joints (first_machine p (space_of b) (given_count i) i.joints) at_poses at_joints
    begun = placed_begun p (space_of b) (given_count i) i.poses i.joints b.poses b.joints some room lengths.0 lengths.1 (space_poses (length b.poses) (length b.joints)) (space_joints (length b.poses) (length b.joints))

    poses_kept : length at_poses ≡ length b.poses
    poses_kept =
        let l = lengths.0 in
        let s = space_poses (length b.poses) (length b.joints) in
        run_long i.poses 6 b.poses ((space_of b - given_count i + 1) * 6) (omega arith) (omega arith) (omega arith)

    joints_kept : length at_joints ≡ length b.joints
    joints_kept =
        let l = lengths.1 in
        let s = space_joints (length b.poses) (length b.joints) in
        run_long i.joints 5 b.joints ((space_of b - given_count i + 1) * 5) (omega arith) (omega arith) (omega arith)

    busy : eqb (given_count i) 0 ≡ false
    busy = ne_eqb (given_count i) 0 (λ e. absurd (omega (arith, e, some)))

    placed_is : placed i b ≡ buffers at_poses at_joints
    unfolding placed_in
    placed_is = rw busy

    machine_is : (first_entry i b).machine ≡ first_machine p (space_of b) (given_count i) i.joints
    unfolding first_entry machine_on
    machine_is = rw busy

    -- the entry with the machine written out
    abbrev e : Entry
    e = record { room_poses = length b.poses; room_joints = length b.joints; chain = p; chord = i.chord; axis = i.axis; machine = first_machine p (space_of b) (given_count i) i.joints }

    entry_is : first_entry i b ≡ e
    unfolding first_entry machine_on
    entry_is = rw busy

    space_kept : space_of (buffers at_poses at_joints) ≡ space_of b
    space_kept = ap (λ (n : ℕ). space_in n (length at_joints)) poses_kept ∙ ap (space_in (length b.poses)) joints_kept

    alone_with_pose : {r : Divided} {c : Buffers} → Queue.Alone enter fits serve left e (buffers at_poses at_joints) r c → AsSubdivided i b r c
    alone_with_pose {r} {c} al =
        let y = begun in
        let ready = subst (λ (n : ℕ). Ready p (tol_in i) n e.machine at_poses at_joints) (sym space_kept) (y.ready (tol_in i)) in
        let d = alone_divides enter {e = e} {b = buffers at_poses at_joints} {r = r} {c = c} al ready in
        let same : halved_from p (tol_in i) (space_of (buffers at_poses at_joints)) e.machine at_poses at_joints ≡ division p (tol_in i) (space_of b) g =
        ap (λ (n : ℕ). halved_from p (tol_in i) n e.machine at_poses at_joints) space_kept ∙ y.same (tol_in i) in
        record {
          alone = division p (tol_in i) (space_of b) g;
          divided = divides ∙ ap Halved (busy_items p (tol_in i) (space_of b) (given_count i) i.poses i.joints room);
          answer = d.answer ∙ ap divided_in same;
          poses = d.poses ∙ ap (λ (z : Answer Item). poses_over z at_poses) same ∙ poses_by_length (division p (tol_in i) (space_of b) g) b.poses at_poses poses_kept;
          joints = d.joints ∙ ap (λ (z : Answer Item). joints_over z at_joints) same ∙ joints_by_length (division p (tol_in i) (space_of b) g) b.joints at_joints joints_kept;
        }

    pub pose_ends : {r : Divided} {c : Buffers} → Queue.Alone enter fits serve left (first_entry i b) (placed i b) r c → AsSubdivided i b r c
    pose_ends {r} {c} al =
        alone_with_pose (subst (λ (z : Buffers). Queue.Alone enter fits serve left e z r c) placed_is (subst (λ (z : Entry). Queue.Alone enter fits serve left z (placed i b) r c) entry_is al))

  -- ---- without a pose
  module _ (none : given_count i ≡ 0) where
    idle_is : eqb (given_count i) 0 ≡ true
    idle_is = eq-eqb (given_count i) 0 none

    idle_placed : placed i b ≡ b
    unfolding placed_in
    idle_placed = rw idle_is

    abbrev o : Entry
    o = record { room_poses = length b.poses; room_joints = length b.joints; chain = p; chord = i.chord; axis = i.axis; machine = idle_machine (space_of b) }

    idle_entry : first_entry i b ≡ o
    unfolding first_entry machine_on
    idle_entry = rw idle_is

    all_waits : space_of b ≤ o.machine.waiting
    unfolding idle_machine
    all_waits = omega arith

    none_inserted : o.machine.inserted ≡ 0
    unfolding idle_machine
    none_inserted = refl

    none_placed : o.machine.placed ≡ 0
    unfolding idle_machine
    none_placed = refl

    ended : serve o b ≡ Queue.Over (Ok 0)
    ended = ends_at_once o b all_waits ∙ ap (λ (n : ℕ). Queue.Over (Ok n)) none_inserted

    ran : slice_of o b ≡ stopped (Ok o.machine) b.poses b.joints
    unfolding slice_of
    ran = nothing_waits 64 o.chain (tol_of o) (space_of b) o.machine b.poses b.joints all_waits

    stops : ltb o.machine.waiting (space_of b) ≡ false
    stops = le-ltb o.machine.waiting (space_of b) all_waits

    left_poses : (left o b).poses ≡ padded (length b.poses) nought (take 0 b.poses)
    unfolding closed_in
    left_poses = rw (ran, stops, none_placed)

    left_joints : (left o b).joints ≡ padded (length b.joints) nought (take 0 b.joints)
    unfolding closed_in
    left_joints = rw (ran, stops, none_placed)

    nothing : division_within p (tol_in i) (space_of b) g ≡ idle_answer (space_of b) 0
    unfolding idle
    nothing = idle_within p (tol_in i) (space_of b) 0 g (items_length (given_count i) i.poses i.joints ∙ none) refl

    said : divided_in (idle_answer (space_of b) 0) ≡ Ok 0
    unfolding idle_answer
    said = rw (le-leb 0 (space_of b) (omega arith))

    abbrev over_in : Divided → Queue.Outcome Entry Divided → Divided
    over_in d (Queue.Over r) = r
    over_in d (Queue.Still x) = d

    abbrev is_over : Queue.Outcome Entry Divided → Bool
    is_over (Queue.Over r) = true
    is_over (Queue.Still x) = false

    without_pose : {r : Divided} {c : Buffers} → Queue.Alone enter fits serve left o b r c → AsSubdivided i b r c
    without_pose {r} (Queue.ends h) = record {
      alone = idle_answer (space_of b) 0;
      divided = divides ∙ ap Halved nothing;
      answer = ap (over_in r) (sym h ∙ ended) ∙ sym said;
      poses = left_poses ∙ padded_nil (length b.poses) nought ∙ idle_poses (space_of b) 0 b.poses;
      joints = left_joints ∙ padded_nil (length b.joints) nought ∙ idle_joints (space_of b) 0 b.joints;
    }
    without_pose (Queue.goes_on h on) = absurd (false≢true (ap is_over (sym h ∙ ended)))

    pub idle_ends : {r : Divided} {c : Buffers} → Queue.Alone enter fits serve left (first_entry i b) (placed i b) r c → AsSubdivided i b r c
    idle_ends {r} {c} al =
        without_pose (subst (λ (z : Buffers). Queue.Alone enter fits serve left o z r c) idle_placed (subst (λ (z : Entry). Queue.Alone enter fits serve left z (placed i b) r c) idle_entry al))

  pub alone_subdivides : {r : Divided} {c : Buffers} → Queue.Alone enter fits serve left (first_entry i b) (placed i b) r c → AsSubdivided i b r c
  alone_subdivides {r} {c} al = go (eqb (given_count i) 0) (eqb-true (given_count i) 0) (eqb-false (given_count i) 0)
    where
      go : (t : Bool) → (t ≡ true → given_count i ≡ 0) → (t ≡ false → given_count i ≡ 0 → ⊥) → AsSubdivided i b r c
      go true f h = idle_ends (f refl) al
      go false f h = pose_ends (some_count (given_count i) (h refl)) al

-- "In rows of calls from an empty dispatcher, .. a path whose lent buffers come to each turn as admission or its last
-- turn left them ends with the bits, count and refusal that it gets alone; other contents change no other path": of the
-- other paths' buffers nothing is asked
pub ends_as_alone : (row : List (Queue.Call Inputs Buffers)) (i : Inputs) (b : Buffers) (e : Entry) → length (from_empty enter fits serve row) < 16 → enter i b ≡ Queue.Entered e
    → (next : List (Queue.Call Inputs Buffers)) (r : Divided) (c : Buffers)
    → Queue.EndsIn enter fits serve left (smallest_free (from_empty enter fits serve row)) (Queue.after enter fits serve (from_empty enter fits serve row) (Queue.Admit i b)) (placed i b) next r c
    → AsSubdivided i b r c
ends_as_alone row i b e few is next r c h =
    let q = entered_so i b e is in
    let al = admitted_alone enter fits serve left row i b (placed i b) c e next r few is h in
    alone_subdivides i b q.0 q.1.0 (subst (λ (z : Entry). Queue.Alone enter fits serve left z (placed i b) r c) (sym q.1.1) al)
