-- Every path of a row from an empty dispatcher can be served: other lengths than admitted are the only reason for 20.
-- And each turn has 64 tests or ends its path, so that a path ends whatever its buffers hold.
use Prim.Native.Nat.{ℕ, ◌+◌, ◌-◌, ◌*◌, ◌≤◌, ◌<◌}
use native.Mathlib.Omega.{arith}
use mathlib.Core.Path.{◌≡◌, refl, sym, ap, ◌∙◌, subst}
use mathlib.Core.Bool.{Bool, true, false, cond, ◌&&◌, ◌||◌, false≢true}
use mathlib.Core.List.{List}
use borrow.Author.Tests.{eqb-true, eqb-false, leb-true, leb-false, ltb-false, eq-eqb, le-leb}
use lib.Dec.{eqb, leb, ltb}
use lib.ListN.{length}
use lib.Ieee.{Float}
use Rattle.std.specs.Prelude.{Err, Ok}
use Rattle.chain.specs.Checked.{Checked}
use Rattle.chain.specs.declared.Prepared.{Prepared}
use Rattle.chain.specs.Prepared.{prepared}
use Rattle.chain.proofs.ReadyLaws.{both}
use Rattle.lists.specs.Each.{Each}
use Rattle.turn.specs.Items.{space_in}
use Rattle.turn.specs.Turning.{most}
use Rattle.turn.specs.declared.Machine.{Machine}
use Rattle.slice.specs.Slicing.{Slice, Counts}
use Rattle.slice.proofs.Slices.{CountsOf, sliced_counts}
use Rattle.slice.proofs.Tests.{done, tests_all}
use Rattle.queue.specs.Queue as Queue
use Rattle.queue.specs.Queue.{Waiting}
use Rattle.queue.specs.Places.{from_empty}
use Rattle.queue.proofs.FromEmpty.{each_waits}
use Rattle.cell.specs.State.{Buffers, space_of, tol_of}
use Rattle.cell.specs.Turning.{left, counts_in, fits_in, fits, slice_of, serve}
use Rattle.cell.specs.Admitting.{Inputs, given_count, division_checks, idle_machine, first_machine, machine_on, first_entry, entering, enter}
use Rattle.cell.specs.declared.Entry.{Entry}
use Rattle.cell.specs.Rows.{GoesOn, stays, turns}
use Rattle.cell.proofs.Serving.{counts_so, fits_counts}
use Rattle.cell.proofs.Placing.{some_count}
use Rattle.cell.proofs.AsAlone.{Next, still_next}

-- ---- a path that can be served in outputs of the lengths that it was admitted with
abbrev pub Able : Entry → Type 0
Able e = counts_in (space_in e.room_poses e.room_joints) e.machine ≡ true

pub able_fits : (e : Entry) (b : Buffers) → Able e → length b.poses ≡ e.room_poses → length b.joints ≡ e.room_joints → fits e b ≡ true
unfolding fits_in
able_fits e b h x y = rw (eq-eqb e.room_poses (length b.poses) (sym x), eq-eqb e.room_joints (length b.joints) (sym y), x, y) h

counts_back : (space : ℕ) (m : Machine) → Counts space m → counts_in space m ≡ true
unfolding counts_in
counts_back space m c =
    rw (le-leb m.placed m.waiting c.apart, le-leb m.waiting space c.waits, le-leb m.given (space - m.waiting) c.given_last, le-leb m.inserted most c.few)
    (go (ltb 0 m.placed) (leb space m.waiting) (ltb-false 0 m.placed) (leb-false space m.waiting))
  where
    go : (s t : Bool) → (s ≡ false → m.placed ≤ 0) → (t ≡ false → m.waiting < space) → (s || t) ≡ true
    go true t f g = refl
    go false true f g = refl
    go false false f g = let p = f refl in let q = c.some_placed (g refl) in absurd (omega arith)

-- ---- at admission
idle_counts : (space : ℕ) → Counts space (idle_machine space)
unfolding idle_machine
idle_counts space = record { some_placed = λ h. absurd (omega arith); apart = omega arith; waits = omega arith; given_last = omega arith; few = omega arith }

first_counts : (p : Prepared) (space count : ℕ) (solved : List Float) → 0 < count → count ≤ space → Counts space (first_machine p space count solved)
unfolding first_machine
first_counts p space count solved some fit =
    record { some_placed = λ h. omega arith; apart = omega arith; waits = omega arith; given_last = omega arith; few = omega arith }

machine_counts : (p : Prepared) (space count : ℕ) (solved : List Float) → count ≤ space → Counts space (machine_on p space count solved)
unfolding machine_on
machine_counts p space count solved fit = go (eqb count 0) (eqb-false count 0)
  where
    go : (t : Bool) → (t ≡ false → count ≡ 0 → ⊥) → Counts space (cond t (idle_machine space) (first_machine p space count solved))
    go true f = idle_counts space
    go false f = first_counts p space count solved (some_count count (f refl)) fit

pub first_able : (i : Inputs) (b : Buffers) → given_count i ≤ space_of b → Able (first_entry i b)
unfolding first_entry
first_able i b h =
    counts_back (space_of b) (machine_on (prepared i.chain) (space_of b) (given_count i) i.joints)
    (machine_counts (prepared i.chain) (space_of b) (given_count i) i.joints h)

abbrev is_entered : Queue.Entering Entry → Bool
is_entered (Queue.Entered e) = true
is_entered (Queue.Refused n) = false

abbrev entered_in : Entry → Queue.Entering Entry → Entry
entered_in d (Queue.Entered e) = e
entered_in d (Queue.Refused n) = d

entering_so : (c : Checked) (t : Bool) (f e : Entry) → entering c t f ≡ Queue.Entered e → (c ≡ Ok tt) × ((t ≡ true) × (f ≡ e))
entering_so (Err r) t f e h = absurd (false≢true (ap is_entered h))
entering_so (Ok u) true f e h = (refl, (refl, ap (entered_in f) h))
entering_so (Ok u) false f e h = absurd (false≢true (ap is_entered h))

-- an admitted path has passed division's checks, has space for what is given, and begins with its first entry
pub entered_so : (i : Inputs) (b : Buffers) (e : Entry) → enter i b ≡ Queue.Entered e
    → (division_checks i (length b.poses) (length b.joints) ≡ Ok tt) × ((given_count i ≤ space_of b) × (first_entry i b ≡ e))
unfolding enter
entered_so i b e h =
    let p = entering_so (division_checks i (length b.poses) (length b.joints)) (leb (given_count i) (space_of b)) (first_entry i b) e h in
    (p.0, (leb-true (given_count i) (space_of b) p.1.0, p.1.1))

-- ---- after a turn
pub fits_rooms : (e : Entry) (a b : ℕ) → fits_in e a b ≡ true → (e.room_poses ≡ a) × (e.room_joints ≡ b)
unfolding fits_in
fits_rooms e a b h =
    let p = both (eqb e.room_poses a && eqb e.room_joints b) _ h in
    let q = both (eqb e.room_poses a) _ p.0 in
    (eqb-true e.room_poses a q.0, eqb-true e.room_joints b q.1)

next_counts : (e : Entry) (b : Buffers) (d : Entry) (n : Next e b d (left e b)) → fits e b ≡ true → Counts (space_of b) n.machine
unfolding slice_of
next_counts e b d n f =
    subst (λ (s : Slice). CountsOf (space_of b) s.turn) n.ran
    (sliced_counts e.chain (tol_of e) (space_of b) 64 e.machine b.poses b.joints (fits_counts e (length b.poses) (length b.joints) f))

pub still_able : (e : Entry) (b : Buffers) (d : Entry) → fits e b ≡ true → serve e b ≡ Queue.Still d → Able d
still_able e b d f h =
    let n = still_next e b d h in
    let r = fits_rooms e (length b.poses) (length b.joints) f in
    let c = counts_back (space_of b) n.machine (next_counts e b d n f) in
    let s : space_in e.room_poses e.room_joints ≡ space_of b = ap (λ (k : ℕ). space_in k e.room_joints) r.0 ∙ ap (space_in (length b.poses)) r.1 in
    subst Able (sym n.is) (ap (λ (k : ℕ). counts_in k n.machine) s ∙ c)

-- "(other lengths than admitted are 20 ..)": in a row from an empty dispatcher every path is served where the lengths
-- are those that it was admitted with
pub all_able : (row : List (Queue.Call Inputs Buffers)) → Each (λ (w : Waiting Entry). Able w.path) (from_empty enter fits serve row)
all_able =
    each_waits enter fits serve (λ (w : Waiting Entry). Able w.path) (λ l i b e few h. let p = entered_so i b e h in subst Able p.1.1 (first_able i b p.1.0)) (λ w b d a f h. still_able w.path b d f h)

-- ---- "Each turn gives the longest-waiting unfinished path 64 tests and their insertions, fewer only if it ends in
-- that turn": a test places an item or inserts one, and a turn after which the path goes on had 64
pub full_turn : (e : Entry) (b : Buffers) (d : Entry) → serve e b ≡ Queue.Still d → done d.machine ≡ done e.machine + 64
unfolding slice_of
full_turn e b d h =
    let n = still_next e b d h in
    ap (λ (q : Entry). done q.machine) n.is ∙ tests_all e.chain (tol_of e) (space_of b) 64 e.machine b.poses b.joints n.machine (ap (λ (s : Slice). s.turn) n.ran) n.more

-- ---- "such a path ends too"
still_room : (e : Entry) (b : Buffers) (d : Entry) → serve e b ≡ Queue.Still d → (d.room_poses ≡ e.room_poses) × (d.room_joints ≡ e.room_joints)
still_room e b d h = let n = still_next e b d h in (ap (λ (q : Entry). q.room_poses) n.is, ap (λ (q : Entry). q.room_joints) n.is)

able_done : (e : Entry) → Able e → done e.machine ≤ space_in e.room_poses e.room_joints + most
able_done e h =
    let s = space_in e.room_poses e.room_joints in
    let c = counts_so s e.machine h in
    let x = c.apart in
    let y = c.waits in
    let z = c.few in
    omega arith

goes_done : {e f : Entry} {bs : List Buffers} → GoesOn e bs f → Able e → (done e.machine + length bs * 64 ≤ done f.machine) × (Able f × ((f.room_poses ≡ e.room_poses) × (f.room_joints ≡ e.room_joints)))
goes_done stays a = (omega arith, (a, (refl, refl)))
goes_done {e} (turns {d = d} {b = b} f h on) a =
    let t = full_turn e b d h in
    let r = still_room e b d h in
    let q = goes_done on (still_able e b d f h) in
    let k = q.0 in
    (omega (arith, t, k), (q.1.0, (q.1.1.0 ∙ r.0, q.1.1.1 ∙ r.1)))

-- no path goes on through more turns than one for each 64 of its space and 10,000
pub ends_too : {e f : Entry} {bs : List Buffers} → GoesOn e bs f → Able e → length bs * 64 ≤ space_in e.room_poses e.room_joints + most
ends_too {e} {f} {bs} g a =
    let q = goes_done g a in
    let d = able_done f q.1.0 in
    let s : space_in f.room_poses f.room_joints ≡ space_in e.room_poses e.room_joints =
    ap (λ (n : ℕ). space_in n f.room_joints) q.1.1.0 ∙ ap (space_in e.room_poses) q.1.1.1 in
    let k = q.0 in
    omega (arith, k, d, s)
