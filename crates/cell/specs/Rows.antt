-- What holds of every row of calls from an empty dispatcher: of the paths that wait, and of the state that was lent.
use Rattle.std.specs.Prelude.{ℕ, ◌+◌, ◌*◌, ◌≤◌, ◌<◌, ◌≡◌, true, false, ◌↔◌, List, [], ◌∷◌, ◌++◌, length, replicate, Float, ok_or, Ok}
use Rattle.float.specs.Helpers.{nought}
use Rattle.lists.specs.Each.{Each}
use Rattle.refusal.specs.declared.Cause.{Cause}
use Rattle.refusal.specs.Numbers.{refusal}
use Rattle.halving.specs.Halving.{Answer}
use Rattle.middle.specs.declared.Item.{Item}
use Rattle.middle.specs.declared.Tolerances.{Tolerances}
use Rattle.turn.specs.Items.{space_in}
use Rattle.turn.specs.Turning.{most}
use Rattle.machine.specs.Dividing.{Divided, divided_in, poses_over, joints_over}
use Rattle.divide.specs.Subdividing.{Halved, subdivide_path}
use Rattle.queue.specs.Queue as Queue
use Rattle.queue.specs.Queue.{Waiting, has, smallest_free}
use Rattle.queue.specs.Places.{waits, Distinct, Place, Kept, from_empty}
use Rattle.cell.specs.declared.Entry.{Entry}
use Rattle.cell.specs.State.{count_in, queue_in, state_good, Buffers, tolerances}
use Rattle.cell.specs.Turning.{fits, serve, left, served_from, turn_answer}
use Rattle.cell.specs.Asking.{next_answer, next_from, count_answer, count_of, free_in}
use Rattle.cell.specs.Admitting as Admitting
use Rattle.cell.specs.Reached.{Reached}
use Rattle.cell.specs.Admitting.{Inputs, division_checks, enter, placed, admit_answer}

abbrev pub Call : Type 0
Call = Queue.Call Inputs Buffers

-- the paths that wait after a row, the longest-waiting first
abbrev pub waiting : List Call → List (Waiting Entry)
waiting = from_empty enter fits serve

-- and after one call more
abbrev pub next_after : List Call → Call → List (Waiting Entry)
next_after row call = Queue.after enter fits serve (waiting row) call

-- outputs of the lengths that a path was admitted with
pub record AsLong (e : Entry) (b : Buffers) : Type 0 where
  pub poses : length b.poses ≡ e.room_poses
  pub joints : length b.joints ≡ e.room_joints

abbrev pub tol_in : Inputs → Tolerances
tol_in i = tolerances i.chord i.axis

-- r and c are what the division of the same input alone answers and leaves
pub record AsSubdivided (i : Inputs) (b : Buffers) (r : Divided) (c : Buffers) : Type 0 where
  pub alone : Answer Item
  pub divided : subdivide_path i.chain (tol_in i) i.poses i.joints (length b.poses) (length b.joints) ≡ Halved alone
  pub answer : r ≡ divided_in alone
  pub poses : c.poses ≡ poses_over alone b.poses
  pub joints : c.joints ≡ joints_over alone b.joints

-- turns of one path that goes on after each, whatever its outputs hold
pub data GoesOn : Entry → List Buffers → Entry → Type 0 where
  stays : {e : Entry} → GoesOn e [] e
  turns : {e d f : Entry} {b : Buffers} {bs : List Buffers} → fits e b ≡ true → serve e b ≡ Queue.Still d → GoesOn d bs f → GoesOn e (b ∷ bs) f

-- ---- the paths that wait after a row of calls from an empty dispatcher
pub record Rows (row : List Call) : Type 0 where
  -- "A cell divides up to 16 paths side by side"
  pub sixteen : length (waiting row) ≤ 16
  -- each number is one path's
  pub once : Distinct (waiting row)
  -- and one "from 0 to 15"
  pub below : Each (λ (w : Waiting Entry). w.number < 16) (waiting row)
  -- "the smallest number from 0 to 15 that no admitted path has": such a number, of which no smaller one is free
  pub free : length (waiting row) < 16 → (smallest_free (waiting row) < 16) × (has (waiting row) (smallest_free (waiting row)) ≡ false)
  pub least : (k : ℕ) → k < smallest_free (waiting row) → has (waiting row) k ≡ true
  -- "Division's checks before its first test come at admission, and a path that fails one is not admitted"
  pub checked : (i : Inputs) (b : Buffers) (e : Entry) → enter i b ≡ Queue.Entered e → division_checks i (length b.poses) (length b.joints) ≡ Ok tt
  pub refused : (i : Inputs) (b : Buffers) (n : ℕ) → enter i b ≡ Queue.Refused n → next_after row (Queue.Admit i b) ≡ waiting row
  -- a path that is admitted waits last
  pub enters : (i : Inputs) (b : Buffers) (e : Entry) → length (waiting row) < 16 → enter i b ≡ Queue.Entered e
      → next_after row (Queue.Admit i b) ≡ waiting row ++ waits (smallest_free (waiting row)) e ∷ []
  -- the path that waits first is served, and then waits last,
  pub goes_last : (w : Waiting Entry) (l : List (Waiting Entry)) (b : Buffers) (d : Entry) → waiting row ≡ w ∷ l → fits w.path b ≡ true → serve w.path b ≡ Queue.Still d
      → next_after row (Queue.Turn b) ≡ l ++ waits w.number d ∷ []
  -- or "A finished path leaves and its entry is used again": no path has its number
  pub leaves : (w : Waiting Entry) (l : List (Waiting Entry)) (b : Buffers) (r : Divided) → waiting row ≡ w ∷ l → fits w.path b ≡ true → serve w.path b ≡ Queue.Over r
      → (next_after row (Queue.Turn b) ≡ l) × (has l w.number ≡ false)
  -- "other lengths than admitted are 20": a path is served exactly in outputs of the lengths that it was admitted with
  pub served : Each (λ (w : Waiting Entry). (b : Buffers) → (fits w.path b ≡ true) ↔ AsLong w.path b) (waiting row)
  -- "Each turn gives the longest-waiting unfinished path 64 tests and their insertions, fewer only if it ends in that
  -- turn": a test places an item or inserts one
  pub tests : (e d : Entry) (b : Buffers) → serve e b ≡ Queue.Still d → d.machine.placed + d.machine.inserted ≡ e.machine.placed + e.machine.inserted + 64
  -- "an unfinished path is served again within 16 turns that are not refused"
  pub again : (k i : ℕ) (e : Entry) → Place (waiting row) k i e → (next : List Call) → 16 ≤ Queue.turns_in enter fits serve (waiting row) next
      → Queue.ServedIn enter fits serve k (waiting row) next
  -- "a path whose lent buffers come to each turn as admission or its last turn left them ends with the bits, count and
  -- refusal that it gets alone": of the other paths' buffers nothing is asked
  pub alone : (i : Inputs) (b : Buffers) (e : Entry) → length (waiting row) < 16 → enter i b ≡ Queue.Entered e → (next : List Call) (r : Divided) (c : Buffers)
      → Queue.EndsIn enter fits serve left (smallest_free (waiting row)) (next_after row (Queue.Admit i b)) (placed i b) next r c
      → AsSubdivided i b r c
  -- "other contents change no other path": a call that does not serve a path keeps its number and its state
  pub others : (c : Call) (k i : ℕ) (e : Entry) → Place (waiting row) k i e → Queue.serves enter fits serve (waiting row) c k ≡ false → Kept enter fits serve (waiting row) c k i e
  -- a path in foreign outputs ends too: it goes on through at most one turn for each 64 of its space and 10,000
  pub ends : Each (λ (w : Waiting Entry). (f : Entry) (bs : List Buffers) → GoesOn w.path bs f → length bs * 64 ≤ space_in w.path.room_poses w.path.room_joints + most) (waiting row)

-- ---- the state that was lent with these calls, all zero before the first
pub record Held (row : List Call) (words : List ℕ) (numbers : List Float) : Type 0 where
  -- it holds these paths
  pub good : state_good words numbers ≡ true
  pub paths : queue_in words numbers ≡ waiting row
  -- and is all zero where none waits
  pub zero : waiting row ≡ [] → (words ≡ replicate 145 0) × (numbers ≡ replicate 368 nought)
  -- "under the smallest number from 0 to 15 that no admitted path has"
  pub number : free_in (count_in words) words ≡ smallest_free (waiting row)
  -- "A 17th path is 32 .. before any other check, 20 too"
  pub full : length (waiting row) ≡ 16 → (i : Inputs) (b : Buffers) → admit_answer words numbers i b ≡ Admitting.Kept (refusal Cause.QueueFull 0)
  -- "One call names the path served next"
  pub next : next_answer words ≡ Ok (next_from (waiting row))
  -- "another gives, by number, a path's count so far"; "a path number that is not admitted is 33"
  pub count : (k : ℕ) → count_answer words k ≡ ok_or (count_of (waiting row) k) (refusal Cause.NotAdmitted 0)
  -- the longest-waiting path is served; none where no path waits; 20 where its outputs have other lengths
  pub turn : (b : Buffers) → turn_answer words numbers b ≡ served_from (waiting row) b

-- of every row of calls that leads to this state
abbrev pub InRows : List ℕ → List Float → Type 0
InRows words numbers = (row : List Call) → Reached row words numbers → Rows row × Held row words numbers
