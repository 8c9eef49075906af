-- A turn: crate queue's paths that are served in turn, where a path is an entry, its buffers are two lent outputs, and
-- a turn is 64 tests.
use Rattle.std.specs.Prelude.{ℕ, ◌-◌, ◌*◌, Bool, false, cond, ◌&&◌, ◌||◌, List, [], ◌∷◌, eqb, leb, ltb, length, get_or, set, take, Float, Err, None, Ok, Option, Result, Some}
use Rattle.float.specs.Helpers.{nought}
use Rattle.lists.specs.Padding.{padded}
use Rattle.refusal.specs.declared.Cause.{Cause}
use Rattle.refusal.specs.declared.Refusal.{Refusal}
use Rattle.refusal.specs.Numbers.{refusal}
use Rattle.turn.specs.Items.{space_in}
use Rattle.turn.specs.Turning.{Turn, most}
use Rattle.turn.specs.declared.Machine.{Machine}
use Rattle.slice.specs.Slicing.{Slice, sliced}
use Rattle.machine.specs.Dividing.{Divided, staying}
use Rattle.queue.specs.Queue.{Waiting}
use Rattle.queue.specs.Queue as Queue
use Rattle.storing.specs.Storing.{stored_at}
use Rattle.cell.specs.declared.Entry.{Entry}
use Rattle.cell.specs.declared.Outcome.{Outcome}
use Rattle.cell.specs.declared.Outcome.TheVariants.{Still, Over}
use Rattle.cell.specs.declared.Served.{Served}
use Rattle.cell.specs.Coding.{words_of, numbers_of, forward, path_in}
use Rattle.cell.specs.State.{count_in, queue_in, state_good, Buffers, buffers, space_of, tol_of}

-- ---- what a path is served with
-- the machine's numbers are those of one in so much space
unfoldable pub counts_in : ℕ → Machine → Bool
counts_in space m =
    leb m.placed m.waiting && leb m.waiting space && leb m.given (space - m.waiting) && leb m.inserted most && (ltb 0 m.placed || leb space m.waiting)

-- the outputs are as long as admitted, and the machine's numbers are those of one in them
unfoldable pub fits_in : Entry → (poses joints : ℕ) → Bool
fits_in e poses joints = eqb e.room_poses poses && eqb e.room_joints joints && counts_in (space_in poses joints) e.machine

abbrev pub fits : Entry → Buffers → Bool
fits e b = fits_in e (length b.poses) (length b.joints)

-- ---- 64 tests
unfoldable pub slice_of : Entry → Buffers → Slice
slice_of e b = sliced 64 e.chain (tol_of e) (space_of b) e.machine b.poses b.joints

-- "it ends with its last test, or without a pair in its first turn": nothing waits, or a refusal
abbrev pub goes_on : ℕ → Turn → Bool
goes_on space (Ok m) = ltb m.waiting space
goes_on space (Err s) = false

abbrev pub outcome_in : ℕ → Turn → Outcome
outcome_in space (Ok m) = cond (ltb m.waiting space) (Still m) (Over (Ok m.inserted))
outcome_in space (Err s) = Over (Err s)

-- what is left: as the tests left it, or, where it ends, what is placed and then +0.0
unfoldable pub closed_in : ℕ → Turn → ℕ → List Float → List Float
closed_in space t w l = cond (goes_on space t) l (padded (length l) nought (take (staying t * w) l))

abbrev pub outcome_of : Entry → Buffers → Outcome
outcome_of e b = outcome_in (space_of b) (slice_of e b).turn

abbrev pub left : Entry → Buffers → Buffers
left e b = buffers (closed_in (space_of b) (slice_of e b).turn 6 (slice_of e b).poses) (closed_in (space_of b) (slice_of e b).turn 5 (slice_of e b).joints)

abbrev pub with_machine : Entry → Machine → Entry
with_machine e m = record { room_poses = e.room_poses; room_joints = e.room_joints; chain = e.chain; chord = e.chord; axis = e.axis; machine = m }

abbrev pub queued : Entry → Outcome → Queue.Outcome Entry Divided
queued e (Still m) = Queue.Still (with_machine e m)
queued e (Over d) = Queue.Over d

abbrev pub serve : Entry → Buffers → Queue.Outcome Entry Divided
serve e b = queued e (outcome_of e b)

-- ---- a turn's answer: a refusal that changes nothing, no path, or what was served
abbrev pub Turned : Type 0
Turned = Result (Option Served) Refusal

abbrev pub served_from : List (Waiting Entry) → Buffers → Turned
served_from [] b = Ok None
served_from (w ∷ l) b = cond (fits w.path b) (Ok (Some (record { path = w.number; outcome = outcome_of w.path b }))) (Err (refusal Cause.LengthsDiffer 0))

abbrev pub left_from : List (Waiting Entry) → Buffers → Buffers
left_from [] b = b
left_from (w ∷ l) b = cond (fits w.path b) (left w.path b) b

unfoldable pub turn_answer : List ℕ → List Float → Buffers → Turned
turn_answer words numbers b = cond (state_good words numbers) (served_from (queue_in words numbers) b) (Err (refusal Cause.LengthsDiffer 0))

unfoldable pub turn_left : List ℕ → List Float → Buffers → Buffers
turn_left words numbers b = cond (state_good words numbers) (left_from (queue_in words numbers) b) b

-- ---- what a turn leaves of the state
-- `last` paths wait, and behind them all is zero
unfoldable pub words_left : ℕ → List ℕ → List ℕ
words_left last words = set (padded (length words) 0 (take (last * 9) words)) 144 last

unfoldable pub numbers_left : ℕ → List Float → List Float
numbers_left last numbers = padded (length numbers) nought (take (last * 23) numbers)

unfoldable pub first_number : List ℕ → ℕ
first_number words = get_or words 0 0

unfoldable pub behind_first : List ℕ → ℕ
behind_first words = count_in words - 1

-- those behind the first have come forward, and the first waits last or left
abbrev pub words_served : Entry → Outcome → List ℕ → List ℕ
words_served e (Still m) words =
    stored_at (forward 9 (behind_first words * 9) words) (behind_first words * 9) (words_of (first_number words) (with_machine e m))
words_served e (Over d) words = words_left (behind_first words) (forward 9 (behind_first words * 9) words)

abbrev pub numbers_served : Entry → Outcome → List ℕ → List Float → List Float
numbers_served e (Still m) words numbers =
    stored_at (forward 23 (behind_first words * 23) numbers) (behind_first words * 23) (numbers_of (with_machine e m))
numbers_served e (Over d) words numbers = numbers_left (behind_first words) (forward 23 (behind_first words * 23) numbers)

-- by the turn's answer: "other lengths than admitted are 20 and change nothing", "A turn with no path changes nothing"
abbrev pub words_turned : Turned → List ℕ → List Float → List ℕ
words_turned (Err r) words numbers = words
words_turned (Ok None) words numbers = words
words_turned (Ok (Some s)) words numbers = words_served (path_in words numbers) s.outcome words

abbrev pub numbers_turned : Turned → List ℕ → List Float → List Float
numbers_turned (Err r) words numbers = numbers
numbers_turned (Ok None) words numbers = numbers
numbers_turned (Ok (Some s)) words numbers = numbers_served (path_in words numbers) s.outcome words numbers

-- ---- the same of the paths that wait
-- no path is admitted by a turn
abbrev pub none_enters : Buffers → Buffers → Queue.Entering Entry
none_enters i b = Queue.Refused 0

abbrev pub requeued : List (Waiting Entry) → ℕ → Entry → Outcome → List (Waiting Entry)
requeued l k e o = Queue.requeued none_enters fits serve l k (queued e o)

abbrev pub turned : List (Waiting Entry) → Buffers → List (Waiting Entry)
turned = Queue.turned none_enters fits serve
