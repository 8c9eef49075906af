-- What holds of every row of calls from an empty dispatcher.
use Prim.Native.Nat.{ℕ, ◌+◌, ◌*◌, ◌≤◌}
use native.Mathlib.Omega.{arith}
use mathlib.Core.Path.{◌≡◌, refl, sym, ap, ◌∙◌, subst}
use mathlib.Core.Bool.{Bool, true, false, cond}
use mathlib.Core.List.{List, [], ◌∷◌, ◌++◌}
use borrow.Author.Tests.{le-ltb}
use lib.Dec.{ltb}
use lib.ListN.{length}
use lib.Ieee.{Float}
use Rattle.std.specs.Prelude.{◌↔◌, ok_or, Ok}
use Rattle.lists.specs.Each.{Each}
use Rattle.refusal.specs.declared.Cause.{Cause}
use Rattle.refusal.specs.Numbers.{refusal}
use Rattle.chain.specs.Check.{demand}
use Rattle.turn.specs.Items.{space_in}
use Rattle.turn.specs.Turning.{most}
use Rattle.queue.specs.Queue as Queue
use Rattle.queue.specs.Queue.{Waiting}
use Rattle.queue.specs.Places.{waits, Distinct}
use Rattle.queue.proofs.Numbers.{free_least, free_below, free_not}
use Rattle.queue.proofs.FromEmpty.{at_most_sixteen, numbers_once, numbers_below, served_again, others_kept, admitted_last}
use Rattle.cell.specs.declared.Entry.{Entry}
use Rattle.cell.specs.State.{count_in, Buffers}
use Rattle.machine.specs.Dividing.{Divided}
use Rattle.cell.specs.Turning.{fits, serve, left}
use Rattle.cell.specs.Asking.{next_from, count_of}
use Rattle.cell.specs.Admitting.{Inputs, enter}
use Rattle.cell.specs.Reached.{Reached}
use Rattle.cell.specs.Rows.{Call, waiting, AsLong, GoesOn, Rows, Held, InRows}
use Rattle.cell.proofs.Questions.{next_queue, count_queue}
use Rattle.cell.proofs.Admits.{queue_long, answer_by, state_by_count}
use Rattle.cell.proofs.Turns.{answer_by_queue}
use Rattle.cell.proofs.Follows.{follows, admitted_under}
use Rattle.cell.proofs.Zeros.{zeros}
use Rattle.cell.proofs.Able.{Able, able_fits, fits_rooms, all_able, full_turn, entered_so, ends_too}
use Rattle.cell.proofs.FromAdmission.{ends_as_alone}

each_by : {A : Type 0} {P Q : A → Type 0} → ((x : A) → P x → Q x) → (l : List A) → Each P l → Each Q l
each_by f [] h = tt
each_by f (x ∷ l) h = (f x h.0, each_by f l h.1)

able_served : (e : Entry) → Able e → (b : Buffers) → (fits e b ≡ true) ↔ AsLong e b
able_served e a b = (
  λ f. let r = fits_rooms e (length b.poses) (length b.joints) f in record { poses = sym r.0; joints = sym r.1 },
  λ l. able_fits e b a l.poses l.joints,
)

abbrev Ends : Waiting Entry → Type 0
Ends w = (f : Entry) (bs : List Buffers) → GoesOn w.path bs f → length bs * 64 ≤ space_in w.path.room_poses w.path.room_joints + most

able_ends : (w : Waiting Entry) → Able w.path → Ends w
able_ends w a f bs g = ends_too g a

-- ---- one call more
abbrev after : List (Waiting Entry) → Call → List (Waiting Entry)
after = Queue.after enter fits serve

not_entered : (l : List (Waiting Entry)) (i : Inputs) (b : Buffers) (n : ℕ) → enter i b ≡ Queue.Refused n → after l (Queue.Admit i b) ≡ l
not_entered l i b n h = rw h (go (ltb (length l) 16))
  where
    go : (t : Bool) → cond t l l ≡ l
    go true = refl
    go false = refl

waits_last : (q : List (Waiting Entry)) (w : Waiting Entry) (l : List (Waiting Entry)) (b : Buffers) (d : Entry) → q ≡ w ∷ l → fits w.path b ≡ true → serve w.path b ≡ Queue.Still d
    → after q (Queue.Turn b) ≡ l ++ waits w.number d ∷ []
waits_last q w l b d e f o = rw (e, f, o)

has_left : (q : List (Waiting Entry)) (w : Waiting Entry) (l : List (Waiting Entry)) (b : Buffers) (r : Divided) → q ≡ w ∷ l → fits w.path b ≡ true → serve w.path b ≡ Queue.Over r
    → after q (Queue.Turn b) ≡ l
has_left q w l b r e f o = rw (e, f, o)

pub every_row : (row : List Call) → Rows row
every_row row = record {
  sixteen = at_most_sixteen enter fits serve row;
  once = numbers_once enter fits serve row;
  below = numbers_below enter fits serve row;
  free = λ h. (free_below (waiting row) h, free_not (waiting row) h);
  least = free_least (waiting row);
  checked = λ i b e h. (entered_so i b e h).0;
  refused = λ i b n h. not_entered (waiting row) i b n h;
  enters = admitted_last enter fits serve left (waiting row);
  goes_last = λ w l b d q f o. waits_last (waiting row) w l b d q f o;
  leaves = λ w l b r q f o. (has_left (waiting row) w l b r q f o, (subst Distinct q (numbers_once enter fits serve row)).0);
  served = each_by (λ (w : Waiting Entry) a. able_served w.path a) (waiting row) (all_able row);
  tests = λ e d b h. full_turn e b d h;
  again = served_again enter fits serve row;
  alone = ends_as_alone row;
  others = others_kept enter fits serve (waiting row);
  ends = each_by {Q = Ends} able_ends (waiting row) (all_able row);
}

-- ---- the state that was lent
module _ {row : List Call} {words : List ℕ} {numbers : List Float} (reached : Reached row words numbers) where
  as_many : length (waiting row) ≡ count_in words
  as_many = sym (ap length (follows reached).queue) ∙ queue_long words numbers

  pub held : Held row words numbers
  held =
      let f = follows reached in
      record {
        good = f.good;
        paths = f.queue;
        zero = λ e. (zeros reached).zero_if (let n = as_many in let z = ap length e in omega (arith, n, z));
        number = admitted_under reached;
        full = λ h i b.
            let n = as_many in
            let t : ltb (count_in words) 16 ≡ false = le-ltb (count_in words) 16 (omega (arith, n, h)) in
            answer_by words numbers i b f.good (demand false Cause.QueueFull 0) (state_by_count words numbers i b f.good false t);
        next = next_queue words numbers f.good ∙ ap (λ (l : List (Waiting Entry)). Ok (next_from l)) f.queue;
        count = λ k. count_queue words numbers k f.good ∙ ap (λ (l : List (Waiting Entry)). ok_or (count_of l k) (refusal Cause.NotAdmitted 0)) f.queue;
        turn = λ b. answer_by_queue words numbers b.poses b.joints f.good (waiting row) f.queue;
      }

pub in_rows : (words : List ℕ) (numbers : List Float) → InRows words numbers
in_rows words numbers row reached = (every_row row, held reached)
