-- Admission: what its checks leave, its answer by cases, and what that does to the paths that wait.
use Prim.Native.Nat.{ℕ, ◌*◌, ◌/◌, ◌≤◌, ◌<◌}
use mathlib.Core.Path.{◌≡◌, refl, sym, ap, ◌∙◌, subst}
use mathlib.Core.Bool.{Bool, true, false, cond}
use mathlib.Core.List.{List, [], ◌∷◌, ◌++◌}
use borrow.Author.Tests.{ltb-true, eq-eqb, le-leb, lt-leb}
use lib.Dec.{leb, ltb}
use lib.ListN.{length, replicate}
use lib.Ieee.{Float}
use Rattle.float.specs.Helpers.{nought}
use Rattle.std.specs.Prelude.{Err, Ok, Result}
use Rattle.refusal.specs.Numbers.{refusal}
use Rattle.refusal.specs.declared.Cause.{Cause}
use Rattle.refusal.specs.declared.Refusal.{Refusal}
use Rattle.chain.specs.Checked.{Checked}
use Rattle.chain.specs.Check.{demand, then}
use Rattle.chain.proofs.Passing.{then_passed}
use Rattle.divide.proofs.Lengths.{check_lengths}
use Rattle.queue.specs.Queue as Queue
use Rattle.queue.specs.Queue.{Waiting}
use Rattle.cell.specs.State.{count_in, queue_in, state_long, state_good, Buffers, tolerances, space_of}
use Rattle.cell.specs.Turning.{fits, serve}
use Rattle.cell.specs.Asking.{free_in}
use Rattle.cell.specs.Admitting.{Inputs, given_count, division_checks, state_check, admit_check, first_entry, placed, Admission, Kept, NoSpace, Admitted, admitted_in, unless_kept, admit_answer, joined_words, joined_numbers, words_after, numbers_after, outputs_after, entering, enter}
use Rattle.cell.specs.declared.Entry.{Entry}
use Rattle.cell.proofs.Codec.{entries_length}
use Rattle.cell.proofs.States.{state_parts}
use Rattle.cell.proofs.Joining.{join_queue, joined_long}
use Rattle.cell.proofs.Free.{free_queue}

-- as many wait as the state says
pub queue_long : (words : List ℕ) (numbers : List Float) → length (queue_in words numbers) ≡ count_in words
unfolding queue_in
queue_long words numbers = entries_length (count_in words) words numbers

-- ---- all of them
module _ (words : List ℕ) (numbers : List Float) (i : Inputs) (b : Buffers) where
  abbrev roomPoses : ℕ
  roomPoses = length b.poses

  abbrev roomJoints : ℕ
  roomJoints = length b.joints

  pub admit_passed : admit_check words numbers i roomPoses roomJoints ≡ Ok tt → (state_check words numbers ≡ Ok tt) × (division_checks i roomPoses roomJoints ≡ Ok tt)
  unfolding admit_check
  admit_passed e = then_passed (state_check words numbers) (division_checks i roomPoses roomJoints) e

  -- what is handed to the machine has whole records, and as many of either kind
  pub admit_lengths : admit_check words numbers i roomPoses roomJoints ≡ Ok tt
      → (length i.poses ≡ length i.poses / 6 * 6) × (length i.joints ≡ length i.poses / 6 * 5)
  admit_lengths e = check_lengths i.chain (tolerances i.chord i.axis) i.poses i.joints roomPoses roomJoints (admit_passed e).1

  pub record AdmitSo (r : Result ℕ Refusal) (words' : List ℕ) (numbers' poses' joints' : List Float) : Type 0 where
    pub answer : r ≡ admitted_in (admit_answer words numbers i b)
    pub words_so : words' ≡ words_after (admit_answer words numbers i b) words i b
    pub numbers_so : numbers' ≡ numbers_after (admit_answer words numbers i b) words numbers i b
    pub poses_so : poses' ≡ (outputs_after (admit_answer words numbers i b) i b).poses
    pub joints_so : joints' ≡ (outputs_after (admit_answer words numbers i b) i b).joints

  by_admission : (a : Admission) → admit_answer words numbers i b ≡ a → {r : Result ℕ Refusal} {words' : List ℕ} {numbers' poses' joints' : List Float}
      → r ≡ admitted_in a → words' ≡ words_after a words i b → numbers' ≡ numbers_after a words numbers i b → poses' ≡ (outputs_after a i b).poses → joints' ≡ (outputs_after a i b).joints
      → AdmitSo r words' numbers' poses' joints'
  by_admission a e p u v x y = record { answer = rw e p; words_so = rw e u; numbers_so = rw e v; poses_so = rw e x; joints_so = rw e y }

  pub admit_refused : {r : Refusal} → admit_check words numbers i roomPoses roomJoints ≡ Err r → AdmitSo (Err r) words numbers b.poses b.joints
  unfolding admit_answer
  admit_refused {r} e = by_admission (Kept r) (rw e) refl refl refl refl refl

  pub admit_full : {poses' joints' : List Float} → admit_check words numbers i roomPoses roomJoints ≡ Ok tt → space_of b < given_count i
      → poses' ≡ replicate roomPoses nought → joints' ≡ replicate roomJoints nought → AdmitSo (Err (refusal Cause.NoSpace 0)) words numbers poses' joints'
  unfolding admit_answer
  admit_full e h x y = by_admission NoSpace (rw (e, lt-leb (given_count i) (space_of b) h)) refl refl refl x y

  pub admit_entered : {k : ℕ} {e : Entry} {words' : List ℕ} {numbers' poses' joints' : List Float} → admit_check words numbers i roomPoses roomJoints ≡ Ok tt → given_count i ≤ space_of b
      → e ≡ first_entry i b → poses' ≡ (placed i b).poses → joints' ≡ (placed i b).joints → k ≡ free_in (count_in words) words
      → words' ≡ joined_words words k e → numbers' ≡ joined_numbers words numbers e → AdmitSo (Ok k) words' numbers' poses' joints'
  unfolding admit_answer
  admit_entered {k} {e} c h is x y free u v =
      by_admission (Admitted k) (rw (c, le-leb (given_count i) (space_of b) h) (ap Admitted (sym free))) refl
      (u ∙ ap (joined_words words k) is) (v ∙ ap (joined_numbers words numbers) is) x y

  -- ---- of the paths that wait
  module _ (good : state_good words numbers ≡ true) where
    abbrev l : List (Waiting Entry)
    l = queue_in words numbers

    by_answer : (few : count_in words < 16) (c : Checked) (t : Bool) (r : Admission) → r ≡ unless_kept c (cond t (Admitted (free_in (count_in words) words)) NoSpace)
        → queue_in (words_after r words i b) (numbers_after r words numbers i b) ≡ Queue.joined enter fits serve l (entering c t (first_entry i b))
    by_answer few (Err u) t r e = ap (λ (z : Admission). queue_in (words_after z words i b) (numbers_after z words numbers i b)) e
    by_answer few (Ok _) false r e = ap (λ (z : Admission). queue_in (words_after z words i b) (numbers_after z words numbers i b)) e
    by_answer few (Ok _) true r e =
        let p = state_parts words numbers good in
        ap (λ (z : Admission). queue_in (words_after z words i b) (numbers_after z words numbers i b)) e
        ∙ join_queue words numbers p.0 p.1.0 few (free_in (count_in words) words) (first_entry i b)
        ∙ ap (λ (k : ℕ). l ++ (record { number = k; path = first_entry i b } ∷ [])) (free_queue words numbers)

    pub state_by_count : (t : Bool) → ltb (count_in words) 16 ≡ t → state_check words numbers ≡ demand t Cause.QueueFull 0
    unfolding state_check state_long
    state_by_count t e = let p = state_parts words numbers good in rw (eq-eqb (length words) 145 p.0, eq-eqb (length numbers) 368 p.1.0, e)

    pub answer_by : (c : Checked) → state_check words numbers ≡ c → admit_answer words numbers i b ≡ unless_kept (then c (division_checks i roomPoses roomJoints)) (cond (leb (given_count i) (space_of b)) (Admitted (free_in (count_in words) words)) NoSpace)
    unfolding admit_answer admit_check
    answer_by c e = rw e

    -- admission refuses, has no space, or admits one of fewer than 16
    pub admit_cases : (P : Admission → Type 0) → ((r : Refusal) → P (Kept r)) → P NoSpace → (count_in words < 16 → P (Admitted (free_in (count_in words) words))) → P (admit_answer words numbers i b)
    admit_cases P x y z = by_count (ltb (count_in words) 16) refl
      where
        by_checks : count_in words < 16 → (c : Checked) (t : Bool) → P (unless_kept c (cond t (Admitted (free_in (count_in words) words)) NoSpace))
        by_checks few (Err r) t = x r
        by_checks few (Ok _) true = z few
        by_checks few (Ok _) false = y

        by_count : (t : Bool) → ltb (count_in words) 16 ≡ t → P (admit_answer words numbers i b)
        by_count true e =
            subst P (sym (answer_by (Ok tt) (state_by_count true e))) (by_checks (ltb-true (count_in words) 16 e) (division_checks i roomPoses roomJoints) (leb (given_count i) (space_of b)))
        by_count false e = subst P (sym (answer_by (demand false Cause.QueueFull 0) (state_by_count false e))) (x _)

    -- a call of admission is one of the row
    pub admit_after : queue_in (words_after (admit_answer words numbers i b) words i b) (numbers_after (admit_answer words numbers i b) words numbers i b)
        ≡ Queue.after enter fits serve l (Queue.Admit i b)
    unfolding enter
    admit_after = go (ltb (count_in words) 16) refl
      where
        go : (t : Bool) → ltb (count_in words) 16 ≡ t
            → queue_in (words_after (admit_answer words numbers i b) words i b) (numbers_after (admit_answer words numbers i b) words numbers i b)
            ≡ cond (ltb (length l) 16) (Queue.joined enter fits serve l (entering (division_checks i roomPoses roomJoints) (leb (given_count i) (space_of b)) (first_entry i b))) l
        go true e =
            rw (queue_long words numbers, e)
            (by_answer (ltb-true (count_in words) 16 e) (division_checks i roomPoses roomJoints) (leb (given_count i) (space_of b)) (admit_answer words numbers i b) (answer_by (Ok tt) (state_by_count true e)))
        go false e = rw (queue_long words numbers, e) (ap (λ (z : Admission). queue_in (words_after z words i b) (numbers_after z words numbers i b)) (answer_by (demand false Cause.QueueFull 0) (state_by_count false e)))

    -- and both parts stay as long
    pub admit_long : (length (words_after (admit_answer words numbers i b) words i b) ≡ length words) × (length (numbers_after (admit_answer words numbers i b) words numbers i b) ≡ length numbers)
    admit_long =
        let p = state_parts words numbers good in
        admit_cases (λ (a : Admission). (length (words_after a words i b) ≡ length words) × (length (numbers_after a words numbers i b) ≡ length numbers))
        (λ r. (refl, refl)) (refl, refl) (λ few. joined_long words numbers p.0 p.1.0 few (free_in (count_in words) words) (first_entry i b))
