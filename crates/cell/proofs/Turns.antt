-- A turn: what it answers and what it leaves.
use Prim.Native.Nat.{ℕ, zero, suc, ◌-◌, ◌<◌}
use native.Mathlib.Omega.{arith}
use mathlib.Core.Path.{◌≡◌, refl, sym, subst}
use mathlib.Core.Bool.{Bool, true, false, cond}
use mathlib.Core.List.{List, [], ◌∷◌}
use lib.ListN.{length, get_or, drop}
use lib.Ieee.{Float}
use Rattle.std.specs.Prelude.{Err, None, Ok, Some}
use Rattle.refusal.specs.Numbers.{refusal}
use Rattle.refusal.specs.declared.Cause.{Cause}
use Rattle.queue.specs.Queue.{Waiting}
use Rattle.queue.specs.Places.{waits}
use Rattle.cell.specs.Coding.{entries, path_in}
use Rattle.cell.specs.State.{count_in, queue_in, state_good, Buffers, buffers}
use Rattle.cell.specs.Turning.{fits_in, fits, outcome_of, left, requeued, first_number, turned, Turned, served_from, left_from, turn_answer, turn_left, words_served, numbers_served, words_turned, numbers_turned}
use Rattle.cell.specs.declared.Entry.{Entry}
use Rattle.cell.specs.declared.Outcome.{Outcome}
use Rattle.cell.proofs.States.{state_parts}
use Rattle.cell.proofs.Requeue.{first_queue, served_queue, served_long}

module _ (words : List ℕ) (numbers : List Float) (poses joints : List Float) where
  abbrev b : Buffers
  b = buffers poses joints

  pub record TurnSo (r : Turned) (words' : List ℕ) (numbers' poses' joints' : List Float) : Type 0 where
    pub answer : r ≡ turn_answer words numbers b
    pub words_so : words' ≡ words_turned r words numbers
    pub numbers_so : numbers' ≡ numbers_turned r words numbers
    pub poses_so : poses' ≡ (turn_left words numbers b).poses
    pub joints_so : joints' ≡ (turn_left words numbers b).joints

  pub turn_refused : state_good words numbers ≡ false → TurnSo (Err (refusal Cause.LengthsDiffer 0)) words numbers poses joints
  unfolding turn_answer turn_left
  turn_refused h = record { answer = rw h; words_so = refl; numbers_so = refl; poses_so = rw h; joints_so = rw h }

  module _ (good : state_good words numbers ≡ true) where
    by_queue : (q : List (Waiting Entry)) → queue_in words numbers ≡ q → (r : Turned) (words' : List ℕ) (numbers' poses' joints' : List Float)
        → r ≡ served_from q b → words' ≡ words_turned r words numbers → numbers' ≡ numbers_turned r words numbers → poses' ≡ (left_from q b).poses → joints' ≡ (left_from q b).joints
        → TurnSo r words' numbers' poses' joints'
    unfolding turn_answer turn_left
    by_queue q e r words' numbers' poses' joints' a t k x y = record { answer = rw (good, e) a; words_so = t; numbers_so = k; poses_so = rw (good, e) x; joints_so = rw (good, e) y }

    none_waits : count_in words ≡ 0 → queue_in words numbers ≡ []
    unfolding queue_in entries
    none_waits h = rw h

    pub turn_nobody : count_in words ≡ 0 → TurnSo (Ok None) words numbers poses joints
    turn_nobody h = by_queue [] (none_waits h) (Ok None) words numbers poses joints refl refl refl refl refl

    first_by : 0 < count_in words → queue_in words numbers ≡ waits (first_number words) (path_in words numbers) ∷ drop 1 (queue_in words numbers)
    first_by s =
        let p = state_parts words numbers good in
        let f = p.1.1 in
        first_queue words numbers p.0 p.1.0 (count_in words - 1) (omega arith) (omega arith)

    module _ (some : count_in words ≡ 0 → ⊥) where
      pub some_waits : 0 < count_in words
      some_waits = go (count_in words) some
        where
          go : (n : ℕ) → (n ≡ 0 → ⊥) → 0 < n
          go zero f = absurd (f refl)
          go (suc n) f = omega arith

      first : queue_in words numbers ≡ waits (first_number words) (path_in words numbers) ∷ drop 1 (queue_in words numbers)
      first = first_by some_waits

      misfit_path : fits_in (path_in words numbers) (length poses) (length joints) ≡ false → TurnSo (Err (refusal Cause.LengthsDiffer 0)) words numbers poses joints
      misfit_path h = by_queue _ first _ words numbers poses joints (rw h) refl refl (rw h) (rw h)

      served_path_taken : fits_in (path_in words numbers) (length poses) (length joints) ≡ true → (o : Outcome) (words' : List ℕ) (numbers' poses' joints' : List Float)
          → o ≡ outcome_of (path_in words numbers) b → poses' ≡ (left (path_in words numbers) b).poses → joints' ≡ (left (path_in words numbers) b).joints
          → words' ≡ words_served (path_in words numbers) o words → numbers' ≡ numbers_served (path_in words numbers) o words numbers
          → TurnSo (Ok (Some (record { path = get_or words 0 0; outcome = o }))) words' numbers' poses' joints'
      unfolding first_number
      served_path_taken h o words' numbers' poses' joints' is x y u v = by_queue _ first _ words' numbers' poses' joints' (rw (h, is)) u v (rw h x) (rw h y)

      pub turn_misfit : {e : Entry} → e ≡ path_in words numbers → fits_in e (length poses) (length joints) ≡ false → TurnSo (Err (refusal Cause.LengthsDiffer 0)) words numbers poses joints
      turn_misfit p h = misfit_path (subst (λ (z : Entry). fits_in z (length poses) (length joints) ≡ false) p h)

      pub turn_served : {e : Entry} {o : Outcome} {words' : List ℕ} {numbers' poses' joints' : List Float} → e ≡ path_in words numbers → fits_in e (length poses) (length joints) ≡ true
          → o ≡ outcome_of e b → poses' ≡ (left e b).poses → joints' ≡ (left e b).joints → words' ≡ words_served e o words → numbers' ≡ numbers_served e o words numbers
          → TurnSo (Ok (Some (record { path = get_or words 0 0; outcome = o }))) words' numbers' poses' joints'
      turn_served {e} {o} {words'} {numbers'} {poses'} {joints'} p h is x y u v =
          served_path_taken (subst (λ (z : Entry). fits_in z (length poses) (length joints) ≡ true) p h) o words' numbers' poses' joints' (subst (λ (z : Entry). o ≡ outcome_of z b) p is) (subst (λ (z : Entry). poses' ≡ (left z b).poses) p x)
          (subst (λ (z : Entry). joints' ≡ (left z b).joints) p y) (subst (λ (z : Entry). words' ≡ words_served z o words) p u) (subst (λ (z : Entry). numbers' ≡ numbers_served z o words numbers) p v)

    -- ---- of the paths that wait
    abbrev now_words : Turned → List ℕ
    now_words r = words_turned r words numbers

    abbrev now_numbers : Turned → List Float
    now_numbers r = numbers_turned r words numbers

    pub answer_by_queue : (q : List (Waiting Entry)) → queue_in words numbers ≡ q → turn_answer words numbers b ≡ served_from q b
    unfolding turn_answer
    answer_by_queue q e = rw (good, e)

    abbrev e : Entry
    e = path_in words numbers

    -- a turn has no path, misfits the first one, or serves it
    pub turn_cases : (P : Turned → List (Waiting Entry) → Type 0) → (queue_in words numbers ≡ [] → P (Ok None) [])
        → (0 < count_in words → queue_in words numbers ≡ waits (first_number words) e ∷ drop 1 (queue_in words numbers) → P (Err (refusal Cause.LengthsDiffer 0)) (waits (first_number words) e ∷ drop 1 (queue_in words numbers)))
        → (0 < count_in words → P (Ok (Some (record { path = first_number words; outcome = outcome_of e b }))) (requeued (drop 1 (queue_in words numbers)) (first_number words) e (outcome_of e b))) → P (turn_answer words numbers b) (turned (queue_in words numbers) b)
    turn_cases P x y z = by_count (count_in words) refl
      where
        by_fit : 0 < count_in words → (t : Bool) → P (cond t (Ok (Some (record { path = first_number words; outcome = outcome_of e b }))) (Err (refusal Cause.LengthsDiffer 0)))
            (cond t (requeued (drop 1 (queue_in words numbers)) (first_number words) e (outcome_of e b)) (waits (first_number words) e ∷ drop 1 (queue_in words numbers)))
        by_fit s true = z s
        by_fit s false = y s (first_by s)

        by_count : (n : ℕ) → count_in words ≡ n → P (turn_answer words numbers b) (turned (queue_in words numbers) b)
        by_count zero h =
            let q = none_waits h in
            subst (λ (r : Turned). P r (turned (queue_in words numbers) b)) (sym (answer_by_queue [] q)) (subst (λ (l : List (Waiting Entry)). P (Ok None) (turned l b)) (sym q) (x q))
        by_count (suc n) h =
            let s : 0 < count_in words = omega (arith, h) in
            let q = first_by s in
            subst (λ (r : Turned). P r (turned (queue_in words numbers) b)) (sym (answer_by_queue _ q))
            (subst (λ (l : List (Waiting Entry)). P (served_from (waits (first_number words) e ∷ drop 1 (queue_in words numbers)) b) (turned l b)) (sym q) (by_fit s (fits e b)))

    -- a turn of the state is one of the row
    pub turn_queue : queue_in (now_words (turn_answer words numbers b)) (now_numbers (turn_answer words numbers b)) ≡ turned (queue_in words numbers) b
    turn_queue =
        let p = state_parts words numbers good in
        turn_cases (λ (r : Turned) (l : List (Waiting Entry)). queue_in (now_words r) (now_numbers r) ≡ l) (λ q. q) (λ s q. q) (λ s. served_queue words numbers p.0 p.1.0 s p.1.1 e (outcome_of e b))

    pub turn_long : (length (now_words (turn_answer words numbers b)) ≡ length words) × (length (now_numbers (turn_answer words numbers b)) ≡ length numbers)
    turn_long =
        let p = state_parts words numbers good in
        turn_cases (λ (r : Turned) (l : List (Waiting Entry)). (length (now_words r) ≡ length words) × (length (now_numbers r) ≡ length numbers)) (λ q. (refl, refl)) (λ s q. (refl, refl))
        (λ s. served_long words numbers p.0 p.1.0 s p.1.1 e (outcome_of e b))
