-- Paths that are served in turn, over any state of a path (E), its lent buffers (B), what it is admitted with (I) and
-- how it ends (R).
use Prim.Native.Nat.{ℕ, zero, suc, ◌+◌}
use mathlib.Core.Path.{◌≡◌}
use mathlib.Core.Bool.{Bool, true, false, cond, not}
use mathlib.Core.List.{List, [], ◌∷◌, ◌++◌}
use lib.Dec.{eqb, ltb}
use lib.ListN.{length}
use Rattle.lists.specs.Search.{first_hit, any}

pub data Outcome (E R : Type 0) : Type 0 where
  Still : E → Outcome E R
  Over : R → Outcome E R

pub data Entering (E : Type 0) : Type 0 where
  Entered : E → Entering E
  Refused : ℕ → Entering E

pub record Waiting (E : Type 0) : Type 0 where
  pub number : ℕ
  pub path : E

pub data Call (I B : Type 0) : Type 0 where
  Admit : I → B → Call I B
  Next : Call I B
  Turn : B → Call I B
  Count : ℕ → Call I B

-- m numbers from n on
unfoldable pub count_from : ℕ → ℕ → List ℕ
count_from n zero = []
count_from n (suc m) = n ∷ count_from (suc n) m

unfoldable pub has : {E : Type 0} → List (Waiting E) → ℕ → Bool
has l k = any (λ (w : Waiting _). eqb w.number k) l

-- "the smallest number from 0 to 15 that no admitted path has"
unfoldable pub smallest_free : {E : Type 0} → List (Waiting E) → ℕ
smallest_free l = first_hit (λ (k : ℕ). not (has l k)) (count_from 0 16)

module _ {E B I R : Type 0} (enter : I → B → Entering E) (fits : E → B → Bool) (serve : E → B → Outcome E R) where
  abbrev pub joined : List (Waiting E) → Entering E → List (Waiting E)
  joined l (Entered e) = l ++ (record { number = smallest_free l; path = e } ∷ [])
  joined l (Refused r) = l

  abbrev pub requeued : List (Waiting E) → ℕ → Outcome E R → List (Waiting E)
  requeued l k (Still e) = l ++ (record { number = k; path = e } ∷ [])
  requeued l k (Over r) = l

  -- the longest-waiting path is served, where its buffers are as long as admitted
  abbrev pub turned : List (Waiting E) → B → List (Waiting E)
  turned [] b = []
  turned (w ∷ l) b = cond (fits w.path b) (requeued l w.number (serve w.path b)) (w ∷ l)

  -- the paths after a call
  abbrev pub after : List (Waiting E) → Call I B → List (Waiting E)
  after l (Admit i b) = cond (ltb (length l) 16) (joined l (enter i b)) l
  after l Next = l
  after l (Turn b) = turned l b
  after l (Count k) = l

  abbrev pub after_all : List (Waiting E) → List (Call I B) → List (Waiting E)
  after_all l [] = l
  after_all l (c ∷ row) = after_all (after l c) row

  -- a turn serves path k
  abbrev pub serves : List (Waiting E) → Call I B → ℕ → Bool
  serves [] (Turn b) k = false
  serves (w ∷ l) (Turn b) k = cond (fits w.path b) (eqb w.number k) false
  serves l (Admit i b) k = false
  serves l Next k = false
  serves l (Count n) k = false

  -- a turn that is not refused
  abbrev pub turns : List (Waiting E) → Call I B → ℕ
  turns [] (Turn b) = 0
  turns (w ∷ l) (Turn b) = cond (fits w.path b) 1 0
  turns l (Admit i b) = 0
  turns l Next = 0
  turns l (Count n) = 0

  -- how many of a row's turns are not refused
  abbrev pub turns_in : List (Waiting E) → List (Call I B) → ℕ
  turns_in l [] = 0
  turns_in l (c ∷ row) = turns l c + turns_in (after l c) row

  -- path k is served in the row
  pub data ServedIn (k : ℕ) : List (Waiting E) → List (Call I B) → Type 0 where
    now : {l : List (Waiting E)} {c : Call I B} {row : List (Call I B)} → serves l c k ≡ true → ServedIn k l (c ∷ row)
    later : {l : List (Waiting E)} {c : Call I B} {row : List (Call I B)} → ServedIn k (after l c) row → ServedIn k l (c ∷ row)

  -- ---- alone: what a path comes to, turn after turn, its buffers as the last turn left them
  module _ (left : E → B → B) where
    pub data Alone : E → B → R → B → Type 0 where
      ends : {e : E} {b : B} {r : R} → serve e b ≡ Over r → Alone e b r (left e b)
      goes_on : {e d : E} {b c : B} {r : R} → serve e b ≡ Still d → Alone d (left e b) r c → Alone e b r c

    -- in a row from l, path k, whose buffers are b, ends with r and leaves c; its buffers come to each of its turns as
    -- they were left, and all other calls are any
    pub data EndsIn (k : ℕ) : List (Waiting E) → B → List (Call I B) → R → B → Type 0 where
      elsewhere : {l : List (Waiting E)} {b c : B} {call : Call I B} {row : List (Call I B)} {r : R} → serves l call k ≡ false
          → EndsIn k (after l call) b row r c → EndsIn k l b (call ∷ row) r c
      turn_on : {w : Waiting E} {l : List (Waiting E)} {b c : B} {row : List (Call I B)} {r : R} {e : E} → w.number ≡ k → fits w.path b ≡ true → serve w.path b ≡ Still e
          → EndsIn k (after (w ∷ l) (Turn b)) (left w.path b) row r c → EndsIn k (w ∷ l) b (Turn b ∷ row) r c
      turn_over : {w : Waiting E} {l : List (Waiting E)} {b : B} {row : List (Call I B)} {r : R} → w.number ≡ k → fits w.path b ≡ true → serve w.path b ≡ Over r
          → EndsIn k (w ∷ l) b (Turn b ∷ row) r (left w.path b)
