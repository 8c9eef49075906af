-- Rows of calls on a lent state that was all zero: what each call leaves of it, as the calls' contracts say.
use Rattle.std.specs.Prelude.{ℕ, List, [], ◌∷◌, ◌++◌, replicate, Float}
use Rattle.float.specs.Helpers.{nought}
use Rattle.queue.specs.Queue as Queue
use Rattle.cell.specs.State.{Buffers}
use Rattle.cell.specs.Turning.{turn_answer, words_turned, numbers_turned}
use Rattle.cell.specs.Admitting.{Inputs, admit_answer, words_after, numbers_after}

-- after this row the state is these words and numbers
pub data Reached : List (Queue.Call Inputs Buffers) → List ℕ → List Float → Type 0 where
  empty : Reached [] (replicate 145 0) (replicate 368 nought)
  admits : {row : List (Queue.Call Inputs Buffers)} {words : List ℕ} {numbers : List Float} → Reached row words numbers → (i : Inputs) (b : Buffers)
      → Reached (row ++ Queue.Admit i b ∷ []) (words_after (admit_answer words numbers i b) words i b) (numbers_after (admit_answer words numbers i b) words numbers i b)
  serves : {row : List (Queue.Call Inputs Buffers)} {words : List ℕ} {numbers : List Float} → Reached row words numbers → (b : Buffers)
      → Reached (row ++ Queue.Turn b ∷ []) (words_turned (turn_answer words numbers b) words numbers) (numbers_turned (turn_answer words numbers b) words numbers)
  names : {row : List (Queue.Call Inputs Buffers)} {words : List ℕ} {numbers : List Float} → Reached row words numbers → Reached (row ++ Queue.Next ∷ []) words numbers
  counts : {row : List (Queue.Call Inputs Buffers)} {words : List ℕ} {numbers : List Float} → Reached row words numbers → (k : ℕ) → Reached (row ++ Queue.Count k ∷ []) words numbers
