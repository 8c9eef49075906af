-- What the four entries of the dispatcher answer, from the bytes and numbers that they are lent. Where a number is
-- written and there is no path, it is 16.
use Rattle.std.specs.Prelude.{ℕ, List, [], ◌∷◌, length, Float, Err, None, Ok, Option, Result, Some}
use Rattle.refusal.specs.declared.Refusal.{Refusal}
use Rattle.refusal.specs.declared.Cause.{Cause}
use Rattle.refusal.specs.Numbers.{served, number_of}
use Rattle.chain.specs.declared.Kinematics.{Kinematics}
use Rattle.chain.specs.Checked.{Checked}
use Rattle.chain.specs.ChainBytes.{read_chain}
use Rattle.chain.specs.Check.{demand, first_refusal}
use Rattle.divide.specs.Checking.{four_whole}
use Rattle.cell.specs.declared.Outcome.{Outcome}
use Rattle.cell.specs.declared.Outcome.TheVariants.{Still, Over}
use Rattle.cell.specs.State.{Buffers, buffers}
use Rattle.cell.specs.Turning.{Turned}
use Rattle.cell.specs.Admitting.{Admission, Kept, inputs, state_check, unless_kept, admit_answer, words_after, numbers_after, outputs_after}
use Rattle.maztubel.specs.DivideEntries.{stop_number, stop_count}

abbrev pub no_path : ℕ
no_path = 16

-- ---- admission
-- what it is lent beside the state
pub record AdmitAsked : Type 0 where
  pub chain : List ℕ
  pub chord : Float
  pub axis : Float
  pub poses : List Float
  pub joints : List Float
  pub out : Buffers

abbrev pub asked : List ℕ → (chord axis : Float) → (poses joints outPoses outJoints : List Float) → AdmitAsked
asked chain chord axis poses joints outPoses outJoints =
    record { chain = chain; chord = chord; axis = axis; poses = poses; joints = joints; out = buffers outPoses outJoints }

-- of bytes that are refused: the state's checks stand "before any other check, 20 too", then the path's lengths, and
-- the bytes come last
unfoldable pub refused_check : List ℕ → List Float → AdmitAsked → Refusal → Checked
refused_check words numbers a r =
    first_refusal
    (state_check words numbers
    ∷ demand (four_whole (length a.poses) (length a.joints) (length a.out.poses) (length a.out.joints)) Cause.LengthsDiffer 0
    ∷ Err r
    ∷ [])

-- of all others the dispatcher's answer
abbrev pub admit_read : Result Kinematics Refusal → List ℕ → List Float → AdmitAsked → Admission
admit_read (Err r) words numbers a = unless_kept (refused_check words numbers a r) (Kept r)
admit_read (Ok k) words numbers a = admit_answer words numbers (inputs k a.chord a.axis a.poses a.joints) a.out

unfoldable pub admit_of : List ℕ → List Float → AdmitAsked → Admission
admit_of words numbers a = admit_read (read_chain a.chain) words numbers a

-- what an answer leaves of the state and of the outputs
abbrev pub words_read : Result Kinematics Refusal → Admission → List ℕ → AdmitAsked → List ℕ
words_read (Err r) answer words a = words
words_read (Ok k) answer words a = words_after answer words (inputs k a.chord a.axis a.poses a.joints) a.out

abbrev pub numbers_read : Result Kinematics Refusal → Admission → List ℕ → List Float → AdmitAsked → List Float
numbers_read (Err r) answer words numbers a = numbers
numbers_read (Ok k) answer words numbers a = numbers_after answer words numbers (inputs k a.chord a.axis a.poses a.joints) a.out

abbrev pub outputs_read : Result Kinematics Refusal → Admission → AdmitAsked → Buffers
outputs_read (Err r) answer a = a.out
outputs_read (Ok k) answer a = outputs_after answer (inputs k a.chord a.axis a.poses a.joints) a.out

abbrev pub words_admitted : Admission → List ℕ → AdmitAsked → List ℕ
words_admitted answer words a = words_read (read_chain a.chain) answer words a

abbrev pub numbers_admitted : Admission → List ℕ → List Float → AdmitAsked → List Float
numbers_admitted answer words numbers a = numbers_read (read_chain a.chain) answer words numbers a

abbrev pub outputs_admitted : Admission → AdmitAsked → Buffers
outputs_admitted answer a = outputs_read (read_chain a.chain) answer a

-- ---- a number that is asked for, or another where it is refused
abbrev pub number_or : ℕ → Result ℕ Refusal → ℕ
number_or other (Ok n) = n
number_or other (Err r) = other

-- ---- which path is served next
abbrev pub next_path : Result (Option ℕ) Refusal → ℕ
next_path (Ok (Some k)) = k
next_path (Ok None) = no_path
next_path (Err r) = no_path

-- ---- a turn: a path that stops at 27 or 28 has ended too
abbrev pub outcome_number : Outcome → ℕ
outcome_number (Still m) = served
outcome_number (Over (Ok n)) = served
outcome_number (Over (Err s)) = stop_number s

abbrev pub outcome_ended : Outcome → ℕ
outcome_ended (Still m) = 0
outcome_ended (Over d) = 1

-- the poses inserted so far
abbrev pub outcome_count : Outcome → ℕ
outcome_count (Still m) = m.inserted
outcome_count (Over (Ok n)) = n
outcome_count (Over (Err s)) = stop_count s

abbrev pub turn_number : Turned → ℕ
turn_number (Ok (Some s)) = outcome_number s.outcome
turn_number (Ok None) = served
turn_number (Err r) = number_of r.cause

abbrev pub turn_path : Turned → ℕ
turn_path (Ok (Some s)) = s.path
turn_path (Ok None) = no_path
turn_path (Err r) = no_path

abbrev pub turn_ended : Turned → ℕ
turn_ended (Ok (Some s)) = outcome_ended s.outcome
turn_ended (Ok None) = 0
turn_ended (Err r) = 0

abbrev pub turn_count : Turned → ℕ
turn_count (Ok (Some s)) = outcome_count s.outcome
turn_count (Ok None) = 0
turn_count (Err r) = 0
