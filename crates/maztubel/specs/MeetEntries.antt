-- What the entry that asks whether links meet answers, from the bytes and numbers that it is lent: first 20, then 29
-- for the chain's bytes, then the checks of `meet`. What is lent is kept on a refusal.
use Rattle.std.specs.Prelude.{ℕ, ◌%◌, not, cond, List, eqb, length, Float, Err, Ok, Result, Option, Some, None}
use Rattle.refusal.specs.declared.Refusal.{Refusal}
use Rattle.refusal.specs.Numbers.{refusal}
use Rattle.refusal.specs.declared.Cause.{Cause}
use Rattle.chain.specs.declared.Kinematics.{Kinematics}
use Rattle.chain.specs.ChainBytes.{read_chain}
use Rattle.meet.specs.declared.Meeting.{Meeting}
use Rattle.meet.specs.Meeting.{links_meet}
use Rattle.meet.specs.First.{Answered}

abbrev pub meet_read : Result Kinematics Refusal → List ℕ → List ℕ → List Float → Result (Option Meeting) Refusal
meet_read (Err r) name model joints = Err r
meet_read (Ok k) name model joints = links_meet name k model joints

unfoldable pub meet_of : List ℕ → List ℕ → List ℕ → List Float → Result (Option Meeting) Refusal
meet_of name chain model joints =
    cond (not (eqb (length joints % 5) 0)) (Err (refusal Cause.LengthsDiffer 0))
    (meet_read (read_chain chain) name model joints)

-- ---- each lent number afterwards: 1, the pose and the two links; four times 0 where no two meet
abbrev pub found_over : Result (Option Meeting) Refusal → ℕ → ℕ
found_over (Ok (Some m)) before = 1
found_over (Ok None) before = 0
found_over (Err r) before = before

abbrev pub pose_over : Result (Option Meeting) Refusal → ℕ → ℕ
pose_over (Ok (Some m)) before = m.pose
pose_over (Ok None) before = 0
pose_over (Err r) before = before

abbrev pub first_over : Result (Option Meeting) Refusal → ℕ → ℕ
first_over (Ok (Some m)) before = m.first
first_over (Ok None) before = 0
first_over (Err r) before = before

abbrev pub second_over : Result (Option Meeting) Refusal → ℕ → ℕ
second_over (Ok (Some m)) before = m.second
second_over (Ok None) before = 0
second_over (Err r) before = before

-- of every chain that is read, whatever the answer
abbrev pub MeetPromise : Result Kinematics Refusal → List ℕ → List ℕ → List Float → Result (Option Meeting) Refusal → Type 0
MeetPromise (Err r) name model joints answer = Unit {0}
MeetPromise (Ok k) name model joints answer = Answered name k model joints answer
