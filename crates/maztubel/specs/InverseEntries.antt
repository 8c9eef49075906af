-- What the entries of the inverse map answer, from the bytes and numbers that they are lent: first 20, then 29, then
-- the list of checks of `inverse`. With 21 and 22 every lent answer is +0.0; every other refusal keeps it.
use Rattle.std.specs.Prelude.{ℕ, Bool, true, false, ◌&&◌, cond, List, [], ◌∷◌, eqb, ltb, length, get_or, replicate, Float, Err, Ok, Result}
use Rattle.std.specs.Float.{nan}
use Rattle.lists.specs.Padding.{padded}
use Rattle.lists.specs.Rows.{flat}
use Rattle.float.specs.Helpers.{nought}
use Rattle.geometry.specs.Vector.{vector}
use Rattle.refusal.specs.declared.Refusal.{Refusal}
use Rattle.refusal.specs.Numbers.{refusal}
use Rattle.refusal.specs.declared.Cause.{Cause}
use Rattle.chain.specs.declared.Kinematics.{Kinematics}
use Rattle.chain.specs.declared.Joints.{Joints}
use Rattle.chain.specs.declared.ToolPose.{ToolPose}
use Rattle.chain.specs.ChainBytes.{read_chain}
use Rattle.inverse.specs.declared.Angles.{Angles}
use Rattle.inverse.specs.declared.Choice.{Choice}
use Rattle.inverse.specs.Solutions.{nowhere}
use Rattle.inverse.specs.Wraps.{angles_of}
use Rattle.inverse.specs.Inverse.{Answers, inverse}
use Rattle.inverse.specs.Choose.{choose}

-- ---- what is lent to be read
-- six numbers: the tip, then the axis
unfoldable pub pose_in : List Float → ToolPose
pose_in l =
    record {
      tip = vector (get_or l 0 nan) (get_or l 1 nan) (get_or l 2 nan);
      axis = vector (get_or l 3 nan) (get_or l 4 nan) (get_or l 5 nan);
    }

-- two numbers: an angle for each rotary
unfoldable pub angles_in : List Float → Angles
angles_in l = angles_of (get_or l 0 nan) (get_or l 1 nan)

-- 0 the nearest to the hint, 1 the first that is not negative, 2 the first that is not positive
unfoldable pub choice_of : ℕ → Angles → Choice
choice_of choice hint = cond (eqb choice 0) (Choice.Nearest hint.a0 hint.a1) (cond (eqb choice 1) Choice.FirstPositive Choice.FirstNegative)

-- ---- what is answered
abbrev pub lengths_refused : Refusal
lengths_refused = refusal Cause.LengthsDiffer 0

abbrev pub refused_answers : Refusal → Answers
refused_answers r = Err r

abbrev pub inverse_read : Result Kinematics Refusal → ToolPose → Float → Angles → Answers
inverse_read (Err r) pose tool hint = refused_answers r
inverse_read (Ok k) pose tool hint = inverse k pose tool hint

-- `room` is how many numbers the lent list has
unfoldable pub inverse_of : List ℕ → List Float → Float → List Float → ℕ → Answers
inverse_of chain pose tool hint room =
    cond (eqb (length pose) 6 && eqb (length hint) 2 && eqb room 250) (inverse_read (read_chain chain) (pose_in pose) tool (angles_in hint))
    (refused_answers lengths_refused)

abbrev pub choose_read : Result Kinematics Refusal → ToolPose → Float → Choice → Result Joints Refusal
choose_read (Err r) pose tool choice = Err r
choose_read (Ok k) pose tool choice = choose k pose tool choice

-- the lengths of a pose, of a hint and of the lent joints, and the number of a choice
abbrev pub choice_lengths : ℕ → ℕ → ℕ → ℕ → Bool
choice_lengths pose hint room choice = eqb pose 6 && eqb hint 2 && eqb room 5 && ltb choice 3

-- `room` is how many numbers the lent joints have
unfoldable pub choose_of : List ℕ → List Float → Float → ℕ → List Float → ℕ → Result Joints Refusal
choose_of chain pose tool choice hint room =
    cond (choice_lengths (length pose) (length hint) room choice)
    (choose_read (read_chain chain) (pose_in pose) tool (choice_of choice (angles_in hint)))
    (Err lengths_refused)

-- ---- what is lent to be written
-- the refusals that keep no lent answer
abbrev pub keeps_none : Cause → Bool
keeps_none Cause.NotReachable = true
keeps_none Cause.OutsideLimits = true
keeps_none _ = false

unfoldable pub clears : Refusal → Bool
clears r = keeps_none r.cause

-- five numbers: the gauge point's position, and an angle for each rotary
unfoldable pub joint_numbers : Joints → List Float
joint_numbers j = j.xyz.x ∷ j.xyz.y ∷ j.xyz.z ∷ j.a0 ∷ j.a1 ∷ []

-- the numbers of 50 joint sets, one after another: +0.0 behind those that there are
unfoldable pub set_numbers : List Joints → List Float
set_numbers l = flat joint_numbers (padded 50 nowhere l)

-- a lent list afterwards
abbrev pub list_over : Answers → List Float → List Float
list_over (Ok s) before = cond (eqb (length before) 250) (set_numbers s.items) before
list_over (Err r) before = cond (clears r) (replicate (length before) nought) before

-- its count afterwards
abbrev pub count_over : Answers → ℕ → ℕ
count_over (Ok s) before = length s.items
count_over (Err r) before = cond (clears r) 0 before

-- lent joints afterwards
abbrev pub joints_over : Result Joints Refusal → List Float → List Float
joints_over (Ok j) before = cond (eqb (length before) 5) (joint_numbers j) before
joints_over (Err r) before = cond (clears r) (replicate (length before) nought) before
