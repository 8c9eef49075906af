-- What the entry of the positioning profile answers, from the bytes and numbers that it is lent: 19 before all else,
-- then 20, 29, and what the profile answers.
use Rattle.std.specs.Prelude.{ℕ, ◌≡◌, cond, List, length, Float, Err, Ok, Result}
use Rattle.refusal.specs.declared.Refusal.{Refusal}
use Rattle.refusal.specs.Numbers.{refusal}
use Rattle.refusal.specs.declared.Cause.{Cause}
use Rattle.chain.specs.declared.Kinematics.{Kinematics}
use Rattle.chain.specs.declared.Joints.{Joints}
use Rattle.chain.specs.declared.ToolPose.{ToolPose}
use Rattle.chain.specs.ChainBytes.{read_chain}
use Rattle.inverse.specs.declared.Choice.{Choice}
use Rattle.divide.specs.Checking.{tolerance_good}
use Rattle.hirth.specs.Profile.{choose_tooth}
use Rattle.maztubel.specs.Lent.{number_in, place_in, letter_in}
use Rattle.maztubel.specs.InverseEntries.{pose_in, angles_in, choice_lengths, choice_of, lengths_refused, joints_over}

abbrev pub tolerance_refused : Refusal
tolerance_refused = refusal Cause.Tolerance 0

abbrev pub tooth_read : Result Kinematics Refusal → ToolPose → Float → Choice → Float → Result Joints Refusal
tooth_read (Err r) pose tool choice tol = Err r
tooth_read (Ok k) pose tool choice tol = choose_tooth k pose tool choice tol

-- `room` is how many numbers the lent joints have
unfoldable pub tooth_of : List ℕ → List Float → Float → ℕ → List Float → Float → ℕ → Result Joints Refusal
tooth_of chain pose tool choice hint tol room =
    cond (tolerance_good tol)
    (cond (choice_lengths (length pose) (length hint) room choice)
    (tooth_read (read_chain chain) (pose_in pose) tool (choice_of choice (angles_in hint)) tol)
    (Err lengths_refused))
    (Err tolerance_refused)

-- what is handed back of an answer: its number, its place and letter, and the joints over those that were lent
pub record Handed (answer : Result Joints Refusal) (n at letter : ℕ) (before after : List Float) : Type 0 where
  pub number : n ≡ number_in answer
  pub place : at ≡ place_in answer
  pub named : letter ≡ letter_in answer
  pub lent : after ≡ joints_over answer before
