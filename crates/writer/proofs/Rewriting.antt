-- A file that the writer could have produced is rewritten to the same bytes: what is read from it passes the writer's
-- checks, and its bytes are the file's.
use Prim.Native.Nat.{ℕ}
use mathlib.Core.Path.{◌≡◌, refl, ap, ◌∙◌}
use mathlib.Core.Bool.{Bool, true, false, cond, ◌&&◌}
use mathlib.Core.List.{List, [], ◌++◌}
use lib.Dec.{eqb}
use lib.Ieee.{Float}
use Rattle.std.specs.Prelude.{None, Ok, Some}
use Rattle.refusal.specs.declared.Cause.{Cause}
use Rattle.chain.specs.Checked.{Checked}
use Rattle.chain.specs.declared.Kinematics.{Kinematics}
use Rattle.geometry.specs.Direction.{all_finite}
use Rattle.chain.specs.Check.{has_direction, demand, then, one_or_two, rotary_check, second_check, chain_check, rotary_within, chain_within}
use Rattle.chain.specs.ChainBytes.{no_rotary}
use Rattle.middle.specs.declared.Tolerances.{Tolerances}
use Rattle.middle.specs.Testing.{tolerances}
use Rattle.job.specs.JobBytes.{word_length, read_job}
use Rattle.job.specs.JobPoses.{poses_of}
use Rattle.writer.specs.Writing.{vector_bytes, head_bytes, rotary_bytes, rest_nought, second_nought, word_of, record_of, second_bytes, chain_bytes, trailer_bytes, job_bytes, plain, job_of}
use Rattle.writer.specs.Checking.{write_sizes, in_order, write_check, tolerances_of, SameFile}

-- ---- a second rotary that is not there is neither written nor checked
module _ (k : Kinematics) where
  same_word : word_of (plain k) ≡ word_of k
  unfolding word_of second_nought plain
  same_word = ap (λ (b : Bool). cond (rest_nought k.first.rest && b) 0 1) (go (eqb k.count 2))
    where
      go : (t : Bool) → cond t (rest_nought (cond t k.second no_rotary).rest) true ≡ cond t (rest_nought k.second.rest) true
      go true = refl
      go false = refl

  same_record : record_of (plain k) ≡ record_of k
  unfolding record_of
  same_record = ap word_length same_word

  same_chain : (w : ℕ) → chain_bytes w (plain k) ≡ chain_bytes w k
  unfolding chain_bytes second_bytes plain
  same_chain w = ap (λ (s : List ℕ). head_bytes k.count 0 0 ++ (rotary_bytes w k.first ++ (s ++ vector_bytes k.spindle_axis))) (go (eqb k.count 2))
    where
      go : (t : Bool) → cond t (rotary_bytes w (cond t k.second no_rotary)) [] ≡ cond t (rotary_bytes w k.second) []
      go true = refl
      go false = refl

  same_bytes : (poses : List Float) (cone : Float) (tol : Tolerances) → job_bytes (plain k) poses cone tol ≡ job_bytes k poses cone tol
  unfolding job_bytes
  same_bytes poses cone tol = rw (same_record, same_word, same_chain (record_of k)) (unfold plain in refl)

  same_check : chain_check (plain k) ≡ chain_check k
  unfolding chain_check second_check plain
  same_check =
      ap
      (λ (c : Checked). then (demand (one_or_two k.count) Cause.RotaryCount 0) (then (rotary_check k.first None 0) (then c (then (demand (all_finite k.spindle_axis) Cause.ChainNotFinite 0) (demand (has_direction k.spindle_axis) Cause.SpindleZero 0)))))
      (go (eqb k.count 2))
    where
      go : (t : Bool) → cond t (rotary_check (cond t k.second no_rotary) (Some k.first.letter) 1) (Ok tt) ≡ cond t (rotary_check k.second (Some k.first.letter) 1) (Ok tt)
      go true = refl
      go false = refl

  same_sizes : chain_within (plain k) ≡ chain_within k
  unfolding chain_within plain
  same_sizes = ap (λ (b : Bool). rotary_within k.first && b) (go (eqb k.count 2))
    where
      go : (t : Bool) → cond t (rotary_within (cond t k.second no_rotary)) true ≡ cond t (rotary_within k.second) true
      go true = refl
      go false = refl

  same_write : (poses : List Float) (cone : Float) (tol : Tolerances) (room : ℕ) → write_check (plain k) poses cone tol room ≡ write_check k poses cone tol room
  unfolding write_check in_order write_sizes
  same_write poses cone tol room = rw (same_check, same_sizes, same_record) (unfold plain in refl)

-- ---- the file
module _ (k : Kinematics) (poses : List Float) (cone : Float) (tol : Tolerances) (room : ℕ) where
  -- a job has the two numbers alone: which test they are for is not written
  numbers_checked : write_check k poses cone (tolerances false tol.chord tol.axis) room ≡ write_check k poses cone tol room
  unfolding write_check
  numbers_checked = refl

  numbers_written : job_bytes k poses cone (tolerances false tol.chord tol.axis) ≡ job_bytes k poses cone tol
  unfolding job_bytes trailer_bytes
  numbers_written = refl

  -- by what the reader gets
  pub same_file : write_check k poses cone tol room ≡ Ok tt → read_job (job_bytes k poses cone tol) ≡ Ok (job_of k poses cone tol)
      → poses_of (job_bytes k poses cone tol) (job_of k poses cone tol) ≡ poses → SameFile (read_job (job_bytes k poses cone tol)) (job_bytes k poses cone tol) room
  same_file e r p = rw (r, p) (again e)
    where
      again : write_check k poses cone tol room ≡ Ok tt → (write_check (job_of k poses cone tol).chain poses (job_of k poses cone tol).cone (tolerances_of (job_of k poses cone tol)) room ≡ Ok tt)
          × (job_bytes (job_of k poses cone tol).chain poses (job_of k poses cone tol).cone (tolerances_of (job_of k poses cone tol)) ≡ job_bytes k poses cone tol)
      again e =
          unfold job_of in
          let given = tolerances false tol.chord tol.axis in
          (same_write k poses cone given room ∙ numbers_checked ∙ e, same_bytes k poses cone given ∙ numbers_written)
