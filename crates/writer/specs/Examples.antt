-- Worked examples that the checker computes: the bytes of a number and of a job, the longest jobs, and the order of the
-- checks.
use Rattle.std.specs.Prelude.{ℕ, ◌*◌, ◌≡◌, refl, true, false, List, [], ◌∷◌, ◌++◌, leb, replicate, Float, Err, None, Ok}
use Rattle.std.specs.Float.Ieee as Ieee
use Rattle.std.specs.Float.{binary64}
use Rattle.std.specs.Float.Ieee.{of_bits, to_bits}
use Rattle.lists.specs.Rows.{flat}
use Rattle.float.specs.Helpers.{nought}
use Rattle.geometry.specs.Vector.{vector}
use Rattle.refusal.specs.Numbers.{number_of, refusal}
use Rattle.refusal.specs.declared.Cause.{Cause}
use Rattle.chain.specs.Checked.{Checked}
use Rattle.chain.specs.declared.Carrier.TheVariants.{Head}
use Rattle.chain.specs.declared.Kinematics.{Kinematics}
use Rattle.chain.specs.Check.{chain_check}
use Rattle.chain.specs.ChainBytes.{no_rotary}
use Rattle.middle.specs.declared.Tolerances.{Tolerances}
use Rattle.job.specs.Spelling.{written, bits_of}
use Rattle.job.specs.JobBytes.{word_length}
use Rattle.writer.specs.Writing.{bytes_of, number_bytes, vector_bytes, rest_bytes, rotary_bytes, rest_nought, second_nought, word_of, record_of, second_bytes, chain_bytes, poses_bytes, trailer_bytes, job_bytes}
use Rattle.writer.specs.Checking.{job_length, in_order}

-- ---- numbers: 1, -0.0 and the smallest above 0
one : Float
one = of_bits binary64 0x3ff0_0000_0000_0000

one_bytes : List ℕ
one_bytes = 0 ∷ 0 ∷ 0 ∷ 0 ∷ 0 ∷ 0 ∷ 240 ∷ 63 ∷ []

numbers : (number_bytes one ≡ one_bytes)
    × (number_bytes (of_bits binary64 0x8000_0000_0000_0000) ≡ replicate 7 0 ++ (128 ∷ []))
    × (number_bytes (of_bits binary64 1) ≡ 1 ∷ replicate 7 0)
unfolding one one_bytes number_bytes bytes_of bits_of of_bits to_bits Ieee.ne Ieee.eq
numbers = (refl, refl, refl)

-- ---- a job without poses: a head C about z without limits, a cone of 1 degree, tolerances of 1 mm and 0.5 degrees.
-- The poses would start at 104, the chain's end; with a rest angle at 112.
chain : Float → Kinematics
chain rest = record {
  count = 1;
  first = record { letter = 67; carrier = Head; limits = None; axis = vector nought nought one; pivot = vector nought nought nought; rest = rest };
  second = no_rotary;
  spindle_axis = vector nought nought one;
}

tolerances : Tolerances
tolerances = record { chord = one; axis = of_bits binary64 0x3fe0_0000_0000_0000; strict = false }

no_poses : job_bytes (chain nought) [] one tolerances
    ≡ (1 ∷ replicate 7 0)
    ++ ((67 ∷ 1 ∷ 0 ∷ replicate 5 0) ++ (replicate 16 0 ++ one_bytes) ++ replicate 24 0 ++ replicate 16 0)
    ++ (replicate 16 0 ++ one_bytes)
    ++ (replicate 4 0 ++ (104 ∷ 0 ∷ 0 ∷ 0 ∷ []) ++ replicate 4 0 ++ replicate 4 0 ++ one_bytes ++ one_bytes ++ (0 ∷ 0 ∷ 0 ∷ 0 ∷ 0 ∷ 0 ∷ 224 ∷ 63 ∷ []))
unfolding one one_bytes chain tolerances job_bytes record_of word_of second_nought rest_nought word_length chain_bytes second_bytes rotary_bytes rest_bytes vector_bytes poses_bytes flat trailer_bytes number_bytes bytes_of written bits_of of_bits to_bits Ieee.ne Ieee.eq
no_poses = refl

-- the same with a rest angle of 1 degree: it stands behind the limits, and the word is 1
rested : job_bytes (chain one) [] one tolerances
    ≡ (1 ∷ replicate 7 0)
    ++ ((67 ∷ 1 ∷ 0 ∷ replicate 5 0) ++ (replicate 16 0 ++ one_bytes) ++ replicate 24 0 ++ replicate 16 0 ++ one_bytes)
    ++ (replicate 16 0 ++ one_bytes)
    ++ (replicate 4 0 ++ (112 ∷ 0 ∷ 0 ∷ 0 ∷ []) ++ replicate 4 0 ++ (1 ∷ 0 ∷ 0 ∷ 0 ∷ []) ++ one_bytes ++ one_bytes ++ (0 ∷ 0 ∷ 0 ∷ 0 ∷ 0 ∷ 0 ∷ 224 ∷ 63 ∷ []))
unfolding one one_bytes chain tolerances job_bytes record_of word_of second_nought rest_nought word_length chain_bytes second_bytes rotary_bytes rest_bytes vector_bytes poses_bytes flat trailer_bytes number_bytes bytes_of written bits_of of_bits to_bits Ieee.ne Ieee.eq
rested = refl

-- -0.0 is no +0.0; and the rest angle of a second rotary that is not there does not count
words : (word_of (chain nought) ≡ 0)
    × (word_of (chain (of_bits binary64 0x8000_0000_0000_0000)) ≡ 1)
    × (word_of (record { count = 1; first = (chain nought).first; second = (chain one).first; spindle_axis = vector nought nought one }) ≡ 0)
    × (word_of (record { count = 2; first = (chain nought).first; second = (chain one).first; spindle_axis = vector nought nought one }) ≡ 1)
unfolding one chain word_of second_nought rest_nought bits_of of_bits to_bits Ieee.ne Ieee.eq
words = (refl, refl, refl, refl)

-- ---- 1,362 poses with one rotary and 1,360 with two are the most, with rest angles or without
longest : (leb (job_length 72 1 (6 * 1362)) 65536 ≡ true)
    × (leb (job_length 72 1 (6 * 1363)) 65536 ≡ false)
    × (leb (job_length 72 2 (6 * 1360)) 65536 ≡ true)
    × (leb (job_length 72 2 (6 * 1361)) 65536 ≡ false)
    × (leb (job_length 80 1 (6 * 1362)) 65536 ≡ true)
    × (leb (job_length 80 1 (6 * 1363)) 65536 ≡ false)
    × (leb (job_length 80 2 (6 * 1360)) 65536 ≡ true)
    × (leb (job_length 80 2 (6 * 1361)) 65536 ≡ false)
unfolding job_length
longest = (refl, refl, refl, refl, refl, refl, refl, refl)

-- ---- each refusal, with its number, where everything behind it is at fault too
refused : Cause → Checked
refused cause = Err (refusal cause 0)

-- refused for a cause that has this number
RefusedBy : ℕ → Cause → Checked → Type 0
RefusedBy number cause checked = (checked ≡ refused cause) × (number_of cause ≡ number)

order : (k : Kinematics) → chain_check k ≡ Ok tt
    → RefusedBy 20 Cause.LengthsDiffer (in_order k false false false false false false false)
    × RefusedBy 18 Cause.Cone (in_order k true false false false false false false)
    × RefusedBy 19 Cause.Tolerance (in_order k true true false false false false false)
    × RefusedBy 19 Cause.Tolerance (in_order k true true true false false false false)
    × RefusedBy 16 Cause.NotFinite (in_order k true true true true false false false)
    × RefusedBy 17 Cause.TooLarge (in_order k true true true true true false false)
    × RefusedBy 28 Cause.NoSpace (in_order k true true true true true true false)
    × (in_order k true true true true true true true ≡ Ok tt)
unfolding in_order refused RefusedBy
order k e = rw e ((refl, refl), (refl, refl), (refl, refl), (refl, refl), (refl, refl), (refl, refl), (refl, refl), refl)

-- the chain's refusal comes before the cone's
chain_first : (k : Kinematics) → chain_check k ≡ refused Cause.SpindleZero
    → RefusedBy 9 Cause.SpindleZero (in_order k true false false false false false false)
unfolding in_order refused RefusedBy
chain_first k e = rw e (refl, refl)
