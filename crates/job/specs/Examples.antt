-- Worked examples: document 01's text of an answer, and where the first bad field of a job is.
use Rattle.std.specs.Prelude.{◌≡◌, ℕ, List, [], ◌∷◌, ◌++◌, replicate, refl, Float, Err, Ok, Result}
use Rattle.std.specs.Float.Ieee as Ieee
use Rattle.std.specs.Float.{binary64}
use Rattle.std.specs.Float.Ieee.{of_bits, to_bits}
use Rattle.refusal.specs.declared.Refusal.{Refusal}
use Rattle.refusal.specs.Numbers as Numbers
use Rattle.refusal.specs.declared.Cause.{Cause}
use Rattle.geometry.specs.Vector.{vector}
use Rattle.chain.specs.declared.Joints.{Joints}
use Rattle.chain.specs.Bytes.{little_endian, spare}
use Rattle.chain.specs.Check.{one_or_two, known_letter}
use Rattle.chain.specs.ChainBytes.{zeros, flag, rotary_fields}
use Rattle.job.specs.declared.Job.{Job}
use Rattle.job.specs.declared.Figures.{Figures}
use Rattle.job.specs.declared.JobError.{JobError}
use Rattle.job.specs.JobBytes.{word_length, sized, places_in, chain_end, poses_end, apart, placed, rotary_part, second_part, chain_part, second_in, chain_in, job_at, job_fields, job_from, read_job}
use Rattle.job.specs.Cable.{turns_of, most_wound}
use Rattle.job.specs.Spelling.{digit, digits, width_within, width, decimal, labelled, paired, bits_of, number}
use Rattle.job.specs.Telling.{numbers, line, lines, head, path_text, refusal_text, pose_text, text_of}

-- ---- the text
at : Float → Joints
at x = record {
  xyz = vector x (of_bits binary64 0x4000_0000_0000_0000) (of_bits binary64 0x4008_0000_0000_0000);
  a0 = of_bits binary64 0;
  a1 = of_bits binary64 0;
}

-- no insertion, and no cable wound
figures : Figures
figures = record { inserted = 0; first = 0; second = 0 }

-- positions (1, 2, 3) and (3, 2, 3), angles 0
two_poses : text_of (Ok figures) (at (of_bits binary64 0x3ff0_0000_0000_0000) ∷ at (of_bits binary64 0x4008_0000_0000_0000) ∷ [])
    ≡ (112 ∷ 111 ∷ 115 ∷ 101 ∷ 115 ∷ 32 ∷ 50 ∷ 32 ∷ 105 ∷ 110 ∷ 115 ∷ 101 ∷ 114 ∷ 116 ∷ 101 ∷ 100 ∷ 32 ∷ 48 ∷ 32 ∷ 116 ∷ 117 ∷ 114 ∷ 110 ∷ 115 ∷ 32 ∷ 48 ∷ 32 ∷ 48 ∷ 10 ∷ [])
    ++ (48 ∷ 32 ∷ 51 ∷ 70 ∷ 70 ∷ 48 ∷ 48 ∷ 48 ∷ 48 ∷ 48 ∷ 48 ∷ 48 ∷ 48 ∷ 48 ∷ 48 ∷ 48 ∷ 48 ∷ 48 ∷ 32 ∷ 52 ∷ 48 ∷ 48 ∷ 48 ∷ 48 ∷ 48 ∷ 48 ∷ 48 ∷ 48 ∷ 48 ∷ 48 ∷ 48 ∷ 48 ∷ 48 ∷ 48 ∷ 48 ∷ 32 ∷ 52 ∷ 48 ∷ 48 ∷ 56 ∷ 48 ∷ 48 ∷ 48 ∷ 48 ∷ 48 ∷ 48 ∷ 48 ∷ 48 ∷ 48 ∷ 48 ∷ 48 ∷ 48 ∷ 32 ∷ 48 ∷ 48 ∷ 48 ∷ 48 ∷ 48 ∷ 48 ∷ 48 ∷ 48 ∷ 48 ∷ 48 ∷ 48 ∷ 48 ∷ 48 ∷ 48 ∷ 48 ∷ 48 ∷ 32 ∷ 48 ∷ 48 ∷ 48 ∷ 48 ∷ 48 ∷ 48 ∷ 48 ∷ 48 ∷ 48 ∷ 48 ∷ 48 ∷ 48 ∷ 48 ∷ 48 ∷ 48 ∷ 48 ∷ 10 ∷ [])
    ++ (49 ∷ 32 ∷ 52 ∷ 48 ∷ 48 ∷ 56 ∷ 48 ∷ 48 ∷ 48 ∷ 48 ∷ 48 ∷ 48 ∷ 48 ∷ 48 ∷ 48 ∷ 48 ∷ 48 ∷ 48 ∷ 32 ∷ 52 ∷ 48 ∷ 48 ∷ 48 ∷ 48 ∷ 48 ∷ 48 ∷ 48 ∷ 48 ∷ 48 ∷ 48 ∷ 48 ∷ 48 ∷ 48 ∷ 48 ∷ 48 ∷ 32 ∷ 52 ∷ 48 ∷ 48 ∷ 56 ∷ 48 ∷ 48 ∷ 48 ∷ 48 ∷ 48 ∷ 48 ∷ 48 ∷ 48 ∷ 48 ∷ 48 ∷ 48 ∷ 48 ∷ 32 ∷ 48 ∷ 48 ∷ 48 ∷ 48 ∷ 48 ∷ 48 ∷ 48 ∷ 48 ∷ 48 ∷ 48 ∷ 48 ∷ 48 ∷ 48 ∷ 48 ∷ 48 ∷ 48 ∷ 32 ∷ 48 ∷ 48 ∷ 48 ∷ 48 ∷ 48 ∷ 48 ∷ 48 ∷ 48 ∷ 48 ∷ 48 ∷ 48 ∷ 48 ∷ 48 ∷ 48 ∷ 48 ∷ 48 ∷ 10 ∷ [])
unfolding at figures path_text head lines line numbers number bits_of paired labelled decimal width width_within digits digit of_bits to_bits Ieee.ne Ieee.eq
two_poses = refl

-- an empty path prints the first line alone
no_poses : text_of (Ok figures) [] ≡ 112 ∷ 111 ∷ 115 ∷ 101 ∷ 115 ∷ 32 ∷ 48 ∷ 32 ∷ 105 ∷ 110 ∷ 115 ∷ 101 ∷ 114 ∷ 116 ∷ 101 ∷ 100 ∷ 32 ∷ 48 ∷ 32 ∷ 116 ∷ 117 ∷ 114 ∷ 110 ∷ 115 ∷ 32 ∷ 48 ∷ 32 ∷ 48 ∷ 10 ∷ []
unfolding figures path_text head lines paired labelled decimal width width_within digits digit
no_poses = refl

-- a refusal of no pose, and one of pose 12
refusals : (text_of (Err (JobError.Refused (Numbers.refusal Cause.Cone 0))) [] ≡ 114 ∷ 101 ∷ 102 ∷ 117 ∷ 115 ∷ 101 ∷ 100 ∷ 32 ∷ 49 ∷ 56 ∷ 10 ∷ [])
    × (text_of (Err (JobError.AtPose (Numbers.refusal Cause.PoseUnreachable 12))) [] ≡ 114 ∷ 101 ∷ 102 ∷ 117 ∷ 115 ∷ 101 ∷ 100 ∷ 32 ∷ 50 ∷ 53 ∷ 32 ∷ 112 ∷ 111 ∷ 115 ∷ 101 ∷ 32 ∷ 49 ∷ 50 ∷ 10 ∷ [])
unfolding refusal_text pose_text paired labelled decimal width width_within digits digit
refusals = (refl, refl)

-- ---- the cable number: 359.99999999999994, 360, -720, 36,000 and 72,000 degrees
turned : (turns_of (of_bits binary64 0x4076_7fff_ffff_ffff) ≡ 0)
    × (turns_of (of_bits binary64 0x4076_8000_0000_0000) ≡ 1)
    × (turns_of (of_bits binary64 0xc086_8000_0000_0000) ≡ 2)
    × (turns_of (of_bits binary64 0x40e1_9400_0000_0000) ≡ 100)
    × (turns_of most_wound ≡ 200)
unfolding turns_of of_bits
turned = (refl, refl, refl, refl, refl)

-- the difference is taken once in floats: 359.9 from -0.1 is 360, though exactly it is less; 720 from 1e-14 is 720;
-- -270 from 90 is one turn, and from -90 none
once : (turns_of (Ieee.sub binary64 (of_bits binary64 0x4076_7e66_6666_6666) (of_bits binary64 0xbfb9_9999_9999_999a)) ≡ 1)
    × (turns_of (Ieee.sub binary64 (of_bits binary64 0x4086_8000_0000_0000) (of_bits binary64 0x3d06_849b_86a1_2b9b)) ≡ 2)
    × (turns_of (Ieee.sub binary64 (of_bits binary64 0xc070_e000_0000_0000) (of_bits binary64 0x4056_8000_0000_0000)) ≡ 1)
    × (turns_of (Ieee.sub binary64 (of_bits binary64 0xc070_e000_0000_0000) (of_bits binary64 0xc056_8000_0000_0000)) ≡ 0)
unfolding turns_of Ieee.sub Ieee.add Ieee.neg Ieee.round of_bits
once = (refl, refl, refl, refl)

-- ---- the reader, by what it refuses first: 60 bytes, whose trailer starts at 20
breach : ℕ → Result Job Refusal
breach at = Err (Numbers.refusal Cause.Malformed at)

-- the chain's offset, the count at offset 0
file : ℕ → ℕ → List ℕ
file offset count = count ∷ replicate 19 0 ++ offset ∷ replicate 39 0

-- 39 bytes; a chain from the trailer on; three rotaries; a chain past the trailer
broken : (read_job (replicate 39 0) ≡ breach 0)
    × (read_job (file 20 1) ≡ breach 20)
    × (read_job (file 0 3) ≡ Err (Numbers.refusal Cause.RotaryCount 0))
    × (read_job (file 0 1) ≡ breach 20)
unfolding breach file read_job word_length job_from job_fields sized places_in placed chain_end one_or_two little_endian
broken = (refl, refl, refl, refl)

-- a head C with all its numbers +0.0 and no poses: the seven bytes behind the count, the letter, the five bytes behind
-- the flags, the minimum, the maximum's last byte, the bytes of the rest angle or none, the pose offset, the trailer's
-- word
chained : List ℕ → ℕ → List ℕ → List ℕ → ℕ → List ℕ → ℕ → ℕ → List ℕ
chained seven letter five min max rest poses word =
    1 ∷ seven ++ (letter ∷ 1 ∷ 0 ∷ five) ++ replicate 48 0 ++ min ++ replicate 7 0 ++ (max ∷ rest) ++ replicate 24 0 ++ (0 ∷ 0 ∷ 0 ∷ 0 ∷ poses ∷ 0 ∷ 0 ∷ 0 ∷ 0 ∷ 0 ∷ 0 ∷ 0 ∷ word ∷ replicate 27 0)

reason : Result Job Refusal → ℕ × ℕ
reason (Ok j) = (0, j.poses_at)
reason (Err r) = (Numbers.number_of r.cause, r.at)

zeros_of : ℕ → List ℕ
zeros_of n = replicate n 0

-- accepted with the pose offset at the trailer, which starts at 104; past it 29 there; a word of 2; the third of seven
-- bytes; the letter D; the last of five; -0.0 for a minimum and a maximum
read_first : (reason (read_job (chained (zeros_of 7) 67 (zeros_of 5) (zeros_of 8) 0 [] 104 0)) ≡ (0, 104))
    × (reason (read_job (chained (zeros_of 7) 68 (zeros_of 5) (zeros_of 8) 0 [] 105 2)) ≡ (29, 108))
    × (reason (read_job (chained (zeros_of 7) 68 (zeros_of 5) (zeros_of 8) 0 [] 104 2)) ≡ (29, 116))
    × (reason (read_job (chained (0 ∷ 0 ∷ 5 ∷ 0 ∷ 0 ∷ 0 ∷ 0 ∷ []) 68 (zeros_of 5) (zeros_of 8) 0 [] 104 0)) ≡ (29, 3))
    × (reason (read_job (chained (zeros_of 7) 68 (0 ∷ 0 ∷ 0 ∷ 0 ∷ 1 ∷ []) (zeros_of 8) 0 [] 104 0)) ≡ (4, 0))
    × (reason (read_job (chained (zeros_of 7) 67 (0 ∷ 0 ∷ 0 ∷ 0 ∷ 1 ∷ []) (zeros_of 8) 0 [] 104 0)) ≡ (29, 15))
    × (reason (read_job (chained (zeros_of 7) 67 (zeros_of 5) (zeros_of 7 ++ 128 ∷ []) 128 [] 104 0)) ≡ (29, 64))
    × (reason (read_job (chained (zeros_of 7) 67 (zeros_of 5) (zeros_of 8) 128 [] 104 0)) ≡ (29, 72))
unfolding chained reason zeros_of read_job word_length job_from job_fields job_at sized places_in placed chain_end poses_end apart chain_part rotary_part second_part chain_in second_in one_or_two known_letter zeros flag spare rotary_fields little_endian
read_first = (refl, refl, refl, refl, refl, refl, refl, refl)

-- the same with a rest angle and the word 1: the trailer starts at 112. Records of 72 bytes with that word, or of 80
-- without it: the one chain passes the trailer, and what the other leaves is ignored
rested : (reason (read_job (chained (zeros_of 7) 67 (zeros_of 5) (zeros_of 8) 0 (zeros_of 8) 112 1)) ≡ (0, 112))
    × (reason (read_job (chained (zeros_of 7) 67 (zeros_of 5) (zeros_of 8) 0 (zeros_of 8) 113 1)) ≡ (29, 116))
    × (reason (read_job (chained (zeros_of 7) 67 (zeros_of 5) (zeros_of 8) 0 [] 104 1)) ≡ (29, 104))
    × (reason (read_job (chained (zeros_of 7) 67 (zeros_of 5) (zeros_of 8) 0 (zeros_of 8) 112 0)) ≡ (0, 112))
    × (reason (read_job (chained (zeros_of 7) 67 (zeros_of 5) (zeros_of 8) 0 (zeros_of 8) 113 2)) ≡ (29, 116))
    × (reason (read_job (chained (zeros_of 7) 67 (zeros_of 5) (zeros_of 8) 0 (zeros_of 8) 112 2)) ≡ (29, 124))
unfolding chained reason zeros_of read_job word_length job_from job_fields job_at sized places_in placed chain_end poses_end apart chain_part rotary_part second_part chain_in second_in one_or_two known_letter zeros flag spare rotary_fields little_endian
rested = (refl, refl, refl, refl, refl, refl)
