-- The bytes of a job: chain, poses and last a trailer of 40 bytes that says where they are; bytes between the parts are
-- ignored. `w` is the length of a rotary's record: 80 with a rest angle, where the trailer's word is 1, else 72.
-- A breach is 29 with the offset, in the file, of the first bad field; a count of rotaries other than 1 or 2 is 3, a
-- foreign letter 4 with its rotary.
use Rattle.std.specs.Prelude.{ℕ, ◌+◌, ◌-◌, ◌*◌, ◌^◌, Bool, false, cond, not, ◌&&◌, ◌||◌, List, [], ◌∷◌, length, ◌==◌, nat_le, nat_lt, Err, Ok, Result}
use Rattle.refusal.specs.declared.Refusal.{Refusal}
use Rattle.refusal.specs.declared.Cause.{Cause}
use Rattle.chain.specs.Checked.{Checked}
use Rattle.chain.specs.declared.RotaryJoint.{RotaryJoint}
use Rattle.chain.specs.declared.Kinematics.{Kinematics}
use Rattle.chain.specs.Bytes.{byte_at, little_endian, number_at, vector_at}
use Rattle.chain.specs.Check.{demand, first_refusal, one_or_two, known_letter}
use Rattle.chain.specs.ChainBytes.{empty_field, first_field, second_field, spindle_field, length_of_chain, letter_field, zeros, rotary_fields, rotary_at, no_rotary}
use Rattle.middle.specs.Testing.{tolerances}
use Rattle.job.specs.declared.Places.{Places}
use Rattle.job.specs.declared.Job.{Job}
use Rattle.job.specs.declared.RecordKind.{RecordKind}
use Rattle.job.specs.declared.RecordKind.TheVariants.{NoRest, WithRest}

-- ---- the fields of the trailer, by where it starts
abbrev pub trailer : List ℕ → ℕ
trailer bytes = length bytes - 40

abbrev pub chain_field : ℕ → ℕ
chain_field t = t

abbrev pub poses_field : ℕ → ℕ
poses_field t = t + 4

abbrev pub count_field : ℕ → ℕ
count_field t = t + 8

abbrev pub word_field : ℕ → ℕ
word_field t = t + 12

abbrev pub cone_field : ℕ → ℕ
cone_field t = t + 16

abbrev pub chord_field : ℕ → ℕ
chord_field t = t + 24

abbrev pub axis_field : ℕ → ℕ
axis_field t = t + 32

-- `little_endian 4` of four bytes, written out
abbrev pub four : ℕ → ℕ → ℕ → ℕ → ℕ
four a b c d = a + b * 256 ^ 1 + c * 256 ^ 2 + d * 256 ^ 3

-- ---- how long a rotary's record is, by the trailer's word
unfoldable pub word_length : ℕ → ℕ
word_length word = cond (word == 1) 80 72

-- and by its kind
unfoldable pub bytes_in : RecordKind → ℕ
bytes_in NoRest = 72
bytes_in WithRest = 80

-- the word that says it
unfoldable pub word_in : RecordKind → ℕ
word_in NoRest = 0
word_in WithRest = 1

-- ---- where the parts are
unfoldable pub sized : ℕ → Bool
sized n = not (nat_lt n 40) && nat_le n 65536

unfoldable pub places_in : List ℕ → Places
places_in bytes = record {
  chain = little_endian 4 bytes (chain_field (trailer bytes));
  poses = little_endian 4 bytes (poses_field (trailer bytes));
  count = little_endian 4 bytes (count_field (trailer bytes));
  word = little_endian 4 bytes (word_field (trailer bytes));
}

unfoldable pub chain_end : ℕ → Places → ℕ → ℕ
chain_end w p count = p.chain + length_of_chain w count

-- a pose is 48 bytes
unfoldable pub poses_end : Places → ℕ
poses_end p = p.poses + 48 * p.count

unfoldable pub apart : Places → ℕ → ℕ → Bool
apart p chain_end poses_end = p.count == 0 || nat_le poses_end p.chain || nat_le chain_end p.poses

-- `count` is the chain's first byte, the number of its rotaries. The word is judged last: with another than 0 and 1
-- both offsets are judged as for 0
unfoldable pub placed : ℕ → List ℕ → Places → ℕ → Checked
placed w bytes p count =
    first_refusal
    (demand (nat_lt p.chain (trailer bytes)) Cause.Malformed (chain_field (trailer bytes))
    ∷ demand (one_or_two count) Cause.RotaryCount 0
    ∷ demand (nat_le (chain_end w p count) (trailer bytes)) Cause.Malformed (chain_field (trailer bytes))
    ∷ demand (nat_le (poses_end p) (trailer bytes)) Cause.Malformed (poses_field (trailer bytes))
    ∷ demand (apart p (chain_end w p count) (poses_end p)) Cause.Malformed (poses_field (trailer bytes))
    ∷ demand (nat_lt p.word 2) Cause.Malformed (word_field (trailer bytes))
    ∷ [])

-- ---- the chain, where it is
unfoldable pub rotary_part : List ℕ → ℕ → ℕ → Checked
rotary_part bytes at i = first_refusal (demand (known_letter (byte_at bytes (letter_field at))) Cause.RotaryLetter i ∷ rotary_fields bytes at ∷ [])

unfoldable pub second_part : ℕ → List ℕ → Places → ℕ → Checked
second_part w bytes p count = cond (count == 2) (rotary_part bytes (p.chain + second_field w) 1) (Ok tt)

unfoldable pub chain_part : ℕ → List ℕ → Places → ℕ → Checked
chain_part w bytes p count =
    first_refusal
    (zeros bytes (p.chain + empty_field) 7
    ∷ rotary_part bytes (p.chain + first_field) 0
    ∷ second_part w bytes p count
    ∷ [])

unfoldable pub second_in : ℕ → List ℕ → Places → ℕ → RotaryJoint
second_in w bytes p count = cond (count == 2) (rotary_at w bytes (p.chain + second_field w)) no_rotary

unfoldable pub chain_in : ℕ → List ℕ → Places → ℕ → Kinematics
chain_in w bytes p count = record {
  count = count;
  first = rotary_at w bytes (p.chain + first_field);
  second = second_in w bytes p count;
  spindle_axis = vector_at bytes (p.chain + spindle_field w count);
}

-- ---- the job
unfoldable pub job_at : ℕ → List ℕ → Places → Kinematics → Job
job_at w bytes p chain = record {
  chain_at = p.chain;
  chain_length = length_of_chain w chain.count;
  poses_at = p.poses;
  poses = p.count;
  cone = number_at bytes (cone_field (trailer bytes));
  tol = tolerances false (number_at bytes (chord_field (trailer bytes))) (number_at bytes (axis_field (trailer bytes)));
  chain = chain;
}

abbrev pub job_unless : Checked → Job → Result Job Refusal
job_unless (Ok _) job = Ok job
job_unless (Err r) job = Err r

-- the whole list: the length, what the trailer says, the chain in byte order
unfoldable pub job_fields : ℕ → List ℕ → Places → ℕ → Checked
job_fields w bytes p count =
    first_refusal
    (demand (sized (length bytes)) Cause.Malformed 0
    ∷ placed w bytes p count
    ∷ chain_part w bytes p count
    ∷ [])

unfoldable pub job_from : ℕ → List ℕ → Places → ℕ → Result Job Refusal
job_from w bytes p count = job_unless (job_fields w bytes p count) (job_at w bytes p (chain_in w bytes p count))

unfoldable pub read_job : List ℕ → Result Job Refusal
read_job bytes = job_from (word_length (places_in bytes).word) bytes (places_in bytes) (byte_at bytes (places_in bytes).chain)
