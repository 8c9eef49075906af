-- The bytes of a job as the writer has them: chain, poses and trailer with nothing between them. Without poses their
-- offset is the chain's end.
--
-- The fields are those of the reader's lists (`ChainBytes` of chain, `JobBytes` of job): a record and the trailer are
-- zero bytes with each field's text over them, from the offset that the list has for it. A rotary's record has w bytes:
-- 80 with its rest angle, or 72 where every rest angle of the chain is +0.0.
use Rattle.std.specs.Prelude.{Bool, true, false, ◌&&◌, cond, ◌⊎◌, ◌≡◌, List, [], ◌∷◌, ◌++◌, ℕ, zero, suc, ◌/◌, ◌%◌, eqb, length, replicate, Float, None, Option, Some}
use Rattle.lists.specs.Rows.{flat}
use Rattle.float.specs.Helpers.{nought}
use Rattle.geometry.specs.declared.Vec3.{Vec3}
use Rattle.chain.specs.declared.RotaryLimits.{RotaryLimits}
use Rattle.chain.specs.declared.Carrier.{Carrier}
use Rattle.chain.specs.declared.Carrier.TheVariants.{Table, Head}
use Rattle.chain.specs.declared.RotaryJoint.{RotaryJoint}
use Rattle.chain.specs.declared.Kinematics.{Kinematics}
use Rattle.chain.specs.ChainBytes.{letter_field, carrier_field, limits_field, pivot_field, min_field, max_field, rest_field, length_of_chain, no_rotary}
use Rattle.chain.specs.ChainBytes as Chain
use Rattle.middle.specs.declared.Tolerances.{Tolerances}
use Rattle.middle.specs.Testing.{tolerances}
use Rattle.job.specs.Spelling.{written, bits_of}
use Rattle.job.specs.JobBytes as Trailer
use Rattle.job.specs.JobBytes.{word_length}
use Rattle.job.specs.declared.Job.{Job}

-- ---- numbers: a whole number in n bytes, the lowest first; a float is its bit pattern
unfoldable pub bytes_of : ℕ → ℕ → List ℕ
bytes_of zero x = []
bytes_of (suc n) x = x % 256 ∷ bytes_of n (x / 256)

unfoldable pub number_bytes : Float → List ℕ
number_bytes x = bytes_of 8 (bits_of x)

unfoldable pub vector_bytes : Vec3 → List ℕ
vector_bytes v = number_bytes v.x ++ (number_bytes v.y ++ number_bytes v.z)

-- a field's text over bytes, from its offset on
abbrev pub field : ℕ → List ℕ → List ℕ → List ℕ
field at text bytes = written bytes at text

-- ---- a rotary's record; without limits both are +0.0
abbrev pub carrier_byte : Carrier → ℕ
carrier_byte Table = 0
carrier_byte Head = 1

abbrev pub limits_byte : Option RotaryLimits → ℕ
limits_byte None = 0
limits_byte (Some l) = 1

abbrev pub lower : Option RotaryLimits → Float
lower None = nought
lower (Some l) = l.min

abbrev pub upper : Option RotaryLimits → Float
upper None = nought
upper (Some l) = l.max

-- of 80 bytes the rest angle is the last 8
unfoldable pub rest_bytes : ℕ → Float → List ℕ
rest_bytes w rest = cond (eqb w 80) (number_bytes rest) []

unfoldable pub rotary_bytes : ℕ → RotaryJoint → List ℕ
rotary_bytes w j =
    field (letter_field 0) (j.letter ∷ [])
    (field (carrier_field 0) (carrier_byte j.carrier ∷ [])
    (field (limits_field 0) (limits_byte j.limits ∷ [])
    (field (Chain.axis_field 0) (vector_bytes j.axis)
    (field (pivot_field 0) (vector_bytes j.pivot)
    (field (min_field 0) (number_bytes (lower j.limits))
    (field (max_field 0) (number_bytes (upper j.limits))
    (field (rest_field 0) (rest_bytes w j.rest)
    (replicate w 0))))))))

-- the trailer's word: 0 where every rest angle of the chain is +0.0, by its bits, so that -0.0 is kept
unfoldable pub rest_nought : Float → Bool
rest_nought rest = eqb (bits_of rest) 0

unfoldable pub second_nought : Kinematics → Bool
second_nought k = cond (eqb k.count 2) (rest_nought k.second.rest) true

unfoldable pub word_of : Kinematics → ℕ
word_of k = cond (rest_nought k.first.rest && second_nought k) 0 1

-- and so the length of a record, one of two
unfoldable pub record_of : Kinematics → ℕ
record_of k = word_length (word_of k)

abbrev pub Width : ℕ → Type 0
Width w = (w ≡ 72) ⊎ (w ≡ 80)

-- ---- the chain: its count and seven zero bytes, a record for each rotary, the spindle axis
abbrev pub head_bytes : (a b c : ℕ) → List ℕ
head_bytes a b c = a ∷ b ∷ c ∷ 0 ∷ 0 ∷ 0 ∷ 0 ∷ 0 ∷ []

unfoldable pub second_bytes : ℕ → Kinematics → List ℕ
second_bytes w k = cond (eqb k.count 2) (rotary_bytes w k.second) []

unfoldable pub chain_bytes : ℕ → Kinematics → List ℕ
chain_bytes w k = head_bytes k.count 0 0 ++ (rotary_bytes w k.first ++ (second_bytes w k ++ vector_bytes k.spindle_axis))

-- ---- the job
unfoldable pub poses_bytes : List Float → List ℕ
poses_bytes poses = flat number_bytes poses

-- `chain` is the chain's length, and so the offset of the poses
unfoldable pub trailer_bytes : (chain count word : ℕ) → Float → Tolerances → List ℕ
trailer_bytes chain count word cone tol =
    field (Trailer.chain_field 0) (bytes_of 4 0)
    (field (Trailer.poses_field 0) (bytes_of 4 chain)
    (field (Trailer.count_field 0) (bytes_of 4 count)
    (field (Trailer.word_field 0) (bytes_of 4 word)
    (field (Trailer.cone_field 0) (number_bytes cone)
    (field (Trailer.chord_field 0) (number_bytes tol.chord)
    (field (Trailer.axis_field 0) (number_bytes tol.axis)
    (replicate 40 0)))))))

unfoldable pub job_bytes : Kinematics → List Float → Float → Tolerances → List ℕ
job_bytes k poses cone tol =
    chain_bytes (record_of k) k ++ (poses_bytes poses ++ trailer_bytes (length_of_chain (record_of k) k.count) (length poses / 6) (word_of k) cone tol)

-- ---- what a reader gets: the two tolerances, which a job has for the Rust's test, whichever test they were of, and
-- the chain but for a second rotary that it has not: the unused numbers
unfoldable pub plain : Kinematics → Kinematics
plain k = record { count = k.count; first = k.first; second = cond (eqb k.count 2) k.second no_rotary; spindle_axis = k.spindle_axis }

unfoldable pub job_of : Kinematics → List Float → Float → Tolerances → Job
job_of k poses cone tol = record {
  chain_at = 0;
  chain_length = length_of_chain (record_of k) k.count;
  poses_at = length_of_chain (record_of k) k.count;
  poses = length poses / 6;
  cone = cone;
  tol = tolerances false tol.chord tol.axis;
  chain = plain k;
}
