-- The bytes of a chain: its count in one byte, 7 zero bytes, a record of w bytes for each rotary, the spindle axis.
-- A breach is 29 with the offset of the first bad field. `w` is 80 where each record has a rest angle, else 72.
use Rattle.std.specs.Prelude.{Bool, not, cond, List, [], ◌∷◌, ℕ, zero, suc, ◌+◌, ◌*◌, ltb, eqb, length, Float, Err, None, Ok, Option, Result, Some}
use Rattle.float.specs.Helpers.{nought}
use Rattle.geometry.specs.declared.Vec3.{Vec3}
use Rattle.geometry.specs.Vector.{vector}
use Rattle.refusal.specs.declared.Refusal.{Refusal}
use Rattle.refusal.specs.Numbers as Numbers
use Rattle.refusal.specs.declared.Cause.{Cause}
use Rattle.chain.specs.declared.RotaryLimits.{RotaryLimits}
use Rattle.chain.specs.Checked.{Checked}
use Rattle.chain.specs.declared.Carrier.{Carrier}
use Rattle.chain.specs.declared.Carrier.TheVariants.{Table, Head}
use Rattle.chain.specs.declared.RotaryJoint.{RotaryJoint}
use Rattle.chain.specs.declared.Kinematics.{Kinematics}
use Rattle.chain.specs.Bytes.{byte_at, number_at, vector_at, spare}
use Rattle.chain.specs.Check.{demand, then, first_refusal, one_or_two}

-- ---- the fields, each with its offset: of the chain, and of a rotary's record from the record's start
abbrev pub count_field : ℕ
count_field = 0

abbrev pub empty_field : ℕ
empty_field = 1

abbrev pub first_field : ℕ
first_field = 8

abbrev pub second_field : ℕ → ℕ
second_field w = 8 + w

abbrev pub spindle_field : ℕ → ℕ → ℕ
spindle_field w count = 8 + w * count

abbrev pub length_of_chain : ℕ → ℕ → ℕ
length_of_chain w count = 32 + w * count

-- in a record: the letter, the carrier (0 a table, 1 a head), whether it has limits (0 or 1), 5 zero bytes, axis,
-- pivot, the two limits, +0.0 where it has none, and in a record of 80 bytes the rest angle
abbrev pub letter_field : ℕ → ℕ
letter_field at = at

abbrev pub carrier_field : ℕ → ℕ
carrier_field at = at + 1

abbrev pub limits_field : ℕ → ℕ
limits_field at = at + 2

abbrev pub empty_fields : ℕ → ℕ
empty_fields at = at + 3

abbrev pub axis_field : ℕ → ℕ
axis_field at = at + 8

abbrev pub pivot_field : ℕ → ℕ
pivot_field at = at + 32

abbrev pub min_field : ℕ → ℕ
min_field at = at + 56

abbrev pub max_field : ℕ → ℕ
max_field at = at + 64

abbrev pub rest_field : ℕ → ℕ
rest_field at = at + 72

-- ---- what they must be
-- n zero bytes: the first that is not zero is refused
unfoldable pub zeros : List ℕ → ℕ → ℕ → Checked
zeros bytes at zero = Ok tt
zeros bytes at (suc n) = then (demand (eqb (byte_at bytes at) 0) Cause.Malformed at) (zeros bytes (at + 1) n)

unfoldable pub flag : List ℕ → ℕ → Bool
flag bytes at = ltb (byte_at bytes at) 2

unfoldable pub rotary_fields : List ℕ → ℕ → Checked
rotary_fields bytes at =
    first_refusal
    (demand (flag bytes (carrier_field at)) Cause.Malformed (carrier_field at)
    ∷ demand (flag bytes (limits_field at)) Cause.Malformed (limits_field at)
    ∷ zeros bytes (empty_fields at) 5
    ∷ demand (spare bytes (limits_field at) (min_field at)) Cause.Malformed (min_field at)
    ∷ demand (spare bytes (limits_field at) (max_field at)) Cause.Malformed (max_field at)
    ∷ [])

unfoldable pub second_fields : ℕ → List ℕ → ℕ → Checked
second_fields w bytes count = cond (eqb count 2) (rotary_fields bytes (second_field w)) (Ok tt)

unfoldable pub chain_fields : ℕ → List ℕ → ℕ → Checked
chain_fields w bytes count = first_refusal (zeros bytes empty_field 7 ∷ rotary_fields bytes first_field ∷ second_fields w bytes count ∷ [])

-- ---- what they say
unfoldable pub carrier_of : ℕ → Carrier
carrier_of byte = cond (eqb byte 0) Table Head

unfoldable pub travel_at : List ℕ → ℕ → Option RotaryLimits
travel_at bytes at =
    cond (eqb (byte_at bytes (limits_field at)) 0) None
    (Some (record { min = number_at bytes (min_field at); max = number_at bytes (max_field at) }))

-- the rest angle, +0.0 where the record has none. Its bits are not judged here: a nan is refused by the chain's check
unfoldable pub rest_at : ℕ → List ℕ → ℕ → Float
rest_at w bytes at = cond (eqb w 80) (number_at bytes (rest_field at)) nought

unfoldable pub rotary_at : ℕ → List ℕ → ℕ → RotaryJoint
rotary_at w bytes at = record {
  letter = byte_at bytes (letter_field at);
  carrier = carrier_of (byte_at bytes (carrier_field at));
  limits = travel_at bytes at;
  axis = vector_at bytes (axis_field at);
  pivot = vector_at bytes (pivot_field at);
  rest = rest_at w bytes at;
}

-- what stands for a rotary that is not there
abbrev pub zero_vector : Vec3
zero_vector = vector nought nought nought

unfoldable pub no_rotary : RotaryJoint
no_rotary = record { letter = 0; carrier = Table; limits = None; axis = zero_vector; pivot = zero_vector; rest = nought }

unfoldable pub second_at : ℕ → List ℕ → ℕ → RotaryJoint
second_at w bytes count = cond (eqb count 2) (rotary_at w bytes (second_field w)) no_rotary

unfoldable pub chain_at : ℕ → List ℕ → ℕ → Kinematics
chain_at w bytes count = record {
  count = count;
  first = rotary_at w bytes first_field;
  second = second_at w bytes count;
  spindle_axis = vector_at bytes (spindle_field w count);
}

unfoldable pub no_chain : ℕ → Kinematics
no_chain count = record { count = count; first = no_rotary; second = no_rotary; spindle_axis = zero_vector }

-- ---- the reader
abbrev pub malformed : ℕ → Result Kinematics Refusal
malformed at = Err (Numbers.refusal Cause.Malformed at)

abbrev pub chain_unless : Checked → Kinematics → Result Kinematics Refusal
chain_unless (Ok _) k = Ok k
chain_unless (Err r) k = Err r

-- the length says how long a record is
unfoldable pub record_length : (length count : ℕ) → ℕ
record_length length count = cond (eqb length (length_of_chain 80 count)) 80 72

-- with records of w bytes; of a count other than 1 or 2 nothing more is judged
unfoldable pub read_count : ℕ → List ℕ → ℕ → Result Kinematics Refusal
read_count w bytes count =
    cond (not (one_or_two count)) (Ok (no_chain count))
    (cond (not (eqb (length bytes) (length_of_chain w count))) (malformed 0) (chain_unless (chain_fields w bytes count) (chain_at w bytes count)))

unfoldable pub read_counted : List ℕ → ℕ → Result Kinematics Refusal
read_counted bytes count = read_count (record_length (length bytes) count) bytes count

unfoldable pub read_chain : List ℕ → Result Kinematics Refusal
read_chain bytes = cond (ltb (length bytes) 1) (malformed 0) (read_counted bytes (byte_at bytes count_field))
