-- What a chain must be. A check answers `Ok` or a refusal; a list of checks answers with its first refusal, so the
-- order of the papers is the order of the list.
use Rattle.std.specs.Prelude.{Bool, true, false, not, ◌&&◌, cond, List, [], ◌∷◌, ℕ, ltb, eqb, Float, Err, None, Ok, Option, Some}
use Rattle.std.specs.Float.Ieee as Ieee
use Rattle.std.specs.Float.{binary64}
use Rattle.std.specs.Float.Ieee.{of_bits}
use Rattle.std.specs.Float.Ieee.Scale.{finite}
use Rattle.float.specs.Helpers.{size_of}
use Rattle.geometry.specs.declared.Vec3.{Vec3}
use Rattle.geometry.specs.Direction.{all_finite, unit_direction}
use Rattle.refusal.specs.Numbers.{refusal}
use Rattle.refusal.specs.declared.Cause.{Cause}
use Rattle.chain.specs.Checked.{Checked}
use Rattle.chain.specs.declared.RotaryLimits.{RotaryLimits}
use Rattle.chain.specs.declared.RotaryJoint.{RotaryJoint}
use Rattle.chain.specs.declared.Kinematics.{Kinematics}
use Rattle.chain.specs.declared.Joints.{Joints}

-- ---- lists of checks
abbrev pub demand : Bool → Cause → ℕ → Checked
demand true cause at = Ok tt
demand false cause at = Err (refusal cause at)

abbrev pub then : Checked → Checked → Checked
then (Ok _) second = second
then (Err r) second = Err r

abbrev pub first_refusal : List Checked → Checked
first_refusal [] = Ok tt
first_refusal (c ∷ []) = c
first_refusal (c ∷ d ∷ l) = then c (first_refusal (d ∷ l))

-- ---- one rotary
unfoldable pub contains : RotaryLimits → Float → Bool
contains l angle = Ieee.le l.min angle && Ieee.le angle l.max

unfoldable pub travel_good : Option RotaryLimits → Bool
travel_good None = true
travel_good (Some l) = finite l.min && finite l.max && Ieee.lt l.min l.max

-- `unit_direction` serves it: not all of it is below 1e-15 in size, and its length does not overflow
abbrev pub served : Option Vec3 → Bool
served (Some u) = true
served None = false

unfoldable pub has_direction : Vec3 → Bool
has_direction v = served (unit_direction v)

-- A, B or C
unfoldable pub known_letter : ℕ → Bool
known_letter letter = not (ltb letter 65) && ltb letter 68

-- not that of the rotary before it, where there is one
abbrev pub other_letter : ℕ → Option ℕ → Bool
other_letter letter None = true
other_letter letter (Some earlier) = not (eqb letter earlier)

unfoldable pub rotary_check : RotaryJoint → Option ℕ → ℕ → Checked
rotary_check j earlier i =
    first_refusal
    (demand (known_letter j.letter) Cause.RotaryLetter i
    ∷ demand (other_letter j.letter earlier) Cause.LetterTwice i
    ∷ demand (all_finite j.axis) Cause.ChainNotFinite i
    ∷ demand (has_direction j.axis) Cause.RotaryAxisZero i
    ∷ demand (all_finite j.pivot) Cause.ChainNotFinite i
    ∷ demand (travel_good j.limits) Cause.LimitsRefused i
    ∷ demand (finite j.rest) Cause.ChainNotFinite i
    ∷ [])

-- ---- the chain
unfoldable pub one_or_two : ℕ → Bool
one_or_two count = not (ltb count 1) && ltb count 3

unfoldable pub second_check : Kinematics → Checked
second_check k = cond (eqb k.count 2) (rotary_check k.second (Some k.first.letter) 1) (Ok tt)

unfoldable pub chain_check : Kinematics → Checked
chain_check k =
    first_refusal
    (demand (one_or_two k.count) Cause.RotaryCount 0
    ∷ rotary_check k.first None 0
    ∷ second_check k
    ∷ demand (all_finite k.spindle_axis) Cause.ChainNotFinite 0
    ∷ demand (has_direction k.spindle_axis) Cause.SpindleZero 0
    ∷ [])

-- ---- sizes: of each number apart, and strict: what equals the limit passes
unfoldable pub within : Float → Float → Bool
within x limit = Ieee.le (size_of x) limit

unfoldable pub all_within : Vec3 → Float → Bool
all_within v limit = within v.x limit && within v.y limit && within v.z limit

-- 100,000, 10,000,000 and 36,000
abbrev pub longest : Float
longest = of_bits binary64 0x40f8_6a00_0000_0000

abbrev pub farthest : Float
farthest = of_bits binary64 0x4163_12d0_0000_0000

abbrev pub most_turned : Float
most_turned = of_bits binary64 0x40e1_9400_0000_0000

-- of a rotary: its pivot and its rest angle
unfoldable pub rotary_within : RotaryJoint → Bool
rotary_within j = all_within j.pivot longest && within j.rest most_turned

-- of the rotaries that the chain has: every call's 17 follows from this one
unfoldable pub chain_within : Kinematics → Bool
chain_within k = rotary_within k.first && cond (eqb k.count 2) (rotary_within k.second) true

unfoldable pub chain_sizes : Kinematics → Checked
chain_sizes k = demand (chain_within k) Cause.TooLarge 0

-- ---- joints: all five numbers, the unused angle too
unfoldable pub joints_finite : Joints → Bool
joints_finite j = all_finite j.xyz && finite j.a0 && finite j.a1

unfoldable pub joints_within : Joints → Bool
joints_within j = all_within j.xyz farthest && within j.a0 most_turned && within j.a1 most_turned
