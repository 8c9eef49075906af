-- A record and a trailer, defined field by field over zero bytes, as texts one behind another.
use Prim.Native.Nat.{ℕ}
use mathlib.Core.Path.{◌≡◌, refl}
use mathlib.Core.Bool.{Bool, true, false, cond}
use mathlib.Core.Logic.{inl, inr}
use mathlib.Core.List.{List, ◌++◌}
use lib.Dec.{eqb}
use lib.Ieee.{Float}
use Rattle.std.specs.Prelude.{Option}
use Rattle.chain.specs.declared.RotaryLimits.{RotaryLimits}
use Rattle.chain.specs.declared.RotaryJoint.{RotaryJoint}
use Rattle.chain.specs.declared.Kinematics.{Kinematics}
use Rattle.middle.specs.declared.Tolerances.{Tolerances}
use Rattle.job.specs.Spelling.{written}
use Rattle.job.specs.JobBytes.{word_length}
use Rattle.writer.specs.Writing.{bytes_of, number_bytes, vector_bytes, carrier_byte, limits_byte, lower, upper, head_bytes, rest_bytes, rotary_bytes, word_of, record_of, Width, trailer_bytes}

abbrev pub travel_bytes : Option RotaryLimits → List ℕ
travel_bytes t = number_bytes (lower t) ++ number_bytes (upper t)

pub rotary_parts : (w : ℕ) → Width w → (j : RotaryJoint)
    → rotary_bytes w j ≡ head_bytes j.letter (carrier_byte j.carrier) (limits_byte j.limits) ++ (vector_bytes j.axis ++ (vector_bytes j.pivot ++ (travel_bytes j.limits ++ rest_bytes w j.rest)))
rotary_parts w (inl e) j = rw e (short j)
  where
    short : (j : RotaryJoint)
        → rotary_bytes 72 j ≡ head_bytes j.letter (carrier_byte j.carrier) (limits_byte j.limits) ++ (vector_bytes j.axis ++ (vector_bytes j.pivot ++ (travel_bytes j.limits ++ rest_bytes 72 j.rest)))
    short j = unfold rotary_bytes rest_bytes vector_bytes number_bytes bytes_of written in refl
rotary_parts w (inr e) j = rw e (long j)
  where
    long : (j : RotaryJoint)
        → rotary_bytes 80 j ≡ head_bytes j.letter (carrier_byte j.carrier) (limits_byte j.limits) ++ (vector_bytes j.axis ++ (vector_bytes j.pivot ++ (travel_bytes j.limits ++ rest_bytes 80 j.rest)))
    long j = unfold rotary_bytes rest_bytes vector_bytes number_bytes bytes_of written in refl

-- a record has one of two lengths
pub record_width : (k : Kinematics) → Width (record_of k)
unfolding record_of word_length
record_width k = go (eqb (word_of k) 1)
  where
    go : (t : Bool) → Width (cond t 80 72)
    go true = inr refl
    go false = inl refl

-- the word stands before the cone
pub trailer_parts : (chain count word : ℕ) (cone : Float) (tol : Tolerances)
    → trailer_bytes chain count word cone tol
    ≡ bytes_of 4 0 ++ (bytes_of 4 chain ++ (bytes_of 4 count ++ (bytes_of 4 word ++ (number_bytes cone ++ (number_bytes tol.chord ++ number_bytes tol.axis)))))
unfolding trailer_bytes number_bytes bytes_of written
trailer_parts chain count word cone tol = refl
