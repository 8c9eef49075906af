-- What a reader gets from a job that was written: what the writer was given, bit for bit. Each part is found at the
-- field of the reader's own lists.
use Prim.Native.Nat.{ℕ, zero, suc, ◌+◌, ◌*◌, ◌/◌, ◌≤◌, ◌<◌}
use native.Mathlib.Omega.{arith}
use mathlib.Core.Path.{◌≡◌, refl, sym, ap, ◌∙◌, subst}
use mathlib.Core.Bool.{Bool, true, false, cond, not, ◌&&◌, ◌||◌, and-eq-true_iff, false≢true}
use mathlib.Core.Logic.{inl, inr}
use mathlib.Core.List.{List, [], ◌∷◌, ◌++◌}
use borrow.Author.Tests.{eqb-true, lt-ltb, le-ltb, le-leb, ltb-true}
use lib.Dec.{T, ltb, leb, eqb, lit≤}
use lib.ListN.{length, replicate, length-append}
use lib.Ieee.{Float, binary64, fits, of_bits}
use Rattle.std.specs.Prelude.{None, Ok, Option, Some}
use Rattle.lists.specs.Rows.{flat}
use Rattle.float.specs.Helpers.{nought}
use Rattle.refusal.specs.declared.Cause.{Cause}
use Rattle.chain.specs.declared.RotaryLimits.{RotaryLimits}
use Rattle.chain.specs.declared.Carrier.{Carrier}
use Rattle.chain.specs.declared.Carrier.TheVariants.{Table, Head}
use Rattle.chain.specs.declared.RotaryJoint.{RotaryJoint}
use Rattle.chain.specs.declared.Kinematics.{Kinematics}
use Rattle.chain.specs.Bytes.{byte_at, little_endian, number_at, spare}
use Rattle.chain.specs.Check.{demand, then, one_or_two, known_letter}
use Rattle.chain.specs.ChainBytes.{empty_field, first_field, second_field, spindle_field, length_of_chain, letter_field, carrier_field, limits_field, empty_fields, axis_field, pivot_field, min_field, max_field, rest_field, zeros, flag, rotary_fields, carrier_of, travel_at, rest_at, rotary_at, no_rotary}
use Rattle.middle.specs.declared.Tolerances.{Tolerances}
use Rattle.divide.specs.Checking.{FitUpTo}
use Rattle.job.specs.Spelling.{bits_of}
use Rattle.job.specs.JobBytes as Trailer
use Rattle.job.specs.JobBytes.{trailer, word_length, sized, places_in, chain_end, poses_end, apart, placed, rotary_part, second_part, chain_part, second_in, chain_in, job_at, job_fields, job_from, read_job}
use Rattle.job.specs.JobPoses.{numbers_at, poses_of}
use Rattle.job.specs.declared.Places.{Places}
use Rattle.writer.specs.Writing.{bytes_of, number_bytes, vector_bytes, carrier_byte, limits_byte, lower, upper, head_bytes, rest_bytes, rotary_bytes, rest_nought, second_nought, word_of, record_of, Width, second_bytes, chain_bytes, poses_bytes, trailer_bytes, job_bytes, plain, job_of}
use Rattle.chain.specs.Doubles.{TravelFits, RotaryFits, ChainFits}
use Rattle.writer.proofs.Parts.{travel_bytes, rotary_parts, record_width, trailer_parts}
use Rattle.writer.proofs.Standing.{Stands, stands_left, stands_right, stands_whole, length_bytes, whole_read, bits_there, number_read, length_number, length_vector, vector_read, zeros_read}

-- ---- the word where every rest angle is +0.0 or one is not, and a record's length where the word is 1 or 0
abbrev word : Bool → ℕ
word nought = cond nought 0 1

abbrev records : Bool → ℕ
records long = cond long 80 72

-- ---- a rest angle whose bits are 0 is +0.0
nought_there : (x : Float) → T (fits binary64 x) → rest_nought x ≡ true → x ≡ nought
unfolding rest_nought
nought_there x f h = sym (bits_there x f) ∙ ap (of_bits binary64) (eqb-true (bits_of x) 0 h)

-- ---- a rotary
pub travel_length : (t : Option RotaryLimits) → length (travel_bytes t) ≡ 16
travel_length t = length-append (number_bytes (lower t)) (number_bytes (upper t)) ∙ rw (length_number (lower t), length_number (upper t))

pub rest_length : (w : ℕ) → Width w → (rest : Float) → length (rest_bytes w rest) + 72 ≡ w
unfolding rest_bytes
rest_length w (inl e) rest = rw e
rest_length w (inr e) rest = let l = length_number rest in rw e (omega (arith, l))

pub rotary_length : (w : ℕ) → Width w → (j : RotaryJoint) → length (rotary_bytes w j) ≡ w
rotary_length w width j =
    let a = length_vector j.axis in
    let b = length_vector j.pivot in
    let c = travel_length j.limits in
    let d = rest_length w width j.rest in
    let e = length-append (vector_bytes j.axis) (vector_bytes j.pivot ++ (travel_bytes j.limits ++ rest_bytes w j.rest)) in
    let f = length-append (vector_bytes j.pivot) (travel_bytes j.limits ++ rest_bytes w j.rest) in
    let g = length-append (travel_bytes j.limits) (rest_bytes w j.rest) in
    let whole = ap length (rotary_parts w width j) in
    omega (arith, a, b, c, d, e, f, g, whole)

module _ (w : ℕ) (width : Width w) (bytes : List ℕ) (at : ℕ) (j : RotaryJoint) (s : Stands bytes at (rotary_bytes w j)) where
  abbrev RotaryHead : List ℕ
  RotaryHead = head_bytes j.letter (carrier_byte j.carrier) (limits_byte j.limits)

  abbrev FromLimits : List ℕ
  FromLimits = travel_bytes j.limits ++ rest_bytes w j.rest

  opened : Stands bytes at (RotaryHead ++ (vector_bytes j.axis ++ (vector_bytes j.pivot ++ FromLimits)))
  opened = subst (Stands bytes at) (rotary_parts w width j) s

  head : Stands bytes at RotaryHead
  head = stands_left RotaryHead (vector_bytes j.axis ++ (vector_bytes j.pivot ++ FromLimits)) opened

  from_axis : Stands bytes (axis_field at) (vector_bytes j.axis ++ (vector_bytes j.pivot ++ FromLimits))
  from_axis = stands_right RotaryHead (vector_bytes j.axis ++ (vector_bytes j.pivot ++ FromLimits)) 8 (axis_field at) refl refl opened

  from_pivot : Stands bytes (pivot_field at) (vector_bytes j.pivot ++ FromLimits)
  from_pivot = stands_right (vector_bytes j.axis) (vector_bytes j.pivot ++ FromLimits) 24 (pivot_field at) (length_vector j.axis) (omega arith) from_axis

  limits_and_rest : Stands bytes (min_field at) FromLimits
  limits_and_rest = stands_right (vector_bytes j.pivot) FromLimits 24 (min_field at) (length_vector j.pivot) (omega arith) from_pivot

  from_limits : Stands bytes (min_field at) (travel_bytes j.limits)
  from_limits = stands_left (travel_bytes j.limits) (rest_bytes w j.rest) limits_and_rest

  from_rest : Stands bytes (rest_field at) (rest_bytes w j.rest)
  from_rest = stands_right (travel_bytes j.limits) (rest_bytes w j.rest) 16 (rest_field at) (travel_length j.limits) (omega arith) limits_and_rest

  letter_there : byte_at bytes (letter_field at) ≡ j.letter
  letter_there = let z : at + 0 ≡ at = omega arith in rw z at (head.byte 0 (omega arith))

  carrier_there : byte_at bytes (carrier_field at) ≡ carrier_byte j.carrier
  carrier_there = head.byte 1 (omega arith)

  limits_there : byte_at bytes (limits_field at) ≡ limits_byte j.limits
  limits_there = head.byte 2 (omega arith)

  zeros_there : zeros bytes (empty_fields at) 5 ≡ Ok tt
  zeros_there = zeros_read 5 bytes (empty_fields at) (stands_right (j.letter ∷ carrier_byte j.carrier ∷ limits_byte j.limits ∷ []) (replicate 5 0) 3 (empty_fields at) refl refl head)

  carrier_good : flag bytes (carrier_field at) ≡ true
  unfolding flag
  carrier_good = rw carrier_there (go j.carrier)
    where
      go : (c : Carrier) → ltb (carrier_byte c) 2 ≡ true
      go Table = refl
      go Head = refl

  limits_good : flag bytes (limits_field at) ≡ true
  unfolding flag
  limits_good = rw limits_there (go j.limits)
    where
      go : (t : Option RotaryLimits) → ltb (limits_byte t) 2 ≡ true
      go None = refl
      go (Some l) = refl

  nought_bits : bits_of nought ≡ 0
  unfolding bits_of of_bits lib.Ieee.ne lib.Ieee.to_bits
  nought_bits = refl

  -- an unused limit is +0.0
  spares : (t : Option RotaryLimits) → limits_byte t ≡ byte_at bytes (limits_field at) → Stands bytes (min_field at) (travel_bytes t) → (spare bytes (limits_field at) (min_field at) ≡ true) × (spare bytes (limits_field at) (max_field at) ≡ true)
  unfolding spare
  spares (Some l) e u = rw (← e) (refl, refl)
  spares None e u =
      let a : Stands bytes (min_field at) (number_bytes nought) = stands_left (number_bytes nought) (number_bytes nought) u in
      let b : Stands bytes (max_field at) (number_bytes nought) = stands_right (number_bytes nought) (number_bytes nought) 8 (max_field at) (length_number nought) (omega arith) u in
      let x : little_endian 8 bytes (min_field at) ≡ 0 = none (min_field at) a in
      let y : little_endian 8 bytes (max_field at) ≡ 0 = none (max_field at) b in
      rw (← e, x, y) (refl, refl)
    where
      none : (from : ℕ) → Stands bytes from (number_bytes nought) → little_endian 8 bytes from ≡ 0
      none from v =
          let o : Stands bytes from (bytes_of 8 (bits_of nought)) = unfold number_bytes in v in
          whole_read 8 0 bytes from (omega arith) (rw nought_bits at o)

  pub fields_there : rotary_fields bytes at ≡ Ok tt
  unfolding rotary_fields
  fields_there =
      let p = spares j.limits (sym limits_there) from_limits in
      rw (carrier_good, limits_good, zeros_there, p.0, p.1)

  pub part_there : (i : ℕ) → known_letter j.letter ≡ true → rotary_part bytes at i ≡ Ok tt
  unfolding rotary_part
  part_there i h = rw (letter_there, h) fields_there

  travel_there : (t : Option RotaryLimits) → limits_byte t ≡ byte_at bytes (limits_field at) → TravelFits t → Stands bytes (min_field at) (travel_bytes t) → travel_at bytes at ≡ t
  unfolding travel_at
  travel_there None e f u = rw (← e)
  travel_there (Some l) e f u =
      let a = number_read l.min bytes (min_field at) f.0 (stands_left (number_bytes l.min) (number_bytes l.max) u) in
      let b = number_read l.max bytes (max_field at) f.1 (stands_right (number_bytes l.min) (number_bytes l.max) 8 (max_field at) (length_number l.min) (omega arith) u) in
      rw (← e, a, b)

  carrier_back : (c : Carrier) → carrier_of (carrier_byte c) ≡ c
  unfolding carrier_of
  carrier_back Table = refl
  carrier_back Head = refl

  -- what a record of 72 bytes does not hold is +0.0
  rest_there : T (fits binary64 j.rest) → (w ≡ 72 → j.rest ≡ nought) → rest_at w bytes at ≡ j.rest
  unfolding rest_at
  rest_there f none = by_width width from_rest
    where
      by_width : Width w → Stands bytes (rest_field at) (rest_bytes w j.rest) → cond (eqb w 80) (number_at bytes (rest_field at)) nought ≡ j.rest
      by_width (inl e) u = rw e (sym (none e))
      by_width (inr e) u =
          let v : Stands bytes (rest_field at) (cond (eqb w 80) (number_bytes j.rest) []) = unfold rest_bytes in u in
          rw e (number_read j.rest bytes (rest_field at) f (rw e at v))

  pub rotary_there : RotaryFits j → (w ≡ 72 → j.rest ≡ nought) → rotary_at w bytes at ≡ j
  unfolding rotary_at
  rotary_there f none =
      rw (
        letter_there,
        carrier_there,
        carrier_back j.carrier,
        travel_there j.limits (sym limits_there) f.limits from_limits,
        vector_read j.axis bytes (axis_field at) f.axis (stands_left (vector_bytes j.axis) (vector_bytes j.pivot ++ FromLimits) from_axis),
        vector_read j.pivot bytes (pivot_field at) f.pivot (stands_left (vector_bytes j.pivot) FromLimits from_pivot),
        rest_there f.rest none,
      )

-- ---- the chain
-- every rest angle that it has is +0.0
pub record RestsNought (k : Kinematics) : Type 0 where
  pub first : k.first.rest ≡ nought
  pub second : eqb k.count 2 ≡ true → k.second.rest ≡ nought

second_length : (w : ℕ) → Width w → (k : Kinematics) → one_or_two k.count ≡ true → length (second_bytes w k) + w ≡ w * k.count
unfolding second_bytes
second_length w width k h = by_count k.count h
  where
    by_count : (n : ℕ) → one_or_two n ≡ true → length (cond (eqb n 2) (rotary_bytes w k.second) []) + w ≡ w * n
    by_count zero h = absurd (false≢true (unfold one_or_two in h))
    by_count (suc zero) h = omega arith
    by_count (suc (suc zero)) h = let e = rotary_length w width k.second in omega (arith, e)
    by_count (suc (suc (suc n))) h = absurd (over n (ltb-true (suc (suc (suc n))) 3 ((and-eq-true_iff (not (ltb (suc (suc (suc n))) 1)) (ltb (suc (suc (suc n))) 3)).0 (unfold one_or_two in h)).1))
      where
        over : (n : ℕ) → suc (suc (suc n)) < 3 → ⊥
        over n h = omega arith

pub chain_length : (w : ℕ) → Width w → (k : Kinematics) → one_or_two k.count ≡ true → length (chain_bytes w k) ≡ length_of_chain w k.count
unfolding chain_bytes
chain_length w width k h =
    let a = rotary_length w width k.first in
    let b = second_length w width k h in
    let c = length_vector k.spindle_axis in
    let e = length-append (rotary_bytes w k.first) (second_bytes w k ++ vector_bytes k.spindle_axis) in
    let f = length-append (second_bytes w k) (vector_bytes k.spindle_axis) in
    omega (arith, a, b, c, e, f)

module _ (w : ℕ) (width : Width w) (bytes : List ℕ) (p : Places) (k : Kinematics) (counted : one_or_two k.count ≡ true) (s : Stands bytes p.chain (chain_bytes w k)) where
  abbrev ChainHead : List ℕ
  ChainHead = head_bytes k.count 0 0

  abbrev Behind : List ℕ
  Behind = second_bytes w k ++ vector_bytes k.spindle_axis

  chain_opened : Stands bytes p.chain (ChainHead ++ (rotary_bytes w k.first ++ Behind))
  chain_opened = unfold chain_bytes in s

  chain_head : Stands bytes p.chain ChainHead
  chain_head = stands_left ChainHead (rotary_bytes w k.first ++ Behind) chain_opened

  from_first : Stands bytes (p.chain + first_field) (rotary_bytes w k.first ++ Behind)
  from_first = stands_right ChainHead (rotary_bytes w k.first ++ Behind) 8 (p.chain + first_field) refl refl chain_opened

  first_stands : Stands bytes (p.chain + first_field) (rotary_bytes w k.first)
  first_stands = stands_left (rotary_bytes w k.first) Behind from_first

  from_second : Stands bytes (p.chain + second_field w) Behind
  from_second = stands_right (rotary_bytes w k.first) Behind w (p.chain + second_field w) (rotary_length w width k.first) (omega arith) from_first

  spindle_stands : Stands bytes (p.chain + spindle_field w k.count) (vector_bytes k.spindle_axis)
  spindle_stands =
      let e = second_length w width k counted in
      stands_right (second_bytes w k) (vector_bytes k.spindle_axis) (length (second_bytes w k)) (p.chain + spindle_field w k.count) refl (omega (arith, e)) from_second

  second_stands : (t : Bool) → eqb k.count 2 ≡ t → t ≡ true → Stands bytes (p.chain + second_field w) (rotary_bytes w k.second)
  second_stands true e h =
      let o : Stands bytes (p.chain + second_field w) (cond (eqb k.count 2) (rotary_bytes w k.second) [] ++ vector_bytes k.spindle_axis) = unfold second_bytes in from_second in
      stands_left (rotary_bytes w k.second) (vector_bytes k.spindle_axis) (rw e at o)
  second_stands false e h = absurd (false≢true h)

  pub count_there : byte_at bytes p.chain ≡ k.count
  count_there = let z : p.chain + 0 ≡ p.chain = omega arith in rw z at (chain_head.byte 0 (omega arith))

  pub chain_part_there : known_letter k.first.letter ≡ true → (eqb k.count 2 ≡ true → known_letter k.second.letter ≡ true) → chain_part w bytes p k.count ≡ Ok tt
  unfolding chain_part second_part
  chain_part_there h l =
      rw (
        zeros_read 7 bytes (p.chain + empty_field) (stands_right (k.count ∷ []) (replicate 7 0) 1 (p.chain + empty_field) refl refl chain_head),
        part_there w width bytes (p.chain + first_field) k.first first_stands 0 h,
      )
      (go (eqb k.count 2) refl)
    where
      go : (t : Bool) → eqb k.count 2 ≡ t → cond t (rotary_part bytes (p.chain + second_field w) 1) (Ok tt) ≡ Ok tt
      go true e = part_there w width bytes (p.chain + second_field w) k.second (second_stands true e refl) 1 (l e)
      go false e = refl

  pub chain_there : ChainFits k → (w ≡ 72 → RestsNought k) → chain_in w bytes p k.count ≡ plain k
  unfolding chain_in second_in plain
  chain_there f none =
      rw (
        rotary_there w width bytes (p.chain + first_field) k.first first_stands f.first (λ e. (none e).first),
        vector_read k.spindle_axis bytes (p.chain + spindle_field w k.count) f.spindle spindle_stands,
      )
      (ap (λ (j : RotaryJoint). record { count = k.count; first = k.first; second = j; spindle_axis = k.spindle_axis }) (go (eqb k.count 2) refl))
    where
      go : (t : Bool) → eqb k.count 2 ≡ t → cond t (rotary_at w bytes (p.chain + second_field w)) no_rotary ≡ cond t k.second no_rotary
      go true e = rotary_there w width bytes (p.chain + second_field w) k.second (second_stands true e refl) f.second (λ g. (none g).second e)
      go false e = refl

-- ---- the poses
pub poses_length : (l : List Float) → length (poses_bytes l) ≡ 8 * length l
unfolding poses_bytes flat
poses_length [] = refl
poses_length (x ∷ l) =
    let a = length_number x in
    let b = poses_length l in
    let e = length-append (number_bytes x) (flat number_bytes l) in
    omega (arith, a, b, e)

pub numbers_there : (bytes : List ℕ) (at : ℕ) (l : List Float) → FitUpTo (length l) l → Stands bytes at (poses_bytes l) → numbers_at (length l) bytes at ≡ l
unfolding poses_bytes flat numbers_at
numbers_there bytes at [] f s = refl
numbers_there bytes at (x ∷ l) f s =
    rw (
      number_read x bytes at (f.fit 0 (omega arith)) (stands_left (number_bytes x) (flat number_bytes l) s),
      numbers_there bytes (at + 8) l (record { fit = λ i h. f.fit (suc i) (omega (arith, h)) }) (stands_right (number_bytes x) (flat number_bytes l) 8 (at + 8) (length_number x) refl s),
    )

-- ---- the job
module _ (k : Kinematics) (poses : List Float) (cone : Float) (tol : Tolerances) (counted : one_or_two k.count ≡ true) where
  abbrev Job' : List ℕ
  Job' = job_bytes k poses cone tol

  abbrev N : ℕ
  N = length poses / 6

  abbrev C : ℕ
  C = length_of_chain (record_of k) k.count

  abbrev W : ℕ
  W = word_of k

  abbrev Last : List ℕ
  Last = trailer_bytes C N W cone tol

  pub trailer_length : length Last ≡ 40
  trailer_length =
      let whole = ap length (trailer_parts C N W cone tol) in
      let n1 = length_bytes 4 0 in
      let n2 = length_bytes 4 C in
      let n3 = length_bytes 4 N in
      let n4 = length_bytes 4 W in
      let f1 = length_number cone in
      let f2 = length_number tol.chord in
      let f3 = length_number tol.axis in
      let e1 = length-append (bytes_of 4 0) (bytes_of 4 C ++ (bytes_of 4 N ++ (bytes_of 4 W ++ (number_bytes cone ++ (number_bytes tol.chord ++ number_bytes tol.axis))))) in
      let e2 = length-append (bytes_of 4 C) (bytes_of 4 N ++ (bytes_of 4 W ++ (number_bytes cone ++ (number_bytes tol.chord ++ number_bytes tol.axis)))) in
      let e3 = length-append (bytes_of 4 N) (bytes_of 4 W ++ (number_bytes cone ++ (number_bytes tol.chord ++ number_bytes tol.axis))) in
      let e4 = length-append (bytes_of 4 W) (number_bytes cone ++ (number_bytes tol.chord ++ number_bytes tol.axis)) in
      let e5 = length-append (number_bytes cone) (number_bytes tol.chord ++ number_bytes tol.axis) in
      let e6 = length-append (number_bytes tol.chord) (number_bytes tol.axis) in
      omega (arith, whole, n1, n2, n3, n4, f1, f2, f3, e1, e2, e3, e4, e5, e6)

  pub length_of_job : length Job' ≡ C + 8 * length poses + 40
  unfolding job_bytes
  length_of_job =
      let a = chain_length (record_of k) (record_width k) k counted in
      let b = poses_length poses in
      let c = trailer_length in
      let e = length-append (chain_bytes (record_of k) k) (poses_bytes poses ++ Last) in
      let f = length-append (poses_bytes poses) Last in
      omega (arith, a, b, c, e, f)

  module _ (whole : length poses ≡ 6 * (length poses / 6)) (short : length_of_chain (record_of k) k.count + 8 * length poses + 40 ≤ 65536) where
    at_trailer : trailer Job' ≡ C + 8 * length poses
    at_trailer = let e = length_of_job in omega (arith, e)

    whole_stands : Stands Job' 0 (chain_bytes (record_of k) k ++ (poses_bytes poses ++ Last))
    whole_stands = unfold job_bytes in stands_whole Job'

    chain_stands : Stands Job' 0 (chain_bytes (record_of k) k)
    chain_stands = stands_left (chain_bytes (record_of k) k) (poses_bytes poses ++ Last) whole_stands

    behind_chain : Stands Job' C (poses_bytes poses ++ Last)
    behind_chain = stands_right (chain_bytes (record_of k) k) (poses_bytes poses ++ Last) C C (chain_length (record_of k) (record_width k) k counted) (omega arith) whole_stands

    pub poses_stand : Stands Job' C (poses_bytes poses)
    poses_stand = stands_left (poses_bytes poses) Last behind_chain

    trailer_stands : Stands Job' (trailer Job') Last
    trailer_stands = let e = at_trailer in stands_right (poses_bytes poses) Last (8 * length poses) (trailer Job') (poses_length poses) (sym e) behind_chain

    trailer_opened : Stands Job' (trailer Job') (bytes_of 4 0 ++ (bytes_of 4 C ++ (bytes_of 4 N ++ (bytes_of 4 W ++ (number_bytes cone ++ (number_bytes tol.chord ++ number_bytes tol.axis))))))
    trailer_opened = subst (Stands Job' (trailer Job')) (trailer_parts C N W cone tol) trailer_stands

    -- what the trailer says
    from_poses : Stands Job' (Trailer.poses_field (trailer Job')) (bytes_of 4 C ++ (bytes_of 4 N ++ (bytes_of 4 W ++ (number_bytes cone ++ (number_bytes tol.chord ++ number_bytes tol.axis)))))
    from_poses =
        stands_right (bytes_of 4 0) _ 4 (Trailer.poses_field (trailer Job')) (length_bytes 4 0) refl trailer_opened

    from_count : Stands Job' (Trailer.count_field (trailer Job')) (bytes_of 4 N ++ (bytes_of 4 W ++ (number_bytes cone ++ (number_bytes tol.chord ++ number_bytes tol.axis))))
    from_count = stands_right (bytes_of 4 C) _ 4 (Trailer.count_field (trailer Job')) (length_bytes 4 C) (omega arith) from_poses

    from_word : Stands Job' (Trailer.word_field (trailer Job')) (bytes_of 4 W ++ (number_bytes cone ++ (number_bytes tol.chord ++ number_bytes tol.axis)))
    from_word = stands_right (bytes_of 4 N) _ 4 (Trailer.word_field (trailer Job')) (length_bytes 4 N) (omega arith) from_count

    from_cone : Stands Job' (Trailer.cone_field (trailer Job')) (number_bytes cone ++ (number_bytes tol.chord ++ number_bytes tol.axis))
    from_cone = stands_right (bytes_of 4 W) _ 4 (Trailer.cone_field (trailer Job')) (length_bytes 4 W) (omega arith) from_word

    from_chord : Stands Job' (Trailer.chord_field (trailer Job')) (number_bytes tol.chord ++ number_bytes tol.axis)
    from_chord = stands_right (number_bytes cone) _ 8 (Trailer.chord_field (trailer Job')) (length_number cone) (omega arith) from_cone

    from_axis_tolerance : Stands Job' (Trailer.axis_field (trailer Job')) (number_bytes tol.axis)
    from_axis_tolerance = stands_right (number_bytes tol.chord) _ 8 (Trailer.axis_field (trailer Job')) (length_number tol.chord) (omega arith) from_chord

    chain_at_0 : (places_in Job').chain ≡ 0
    unfolding places_in
    chain_at_0 =
        whole_read 4 0 Job' (trailer Job') (omega arith) (stands_left (bytes_of 4 0) _ trailer_opened)

    poses_at-C : (places_in Job').poses ≡ C
    unfolding places_in
    poses_at-C = whole_read 4 C Job' (Trailer.poses_field (trailer Job')) (omega (arith, short)) (stands_left (bytes_of 4 C) _ from_poses)

    count_is-N : (places_in Job').count ≡ N
    unfolding places_in
    count_is-N = whole_read 4 N Job' (Trailer.count_field (trailer Job')) (omega (arith, short)) (stands_left (bytes_of 4 N) _ from_count)

    word_small : W < 2
    unfolding word_of
    word_small = go (rest_nought k.first.rest && second_nought k)
      where
        go : (t : Bool) → cond t 0 1 < 2
        go true = lit≤ tt
        go false = lit≤ tt

    word_is-W : (places_in Job').word ≡ W
    unfolding places_in
    word_is-W = let h = word_small in whole_read 4 W Job' (Trailer.word_field (trailer Job')) (omega (arith, h)) (stands_left (bytes_of 4 W) _ from_word)

    -- so the reader takes records as long as those that were written
    records_alike : word_length (places_in Job').word ≡ record_of k
    unfolding record_of
    records_alike = ap word_length word_is-W

    -- records of 72 bytes are written where every rest angle is +0.0
    rests_nought : ChainFits k → record_of k ≡ 72 → RestsNought k
    unfolding record_of word_length word_of second_nought
    rests_nought f e = by_rests (rest_nought k.first.rest) (cond (eqb k.count 2) (rest_nought k.second.rest) true) refl refl e
      where
        by_rests : (x y : Bool) → rest_nought k.first.rest ≡ x → cond (eqb k.count 2) (rest_nought k.second.rest) true ≡ y → records (eqb (word (x && y)) 1) ≡ 72 → RestsNought k
        by_rests true true p q h = record {
          first = nought_there k.first.rest f.first.rest p;
          second = λ two. nought_there k.second.rest f.second.rest (rw two at q);
        }
        by_rests true false p q h = absurd (omega (arith, h))
        by_rests false y p q h = absurd (omega (arith, h))

    chain_stands_there : Stands Job' (places_in Job').chain (chain_bytes (record_of k) k)
    chain_stands_there = rw chain_at_0 chain_stands

    sized_good : sized (length Job') ≡ true
    unfolding sized
    sized_good =
        let e = length_of_job in
        let a : 40 ≤ length Job' = omega (arith, e) in
        let b : length Job' ≤ 65536 = omega (arith, e, short) in
        rw (le-ltb (length Job') 40 a, le-leb (length Job') 65536 b)

    placed_good : placed (record_of k) Job' (places_in Job') k.count ≡ Ok tt
    unfolding placed chain_end poses_end apart
    placed_good =
        let e = at_trailer in
        let a : 0 < trailer Job' = omega (arith, e) in
        let b : 0 + C ≤ trailer Job' = omega (arith, e) in
        let c : C + 48 * N ≤ trailer Job' = omega (arith, e, whole) in
        let d : 0 + C ≤ C = omega arith in
        rw (chain_at_0, poses_at-C, count_is-N, word_is-W, lt-ltb W 2 word_small, lt-ltb 0 (trailer Job') a, counted, le-leb (0 + C) (trailer Job') b, le-leb (C + 48 * N) (trailer Job') c, le-leb (0 + C) C d)
        (go (eqb N 0) (leb (C + 48 * N) 0))
      where
        go : (x y : Bool) → then (demand (x || y || true) Cause.Malformed (Trailer.poses_field (trailer Job'))) (Ok tt) ≡ Ok tt
        go true y = refl
        go false true = refl
        go false false = refl

    module _ (fit-chain : ChainFits k) (fit-poses : FitUpTo (length poses) poses) (fit-cone : T (fits binary64 cone)) (fit-chord : T (fits binary64 tol.chord)) (fit-axis : T (fits binary64 tol.axis))
        (first-letter : known_letter k.first.letter ≡ true) (second-letter : eqb k.count 2 ≡ true → known_letter k.second.letter ≡ true) where
      pub read_back : read_job Job' ≡ Ok (job_of k poses cone tol)
      unfolding read_job job_from job_fields job_at job_of plain
      read_back =
          rw (
            records_alike,
            count_there (record_of k) (record_width k) Job' (places_in Job') k counted chain_stands_there,
            sized_good,
            placed_good,
            chain_part_there (record_of k) (record_width k) Job' (places_in Job') k counted chain_stands_there first-letter second-letter,
            chain_there (record_of k) (record_width k) Job' (places_in Job') k counted chain_stands_there fit-chain (rests_nought fit-chain),
            chain_at_0,
            poses_at-C,
            count_is-N,
            number_read cone Job' (Trailer.cone_field (trailer Job')) fit-cone (stands_left (number_bytes cone) _ from_cone),
            number_read tol.chord Job' (Trailer.chord_field (trailer Job')) fit-chord (stands_left (number_bytes tol.chord) _ from_chord),
            number_read tol.axis Job' (Trailer.axis_field (trailer Job')) fit-axis from_axis_tolerance,
          )

      pub poses_back : poses_of Job' (job_of k poses cone tol) ≡ poses
      unfolding poses_of job_of
      poses_back = ap (λ (n : ℕ). numbers_at n Job' C) (sym whole) ∙ numbers_there Job' C poses fit-poses poses_stand
