-- A job has one chain, whoever reads it: the bytes of a job's chain by themselves, as a caller of the library hands
-- them over, are read as the chain that the program takes from the job, with records of either length. Assumes nothing.
use Rattle.std.proofs.Common.{◌≡◌, ℕ, zero, suc, ◌+◌, ◌*◌, ◌<◌, ◌≤◌, Bool, true, false, cond, eqb, List, length, take, drop, sym, refl, ap, ◌∙◌, arith, length-drop, length-take-le, get_or-drop, get_or-take, le-ltb, eq-eqb, ne_eqb, eqb-true}
use Rattle.std.specs.Prelude.{Ok}
use Rattle.float.specs.Helpers.{nought}
use Rattle.refusal.specs.declared.Cause.{Cause}
use Rattle.chain.specs.Bytes.{byte_at, little_endian, number_at, vector_at, spare}
use Rattle.chain.specs.Check.{demand, one_or_two, known_letter}
use Rattle.chain.specs.ChainBytes.{length_of_chain, zeros, flag, rotary_fields, second_fields, chain_fields, travel_at, rest_at, rotary_at, no_rotary, second_at, chain_at, record_length, read_count, read_counted, read_chain}
use Rattle.chain.proofs.Bytes.{at_least_one}
use Rattle.chain.proofs.Passing.{then_passed, demand_passed}
use Rattle.job.specs.JobBytes.{word_length, sized, places_in, placed, rotary_part, second_part, chain_part, second_in, chain_in, job_at, job_fields, read_job}
use Rattle.job.specs.declared.Places.{Places}
use Rattle.job.specs.declared.Job.{Job}
use Rattle.job.proofs.JobWithin.{word_wide, fields_passed, job_is, parts, chain_start, chain_long}
use Rattle.job.proofs.JobBetween.{more, two}

-- ---- what is read of a part of some bytes, which begins at an offset: `o` is the offset in the bytes of i in the part
module _ (part bytes : List ℕ) (at : ℕ) (same : (i : ℕ) → i < length part → byte_at part i ≡ byte_at bytes (at + i)) where
  part_byte : (i o : ℕ) → o ≡ at + i → i < length part → byte_at part i ≡ byte_at bytes o
  part_byte i o e h = rw e (same i h)

  part_whole : (n i o : ℕ) → o ≡ at + i → i + n ≤ length part → little_endian n part i ≡ little_endian n bytes o
  unfolding little_endian
  part_whole zero i o e h = refl
  part_whole (suc n) i o e h = rw (part_whole n i o e (omega arith), part_byte (i + n) (o + n) (omega arith) (omega arith))

  part_number : (i o : ℕ) → o ≡ at + i → i + 8 ≤ length part → number_at part i ≡ number_at bytes o
  unfolding number_at
  part_number i o e h = rw (part_whole 8 i o e h)

  part_vector : (i o : ℕ) → o ≡ at + i → i + 24 ≤ length part → vector_at part i ≡ vector_at bytes o
  unfolding vector_at
  part_vector i o e h =
      rw (
        part_number i o e (omega arith),
        part_number (i + 8) (o + 8) (omega arith) (omega arith),
        part_number (i + 16) (o + 16) (omega arith) (omega arith),
      )

  part_zeros : (n i o : ℕ) → o ≡ at + i → i + n ≤ length part → zeros bytes o n ≡ Ok tt → zeros part i n ≡ Ok tt
  unfolding zeros
  part_zeros zero i o e h z = refl
  part_zeros (suc n) i o e h z =
      let p = then_passed (demand (eqb (byte_at bytes o) 0) Cause.Malformed o) _ z in
      rw (
        part_byte i o e (omega arith),
        demand_passed (eqb (byte_at bytes o) 0) Cause.Malformed o p.0,
        part_zeros n (i + 1) (o + 1) (omega arith) (omega arith) p.1,
      )

  part_flag : (i o : ℕ) → o ≡ at + i → i < length part → flag part i ≡ flag bytes o
  unfolding flag
  part_flag i o e h = rw (part_byte i o e h)

  part_spare : (switch i s o : ℕ) → s ≡ at + switch → o ≡ at + i → switch < length part → i + 8 ≤ length part → spare part switch i ≡ spare bytes s o
  unfolding spare
  part_spare switch i s o d e g h = rw (part_byte switch s d g, part_whole 8 i o e h)

  part_fields : (i o : ℕ) → o ≡ at + i → i + 72 ≤ length part → rotary_fields bytes o ≡ Ok tt → rotary_fields part i ≡ Ok tt
  unfolding rotary_fields
  part_fields i o e h z =
      let a = then_passed (demand (flag bytes (o + 1)) Cause.Malformed (o + 1)) _ z in
      let b = then_passed (demand (flag bytes (o + 2)) Cause.Malformed (o + 2)) _ a.1 in
      let c = then_passed (zeros bytes (o + 3) 5) _ b.1 in
      let d = then_passed (demand (spare bytes (o + 2) (o + 56)) Cause.Malformed (o + 56)) _ c.1 in
      rw (
        part_flag (i + 1) (o + 1) (omega arith) (omega arith),
        demand_passed (flag bytes (o + 1)) Cause.Malformed (o + 1) a.0,
        part_flag (i + 2) (o + 2) (omega arith) (omega arith),
        demand_passed (flag bytes (o + 2)) Cause.Malformed (o + 2) b.0,
        part_zeros 5 (i + 3) (o + 3) (omega arith) (omega arith) c.0,
        part_spare (i + 2) (i + 56) (o + 2) (o + 56) (omega arith) (omega arith) (omega arith) (omega arith),
        demand_passed (spare bytes (o + 2) (o + 56)) Cause.Malformed (o + 56) d.0,
        part_spare (i + 2) (i + 64) (o + 2) (o + 64) (omega arith) (omega arith) (omega arith) (omega arith),
        demand_passed (spare bytes (o + 2) (o + 64)) Cause.Malformed (o + 64) d.1,
      )

  part_travel : (i o : ℕ) → o ≡ at + i → i + 72 ≤ length part → travel_at part i ≡ travel_at bytes o
  unfolding travel_at
  part_travel i o e h =
      rw (
        part_byte (i + 2) (o + 2) (omega arith) (omega arith),
        part_number (i + 56) (o + 56) (omega arith) (omega arith),
        part_number (i + 64) (o + 64) (omega arith) (omega arith),
      )

  part_rest : (w i o : ℕ) → o ≡ at + i → i + w ≤ length part → rest_at w part i ≡ rest_at w bytes o
  unfolding rest_at
  part_rest w i o e h = by_length (eqb w 80) refl
    where
      by_length : (t : Bool) → eqb w 80 ≡ t → cond (eqb w 80) (number_at part (i + 72)) nought ≡ cond (eqb w 80) (number_at bytes (o + 72)) nought
      by_length true f = let g = eqb-true w 80 f in rw (part_number (i + 72) (o + 72) (omega arith) (omega (arith, g)))
      by_length false f = rw f

  part_rotary : (w i o : ℕ) → 72 ≤ w → o ≡ at + i → i + w ≤ length part → rotary_at w part i ≡ rotary_at w bytes o
  unfolding rotary_at
  part_rotary w i o wide e h =
      rw (
        part_byte i o e (omega arith),
        part_byte (i + 1) (o + 1) (omega arith) (omega arith),
        part_travel i o e (omega arith),
        part_vector (i + 8) (o + 8) (omega arith) (omega arith),
        part_vector (i + 32) (o + 32) (omega arith) (omega arith),
        part_rest w i o e h,
      )

-- ---- a rotary that a job's reader lets by, without its letter, which the library's chain check tests
lettered : (bytes : List ℕ) (at i : ℕ) → rotary_part bytes at i ≡ Ok tt → rotary_fields bytes at ≡ Ok tt
unfolding rotary_part
lettered bytes at i h = (then_passed (demand (known_letter (byte_at bytes at)) Cause.RotaryLetter i) _ h).1

-- ---- the chain: as many bytes as its count asks for, which are those of the job from the chain's offset on
module _ (w : ℕ) (wide : 72 ≤ w) (bytes part : List ℕ) (p : Places) (count : ℕ) (counted : one_or_two count ≡ true)
    (first : count ≡ byte_at bytes p.chain) (long : length part ≡ length_of_chain w count) (known : record_length (length part) count ≡ w)
    (same : (i : ℕ) → i < length part → byte_at part i ≡ byte_at bytes (p.chain + i))
    (passed : chain_part w bytes p count ≡ Ok tt) where
  room : 32 + w ≤ length part
  room = let h = more w count (at_least_one count counted) in omega (arith, h, long)

  room_of_two : count ≡ 2 → 32 + (w + w) ≤ length part
  room_of_two e = let h = two w count e in omega (arith, h, long)

  second_read : second_part w bytes p count ≡ Ok tt → second_fields w part count ≡ Ok tt
  unfolding second_part second_fields
  second_read = by_count (eqb count 2) refl
    where
      by_count : (t : Bool) → eqb count 2 ≡ t → cond (eqb count 2) (rotary_part bytes (p.chain + (8 + w)) 1) (Ok tt) ≡ Ok tt
          → cond (eqb count 2) (rotary_fields part (8 + w)) (Ok tt) ≡ Ok tt
      by_count true e h =
          let r = room_of_two (eqb-true count 2 e) in
          rw e (part_fields part bytes p.chain same (8 + w) (p.chain + (8 + w)) refl (omega (arith, r, wide)) (lettered bytes (p.chain + (8 + w)) 1 (rw e at h)))
      by_count false e h = rw e

  fields_good : chain_fields w part count ≡ Ok tt
  unfolding chain_fields chain_part
  fields_good =
      let a = then_passed (zeros bytes (p.chain + 1) 7) _ passed in
      let b = then_passed (rotary_part bytes (p.chain + 8) 0) _ a.1 in
      let r = room in
      rw (
        part_zeros part bytes p.chain same 7 1 (p.chain + 1) refl (omega (arith, r, wide)) a.0,
        part_fields part bytes p.chain same 8 (p.chain + 8) refl (omega (arith, r, wide)) (lettered bytes (p.chain + 8) 0 b.0),
        second_read b.1,
      )

  second_is : second_at w part count ≡ second_in w bytes p count
  unfolding second_at second_in
  second_is = by_count (eqb count 2) refl
    where
      by_count : (t : Bool) → eqb count 2 ≡ t → cond (eqb count 2) (rotary_at w part (8 + w)) no_rotary ≡ cond (eqb count 2) (rotary_at w bytes (p.chain + (8 + w))) no_rotary
      by_count true e =
          let r = room_of_two (eqb-true count 2 e) in
          rw (part_rotary part bytes p.chain same w (8 + w) (p.chain + (8 + w)) wide refl (omega (arith, r)))
      by_count false e = rw e

  chain_is : chain_at w part count ≡ chain_in w bytes p count
  unfolding chain_at chain_in
  chain_is =
      let r = room in
      rw (
        part_rotary part bytes p.chain same w 8 (p.chain + 8) wide refl (omega (arith, r)),
        second_is,
        part_vector part bytes p.chain same (8 + w * count) (p.chain + (8 + w * count)) refl (omega (arith, long)),
      )

  read_alone : read_chain part ≡ Ok (chain_in w bytes p count)
  unfolding read_chain read_counted read_count
  read_alone =
      let r = room in
      let byte : byte_at part 0 ≡ count = part_byte part bytes p.chain same 0 p.chain (omega arith) (omega (arith, r)) ∙ sym first in
      rw (le-ltb (length part) 1 (omega (arith, r)), byte, known, counted, eq-eqb (length part) (length_of_chain w count) long, fields_good, chain_is)

-- ---- a length that the word's records have says how long they are
abbrev records : Bool → ℕ
records t = cond t 80 72

record_known : (word count : ℕ) → 1 ≤ count → record_length (length_of_chain (word_length word) count) count ≡ word_length word
unfolding record_length word_length
record_known word count some = go (eqb word 1)
  where
    go : (t : Bool) → records (eqb (32 + records t * count) (32 + 80 * count)) ≡ records t
    go true = rw (eq-eqb (32 + 80 * count) (32 + 80 * count) refl)
    go false = rw (ne_eqb (32 + 72 * count) (32 + 80 * count) (λ e. absurd (omega (arith, some, e))))

-- ---- a job that was read
-- the bytes of its chain, by themselves
abbrev pub chain_bytes : List ℕ → Job → List ℕ
chain_bytes bytes j = take j.chain_length (drop j.chain_at bytes)

module _ (bytes : List ℕ) (j : Job) (read : read_job bytes ≡ Ok j) where
  abbrev places : Places
  places = places_in bytes

  abbrev w : ℕ
  w = word_length (places_in bytes).word

  abbrev count_read : ℕ
  count_read = byte_at bytes (places_in bytes).chain

  abbrev alone : List ℕ
  alone = take (length_of_chain w count_read) (drop places.chain bytes)

  alone_long : length alone ≡ length_of_chain w count_read
  alone_long =
      let h = (parts bytes j read).chain_fits in
      let e = length-drop places.chain bytes in
      length-take-le (length_of_chain w count_read) (drop places.chain bytes) (omega (arith, h, e))

  alone_known : record_length (length alone) count_read ≡ w
  alone_known =
      ap (λ (n : ℕ). record_length n count_read) alone_long
      ∙ record_known (places_in bytes).word count_read (at_least_one count_read (parts bytes j read).counted)

  alone_same : (i : ℕ) → i < length alone → byte_at alone i ≡ byte_at bytes (places.chain + i)
  alone_same i h =
      let l = alone_long in
      get_or-take (length_of_chain w count_read) (drop places.chain bytes) i 0 (omega (arith, h, l)) ∙ get_or-drop places.chain bytes i 0

  alone_passed : chain_part w bytes places count_read ≡ Ok tt
  unfolding job_fields
  alone_passed =
      let a = then_passed (demand (sized (length bytes)) Cause.Malformed 0) _ (fields_passed bytes j read) in
      (then_passed (placed w bytes places count_read) _ a.1).1

  job_chain : j.chain ≡ chain_in w bytes places count_read
  unfolding job_at
  job_chain = rw (job_is bytes j read)

  pub one_chain : read_chain (chain_bytes bytes j) ≡ Ok j.chain
  one_chain =
      rw (chain_start bytes j read, chain_long bytes j read, job_chain)
      (read_alone w (word_wide (places_in bytes).word) bytes alone places count_read (parts bytes j read).counted refl alone_long alone_known alone_same alone_passed)
