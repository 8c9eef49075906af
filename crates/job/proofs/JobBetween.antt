-- Bytes between the parts do not matter: two files of one length that agree on the trailer and on the chain, by its count
-- and the trailer's word, are read alike, refused ones too; and where they agree on the poses, they have the same poses.
use Rattle.std.proofs.Common.{◌≡◌, ℕ, zero, suc, ◌+◌, ◌-◌, ◌*◌, ◌<◌, ◌≤◌, Bool, true, false, cond, eqb, List, length, sym, refl, ◌∙◌, arith, le-ltb, lt-ltb, eqb-true}
use borrow.Author.Tests.{lt-leb}
use Rattle.std.specs.Prelude.{Err, Ok}
use Rattle.float.specs.Helpers.{nought}
use Rattle.refusal.specs.declared.Refusal.{Refusal}
use Rattle.refusal.specs.Numbers as Numbers
use Rattle.refusal.specs.declared.Cause.{Cause}
use Rattle.chain.specs.Checked.{Checked}
use Rattle.chain.specs.declared.Kinematics.{Kinematics}
use Rattle.chain.specs.Bytes.{byte_at, little_endian, number_at, vector_at, spare}
use Rattle.chain.specs.Check.{demand, then}
use Rattle.chain.specs.ChainBytes.{length_of_chain, zeros, flag, rotary_fields, travel_at, rest_at, rotary_at, no_rotary}
use Rattle.chain.proofs.Bytes.{at_least_one}
use Rattle.job.specs.JobBytes.{word_length, sized, places_in, placed, rotary_part, second_part, chain_part, second_in, chain_in, job_at, job_unless, job_fields, job_from, read_job}
use Rattle.job.specs.JobPoses.{numbers_at, poses_of}
use Rattle.job.specs.declared.Places.{Places}
use Rattle.job.specs.declared.Job.{Job}
use Rattle.job.proofs.JobWithin.{word_wide, placed_passed, within, chain_start, chain_long}

-- the bytes from an offset on and before another are the same
pub Agree : List ℕ → List ℕ → ℕ → ℕ → Type 0
Agree a b from to = (i : ℕ) → from ≤ i → i < to → byte_at a i ≡ byte_at b i

-- ---- what is read of such bytes
module _ (a b : List ℕ) (from to : ℕ) (agree : Agree a b from to) where
  same_byte : (i : ℕ) → from ≤ i → i < to → byte_at a i ≡ byte_at b i
  unfolding Agree
  same_byte i p q = agree i p q

  same_whole : (n at : ℕ) → from ≤ at → at + n ≤ to → little_endian n a at ≡ little_endian n b at
  unfolding little_endian
  same_whole zero at p q = refl
  same_whole (suc n) at p q = rw (same_whole n at p (omega arith), same_byte (at + n) (omega arith) (omega arith))

  same_number : (at : ℕ) → from ≤ at → at + 8 ≤ to → number_at a at ≡ number_at b at
  unfolding number_at
  same_number at p q = rw (same_whole 8 at p q)

  same_vector : (at : ℕ) → from ≤ at → at + 24 ≤ to → vector_at a at ≡ vector_at b at
  unfolding vector_at
  same_vector at p q = rw (same_number at p (omega arith), same_number (at + 8) (omega arith) (omega arith), same_number (at + 16) (omega arith) (omega arith))

  same_zeros : (n at : ℕ) → from ≤ at → at + n ≤ to → zeros a at n ≡ zeros b at n
  unfolding zeros
  same_zeros zero at p q = refl
  same_zeros (suc n) at p q = rw (same_byte at p (omega arith), same_zeros n (at + 1) (omega arith) (omega arith))

  same_flag : (at : ℕ) → from ≤ at → at < to → flag a at ≡ flag b at
  unfolding flag
  same_flag at p q = rw (same_byte at p q)

  same_spare : (switch at : ℕ) → from ≤ switch → switch < to → from ≤ at → at + 8 ≤ to → spare a switch at ≡ spare b switch at
  unfolding spare
  same_spare switch at p q r s = rw (same_byte switch p q, same_whole 8 at r s)

  same_fields : (at : ℕ) → from ≤ at → at + 72 ≤ to → rotary_fields a at ≡ rotary_fields b at
  unfolding rotary_fields
  same_fields at p q =
      rw (
        same_flag (at + 1) (omega arith) (omega arith),
        same_flag (at + 2) (omega arith) (omega arith),
        same_zeros 5 (at + 3) (omega arith) (omega arith),
        same_spare (at + 2) (at + 56) (omega arith) (omega arith) (omega arith) (omega arith),
        same_spare (at + 2) (at + 64) (omega arith) (omega arith) (omega arith) (omega arith),
      )

  same_part : (at i : ℕ) → from ≤ at → at + 72 ≤ to → rotary_part a at i ≡ rotary_part b at i
  unfolding rotary_part
  same_part at i p q = rw (same_byte at p (omega arith), same_fields at p q)

  same_travel : (at : ℕ) → from ≤ at → at + 72 ≤ to → travel_at a at ≡ travel_at b at
  unfolding travel_at
  same_travel at p q = rw (same_byte (at + 2) (omega arith) (omega arith), same_number (at + 56) (omega arith) (omega arith), same_number (at + 64) (omega arith) (omega arith))

  same_rest : (w at : ℕ) → from ≤ at → at + w ≤ to → rest_at w a at ≡ rest_at w b at
  unfolding rest_at
  same_rest w at p q = by_length (eqb w 80) refl
    where
      by_length : (t : Bool) → eqb w 80 ≡ t → cond (eqb w 80) (number_at a (at + 72)) nought ≡ cond (eqb w 80) (number_at b (at + 72)) nought
      by_length true e = let h = eqb-true w 80 e in rw (same_number (at + 72) (omega arith) (omega (arith, h)))
      by_length false e = rw e

  same_rotary : (w at : ℕ) → 72 ≤ w → from ≤ at → at + w ≤ to → rotary_at w a at ≡ rotary_at w b at
  unfolding rotary_at
  same_rotary w at wide p q =
      rw (
        same_byte at p (omega arith),
        same_byte (at + 1) (omega arith) (omega arith),
        same_travel at p (omega arith),
        same_vector (at + 8) (omega arith) (omega arith),
        same_vector (at + 32) (omega arith) (omega arith),
        same_rest w at p q,
      )

  same_numbers : (n at : ℕ) → from ≤ at → at + 8 * n ≤ to → numbers_at n a at ≡ numbers_at n b at
  unfolding numbers_at
  same_numbers zero at p q = refl
  same_numbers (suc n) at p q = rw (same_number at p (omega arith), same_numbers n (at + 8) (omega arith) (omega arith))

-- ---- a chain in such bytes: its records have at least 72 bytes
pub more : (w count : ℕ) → 1 ≤ count → w ≤ w * count
more w zero h = elim h [ ]
more w (suc n) h = omega arith

pub two : (w count : ℕ) → count ≡ 2 → w * count ≡ w + w
two w count e = rw e (omega arith)

module _ (w : ℕ) (wide : 72 ≤ w) (a b : List ℕ) (p : Places) (count : ℕ) (some : 1 ≤ count) (agree : Agree a b p.chain (p.chain + length_of_chain w count)) where
  room : p.chain + 32 + w ≤ p.chain + length_of_chain w count
  room = let h = more w count some in omega (arith, h)

  room_of_two : count ≡ 2 → p.chain + 32 + (w + w) ≤ p.chain + length_of_chain w count
  room_of_two e = let h = two w count e in omega (arith, h)

  same_second_part : second_part w a p count ≡ second_part w b p count
  unfolding second_part
  same_second_part = by_count (eqb count 2) refl
    where
      by_count : (t : Bool) → eqb count 2 ≡ t → cond (eqb count 2) (rotary_part a (p.chain + (8 + w)) 1) (Ok tt) ≡ cond (eqb count 2) (rotary_part b (p.chain + (8 + w)) 1) (Ok tt)
      by_count true e =
          let h = room_of_two (eqb-true count 2 e) in
          rw (same_part a b p.chain (p.chain + length_of_chain w count) agree (p.chain + (8 + w)) 1 (omega arith) (omega (arith, h, wide)))
      by_count false e = rw e

  pub same_chain_part : chain_part w a p count ≡ chain_part w b p count
  unfolding chain_part
  same_chain_part =
      let h = room in
      rw (
        same_zeros a b p.chain (p.chain + length_of_chain w count) agree 7 (p.chain + 1) (omega arith) (omega (arith, h, wide)),
        same_part a b p.chain (p.chain + length_of_chain w count) agree (p.chain + 8) 0 (omega arith) (omega (arith, h, wide)),
        same_second_part,
      )

  same_second_in : second_in w a p count ≡ second_in w b p count
  unfolding second_in
  same_second_in = by_count (eqb count 2) refl
    where
      by_count : (t : Bool) → eqb count 2 ≡ t → cond (eqb count 2) (rotary_at w a (p.chain + (8 + w))) no_rotary ≡ cond (eqb count 2) (rotary_at w b (p.chain + (8 + w))) no_rotary
      by_count true e =
          let h = room_of_two (eqb-true count 2 e) in
          rw (same_rotary a b p.chain (p.chain + length_of_chain w count) agree w (p.chain + (8 + w)) wide (omega arith) (omega (arith, h)))
      by_count false e = rw e

  pub same_chain_in : chain_in w a p count ≡ chain_in w b p count
  unfolding chain_in
  same_chain_in =
      let h = room in
      rw (
        same_rotary a b p.chain (p.chain + length_of_chain w count) agree w (p.chain + 8) wide (omega arith) (omega (arith, h)),
        same_second_in,
        same_vector a b p.chain (p.chain + length_of_chain w count) agree (p.chain + (8 + w * count)) (omega arith) (omega arith),
      )

-- ---- the trailer
module _ (a b : List ℕ) (least : 40 ≤ length a) (long : length b ≡ length a) (agree : Agree a b (length a - 40) (length a)) where
  same_places : places_in b ≡ places_in a
  unfolding places_in
  same_places =
      let t = length a - 40 in
      let h : t + 40 ≡ length a = omega (arith, least) in
      rw (
        long,
        same_whole a b t (length a) agree 4 t (omega arith) (omega (arith, h)),
        same_whole a b t (length a) agree 4 (t + 4) (omega arith) (omega (arith, h)),
        same_whole a b t (length a) agree 4 (t + 8) (omega arith) (omega (arith, h)),
        same_whole a b t (length a) agree 4 (t + 12) (omega arith) (omega (arith, h)),
      )

  same_job : (w : ℕ) (p : Places) (k : Kinematics) → job_at w b p k ≡ job_at w a p k
  unfolding job_at
  same_job w p k =
      let t = length a - 40 in
      let h : t + 40 ≡ length a = omega (arith, least) in
      rw (
        long,
        same_number a b t (length a) agree (t + 16) (omega arith) (omega (arith, h)),
        same_number a b t (length a) agree (t + 24) (omega arith) (omega (arith, h)),
        same_number a b t (length a) agree (t + 32) (omega arith) (omega (arith, h)),
      )

-- ---- the file
by_length : (w : ℕ) (a b : List ℕ) (p : Places) (count : ℕ) → length b ≡ length a → placed w b p count ≡ placed w a p count
unfolding placed
by_length w a b p count e = rw e

module _ (w : ℕ) (wide : 72 ≤ w) (a b : List ℕ) (least : 40 ≤ length a) (long : length b ≡ length a) (trailers : Agree a b (length a - 40) (length a)) where
  jobs_alike : (p : Places) (count : ℕ) → 1 ≤ count → Agree a b p.chain (p.chain + length_of_chain w count) → job_from w b p count ≡ job_from w a p count
  unfolding job_from job_fields
  jobs_alike p count some chains =
      rw (
        long,
        by_length w a b p count long,
        ← same_chain_part w wide a b p count some chains,
        ← same_chain_in w wide a b p count some chains,
        same_job a b least long trailers w p (chain_in w a p count),
      )

  -- what the trailer says is refused before the chain is read
  refused_alike : (p : Places) (count : ℕ) (r : Refusal) → placed w a p count ≡ Err r → job_from w b p count ≡ job_from w a p count
  unfolding job_from job_fields
  refused_alike p count r e = rw (long, by_length w a b p count long, e) (either_way (sized (length a)))
    where
      either_way : (t : Bool)
          → job_unless (then (demand t Cause.Malformed 0) (Err r)) (job_at w b p (chain_in w b p count))
          ≡ job_unless (then (demand t Cause.Malformed 0) (Err r)) (job_at w a p (chain_in w a p count))
      either_way true = refl
      either_way false = refl

  either_alike : (p : Places) (count : ℕ) (c : Checked) → placed w a p count ≡ c → Agree a b p.chain (p.chain + length_of_chain w count) → job_from w b p count ≡ job_from w a p count
  either_alike p count (Ok _) e chains = jobs_alike p count (at_least_one count (placed_passed w a p count e).counted) chains
  either_alike p count (Err r) e chains = refused_alike p count r e

module _ (a b : List ℕ) (least : 40 ≤ length a) (long : length b ≡ length a) (trailers : Agree a b (length a - 40) (length a)) where
  abbrev w : ℕ
  w = word_length (places_in a).word

  pub files_alike : Agree a b (places_in a).chain ((places_in a).chain + length_of_chain w (byte_at a (places_in a).chain)) → read_job b ≡ read_job a
  unfolding read_job
  files_alike chains =
      let p = places_in a in
      let count : byte_at b p.chain ≡ byte_at a p.chain = sym (same_byte a b p.chain (p.chain + length_of_chain w (byte_at a p.chain)) chains p.chain (omega arith) (omega arith)) in
      rw (same_places a b least long trailers, count)
      (either_alike w (word_wide p.word) a b least long trailers p (byte_at a p.chain) (placed w a p (byte_at a p.chain)) refl chains)

-- the same by a job that was read
module _ (a b : List ℕ) (j : Job) (read : read_job a ≡ Ok j) (long : length b ≡ length a)
    (trailers : Agree a b (length a - 40) (length a)) (chains : Agree a b j.chain_at (j.chain_at + j.chain_length)) where
  pub read_alike : read_job b ≡ Ok j
  read_alike = files_alike a b (within a j read).least long trailers (rw (chain_start a j read, chain_long a j read) at chains) ∙ read

pub poses_alike : (a b : List ℕ) (j : Job) → Agree a b j.poses_at (j.poses_at + 48 * j.poses) → poses_of b j ≡ poses_of a j
unfolding poses_of
poses_alike a b j agree = sym (same_numbers a b j.poses_at (j.poses_at + 48 * j.poses) agree (6 * j.poses) j.poses_at (omega arith) (omega arith))

-- ---- 29 at offset 0: every length under 40, and every length over 65,536
pub too_short : (bytes : List ℕ) → length bytes < 40 → read_job bytes ≡ Err (Numbers.refusal Cause.Malformed 0)
unfolding read_job job_from job_fields sized
too_short bytes h = rw (lt-ltb (length bytes) 40 h)

pub too_long : (bytes : List ℕ) → 65536 < length bytes → read_job bytes ≡ Err (Numbers.refusal Cause.Malformed 0)
unfolding read_job job_from job_fields sized
too_long bytes h =
    let s : 40 ≤ length bytes = omega (arith, h) in
    rw (le-ltb (length bytes) 40 s, lt-leb (length bytes) 65536 h)
