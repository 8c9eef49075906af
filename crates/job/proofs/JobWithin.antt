-- What a job that was read says of its bytes: chain and poses lie before the trailer, and apart.
use Rattle.std.proofs.Common.{◌≡◌, ℕ, zero, suc, ◌+◌, ◌-◌, ◌*◌, ◌<◌, ◌≤◌, Bool, true, false, cond, not, ◌||◌, eqb, ltb, leb, ◌⊎◌, List, length, take, get_or, slice_range, w32, refl, inl, inr, arith, lit≤, ltb-false, ltb-true, eqb-true, leb-true}
use mathlib.Core.Bool.{and-eq-true_iff, false≢true}
use borrow.Author.Tests.{not-true}
use Rattle.std.specs.Prelude.{Err, Ok}
use Rattle.std.specs.Int.{from_le_bytes}
use Rattle.refusal.specs.declared.Cause.{Cause}
use Rattle.chain.specs.Checked.{Checked}
use Rattle.chain.specs.Bytes.{byte_at, little_endian}
use Rattle.chain.specs.Check.{demand, one_or_two}
use Rattle.chain.specs.ChainBytes.{length_of_chain}
use Rattle.chain.proofs.Bytes.{at_least_one, chunk_byte}
use Rattle.chain.proofs.Passing.{then_passed, demand_passed}
use Rattle.job.specs.JobBytes.{trailer, word_length, sized, places_in, chain_end, poses_end, apart, placed, chain_in, job_at, job_unless, job_fields, job_from, read_job}
use Rattle.job.specs.declared.Places.{Places}
use Rattle.job.specs.declared.Job.{Job}

-- the four bytes from `at` on, as a word
pub chunk_four : (l ys : List ℕ) (at : ℕ) → ys ≡ take 4 (slice_range l at (at + 4)) → from_le_bytes w32 ys ≡ little_endian 4 l at
unfolding little_endian
chunk_four l ys at e =
    let b : (i : ℕ) → i < 4 → get_or ys i 0 ≡ get_or l (at + i) 0 = λ i lt. rw e (chunk_byte l at 4 i lt) in
    omega (arith, b 0 (omega arith), b 1 (omega arith), b 2 (omega arith), b 3 (omega arith))

-- ---- the length
pub sized_least : (n : ℕ) → sized n ≡ true → 40 ≤ n
unfolding sized
sized_least n e = ltb-false n 40 (not-true _ ((and-eq-true_iff (not (ltb n 40)) (leb n 65536)).0 e).0)

pub sized_most : (n : ℕ) → sized n ≡ true → n ≤ 65536
unfolding sized
sized_most n e = leb-true n 65536 ((and-eq-true_iff (not (ltb n 40)) (leb n 65536)).0 e).1

-- ---- a rotary's record: 72 or 80 bytes
either_length : (b : Bool) → (72 ≤ cond b 80 72) × (cond b 80 72 ≤ 80)
either_length true = (lit≤ tt, lit≤ tt)
either_length false = (lit≤ tt, lit≤ tt)

pub word_wide : (word : ℕ) → 72 ≤ word_length word
unfolding word_length
word_wide word = (either_length (eqb word 1)).0

-- ---- the parts
pub record Placed (w : ℕ) (bytes : List ℕ) (p : Places) (count : ℕ) : Type 0 where
  pub inside : p.chain < trailer bytes
  pub counted : one_or_two count ≡ true
  pub chain_fits : p.chain + length_of_chain w count ≤ trailer bytes
  pub poses_within : p.poses + 48 * p.count ≤ trailer bytes
  pub apart_from : apart p (p.chain + length_of_chain w count) (p.poses + 48 * p.count) ≡ true
  pub known_word : p.word < 2

pub placed_passed : (w : ℕ) (bytes : List ℕ) (p : Places) (count : ℕ) → placed w bytes p count ≡ Ok tt → Placed w bytes p count
unfolding placed chain_end poses_end
placed_passed w bytes p count e =
    let t = trailer bytes in
    let a = then_passed (demand (ltb p.chain t) Cause.Malformed t) _ e in
    let b = then_passed (demand (one_or_two count) Cause.RotaryCount 0) _ a.1 in
    let c = then_passed (demand (leb (p.chain + length_of_chain w count) t) Cause.Malformed t) _ b.1 in
    let d = then_passed (demand (leb (p.poses + 48 * p.count) t) Cause.Malformed (t + 4)) _ c.1 in
    let f = then_passed (demand (apart p (p.chain + length_of_chain w count) (p.poses + 48 * p.count)) Cause.Malformed (t + 4)) _ d.1 in
    record {
      inside = ltb-true _ _ (demand_passed _ _ _ a.0);
      counted = demand_passed _ _ _ b.0;
      chain_fits = leb-true _ _ (demand_passed _ _ _ c.0);
      poses_within = leb-true _ _ (demand_passed _ _ _ d.0);
      apart_from = demand_passed _ _ _ f.0;
      known_word = ltb-true _ _ (demand_passed _ _ _ f.1);
    }

-- what the chain's reader needs
pub chain_room : (w : ℕ) (bytes : List ℕ) (p : Places) (count : ℕ) → placed w bytes p count ≡ Ok tt → (1 ≤ count) × (p.chain + (32 + w * count) ≤ length bytes)
chain_room w bytes p count e =
    let q = placed_passed w bytes p count e in
    let h = q.chain_fits in
    (at_least_one count q.counted, omega (arith, h))

-- ---- a job that was read
given : (c : Checked) (j k : Job) → job_unless c k ≡ Ok j → (c ≡ Ok tt) × (j ≡ k)
given (Ok _) j k e = (refl, cc)
given (Err r) j k e = (cc, cc)

apart_parts : (p : Places) (chain poses : ℕ) → apart p chain poses ≡ true → (p.count ≡ 0) ⊎ ((poses ≤ p.chain) ⊎ (chain ≤ p.poses))
unfolding apart
apart_parts p chain poses e = by_cases (eqb p.count 0) (leb poses p.chain) (leb chain p.poses) refl refl refl e
  where
    by_cases : (x y z : Bool) → eqb p.count 0 ≡ x → leb poses p.chain ≡ y → leb chain p.poses ≡ z → (x || y || z) ≡ true
        → (p.count ≡ 0) ⊎ ((poses ≤ p.chain) ⊎ (chain ≤ p.poses))
    by_cases true y z a b c e = inl (eqb-true _ _ a)
    by_cases false true z a b c e = inr (inl (leb-true _ _ b))
    by_cases false false true a b c e = inr (inr (leb-true _ _ c))
    by_cases false false false a b c e = absurd (false≢true e)

-- chain and poses lie before the trailer, which lies in the bytes; with poses they do not overlap
pub record Within (bytes : List ℕ) (j : Job) : Type 0 where
  pub least : 40 ≤ length bytes
  pub most : length bytes ≤ 65536
  pub chain_least : 104 ≤ j.chain_length
  pub chain_inside : j.chain_at + j.chain_length ≤ length bytes - 40
  pub poses_inside : j.poses_at + 48 * j.poses ≤ length bytes - 40
  pub apart_from : (j.poses ≡ 0) ⊎ ((j.poses_at + 48 * j.poses ≤ j.chain_at) ⊎ (j.chain_at + j.chain_length ≤ j.poses_at))

wide_enough : (w count : ℕ) → 72 ≤ w → 1 ≤ count → 104 ≤ 32 + w * count
wide_enough w zero h l = elim l [ ]
wide_enough w (suc n) h l =
    let e : w * suc n ≡ w * n + w = omega arith in
    omega (arith, h, e)

module _ (bytes : List ℕ) (j : Job) (read : read_job bytes ≡ Ok j) where
  -- how long a rotary's record is, and how many there are
  abbrev pub w : ℕ
  w = word_length (places_in bytes).word

  abbrev pub count_read : ℕ
  count_read = byte_at bytes (places_in bytes).chain

  pub fields_passed : job_fields w bytes (places_in bytes) count_read ≡ Ok tt
  unfolding read_job job_from
  fields_passed = (given (job_fields w bytes (places_in bytes) count_read) j _ read).0

  pub job_is : j ≡ job_at w bytes (places_in bytes) (chain_in w bytes (places_in bytes) count_read)
  unfolding read_job job_from
  job_is = (given (job_fields w bytes (places_in bytes) count_read) j _ read).1

  length_sized : sized (length bytes) ≡ true
  unfolding job_fields
  length_sized = demand_passed _ _ _ (then_passed (demand (sized (length bytes)) Cause.Malformed 0) _ fields_passed).0

  pub parts : Placed w bytes (places_in bytes) count_read
  unfolding job_fields
  parts =
      let a = then_passed (demand (sized (length bytes)) Cause.Malformed 0) _ fields_passed in
      placed_passed w bytes (places_in bytes) count_read (then_passed (placed w bytes (places_in bytes) count_read) _ a.1).0

  pub chain_start : j.chain_at ≡ (places_in bytes).chain
  unfolding job_at
  chain_start = rw job_is

  pub chain_long : j.chain_length ≡ length_of_chain w count_read
  unfolding job_at chain_in
  chain_long = rw job_is

  pub poses_at : j.poses_at ≡ (places_in bytes).poses
  unfolding job_at
  poses_at = rw job_is

  pub pose_count : j.poses ≡ (places_in bytes).count
  unfolding job_at
  pose_count = rw job_is

  pub rotaries : j.chain.count ≡ count_read
  unfolding job_at chain_in
  rotaries = rw job_is

  pub within : Within bytes j
  within = record {
    least = sized_least (length bytes) length_sized;
    most = sized_most (length bytes) length_sized;
    chain_least = rw chain_long (wide_enough w count_read (word_wide (places_in bytes).word) (at_least_one count_read parts.counted));
    chain_inside = rw (chain_start, chain_long) parts.chain_fits;
    poses_inside = rw (poses_at, pose_count) parts.poses_within;
    apart_from = rw (chain_start, chain_long, poses_at, pose_count) (apart_parts _ _ _ parts.apart_from);
  }
