-- What became of files as they were before there were rest angles: with the word 0 they are read exactly as before, and
-- every rest angle is +0.0 (`word_nought`, `rests_nought`). A word other than 0 and 1 is refused behind everything that
-- is judged of the same places with the word 0 (`other_word`).
use Rattle.std.proofs.Common.{◌≡◌, ℕ, ◌+◌, ◌≤◌, Bool, true, false, cond, eqb, ltb, leb, List, [], ◌∷◌, length, refl, ap, ◌∙◌, arith, le-ltb, ne_eqb}
use Rattle.std.specs.Prelude.{Err, Ok, Result}
use Rattle.float.specs.Helpers.{nought}
use Rattle.refusal.specs.declared.Refusal.{Refusal}
use Rattle.refusal.specs.Numbers as Numbers
use Rattle.refusal.specs.declared.Cause.{Cause}
use Rattle.chain.specs.Checked.{Checked}
use Rattle.chain.specs.Bytes.{byte_at}
use Rattle.chain.specs.Check.{demand, then, first_refusal, one_or_two}
use Rattle.chain.specs.ChainBytes.{second_field, rest_at, rotary_at, no_rotary}
use Rattle.job.specs.JobBytes.{trailer, chain_field, poses_field, word_field, word_length, sized, places_in, chain_end, poses_end, apart, placed, chain_part, second_in, chain_in, job_at, job_unless, job_fields, job_from, read_job}
use Rattle.job.specs.declared.Places.{Places}
use Rattle.job.specs.declared.Job.{Job}
use Rattle.job.proofs.JobWithin.{job_is}

-- ---- the reader as it was: records of 72 bytes, and a word that must be 0
placed_before : List ℕ → Places → ℕ → Checked
placed_before bytes p count =
    first_refusal
    (demand (ltb p.chain (trailer bytes)) Cause.Malformed (chain_field (trailer bytes))
    ∷ demand (one_or_two count) Cause.RotaryCount 0
    ∷ demand (leb (chain_end 72 p count) (trailer bytes)) Cause.Malformed (chain_field (trailer bytes))
    ∷ demand (leb (poses_end p) (trailer bytes)) Cause.Malformed (poses_field (trailer bytes))
    ∷ demand (apart p (chain_end 72 p count) (poses_end p)) Cause.Malformed (poses_field (trailer bytes))
    ∷ demand (eqb p.word 0) Cause.Malformed (word_field (trailer bytes))
    ∷ [])

fields_before : List ℕ → Places → ℕ → Checked
fields_before bytes p count = first_refusal (demand (sized (length bytes)) Cause.Malformed 0 ∷ placed_before bytes p count ∷ chain_part 72 bytes p count ∷ [])

from_before : List ℕ → Places → ℕ → Result Job Refusal
from_before bytes p count = job_unless (fields_before bytes p count) (job_at 72 bytes p (chain_in 72 bytes p count))

pub read_before : List ℕ → Result Job Refusal
read_before bytes = from_before bytes (places_in bytes) (byte_at bytes (places_in bytes).chain)

-- ---- the word 0
short_records : (word : ℕ) → word ≡ 0 → word_length word ≡ 72
unfolding word_length
short_records word e = rw e

judged_alike : (word : ℕ) → word ≡ 0 → ltb word 2 ≡ eqb word 0
judged_alike word e = rw e

from_alike : (bytes : List ℕ) (p : Places) (count : ℕ) → p.word ≡ 0 → job_from 72 bytes p count ≡ from_before bytes p count
unfolding job_from job_fields placed from_before fields_before placed_before
from_alike bytes p count e = rw (judged_alike p.word e)

pub word_nought : (bytes : List ℕ) → (places_in bytes).word ≡ 0 → read_job bytes ≡ read_before bytes
unfolding read_job read_before
word_nought bytes e =
    ap (λ (w : ℕ). job_from w bytes (places_in bytes) (byte_at bytes (places_in bytes).chain)) (short_records (places_in bytes).word e)
    ∙ from_alike bytes (places_in bytes) (byte_at bytes (places_in bytes).chain) e

first_rest : (bytes : List ℕ) (p : Places) (count : ℕ) → (chain_in 72 bytes p count).first.rest ≡ nought
unfolding chain_in rotary_at rest_at
first_rest bytes p count = refl

second_rest : (bytes : List ℕ) (p : Places) (count : ℕ) → (chain_in 72 bytes p count).second.rest ≡ nought
unfolding chain_in second_in
second_rest bytes p count = go (eqb count 2)
  where
    there : (rotary_at 72 bytes (p.chain + second_field 72)).rest ≡ nought
    there = unfold rotary_at rest_at in refl

    absent : no_rotary.rest ≡ nought
    absent = unfold no_rotary in refl

    go : (t : Bool) → (cond t (rotary_at 72 bytes (p.chain + second_field 72)) no_rotary).rest ≡ nought
    go true = there
    go false = absent

pub rests_nought : (bytes : List ℕ) (j : Job) → (places_in bytes).word ≡ 0 → read_job bytes ≡ Ok j → (j.chain.first.rest ≡ nought) × (j.chain.second.rest ≡ nought)
unfolding job_at
rests_nought bytes j e read =
    let p = places_in bytes in
    let count = byte_at bytes (places_in bytes).chain in
    let w = short_records (places_in bytes).word e in (
      ap (λ (x : Job). x.chain.first.rest) (job_is bytes j read) ∙ ap (λ (n : ℕ). (chain_in n bytes p count).first.rest) w ∙ first_rest bytes p count,
      ap (λ (x : Job). x.chain.second.rest) (job_is bytes j read) ∙ ap (λ (n : ℕ). (chain_in n bytes p count).second.rest) w ∙ second_rest bytes p count,
    )

-- ---- another word
abbrev with_word : Places → ℕ → Places
with_word p word = record { chain = p.chain; poses = p.poses; count = p.count; word = word }

last_refused : (a b c d e : Checked) (r : Refusal)
    → then a (then b (then c (then d (then e (Err r))))) ≡ then (then a (then b (then c (then d (then e (Ok tt)))))) (Err r)
last_refused (Err s) b c d e r = refl
last_refused (Ok _) (Err s) c d e r = refl
last_refused (Ok _) (Ok _) (Err s) d e r = refl
last_refused (Ok _) (Ok _) (Ok _) (Err s) e r = refl
last_refused (Ok _) (Ok _) (Ok _) (Ok _) (Err s) r = refl
last_refused (Ok _) (Ok _) (Ok _) (Ok _) (Ok _) r = refl

not_one : (word : ℕ) → 2 ≤ word → word_length word ≡ 72
unfolding word_length
not_one word h = rw (ne_eqb word 1 (λ e. absurd (omega (arith, h, e))))

judged : (bytes : List ℕ) (p : Places) (count : ℕ) → 2 ≤ p.word
    → placed 72 bytes p count ≡ then (placed 72 bytes (with_word p 0) count) (Err (Numbers.refusal Cause.Malformed (word_field (trailer bytes))))
unfolding placed chain_end poses_end apart
judged bytes p count h =
    rw (le-ltb p.word 2 h)
    (last_refused
    (demand (ltb p.chain (trailer bytes)) Cause.Malformed (chain_field (trailer bytes)))
    (demand (one_or_two count) Cause.RotaryCount 0)
    (demand (leb (chain_end 72 p count) (trailer bytes)) Cause.Malformed (chain_field (trailer bytes)))
    (demand (leb (poses_end p) (trailer bytes)) Cause.Malformed (poses_field (trailer bytes)))
    (demand (apart p (chain_end 72 p count) (poses_end p)) Cause.Malformed (poses_field (trailer bytes)))
    (Numbers.refusal Cause.Malformed (word_field (trailer bytes))))

pub other_word : (bytes : List ℕ) (p : Places) (count : ℕ) → 2 ≤ p.word
    → placed (word_length p.word) bytes p count ≡ then (placed 72 bytes (with_word p 0) count) (Err (Numbers.refusal Cause.Malformed (word_field (trailer bytes))))
other_word bytes p count h = ap (λ (w : ℕ). placed w bytes p count) (not_one p.word h) ∙ judged bytes p count h
