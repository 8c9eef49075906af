-- Worked examples that the checker computes: what the program writes where the bytes are no job.
use Rattle.std.specs.Prelude.{ℕ, ◌≡◌, refl, List, [], ◌∷◌, ◌++◌, replicate}
use Rattle.chain.specs.Bytes.{little_endian}
use Rattle.chain.specs.Check.{one_or_two}
use Rattle.job.specs.JobBytes.{sized, places_in, chain_end, placed, job_fields, job_from, read_job}
use Rattle.job.specs.Spelling.{digit, digits, width_within, width, decimal, labelled}
use Rattle.job.specs.Telling.{refusal_text}
use Rattle.post.specs.Posting.{post}

-- `refused `, a number's digits, a newline
refused : List ℕ → List ℕ
refused digits = (114 ∷ 101 ∷ 102 ∷ 117 ∷ 115 ∷ 101 ∷ 100 ∷ 32 ∷ []) ++ digits ++ (10 ∷ [])

-- no bytes; 39; a chain of three rotaries before a trailer
no_job : (post [] ≡ refused (50 ∷ 57 ∷ []))
    × (post (replicate 39 0) ≡ refused (50 ∷ 57 ∷ []))
    × (post (3 ∷ replicate 59 0) ≡ refused (51 ∷ []))
unfolding refused post read_job job_from job_fields sized places_in placed chain_end one_or_two little_endian refusal_text labelled decimal width width_within digits digit
no_job = (refl, refl, refl)
