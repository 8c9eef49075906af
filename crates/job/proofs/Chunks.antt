-- The joint sets of lent numbers as chunks of five: the library's chunks beside the sets that are read by an offset.
use Rattle.std.proofs.Common.{◌≡◌, ℕ, zero, suc, ◌+◌, ◌*◌, ◌<◌, List, take, drop, get_or, refl, ap, ◌∙◌, arith, drop-drop}
use lib.Ieee.{Float}
use Rattle.std.specs.Simd.{first_chunks}
use Rattle.turn.specs.Items.{joints_from, joints_in}
use Rattle.turn.proofs.Chunks.{front}

chunk_is : (n i : ℕ) (l d : List Float) → i < n → get_or (first_chunks 5 n l) i d ≡ take 5 (drop (i * 5) l)
chunk_is zero i l d h = absurd (omega (arith, h))
chunk_is (suc n) zero l d h = refl
chunk_is (suc n) (suc i) l d h =
    let e : 5 + i * 5 ≡ suc i * 5 = omega arith in
    chunk_is n i (drop 5 l) d (omega (arith, h)) ∙ ap (take 5) (drop-drop (i * 5) 5 l ∙ ap (λ (k : ℕ). drop k l) e)

pub chunk_set : (n i : ℕ) (l d : List Float) → i < n → joints_in (get_or (first_chunks 5 n l) i d) 0 ≡ joints_in l (i * 5)
unfolding joints_in
chunk_set n i l d h = ap joints_from (chunk_is n i l d h) ∙ front (drop (i * 5) l)
