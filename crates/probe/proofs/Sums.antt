-- A sum over chunks of five numbers, which `sums` has by their places.
use Prim.Native.Nat.{ℕ, zero, suc, ◌+◌, ◌*◌, ◌<◌}
use native.Mathlib.Omega.{arith}
use mathlib.Core.Path.{◌≡◌, refl, ap, ◌∙◌}
use mathlib.Core.List.{List, [], ◌∷◌, ◌++◌}
use lib.ListN.{take, drop, get_or}
use lib.Ieee.{Float, nan}
use Rattle.std.specs.List.{fold}
use Rattle.std.specs.Simd.{first_chunks}
use Rattle.std.proofs.lemmas.List.{get_or-drop, get_or-take, drop-drop}
use Rattle.std.proofs.lemmas.List.Sums.{fold-append}
use Rattle.float.specs.Helpers.{nought}
use Rattle.geometry.specs.Vector.{plus}
use Rattle.chain.specs.declared.Prepared.{Prepared}
use Rattle.probe.specs.Forwards.{sum_at, sums}

-- the chunk behind the first n
one_more : (n : ℕ) (l : List Float) → first_chunks 5 (suc n) l ≡ first_chunks 5 n l ++ (take 5 (drop (n * 5) l) ∷ [])
one_more zero l = refl
one_more (suc n) l =
    let e : 5 + n * 5 ≡ suc n * 5 = omega arith in
    ap (λ (r : List (List Float)). take 5 l ∷ r) (one_more n (drop 5 l) ∙ ap (λ (c : List Float). first_chunks 5 n (drop 5 l) ++ (take 5 c ∷ [])) (drop-drop (n * 5) 5 l ∙ ap (λ (i : ℕ). drop i l) e))

number_at : (m k : ℕ) (l : List Float) → k < 5 → get_or (take 5 (drop m l)) k nan ≡ get_or l (m + k) nan
number_at m k l h = get_or-take 5 (drop m l) k nan h ∙ get_or-drop m l k nan

module _ (p : Prepared) (tool : Float) (l : List Float) where
  chunk_sum : (m : ℕ) → sum_at p (take 5 (drop m l)) tool 0 ≡ sum_at p l tool m
  unfolding sum_at
  chunk_sum m =
      let zeroth : get_or (take 5 (drop m l)) 0 nan ≡ get_or l m nan = number_at m 0 l (omega arith) ∙ ap (λ (i : ℕ). get_or l i nan) (omega arith) in
      rw (zeroth, number_at m 1 l (omega arith), number_at m 2 l (omega arith), number_at m 3 l (omega arith), number_at m 4 l (omega arith))

  pub sums_fold : (n : ℕ) → fold (λ s c. plus s (sum_at p c tool 0)) nought (first_chunks 5 n l) ≡ sums p l tool n
  unfolding sums
  sums_fold zero = refl
  sums_fold (suc n) =
      ap (fold (λ s c. plus s (sum_at p c tool 0)) nought) (one_more n l)
      ∙ fold-append (λ s c. plus s (sum_at p c tool 0)) nought (first_chunks 5 n l) (take 5 (drop (n * 5) l) ∷ [])
      ∙ rw (sums_fold n, chunk_sum (n * 5))
