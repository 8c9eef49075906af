-- The count of a path and the smallest free number, as the program looks for them.
use Prim.Native.Nat.{ℕ, suc, ◌+◌, ◌-◌, ◌*◌, ◌≤◌, ◌<◌}
use native.Mathlib.Nat.{sub-zero}
use native.Mathlib.Omega.{arith}
use mathlib.Core.Path.{◌≡◌, sym, ap, ◌∙◌}
use mathlib.Core.Bool.{Bool, true, false, cond, not}
use mathlib.Core.List.{List}
use borrow.Author.Tests.{eq-eqb, ne_eqb, eqb-true, leb-true}
use lib.Dec.{eqb, leb}
use lib.ListN.{length, get_or, drop}
use lib.Seq.{get_or-drop, drop-drop}
use Rattle.std.specs.Prelude.{Some, None}
use Rattle.lists.specs.Search.{first_hit}
use Rattle.queue.specs.Queue.{count_from}
use Rattle.cell.specs.State.{count_in}
use Rattle.cell.specs.Asking.{words_good, counts_from, has_in, free_in}
use Rattle.chain.proofs.ReadyLaws.{both}

pub words_long : (words : List ℕ) → words_good words ≡ true → (length words ≡ 145) × (count_in words ≤ 16)
unfolding words_good
words_long words h =
    let p = both (eqb (length words) 145) (leb (count_in words) 16) h in
    (eqb-true (length words) 145 p.0, leb-true (count_in words) 16 p.1)

-- ---- a path's count
pub record Looking (words : List ℕ) (k n i : ℕ) : Type 0 where
  pub same : counts_from n words k ≡ counts_from (n - i) (drop (i * 9) words) k

module _ (words : List ℕ) (k n : ℕ) where
  pub looking_start : Looking words k n 0
  looking_start = record { same = ap (λ (m : ℕ). counts_from m words k) (sym (sub-zero n)) }

  pub looking_end : {i : ℕ} → n ≤ i → Looking words k n i → None ≡ counts_from n words k
  unfolding counts_from
  looking_end {i} h g = let z : n - i ≡ 0 = omega arith in sym (g.same ∙ ap (λ (m : ℕ). counts_from m (drop (i * 9) words) k) z)

  opened : (i : ℕ) → i < n → Looking words k n i → counts_from n words k ≡ cond (eqb (get_or words (i * 9) 0) k) (Some (get_or words (i * 9 + 6) 0)) (counts_from (n - (i + 1)) (drop (i * 9 + 9) words) k)
  unfolding counts_from
  opened i h g =
      let z : n - i ≡ suc (n - (i + 1)) = omega arith in
      let o : i * 9 + 0 ≡ i * 9 = omega arith in
      let a : get_or (drop (i * 9) words) 0 0 ≡ get_or words (i * 9) 0 = get_or-drop (i * 9) words 0 0 ∙ ap (λ (m : ℕ). get_or words m 0) o in
      g.same ∙ ap (λ (m : ℕ). counts_from m (drop (i * 9) words) k) z ∙ ap (λ (m : ℕ). cond (eqb m k) (Some (get_or (drop (i * 9) words) 6 0)) (counts_from (n - (i + 1)) (drop 9 (drop (i * 9) words)) k)) a
      ∙ ap (λ (m : ℕ). cond (eqb (get_or words (i * 9) 0) k) (Some m) (counts_from (n - (i + 1)) (drop 9 (drop (i * 9) words)) k)) (get_or-drop (i * 9) words 6 0)
      ∙ ap (λ (m : List ℕ). cond (eqb (get_or words (i * 9) 0) k) (Some (get_or words (i * 9 + 6) 0)) (counts_from (n - (i + 1)) m k)) (drop-drop 9 (i * 9) words)

  pub looking_found : {i : ℕ} → i < n → Looking words k n i → get_or words (i * 9) 0 ≡ k → Some (get_or words (i * 9 + 6) 0) ≡ counts_from n words k
  looking_found {i} h g e = sym (opened i h g ∙ ap (λ (t : Bool). cond t (Some (get_or words (i * 9 + 6) 0)) (counts_from (n - (i + 1)) (drop (i * 9 + 9) words) k)) (eq-eqb (get_or words (i * 9) 0) k e))

  pub looking_on : {i : ℕ} → i < n → Looking words k n i → (get_or words (i * 9) 0 ≡ k → ⊥) → Looking words k n (i + 1)
  looking_on {i} h g e =
      let z : i * 9 + 9 ≡ (i + 1) * 9 = omega arith in
      record {
        same = opened i h g ∙ ap (λ (t : Bool). cond t (Some (get_or words (i * 9 + 6) 0)) (counts_from (n - (i + 1)) (drop (i * 9 + 9) words) k)) (ne_eqb (get_or words (i * 9) 0) k e) ∙ ap (λ (m : ℕ). counts_from (n - (i + 1)) (drop m words) k) z;
      }

-- ---- the smallest free number
pub record Freeing (n : ℕ) (words : List ℕ) (k : ℕ) : Type 0 where
  pub whole : k + first_hit (λ (i : ℕ). not (has_in n words i)) (count_from k (16 - k)) ≡ free_in n words

module _ (n : ℕ) (words : List ℕ) where
  abbrev test : ℕ → Bool
  test i = not (has_in n words i)

  pub freeing_start : Freeing n words 0
  unfolding free_in
  freeing_start = record { whole = omega arith }

  free_opened : (k : ℕ) → k < 16 → first_hit test (count_from k (16 - k)) ≡ cond (test k) 0 (suc (first_hit test (count_from (k + 1) (16 - (k + 1)))))
  unfolding first_hit count_from
  free_opened k h =
      let z : 16 - k ≡ suc (16 - (k + 1)) = omega arith in
      let s : suc k ≡ k + 1 = omega arith in
      ap (λ (m : ℕ). first_hit test (count_from k m)) z ∙ ap (λ (m : ℕ). cond (test k) 0 (suc (first_hit test (count_from m (16 - (k + 1)))))) s

  pub freeing_found : {k : ℕ} → k < 16 → Freeing n words k → test k ≡ true → k ≡ free_in n words
  freeing_found {k} h g e =
      let f : first_hit test (count_from k (16 - k)) ≡ 0 = free_opened k h ∙ ap (λ (t : Bool). cond t 0 (suc (first_hit test (count_from (k + 1) (16 - (k + 1)))))) e in
      let w = g.whole in
      omega (arith, f, w)

  pub freeing_on : {k : ℕ} → k < 16 → Freeing n words k → test k ≡ false → Freeing n words (k + 1)
  freeing_on {k} h g e =
      let f : first_hit test (count_from k (16 - k)) ≡ suc (first_hit test (count_from (k + 1) (16 - (k + 1)))) = free_opened k h ∙ ap (λ (t : Bool). cond t 0 (suc (first_hit test (count_from (k + 1) (16 - (k + 1)))))) e in
      let w = g.whole in
      record { whole = omega (arith, f, w) }

  pub freeing_end : {k : ℕ} → 16 ≤ k → k ≤ 16 → Freeing n words k → 16 ≡ free_in n words
  unfolding count_from first_hit
  freeing_end {k} h a g =
      let z : 16 - k ≡ 0 = omega arith in
      let f : first_hit test (count_from k (16 - k)) ≡ 0 = ap (λ (m : ℕ). first_hit test (count_from k m)) z in
      let w = g.whole in
      omega (arith, f, w)
