-- The searches and the fold of this crate beside the library's words, in which the contracts of iterators speak. And a loop
-- over a whole slice, as a fold.
use Prim.Native.Nat.{ℕ, suc, ◌+◌, ◌≤◌}
use native.Mathlib.Omega.{arith}
use mathlib.Core.Path.{◌≡◌, refl, ap, ◌∙◌}
use mathlib.Core.Bool.{Bool, true, false, cond}
use mathlib.Core.List.{List, [], ◌∷◌}
use lib.ListN.{length, get_or}
use lib.Seq.{take_all}
use Rattle.std.specs.Prelude.{Some}
use Rattle.std.specs.Option.{unwrap_or}
use Rattle.std.specs.List as Std
use Rattle.std.proofs.lemmas.List.Recursion.{is_position_or_len}
use Rattle.lists.specs.Fold.{fold}
use Rattle.lists.specs.Search.{first_hit, any, all}
use Rattle.lists.proofs.Fold.{Folding, folding_end}

module _ {A : Type 0} (test : A → Bool) where
  pub any_is : (l : List A) → any test l ≡ Std.list_any test l
  unfolding any
  any_is [] = refl
  any_is (x ∷ l) = rw (any_is l)

  pub all_is : (l : List A) → all test l ≡ Std.list_all test l
  unfolding all
  all_is [] = refl
  all_is (x ∷ l) = rw (all_is l)

  suc_is : (n : ℕ) → suc n ≡ 1 + n
  suc_is n = omega arith

  pub first_hit_is : (l : List A) → first_hit test l ≡ Std.position_or_len test l
  unfolding first_hit
  first_hit_is = is_position_or_len (first_hit test) test refl (λ x l. ap (λ (n : ℕ). cond (test x) 0 n) (suc_is (first_hit test l)))

  hit_or_rest : (b : Bool) (x : A) (l : List A) (d e : A) → unwrap_or (Std.find test l) d ≡ get_or l (first_hit test l) e
      → unwrap_or (cond b (Some x) (Std.find test l)) d ≡ get_or (x ∷ l) (cond b 0 (suc (first_hit test l))) e
  hit_or_rest true x l d e h = refl
  hit_or_rest false x l d e h = h

  -- the first that passes; where none does, the other
  pub find_or : (l : List A) (d : A) → unwrap_or (Std.find test l) d ≡ get_or l (first_hit test l) d
  unfolding first_hit
  find_or [] d = refl
  find_or (x ∷ l) d = hit_or_rest (test x) x l d d (find_or l d)

module _ {X S : Type 0} (f : S → X → S) where
  pub fold_is : (s : S) (l : List X) → fold f s l ≡ Std.fold f s l
  unfolding fold
  fold_is s [] = refl
  fold_is s (x ∷ l) = fold_is (f s x) l

-- a loop that has gone through the whole list
pub folding_all : {X S : Type 0} {f : S → X → S} {s₀ s : S} {l : List X} {k : ℕ} → length l ≤ k → Folding f s₀ l (length l) s k → s ≡ fold f s₀ l
folding_all {f = f} {s₀} {l = l} p g = folding_end p g ∙ ap (fold f s₀) (take_all (length l) l (omega arith))
