-- Laws of a padded list, and a loop that stores one constant into a list from an index on: a record for its invariant, and a
-- law each for its start, its step, a step that stores nothing, and its end.
use Prim.Native.Nat.{ℕ, suc, ◌+◌, ◌-◌, ◌≤◌, ◌<◌}
use native.Mathlib.Nat.{sub-zero}
use native.Mathlib.Omega.{arith}
use mathlib.Core.Path.{◌≡◌, refl, sym, ap, ◌∙◌}
use mathlib.Core.List.{List, [], ◌∷◌, ◌++◌, append_assoc, append-nil}
use lib.ListN.{length, take, get_or, set, replicate, length-set, length-append, length-replicate, get_or-replicate, replicate-append-replicate}
use lib.Seq.{take_all, take-suc, take-append-le, get_or-append-add, length-take-le}
use Rattle.lists.specs.Padding.{padded}
use Rattle.lists.proofs.Fold.{pushed}

module _ {A : Type 0} (n : ℕ) (z : A) where
  pub padded_nil : padded n z [] ≡ replicate n z
  unfolding padded
  padded_nil = rw sub-zero

  pub padded_full : (l : List A) → n ≤ length l → padded n z l ≡ l
  unfolding padded
  padded_full l h =
      let e : n - length l ≡ 0 = omega arith in
      rw e (append-nil l)

  pub length_padded : (l : List A) → length l ≤ n → length (padded n z l) ≡ n
  unfolding padded
  length_padded l h = rw (length-append, length-replicate) (omega arith)

  pub take_padded : (l : List A) (k : ℕ) → k ≤ length l → take k (padded n z l) ≡ take k l
  unfolding padded
  take_padded l k h = take-append-le k l (replicate (n - length l) z) h

  pub get_or_padded_past : (l : List A) (i : ℕ) (d : A) → length l ≤ i → i < n → get_or (padded n z l) i d ≡ z
  unfolding padded
  get_or_padded_past l i d p q =
      let e : length l + (i - length l) ≡ i = omega arith in
      let h : i - length l < n - length l = omega arith in
      rw (← e) (get_or-append-add l (replicate (n - length l) z) (i - length l) d ∙ get_or-replicate (n - length l) (i - length l) z d h)

  pub padded_more : (l : List A) → length l ≤ n → padded (n + 1) z l ≡ padded n z l ++ (z ∷ [])
  unfolding padded
  padded_more l h =
      let e : n + 1 - length l ≡ n - length l + 1 = omega arith in
      rw (e, ← replicate-append-replicate (n - length l) 1 z, append_assoc)

-- l is o, where z has been stored from f up to j
pub record Clearing {A : Type 0} (z : A) (o : List A) (f : ℕ) (l : List A) (j : ℕ) : Type 0 where
  pub from : f ≤ j
  pub within : j ≤ length o
  pub as_long : length l ≡ length o
  pub front : take j l ≡ padded j z (take f o)

module _ {A : Type 0} {z : A} {o : List A} {f : ℕ} where
  pub clearing_start : f ≤ length o → Clearing z o f o f
  clearing_start h =
      let e : f ≤ length (take f o) = rw length-take-le (omega arith) in
      record { from = omega arith; within = h; as_long = refl; front = sym (padded_full f z (take f o) e) }

  pub clearing_step : {l : List A} {j : ℕ} → j < length l → Clearing z o f l j → Clearing z o f (set l j z) (j + 1)
  clearing_step {l} {j} h g =
      let k : f ≤ length o = omega arith in
      let e : length (take f o) ≤ j = rw length-take-le g.from in
      record {
        from = omega arith;
        within = omega arith;
        as_long = length-set l j z ∙ g.as_long;
        front = rw (pushed l j z, g.front, padded_more j z (take f o));
      }

  -- what is z already may stay as it is
  pub clearing_kept : {l : List A} {j : ℕ} (d : A) → j < length l → get_or l j d ≡ z → Clearing z o f l j → Clearing z o f l (j + 1)
  clearing_kept {l} {j} d h is g =
      let k : f ≤ length o = omega (arith, g.from, g.within) in
      let e : length (take f o) ≤ j = rw (length-take-le f o k) g.from in
      let one : j + 1 ≡ suc j = omega arith in
      record {
        from = omega arith;
        within = omega arith;
        as_long = g.as_long;
        front = ap (λ (n : ℕ). take n l) one ∙ take-suc l j d h ∙ rw (g.front, is) (sym (padded_more j z (take f o) e));
      }

  pub clearing_end : {l : List A} {j : ℕ} → length l ≤ j → Clearing z o f l j → l ≡ padded (length o) z (take f o)
  clearing_end {l} {j} h g =
      let e : j ≡ length o = omega arith in
      rw (← e) (sym (take_all j l h) ∙ g.front)
