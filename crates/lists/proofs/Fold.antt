-- A loop over the first n elements of a list, as a fold: one record for its invariant, and a law each for its start, its step
-- and its end. And what such loops need besides: an element taken off the front, an element pushed, the length behind a map.
use Prim.Native.Nat.{ℕ, ◌+◌, ◌≤◌, ◌<◌}
use native.Mathlib.Numerals.{add-one}
use native.Mathlib.Omega.{arith}
use mathlib.Core.Path.{◌≡◌, refl, sym, ◌∙◌}
use mathlib.Core.List.{List, [], ◌∷◌, ◌++◌, map}
use lib.ListN.{length, take, drop, get_or, set, length-map, drop_of_length-le}
use lib.Seq.{slice-cons, take-suc-set, length-take-le}
use Rattle.lists.specs.Fold.{fold}

-- what stands from k on, in the first n: the library's `slice-cons` for the code's k + 1
pub drop_take_cons : {X : Type 0} (l : List X) (n k : ℕ) (d : X) → k < n → n ≤ length l → drop k (take n l) ≡ get_or l k d ∷ drop (k + 1) (take n l)
drop_take_cons l n k d p q = rw add-one (slice-cons k n l d p q)

-- nothing stands past the first n
pub drop_take_nil : {X : Type 0} (l : List X) (n k : ℕ) → n ≤ k → n ≤ length l → drop k (take n l) ≡ []
drop_take_nil l n k p q =
    let h : length (take n l) ≤ k = rw length-take-le p in
    drop_of_length-le (take n l) h

-- s is what the fold has come to after k of the first n elements of l
pub record Folding {X S : Type 0} (f : S → X → S) (s₀ : S) (l : List X) (n : ℕ) (s : S) (k : ℕ) : Type 0 where
  pub within : k ≤ n
  pub room : n ≤ length l
  pub whole : fold f s (drop k (take n l)) ≡ fold f s₀ (take n l)

module _ {X S : Type 0} {f : S → X → S} {s₀ : S} {l : List X} {n : ℕ} where
  pub folding_start : n ≤ length l → Folding f s₀ l n s₀ 0
  folding_start p = record { within = omega arith; room = p; whole = refl }

  pub folding_step : {s t : S} {k : ℕ} (d : X) → k < n → Folding f s₀ l n s k → t ≡ f s (get_or l k d) → Folding f s₀ l n t (k + 1)
  unfolding fold
  folding_step {k} d p g e =
      let q : n ≤ length l = g.room in
      record { within = omega arith; room = q; whole = rw e (rw (drop_take_cons l n k d) at g.whole) }

  pub folding_end : {s : S} {k : ℕ} → n ≤ k → Folding f s₀ l n s k → s ≡ fold f s₀ (take n l)
  unfolding fold
  folding_end {k} p g =
      let q : n ≤ length l = g.room in
      rw (drop_take_nil l n k) at g.whole

-- an element stored just past the first n
pub pushed : {X : Type 0} (l : List X) (n : ℕ) (x : X) → n < length l → take (n + 1) (set l n x) ≡ take n l ++ (x ∷ [])
pushed l n x p = rw add-one (take-suc-set l n x p)

-- an array of structs speaks of its list through a map. The types are explicit for `search (length_of_map, needs)`
pub length_of_map : (X Y : Type 0) (f : X → Y) (l : List X) (n : ℕ) → length (map f l) ≡ n → length l ≡ n
length_of_map X Y f l n p = sym (length-map l f) ∙ p
