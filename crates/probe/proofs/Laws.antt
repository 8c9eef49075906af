-- The loop of `probe_roots`: a record for its invariant, and a law each for its start, its step and its end.
use Prim.Native.Nat.{ℕ, zero, suc, ◌+◌, ◌≤◌, ◌<◌, min}
use native.Mathlib.Nat.{not-suc-le-zero, le_of_suc-le-suc}
use native.Mathlib.Numerals.{add-one}
use native.Mathlib.Omega.{arith}
use mathlib.Core.Path.{◌≡◌, refl, ap, ◌∙◌}
use mathlib.Core.List.{List, [], ◌∷◌, ◌++◌, map, append-nil}
use lib.ListN.{length, take, drop, get_or, set, length-set, drop_of_length-le}
use lib.Seq.{length-take-le}
use lib.Ieee.{Float}
use Rattle.root.specs.Root.{root}
use Rattle.probe.specs.Answers.{roots_over}

-- ys, with the roots of the first n of xs in the place of its first n
abbrev rooted : ℕ → List Float → List Float → List Float
rooted n xs ys = map root (take n xs) ++ drop n ys

rooted_suc : (n : ℕ) (xs ys : List Float) (d : Float) → n < length xs → n < length ys → set (rooted n xs ys) n (root (get_or xs n d)) ≡ rooted (suc n) xs ys
rooted_suc n [] ys d p q = absurd (not-suc-le-zero p)
rooted_suc n (x ∷ xs) [] d p q = absurd (not-suc-le-zero q)
rooted_suc zero (x ∷ xs) (y ∷ ys) d p q = refl
rooted_suc (suc n) (x ∷ xs) (y ∷ ys) d p q =
    ap (λ (l : List Float). root x ∷ l) (rooted_suc n xs ys d (le_of_suc-le-suc p) (le_of_suc-le-suc q))

-- out is the front that is lent, after k of its turns
pub record Rooting (xs ys out : List Float) (k : ℕ) : Type 0 where
  pub within : k ≤ length ys
  pub as_long : length out ≡ length ys
  pub shorter : length ys ≤ length xs
  pub whole : out ≡ rooted k xs ys

module _ {n : ℕ} (xs ys : List Float) (e : n ≡ min (length xs) (length ys)) where
  pub front_long : length (take n ys) ≡ n
  front_long = length-take-le n ys (omega arith)

  pub rooting_start : Rooting xs (take n ys) (take n ys) 0
  rooting_start =
      let f = front_long in
      record { within = omega arith; as_long = refl; shorter = omega arith; whole = refl }

  pub rooting_end : {out : List Float} {k : ℕ} → n ≤ k → Rooting xs (take n ys) out k → out ++ drop n ys ≡ roots_over xs ys
  unfolding roots_over
  rooting_end {out} {k} p g =
      let f = front_long in
      let w = g.within in
      let last : k ≡ n = omega arith in
      let all : drop n (take n ys) ≡ [] = drop_of_length-le (take n ys) (omega arith) in
      let done : out ≡ map root (take n xs) = rw (all, append-nil) at (rw last at g.whole) in
      rw (done, ← e)

pub rooting_step : {xs ys out : List Float} {k : ℕ} {r : Float} (d : Float) → k < length ys → Rooting xs ys out k → r ≡ root (get_or xs k d) → Rooting xs ys (set out k r) (k + 1)
rooting_step {xs} {ys} {out} {k} {r} d p g e =
    let s = g.shorter in
    record {
      within = omega arith;
      as_long = length-set out k r ∙ g.as_long;
      shorter = g.shorter;
      whole = rw (g.whole, e, add-one) (rooted_suc k xs ys d (omega arith) p);
    }
