-- A list in which elements are stored, by its parts.
use Prim.Native.Nat.{ℕ, ◌+◌, ◌≤◌}
use native.Mathlib.Nat.{zero-add}
use native.Mathlib.Omega.{arith}
use mathlib.Core.Path.{◌≡◌, refl, sym, ap, ◌∙◌}
use mathlib.Core.List.{List, ◌++◌}
use lib.ListN.{length, length-append, length-drop, take, drop}
use lib.Seq.{drop_at, drop-drop, length-take-le, take_at}
use Rattle.storing.specs.Storing.{stored_at}

module _ {A : Type 0} where
  -- v stored from c on makes m of l
  pub record Parts (l m : List A) (c : ℕ) (v : List A) : Type 0 where
    pub long : length m ≡ length l
    pub before : take c m ≡ take c l
    pub stored : take (length v) (drop c m) ≡ v
    pub behind : drop (c + length v) m ≡ drop (c + length v) l

  pub parts : (l : List A) (c : ℕ) (v : List A) → c + length v ≤ length l → Parts l (stored_at l c v) c v
  unfolding stored_at
  parts l c v h =
      let rest = drop (c + length v) l in
      let n : length (take c l) ≡ c = length-take-le c l (omega arith) in
      let d : drop c (take c l ++ (v ++ rest)) ≡ v ++ rest = drop_at (take c l) (v ++ rest) c n in
      record {
        long = rw (length-append, length-append, length-drop) (omega arith);
        before = take_at (take c l) (v ++ rest) c n;
        stored = ap (take (length v)) d ∙ take_at v rest (length v) refl;
        behind = sym (drop-drop (length v) c (take c l ++ (v ++ rest))) ∙ ap (drop (length v)) d ∙ drop_at v rest (length v) refl;
      }

  -- stored at the front, the rest stays behind it
  pub stored_first : (l v : List A) → stored_at l 0 v ≡ v ++ drop (length v) l
  unfolding stored_at
  stored_first l v = ap (λ (n : ℕ). v ++ drop n l) (zero-add (length v))
