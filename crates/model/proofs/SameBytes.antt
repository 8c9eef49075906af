-- Laws of texts: two that are equal by the library, and one cut out of bytes.
use Prim.Native.Nat.{ℕ, ◌+◌, ◌-◌, ◌≤◌, ◌<◌}
use mathlib.Core.Path.{◌≡◌, refl, ap}
use mathlib.Core.Bool.{true, false, cond, ◌&&◌}
use mathlib.Core.List.{List, [], ◌∷◌}
use lib.Dec.{eqb, ltb}
use lib.ListN.{length, take, drop}
use lib.Pointwise.{pointwise}
use borrow.Author.Tests.{lt-ltb, le-ltb}
use Rattle.std.proofs.Common.{Option, Some, None, Bor, ◌⊎◌, inl, inr, MatchOption, slice_range}
use Rattle.std.specs.Option.{unwrap_or}
use Rattle.model.specs.Text.{text, same_bytes}

pub same_is : (l m : List ℕ) → pointwise eqb l m ≡ same_bytes l m
unfolding same_bytes
same_is [] [] = refl
same_is [] (y ∷ m) = refl
same_is (x ∷ l) [] = refl
same_is (x ∷ l) (y ∷ m) = ap (λ b. eqb x y && b) (same_is l m)

-- the bytes of a range that is there, else none
pub text_is : (bytes : List ℕ) (from to : ℕ) (got : Option (Bor (List ℕ))) (none : Bor (List ℕ)) → none.now ≡ []
    → MatchOption got ((to < from) ⊎ (length bytes < to)) (λ x. (from ≤ to) × (to ≤ length bytes) × (x.now ≡ slice_range bytes from to) × (length x.now + from ≡ to))
    → (unwrap_or got none).now ≡ text bytes from to
unfolding text
text_is bytes from to (Some x) none e h = rw (le-ltb _ _ h.1, le-ltb _ _ h.0) h.2
text_is bytes from to None none e (inl h) =
    elim (ltb (length bytes) to) as (λ b. none.now ≡ cond b [] (cond (ltb to from) [] (take (to - from) (drop from bytes)))) [
      | true ↦ e
      | false ↦ rw (lt-ltb to from h) e
    ]
text_is bytes from to None none e (inr h) = rw (lt-ltb _ _ h) e
