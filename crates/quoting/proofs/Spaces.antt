-- A halving with one space and with another: what it comes to is the same wherever there is space for it.
use Prim.Native.Nat.{ℕ, ◌+◌, ◌≤◌}
use native.Mathlib.Nat.{zero-add}
use mathlib.Core.Path.{◌≡◌, sym, ap, ◌∙◌}
use mathlib.Core.Bool.{Bool}
use mathlib.Core.List.{List}
use lib.ListN.{length}
use Rattle.halving.specs.Halving.{halve, Done, TooMany}
use Rattle.halving.proofs.Ends.{ends_done, result, many_count, many_exactly}

module _ {A : Type 0} (divides : A → A → Bool) (mid : A → A → A) (space other limit : ℕ) (g : List A) where
  pub done_there : (n : ℕ) (r : List A) → length g ≤ space → length r ≤ other → halve divides mid space limit 0 g ≡ Done n r → halve divides mid other limit 0 g ≡ Done n r
  done_there n r a b e =
      let c = result divides mid space limit n g r a e in
      ends_done divides mid other limit 0 c.steps c.ended c.few b ∙ ap (λ (k : ℕ). Done k r) (zero-add n)

  pub many_there : (n : ℕ) → length g + limit ≤ space → length g + limit ≤ other → halve divides mid space limit 0 g ≡ TooMany n → halve divides mid other limit 0 g ≡ TooMany n
  many_there n a b e =
      let (c, f) = (many_exactly divides mid other limit 0 g b).1 ((many_exactly divides mid space limit 0 g a).0 (n, e)) in
      f ∙ ap TooMany (many_count divides mid other limit 0 c g f ∙ sym (many_count divides mid space limit 0 n g e))
