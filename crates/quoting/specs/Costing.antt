-- What a halving costs, over any item, any test `divides` and any midpoint `mid`, as in crates/halving: each two that
-- ever are neighbours are tested once, which costs `cost` of the two, and each insertion costs one.
use Rattle.std.specs.Prelude.{ℕ, zero, suc, ◌+◌, Bool, true, false, List, [], ◌∷◌}
use Rattle.std.proofs.Math.Option.{none, some}
use Rattle.halving.specs.Halving.{step}

module _ {A : Type 0} (divides : A → A → Bool) (mid : A → A → A) (cost : A → A → ℕ) where
  -- each two neighbours of a list, once
  unfoldable pub tested : List A → ℕ
  tested [] = 0
  tested (x ∷ []) = 0
  tested (x ∷ (y ∷ l)) = cost x y + tested (y ∷ l)

  -- the neighbours that a step makes: each of the first two that divide, with their midpoint
  unfoldable pub newly : List A → ℕ
  newly [] = 0
  newly (x ∷ []) = 0
  newly (x ∷ (y ∷ l)) = elim (divides x y) [ true ↦ cost x (mid x y) + cost (mid x y) y | false ↦ newly (y ∷ l) ]

  -- at most `left` steps from a list: for each one insertion, and the neighbours that it makes
  unfoldable pub stepping : ℕ → List A → ℕ
  stepping zero l = 0
  stepping (suc left) l = elim (step divides mid l) [ none ↦ 0 | some m ↦ 1 + newly l + stepping left m ]

  -- the neighbours of the start, and all that the steps from there add
  unfoldable pub evaluations : ℕ → List A → ℕ
  evaluations limit g = tested g + stepping limit g
