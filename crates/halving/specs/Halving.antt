-- Halving, a term of document 01: the first two neighbours of a list that divide get their midpoint between them, and
-- this repeats until there are none. Over any item, any test `divides` and any midpoint `mid`: what an item is, when
-- two of them divide and what lies between them is for the caller to say.
use Rattle.std.specs.Prelude.{ℕ, zero, suc, ◌≡◌, Bool, true, false, List, [], ◌∷◌, leb, length}
use Rattle.std.proofs.Math.Option.{Option, none, some}

-- how a halving ends, with the number of items inserted: with a list in which no two neighbours divide; where one item
-- more would be one too many (document 01's 27); or where it would have no space (28)
pub data Answer (A : Type 0) : Type 0 where
  Done : ℕ → List A → Answer A
  TooMany : ℕ → Answer A
  NoSpace : ℕ → Answer A

abbrev pub count : {A : Type 0} → Answer A → ℕ
count (Done n l) = n
count (TooMany n) = n
count (NoSpace n) = n

-- a refused halving hands no item back
abbrev pub items : {A : Type 0} → Answer A → List A
items (Done n l) = l
items (TooMany n) = []
items (NoSpace n) = []

abbrev pub onto : {A : Type 0} → A → Option (List A) → Option (List A)
onto x none = none
onto x (some l) = some (x ∷ l)

module _ {A : Type 0} (divides : A → A → Bool) (mid : A → A → A) where
  -- one insertion: the first two neighbours that divide get their midpoint between them; none where no two divide
  unfoldable pub step : List A → Option (List A)
  step [] = none
  step (x ∷ []) = none
  step (x ∷ (y ∷ l)) = elim (divides x y) [ true ↦ some (x ∷ mid x y ∷ y ∷ l) | false ↦ onto x (step (y ∷ l)) ]

  -- step after step until there is none: `n` items have been inserted, `left` more may be, and the list may have
  -- `space` items
  unfoldable pub halve : (space left n : ℕ) → List A → Answer A
  halve space zero n l = elim (step l) [ none ↦ Done n l | some m ↦ TooMany n ]
  halve space (suc left) n l =
      elim (step l) [ none ↦ Done n l | some m ↦ elim (leb (length m) space) [ true ↦ halve space left (suc n) m | false ↦ NoSpace n ] ]

  -- ---- without a cap and for any space: j steps lead from l to r
  pub data Steps : List A → ℕ → List A → Type 0 where
    here : {l : List A} → Steps l 0 l
    more : {l m r : List A} {j : ℕ} → step l ≡ some m → Steps m j r → Steps l (suc j) r

  -- halving l needs a j-th insertion
  abbrev pub Needs : ℕ → List A → Type 0
  Needs j l = (r : List A) × Steps l j r
