-- What a halving inserts, pair by pair, as the Rust has it: between two given neighbours, and into a whole list. The
-- steps of `Halving` lead to the same list (proofs/Pairs.antt).
use Rattle.std.specs.Prelude.{◌≡◌, Bool, true, false, List, [], ◌∷◌, ◌++◌}

module _ {A : Type 0} (divides : A → A → Bool) (mid : A → A → A) where
  -- between x and y, a is inserted: nothing, or what comes before the midpoint, the midpoint, and what comes after it
  pub data Between : A → A → List A → Type 0 where
    undivided : {x y : A} → divides x y ≡ false → Between x y []
    divided : {x y : A} {a b : List A} → divides x y ≡ true → Between x (mid x y) a → Between (mid x y) y b → Between x y (a ++ mid x y ∷ b)

  -- into l, i is inserted, and that gives r
  pub data Inserts : List A → List A → List A → Type 0 where
    no_item : Inserts [] [] []
    one_item : {x : A} → Inserts (x ∷ []) [] (x ∷ [])
    more_items : {x y : A} {l a i r : List A} → Between x y a → Inserts (y ∷ l) i r → Inserts (x ∷ y ∷ l) (a ++ i) (x ∷ (a ++ r))
