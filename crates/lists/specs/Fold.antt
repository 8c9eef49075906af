-- A value carried through a list from the left: what a loop over an array computes.
use Rattle.std.specs.Prelude.{List, [], ◌∷◌}

-- the library's `foldl` unfolds everywhere; this stays shut, so that a goal shows it by name
unfoldable pub fold : {X S : Type 0} → (S → X → S) → S → List X → S
fold f s [] = s
fold f s (x ∷ l) = fold f (f s x) l
