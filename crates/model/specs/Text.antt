-- Texts: bytes within bytes.
use Rattle.std.specs.Prelude.{Bool, true, false, cond, ◌&&◌, List, [], ◌∷◌, ℕ, ◌-◌, ltb, eqb, length, take, drop}

-- the bytes from an offset up to another; none where they are not all there
unfoldable pub text : List ℕ → ℕ → ℕ → List ℕ
text bytes from to = cond (ltb (length bytes) to) [] (cond (ltb to from) [] (take (to - from) (drop from bytes)))

unfoldable pub same_bytes : List ℕ → List ℕ → Bool
same_bytes [] [] = true
same_bytes [] (y ∷ m) = false
same_bytes (x ∷ l) [] = false
same_bytes (x ∷ l) (y ∷ m) = eqb x y && same_bytes l m
