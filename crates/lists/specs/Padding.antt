-- A list that fills a place of n elements: the rest of the place holds one constant.
use Rattle.std.specs.Prelude.{ℕ, ◌-◌, List, ◌++◌, length, replicate}

unfoldable pub padded : {A : Type 0} → ℕ → A → List A → List A
padded n z l = l ++ replicate (n - length l) z
