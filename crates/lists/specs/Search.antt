-- Searches of a list from its front, by a test. (No proof can open the library's own `any` and `all`.)
use Rattle.std.specs.Prelude.{ℕ, suc, Bool, true, false, cond, ◌&&◌, ◌||◌, List, [], ◌∷◌}

-- the index of the first element that passes; the length where none does
unfoldable pub first_hit : {A : Type 0} → (A → Bool) → List A → ℕ
first_hit test [] = 0
first_hit test (x ∷ l) = cond (test x) 0 (suc (first_hit test l))

-- whether some element passes
unfoldable pub any : {A : Type 0} → (A → Bool) → List A → Bool
any test [] = false
any test (x ∷ l) = test x || any test l

-- whether every element passes
unfoldable pub all : {A : Type 0} → (A → Bool) → List A → Bool
all test [] = true
all test (x ∷ l) = test x && all test l

-- what `ask` answers of the elements: the first answer that stops the search; `otherwise` where none does
unfoldable pub first_answer : {A R : Type 0} → (R → Bool) → (A → R) → R → List A → R
first_answer stops ask otherwise [] = otherwise
first_answer stops ask otherwise (x ∷ l) = cond (stops (ask x)) (ask x) (first_answer stops ask otherwise l)
