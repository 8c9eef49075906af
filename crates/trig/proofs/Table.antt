-- A rule of a table: shown of each entry in turn, it holds at each index. Assumes nothing.
use Rattle.std.proofs.Common.{ℕ, zero, suc, ◌+◌, ◌<◌, List, [], ◌∷◌, length, get_or, sym, ◌∙◌, subst, le_of_suc-le-suc, not-suc-le-zero, add-zero, add-suc, suc-add, zero-add}

-- the rule f holds of each entry and its place, counted from i
abbrev pub Each : {X : Type 0} → (ℕ → X → Type 0) → ℕ → List X → Type 0
Each f i [] = Unit {0}
Each f i (x ∷ xs) = f i x × Each f (suc i) xs

from : {X : Type 0} (f : ℕ → X → Type 0) (xs : List X) (d : X) (i : ℕ) → Each f i xs → (k : ℕ) → k < length xs → f (i + k) (get_or xs k d)
from f [] d i t k h = absurd (not-suc-le-zero h)
from f (x ∷ xs) d i t zero h = subst (λ (m : ℕ). f m x) (sym (add-zero i)) t.0
from f (x ∷ xs) d i t (suc k) h =
    subst (λ (m : ℕ). f m (get_or xs k d)) (suc-add i k ∙ sym (add-suc i k))
    (from f xs d (suc i) t.1 k (le_of_suc-le-suc h))

pub at : {X : Type 0} (f : ℕ → X → Type 0) (xs : List X) (d : X) → Each f 0 xs → (k : ℕ) → k < length xs → f k (get_or xs k d)
at f xs d t k h = subst (λ (m : ℕ). f m (get_or xs k d)) (zero-add k) (from f xs d 0 t k h)
