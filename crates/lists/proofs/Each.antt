-- What holds of every element: of one element more, of what follows from it, of what a fold over the list comes to, and
-- where every element passes a test.
use mathlib.Core.Path.{◌≡◌}
use mathlib.Core.Bool.{Bool, true, and-eq-true_iff}
use mathlib.Core.List.{List, [], ◌∷◌, ◌++◌}
use Rattle.lists.specs.Fold.{fold}
use Rattle.lists.specs.Search.{all}
use Rattle.lists.specs.Each.{Each}

pub each_more : {A : Type 0} (P : A → Type 0) (l : List A) (x : A) → Each P l → P x → Each P (l ++ (x ∷ []))
each_more P [] x L X = (X, tt)
each_more P (y ∷ l) x L X = (L.0, each_more P l x L.1 X)

pub each_map : {A : Type 0} (P Q : A → Type 0) → ((x : A) → P x → Q x) → (l : List A) → Each P l → Each Q l
each_map P Q f [] L = tt
each_map P Q f (x ∷ l) L = (f x L.0, each_map P Q f l L.1)

-- what holds of the start, and after every step by an element of which Q holds, holds at the end
pub fold_keeps : {X S : Type 0} (P : S → Type 0) (Q : X → Type 0) (f : S → X → S) → ((s : S) (x : X) → P s → Q x → P (f s x)) → (l : List X) (s : S) → P s → Each Q l → P (fold f s l)
unfolding fold
fold_keeps P Q f h [] s p q = p
fold_keeps P Q f h (x ∷ l) s p q = fold_keeps P Q f h l (f s x) (h s x p q.0) q.1

-- a test that every element passes
pub each_passes : {A : Type 0} (test : A → Bool) (l : List A) → all test l ≡ true → Each (λ x. test x ≡ true) l
unfolding all
each_passes test [] h = tt
each_passes test (x ∷ l) h = let p = (and-eq-true_iff (test x) (all test l)).0 h in (p.0, each_passes test l p.1)

pub each_both : {A : Type 0} (P Q : A → Type 0) (l : List A) → Each P l → Each Q l → Each (λ x. P x × Q x) l
each_both P Q [] p q = tt
each_both P Q (x ∷ l) p q = ((p.0, q.0), each_both P Q l p.1 q.1)
