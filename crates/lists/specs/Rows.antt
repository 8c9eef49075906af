-- Records of w elements each, one after another in a flat list.
use Rattle.std.specs.Prelude.{ℕ, zero, suc, ◌≡◌, List, [], ◌∷◌, ◌++◌, length, drop}

-- the first n records of a flat list, by a function that reads a record at its front
unfoldable pub rows : {A B : Type 0} → ℕ → (List B → A) → ℕ → List B → List A
rows w get zero l = []
rows w get (suc n) l = get l ∷ rows w get n (drop w l)

-- the records one after another
unfoldable pub flat : {A B : Type 0} → (A → List B) → List A → List B
flat put [] = []
flat put (x ∷ l) = put x ++ flat put l

-- two lists, element by element
unfoldable pub paired : {A B C : Type 0} → (A → B → C) → List A → List B → List C
paired both [] m = []
paired both (x ∷ l) [] = []
paired both (x ∷ l) (y ∷ m) = both x y ∷ paired both l m

-- n records, each kept in two flat lists side by side
abbrev pub table : {P Q C B D : Type 0} → ℕ → (List B → P) → ℕ → (List D → Q) → (P → Q → C) → ℕ → List B → List D → List C
table v get_p w getQ both n p q = paired both (rows v get_p n p) (rows w getQ n q)

-- what reading and writing a record have to do with each other: each undoes the other, on w elements
pub record Codec {A B : Type 0} (w : ℕ) (get : List B → A) (put : A → List B) : Type 0 where
  pub length_put : (x : A) → length (put x) ≡ w
  pub get_put : (x : A) (l : List B) → get (put x ++ l) ≡ x
  pub put_get : (v l : List B) → length v ≡ w → put (get (v ++ l)) ≡ v
