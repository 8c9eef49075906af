-- One joint set put into an ordered list: its place is before the first that it precedes, and the list is longer by one.
use Prim.Native.Nat.{ℕ, suc, ◌+◌, ◌-◌, ◌≤◌}
use native.Mathlib.Omega.{arith}
use mathlib.Core.Path.{◌≡◌, refl, sym, ap, ◌∙◌}
use mathlib.Core.Bool.{Bool, true, false, cond, not}
use mathlib.Core.List.{List, [], ◌∷◌, ◌++◌, append-nil}
use lib.ListN.{length, take, drop, get_or, set, length-append, length-drop, drop_of_length-le}
use lib.Seq.{paste, take-suc, take-append-le, drop-append-le, take_all, length-take-le, set-append_seam, append_snoc}
use Rattle.std.specs.List.{position_or_len, refill}
use Rattle.chain.specs.declared.Joints.{Joints}
use Rattle.inverse.specs.Solutions.{precedes, insert}

length_step : (b : Bool) (j k : Joints) (l m : List Joints) → length m ≡ length l + 1 → length (cond b (j ∷ k ∷ l) (k ∷ m)) ≡ length l + 2
length_step true j k l m h = omega arith
length_step false j k l m h = omega arith

pub length_insert : (l : List Joints) (j : Joints) → length (insert l j) ≡ length l + 1
unfolding insert
length_insert [] j = refl
length_insert (k ∷ l) j = length_step (precedes j k) j k l (insert l j) (length_insert l j) ∙ omega arith

-- the first that j precedes
abbrev pub place_of : List Joints → Joints → ℕ
place_of l j = position_or_len (precedes j) l

here_or_later : (b : Bool) (j k : Joints) (l : List Joints) (n : ℕ) → take n l ++ j ∷ drop n l ≡ insert l j
    → take (cond (not b) (1 + n) 0) (k ∷ l) ++ j ∷ drop (cond (not b) (1 + n) 0) (k ∷ l) ≡ cond b (j ∷ k ∷ l) (k ∷ insert l j)
here_or_later true j k l n h = refl
here_or_later false j k l n h = let e : 1 + n ≡ suc n = omega arith in rw e (ap (λ (m : List Joints). k ∷ m) h)

pub insert_at_place : (l : List Joints) (j : Joints) → take (place_of l j) l ++ j ∷ drop (place_of l j) l ≡ insert l j
unfolding insert
insert_at_place [] j = refl
insert_at_place (k ∷ l) j = here_or_later (precedes j k) j k l (place_of l j) (insert_at_place l j)

-- ---- the last brought to the place p, as the code does it: the others from p one place on, then j
module _ {A : Type 0} (l : List A) (j : A) (p : ℕ) (within : p ≤ length l) where
  -- how many stand behind the place
  abbrev pub behind : ℕ
  behind = length l - p

  moved : take behind (drop p (l ++ j ∷ [])) ≡ drop p l
  moved =
      ap (take behind) (drop-append-le p l (j ∷ []) within)
      ∙ take-append-le behind (drop p l) (j ∷ []) (rw length-drop (omega arith))
      ∙ take_all behind (drop p l) (rw length-drop (omega arith))

  -- nothing stands behind the last
  none : drop (p + 1 + behind) (l ++ j ∷ []) ≡ []
  none = drop_of_length-le (l ++ j ∷ []) (rw length-append (omega arith))

  kept : take (p + 1) (l ++ j ∷ []) ≡ take p l ++ get_or (l ++ j ∷ []) p j ∷ []
  kept =
      let e : p + 1 ≡ suc p = omega arith in
      let long = length-append l (j ∷ []) in
      ap (λ (n : ℕ). take n (l ++ j ∷ [])) e
      ∙ take-suc (l ++ j ∷ []) p j (omega arith)
      ∙ ap (λ (m : List A). m ++ get_or (l ++ j ∷ []) p j ∷ []) (take-append-le p l (j ∷ []) within)

  pub last_brought : set (paste (l ++ j ∷ []) (p + 1) (drop p (l ++ j ∷ [])) behind) p j ≡ take p l ++ j ∷ drop p l
  last_brought =
      let x = get_or (l ++ j ∷ []) p j in
      let seam : take (p + 1) (l ++ j ∷ []) ++ take behind (drop p (l ++ j ∷ [])) ++ drop (p + 1 + behind) (l ++ j ∷ []) ≡ take p l ++ x ∷ drop p l =
      rw (kept, moved, none, append-nil) (append_snoc (take p l) x (drop p l)) in
      let place : p ≡ length (take p l) = sym (length-take-le p l within) in
      ap (λ (m : List A). set m p j) seam
      ∙ ap (λ (n : ℕ). set (take p l ++ x ∷ drop p l) n j) place
      ∙ set-append_seam (take p l) x (drop p l) j

-- a list of a fixed space, whose elements were lent and come back as many
pub as_many_back : {A : Type 0} (l m : List A) → length m ≡ length l → refill (length l) l m ≡ m
as_many_back l m long =
    let all : drop (length m) l ≡ [] = drop_of_length-le l (omega arith) in
    ap (λ r. take (length l) (m ++ r)) all ∙ ap (take (length l)) (append-nil m) ∙ take_all (length l) m (omega arith)
