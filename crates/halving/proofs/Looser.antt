-- A looser test divides fewer pairs: where the stricter halving is done the looser one is, within the same space and limit, and
-- every item that it inserts the stricter one inserts, in the same order.
use Prim.Native.Nat.{ℕ, ◌+◌, ◌≤◌}
use native.Mathlib.Omega.{arith}
use mathlib.Core.Path.{◌≡◌, refl}
use mathlib.Core.Bool.{Bool, true, false}
use mathlib.Core.List.Sublistᴰ
use mathlib.Core.List.{List, [], ◌∷◌, ◌++◌, Sublistᴰ}
use lib.ListN.{length}
use Rattle.halving.specs.Halving.{halve, Done}
use Rattle.halving.proofs.Step.{true_false}
use Rattle.halving.proofs.Ends.{ends_done, result_on}
use Rattle.halving.specs.Inserting.{Between, undivided, divided, Inserts, no_item, one_item, more_items}
use Rattle.halving.proofs.Pairs.{inserts_steps, steps_inserts}

sub_length : {A : Type 0} {l r : List A} → Sublistᴰ l r → length l ≤ length r
sub_length Sublistᴰ.slnil = omega arith
sub_length (Sublistᴰ.cons s) = let h = sub_length s in omega arith
sub_length (Sublistᴰ.cons-cons e s) = let h = sub_length s in omega arith

sub_nil : {A : Type 0} (l : List A) → Sublistᴰ [] l
sub_nil [] = Sublistᴰ.slnil
sub_nil (x ∷ l) = Sublistᴰ.cons (sub_nil l)

sub_append : {A : Type 0} {a b c d : List A} → Sublistᴰ a b → Sublistᴰ c d → Sublistᴰ (a ++ c) (b ++ d)
sub_append Sublistᴰ.slnil t = t
sub_append (Sublistᴰ.cons s) t = Sublistᴰ.cons (sub_append s t)
sub_append (Sublistᴰ.cons-cons e s) t = Sublistᴰ.cons-cons e (sub_append s t)

module _ {A : Type 0} (strict loose : A → A → Bool) (mid : A → A → A) (looser : (x y : A) → loose x y ≡ true → strict x y ≡ true) where
  keeps : (x y : A) → strict x y ≡ false → loose x y ≡ false
  keeps x y h = go (loose x y) refl
    where
      go : (b : Bool) → loose x y ≡ b → loose x y ≡ false
      go true e = true_false _ (looser x y e) h
      go false e = e

  between : {x y : A} {a : List A} → Between strict mid x y a → (b : List A) × (Between loose mid x y b × Sublistᴰ b a)
  between {x} {y} (undivided e) = ([], (undivided (keeps x y e), Sublistᴰ.slnil))
  between {x} {y} (divided {a = a} {b = b} e s t) = go (loose x y) refl (between s) (between t)
    where
      go : (c : Bool) → loose x y ≡ c → (d : List A) × (Between loose mid x (mid x y) d × Sublistᴰ d a) → (d : List A) × (Between loose mid (mid x y) y d × Sublistᴰ d b)
          → (d : List A) × (Between loose mid x y d × Sublistᴰ d (a ++ mid x y ∷ b))
      go true f (p, u) (q, v) = (p ++ mid x y ∷ q, (divided f u.0 v.0, sub_append u.1 (Sublistᴰ.cons-cons refl v.1)))
      go false f u v = ([], (undivided f, sub_nil (a ++ mid x y ∷ b)))

  -- i is inserted by the stricter test, with the result r: the looser one inserts `fewer`, with the result `shorter`
  pub record Looser (l i r : List A) : Type 0 where
    pub fewer : List A
    pub shorter : List A
    pub inserts : Inserts loose mid l fewer shorter
    pub among : Sublistᴰ fewer i
    pub part : Sublistᴰ shorter r

  pub loosened : {l i r : List A} → Inserts strict mid l i r → Looser l i r
  loosened no_item = record { fewer = []; shorter = []; inserts = no_item; among = Sublistᴰ.slnil; part = Sublistᴰ.slnil }
  loosened (one_item {x = x}) = record { fewer = []; shorter = x ∷ []; inserts = one_item; among = Sublistᴰ.slnil; part = Sublistᴰ.refl (x ∷ []) }
  loosened (more_items {x = x} b s) =
      let (d, q) = between b in
      let z = loosened s in
      record {
        fewer = d ++ z.fewer;
        shorter = x ∷ (d ++ z.shorter);
        inserts = more_items q.0 z.inserts;
        among = sub_append q.1 z.among;
        part = Sublistᴰ.cons-cons refl (sub_append q.1 z.part);
      }

  -- the same of the two halvings
  pub record Fewer (space left n : ℕ) (l : List A) (c : ℕ) (r : List A) : Type 0 where
    pub inserted : List A
    pub before : Inserts strict mid l inserted r
    pub then : Looser l inserted r
    pub count : ℕ
    pub no_more : count ≤ c
    pub accepted : halve loose mid space left n l ≡ Done count then.shorter

  pub looser_done : (space left n c : ℕ) (l r : List A) → length l ≤ space → halve strict mid space left n l ≡ Done c r → Fewer space left n l c r
  looser_done space left n c l r b w =
      let (a, q) = result_on strict mid space left n c l r b w in
      let (i, t) = steps_inserts strict mid q.steps q.ended in
      let z = loosened t.0 in
      let (s, e) = inserts_steps loose mid z.inserts in
      let f = sub_length z.among in
      let g = sub_length z.part in
      let h = t.1 in
      record {
        inserted = i;
        before = t.0;
        then = z;
        count = n + length z.fewer;
        no_more = omega arith;
        accepted = ends_done loose mid space left n s e (omega arith) (omega arith);
      }
