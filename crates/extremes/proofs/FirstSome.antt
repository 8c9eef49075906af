-- The library's `find_map`, by the list that its iterator gives: the first answer that is some.
use Prim.Native.Nat.{ℕ, suc, ◌+◌, ◌<◌}
use mathlib.Core.Path.{◌≡◌, refl, sym, subst, ap, ◌∙◌}
use mathlib.Core.Bool.{true}
use mathlib.Core.List.{List, [], ◌∷◌, map}
use denote.Param.Members.{Mut}
use Rattle.std.specs.Prelude.{Option, Some, None, MatchOption, IfSome}
use Rattle.std.specs.List.{slice_get}
use Rattle.std.specs.Fn.{Called}
use Rattle.std.specs.List.{FoldsTo}
use Rattle.std.specs.Iterator.{AlwaysYields, YieldsThen, FindsMapped}
use Rattle.std.specs.Iterator.Runs.{Run, SomeRun, AllItemsGive, IsFirstToGive, YieldsRun}
use Rattle.std.proofs.lemmas.Iterator.{YieldsList, items_from_drains}

abbrev pub either : {C : Type 0} → Option C → Option C → Option C
either (Some c) later = Some c
either None later = later

abbrev pub first_some : {B C : Type 0} → (B → Option C) → List B → Option C
first_some answer [] = None
first_some answer (y ∷ ys) = either (answer y) (first_some answer ys)

module _ {S A B C F : Type 0} (steps : S → Option A → S → Type 0) (v : A → B) {g : Mut F (A × Unit {0}) (Option C)} (answer : B → Option C) (f : F)
    (told : (x : A) (r : Option C) (q : F) → Called g f (x, tt) r q → (q ≡ f) × (r ≡ answer (v x))) where
  walk : (xs : List A) (o : Option A) (j : F) (c : C) (all : List B) (s u : S) → AlwaysYields steps v s all → YieldsThen steps s xs o u → FoldsTo (λ p x q. Called g p (x, tt) None q) f xs j
      → MatchOption o (Some c ≡ None) (λ x. (i : F) × Called g j (x, tt) (Some c) i) → Some c ≡ first_some answer all
  walk [] None j c all s u e y z m = cc
  walk [] (Some x) j c [] s u e y z m = absurd (e x u (subst (λ t. steps t (Some x) u) (sym y.1) y.2))
  walk [] (Some x) j c (b ∷ all) s u e y z m =
      let here = (e.1 x u (subst (λ t. steps t (Some x) u) (sym y.1) y.2)).0 in
      let said = (told x (Some c) m.0 (subst (λ p. Called g p (x, tt) (Some c) m.0) (sym z) m.1)).1 in
      ap (λ t. either t (first_some answer all)) (said ∙ ap answer here)
  walk (x ∷ xs) o j c [] s u e y z m = absurd (e x y.1.0 y.1.1)
  walk (x ∷ xs) o j c (b ∷ all) s u e y z m =
      let here = e.1 x y.1.0 y.1.1 in
      let said = told x None z.0 z.1 in
      walk xs o j c all y.1.0 u here.1 (y.0, y.1.2, y.2) (subst (λ p. FoldsTo (λ q i t. Called g q (i, tt) None t) p xs j) said.0 z.2) m
      ∙ ap (λ t. either t (first_some answer all)) (said.1 ∙ ap answer here.0)

  none : (xs : List A) → ((k : ℕ) → IfSome (slice_get xs k) (λ x. Called g f (x, tt) None f)) → None ≡ first_some answer (map v xs)
  none [] a = refl
  none (x ∷ xs) a = none xs (λ k. a (suc k)) ∙ ap (λ t. either t (first_some answer (map v xs))) (told x None f (a 0)).1

  ended : (p : Run steps) (all : List B) → YieldsList steps v p.from all → p.whole ≡ true → AllItemsGive p g f None → None ≡ first_some answer all
  unfolding YieldsRun
  ended p all e w a =
      let d = p.gave.0 in
      let each : (k : ℕ) → IfSome (slice_get p.items k) (λ x. Called g f (x, tt) None f) =
      λ k. subst (λ o. IfSome o (λ x. Called g f (x, tt) None f)) (p.gave.1 k) (a (λ x r q c. (told x.0 r q c).0) k) in
      none p.items each ∙ ap (first_some answer) (items_from_drains p.items (d.0, d.1, λ _. d.2 w) e)

  pub first_mapped : (r : Option C) {s : S} (u : S) {all : List B} → FindsMapped steps g s f r u
      → SomeRun steps s (λ p. MatchOption r ((p.whole ≡ true) × AllItemsGive p g f None) (λ c. (i : ℕ) × (i < p.len) × (p.len ≡ i + 1) × IsFirstToGive p g f (Some c) None i))
      → YieldsList steps v s all → r ≡ first_some answer all
  first_mapped None u {all} d h e = ended h.0 all (subst (λ t. YieldsList steps v t all) (sym h.1) e) h.2.0 h.2.1
  first_mapped (Some c) {s} u {all} d h e = walk d.0 d.1 d.2 c all s u e.runs d.3 d.4 d.5
