-- The order of joint sets is one way only, so that a list sorted by insertion has no two neighbours the wrong way round.
use Prim.Native.Nat.{ℕ, zero, suc, ◌<◌}
use native.Mathlib.Nat.{le_of_suc-le-suc}
use native.Mathlib.Omega.{arith}
use mathlib.Core.Path.{◌≡◌, refl, sym, ap, ◌∙◌}
use mathlib.Core.Bool.{Bool, true, false, not, ◌&&◌, ◌||◌, cond, true≢false, false≢true, and-eq-true_iff}
use mathlib.Core.List.{List, [], ◌∷◌}
use lib.ListN.{length, get_or}
use lib.Ieee.{Float, lt, eq, is_nan}
use borrow.Author.Tests.{not-true}
use Rattle.lists.specs.Fold.{fold}
use Rattle.float.specs.Helpers.{negative, size_of}
use Rattle.float.specs.TotalOrder.{before}
use Rattle.float.proofs.Order.{lt_le, eq_le, le_left, le_right, lt_not_le}
use Rattle.chain.specs.declared.Joints.{Joints}
use Rattle.inverse.specs.Solutions.{smaller, precedes, insert, sorted}

-- ---- totalOrder
never : (b : Bool) → (b ≡ true → ⊥) → b ≡ false
never true f = absurd (f refl)
never false f = refl

-- `before`, of the tests that it makes
abbrev by_parts : Bool → Bool → Bool → Bool → Bool → Bool → Bool
by_parts nanX nanY less same negX negY = cond nanY (not nanX) (less || (same && (negX && not negY)))

one_way : (nanX nanY lessX sameX lessY sameY negX negY : Bool)
    → (nanX ≡ true → (lessX ≡ false) × (sameX ≡ false) × (lessY ≡ false) × (sameY ≡ false))
    → (nanY ≡ true → (lessX ≡ false) × (sameX ≡ false) × (lessY ≡ false) × (sameY ≡ false))
    → (lessX ≡ true → (lessY ≡ false) × (sameY ≡ false))
    → (sameX ≡ true → lessY ≡ false)
    → by_parts nanX nanY lessX sameX negX negY ≡ true → by_parts nanY nanX lessY sameY negY negX ≡ false
one_way true true lx sx ly sy a b f g h i e = absurd (false≢true e)
one_way true false lx sx ly sy a b f g h i e = let z = f refl in absurd (false≢true (rw (z.0, z.1) at e))
one_way false true lx sx ly sy a b f g h i e = let z = g refl in rw (z.2, z.3)
one_way false false true sx ly sy a b f g h i e = let z = h refl in rw (z.0, z.1)
one_way false false false true ly sy true false f g h i e = rw (i refl) (flat sy)
  where
    flat : (s : Bool) → (s && false) ≡ false
    flat true = refl
    flat false = refl
one_way false false false true ly sy true true f g h i e = absurd (false≢true e)
one_way false false false true ly sy false b f g h i e = absurd (false≢true e)
one_way false false false false ly sy a b f g h i e = absurd (false≢true e)

nan_apart : (x y : Float) → is_nan x ≡ true → (lt x y ≡ false) × (eq x y ≡ false) × (lt y x ≡ false) × (eq y x ≡ false)
nan_apart x y n = (
  never (lt x y) (λ h. true≢false (sym n ∙ le_left x y (lt_le x y h))),
  never (eq x y) (λ h. true≢false (sym n ∙ le_left x y (eq_le x y h))),
  never (lt y x) (λ h. true≢false (sym n ∙ le_right y x (lt_le y x h))),
  never (eq y x) (λ h. true≢false (sym n ∙ le_right y x (eq_le y x h))),
)

before_asym : (x y : Float) → before x y ≡ true → before y x ≡ false
unfolding before
before_asym x y =
    one_way (is_nan x) (is_nan y) (lt x y) (eq x y) (lt y x) (eq y x) (negative x) (negative y) (nan_apart x y)
    (λ n. let z = nan_apart y x n in (z.2, z.3, z.0, z.1))
    (λ h. (
      never (lt y x) (λ l. false≢true (sym (lt_not_le x y h) ∙ lt_le y x l)),
      never (eq y x) (λ l. false≢true (sym (lt_not_le x y h) ∙ eq_le y x l)),
    ))
    (λ h. never (lt y x) (λ l. false≢true (sym (lt_not_le y x l) ∙ eq_le x y h)))

-- ---- joint sets
lex : (a b x y : Bool) → (a ≡ true → b ≡ false) → (x ≡ true → y ≡ false) → cond a true (cond b false x) ≡ true → cond b true (cond a false y) ≡ false
lex true true x y f g h = absurd (true≢false (f refl))
lex true false x y f g h = refl
lex false true x y f g h = absurd (false≢true h)
lex false false x y f g h = g h

pub precedes_asym : (j k : Joints) → precedes j k ≡ true → precedes k j ≡ false
unfolding precedes smaller
precedes_asym j k =
    lex (smaller j k) (smaller k j) _ _ (before_asym (size_of j.a0) (size_of k.a0))
    (lex (before j.a0 k.a0) (before k.a0 j.a0) _ _ (before_asym j.a0 k.a0) (before_asym j.a1 k.a1))

-- ---- a list in order
-- nothing, or what does not precede j, stands behind it
abbrev pub leads : Joints → List Joints → Bool
leads j [] = true
leads j (k ∷ l) = not (precedes k j)

unfoldable pub in_order : List Joints → Bool
in_order [] = true
in_order (j ∷ l) = leads j l && in_order l

leads_by : (b : Bool) (k j m : Joints) (l n : List Joints) → precedes j k ≡ false → leads k (m ∷ l) ≡ true → leads k (cond b (j ∷ m ∷ l) (m ∷ n)) ≡ true
leads_by true k j m l n e h = ap not e
leads_by false k j m l n e h = h

leads_insert : (k j : Joints) (l : List Joints) → precedes j k ≡ false → leads k l ≡ true → leads k (insert l j) ≡ true
unfolding insert
leads_insert k j [] e h = ap not e
leads_insert k j (m ∷ l) e h = leads_by (precedes j m) k j m l (insert l j) e h

order_by : (b : Bool) (j k : Joints) (l : List Joints) → precedes j k ≡ b → in_order (k ∷ l) ≡ true → in_order (insert l j) ≡ true → in_order (cond b (j ∷ k ∷ l) (k ∷ insert l j)) ≡ true
unfolding in_order
order_by true j k l e h i = rw (precedes_asym j k e) h
order_by false j k l e h i = rw (leads_insert k j l e ((and-eq-true_iff (leads k l) (in_order l)).0 h).0) i

insert_order : (l : List Joints) (j : Joints) → in_order l ≡ true → in_order (insert l j) ≡ true
unfolding insert in_order
insert_order [] j h = refl
insert_order (k ∷ l) j h = order_by (precedes j k) j k l refl h (insert_order l j ((and-eq-true_iff (leads k l) (in_order l)).0 h).1)

fold_order : (l done : List Joints) → in_order done ≡ true → in_order (fold insert done l) ≡ true
unfolding fold
fold_order [] done h = h
fold_order (j ∷ l) done h = fold_order l (insert done j) (insert_order done j h)

pub sorted_order : (l : List Joints) → in_order (sorted l) ≡ true
unfolding sorted in_order
sorted_order l = fold_order l [] refl

pub neighbours : (l : List Joints) (i : ℕ) (d : Joints) → in_order l ≡ true → suc i < length l → precedes (get_or l (suc i) d) (get_or l i d) ≡ false
unfolding in_order
neighbours [] i d h p = absurd (omega arith)
neighbours (j ∷ []) i d h p = absurd (omega arith)
neighbours (j ∷ k ∷ l) zero d h p = not-true _ ((and-eq-true_iff (leads j (k ∷ l)) (in_order (k ∷ l))).0 h).0
neighbours (j ∷ k ∷ l) (suc i) d h p = neighbours (k ∷ l) i d ((and-eq-true_iff (leads j (k ∷ l)) (in_order (k ∷ l))).0 h).1 (le_of_suc-le-suc p)
