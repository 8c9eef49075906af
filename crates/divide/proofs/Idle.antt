-- A division with nothing to halve, and one with something.
use Prim.Native.Nat.{ℕ, zero, suc, ◌≤◌, ◌<◌}
use native.Mathlib.Omega.{arith}
use mathlib.Core.Path.{◌≡◌, refl, sym, ap, ◌∙◌}
use mathlib.Core.Bool.{Bool, true, false, cond, true≢false}
use mathlib.Core.Logic.{◌⊎◌, inl, inr}
use mathlib.Core.List.{List, [], ◌∷◌}
use borrow.Author.Tests.{leb-true, ltb-true, ltb-false, eqb-true, eqb-false, le-leb, lt-leb}
use lib.Dec.{eqb, leb, ltb}
use lib.ListN.{replicate, length}
use lib.Ieee.{Float}
use Rattle.float.specs.Helpers.{nought}
use Rattle.lists.specs.Rows.{flat}
use Rattle.lists.proofs.Padding.{padded_nil}
use Rattle.halving.specs.Halving.{Done, NoSpace, step, halve}
use Rattle.chain.specs.declared.Prepared.{Prepared}
use Rattle.middle.specs.declared.Item.{Item}
use Rattle.middle.specs.declared.Tolerances.{Tolerances}
use Rattle.turn.specs.Items.{items_in}
use Rattle.machine.specs.Dividing.{division, poses_over, joints_over}
use Rattle.divide.specs.Subdividing.{division_within, idle, idle_answer}
use Rattle.turn.proofs.Stored.{items_length}

pub less_or_not : (m n : ℕ) → (m < n) ⊎ (n ≤ m)
less_or_not m n = go (ltb m n) (ltb-true m n) (ltb-false m n)
  where
    go : (b : Bool) → (b ≡ true → m < n) → (b ≡ false → n ≤ m) → (m < n) ⊎ (n ≤ m)
    go true u v = inl (u refl)
    go false u v = inr (v refl)

-- ---- what is left of the outputs: +0.0
poses_none : (b : Bool) (o : List Float) → replicate (length o) nought ≡ poses_over (cond b (Done 0 []) (NoSpace 0)) o
unfolding flat
poses_none true o = sym (padded_nil (length o) nought)
poses_none false o = refl

joints_none : (b : Bool) (o : List Float) → replicate (length o) nought ≡ joints_over (cond b (Done 0 []) (NoSpace 0)) o
unfolding flat
joints_none true o = sym (padded_nil (length o) nought)
joints_none false o = refl

pub idle_poses : (space count : ℕ) (o : List Float) → replicate (length o) nought ≡ poses_over (idle_answer space count) o
unfolding idle_answer
idle_poses space count o = poses_none (leb count space) o

pub idle_joints : (space count : ℕ) (o : List Float) → replicate (length o) nought ≡ joints_over (idle_answer space count) o
unfolding idle_answer
idle_joints space count o = joints_none (leb count space) o

-- ---- nothing to halve
empty : (p : Prepared) (tol : Tolerances) (space : ℕ) (g : List Item) → length g ≡ 0 → division p tol space g ≡ Done 0 []
unfolding division halve step
empty p tol space [] e = refl
empty p tol space (x ∷ g) e = absurd (omega arith)

by_room : (p : Prepared) (tol : Tolerances) (space : ℕ) (g : List Item) (b : Bool) → leb (length g) space ≡ b → ((length g ≡ 0) → division p tol space g ≡ Done 0 []) → (b ≡ true → length g ≡ 0)
    → cond b (division p tol space g) (NoSpace 0) ≡ cond b (Done 0 []) (NoSpace 0)
by_room p tol space g true e f h = f (h refl)
by_room p tol space g false e f h = refl

none_given : (space count : ℕ) → cond (eqb count 0) true (ltb space count) ≡ true → leb count space ≡ true → count ≡ 0
none_given space count e f = go (eqb count 0) (ltb space count) (eqb-true count 0) (ltb-true space count) e
  where
    h : count ≤ space
    h = leb-true count space f

    go : (b d : Bool) → (b ≡ true → count ≡ 0) → (d ≡ true → space < count) → cond b true d ≡ true → count ≡ 0
    go true d u v w = u refl
    go false true u v w = let k = v refl in omega (arith, h, k)
    go false false u v w = absurd (true≢false (sym w))

pub idle_within : (p : Prepared) (tol : Tolerances) (space count : ℕ) (g : List Item) → length g ≡ count → idle space count ≡ true → division_within p tol space g ≡ idle_answer space count
unfolding division_within idle_answer idle
idle_within p tol space count g l e =
    by_room p tol space g (leb (length g) space) refl (empty p tol space g) (λ f. l ∙ none_given space count e (rw l at f))
    ∙ ap (λ (n : ℕ). cond (leb n space) (Done 0 []) (NoSpace 0)) l

-- ---- something to halve
pub busy : (space count : ℕ) → idle space count ≡ false → (0 < count) × (count ≤ space)
unfolding idle
busy space count e = go (eqb count 0) (ltb space count) (eqb-false count 0) (ltb-false space count) e
  where
    some : (n : ℕ) → (n ≡ 0 → ⊥) → 0 < n
    some zero f = absurd (f refl)
    some (suc n) f = omega arith

    go : (b d : Bool) → (b ≡ false → count ≡ 0 → ⊥) → (d ≡ false → count ≤ space) → cond b true d ≡ false → (0 < count) × (count ≤ space)
    go true d u v w = absurd (true≢false w)
    go false true u v w = absurd (true≢false w)
    go false false u v w = (some count (u refl), v refl)

pub busy_within : (p : Prepared) (tol : Tolerances) (space : ℕ) (g : List Item) → length g ≤ space → division_within p tol space g ≡ division p tol space g
unfolding division_within
busy_within p tol space g h = rw (le-leb (length g) space h)

pub full_within : (p : Prepared) (tol : Tolerances) (space : ℕ) (g : List Item) → space < length g → division_within p tol space g ≡ NoSpace 0
unfolding division_within
full_within p tol space g h = rw (lt-leb (length g) space h)

pub busy_items : (p : Prepared) (tol : Tolerances) (space count : ℕ) (poses joints : List Float) → count ≤ space → division_within p tol space (items_in count poses joints) ≡ division p tol space (items_in count poses joints)
busy_items p tol space count poses joints h = busy_within p tol space (items_in count poses joints) (rw (items_length count poses joints) h)
