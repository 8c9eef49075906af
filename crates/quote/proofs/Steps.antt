-- One step, from what its calls answer.
use Prim.Native.Nat.{ℕ, ◌+◌, ◌-◌, ◌*◌, ◌≤◌}
use native.Mathlib.Omega.{arith}
use mathlib.Core.Path.{◌≡◌, refl, sym, ap, ◌∙◌}
use mathlib.Core.Bool.{Bool, true, false, cond}
use mathlib.Core.List.{List}
use borrow.Author.Tests.{eqb-false}
use lib.Dec.{eqb}
use lib.ListN.{length}
use lib.Ieee.{Float}
use Rattle.std.specs.Prelude.{None, Option, Some}
use Rattle.geometry.specs.declared.Vec3.{Vec3}
use Rattle.chain.specs.declared.Prepared.{Prepared}
use Rattle.path.specs.Solving.{joints_over}
use Rattle.middle.specs.declared.Item.{Item}
use Rattle.middle.specs.declared.Tolerances.{Tolerances}
use Rattle.middle.specs.Testing.{joints_unchanged, midpoint, divides, verdict_with}
use Rattle.middle.proofs.Verdicts.{verdict_is}
use Rattle.turn.specs.Turning.{most, reached}
use Rattle.quote.specs.declared.Quoter.{Quoter}
use Rattle.quote.specs.Quotation.{per_test, cost_of}
use Rattle.quote.specs.QuotationSteps.{arrived, verdict_of, past, with_midpoint, if_inserted, place_with, place_after, stack_after, keeping, stepped, with_middle, inserting}
use Rattle.quote.proofs.Kept.{arrived_mid, left_kept, right_axis_kept, inserted_kept}

keep_divide : {B : Type 0} {middle : Item} → None ≡ Some middle → B
keep_divide e = let z : ◌≡◌ {A = ℕ} 0 1 = cc in absurd (omega arith)

divide_one : {a b : Item} → Some a ≡ Some b → b ≡ a
divide_one e = cc

-- two that divide differ in their joints, so that their test counts
counts_by : (v : Option Item) {middle : Item} (b : Bool) (n : ℕ) → cond b None v ≡ Some middle → n ≡ cond b 0 n
counts_by v true n e = keep_divide e
counts_by v false n e = refl

pub divided_counts : (p : Prepared) (tol : Tolerances) (left right : Item) (axis_left axis_right : Vec3) {said : Option Item} {middle : Item} {tested : ℕ}
    → said ≡ verdict_with p tol left right axis_left axis_right → said ≡ Some middle → tested ≡ per_test tol → tested ≡ cost_of tol left right
unfolding verdict_with cost_of
divided_counts p tol left right axis_left axis_right e f g = g ∙ counts_by _ (joints_unchanged left.joints right.joints) (per_test tol) (sym e ∙ f)

-- a midpoint has the pose that its joint set reaches
divided_arrived : (p : Prepared) (tol : Tolerances) (left right : Item) {middle : Item} → verdict_of p tol left right ≡ Some middle → middle ≡ arrived p middle.joints
unfolding verdict_of
divided_arrived p tol left right {middle} = go (divides p tol left right)
  where
    go : (b : Bool) → cond b (Some (midpoint p left right)) None ≡ Some middle → middle ≡ arrived p middle.joints
    go true e = let m : middle ≡ midpoint p left right = divide_one e in m ∙ sym (arrived_mid p left right) ∙ ap (λ (t : Item). arrived p t.joints) (sym m)
    go false e = keep_divide e

module _ (p : Prepared) (tol : Tolerances) (count : ℕ) (m : Quoter) (lent solved stack : List Float) (kept : m ≡ keeping p count m.place lent solved stack)
    {tested : ℕ} {said : Option Item} (is-tested : tested ≡ cost_of tol m.place.left m.right)
    (is_said : said ≡ verdict_with p tol m.place.left m.right m.left_axis m.right_axis) where
  verdict_kept : said ≡ verdict_of p tol m.place.left m.right
  unfolding verdict_of
  verdict_kept =
      is_said ∙ ap (λ (v : Vec3). verdict_with p tol m.place.left m.right v m.right_axis) (left_kept p count lent solved stack m kept)
      ∙ ap (verdict_with p tol m.place.left m.right (reached p m.place.left)) (right_axis_kept p count lent solved stack m kept)
      ∙ verdict_is p tol m.place.left m.right

  pub divided_kept : {middle : Item} → said ≡ Some middle → middle ≡ arrived p middle.joints
  divided_kept e = divided_arrived p tol m.place.left m.right (sym verdict_kept ∙ e)

  pub stepped_keep : {next : Quoter} → said ≡ None → next ≡ keeping p count (past m.place m.right tested) lent solved stack
      → (Some next ≡ stepped p count lent solved stack (place_after p tol m.place m.right)) × (stack ≡ stack_after p tol m.place m.right stack)
  unfolding place_after stack_after
  stepped_keep e f =
      let v : verdict_of p tol m.place.left m.right ≡ None = sym verdict_kept ∙ e in
      (rw (v, f, is-tested), rw v)

  by_count : (b : Bool) → eqb m.place.inserted most ≡ b → (middle : Item) → middle ≡ arrived p middle.joints
      → most ≤ m.place.top + m.place.inserted → m.place.inserted ≤ most → m.place.top ≤ 10000 → 50000 ≤ length stack
      → cond b None (Some (with_middle m middle tested))
      ≡ stepped p count lent solved (cond b stack (joints_over middle.joints stack ((m.place.top - 1) * 5))) (cond b None (Some (with_midpoint m.place tested)))
  by_count true e middle f a b c d = refl
  by_count false e middle f a b c d =
      let h = eqb-false m.place.inserted most e in
      ap Some (inserted_kept p count lent solved stack m middle tested kept f (omega arith) c d)

  pub stepped_divide : {middle : Item} {r : Option Quoter} {after : List Float} → most ≤ m.place.top + m.place.inserted → m.place.inserted ≤ most → m.place.top ≤ 10000 → 50000 ≤ length stack
      → said ≡ Some middle → r ≡ inserting m middle tested → after ≡ if_inserted m.place middle stack
      → (r ≡ stepped p count lent solved after (place_after p tol m.place m.right)) × (after ≡ stack_after p tol m.place m.right stack)
  unfolding place_after stack_after inserting if_inserted place_with
  stepped_divide {middle} a b c d e f g =
      let v : verdict_of p tol m.place.left m.right ≡ Some middle = sym verdict_kept ∙ e in
      let w = by_count (eqb m.place.inserted most) refl middle (divided_arrived p tol m.place.left m.right v) a b c d in
      (rw (v, g, ← is-tested) (f ∙ w), rw v g)
