-- The poses that are kept beside the stack: each is the one that its joint set reaches, at the start, where one more is
-- put, and where one is taken.
use Prim.Native.Nat.{ℕ, ◌+◌, ◌-◌, ◌*◌, ◌≤◌, ◌<◌}
use native.Mathlib.Omega.{arith}
use mathlib.Core.Path.{◌≡◌, refl, sym, ap, ◌∙◌, subst}
use mathlib.Core.Logic.{◌≢◌}
use mathlib.Core.Bool.{Bool, true, false, cond}
use mathlib.Core.List.{List}
use borrow.Author.Tests.{eqb-true, eqb-false, ltb-true, ltb-false}
use lib.Dec.{eqb, ltb}
use lib.ListN.{length, get_or, drop}
use lib.Seq.{get_or-set_same, get_or-set_other, sets}
use lib.Ieee.{Float}
use Rattle.std.specs.Prelude.{None, Option, Some}
use Rattle.lists.specs.Rows.{rows, Codec}
use Rattle.lists.proofs.Rows.{length_rows, get_or_rows, set_rows}
use Rattle.chain.specs.declared.Joints.{Joints}
use Rattle.chain.specs.declared.Prepared.{Prepared}
use Rattle.chain.specs.declared.ToolPose.{ToolPose}
use Rattle.path.specs.Solving.{pose_in, joints_over}
use Rattle.path.proofs.Walking.{joints_sets}
use Rattle.middle.specs.declared.Item.{Item}
use Rattle.middle.specs.Testing.{pose_of}
use Rattle.turn.specs.Items.{joints_in, pose_over}
use Rattle.turn.proofs.Stored.{pose_codec, joints_codec, pose_sets}
use Rattle.turn.specs.Turning.{most}
use Rattle.quote.specs.declared.Place.{Place}
use Rattle.quote.specs.declared.Quoter.{Quoter}
use Rattle.quote.specs.QuotationSteps.{arrived, PosesKept, keep_pose, past, with_midpoint, if_inserted, if_kept, with_middle, KeptOf, inserting}

-- ---- a record that was put is read there, and every other is as it was: one law over the width
module _ {A B : Type 0} {w : ℕ} {get : List B → A} {put : A → List B} (c : Codec w get put) (n : ℕ) (l : List B) (i : ℕ) (x : A) (h : i < n) (b : n * w ≤ length l) where
  there : get (drop (i * w) (sets l (i * w) (put x))) ≡ x
  there =
      sym (get_or_rows w get n (sets l (i * w) (put x)) i x h)
      ∙ ap (λ (z : List A). get_or z i x) (set_rows c n l i x h b)
      ∙ get_or-set_same (rows w get n l) i x x (rw (length_rows w get n l) h)

  elsewhere : (k : ℕ) → k < n → k ≢ i → get (drop (k * w) (sets l (i * w) (put x))) ≡ get (drop (k * w) l)
  elsewhere k g e =
      sym (get_or_rows w get n (sets l (i * w) (put x)) k x g)
      ∙ ap (λ (z : List A). get_or z k x) (set_rows c n l i x h b)
      ∙ get_or-set_other (rows w get n l) i k x x e
      ∙ get_or_rows w get n l k x g

module _ (stack : List Float) (j : Joints) (i : ℕ) (h : i < 10000) (b : 50000 ≤ length stack) where
  joints_there : joints_in (joints_over j stack (i * 5)) (i * 5) ≡ j
  unfolding joints_in
  joints_there = rw (joints_sets j stack (i * 5)) (there joints_codec 10000 stack i j h b)

  joints_elsewhere : (k : ℕ) → k < 10000 → k ≢ i → joints_in (joints_over j stack (i * 5)) (k * 5) ≡ joints_in stack (k * 5)
  unfolding joints_in
  joints_elsewhere k g e = rw (joints_sets j stack (i * 5)) (elsewhere joints_codec 10000 stack i j h b k g e)

module _ (tips : List Float) (x : ToolPose) (i : ℕ) (h : i < 5000) (b : 30000 ≤ length tips) where
  pose_there : pose_in (pose_over x tips (i * 6)) (i * 6) ≡ x
  unfolding pose_in
  pose_there = rw (pose_sets x tips (i * 6)) (there pose_codec 5000 tips i x h b)

  pose_elsewhere : (k : ℕ) → k < 5000 → k ≢ i → pose_in (pose_over x tips (i * 6)) (k * 6) ≡ pose_in tips (k * 6)
  unfolding pose_in
  pose_elsewhere k g e = rw (pose_sets x tips (i * 6)) (elsewhere pose_codec 5000 tips i x h b k g e)

module _ (p : Prepared) where
  pub kept_none : (stack tips : List Float) → PosesKept p 10000 stack tips
  kept_none stack tips i a b = absurd (omega (arith, a, b))

  pub kept_fewer : (top more : ℕ) (stack tips : List Float) → top ≤ more → PosesKept p top stack tips → PosesKept p more stack tips
  kept_fewer top more stack tips h kept i a b = kept i (omega (arith, h, a)) b

  pub kept_read : (top : ℕ) (stack tips : List Float) → PosesKept p top stack tips → 5000 ≤ top → top < 10000 → pose_in tips ((top - 5000) * 6) ≡ pose_of p (joints_in stack (top * 5))
  kept_read top stack tips kept a b =
      let e : top - 5000 + 5000 ≡ top = omega (arith, a) in
      subst (λ (t : ℕ). pose_in tips ((top - 5000) * 6) ≡ pose_of p (joints_in stack (t * 5))) e (kept (top - 5000) (omega (arith, a)) (omega (arith, a, b)))

  -- ---- one more at index k, before those from `suc k` on
  module _ (k : ℕ) (stack tips : List Float) (kept : PosesKept p (k + 1) stack tips) (j : Joints) (h : k < 10000) (long : 50000 ≤ length stack) (tips_long : 30000 ≤ length tips) where
    abbrev stack' : List Float
    stack' = joints_over j stack (k * 5)

    others : (i : ℕ) → k ≤ i + 5000 → i < 5000 → i + 5000 ≢ k → pose_in tips (i * 6) ≡ pose_of p (joints_in stack' ((i + 5000) * 5))
    others i a b e =
        let up : k + 1 ≤ i + 5000 = above (i + 5000) a e in
        kept i up b ∙ ap (pose_of p) (sym (joints_elsewhere stack j k h long (i + 5000) (omega (arith, b)) e))
      where
        above : (n : ℕ) → k ≤ n → n ≢ k → k + 1 ≤ n
        above n a e = go (ltb k n) refl
          where
            go : (b : Bool) → ltb k n ≡ b → k + 1 ≤ n
            go true f = let g = ltb-true k n f in omega (arith, g)
            go false f = let g = ltb-false k n f in absurd (e (omega (arith, g, a)))

    low : ltb k 5000 ≡ true → PosesKept p k stack' tips
    low f i a b = let g = ltb-true k 5000 f in others i a b (λ e. absurd (omega (arith, g, e)))

    high : ltb k 5000 ≡ false → PosesKept p k stack' (pose_over (pose_of p j) tips ((k - 5000) * 6))
    high f i a b = by (eqb i (k - 5000)) refl
      where
        g : 5000 ≤ k
        g = ltb-false k 5000 f

        at : k - 5000 < 5000
        at = omega (arith, h, g)

        by : (s : Bool) → eqb i (k - 5000) ≡ s → pose_in (pose_over (pose_of p j) tips ((k - 5000) * 6)) (i * 6) ≡ pose_of p (joints_in stack' ((i + 5000) * 5))
        by true e =
            let i_is : i ≡ k - 5000 = eqb-true i (k - 5000) e in
            let k_is : i + 5000 ≡ k = omega (arith, i_is, g) in
            ap (λ (n : ℕ). pose_in (pose_over (pose_of p j) tips ((k - 5000) * 6)) (n * 6)) i_is
            ∙ pose_there tips (pose_of p j) (k - 5000) at tips_long
            ∙ ap (pose_of p) (sym (joints_there stack j k h long) ∙ ap (λ (n : ℕ). joints_in stack' (n * 5)) (sym k_is))
        by false e =
            let ne = eqb-false i (k - 5000) e in
            pose_elsewhere tips (pose_of p j) (k - 5000) at tips_long i b ne
            ∙ others i a b (λ z. ne (omega (arith, z)))

    pub kept_put : PosesKept p k stack' (keep_pose (pose_of p j) tips k)
    unfolding keep_pose
    kept_put = by (ltb k 5000) refl
      where
        by : (s : Bool) → ltb k 5000 ≡ s → PosesKept p k stack' (cond s tips (pose_over (pose_of p j) tips ((k - 5000) * 6)))
        by true f = low f
        by false f = high f

-- ---- the first that waits stays: there are no more on the stack
up_past : (s : Place) (right : Item) (tested : ℕ) → s.top ≤ (past s right tested).top
unfolding past
up_past s right tested = go (eqb s.top most)
  where
    go : (b : Bool) → s.top ≤ (cond {A = Place} b
        (record { left = right; top = s.top; next = s.next + 1; inserted = s.inserted; evaluations = s.evaluations + tested })
        (record { left = right; top = s.top + 1; next = s.next; inserted = s.inserted; evaluations = s.evaluations + tested })).top
    go true = omega arith
    go false = omega arith

pub kept_past : (p : Prepared) (s : Place) (right : Item) (tested : ℕ) (stack tips : List Float) → PosesKept p s.top stack tips → PosesKept p (past s right tested).top stack tips
kept_past p s right tested stack tips kept = kept_fewer p s.top (past s right tested).top stack tips (up_past s right tested) kept

-- ---- a midpoint waits before it
arrived_pose : (p : Prepared) {middle : Item} → middle ≡ arrived p middle.joints → pose_of p middle.joints ≡ middle.pose
unfolding arrived
arrived_pose p e = ap (λ (t : Item). t.pose) (sym e)

pub kept_inserted : (p : Prepared) (m : Quoter) (middle : Item) (tested : ℕ) (stack tips : List Float) → PosesKept p m.place.top stack tips → middle ≡ arrived p middle.joints
    → most ≤ m.place.top + m.place.inserted → m.place.inserted ≤ most → m.place.top ≤ 10000 → 50000 ≤ length stack → 30000 ≤ length tips
    → {r : Option Quoter} {after poses : List Float} → r ≡ inserting m middle tested → after ≡ if_inserted m.place middle stack → poses ≡ if_kept m.place middle tips
    → KeptOf p after poses r
unfolding inserting if_inserted if_kept with_middle with_midpoint
kept_inserted p m middle tested stack tips kept e few least low long tips_long {r} {after} {poses} f g h =
    subst (λ (o : Option Quoter). KeptOf p after poses o) (sym f)
    (subst (λ (l : List Float). KeptOf p l poses (cond full None (Some (with_middle m middle tested)))) (sym g)
    (subst (λ (l : List Float). KeptOf p (cond full stack stacked) l (cond full None (Some (with_middle m middle tested)))) (sym h)
    (go full refl)))
  where
    full : Bool
    full = eqb m.place.inserted most

    stacked : List Float
    stacked = joints_over middle.joints stack ((m.place.top - 1) * 5)

    go : (b : Bool) → eqb m.place.inserted most ≡ b → KeptOf p (cond b stack stacked) (cond b tips (keep_pose middle.pose tips (m.place.top - 1))) (cond b None (Some (with_middle m middle tested)))
    go true d = tt
    go false d =
        let n = eqb-false m.place.inserted most d in
        let one : m.place.top - 1 + 1 ≡ m.place.top = omega arith in
        let before : PosesKept p (m.place.top - 1 + 1) stack tips = subst (λ (t : ℕ). PosesKept p t stack tips) (sym one) kept in
        subst (λ (x : ToolPose). PosesKept p (m.place.top - 1) stacked (keep_pose x tips (m.place.top - 1))) (arrived_pose p e)
        (kept_put p (m.place.top - 1) stack tips before middle.joints (omega arith) long tips_long)
