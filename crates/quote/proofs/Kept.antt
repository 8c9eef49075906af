-- What the machine keeps of its evaluations is what it would evaluate: at the start, when the first that waits stays,
-- and when a midpoint waits before it.
use Prim.Native.Nat.{ℕ, ◌+◌, ◌-◌, ◌*◌, ◌≤◌, ◌<◌}
use mathlib.Core.Path.{◌≡◌, refl, sym, ap, ◌∙◌}
use mathlib.Core.Bool.{Bool, true, false, cond}
use native.Mathlib.Omega.{arith}
use borrow.Author.Tests.{eqb-false}
use mathlib.Core.List.{List}
use lib.Dec.{eqb}
use lib.ListN.{length}
use lib.Ieee.{Float}
use Rattle.geometry.specs.declared.Vec3.{Vec3}
use Rattle.chain.specs.declared.Joints.{Joints}
use Rattle.chain.specs.declared.Prepared.{Prepared}
use Rattle.path.specs.Solving.{joints_over}
use Rattle.middle.specs.declared.Item.{Item}
use Rattle.middle.specs.Testing.{pose_of, midpoint}
use Rattle.turn.specs.Items.{item_at, joints_in}
use Rattle.turn.specs.Turning.{most, axis_at, reached}
use Rattle.quote.specs.declared.Place.{Place}
use Rattle.quote.specs.declared.Quoter.{Quoter}
use Rattle.quote.specs.QuotationSteps.{arrived, next_given, first_waiting, past, with_midpoint, keeping, waiting_axis, end_after, with_middle}
use Rattle.quote.proofs.Waiting.{first_put}

pub arrived_mid : (p : Prepared) (x y : Item) → arrived p (midpoint p x y).joints ≡ midpoint p x y
unfolding arrived midpoint
arrived_mid p x y = refl

arrived_axis : (p : Prepared) (j : Joints) → (arrived p j).pose.axis ≡ reached p (arrived p j)
unfolding arrived
arrived_axis p j = refl

arrived_reaches : (p : Prepared) (j : Joints) → (arrived p j).pose.axis ≡ (pose_of p j).axis
unfolding arrived
arrived_reaches p j = refl

given_axis : (p : Prepared) (lent solved : List Float) (i : ℕ) → axis_at p solved i ≡ reached p (item_at lent solved i)
unfolding axis_at item_at
given_axis p lent solved i = refl

pub begun_axis : (p : Prepared) (lent solved : List Float) {left : Item} → left ≡ item_at lent solved 0 → axis_at p solved 0 ≡ reached p left
begun_axis p lent solved e = given_axis p lent solved 0 ∙ ap (reached p) (sym e)

abbrev quoter : Place → (axis_left : Vec3) → Item → (axis_right endAxis : Vec3) → Quoter
quoter s axis_left right axis_right endAxis = record { place = s; left_axis = axis_left; right = right; right_axis = axis_right; end_axis = endAxis }

module _ (p : Prepared) (count : ℕ) (lent solved stack : List Float) where
  by_top : (b : Bool) (i : ℕ) (j : Joints) (endAxis : Vec3) → endAxis ≡ axis_at p solved i
      → cond b endAxis (cond b (item_at lent solved i) (arrived p j)).pose.axis ≡ reached p (cond b (item_at lent solved i) (arrived p j))
  by_top true i j endAxis e = e ∙ given_axis p lent solved i
  by_top false i j endAxis e = arrived_axis p j

  axis_waiting : (top next : ℕ) (endAxis : Vec3) → endAxis ≡ axis_at p solved (next_given count next)
      → waiting_axis top (first_waiting p count top next lent solved stack) endAxis ≡ reached p (first_waiting p count top next lent solved stack)
  unfolding waiting_axis first_waiting
  axis_waiting top next endAxis e = by_top (eqb top most) (next_given count next) (joints_in stack (top * 5)) endAxis e

  pub evaluated_so : (s : Place) {axis_left endAxis axis_right : Vec3} {right : Item} → axis_left ≡ reached p s.left → endAxis ≡ axis_at p solved (next_given count s.next)
      → right ≡ first_waiting p count s.top s.next lent solved stack → axis_right ≡ waiting_axis s.top right endAxis
      → quoter s axis_left right axis_right endAxis ≡ keeping p count s lent solved stack
  unfolding keeping
  evaluated_so s {axis_left} {endAxis} {axis_right} {right} a b c d =
      let first = first_waiting p count s.top s.next lent solved stack in
      let e : axis_right ≡ reached p first = d ∙ ap (λ (t : Item). waiting_axis s.top t endAxis) c ∙ axis_waiting s.top s.next endAxis b in
      ap (λ (v : Vec3). quoter s v right axis_right endAxis) a
      ∙ ap (λ (t : Item). quoter s (reached p s.left) t axis_right endAxis) c
      ∙ ap (λ (v : Vec3). quoter s (reached p s.left) first v endAxis) e
      ∙ ap (λ (v : Vec3). quoter s (reached p s.left) first (reached p first) v) b

  pub keeps_place : {s : Place} {m : Quoter} → m ≡ keeping p count s lent solved stack → s ≡ m.place
  unfolding keeping
  keeps_place e = ap (λ (q : Quoter). q.place) (sym e)

  -- ---- the parts of a machine that keeps what it would evaluate
  module _ (m : Quoter) (e : m ≡ keeping p count m.place lent solved stack) where
    pub left_kept : m.left_axis ≡ reached p m.place.left
    unfolding keeping
    left_kept = ap (λ (q : Quoter). q.left_axis) e

    pub right_kept : m.right ≡ first_waiting p count m.place.top m.place.next lent solved stack
    unfolding keeping
    right_kept = ap (λ (q : Quoter). q.right) e

    pub right_axis_kept : m.right_axis ≡ reached p m.right
    unfolding keeping
    right_axis_kept = ap (λ (q : Quoter). q.right_axis) e ∙ ap (reached p) (sym right_kept)

    pub end_kept : m.end_axis ≡ axis_at p solved (next_given count m.place.next)
    unfolding keeping
    end_kept = ap (λ (q : Quoter). q.end_axis) e

  -- ---- the first that waits stays
  pub past_left : (s : Place) (right : Item) (tested : ℕ) → (past s right tested).left ≡ right
  unfolding past
  past_left s right tested = go (eqb s.top most)
    where
      go : (b : Bool) → (cond {A = Place} b
          (record { left = right; top = s.top; next = s.next + 1; inserted = s.inserted; evaluations = s.evaluations + tested })
          (record { left = right; top = s.top + 1; next = s.next; inserted = s.inserted; evaluations = s.evaluations + tested })).left ≡ right
      go true = refl
      go false = refl

  pub past_top : (s : Place) (right : Item) (tested : ℕ) → s.top ≤ 10000 → (past s right tested).top ≤ 10000
  unfolding past
  past_top s right tested h = go (eqb s.top most) (eqb-false s.top most)
    where
      go : (b : Bool) → (b ≡ false → s.top ≡ most → ⊥) → (cond {A = Place} b
          (record { left = right; top = s.top; next = s.next + 1; inserted = s.inserted; evaluations = s.evaluations + tested })
          (record { left = right; top = s.top + 1; next = s.next; inserted = s.inserted; evaluations = s.evaluations + tested })).top ≤ 10000
      go true f = h
      go false f = let n = f refl in omega arith

  pub end_past : (s : Place) (right : Item) (tested : ℕ) (endAxis : Vec3) → endAxis ≡ axis_at p solved (next_given count s.next)
      → end_after p count s.top (past s right tested).next endAxis solved ≡ axis_at p solved (next_given count (past s right tested).next)
  unfolding end_after past
  end_past s right tested endAxis e = go (eqb s.top most)
    where
      go : (b : Bool) → let next : ℕ = (cond {A = Place} b
          (record { left = right; top = s.top; next = s.next + 1; inserted = s.inserted; evaluations = s.evaluations + tested })
          (record { left = right; top = s.top + 1; next = s.next; inserted = s.inserted; evaluations = s.evaluations + tested })).next in
          cond {A = Vec3} b (axis_at p solved (next_given count next)) endAxis ≡ axis_at p solved (next_given count next)
      go true = refl
      go false = e

  -- the state then, from its parts
  pub moved_on : (m : Quoter) (tested : ℕ) → m ≡ keeping p count m.place lent solved stack
      → {s : Place} {endAxis axis_right : Vec3} {right : Item} → s ≡ past m.place m.right tested
      → endAxis ≡ end_after p count m.place.top s.next m.end_axis solved
      → right ≡ first_waiting p count s.top s.next lent solved stack → axis_right ≡ waiting_axis s.top right endAxis
      → quoter s m.right_axis right axis_right endAxis ≡ keeping p count (past m.place m.right tested) lent solved stack
  moved_on m tested e {s} {endAxis} {axis_right} {right} f g a b =
      evaluated_so s
      (right_axis_kept m e ∙ ap (reached p) (sym (past_left m.place m.right tested) ∙ ap (λ (t : Place). t.left) (sym f)))
      (rw f at g ∙ end_past m.place m.right tested m.end_axis (end_kept m e) ∙ ap (λ (t : Place). axis_at p solved (next_given count t.next)) (sym f))
      a b
      ∙ ap (λ (t : Place). keeping p count t lent solved stack) f

  -- ---- a midpoint waits
  pub inserted_kept : (m : Quoter) (middle : Item) (tested : ℕ) → m ≡ keeping p count m.place lent solved stack → middle ≡ arrived p middle.joints
      → 0 < m.place.top → m.place.top ≤ 10000 → 50000 ≤ length stack
      → with_middle m middle tested ≡ keeping p count (with_midpoint m.place tested) lent solved (joints_over middle.joints stack ((m.place.top - 1) * 5))
  unfolding with_middle with_midpoint keeping
  inserted_kept m middle tested e f a b l =
      let s = m.place in
      let then = with_midpoint s tested in
      let stack' = joints_over middle.joints stack ((s.top - 1) * 5) in
      let first : middle ≡ first_waiting p count (s.top - 1) s.next lent solved stack' = f ∙ sym (first_put p count s.top s.next lent solved stack middle.joints a b l) in
      let axis : middle.pose.axis ≡ reached p middle = ap (λ (t : Item). t.pose.axis) f ∙ arrived_reaches p middle.joints in
      ap (λ (v : Vec3). quoter then v middle middle.pose.axis m.end_axis) (left_kept m e)
      ∙ ap (λ (v : Vec3). quoter then (reached p s.left) middle v m.end_axis) (axis ∙ ap (reached p) first)
      ∙ ap (λ (t : Item). quoter then (reached p s.left) t (reached p (first_waiting p count (s.top - 1) s.next lent solved stack')) m.end_axis) first
      ∙ ap (λ (v : Vec3). quoter then (reached p s.left) (first_waiting p count (s.top - 1) s.next lent solved stack') (reached p (first_waiting p count (s.top - 1) s.next lent solved stack')) v) (end_kept m e)
