-- The machine over the two outputs: its invariant, and what a turn makes of it. The laws are those of the abstract machine (crate halving), carried to items in flat lists, with the two axes at hand.
use Prim.Native.Nat.{ℕ, ◌+◌, ◌-◌, ◌*◌, ◌≤◌, ◌<◌}
use native.Mathlib.Omega.{arith}
use mathlib.Core.Path.{◌≡◌, refl, sym, ap, ◌∙◌, subst}
use mathlib.Core.Bool.{Bool, true, false, cond}
use mathlib.Core.List.{List}
use borrow.Author.Tests.{eqb-true, eqb-false, lt-leb}
use lib.Arith.{lt_of_le-ne}
use lib.Dec.{eqb}
use lib.ListN.{length, get_or, set}
use lib.Ieee.{Float}
use Rattle.std.specs.Prelude.{None, Option, Some, Err, Ok}
use Rattle.halving.specs.Halving as Halving
use Rattle.halving.specs.Halving.{halve}
use Rattle.halving.proofs.Machine.{State, turn_many, turn_full, turn_insert, turn_place, to_do, falls_inserting, falls_placing}
use Rattle.chain.specs.declared.Prepared.{Prepared}
use Rattle.turn.specs.declared.Stop.{Stop}
use Rattle.turn.specs.Items.{item_at, items_in, poses_with, joints_with}
use Rattle.middle.specs.Testing.{divides, midpoint}
use Rattle.turn.specs.Turning.{most, axis_at, given_next, axis_right, end_after, past_given, past_inserted, past, before, with_midpoint, inserting, if_inserted, verdict_at, turn, poses_by, joints_by, poses_after, joints_after, absent, reached, Cached, Turn}
use Rattle.middle.specs.declared.Item.{Item}
use Rattle.turn.specs.declared.Machine.{Machine}
use Rattle.middle.specs.declared.Tolerances.{Tolerances}
use Rattle.middle.proofs.Verdicts.{verdict_is}
use Rattle.turn.proofs.Stored.{item_is, item_set, poses_with_long, joints_with_long}
use Rattle.turn.proofs.Cached.{right_given, right_inserted, placed_given, placed_inserted, put_before}

-- a turn stores in the two lists, and they stay as long
stored_long : (a b : Bool) (l l' : List Float) → length l' ≡ length l → length (cond a l (cond b l l')) ≡ length l
stored_long true b l l' e = refl
stored_long false true l l' e = refl
stored_long false false l l' e = e

poses_by_long : (m : Machine) (right : Item) (poses : List Float) (v : Option Item) → length (poses_by m right poses v) ≡ length poses
unfolding if_inserted
poses_by_long m right poses None = poses_with_long right poses m.placed
poses_by_long m right poses (Some t) = stored_long (eqb m.inserted most) (eqb m.placed m.waiting) poses (poses_with t poses (before m)) (poses_with_long t poses (before m))

joints_by_long : (m : Machine) (right : Item) (joints : List Float) (v : Option Item) → length (joints_by m right joints v) ≡ length joints
unfolding if_inserted
joints_by_long m right joints None = joints_with_long right joints m.placed
joints_by_long m right joints (Some t) = stored_long (eqb m.inserted most) (eqb m.placed m.waiting) joints (joints_with t joints (before m)) (joints_with_long t joints (before m))

pub poses_after_long : (p : Prepared) (tol : Tolerances) (space : ℕ) (m : Machine) (poses joints : List Float) → length (poses_after p tol space m poses joints) ≡ length poses
unfolding poses_after
poses_after_long p tol space m poses joints = poses_by_long m (item_at poses joints m.waiting) poses (verdict_at p tol space m poses joints)

pub joints_after_long : (p : Prepared) (tol : Tolerances) (space : ℕ) (m : Machine) (poses joints : List Float) → length (joints_after p tol space m poses joints) ≡ length joints
unfolding joints_after
joints_after_long p tol space m poses joints = joints_by_long m (item_at poses joints m.waiting) joints (verdict_at p tol space m poses joints)

pub axis_there : (p : Prepared) (space : ℕ) (poses joints : List Float) (i : ℕ) → i < space → axis_at p joints i ≡ reached p (get_or (items_in space poses joints) i absent)
unfolding axis_at item_at
axis_there p space poses joints i h = sym (ap (reached p) (item_is space poses joints i h))

module _ (p : Prepared) (tol : Tolerances) (space : ℕ) (g : List Item) (had : ℕ) where
  pub record Here (poses joints : List Float) (m : Machine) : Type 0 where
    pub state : State (divides p tol) (midpoint p) space most g had (items_in space poses joints) m.placed m.waiting m.inserted
    pub cached : Cached p space (items_in space poses joints) m.placed m.waiting m.given m.left_axis m.end_axis
    pub poses_long : space * 6 ≤ length poses
    pub joints_long : space * 5 ≤ length joints

  -- what the halving of g comes to
  abbrev pub whole_halving : Halving.Answer Item
  whole_halving = halve (divides p tol) (midpoint p) space (most - had) had g

  abbrev pub work : Machine → ℕ
  work m = to_do space most m.waiting m.inserted

  -- what a turn leaves behind
  abbrev pub Turned : Machine → List Float → List Float → Turn → Type 0
  Turned m poses joints (Ok next) = Here poses joints next × (work next < work m)
  Turned m poses joints (Err (Stop.TooMany n)) = whole_halving ≡ Halving.TooMany n
  Turned m poses joints (Err (Stop.NoSpace n)) = whole_halving ≡ Halving.NoSpace n

  module _ {poses joints : List Float} {m : Machine} (σ : Here poses joints m) (more : m.waiting < space) where
    left_there : item_at poses joints (m.placed - 1) ≡ get_or (items_in space poses joints) (m.placed - 1) absent
    left_there = let t = σ.state in sym (item_is space poses joints (m.placed - 1) (omega (arith, t.some_placed, t.apart, t.waits)))

    right_there : item_at poses joints m.waiting ≡ get_or (items_in space poses joints) m.waiting absent
    right_there = sym (item_is space poses joints m.waiting more)

    by_given : (b : Bool) → given_next space m ≡ b → axis_right space m (item_at poses joints m.waiting) ≡ reached p (item_at poses joints m.waiting)
    unfolding axis_right given_next
    by_given true e = rw e (right_given σ.cached σ.state.as_long σ.state.apart more (eqb-true _ _ e) ∙ ap (reached p) (sym right_there))
    by_given false e =
        rw e (ap (λ (t : Item). t.pose.axis) right_there
        ∙ right_inserted σ.cached σ.state.as_long σ.state.apart more (eqb-false _ _ e) ∙ ap (reached p) (sym right_there))

    right_reached : axis_right space m (item_at poses joints m.waiting) ≡ reached p (item_at poses joints m.waiting)
    right_reached = by_given (given_next space m) refl

    verdict_here : verdict_at p tol space m poses joints
        ≡ cond (divides p tol (item_at poses joints (m.placed - 1)) (item_at poses joints m.waiting))
        (Some (midpoint p (item_at poses joints (m.placed - 1)) (item_at poses joints m.waiting))) None
    unfolding verdict_at
    verdict_here =
        let l : m.left_axis ≡ reached p (item_at poses joints (m.placed - 1)) = σ.cached.at_left ∙ ap (reached p) (sym left_there) in
        rw (right_reached, l) (verdict_is p tol (item_at poses joints (m.placed - 1)) (item_at poses joints m.waiting))

    -- an item is stored
    stored : {next : Machine} (i : ℕ) (t : Item) → i < space
        → State (divides p tol) (midpoint p) space most g had (set (items_in space poses joints) i t) next.placed next.waiting next.inserted
        → Cached p space (set (items_in space poses joints) i t) next.placed next.waiting next.given next.left_axis next.end_axis
        → Here (poses_with t poses i) (joints_with t joints i) next
    stored {next} i t h s c =
        let u : set (items_in space poses joints) i t ≡ items_in space (poses_with t poses i) (joints_with t joints i) =
        sym (item_set space poses joints i t h σ.poses_long σ.joints_long) in
        record {
          state = subst (λ (l : List Item). State (divides p tol) (midpoint p) space most g had l next.placed next.waiting next.inserted) u s;
          cached = subst (λ (l : List Item). Cached p space l next.placed next.waiting next.given next.left_axis next.end_axis) u c;
          poses_long = rw poses_with_long σ.poses_long;
          joints_long = rw joints_with_long σ.joints_long;
        }

    -- the first that waits is placed
    next_end : 1 < m.given → end_after p m joints ≡ reached p (get_or (items_in space poses joints) (m.waiting + 1) absent)
    unfolding end_after
    next_end h =
        let f = σ.cached.fewer in
        rw (lt-leb m.given 1 h) (axis_there p space poses joints (m.waiting + 1) (omega (arith, f, h)))

    placed_state : divides p tol (item_at poses joints (m.placed - 1)) (item_at poses joints m.waiting) ≡ false
        → State (divides p tol) (midpoint p) space most g had (set (items_in space poses joints) m.placed (item_at poses joints m.waiting)) (m.placed + 1) (m.waiting + 1) m.inserted
    placed_state f = turn_place absent σ.state more left_there right_there f

    placed_within : m.placed < space
    placed_within = let t = σ.state in omega (arith, t.apart, more)

    place : (b : Bool) → given_next space m ≡ b → divides p tol (item_at poses joints (m.placed - 1)) (item_at poses joints m.waiting) ≡ false
        → Here (poses_with (item_at poses joints m.waiting) poses m.placed) (joints_with (item_at poses joints m.waiting) joints m.placed)
        (past p space m (axis_right space m (item_at poses joints m.waiting)) joints)
        × (work (past p space m (axis_right space m (item_at poses joints m.waiting)) joints) < work m)
    unfolding past past_given past_inserted given_next
    place true e f =
        rw e (
          stored {next = past_given p m (axis_right space m (item_at poses joints m.waiting)) joints} m.placed (item_at poses joints m.waiting) placed_within (placed_state f)
              (placed_given σ.cached σ.state.as_long σ.state.apart (item_at poses joints m.waiting) more (eqb-true _ _ e) right_reached next_end),
          falls_placing σ.state more,
        )
    place false e f =
        rw e (
          stored {next = past_inserted m (axis_right space m (item_at poses joints m.waiting))} m.placed (item_at poses joints m.waiting) placed_within (placed_state f)
              (placed_inserted σ.cached σ.state.as_long σ.state.apart (item_at poses joints m.waiting) more (eqb-false _ _ e) right_reached),
          falls_placing σ.state more,
        )

    -- their midpoint has its place before it, or none
    insert_on : divides p tol (item_at poses joints (m.placed - 1)) (item_at poses joints m.waiting) ≡ true → m.inserted < most → m.placed < m.waiting
        → Here (poses_with (midpoint p (item_at poses joints (m.placed - 1)) (item_at poses joints m.waiting)) poses (before m))
        (joints_with (midpoint p (item_at poses joints (m.placed - 1)) (item_at poses joints m.waiting)) joints (before m)) (with_midpoint m)
        × (work (with_midpoint m) < work m)
    unfolding before with_midpoint
    insert_on e a b = (
      stored {next = with_midpoint m} (m.waiting - 1) (midpoint p (item_at poses joints (m.placed - 1)) (item_at poses joints m.waiting)) (omega (arith, more))
          (turn_insert absent σ.state more left_there right_there refl e a b)
          (put_before σ.cached σ.state.as_long σ.state.apart (item_at poses joints (m.placed - 1)) (item_at poses joints m.waiting) σ.state.some_placed b σ.state.waits),
      falls_inserting σ.state a b,
    )

    insert : (many full : Bool) → eqb m.inserted most ≡ many → eqb m.placed m.waiting ≡ full
        → divides p tol (item_at poses joints (m.placed - 1)) (item_at poses joints m.waiting) ≡ true
        → Turned m (if_inserted m poses (poses_with (midpoint p (item_at poses joints (m.placed - 1)) (item_at poses joints m.waiting)) poses (before m)))
        (if_inserted m joints (joints_with (midpoint p (item_at poses joints (m.placed - 1)) (item_at poses joints m.waiting)) joints (before m))) (inserting m)
    unfolding inserting if_inserted
    insert true full e f d = let z = eqb-true m.inserted most e in rw e (turn_many absent σ.state more left_there right_there d (omega (arith, z)))
    insert false true e f d =
        let z = eqb-true m.placed m.waiting f in
        rw (e, f) (turn_full absent σ.state more left_there right_there d (lt_of_le-ne σ.state.few (eqb-false m.inserted most e)) (omega (arith, z)))
    insert false false e f d =
        rw (e, f) (insert_on d (lt_of_le-ne σ.state.few (eqb-false m.inserted most e)) (lt_of_le-ne σ.state.apart (eqb-false m.placed m.waiting f)))

    by_test : (b : Bool) → divides p tol (item_at poses joints (m.placed - 1)) (item_at poses joints m.waiting) ≡ b
        → Turned m (poses_after p tol space m poses joints) (joints_after p tol space m poses joints) (turn p tol space m poses joints)
    unfolding turn poses_after joints_after
    by_test true e = rw (verdict_here, e) (insert (eqb m.inserted most) (eqb m.placed m.waiting) refl refl e)
    by_test false e = rw (verdict_here, e) (place (given_next space m) refl e)

    pub turned : Turned m (poses_after p tol space m poses joints) (joints_after p tol space m poses joints) (turn p tol space m poses joints)
    turned = by_test (divides p tol (item_at poses joints (m.placed - 1)) (item_at poses joints m.waiting)) refl
