-- What the code of a turn comes to, by the definitions of a turn.
use Prim.Native.Nat.{ℕ, ◌-◌}
use mathlib.Core.Path.{◌≡◌, sym, ◌∙◌}
use mathlib.Core.Bool.{true}
use mathlib.Core.List.{List}
use borrow.Author.Tests.{eqb-true}
use lib.Ieee.{Float}
use Rattle.std.specs.Prelude.{None, Option, Some, Ok}
use Rattle.geometry.specs.declared.Vec3.{Vec3}
use Rattle.chain.specs.declared.Prepared.{Prepared}
use Rattle.turn.specs.Items.{item_at, poses_with, joints_with}
use Rattle.middle.specs.Testing.{verdict_with}
use Rattle.turn.specs.Turning.{given_next, axis_right, past, before, inserting, if_inserted, verdict_at, turn, poses_after, joints_after, Turn}
use Rattle.middle.specs.declared.Item.{Item}
use Rattle.turn.specs.declared.Machine.{Machine}
use Rattle.middle.specs.declared.Tolerances.{Tolerances}

pub given_there : (space : ℕ) (m : Machine) → given_next space m ≡ true → space - m.waiting ≡ m.given
unfolding given_next
given_there space m e = eqb-true _ _ e

module _ (p : Prepared) (tol : Tolerances) (space : ℕ) (m : Machine) (poses joints : List Float) {left right : Item} {axis : Vec3} {said : Option Item}
    (is-left : left ≡ item_at poses joints (m.placed - 1)) (is_right : right ≡ item_at poses joints m.waiting) (is-axis : axis ≡ axis_right space m right)
    (is_said : said ≡ verdict_with p tol left right m.left_axis axis) where
  said_is : said ≡ verdict_at p tol space m poses joints
  unfolding verdict_at
  said_is = rw (← is_right, ← is-axis, ← is-left) is_said

  pub turned_keep : {next : Machine} → said ≡ None → next ≡ past p space m axis joints
      → (Ok next ≡ turn p tol space m poses joints)
      × ((poses_with right poses m.placed ≡ poses_after p tol space m poses joints) × (joints_with right joints m.placed ≡ joints_after p tol space m poses joints))
  unfolding turn poses_after joints_after
  turned_keep e f =
      let v : verdict_at p tol space m poses joints ≡ None = sym said_is ∙ e in
      (rw (v, ← is_right, ← is-axis, f), (rw (v, ← is_right), rw (v, ← is_right)))

  pub turned_divide : {middle : Item} {r : Turn} → said ≡ Some middle → r ≡ inserting m
      → (r ≡ turn p tol space m poses joints)
      × ((if_inserted m poses (poses_with middle poses (before m)) ≡ poses_after p tol space m poses joints)
      × (if_inserted m joints (joints_with middle joints (before m)) ≡ joints_after p tol space m poses joints))
  unfolding turn poses_after joints_after
  turned_divide {middle} e f =
      let v : verdict_at p tol space m poses joints ≡ Some middle = sym said_is ∙ e in
      (rw v f, (rw v, rw v))
