-- One turn of the machine that halves in lent outputs, by its numbers and two axes at hand: the last placed item is
-- tested against the first that waits, which is then placed, or their midpoint is put before it.
use Rattle.std.specs.Prelude.{ℕ, ◌+◌, ◌-◌, ◌*◌, ◌≤◌, ◌<◌, ◌≡◌, Bool, cond, List, [], eqb, leb, get_or, Float, None, Option, Some, Err, Ok, Result}
use Rattle.geometry.specs.declared.Vec3.{Vec3}
use Rattle.chain.specs.declared.Prepared.{Prepared}
use Rattle.path.specs.Solving.{pose_from}
use Rattle.turn.specs.declared.Stop.{Stop}
use Rattle.turn.specs.Items.{joints_from, item, item_at, joints_in, poses_with, joints_with}
use Rattle.middle.specs.Testing.{pose_of, verdict_with}
use Rattle.middle.specs.declared.Item.{Item}
use Rattle.turn.specs.declared.Machine.{Machine}
use Rattle.middle.specs.declared.Tolerances.{Tolerances}

-- what one test comes to: the machine goes on, or stops before its time
abbrev pub Turn : Type 0
Turn = Result Machine Stop

-- the most that are inserted
abbrev pub most : ℕ
most = 10000

-- the axis that the joints of item i reach
unfoldable pub axis_at : Prepared → List Float → ℕ → Vec3
axis_at p joints i = (pose_of p (joints_in joints (i * 5))).axis

-- whether the first that waits is a given item
unfoldable pub given_next : ℕ → Machine → Bool
given_next space m = eqb (space - m.waiting) m.given

-- the axis that its joints reach
unfoldable pub axis_right : ℕ → Machine → Item → Vec3
axis_right space m right = cond (given_next space m) m.end_axis right.pose.axis

-- ---- what is next once the first that waits is placed
unfoldable pub end_after : Prepared → Machine → List Float → Vec3
end_after p m joints = cond (leb m.given 1) m.end_axis (axis_at p joints (m.waiting + 1))

unfoldable pub past_given : Prepared → Machine → Vec3 → List Float → Machine
past_given p m axis joints = record {
  placed = m.placed + 1;
  waiting = m.waiting + 1;
  inserted = m.inserted;
  given = m.given - 1;
  left_axis = axis;
  end_axis = end_after p m joints;
}

unfoldable pub past_inserted : Machine → Vec3 → Machine
past_inserted m axis = record {
  placed = m.placed + 1;
  waiting = m.waiting + 1;
  inserted = m.inserted;
  given = m.given;
  left_axis = axis;
  end_axis = m.end_axis;
}

unfoldable pub past : Prepared → ℕ → Machine → Vec3 → List Float → Machine
past p space m axis joints = cond (given_next space m) (past_given p m axis joints) (past_inserted m axis)

-- ---- and once a midpoint waits before it
unfoldable pub before : Machine → ℕ
before m = m.waiting - 1

unfoldable pub with_midpoint : Machine → Machine
with_midpoint m = record {
  placed = m.placed;
  waiting = before m;
  inserted = m.inserted + 1;
  given = m.given;
  left_axis = m.left_axis;
  end_axis = m.end_axis;
}

unfoldable pub inserting : Machine → Turn
inserting m = cond (eqb m.inserted most) (Err (Stop.TooMany m.inserted)) (cond (eqb m.placed m.waiting) (Err (Stop.NoSpace m.inserted)) (Ok (with_midpoint m)))

-- a list after it, which becomes `stored` where the midpoint has its place
unfoldable pub if_inserted : Machine → List Float → List Float → List Float
if_inserted m l stored = cond (eqb m.inserted most) l (cond (eqb m.placed m.waiting) l stored)

-- ---- the turn
abbrev pub turn_by : Prepared → ℕ → Machine → Vec3 → List Float → Option Item → Turn
turn_by p space m axis joints None = Ok (past p space m axis joints)
turn_by p space m axis joints (Some middle) = inserting m

abbrev pub poses_by : Machine → Item → List Float → Option Item → List Float
poses_by m right poses None = poses_with right poses m.placed
poses_by m right poses (Some middle) = if_inserted m poses (poses_with middle poses (before m))

abbrev pub joints_by : Machine → Item → List Float → Option Item → List Float
joints_by m right joints None = joints_with right joints m.placed
joints_by m right joints (Some middle) = if_inserted m joints (joints_with middle joints (before m))

unfoldable pub verdict_at : Prepared → Tolerances → ℕ → Machine → List Float → List Float → Option Item
verdict_at p tol space m poses joints =
    verdict_with p tol (item_at poses joints (m.placed - 1)) (item_at poses joints m.waiting) m.left_axis (axis_right space m (item_at poses joints m.waiting))

unfoldable pub turn : Prepared → Tolerances → ℕ → Machine → List Float → List Float → Turn
turn p tol space m poses joints =
    turn_by p space m (axis_right space m (item_at poses joints m.waiting)) joints (verdict_at p tol space m poses joints)

unfoldable pub poses_after : Prepared → Tolerances → ℕ → Machine → List Float → List Float → List Float
poses_after p tol space m poses joints = poses_by m (item_at poses joints m.waiting) poses (verdict_at p tol space m poses joints)

unfoldable pub joints_after : Prepared → Tolerances → ℕ → Machine → List Float → List Float → List Float
joints_after p tol space m poses joints = joints_by m (item_at poses joints m.waiting) joints (verdict_at p tol space m poses joints)

-- ---- the start: the first given item is placed, and the others wait; `had` were inserted before
unfoldable pub end_at_start : Prepared → ℕ → ℕ → Vec3 → List Float → Vec3
end_at_start p space count axis joints = cond (leb count 1) axis (axis_at p joints (space - count + 1))

unfoldable pub begun : Prepared → ℕ → ℕ → ℕ → List Float → Machine
begun p space count had joints = record {
  placed = 1;
  waiting = space - count + 1;
  inserted = had;
  given = count - 1;
  left_axis = axis_at p joints 0;
  end_axis = end_at_start p space count (axis_at p joints 0) joints;
}

-- what a turn asks of the machine's numbers and of the two outputs' lengths
abbrev pub Runs : ℕ → Machine → ℕ → ℕ → Type 0
Runs space m poses joints =
    ((0 < m.placed) × (m.placed ≤ m.waiting)) × (((m.waiting < space) × (m.given ≤ space - m.waiting)) × ((m.inserted ≤ most) × ((space * 6 ≤ poses) × (space * 5 ≤ joints))))

-- ---- the axes at hand
-- what stands for an item that is not there
abbrev pub absent : Item
absent = item (pose_from []) (joints_from [])

-- the axis that an item's joints reach
abbrev pub reached : Prepared → Item → Vec3
reached p t = (pose_of p t.joints).axis

-- of those that wait, from s up to `space`, the last `given` are given ones; the others have the pose that their joints
-- reach
pub record Cached (p : Prepared) (space : ℕ) (o : List Item) (k s given : ℕ) (axis_left endAxis : Vec3) : Type 0 where
  pub fewer : given ≤ space - s
  pub at_left : axis_left ≡ reached p (get_or o (k - 1) absent)
  pub own : (i : ℕ) → s ≤ i → i < space - given → (get_or o i absent).pose ≡ pose_of p (get_or o i absent).joints
  pub at_end : 0 < given → endAxis ≡ reached p (get_or o (space - given) absent)
