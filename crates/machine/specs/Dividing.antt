-- The division of a path: document 01's halving of its items, and what it leaves in the two lent outputs. What the
-- machine is ready for is said here too.
use Rattle.std.specs.Prelude.{ℕ, ◌-◌, ◌*◌, ◌≤◌, ◌<◌, ◌≡◌, List, ◌++◌, map, length, take, drop, replicate, Float, Err, Ok, Result}
use Rattle.std.proofs.Math.Option.{none}
use Rattle.float.specs.Helpers.{nought}
use Rattle.lists.specs.Padding.{padded}
use Rattle.lists.specs.Rows.{flat}
use Rattle.halving.specs.Halving.{Answer, Done, step, halve}
use Rattle.halving.specs.Halving as Halving
use Rattle.chain.specs.declared.Prepared.{Prepared}
use Rattle.path.specs.Solving.{joint_numbers}
use Rattle.turn.specs.declared.Stop.{Stop}
use Rattle.turn.specs.declared.outputs.Outputs.{Outputs}
use Rattle.turn.specs.Lent.{Left}
use Rattle.turn.specs.Items.{pose_numbers, items_in}
use Rattle.middle.specs.Testing.{midpoint, divides}
use Rattle.turn.specs.Turning.{most, Cached, Turn}
use Rattle.middle.specs.declared.Item.{Item}
use Rattle.turn.specs.declared.Machine.{Machine}
use Rattle.middle.specs.declared.Tolerances.{Tolerances}

-- ---- the division, and what it leaves
-- with `had` inserted before, which count
unfoldable pub division_after : ℕ → Prepared → Tolerances → ℕ → List Item → Answer Item
division_after had p tol space given = halve (divides p tol) (midpoint p) space (most - had) had given

unfoldable pub division : Prepared → Tolerances → ℕ → List Item → Answer Item
division p tol space given = halve (divides p tol) (midpoint p) space most 0 given

-- how a division ends: with the number inserted, or before its time
abbrev pub Divided : Type 0
Divided = Result ℕ Stop

abbrev pub divided_in : Answer Item → Divided
divided_in (Done n l) = Ok n
divided_in (Halving.TooMany n) = Err (Stop.TooMany n)
divided_in (Halving.NoSpace n) = Err (Stop.NoSpace n)

-- the poses, then +0.0; all +0.0 where it is refused
abbrev pub poses_over : Answer Item → List Float → List Float
poses_over (Done n l) out = padded (length out) nought (flat pose_numbers (map (λ (t : Item). t.pose) l))
poses_over (Halving.TooMany n) out = replicate (length out) nought
poses_over (Halving.NoSpace n) out = replicate (length out) nought

-- and the joint sets
abbrev pub joints_over : Answer Item → List Float → List Float
joints_over (Done n l) out = padded (length out) nought (flat joint_numbers (map (λ (t : Item). t.joints) l))
joints_over (Halving.TooMany n) out = replicate (length out) nought
joints_over (Halving.NoSpace n) out = replicate (length out) nought

-- the two outputs with what a division leaves in them
abbrev pub Over : Answer Item → Outputs → Outputs → Type 0
Over answer old new = Left old (poses_over answer old.poses.now) (joints_over answer old.joints.now) new

-- ---- the machine's promise
-- a machine that can run: no two that are placed divide, and the axes at hand are right
pub record Ready (p : Prepared) (tol : Tolerances) (space : ℕ) (m : Machine) (poses joints : List Float) : Type 0 where
  pub some_placed : 0 < m.placed
  pub apart : m.placed ≤ m.waiting
  pub waits : m.waiting ≤ space
  pub few : m.inserted ≤ most
  pub calm : step (divides p tol) (midpoint p) (take m.placed (items_in space poses joints)) ≡ none
  pub cached : Cached p space (items_in space poses joints) m.placed m.waiting m.given m.left_axis m.end_axis
  pub poses_long : space * 6 ≤ length poses
  pub joints_long : space * 5 ≤ length joints

-- the list that the outputs hold
abbrev pub held : ℕ → Machine → List Float → List Float → List Item
held space m poses joints = take m.placed (items_in space poses joints) ++ drop m.waiting (items_in space poses joints)

-- what its halving comes to
unfoldable pub halved_from : Prepared → Tolerances → ℕ → Machine → List Float → List Float → Answer Item
halved_from p tol space m poses joints = halve (divides p tol) (midpoint p) space (most - m.inserted) m.inserted (held space m poses joints)

-- the machine stopped as that says: all is placed at the front of the outputs, or it refused
abbrev pub RanTo : Answer Item → ℕ → List Float → List Float → Turn → Type 0
RanTo answer space poses joints (Ok last) = (answer ≡ Done last.inserted (items_in last.placed poses joints)) × (last.placed ≤ space)
RanTo answer space poses joints (Err (Stop.TooMany n)) = answer ≡ Halving.TooMany n
RanTo answer space poses joints (Err (Stop.NoSpace n)) = answer ≡ Halving.NoSpace n

pub record Ran (answer : Answer Item) (space : ℕ) (poses joints : List Float) (r : Turn) : Type 0 where
  pub so : RanTo answer space poses joints r

-- how many items stay, and the answer
abbrev pub staying : Turn → ℕ
staying (Ok last) = last.placed
staying (Err s) = 0

abbrev pub answer_in : Turn → Divided
answer_in (Ok last) = Ok last.inserted
answer_in (Err s) = Err s
