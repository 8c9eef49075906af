-- What a charged division promises: demand 3 and R-12, as the plain division does, and when 35 comes. `plain` is what
-- the plain division answers to the same arguments; the outputs are those of the charged one.
use Rattle.std.specs.Prelude.{ℕ, ◌≤◌, ◌<◌, ◌⊎◌, ◌≡◌, List, length, Float, Ok, Option, Err}
use Rattle.lists.specs.Rows.{flat}
use Rattle.refusal.specs.Numbers.{refusal}
use Rattle.refusal.specs.declared.Cause.{Cause}
use Rattle.chain.specs.declared.Joints.{Joints}
use Rattle.chain.specs.declared.Kinematics.{Kinematics}
use Rattle.path.specs.Solving.{Along, joint_numbers, solve_path}
use Rattle.halving.specs.Halving.{Done}
use Rattle.middle.specs.declared.Item.{Item}
use Rattle.middle.specs.declared.Tolerances.{Tolerances}
use Rattle.turn.specs.Items.{space_in}
use Rattle.divide.specs.declared.DivisionError.{DivisionError}
use Rattle.divide.specs.Checking.{division_check}
use Rattle.divide.specs.Subdividing.{DivisionAnswer, Halved, given, subdivide_path, Division}
use Rattle.divide.specs.Looser.{NotBelow, Later}
use Rattle.divide.specs.Price.{AllZero, Checks, Price}
use Rattle.quota.specs.Quota.{balance_of, shop_check, charged_division}

-- "a balance below the count is 35 after the division, whose output then becomes +0.0"
pub record Short (balance : ℕ) (plain : DivisionAnswer) (answer : Division) (poses joints : List Float) : Type 0 where
  pub count : ℕ
  pub path : List Item
  pub divided : plain ≡ Halved (Done count path)
  pub below : balance < count
  pub refused : answer ≡ Err (DivisionError.Refused (refusal Cause.BalanceShort 0))
  pub cleared : AllZero poses joints

-- the same balance pays for the division with wider tolerances, and never more
pub record PaidToo (b : List ℕ) (shop n : ℕ) (wider : DivisionAnswer) : Type 0 where
  pub count : ℕ
  pub path : List Item
  pub accepted : charged_division b shop wider ≡ Halved (Done count path)
  pub no_more : count ≤ n

pub record Charged (b : List ℕ) (shop : ℕ) (plain : DivisionAnswer) (k : Kinematics) (tol : Tolerances) (lent solved : List Float) (roomPoses roomJoints : ℕ) (answer : Division)
    (poses joints : List Float) : Type 0 where
  -- where the shop is known, there are 32 balances and division's checks before its first test pass, nothing but 27, 28
  -- and 35 is refused
  pub begun : shop_check (length b) shop ≡ Ok tt → division_check k tol lent solved roomPoses roomJoints ≡ Ok tt
      → Checks answer ⊎ Short (balance_of b shop) plain answer poses joints
  -- what succeeds was paid for
  pub paid : (n : ℕ) → answer ≡ Ok n → n ≤ balance_of b shop
  -- demand 3, of joints that `solve_path` gives for this chain and these poses
  pub price : (start : Option Joints) (cone : Float) (room : ℕ) (l : List Joints) → solve_path k lent start cone room ≡ Along l → solved ≡ flat joint_numbers l
      → Price k tol (space_in roomPoses roomJoints) (given lent solved) answer poses joints
  -- R-12
  pub later : Later k tol lent solved roomPoses roomJoints answer poses joints
  pub looser : (n : ℕ) → answer ≡ Ok n → (wider : Tolerances) → NotBelow tol wider → PaidToo b shop n (subdivide_path k wider lent solved roomPoses roomJoints)
