-- What the price list states of a division: demand 3, sentence by sentence. It speaks of the answer of a call and of
-- the numbers in the two lent outputs afterwards; `g` are the given poses with the joints that they were solved to. The
-- tolerance test is `segment_within` alone, never the rule that divides. What the halving needs is said of its steps
-- without a cap.
use Rattle.std.specs.Prelude.{ℕ, suc, ◌+◌, ◌-◌, ◌*◌, ◌≤◌, ◌<◌, ◌≡◌, ◌⊎◌, ◌↔◌, true, false, length, drop, replicate, Float, Err, Ok, Option}
use Rattle.std.proofs.Math.Option.{none}
use mathlib.Core.List.{List, ◌∷◌, ◌++◌, Sublistᴰ, Memᴰ}
use Rattle.std.specs.Float.Ieee as Ieee
use Rattle.float.specs.Helpers.{nought, size_of}
use Rattle.lists.specs.Rows.{flat}
use Rattle.refusal.specs.declared.Refusal.{Refusal}
use Rattle.geometry.specs.Vector.{minus}
use Rattle.chain.specs.declared.Joints.{Joints}
use Rattle.chain.specs.declared.Kinematics.{Kinematics}
use Rattle.chain.specs.declared.Prepared.{Prepared}
use Rattle.chain.specs.Check.{joints_within}
use Rattle.chain.specs.Prepared.{prepared}
use Rattle.path.specs.Unwinding.{inside}
use Rattle.path.specs.Posing.{bounds_of}
use Rattle.path.specs.Solving.{Along, AtPose, Kept, joint_numbers, solve_path}
use Rattle.halving.specs.Halving.{step, Steps, Needs}
use Rattle.middle.specs.declared.Item.{Item}
use Rattle.middle.specs.declared.Tolerances.{Tolerances}
use Rattle.turn.specs.declared.Stop.{Stop}
use Rattle.turn.specs.Items.{items_in, space_in}
use Rattle.middle.specs.Testing.{least, midpoint, segment_within, divides}
use Rattle.divide.specs.declared.DivisionError.{DivisionError}
use Rattle.divide.specs.Checking.{division_check}
use Rattle.divide.specs.Subdividing.{given, solved_path, Division}
use Rattle.divide.specs.Looser.{Later}

-- ---- at most 1e-12 apart: one number, and all five
abbrev pub Close : Float → Float → Type 0
Close a b = Ieee.le (size_of (minus a b)) least ≡ true

pub record AllClose (a b : Joints) : Type 0 where
  pub in_x : Close a.xyz.x b.xyz.x
  pub in_y : Close a.xyz.y b.xyz.y
  pub in_z : Close a.xyz.z b.xyz.z
  pub in_a0 : Close a.a0 b.a0
  pub in_a1 : Close a.a1 b.a1

-- ---- m is l with one pose inserted: the midpoint of two neighbours that fail the tolerance test, between them
pub record Insertion (p : Prepared) (tol : Tolerances) (l m : List Item) : Type 0 where
  pub front : List Item
  pub left : Item
  pub right : Item
  pub back : List Item
  pub was : l ≡ front ++ left ∷ right ∷ back
  pub is : m ≡ front ++ left ∷ midpoint p left right ∷ right ∷ back
  pub fails : segment_within p tol left right ≡ false

-- r is l after n insertions
pub data Insertions (p : Prepared) (tol : Tolerances) : List Item → ℕ → List Item → Type 0 where
  no_more : {l : List Item} → Insertions p tol l 0 l
  one_more : {l m r : List Item} {n : ℕ} → Insertion p tol l m → Insertions p tol m n r → Insertions p tol l (suc n) r

-- ---- nothing is refused: the result is r, and the reported count n
pub record Result (k : Kinematics) (p : Prepared) (tol : Tolerances) (g : List Item) (n : ℕ) (r : List Item) : Type 0 where
  -- "the result is bit for bit what document 01's halving makes of the given poses and their solved joints": its steps
  -- lead from these to r,
  pub halved : Steps (divides p tol) (midpoint p) g n r
  -- and there is none that leads on
  pub ended : step (divides p tol) (midpoint p) r ≡ none
  -- "In it the given poses all stand in order"
  pub in_order : Sublistᴰ g r
  -- "no angle is outside its rotary's limits"
  pub limits : (i : Item) → Memᴰ i r → inside (bounds_of k) i.joints ≡ true
  -- "every inserted pose is the midpoint of a pair failing the tolerance test"
  pub inserted : Insertions p tol g n r
  -- "where two neighbours fail it, their midpoint differs from one of them by at most 1e-12 in all five numbers"
  pub close : (front : List Item) (x y : Item) (back : List Item) → r ≡ front ++ x ∷ y ∷ back → segment_within p tol x y ≡ false
      → AllClose (midpoint p x y).joints x.joints ⊎ AllClose (midpoint p x y).joints y.joints
  -- "The reported count is the number inserted": what is inserted is n poses, by `inserted`, and they make the result
  -- so long
  pub counted : length r ≡ length g + n
  -- so no cable number is refused, and no later call: positions within 10,000,000 mm and angles within 36,000 degrees,
  -- all finite
  pub sizes : (i : Item) → Memᴰ i r → joints_within i.joints ≡ true

-- ---- +0.0 in the whole of both outputs, and behind so many poses
abbrev pub AllZero : List Float → List Float → Type 0
AllZero poses joints = (poses ≡ replicate (length poses) nought) × (joints ≡ replicate (length joints) nought)

abbrev pub ZeroBehind : ℕ → List Float → List Float → Type 0
ZeroBehind n poses joints = (drop (n * 6) poses ≡ replicate (length poses - n * 6) nought) × (drop (n * 5) joints ≡ replicate (length joints - n * 5) nought)

-- "Where the checks before the first test pass": but for that of the space, which is said where it is meant
abbrev pub Checks : Division → Type 0
Checks (Err (DivisionError.Refused r)) = ⊥
Checks (Err (DivisionError.AtPose r)) = ⊥
Checks (Ok n) = Unit {0}
Checks (Err (DivisionError.Stopped s)) = Unit {0}

-- ---- the answer of a division of g into a space for so many poses, and the two lent outputs afterwards
pub record Price (k : Kinematics) (tol : Tolerances) (space : ℕ) (g : List Item) (answer : Division) (poses joints : List Float) : Type 0 where
  -- "if nothing is refused", the front of the outputs holds the result,
  pub divided : (n : ℕ) → answer ≡ Ok n → Result k (prepared k) tol g n (items_in (length g + n) poses joints)
  -- and the rest +0.0
  pub unused : (n : ℕ) → answer ≡ Ok n → ZeroBehind (length g + n) poses joints
  -- "with space for 10,000 more poses, refusal for the count comes exactly when this halving needs a 10,001st"
  pub many : Checks answer → length g + 10000 ≤ space → ((c : ℕ) × (answer ≡ Err (DivisionError.Stopped (Stop.TooMany c)))) ↔ Needs (divides (prepared k) tol) (midpoint (prepared k)) 10001 g
  -- and none for space
  pub never_full : length g + 10000 ≤ space → (c : ℕ) → answer ≡ Err (DivisionError.Stopped (Stop.NoSpace c)) → ⊥
  -- "with less, refusal for space exactly when it needs more than there is"
  pub full : Checks answer → length g ≤ space → space < length g + 10000
      → ((c : ℕ) × (answer ≡ Err (DivisionError.Stopped (Stop.NoSpace c)))) ↔ Needs (divides (prepared k) tol) (midpoint (prepared k)) (suc (space - length g)) g
  -- and none for the count
  pub never_many : space < length g + 10000 → (c : ℕ) → answer ≡ Err (DivisionError.Stopped (Stop.TooMany c)) → ⊥
  -- space for fewer poses than given is refused before the first test
  pub fewer : Checks answer → space < length g → answer ≡ Err (DivisionError.Stopped (Stop.NoSpace 0))
  -- the count so far, of each refusal
  pub many_count : (c : ℕ) → answer ≡ Err (DivisionError.Stopped (Stop.TooMany c)) → c ≡ 10000
  pub full_count : length g ≤ space → (c : ℕ) → answer ≡ Err (DivisionError.Stopped (Stop.NoSpace c)) → c ≡ space - length g
  -- which leaves +0.0
  pub many_zero : (c : ℕ) → answer ≡ Err (DivisionError.Stopped (Stop.TooMany c)) → AllZero poses joints
  pub full_zero : (c : ℕ) → answer ≡ Err (DivisionError.Stopped (Stop.NoSpace c)) → AllZero poses joints

-- ---- of joints that `solve_path` gives for this chain and these poses, whatever the start, the cone and the space
-- that it had
pub record IfSolved (k : Kinematics) (tol : Tolerances) (lent solved : List Float) (roomPoses roomJoints : ℕ) (answer : Division) (poses joints : List Float) : Type 0 where
  -- where the checks before the first test pass, nothing but 27 and 28 is refused
  pub begun : division_check k tol lent solved roomPoses roomJoints ≡ Ok tt → Checks answer
  pub price : (start : Option Joints) (cone : Float) (room : ℕ) (l : List Joints) → solve_path k lent start cone room ≡ Along l → solved ≡ flat joint_numbers l
      → Price k tol (space_in roomPoses roomJoints) (given lent solved) answer poses joints

-- ---- of the call of both: `lent` are the given poses, `poses₀` and `joints₀` the two outputs before
pub record SolvedAndDivided (k : Kinematics) (lent : List Float) (start : Option Joints) (cone : Float) (tol : Tolerances) (answer : Division) (poses₀ joints₀ poses joints : List Float) : Type 0 where
  -- what keeps all in `solve_path` keeps all here
  pub kept : (r : Refusal) → solved_path k lent start cone (length poses₀) (length joints₀) ≡ Kept r → (answer ≡ Err (DivisionError.Refused r)) × ((poses ≡ poses₀) × (joints ≡ joints₀))
  -- a refusal at a pose leaves +0.0
  pub at_pose : (r : Refusal) → solved_path k lent start cone (length poses₀) (length joints₀) ≡ AtPose r → (answer ≡ Err (DivisionError.AtPose r)) × AllZero poses joints
  -- and so does division's
  pub refused : (l : List Joints) (r : Refusal) → solved_path k lent start cone (length poses₀) (length joints₀) ≡ Along l
      → division_check k tol lent (flat joint_numbers l) (length poses₀) (length joints₀) ≡ Err r → (answer ≡ Err (DivisionError.Refused r)) × AllZero poses joints
  -- the checks before the first test pass
  pub begun : (l : List Joints) → solved_path k lent start cone (length poses₀) (length joints₀) ≡ Along l
      → division_check k tol lent (flat joint_numbers l) (length poses₀) (length joints₀) ≡ Ok tt → Checks answer
  -- "For every path solved and then divided for one chain, whatever the start, cone, tolerances and space"
  pub price : (l : List Joints) → solved_path k lent start cone (length poses₀) (length joints₀) ≡ Along l
      → Price k tol (space_in (length poses₀) (length joints₀)) (given lent (flat joint_numbers l)) answer poses joints
  -- and what R-12 says of looser tolerances and of a second division
  pub later : (l : List Joints) → solved_path k lent start cone (length poses₀) (length joints₀) ≡ Along l
      → Later k tol lent (flat joint_numbers l) (length poses₀) (length joints₀) answer poses joints
