-- What the price list says of looser tolerances, of the Rust's test beside the strict one, and of a path that is
-- divided again: R-12's two sentences and R-14's, as promises of every call that divides. "Looser is never dearer" is
-- `Later.looser`, "the old division's insertions are a subsequence of the strict one's" is `Later.old`, and "comes back
-- the same" is `Later.again`. Each holds of the Rust's test and of the strict one.
use Rattle.std.specs.Prelude.{ℕ, ◌+◌, ◌*◌, ◌≤◌, ◌≡◌, true, Float, length, take, Ok}
use mathlib.Core.List.{List, Sublistᴰ}
use Rattle.std.specs.Float.Ieee as Ieee
use Rattle.std.specs.Float.Ieee.Scale.{finite}
use Rattle.lists.specs.Search.{all}
use Rattle.chain.specs.declared.Kinematics.{Kinematics}
use Rattle.chain.specs.Prepared.{prepared}
use Rattle.path.specs.Solving.{poses_in, whole_records}
use Rattle.halving.specs.Halving.{Done}
use Rattle.halving.specs.Inserting.{Inserts}
use Rattle.middle.specs.declared.Item.{Item}
use Rattle.middle.specs.declared.Tolerances.{Tolerances}
use Rattle.middle.specs.Testing.{midpoint, divides, plain}
use Rattle.turn.specs.Items.{items_in, space_in}
use Rattle.divide.specs.Checking.{tip_within}
use Rattle.divide.specs.Subdividing.{Halved, given, subdivide_path, Division}

-- "both tolerances finite and equal or larger", and the test not the strict one where the other's is the Rust's
pub record NotBelow (tol wider : Tolerances) : Type 0 where
  pub chord_finite : finite wider.chord ≡ true
  pub axis_finite : finite wider.axis ≡ true
  pub chord : Ieee.le tol.chord wider.chord ≡ true
  pub axis : Ieee.le tol.axis wider.axis ≡ true
  pub no_stricter : wider.strict ≡ true → tol.strict ≡ true

-- ---- r is what the tolerances gave, with n inserted: the same path and the same space with wider ones
pub record NeverDearer (k : Kinematics) (tol wider : Tolerances) (lent solved : List Float) (roomPoses roomJoints n : ℕ) (r : List Item) : Type 0 where
  pub count : ℕ
  pub result : List Item
  -- "it is accepted with both tolerances finite and equal or larger"
  pub accepted : subdivide_path k wider lent solved roomPoses roomJoints ≡ Halved (Done count result)
  -- "a shop which loosens a tolerance never pays more"
  pub no_more : count ≤ n
  -- "every pose inserted then was inserted before, in the same order": poses with their joints, a subsequence
  pub before : List Item
  pub then : List Item
  pub inserted_before : Inserts (divides (prepared k) tol) (midpoint (prepared k)) (given lent solved) before r
  pub inserted_then : Inserts (divides (prepared k) wider) (midpoint (prepared k)) (given lent solved) then result
  pub among : Sublistᴰ then before

-- ---- how many poses a divided path has, and their numbers at the front of the two outputs
abbrev pub path_length : List Float → List Float → ℕ → ℕ
path_length lent solved n = length (given lent solved) + n

-- ---- what a division promises of later ones: `lent` and `solved` are the given poses and joints, `poses` and `joints`
-- the two outputs afterwards
pub record Later (k : Kinematics) (tol : Tolerances) (lent solved : List Float) (roomPoses roomJoints : ℕ) (answer : Division) (poses joints : List Float) : Type 0 where
  -- "For one chain, one path and one space: if a division is accepted, it is accepted with both tolerances finite and
  -- equal or larger, and every pose inserted then was inserted before, in the same order."
  pub looser : (n : ℕ) → answer ≡ Ok n → (wider : Tolerances) → NotBelow tol wider
      → NeverDearer k tol wider lent solved roomPoses roomJoints n (items_in (path_length lent solved n) poses joints)
  -- "the old division's insertions are a subsequence of the strict one's": a division that is accepted is accepted with
  -- the Rust's test and the same tolerances, path and space, and every pose inserted then was inserted before
  pub old : (n : ℕ) → answer ≡ Ok n
      → NeverDearer k tol (plain tol) lent solved roomPoses roomJoints n (items_in (path_length lent solved n) poses joints)
  -- "A divided path of at most 100,000 poses, with tips within 100,000 mm, comes back the same with count 0 when it is
  -- divided again under its own tolerances and with space for itself."
  pub again : (n : ℕ) → answer ≡ Ok n → path_length lent solved n ≤ 100000
      → all tip_within (poses_in (take (path_length lent solved n * 6) poses)) ≡ true
      → (spacePoses spaceJoints : ℕ) → whole_records spacePoses spaceJoints ≡ true → path_length lent solved n ≤ space_in spacePoses spaceJoints
      → subdivide_path k tol (take (path_length lent solved n * 6) poses) (take (path_length lent solved n * 5) joints) spacePoses spaceJoints
      ≡ Halved (Done 0 (items_in (path_length lent solved n) poses joints))
