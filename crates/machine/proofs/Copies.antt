-- A list copied to the front of another, and what stands there then.
use Prim.Native.Nat.{ℕ, ◌*◌, ◌≤◌}
use native.Mathlib.Omega.{arith}
use mathlib.Core.Path.{◌≡◌, ap, ◌∙◌}
use mathlib.Core.List.{List, ◌++◌}
use lib.ListN.{length, drop}
use lib.Ieee.{Float}
use Rattle.lists.proofs.Rows.{rows_append_le}
use Rattle.storing.specs.Storing.{stored_at}
use Rattle.storing.proofs.Parts.{parts, stored_first}
use Rattle.halving.specs.Halving.{Answer, Done, TooMany, NoSpace}
use Rattle.chain.specs.declared.Prepared.{Prepared}
use Rattle.turn.specs.Items.{items_in}
use Rattle.machine.specs.Dividing.{division, divided_in, poses_over, joints_over, Divided}
use Rattle.middle.specs.declared.Item.{Item}
use Rattle.middle.specs.declared.Tolerances.{Tolerances}
use Rattle.turn.proofs.Stored.{pose_codec, joints_codec}

-- ---- the items at the front, and the outputs' lengths
pub poses_front : (n : ℕ) (l rest joints : List Float) → length l ≡ n * 6 → items_in n (l ++ rest) joints ≡ items_in n l joints
unfolding items_in
poses_front n l rest joints h = rw (rows_append_le pose_codec n l rest (omega (arith, h)))

pub joints_front : (n : ℕ) (poses l rest : List Float) → length l ≡ n * 5 → items_in n poses (l ++ rest) ≡ items_in n poses l
unfolding items_in
joints_front n poses l rest h = rw (rows_append_le joints_codec n l rest (omega (arith, h)))

pub poses_by_length : (answer : Answer Item) (o o' : List Float) → length o' ≡ length o → poses_over answer o' ≡ poses_over answer o
poses_by_length (Done n l) o o' e = rw e
poses_by_length (TooMany n) o o' e = rw e
poses_by_length (NoSpace n) o o' e = rw e

pub joints_by_length : (answer : Answer Item) (o o' : List Float) → length o' ≡ length o → joints_over answer o' ≡ joints_over answer o
joints_by_length (Done n l) o o' e = rw e
joints_by_length (TooMany n) o o' e = rw e
joints_by_length (NoSpace n) o o' e = rw e

-- ---- a division of what was copied is one of what it was copied from
module _ (p : Prepared) (tol : Tolerances) (space count : ℕ) {said : Divided} {poses' joints' : List Float} where
  pub copied_poses : (given poses joints : List Float) {o : List Float} → length given ≡ count * 6 → length given ≤ length poses → o ≡ stored_at poses 0 given
      → (said ≡ divided_in (division p tol space (items_in count o joints)))
      × ((poses' ≡ poses_over (division p tol space (items_in count o joints)) o) × (joints' ≡ joints_over (division p tol space (items_in count o joints)) joints))
      → (said ≡ divided_in (division p tol space (items_in count given joints)))
      × ((poses' ≡ poses_over (division p tol space (items_in count given joints)) poses) × (joints' ≡ joints_over (division p tol space (items_in count given joints)) joints))
  copied_poses given poses joints {o} l r e h =
      let k : length o ≡ length poses = ap length e ∙ (parts poses 0 given (omega arith)).long in
      let f : items_in count o joints ≡ items_in count given joints =
      ap (λ (z : List Float). items_in count z joints) (e ∙ stored_first poses given) ∙ poses_front count given (drop (length given) poses) joints l in
      let w = rw f at h in
      (w.0, (w.1.0 ∙ poses_by_length (division p tol space (items_in count given joints)) poses o k, w.1.1))

  pub copied_joints : (given solved poses joints : List Float) {o : List Float} → length solved ≡ count * 5 → length solved ≤ length joints → o ≡ stored_at joints 0 solved
      → (said ≡ divided_in (division p tol space (items_in count given o)))
      × ((poses' ≡ poses_over (division p tol space (items_in count given o)) poses) × (joints' ≡ joints_over (division p tol space (items_in count given o)) o))
      → (said ≡ divided_in (division p tol space (items_in count given solved)))
      × ((poses' ≡ poses_over (division p tol space (items_in count given solved)) poses) × (joints' ≡ joints_over (division p tol space (items_in count given solved)) joints))
  copied_joints given solved poses joints {o} l r e h =
      let k : length o ≡ length joints = ap length e ∙ (parts joints 0 solved (omega arith)).long in
      let f : items_in count given o ≡ items_in count given solved =
      ap (λ (z : List Float). items_in count given z) (e ∙ stored_first joints solved) ∙ joints_front count given solved (drop (length solved) joints) l in
      let w = rw f at h in
      (w.0, (w.1.0, w.1.1 ∙ joints_by_length (division p tol space (items_in count given solved)) joints o k))
