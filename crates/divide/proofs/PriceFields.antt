-- Every field of the records inside the price list's statement, written out down to floats: a field that is dropped or
-- says less makes these fail. `demand_3` and `result_says` (PriceRefutes) do the same for `Price` and `Result`.
-- Then what the call of both says of looser tolerances, as the call itself, and the two wrong solvers of document 01
-- against the record: one that repeats the first pose's joints, and one that answers a constant path.
use Prim.Native.Nat.{ℕ, ◌+◌, ◌*◌, ◌/◌, ◌≤◌}
use native.Mathlib.Omega.{arith}
use mathlib.Core.Path.{◌≡◌, refl, sym, ap, ◌∙◌, subst}
use mathlib.Core.Bool.{Bool, true, false, cond}
use mathlib.Core.List.{List, [], ◌∷◌, ◌++◌, Sublistᴰ}
use lib.Ieee as Ieee
use lib.Ieee.{Float}
use lib.ListN.{length, take, replicate}
use Rattle.std.specs.Prelude.{Err, Ok, Option}
use Rattle.float.specs.Helpers.{nought, size_of}
use Rattle.geometry.specs.Vector.{minus}
use Rattle.lists.specs.Each.{Each}
use Rattle.lists.specs.Rows.{rows, flat, paired}
use Rattle.lists.specs.Search.{all}
use Rattle.lists.proofs.Rows.{length_rows, rows_flat}
use Rattle.refusal.specs.declared.Refusal.{Refusal}
use Rattle.refusal.specs.Numbers.{refusal}
use Rattle.refusal.specs.declared.Cause.{Cause}
use Rattle.chain.specs.declared.Joints.{Joints}
use Rattle.chain.specs.declared.Kinematics.{Kinematics}
use Rattle.chain.specs.declared.Prepared.{Prepared}
use Rattle.chain.specs.declared.ToolPose.{ToolPose}
use Rattle.chain.specs.Prepared.{prepared}
use Rattle.path.specs.Solving.{PathAnswer, Along, AtPose, Kept, pose_from, poses_in, joint_numbers, whole_records, solve_path}
use Rattle.path.proofs.Along.{along_long, kept_along}
use Rattle.halving.specs.Halving.{Done}
use Rattle.halving.specs.Inserting.{Inserts}
use Rattle.middle.specs.declared.Item.{Item}
use Rattle.middle.specs.declared.Tolerances.{Tolerances}
use Rattle.middle.specs.Testing.{least, midpoint, segment_within, divides, plain}
use Rattle.turn.specs.Items.{joints_from, item, items_in, space_in}
use Rattle.turn.proofs.Stored.{joints_codec}
use Rattle.divide.specs.declared.DivisionError.{DivisionError}
use Rattle.divide.specs.Checking.{tip_within, division_check}
use Rattle.divide.specs.Subdividing.{Halved, given, three_whole, subdivide_path, solved_path, solve_and_divide, Division}
use Rattle.divide.specs.Looser.{NotBelow, NeverDearer, Later}
use Rattle.divide.specs.Price.{AllClose, Insertion, Checks, Price, SolvedAndDivided}

-- ---- every field
pub insertion_says : {p : Prepared} {tol : Tolerances} {l m : List Item} → Insertion p tol l m
    → (front : List Item) × (left : Item) × (right : Item) × (back : List Item)
    × ((l ≡ front ++ left ∷ right ∷ back) × (m ≡ front ++ left ∷ midpoint p left right ∷ right ∷ back) × (segment_within p tol left right ≡ false))
insertion_says i = (i.front, i.left, i.right, i.back, (i.was, i.is, i.fails))

pub close_says : {a b : Joints} → AllClose a b
    → (Ieee.le (size_of (minus a.xyz.x b.xyz.x)) least ≡ true)
    × (Ieee.le (size_of (minus a.xyz.y b.xyz.y)) least ≡ true)
    × (Ieee.le (size_of (minus a.xyz.z b.xyz.z)) least ≡ true)
    × (Ieee.le (size_of (minus a.a0 b.a0)) least ≡ true)
    × (Ieee.le (size_of (minus a.a1 b.a1)) least ≡ true)
close_says c = (c.in_x, c.in_y, c.in_z, c.in_a0, c.in_a1)

pub dearer_says : {k : Kinematics} {tol wider : Tolerances} {lent solved : List Float} {a b n : ℕ} {r : List Item} → NeverDearer k tol wider lent solved a b n r
    → (count : ℕ) × (result : List Item) × (before : List Item) × (then : List Item)
    × ((subdivide_path k wider lent solved a b ≡ Halved (Done count result))
    × (count ≤ n)
    × Inserts (divides (prepared k) tol) (midpoint (prepared k)) (given lent solved) before r
    × Inserts (divides (prepared k) wider) (midpoint (prepared k)) (given lent solved) then result
    × Sublistᴰ then before)
dearer_says d = (d.count, d.result, d.before, d.then, (d.accepted, d.no_more, d.inserted_before, d.inserted_then, d.among))

pub later_says : {k : Kinematics} {tol : Tolerances} {lent solved : List Float} {a b : ℕ} {answer : Division} {poses joints : List Float}
    → Later k tol lent solved a b answer poses joints
    → ((n : ℕ) → answer ≡ Ok n → (wider : Tolerances) → NotBelow tol wider
    → NeverDearer k tol wider lent solved a b n (items_in (length (given lent solved) + n) poses joints))
    × ((n : ℕ) → answer ≡ Ok n → NeverDearer k tol (plain tol) lent solved a b n (items_in (length (given lent solved) + n) poses joints))
    × ((n : ℕ) → answer ≡ Ok n → length (given lent solved) + n ≤ 100000
    → all tip_within (poses_in (take ((length (given lent solved) + n) * 6) poses)) ≡ true
    → (c d : ℕ) → whole_records c d ≡ true → length (given lent solved) + n ≤ space_in c d
    → subdivide_path k tol (take ((length (given lent solved) + n) * 6) poses) (take ((length (given lent solved) + n) * 5) joints) c d
    ≡ Halved (Done 0 (items_in (length (given lent solved) + n) poses joints)))
later_says w = (w.looser, w.old, w.again)

module _ (k : Kinematics) (lent : List Float) (start : Option Joints) (cone : Float) (tol : Tolerances) (answer : Division) (poses₀ joints₀ poses joints : List Float) where
  abbrev solved : PathAnswer
  solved = solved_path k lent start cone (length poses₀) (length joints₀)

  abbrev zeros : Type 0
  zeros = (poses ≡ replicate (length poses) nought) × (joints ≡ replicate (length joints) nought)

  pub both_says : SolvedAndDivided k lent start cone tol answer poses₀ joints₀ poses joints
      → ((r : Refusal) → solved ≡ Kept r → (answer ≡ Err (DivisionError.Refused r)) × ((poses ≡ poses₀) × (joints ≡ joints₀)))
      × ((r : Refusal) → solved ≡ AtPose r → (answer ≡ Err (DivisionError.AtPose r)) × zeros)
      × ((l : List Joints) → solved ≡ Along l
      → ((r : Refusal) → division_check k tol lent (flat joint_numbers l) (length poses₀) (length joints₀) ≡ Err r → (answer ≡ Err (DivisionError.Refused r)) × zeros)
      × (division_check k tol lent (flat joint_numbers l) (length poses₀) (length joints₀) ≡ Ok tt → Checks answer)
      × Price k tol (space_in (length poses₀) (length joints₀)) (given lent (flat joint_numbers l)) answer poses joints
      × Later k tol lent (flat joint_numbers l) (length poses₀) (length joints₀) answer poses joints)
  both_says p = (p.kept, p.at_pose, λ l e. (λ r. p.refused l r e, p.begun l e, p.price l e, p.later l e))

  -- "if a division is accepted, it is accepted with both tolerances finite and equal or larger", of the call of both
  -- itself: the same poses, start, cone and space
  pub both_looser : SolvedAndDivided k lent start cone tol answer poses₀ joints₀ poses joints
      → (l : List Joints) → solved ≡ Along l → (n : ℕ) → answer ≡ Ok n → (wider : Tolerances) → NotBelow tol wider
      → (c : ℕ) × (r : List Item) × ((solve_and_divide k lent start cone wider (length poses₀) (length joints₀) ≡ Halved (Done c r)) × (c ≤ n))
  unfolding solve_and_divide
  both_looser p l e n w wider h = let d = (p.later l e).looser n w wider h in (d.count, d.result, (rw (e, d.accepted), d.no_more))

-- ---- wrong solvers
sub_each : {A : Type 0} (P : A → Type 0) {l r : List A} → Sublistᴰ l r → Each P r → Each P l
sub_each P Sublistᴰ.slnil h = tt
sub_each P (Sublistᴰ.cons s) h = sub_each P s h.1
sub_each P (Sublistᴰ.cons-cons e s) h = (subst P (sym e) h.0, sub_each P s h.1)

paired_back : (P : Joints → Type 0) (poses : List ToolPose) (l : List Joints) → length poses ≡ length l → Each (λ (i : Item). P i.joints) (paired item poses l) → Each P l
unfolding paired
paired_back P [] [] e h = tt
paired_back P [] (j ∷ l) e h = absurd (omega (arith, e))
paired_back P (q ∷ poses) [] e h = tt
paired_back P (q ∷ poses) (j ∷ l) e h = (h.0, paired_back P poses l (omega (arith, e)) h.1)

solved_whole : (whole : Bool) (a : PathAnswer) (l : List Joints) → cond whole a (Kept (refusal Cause.LengthsDiffer 0)) ≡ Along l → a ≡ Along l
solved_whole true a l e = e
solved_whole false a l e = absurd (kept_along e)

module _ {k : Kinematics} {lent : List Float} {start : Option Joints} {cone : Float} {tol : Tolerances} {poses₀ joints₀ poses joints : List Float} (l : List Joints)
    (along : solved_path k lent start cone (length poses₀) (length joints₀) ≡ Along l) (n : ℕ)
    (said : SolvedAndDivided k lent start cone tol (Ok n) poses₀ joints₀ poses joints) where
  as_many : length l ≡ length lent / 6
  unfolding solved_path
  as_many =
      along_long k lent start cone (space_in (length poses₀) (length joints₀) * 5) l
      (solved_whole (three_whole (length lent) (length poses₀) (length joints₀)) (solve_path k lent start cone (space_in (length poses₀) (length joints₀) * 5)) l along)

  given_paired : given lent (flat joint_numbers l) ≡ paired item (rows 6 pose_from (length l) lent) l
  unfolding items_in
  given_paired =
      ap (λ (m : ℕ). paired item (rows 6 pose_from m lent) (rows 5 joints_from m (flat joint_numbers l))) (sym as_many)
      ∙ ap (λ (z : List Joints). paired item (rows 6 pose_from (length l) lent) z) (rows_flat joints_codec l)

  -- what holds of the joints of every pose in the output holds of every joint set that was solved
  pub output_solved : (P : Joints → Type 0) → Each (λ (i : Item). P i.joints) (items_in (length (given lent (flat joint_numbers l)) + n) poses joints) → Each P l
  output_solved P h =
      let g = sub_each (λ (i : Item). P i.joints) ((said.price l along).divided n refl).in_order h in
      paired_back P (rows 6 pose_from (length l) lent) l (length_rows 6 pose_from (length l) lent) (subst (Each (λ (i : Item). P i.joints)) given_paired g)

  -- a constant path, or the first pose's joints for every pose: then every pose was solved to these joints
  pub constant_path : (j : Joints) → Each (λ (i : Item). i.joints ≡ j) (items_in (length (given lent (flat joint_numbers l)) + n) poses joints) → Each (λ (q : Joints). q ≡ j) l
  constant_path j h = output_solved (λ q. q ≡ j) h
