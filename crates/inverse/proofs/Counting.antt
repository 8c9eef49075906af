-- How many: at most five candidates of an angle, 25 pairs of a raw pair, 50 pairs, and no more joint sets than pairs.
use Prim.Native.Nat.{ℕ, suc, ◌+◌, ◌*◌, ◌≤◌}
use native.Mathlib.Nat.{suc-mul}
use native.Mathlib.Omega.{arith}
use mathlib.Core.Path.{◌≡◌}
use mathlib.Core.Bool.{Bool, true, false, cond}
use mathlib.Core.List.{List, [], ◌∷◌, ◌++◌}
use lib.ListN.{length, length-append}
use lib.Ieee.{Float}
use Rattle.std.specs.Prelude.{None, Option, Some}
use Rattle.lists.specs.Fold.{fold}
use Rattle.geometry.specs.declared.Vec3.{Vec3}
use Rattle.geometry.specs.Vector.{plus}
use Rattle.chain.specs.declared.RotaryLimits.{RotaryLimits}
use Rattle.chain.specs.declared.Joints.{Joints}
use Rattle.chain.specs.declared.Prepared.{Prepared}
use Rattle.inverse.specs.declared.Angles.{Angles}
use Rattle.inverse.specs.UpToTwo.{RawPair}
use Rattle.inverse.specs.Wraps.{allowed, keep_allowed, angle_candidates, angles_of, has, add_pair, add_row, add_rows, add_raw, expand_wraps}
use Rattle.inverse.specs.Solutions.{insert, sorted}
use Rattle.inverse.specs.Inverse.{pose_at, misses, joints_at, reached, solutions}
use Rattle.inverse.proofs.Insertion.{length_insert}

-- ---- folds that add at most c elements at each step
fold_grows : {X Y : Type 0} (f : List Y → X → List Y) (c : ℕ) → ((s : List Y) (x : X) → length (f s x) ≤ length s + c)
    → (l : List X) (s : List Y) → length (fold f s l) ≤ length s + length l * c
unfolding fold
fold_grows f c step [] s = omega arith
fold_grows f c step (x ∷ l) s =
    let e = suc-mul (length l) c in
    let h = step s x in
    let g = fold_grows f c step l (f s x) in
    omega arith

pushed_or_not : {A : Type 0} (b : Bool) (l : List A) (x : A) → (length (cond b (l ++ (x ∷ [])) l) ≤ length l + 1) × (length (cond b l (l ++ (x ∷ []))) ≤ length l + 1)
pushed_or_not true l x = let e = length-append l (x ∷ []) in (omega arith, omega arith)
pushed_or_not false l x = let e = length-append l (x ∷ []) in (omega arith, omega arith)

-- ---- the wraps
candidates_five : (angle : Float) (travel : Option RotaryLimits) → length (angle_candidates angle travel) ≤ 5
unfolding angle_candidates keep_allowed
candidates_five angle travel = fold_grows _ 1 (λ s turn. (pushed_or_not (allowed travel (plus angle turn)) s (plus angle turn)).0) _ []

row_five : (second : List Float) → length second ≤ 5 → (l : List Angles) (a0 : Float) → length (add_row second l a0) ≤ length l + 5
unfolding add_row add_pair
row_five second h l a0 = let g = fold_grows (add_pair a0) 1 (λ s a1. (pushed_or_not (has (angles_of a0 a1) s) s (angles_of a0 a1)).1) second l in omega arith

rows_most : (first second : List Float) (l : List Angles) → length first ≤ 5 → length second ≤ 5 → length (add_rows first second l) ≤ length l + 25
unfolding add_rows
rows_most first second l p q = let g = fold_grows (add_row second) 5 (row_five second q) first l in omega arith

raw_most : (first second : Option RotaryLimits) (raw : Option Angles) (l : List Angles) → length (add_raw first second raw l) ≤ length l + 25
raw_most first second (Some raw) l = rows_most _ _ l (candidates_five raw.a0 first) (candidates_five raw.a1 second)
raw_most first second None l = omega arith

pub wraps_fifty : (first second : Option RotaryLimits) (raw : RawPair) → length (expand_wraps first second raw) ≤ 50
unfolding expand_wraps
wraps_fifty first second raw =
    let g = raw_most first second raw.first [] in
    let h = raw_most first second raw.second (add_raw first second raw.first []) in
    omega arith

-- ---- the joint sets
fold_counts : (l done : List Joints) → length (fold insert done l) ≡ length done + length l
unfolding fold
fold_counts [] done = omega arith
fold_counts (j ∷ l) done =
    let e = length_insert done j in
    let g = fold_counts l (insert done j) in
    omega arith

module _ (p : Prepared) (target tip : Vec3) (tool : Float) where
  reached_by_length : (b : Bool) (j : Joints) (l : List Joints) (n : ℕ) → length l ≤ n → length (cond b l (j ∷ l)) ≤ suc n
  reached_by_length true j l n h = omega arith
  reached_by_length false j l n h = omega arith

  reached_most : (l : List Angles) → length (reached p target tip tool l) ≤ length l
  unfolding reached
  reached_most [] = omega arith
  reached_most (a ∷ l) =
      reached_by_length (misses (pose_at p a tool).axis target) (joints_at p a tip (pose_at p a tool).tip) (reached p target tip tool l) (length l) (reached_most l)

  pub solutions_most : (l : List Angles) → length (solutions p target tip tool l) ≤ length l
  unfolding solutions sorted
  solutions_most l =
      let e = fold_counts (reached p target tip tool l) [] in
      let g = reached_most l in
      omega arith
