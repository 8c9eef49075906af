-- What holds of the answers of `inverse`, whatever it is asked: how many they are, that their angles lie where the rotaries may go, that they stand in order, and that each puts the spindle on the target axis.
use Prim.Native.Nat.{ℕ, suc, ◌≤◌, ◌<◌}
use native.Mathlib.Omega.{arith}
use mathlib.Core.Path.{◌≡◌, refl, sym, ap, ◌∙◌, subst}
use mathlib.Core.Bool.{Bool, true, false, not, ◌&&◌}
use mathlib.Core.List.{List, [], ◌∷◌}
use borrow.Author.Tests.{ltb-true}
use lib.Dec.{ltb}
use lib.ListN.{length, get_or}
use lib.Ieee.{Float}
use Rattle.std.specs.Prelude.{Err, None, Ok, Option, Some}
use Rattle.lists.specs.Search.{all}
use Rattle.geometry.specs.declared.Vec3.{Vec3}
use Rattle.geometry.specs.Direction.{unit_direction}
use Rattle.refusal.specs.declared.Cause.{Cause}
use Rattle.chain.specs.Checked.{Checked}
use Rattle.chain.specs.declared.Joints.{Joints}
use Rattle.chain.specs.declared.Kinematics.{Kinematics}
use Rattle.chain.specs.declared.ToolPose.{ToolPose}
use Rattle.chain.specs.Check.{demand}
use Rattle.chain.proofs.Passing.{refused_passed, then_passed, demand_passed}
use Rattle.chain.specs.Forward.{forward_core, turns_of, reach}
use Rattle.chain.specs.Prepared.{prepared}
use Rattle.inverse.specs.declared.Angles.{Angles}
use Rattle.inverse.specs.UpToTwo.{RawPair}
use Rattle.inverse.specs.Wraps.{allowed, second_travel}
use Rattle.inverse.specs.Solutions.{precedes, origin, filled}
use Rattle.inverse.specs.Inverse.{pose_at, misses, joints_at, solutions, wrapped, raw_angles, some_raw, positions_finite, solved_check, answered, solved, toward, unless_refused, inverse_check, inverse, checked_in, solutions_in}
use Rattle.inverse.proofs.Order.{in_order, sorted_order, neighbours}
use Rattle.inverse.proofs.Kept.{wraps_inside, solutions_pass}
use Rattle.inverse.proofs.Counting.{wraps_fifty, solutions_most}

module _ (k : Kinematics) (pose : ToolPose) (tool : Float) (hint : Angles) where
  abbrev found : Vec3 → List Joints
  found target = solutions (prepared k) target pose.tip tool (wrapped k target hint)

  few : (target : Vec3) → length (found target) ≤ 50
  unfolding wrapped
  few target =
      let g = wraps_fifty k.first.limits (second_travel k) (raw_angles k target hint) in
      let h = solutions_most (prepared k) target pose.tip tool (wrapped k target hint) in
      omega arith

  -- ---- the answers are none, or what was found
  answered_are : (P : List Joints → Type 0) (c : Checked) (l : List Joints) → P [] → P l → P (solutions_in (answered c (filled l)))
  answered_are P (Ok _) l none some = some
  answered_are P (Err r) l none some = none

  toward_are : (P : List Joints → Type 0) (c : Checked) (d : Option Vec3) → P [] → ((target : Vec3) → d ≡ Some target → P (found target))
      → P (solutions_in (unless_refused c (toward d k pose.tip tool hint)))
  unfolding solved
  toward_are P (Ok _) (Some target) none some =
      answered_are P (solved_check (raw_angles k target hint) (wrapped k target hint) (found target)) (found target) none (some target refl)
  toward_are P (Ok _) None none some = none
  toward_are P (Err r) d none some = none

  pub answers_are : (P : List Joints → Type 0) → P [] → ((target : Vec3) → unit_direction pose.axis ≡ Some target → P (found target))
      → P (solutions_in (inverse k pose tool hint))
  unfolding inverse
  answers_are P none some = toward_are P (inverse_check k pose tool hint) (unit_direction pose.axis) none some

  -- ---- how many
  some_left : (raw : RawPair) (pairs : List Angles) (l : List Joints) → solved_check raw pairs l ≡ Ok tt → 1 ≤ length l
  unfolding solved_check
  some_left raw pairs l h =
      ltb-true 0 (length l)
      (demand_passed (ltb 0 (length l)) Cause.NotReachable 0
      (then_passed (demand (positions_finite l) Cause.NotFinite 0) _
      (then_passed (demand (ltb 0 (length pairs)) Cause.OutsideLimits 0) _
      (then_passed (demand (some_raw raw) Cause.NotReachable 0) _ h).1).1).1)

  answered_count : (c : Checked) (l : List Joints) → (c ≡ Ok tt → 1 ≤ length l) → length l ≤ 50 → checked_in (answered c (filled l)) ≡ Ok tt
      → (1 ≤ length (solutions_in (answered c (filled l)))) × (length (solutions_in (answered c (filled l))) ≤ 50)
  answered_count (Ok _) l f h e = (f refl, h)
  answered_count (Err r) l f h e = absurd (refused_passed e)

  toward_count : (c : Checked) (d : Option Vec3) → checked_in (unless_refused c (toward d k pose.tip tool hint)) ≡ Ok tt
      → (1 ≤ length (solutions_in (unless_refused c (toward d k pose.tip tool hint)))) × (length (solutions_in (unless_refused c (toward d k pose.tip tool hint))) ≤ 50)
  unfolding solved
  toward_count (Ok _) (Some target) e =
      answered_count (solved_check (raw_angles k target hint) (wrapped k target hint) (found target)) (found target)
      (some_left (raw_angles k target hint) (wrapped k target hint) (found target)) (few target) e
  toward_count (Ok _) None e = absurd (refused_passed e)
  toward_count (Err r) d e = absurd (refused_passed e)

  -- where nothing is refused, from 1 to 50
  pub inverse_count : checked_in (inverse k pose tool hint) ≡ Ok tt → (1 ≤ length (solutions_in (inverse k pose tool hint))) × (length (solutions_in (inverse k pose tool hint)) ≤ 50)
  unfolding inverse
  inverse_count e = toward_count (inverse_check k pose tool hint) (unit_direction pose.axis) e

  -- ---- where: within the limits, or above -180 and at most 180
  abbrev pub allowed_angles : Joints → Bool
  allowed_angles j = allowed k.first.limits j.a0 && allowed (second_travel k) j.a1

  pub inverse_allowed : all allowed_angles (solutions_in (inverse k pose tool hint)) ≡ true
  unfolding all wrapped joints_at
  inverse_allowed =
      answers_are (λ l. all allowed_angles l ≡ true) refl
      (λ target e. solutions_pass (prepared k) target pose.tip tool _ allowed_angles (λ a g m. g) (wrapped k target hint)
      (wraps_inside k.first.limits (second_travel k) (raw_angles k target hint)))

  -- ---- in order: none of two neighbours precedes the one before it
  pub inverse_sorted : (i : ℕ) (d : Joints) → suc i < length (solutions_in (inverse k pose tool hint))
      → precedes (get_or (solutions_in (inverse k pose tool hint)) (suc i) d) (get_or (solutions_in (inverse k pose tool hint)) i d) ≡ false
  unfolding solutions in_order
  inverse_sorted i d h = neighbours (solutions_in (inverse k pose tool hint)) i d (answers_are (λ l. in_order l ≡ true) refl (λ target e. sorted_order _)) h

  -- ---- on the target: the axis that forward reaches is no more than 1e-9 off
  abbrev pub axis_at : Joints → Vec3
  axis_at j = (forward_core (prepared k) (turns_of (prepared k) j.a0 j.a1) j.xyz tool).axis

  abbrev aimed : Option Vec3 → Vec3
  aimed (Some u) = u
  aimed None = origin

  on_target : (target : Vec3) (a : Angles) → misses (pose_at (prepared k) a tool).axis target ≡ false
      → not (misses (axis_at (joints_at (prepared k) a pose.tip (pose_at (prepared k) a tool).tip)) target) ≡ true
  unfolding pose_at joints_at forward_core reach
  on_target target a e = ap not e

  pub inverse_reaches : (target : Vec3) → unit_direction pose.axis ≡ Some target → all (λ j. not (misses (axis_at j) target)) (solutions_in (inverse k pose tool hint)) ≡ true
  unfolding all
  inverse_reaches target e =
      answers_are (λ l. all (λ j. not (misses (axis_at j) target)) l ≡ true) refl
      (λ u f. solutions_pass (prepared k) u pose.tip tool (λ a. true) (λ j. not (misses (axis_at j) target))
      (λ a g m. on_target target a (subst (λ (t : Vec3). misses (pose_at (prepared k) a tool).axis t ≡ false) (ap aimed (sym f ∙ e)) m)) (wrapped k u hint) (everything (wrapped k u hint)))
    where
      everything : (l : List Angles) → all (λ a. true) l ≡ true
      everything [] = refl
      everything (a ∷ l) = everything l
