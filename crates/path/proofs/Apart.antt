-- R-3, parallel rotaries on a path: where they are refused as 30 and what every other chain gets; and that on the chains that are
-- left no path meets a branch of parallel axes, which would take an angle from the start.
use Prim.Native.Nat.{ℕ, ◌/◌}
use mathlib.Core.Path.{◌≡◌, refl, sym, ap, ◌∙◌}
use mathlib.Core.Bool.{Bool, true, false, not, cond, true≢false}
use mathlib.Core.Logic.{◌↔◌}
use mathlib.Core.List.{List, [], ◌∷◌}
use lib.Dec.{eqb, leb}
use lib.ListN.{length}
use lib.Ieee.{Float, binary64, lt}
use lib.Ieee.Fits.{mul-fits}
use lib.Ieee.Scale.{finite}
use Rattle.std.specs.Prelude.{Err, None, Ok, Option, Some}
use Rattle.float.proofs.Commute.{mul_commutes, square_sub_symmetric}
use Rattle.refusal.specs.declared.Refusal.{Refusal}
use Rattle.refusal.specs.declared.Cause.{Cause}
use Rattle.refusal.specs.Numbers.{refusal}
use Rattle.refusal.specs.declared.Cause.{Cause}
use Rattle.geometry.specs.declared.Vec3.{Vec3}
use Rattle.geometry.specs.Vector.{cross, norm, dot, minus, times}
use Rattle.geometry.specs.Direction.{all_finite}
use Rattle.chain.specs.declared.Joints.{Joints}
use Rattle.chain.specs.Checked.{Checked}
use Rattle.chain.specs.declared.Kinematics.{Kinematics}
use Rattle.chain.specs.declared.Carrier.{Carrier}
use Rattle.chain.specs.declared.Carrier.TheVariants.{Table, Head}
use Rattle.chain.specs.declared.RotaryJoint.{RotaryJoint}
use Rattle.chain.proofs.Passing.{refused_passed}
use Rattle.chain.specs.Check.{demand, then, first_refusal, travel_good, has_direction, known_letter, other_letter, rotary_check, one_or_two, second_check, chain_check}
use Rattle.chain.specs.Prepared.{unit_axis, spin_of, second_spin, prepared}
use Rattle.inverse.specs.Subproblem.{shortest, sp2}
use Rattle.inverse.specs.AxisMap.{map_of, axis_map_of}
use Rattle.inverse.specs.Orientation.{raw_pair, two_joint_angles}
use Rattle.inverse.specs.declared.Angles.{Angles}
use Rattle.path.specs.Locking.{placed_at, locked_angles, locked_joints}
use Rattle.path.specs.Posing.{set_up}
use Rattle.path.specs.Solving.{Kept, whole_records, cone_good, parallel, path_chain, start_finite, path_sizes, solve_check, solve_path}
use Rattle.path.specs.Unwinding.{unwind_angles, has_second}

-- ---- the chain check of a path
pub parallel_refused : (k : Kinematics) → chain_check k ≡ Ok tt → parallel k ≡ true → path_chain k ≡ Err (refusal Cause.ParallelRotaries 0)
unfolding path_chain
parallel_refused k p h = rw (p, h)

-- a chain that its own check refuses is refused as it was
pub chain_first : (k : Kinematics) {r : Refusal} → chain_check k ≡ Err r → path_chain k ≡ Err r
unfolding path_chain
chain_first k h = rw h

-- every other chain is checked as it was
pub apart_kept : (k : Kinematics) → parallel k ≡ false → path_chain k ≡ chain_check k
unfolding path_chain
apart_kept k h = go (chain_check k) (parallel k) h
  where
    go : (c : Checked) (b : Bool) → b ≡ false → then c (demand (not b) Cause.ParallelRotaries 0) ≡ c
    go (Ok _) true e = absurd (true≢false e)
    go (Ok _) false e = refl
    go (Err r) b e = refl

-- ---- 30 is its own: no check of a chain answers it
abbrev is_parallel : Cause → Bool
is_parallel Cause.ParallelRotaries = true
is_parallel _ = false

abbrev other : Checked → Bool
other (Ok _) = true
other (Err r) = not (is_parallel r.cause)

rotary_other : (j : RotaryJoint) (earlier : Option ℕ) (i : ℕ) → other (rotary_check j earlier i) ≡ true
unfolding rotary_check
rotary_other j earlier i =
    go (known_letter j.letter) (other_letter j.letter earlier) (all_finite j.axis) (has_direction j.axis) (all_finite j.pivot) (travel_good j.limits) (finite j.rest)
  where
    go : (a b c d e f g : Bool)
        → other (first_refusal (demand a Cause.RotaryLetter i ∷ demand b Cause.LetterTwice i ∷ demand c Cause.ChainNotFinite i ∷ demand d Cause.RotaryAxisZero i ∷ demand e Cause.ChainNotFinite i ∷ demand f Cause.LimitsRefused i ∷ demand g Cause.ChainNotFinite i ∷ [])) ≡ true
    go false b c d e f g = refl
    go true false c d e f g = refl
    go true true false d e f g = refl
    go true true true false e f g = refl
    go true true true true false f g = refl
    go true true true true true false g = refl
    go true true true true true true false = refl
    go true true true true true true true = refl

second_other : (k : Kinematics) → other (second_check k) ≡ true
unfolding second_check
second_other k = go (eqb k.count 2) (rotary_check k.second (Some k.first.letter) 1) (rotary_other k.second (Some k.first.letter) 1)
  where
    go : (two : Bool) (c : Checked) → other c ≡ true → other (cond two c (Ok tt)) ≡ true
    go true c h = h
    go false c h = refl

chain_other : (k : Kinematics) → other (chain_check k) ≡ true
unfolding chain_check
chain_other k =
    go (one_or_two k.count) (rotary_check k.first None 0) (second_check k) (all_finite k.spindle_axis) (has_direction k.spindle_axis) (rotary_other k.first None 0)
    (second_other k)
  where
    go : (a : Bool) (first second : Checked) (d e : Bool) → other first ≡ true → other second ≡ true
        → other (first_refusal (demand a Cause.RotaryCount 0 ∷ first ∷ second ∷ demand d Cause.ChainNotFinite 0 ∷ demand e Cause.SpindleZero 0 ∷ [])) ≡ true
    go false first second d e p q = refl
    go true (Err r) second d e p q = p
    go true (Ok _) (Err r) d e p q = q
    go true (Ok _) (Ok _) false e p q = refl
    go true (Ok _) (Ok _) true false p q = refl
    go true (Ok _) (Ok _) true true p q = refl

pub exactly_parallel : (k : Kinematics) → (path_chain k ≡ Err (refusal Cause.ParallelRotaries 0)) ↔ ((chain_check k ≡ Ok tt) × (parallel k ≡ true))
unfolding path_chain
exactly_parallel k = (λ e. go (chain_check k) (parallel k) (chain_other k) e, λ h. parallel_refused k h.0 h.1)
  where
    go : (c : Checked) (b : Bool) → other c ≡ true → then c (demand (not b) Cause.ParallelRotaries 0) ≡ Err (refusal Cause.ParallelRotaries 0) → (c ≡ Ok tt) × (b ≡ true)
    go (Ok _) true o e = (refl, refl)
    go (Ok _) false o e = absurd (refused_passed (sym e))
    go (Err r) b o e = absurd (true≢false (sym o ∙ ap other e))

-- ---- solve_path: 30 alone, with all kept, whatever the start, the sizes, the poses and the space; so on an empty path too
module _ (k : Kinematics) (start : Option Joints) (cone : Float) where
  pub solve_parallel : (numbers room : ℕ) → whole_records numbers room ≡ true → cone_good cone ≡ true → chain_check k ≡ Ok tt → parallel k ≡ true
      → solve_check k start cone numbers room ≡ Err (refusal Cause.ParallelRotaries 0)
  unfolding solve_check
  solve_parallel numbers room whole good passed par = rw (whole, good, parallel_refused k passed par)

  pub path_parallel : (poses : List Float) (room : ℕ) → whole_records (length poses) room ≡ true → cone_good cone ≡ true → chain_check k ≡ Ok tt → parallel k ≡ true
      → solve_path k poses start cone room ≡ Kept (refusal Cause.ParallelRotaries 0)
  unfolding solve_path
  path_parallel poses room whole good passed par = rw (solve_parallel (length poses) room whole good passed par)

  -- every other chain gets the list of checks that stood here before
  pub solve_kept : (numbers room : ℕ) → parallel k ≡ false
      → solve_check k start cone numbers room
      ≡ first_refusal
      (demand (whole_records numbers room) Cause.LengthsDiffer 0
      ∷ demand (cone_good cone) Cause.Cone 0
      ∷ chain_check k
      ∷ demand (start_finite start) Cause.NotFinite 0
      ∷ demand (path_sizes k start (numbers / 6)) Cause.TooLarge 0
      ∷ demand (leb (numbers / 6) (room / 5)) Cause.NoSpace 0
      ∷ [])
  unfolding solve_check
  solve_kept numbers room h = rw (apart_kept k h)

-- ---- the chains that are left
-- (a b - c d)² is (d c - b a)²
square_swapped : (a b c d : Float)
    → times (minus (times a b) (times c d)) (minus (times a b) (times c d)) ≡ times (minus (times d c) (times b a)) (minus (times d c) (times b a))
square_swapped a b c d =
    square_sub_symmetric (times a b) (times c d) (mul-fits binary64 a b) (mul-fits binary64 c d)
    ∙ ap (λ (p : Float). times (minus (times c d) p) (minus (times c d) p)) (mul_commutes binary64 a b)
    ∙ ap (λ (q : Float). times (minus q (times b a)) (minus q (times b a))) (mul_commutes binary64 c d)

-- the cross product is as long in the other order, in every bit
pub norm_cross : (a b : Vec3) → norm (cross a b) ≡ norm (cross b a)
unfolding norm dot cross
norm_cross a b = rw (square_swapped a.y b.z a.z b.y, square_swapped a.z b.x a.x b.z, square_swapped a.x b.y a.y b.x)

-- whatever the carriers, the orientation equation has the rotaries' axes in one order or the other
either_order : (m n : Carrier) (a b : Vec3) → norm (cross (map_of m n a b).wa (map_of m n a b).wb) ≡ norm (cross a b)
either_order Table Table a b = norm_cross b a
either_order Table Head a b = refl
either_order Head Table a b = norm_cross b a
either_order Head Head a b = refl

module _ (k : Kinematics) (two : k.count ≡ 2) (left : parallel k ≡ false) where
  second_is : (prepared k).second ≡ Some (spin_of k.second)
  unfolding prepared second_spin
  second_is = rw two

  not_short : lt (norm (cross (unit_axis k.first.axis) (unit_axis k.second.axis))) shortest ≡ false
  unfolding parallel
  not_short = rw two at left

  pub axes_apart : lt (norm (cross (axis_map_of (prepared k)).wa (axis_map_of (prepared k)).wb)) shortest ≡ false
  unfolding axis_map_of prepared spin_of
  axes_apart = rw (second_is, either_order k.first.carrier k.second.carrier (unit_axis k.first.axis) (unit_axis k.second.axis)) not_short

  -- of the two-rotary solution subproblem 2 alone is left, which takes no hint but for an angle that the pose leaves free
  pub no_parallel_branch : (spindle target : Vec3) (hint : Angles)
      → two_joint_angles (axis_map_of (prepared k)) spindle target hint ≡ raw_pair (axis_map_of (prepared k)) (sp2 (axis_map_of (prepared k)).wa (axis_map_of (prepared k)).wb spindle target) hint
  unfolding two_joint_angles
  no_parallel_branch spindle target hint = rw axes_apart

  -- and the lock inside the cone is not refused for them
  pub no_parallel_lock : (cone : Float) (onSecond : Bool) (target tip : Vec3) (previous : Angles)
      → locked_joints (set_up k cone) onSecond target tip previous
      ≡ placed_at (prepared k) tip (unwind_angles (has_second (set_up k cone).bounds) (locked_angles (axis_map_of (prepared k)) onSecond (prepared k).spindle target previous) previous)
  unfolding locked_joints set_up
  no_parallel_lock cone onSecond target tip previous = rw axes_apart
