-- Every angle that `choose` answers is a double of at most 36,900 degrees (`chosen_angles`): so it is snapped to its nearest
-- half degree (`chosen_nearest`), and no turn by a tooth is the fallback beyond 45,000 degrees.
use Rattle.std.proofs.Common.{◌≡◌, ℕ, zero, suc, T, List, [], ◌∷◌, get_or, refl, sym, subst, lit≤}
use lib.Ieee as Ieee
use lib.Ieee.{Float, binary64, fits}
use lib.Ieee.Bits.{of_bits-fits}
use lib.Ieee.Fits.{add-fits}
use Rattle.std.specs.Prelude.{Err, None, Ok, Option, Result, Some}
use Rattle.refusal.specs.declared.Refusal.{Refusal}
use Rattle.lists.specs.Each.{Each}
use Rattle.lists.specs.Search.{first_hit}
use Rattle.lists.proofs.Each.{each_more, each_both, fold_keeps}
use Rattle.lists.proofs.Library.{fold_is, find_or}
use Rattle.float.specs.Helpers.{nought}
use Rattle.float.proofs.UpTo.{UpTo, up_to_more, nought_up_to}
use Rattle.trig.proofs.Choices.{chosen}
use Rattle.geometry.specs.declared.Vec3.{Vec3}
use Rattle.geometry.specs.Direction.{unit_direction}
use Rattle.geometry.specs.Vector.{plus}
use Rattle.chain.specs.declared.RotaryLimits.{RotaryLimits}
use Rattle.chain.specs.Checked.{Checked}
use Rattle.chain.specs.declared.Joints.{Joints}
use Rattle.chain.specs.declared.Kinematics.{Kinematics}
use Rattle.chain.specs.declared.Prepared.{Prepared}
use Rattle.chain.specs.declared.ToolPose.{ToolPose}
use Rattle.chain.specs.Prepared.{prepared}
use Rattle.inverse.specs.declared.Angles.{Angles}
use Rattle.inverse.specs.declared.Ranked.{Ranked}
use Rattle.inverse.specs.declared.Choice.{Choice}
use Rattle.inverse.specs.declared.Choice.TheVariants.{Nearest, FirstPositive, FirstNegative}
use Rattle.arrayvec.specs.ArrayVec.{ArrayVec}
use Rattle.inverse.specs.Wraps.{allowed, keep_allowed, angle_candidates, has, angles_of, add_pair, add_row, add_rows, add_raw, expand_wraps, second_travel}
use Rattle.inverse.specs.Solutions.{precedes, insert, sorted, nowhere, filled}
use Rattle.inverse.specs.Inverse.{Answers, solutions_in, pose_at, misses, joints_at, reached, solutions, raw_angles, wrapped, solved_check, answered, solved, inverse_check, toward, unless_refused, inverse}
use Rattle.inverse.specs.Choose as Choose
use Rattle.inverse.specs.Choose.{best_of, nearer, nearest, first_suiting, suits, hint_of, picked, choose}
use Rattle.inverse.proofs.AngleBounds.{PairUpTo, wrapped_within}
use Rattle.inverse.proofs.AfterChecks.{FitAngles, checked_hint}
use Rattle.hirth.specs.Snapping.{snapped, NearestTooth}
use Rattle.hirth.proofs.HalfDegree.{nearest_tooth}

-- ---- lists
each_get : {A : Type 0} (P : A → Type 0) (l : List A) (i : ℕ) (d : A) → Each P l → P d → P (get_or l i d)
each_get P [] i d L D = D
each_get P (x ∷ l) zero d L D = L.0
each_get P (x ∷ l) (suc i) d L D = each_get P l i d L.1 D

-- ---- the pairs of angles: each angle is a sum, so a double
abbrev Double : Float → Type 0
Double x = T (fits binary64 x)

keep_fits : (travel : Option RotaryLimits) (l : List Float) (angle turn : Float) → Each Double l → Each Double (keep_allowed travel l (plus angle turn))
unfolding keep_allowed
keep_fits travel l angle turn L =
    chosen (Each Double) (allowed travel (plus angle turn)) _ _ (λ e. each_more Double l (plus angle turn) L (add-fits binary64 angle turn)) (λ e. L)

candidates_fit : (angle : Float) (travel : Option RotaryLimits) → Each Double (angle_candidates angle travel)
unfolding angle_candidates
candidates_fit angle travel =
    fold_keeps (Each Double) (λ turn. Unit {0}) _ (λ l turn L R. keep_fits travel l angle turn L) _ [] tt (tt, (tt, (tt, (tt, (tt, tt)))))

pair_fits : (a0 : Float) (l : List Angles) (a1 : Float) → Double a0 → Each FitAngles l → Double a1 → Each FitAngles (add_pair a0 l a1)
unfolding add_pair
pair_fits a0 l a1 A L B = chosen (Each FitAngles) (has (angles_of a0 a1) l) _ _ (λ e. L) (λ e. each_more FitAngles l (angles_of a0 a1) L (A, B))

row_fits : (second : List Float) (l : List Angles) (a0 : Float) → Each Double second → Each FitAngles l → Double a0 → Each FitAngles (add_row second l a0)
unfolding add_row
row_fits second l a0 S L A = fold_keeps (Each FitAngles) Double (add_pair a0) (λ m a1 M B. pair_fits a0 m a1 A M B) second l L S

rows_fit : (first second : List Float) (l : List Angles) → Each Double first → Each Double second → Each FitAngles l → Each FitAngles (add_rows first second l)
unfolding add_rows
rows_fit first second l F S L = fold_keeps (Each FitAngles) Double (add_row second) (λ m a0 M A. row_fits second m a0 S M A) first l L F

raw_fits : (first second : Option RotaryLimits) (raw : Option Angles) (l : List Angles) → Each FitAngles l → Each FitAngles (add_raw first second raw l)
raw_fits first second (Some raw) l L = rows_fit _ _ l (candidates_fit raw.a0 first) (candidates_fit raw.a1 second) L
raw_fits first second None l L = L

wrapped_fits : (k : Kinematics) (target : Vec3) (hint : Angles) → Each FitAngles (wrapped k target hint)
unfolding wrapped expand_wraps
wrapped_fits k target hint =
    let raw = raw_angles k target hint in
    raw_fits k.first.limits (second_travel k) raw.second _ (raw_fits k.first.limits (second_travel k) raw.first [] tt)

-- ---- the solutions
abbrev Angle : Float → Type 0
Angle x = UpTo 36900 x × T (fits binary64 x)

abbrev pub Within : Joints → Type 0
Within j = Angle j.a0 × Angle j.a1

abbrev Both : Angles → Type 0
Both a = PairUpTo 36900 a × FitAngles a

nowhere_within : Within nowhere
nowhere_within =
    let N : Angle nought = (up_to_more 0 36900 nought (lit≤ tt) nought_up_to, of_bits-fits binary64 0) in
    (N, N)

reached_within : (p : Prepared) (target tip : Vec3) (tool : Float) (l : List Angles) → Each Both l → Each Within (reached p target tip tool l)
unfolding reached joints_at
reached_within p target tip tool [] L = tt
reached_within p target tip tool (a ∷ l) L =
    let rest = reached_within p target tip tool l L.1 in
    chosen (Each Within) (misses (pose_at p a tool).axis target) _ _ (λ e. rest) (λ e. (((L.0.0.0, L.0.1.0), (L.0.0.1, L.0.1.1)), rest))

insert_within : (l : List Joints) (j : Joints) → Each Within l → Within j → Each Within (insert l j)
unfolding insert
insert_within [] j L J = (J, tt)
insert_within (k ∷ l) j L J = chosen (Each Within) (precedes j k) _ _ (λ e. (J, L)) (λ e. (L.0, insert_within l j L.1 J))

sorted_within : (l : List Joints) → Each Within l → Each Within (sorted l)
unfolding sorted
sorted_within l L = fold_keeps (Each Within) Within insert (λ m j M J. insert_within m j M J) l [] tt L

-- ---- the answers of `inverse`, of which `choose` takes one
answered_within : (c : Checked) (s : ArrayVec Joints) → Each Within s.items → Each Within (solutions_in (answered c s))
answered_within (Ok _) s S = S
answered_within (Err r) s S = tt

solved_within : (k : Kinematics) (target tip : Vec3) (tool : Float) (hint : Angles) → PairUpTo 36000 hint → Each Within (solutions_in (solved k target tip tool hint))
unfolding solved solutions
solved_within k target tip tool hint H =
    let pairs = wrapped k target hint in
    let l = reached (prepared k) target tip tool pairs in
    answered_within (solved_check (raw_angles k target hint) pairs (sorted l)) (filled (sorted l))
    (sorted_within l (reached_within (prepared k) target tip tool pairs (each_both (PairUpTo 36900) FitAngles pairs (wrapped_within k target hint H) (wrapped_fits k target hint))))

toward_within : (d : Option Vec3) (k : Kinematics) (tip : Vec3) (tool : Float) (hint : Angles) → PairUpTo 36000 hint → Each Within (solutions_in (toward d k tip tool hint))
toward_within (Some target) k tip tool hint H = solved_within k target tip tool hint H
toward_within None k tip tool hint H = tt

inverse_within : (k : Kinematics) (pose : ToolPose) (tool : Float) (hint : Angles) → FitAngles hint → Each Within (solutions_in (inverse k pose tool hint))
unfolding inverse
inverse_within k pose tool hint fit = go (inverse_check k pose tool hint) refl
  where
    go : (c : Checked) → inverse_check k pose tool hint ≡ c → Each Within (solutions_in (unless_refused c (toward (unit_direction pose.axis) k pose.tip tool hint)))
    go (Ok _) e = toward_within (unit_direction pose.axis) k pose.tip tool hint (checked_hint k pose tool hint e fit)
    go (Err r) e = tt

-- ---- the choice
module _ (s : List Joints) (S : Each Within s) where
  first_within : Within (Choose.first s)
  first_within = each_get Within s 0 nowhere S nowhere_within

  nearer_within : (preferred : Angles) (best : Ranked) (j : Joints) → Within best.joints → Within j → Within (nearer preferred best j).joints
  unfolding nearer best_of
  nearer_within preferred best j B J =
      chosen (λ (b : Ranked). Within b.joints) (Ieee.le best.distance (best_of preferred j).distance) _ _ (λ e. B) (λ e. J)

  nearest_within : (preferred : Angles) → Within (nearest s preferred)
  unfolding nearest best_of
  nearest_within preferred =
      subst (λ (b : Ranked). Within b.joints) (fold_is (nearer preferred) (best_of preferred (Choose.first s)) s)
      (fold_keeps (λ (b : Ranked). Within b.joints) Within (nearer preferred) (λ b j B J. nearer_within preferred b j B J) s (best_of preferred (Choose.first s)) first_within S)

  suiting_within : (choice : Choice) → Within (first_suiting s choice)
  unfolding first_suiting
  suiting_within choice = subst Within (sym (find_or (suits choice) s (Choose.first s))) (each_get Within s (first_hit (suits choice) s) (Choose.first s) S first_within)

  picked_within : (choice : Choice) → Within (picked s choice)
  picked_within (Nearest a0 a1) = nearest_within (angles_of a0 a1)
  picked_within FirstPositive = suiting_within FirstPositive
  picked_within FirstNegative = suiting_within FirstNegative

abbrev WithinAnswer : Result Joints Refusal → Type 0
WithinAnswer (Ok j) = Within j
WithinAnswer (Err r) = Unit {0}

choice_within : (a : Answers) (choice : Choice) → Each Within (solutions_in a) → WithinAnswer (Choose.chosen a choice)
choice_within (Ok s) choice S = picked_within s.items S choice
choice_within (Err r) choice S = tt

module _ (k : Kinematics) (pose : ToolPose) (tool : Float) (choice : Choice) (j : Joints) (fit : FitAngles (hint_of choice)) (e : choose k pose tool choice ≡ Ok j) where
  answer_within : WithinAnswer (choose k pose tool choice)
  unfolding choose
  answer_within = choice_within (inverse k pose tool (hint_of choice)) choice (inverse_within k pose tool (hint_of choice) fit)

  pub chosen_angles : Within j
  chosen_angles = subst WithinAnswer e answer_within

  pub chosen_nearest : NearestTooth j.a0 (snapped j.a0) × NearestTooth j.a1 (snapped j.a1)
  chosen_nearest = (at j.a0 chosen_angles.0, at j.a1 chosen_angles.1)
    where
      at : (a : Float) → Angle a → NearestTooth a (snapped a)
      at a A = nearest_tooth a A.1 (up_to_more 36900 45000 a (lit≤ tt) A.0)
