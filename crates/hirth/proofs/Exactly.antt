-- The promise of the profile. `choose` answers one of its own numbers (`choose_numbers`), none of which is 19, 30 or 31; so 31
-- comes exactly where the solution on its teeth leaves the limits or breaks the tolerance, and 19 exactly for a bad tolerance.
use Rattle.std.proofs.Common.{◌≡◌, ℕ, Bool, true, false, cond, ◌||◌, T, eqb, ltb, ◌⊎◌, ◌↔◌, List, [], ◌∷◌, length, sym, refl, ap, subst, inl, inr, arith}
use lib.Ieee.{Float}
use lib.Ieee.Scale.{finite}
use Rattle.std.specs.Prelude.{Err, None, Ok, Option, Result, Some}
use Rattle.geometry.specs.declared.Vec3.{Vec3}
use Rattle.geometry.specs.Direction.{all_finite, unit_direction}
use Rattle.refusal.specs.declared.Refusal.{Refusal}
use Rattle.refusal.specs.Numbers.{number_of, refusal}
use Rattle.refusal.specs.declared.Cause.{Cause}
use Rattle.chain.specs.Checked.{Checked}
use Rattle.chain.specs.declared.Joints.{Joints}
use Rattle.chain.specs.declared.Kinematics.{Kinematics}
use Rattle.chain.specs.declared.RotaryJoint.{RotaryJoint}
use Rattle.chain.specs.declared.ToolPose.{ToolPose}
use Rattle.chain.specs.Check.{demand, then, rotary_check, second_check, chain_check, known_letter, other_letter, has_direction, travel_good, one_or_two}
use Rattle.chain.proofs.Passing.{refused_passed}
use Rattle.chain.specs.Prepared.{prepared}
use Rattle.chain.specs.Forward.{length_good}
use Rattle.arrayvec.specs.ArrayVec.{ArrayVec}
use Rattle.inverse.specs.declared.Angles.{Angles}
use Rattle.inverse.specs.declared.Choice.{Choice}
use Rattle.inverse.specs.UpToTwo.{RawPair}
use Rattle.inverse.specs.Choose.{choose, chosen, hint_of}
use Rattle.inverse.specs.Inverse.{Answers, checked_in, raw_angles, wrapped, solutions, some_raw, positions_finite, hint_finite, inverse_sizes, solved_check, answered, solved, inverse_check, toward, unless_refused, inverse}
use Rattle.divide.specs.Checking.{tolerance_good}
use Rattle.hirth.specs.Profile.{holds_limits, holds_tolerance, tooth_joints, missed, limited, held, toothed, after_choose, choose_tooth}
use Rattle.hirth.specs.Promise.{number_in, Misses, Promised}
use Rattle.hirth.proofs.Chosen.{chosen_nearest}

-- ---- the numbers that `choose` answers: 0, 3 to 9, 14 to 17, 21 and 22
abbrev among : ℕ → List ℕ → Bool
among n [] = false
among n (m ∷ l) = eqb n m || among n l

abbrev of_choose : ℕ → Bool
of_choose n = among n (0 ∷ 3 ∷ 4 ∷ 5 ∷ 6 ∷ 7 ∷ 8 ∷ 9 ∷ 14 ∷ 15 ∷ 16 ∷ 17 ∷ 21 ∷ 22 ∷ [])

abbrev number_from : Checked → ℕ
number_from (Ok _) = 0
number_from (Err r) = number_of r.cause

record Own (c : Checked) : Type 0 where
  number : T (of_choose (number_from c))

then_own : (c d : Checked) → Own c → Own d → Own (then c d)
then_own (Ok _) d f g = g
then_own (Err r) d f g = f

demand_own : (b : Bool) (n : Cause) (at : ℕ) → T (of_choose (number_of n)) → Own (demand b n at)
demand_own true n at f = record { number = tt }
demand_own false n at f = record { number = f }

cond_own : (b : Bool) (c d : Checked) → Own c → Own d → Own (cond b c d)
cond_own true c d f g = f
cond_own false c d f g = g

rotary_own : (j : RotaryJoint) (earlier : Option ℕ) (i : ℕ) → Own (rotary_check j earlier i)
unfolding rotary_check
rotary_own j earlier i =
    then_own _ _ (demand_own (known_letter j.letter) Cause.RotaryLetter i tt)
    (then_own _ _ (demand_own (other_letter j.letter earlier) Cause.LetterTwice i tt)
    (then_own _ _ (demand_own (all_finite j.axis) Cause.ChainNotFinite i tt)
    (then_own _ _ (demand_own (has_direction j.axis) Cause.RotaryAxisZero i tt)
    (then_own _ _ (demand_own (all_finite j.pivot) Cause.ChainNotFinite i tt)
    (then_own _ _ (demand_own (travel_good j.limits) Cause.LimitsRefused i tt) (demand_own (finite j.rest) Cause.ChainNotFinite i tt))))))

second_own : (k : Kinematics) → Own (second_check k)
unfolding second_check
second_own k = cond_own (eqb k.count 2) _ _ (rotary_own k.second (Some k.first.letter) 1) (record { number = tt })

chain_own : (k : Kinematics) → Own (chain_check k)
unfolding chain_check
chain_own k =
    then_own _ _ (demand_own (one_or_two k.count) Cause.RotaryCount 0 tt)
    (then_own _ _ (rotary_own k.first None 0)
    (then_own _ _ (second_own k)
    (then_own _ _ (demand_own (all_finite k.spindle_axis) Cause.ChainNotFinite 0 tt) (demand_own (has_direction k.spindle_axis) Cause.SpindleZero 0 tt))))

inverse_check_own : (k : Kinematics) (pose : ToolPose) (tool : Float) (hint : Angles) → Own (inverse_check k pose tool hint)
unfolding inverse_check
inverse_check_own k pose tool hint =
    then_own _ _ (demand_own (length_good tool) Cause.ToolLength 0 tt)
    (then_own _ _ (demand_own (has_direction pose.axis) Cause.ToolAxisZero 0 tt)
    (then_own _ _ (chain_own k)
    (then_own _ _ (demand_own (all_finite pose.tip) Cause.NotFinite 0 tt)
    (then_own _ _ (demand_own (hint_finite hint) Cause.NotFinite 0 tt) (demand_own (inverse_sizes k pose.tip tool hint) Cause.TooLarge 0 tt)))))

solved_check_own : (raw : RawPair) (pairs : List Angles) (l : List Joints) → Own (solved_check raw pairs l)
unfolding solved_check
solved_check_own raw pairs l =
    then_own _ _ (demand_own (some_raw raw) Cause.NotReachable 0 tt)
    (then_own _ _ (demand_own (ltb 0 (length pairs)) Cause.OutsideLimits 0 tt)
    (then_own _ _ (demand_own (positions_finite l) Cause.NotFinite 0 tt) (demand_own (ltb 0 (length l)) Cause.NotReachable 0 tt)))

answered_own : (c : Checked) (s : ArrayVec Joints) → Own c → Own (checked_in (answered c s))
answered_own (Ok _) s f = f
answered_own (Err r) s f = f

solved_own : (k : Kinematics) (target tip : Vec3) (tool : Float) (hint : Angles) → Own (checked_in (solved k target tip tool hint))
unfolding solved
solved_own k target tip tool hint =
    let l = solutions (prepared k) target tip tool (wrapped k target hint) in
    answered_own (solved_check (raw_angles k target hint) (wrapped k target hint) l) _ (solved_check_own (raw_angles k target hint) (wrapped k target hint) l)

toward_own : (d : Option Vec3) (k : Kinematics) (tip : Vec3) (tool : Float) (hint : Angles) → Own (checked_in (toward d k tip tool hint))
toward_own (Some target) k tip tool hint = solved_own k target tip tool hint
toward_own None k tip tool hint = record { number = tt }

unless_own : (c : Checked) (a : Answers) → Own c → Own (checked_in a) → Own (checked_in (unless_refused c a))
unless_own (Ok _) a f g = g
unless_own (Err r) a f g = f

inverse_own : (k : Kinematics) (pose : ToolPose) (tool : Float) (hint : Angles) → Own (checked_in (inverse k pose tool hint))
unfolding inverse
inverse_own k pose tool hint =
    unless_own (inverse_check k pose tool hint) _ (inverse_check_own k pose tool hint) (toward_own (unit_direction pose.axis) k pose.tip tool hint)

chosen_own : (a : Answers) (choice : Choice) → Own (checked_in a) → T (of_choose (number_in (chosen a choice)))
chosen_own (Ok s) choice f = tt
chosen_own (Err r) choice f = f.number

pub choose_numbers : (k : Kinematics) (pose : ToolPose) (tool : Float) (choice : Choice) → T (of_choose (number_in (choose k pose tool choice)))
unfolding choose
choose_numbers k pose tool choice = chosen_own (inverse k pose tool (hint_of choice)) choice (inverse_own k pose tool (hint_of choice))

-- ---- the answers of the profile, by cases
module _ (k : Kinematics) (pose : ToolPose) (tool : Float) (choice : Choice) (tol : Float) where
  pub tolerance_first : {r : Refusal} → demand (tolerance_good tol) Cause.Tolerance 0 ≡ Err r → choose_tooth k pose tool choice tol ≡ Err r
  unfolding choose_tooth
  tolerance_first {r} h = go (tolerance_good tol) h
    where
      go : (b : Bool) → demand b Cause.Tolerance 0 ≡ Err r → cond b (after_choose k pose tool tol (choose k pose tool choice)) (Err (refusal Cause.Tolerance 0)) ≡ Err r
      go true e = absurd (refused_passed (sym e))
      go false e = cc

  pub refused_first : (r : Refusal) → tolerance_good tol ≡ true → choose k pose tool choice ≡ Err r → choose_tooth k pose tool choice tol ≡ Err r
  unfolding choose_tooth
  refused_first r h e = rw (h, e)

  pub after_solution : (j : Joints) → tolerance_good tol ≡ true → choose k pose tool choice ≡ Ok j → choose_tooth k pose tool choice tol ≡ toothed k pose tool tol j
  unfolding choose_tooth
  after_solution j h e = rw (h, e)

  pub on_its_teeth : (j : Joints) → tolerance_good tol ≡ true → choose k pose tool choice ≡ Ok j → holds_limits k pose tool j ≡ true → holds_tolerance k pose tool tol j ≡ true
      → choose_tooth k pose tool choice tol ≡ Ok (tooth_joints k pose tool j)
  unfolding choose_tooth toothed held limited
  on_its_teeth j h e a b = rw (h, e, a, b)

  -- 31 of a solution exactly where a test fails
  breaks_missed : (j : Joints) → (holds_limits k pose tool j ≡ false) ⊎ (holds_tolerance k pose tool tol j ≡ false) → toothed k pose tool tol j ≡ missed
  unfolding toothed held limited
  breaks_missed j (inl p) = rw p (go (holds_tolerance k pose tool tol j))
    where
      go : (b : Bool) → cond b missed missed ≡ missed
      go true = refl
      go false = refl
  breaks_missed j (inr q) = rw q

  missed_breaks : (j : Joints) → number_in (toothed k pose tool tol j) ≡ number_of Cause.ToothMisses → (holds_limits k pose tool j ≡ false) ⊎ (holds_tolerance k pose tool tol j ≡ false)
  unfolding toothed held limited
  missed_breaks j e = go (holds_limits k pose tool j) (holds_tolerance k pose tool tol j) refl refl e
    where
      go : (a b : Bool) → holds_limits k pose tool j ≡ a → holds_tolerance k pose tool tol j ≡ b → number_in (cond b (cond a (Ok (tooth_joints k pose tool j)) missed) missed) ≡ number_of Cause.ToothMisses
          → (holds_limits k pose tool j ≡ false) ⊎ (holds_tolerance k pose tool tol j ≡ false)
      go true true p q e = absurd (omega (arith, e))
      go true false p q e = inr q
      go false b p q e = inl p

  missed_so : Misses k pose tool choice tol → choose_tooth k pose tool choice tol ≡ missed
  unfolding choose_tooth
  missed_so m = rw (m.good, m.solution) (breaks_missed m.j m.breaks)

  by_choice : (c : Result Joints Refusal) → tolerance_good tol ≡ true → choose k pose tool choice ≡ c → number_in (after_choose k pose tool tol c) ≡ number_of Cause.ToothMisses → Misses k pose tool choice tol
  by_choice (Ok j) h p e = record { j = j; good = h; solution = p; breaks = missed_breaks j e }
  by_choice (Err r) h p e = absurd (subst (λ (n : ℕ). T (of_choose n)) e (subst (λ (c : Result Joints Refusal). T (of_choose (number_in c))) p (choose_numbers k pose tool choice)))

  by_tolerance : (b : Bool) → tolerance_good tol ≡ b → number_in (cond b (after_choose k pose tool tol (choose k pose tool choice)) (Err (refusal Cause.Tolerance 0))) ≡ number_of Cause.ToothMisses → Misses k pose tool choice tol
  by_tolerance true h e = by_choice (choose k pose tool choice) h refl e
  by_tolerance false h e = absurd (omega (arith, e))

  -- with a good tolerance no number but those of `choose`, and 31
  module _ (n : ℕ) (foreign : T (of_choose n) → ⊥) (other : number_of Cause.ToothMisses ≡ n → ⊥) where
    toothed_other : (j : Joints) → number_in (toothed k pose tool tol j) ≡ n → ⊥
    unfolding toothed held limited
    toothed_other j e = go (holds_limits k pose tool j) (holds_tolerance k pose tool tol j) e
      where
        go : (a b : Bool) → number_in (cond b (cond a (Ok (tooth_joints k pose tool j)) missed) missed) ≡ n → ⊥
        go true true e = foreign (subst (λ (m : ℕ). T (of_choose m)) e tt)
        go true false e = other e
        go false true e = other e
        go false false e = other e

    after_other : (c : Result Joints Refusal) → T (of_choose (number_in c)) → number_in (after_choose k pose tool tol c) ≡ n → ⊥
    after_other (Ok j) f e = toothed_other j e
    after_other (Err r) f e = foreign (subst (λ (m : ℕ). T (of_choose m)) e f)

    good_other : number_in (after_choose k pose tool tol (choose k pose tool choice)) ≡ n → ⊥
    good_other e = after_other (choose k pose tool choice) (choose_numbers k pose tool choice) e

  -- ---- the promise
  pub exactly : (number_in (choose_tooth k pose tool choice tol) ≡ number_of Cause.ToothMisses) ↔ Misses k pose tool choice tol
  unfolding choose_tooth
  exactly = (λ e. by_tolerance (tolerance_good tol) refl e, λ m. ap number_in (missed_so m))

  bad_exactly : (number_in (choose_tooth k pose tool choice tol) ≡ number_of Cause.Tolerance) ↔ (tolerance_good tol ≡ false)
  unfolding choose_tooth
  bad_exactly = (λ e. go (tolerance_good tol) e, λ h. rw h)
    where
      go : (b : Bool) → number_in (cond b (after_choose k pose tool tol (choose k pose tool choice)) (Err (refusal Cause.Tolerance 0))) ≡ number_of Cause.Tolerance → b ≡ false
      go true e = absurd (good_other (number_of Cause.Tolerance) (λ t. t) (λ q. omega (arith, q)) e)
      go false e = refl

  no_parallel : number_in (choose_tooth k pose tool choice tol) ≡ number_of Cause.ParallelRotaries → ⊥
  unfolding choose_tooth
  no_parallel e = go (tolerance_good tol) e
    where
      go : (b : Bool) → number_in (cond b (after_choose k pose tool tol (choose k pose tool choice)) (Err (refusal Cause.Tolerance 0))) ≡ number_of Cause.ParallelRotaries → ⊥
      go true e = good_other (number_of Cause.ParallelRotaries) (λ t. t) (λ q. omega (arith, q)) e
      go false e = omega (arith, e)

  pub promised : Promised k pose tool choice tol (choose_tooth k pose tool choice tol)
  promised = record { misses = exactly; bad_tolerance = bad_exactly; refused = refused_first; answered = on_its_teeth; never_parallel = no_parallel; nearest = λ f g j e. chosen_nearest k pose tool choice j (f, g) e }

  -- the two promises of the function, from the one
  pub told : (answer : Result Joints Refusal) → choose_tooth k pose tool choice tol ≡ answer → (answer ≡ choose_tooth k pose tool choice tol) × Promised k pose tool choice tol answer
  told answer e = (sym e, subst (Promised k pose tool choice tol) e promised)
