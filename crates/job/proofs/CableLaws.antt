-- The cable number is the largest: of joint sets within the limits of size, its turns are at most the size of some wind,
-- and no more turns are. And where it is answered: `cable_answered`.
use Rattle.std.proofs.Common.{◌≡◌, ℕ, zero, suc, ◌%◌, ◌<◌, ◌≤◌, Bool, true, false, cond, not, ◌&&◌, eqb, ltb, ◌⊎◌, List, [], ◌∷◌, length, sym, refl, ◌∙◌, inl, inr, ⊎_elim, arith, ltb-false, ltb-true, le-ltb, lt-ltb, eq-eqb, ne_eqb}
use mathlib.Core.Bool.{and-eq-true_iff}
use lib.Ieee.{Float}
use Rattle.std.specs.Prelude.{Err, Ok}
use Rattle.lists.specs.Fold.{fold}
use Rattle.lists.specs.Search.{all}
use Rattle.refusal.specs.declared.Cause.{Cause}
use Rattle.chain.specs.Checked.{Checked}
use Rattle.chain.specs.declared.RotaryJoint.{RotaryJoint}
use Rattle.chain.specs.declared.Kinematics.{Kinematics}
use Rattle.chain.specs.declared.Joints.{Joints}
use Rattle.chain.specs.Check.{demand, one_or_two, chain_check, rotary_within, chain_within, all_within, within, joints_finite, joints_within, longest, farthest, most_turned}
use Rattle.chain.proofs.Passing.{refused_passed, then_passed, demand_passed}
use Rattle.chain.specs.Angles.{angle_of}
use Rattle.job.specs.Cable.{joint_sets, rest_of, wind_of, Turned, turns_of, turns_within, larger, most_turns, survey, cable_sizes, cable_check, cable_unless, cable_of, cable_number, Some, Largest}
use Rattle.job.specs.declared.Survey.{Survey}
use Rattle.job.proofs.Turns.{turned_of, turned_most}
use Rattle.job.proofs.Wound.{wind_within}

-- ---- the larger of two
larger_is : (a b : ℕ) (t : Bool) → ltb a b ≡ t → (a ≤ cond t b a) × ((b ≤ cond t b a) × ((cond t b a ≡ a) ⊎ (cond t b a ≡ b)))
larger_is a b true e = let h = ltb-true a b e in (omega (arith, h), (omega arith, inr refl))
larger_is a b false e = let h = ltb-false a b e in (omega arith, (omega (arith, h), inl refl))

-- ---- the largest of a list
module _ {A : Type 0} (f : A → ℕ) where
  abbrev step : ℕ → A → ℕ
  step k x = larger k (f x)

  at_least : (k : ℕ) (l : List A) → k ≤ fold step k l
  unfolding fold larger
  at_least k [] = omega arith
  at_least k (x ∷ l) =
      let h = at_least (larger k (f x)) l in
      let g = (larger_is k (f x) (ltb k (f x)) refl).0 in
      omega (arith, h, g)

  found : (k : ℕ) (l : List A) → (fold step k l ≡ k) ⊎ Some (λ (x : A). f x ≡ fold step k l) l
  unfolding fold larger Some
  found k [] = inl refl
  found k (x ∷ l) = by_rest (found (larger k (f x)) l) (larger_is k (f x) (ltb k (f x)) refl).1.1
    where
      by_rest : (fold step (larger k (f x)) l ≡ larger k (f x)) ⊎ Some (λ (y : A). f y ≡ fold step (larger k (f x)) l) l → (larger k (f x) ≡ k) ⊎ (larger k (f x) ≡ f x)
          → (fold step (larger k (f x)) l ≡ k) ⊎ ((f x ≡ fold step (larger k (f x)) l) ⊎ Some (λ (y : A). f y ≡ fold step (larger k (f x)) l) l)
      by_rest (inr s) w = inr (inr s)
      by_rest (inl e) (inl g) = inl (e ∙ g)
      by_rest (inl e) (inr g) = inr (inl (sym (e ∙ g)))

  none_larger : (n k : ℕ) (l : List A) → Some (λ (x : A). n ≤ f x) l → n ≤ fold step k l
  unfolding fold larger Some
  none_larger n k [] h = absurd h
  none_larger n k (x ∷ l) (inl h) =
      let g = (larger_is k (f x) (ltb k (f x)) refl).1.0 in
      let s = at_least (larger k (f x)) l in
      omega (arith, h, g, s)
  none_larger n k (x ∷ l) (inr h) = none_larger n (larger k (f x)) l h

-- ---- angles within 36,000 degrees, and winds from a rest within as many
pub angle_within : (rotary : ℕ) (j : Joints) → joints_within j ≡ true → within (angle_of rotary j) most_turned ≡ true
unfolding joints_within angle_of
angle_within rotary j e = by_index (eqb rotary 0)
  where
    both : (all_within j.xyz farthest && within j.a0 most_turned ≡ true) × (within j.a1 most_turned ≡ true)
    both = (and-eq-true_iff (all_within j.xyz farthest && within j.a0 most_turned) (within j.a1 most_turned)).0 e

    by_index : (t : Bool) → within (cond t j.a0 j.a1) most_turned ≡ true
    by_index true = ((and-eq-true_iff (all_within j.xyz farthest) (within j.a0 most_turned)).0 both.0).1
    by_index false = both.1

module _ (rest : Float) (rest-within : within rest most_turned ≡ true) (rotary : ℕ) where
  turns_are : (j : Joints) → joints_within j ≡ true → turns_within (wind_of rest rotary j) ≡ turns_of (wind_of rest rotary j)
  unfolding turns_within wind_of
  turns_are j e = rw (wind_within (angle_of rotary j) rest (angle_within rotary j e) rest-within)

  counted : (n : ℕ) (l : List Joints) → all joints_within l ≡ true → Some (λ (j : Joints). Turned n (wind_of rest rotary j)) l → Some (λ (j : Joints). n ≤ turns_within (wind_of rest rotary j)) l
  unfolding Some all
  counted n [] e h = h
  counted n (j ∷ l) e (inl t) = inl (rw (turns_are j ((and-eq-true_iff (joints_within j) (all joints_within l)).0 e).0) (turned_most n (wind_of rest rotary j) t))
  counted n (j ∷ l) e (inr s) = inr (counted n l ((and-eq-true_iff (joints_within j) (all joints_within l)).0 e).1 s)

  at_turns : (k : ℕ) (j : Joints) → turns_of (wind_of rest rotary j) ≡ k → (k ≡ 0) ⊎ Turned k (wind_of rest rotary j)
  at_turns k j g = by_turns (turned_of (wind_of rest rotary j))
    where
      by_turns : (turns_of (wind_of rest rotary j) ≡ 0) ⊎ Turned (turns_of (wind_of rest rotary j)) (wind_of rest rotary j) → (k ≡ 0) ⊎ Turned k (wind_of rest rotary j)
      by_turns (inl z) = inl (sym g ∙ z)
      by_turns (inr t) = inr (rw g at t)

  reached : (k : ℕ) (l : List Joints) → all joints_within l ≡ true → Some (λ (j : Joints). turns_within (wind_of rest rotary j) ≡ k) l → (k ≡ 0) ⊎ Some (λ (j : Joints). Turned k (wind_of rest rotary j)) l
  unfolding Some all
  reached k [] e h = absurd h
  reached k (j ∷ l) e (inl g) =
      let p = ((and-eq-true_iff (joints_within j) (all joints_within l)).0 e).0 in
      ⊎_elim (λ z. inl z) (λ t. inr (inl t)) (at_turns k j (sym (turns_are j p) ∙ g))
  reached k (j ∷ l) e (inr s) = ⊎_elim (λ z. inl z) (λ t. inr (inr t)) (reached k l ((and-eq-true_iff (joints_within j) (all joints_within l)).0 e).1 s)

  -- of a path that passes the checks
  pub most_largest : (l : List Joints) → all joints_within l ≡ true → Largest rest rotary l (most_turns rest rotary l)
  unfolding most_turns
  most_largest l e = record {
    reached = by_found (found (λ (j : Joints). turns_within (wind_of rest rotary j)) 0 l);
    largest = λ n h. none_larger (λ (j : Joints). turns_within (wind_of rest rotary j)) n 0 l (counted n l e h);
  }
    where
      by_found : (fold (λ (n : ℕ) (j : Joints). larger n (turns_within (wind_of rest rotary j))) 0 l ≡ 0)
          ⊎ Some (λ (j : Joints). turns_within (wind_of rest rotary j) ≡ fold (λ (n : ℕ) (i : Joints). larger n (turns_within (wind_of rest rotary i))) 0 l) l
          → (fold (λ (n : ℕ) (j : Joints). larger n (turns_within (wind_of rest rotary j))) 0 l ≡ 0)
          ⊎ Some (λ (j : Joints). Turned (fold (λ (n : ℕ) (i : Joints). larger n (turns_within (wind_of rest rotary i))) 0 l) (wind_of rest rotary j)) l
      by_found (inl z) = inl z
      by_found (inr s) = reached _ l e s

-- ---- the entry
accepted : (c : Checked) (k n : ℕ) → cable_unless c k ≡ Ok n → (c ≡ Ok tt) × (n ≡ k)
accepted (Ok _) k n e = (refl, cc)
accepted (Err r) k n e = (cc, cc)

-- what the checks say of the chain, its sizes and the path's
pub record CableChecked (k : Kinematics) (within : Bool) : Type 0 where
  pub chain : chain_check k ≡ Ok tt
  pub sizes : chain_within k ≡ true
  pub sets : within ≡ true

pub cable_checked : (k : Kinematics) (numbers : ℕ) (s : Survey) → cable_check k numbers s ≡ Ok tt → CableChecked k s.within
unfolding cable_check cable_sizes
cable_checked k numbers s e =
    let a = then_passed (demand (eqb (numbers % 5) 0) Cause.LengthsDiffer 0) _ e in
    let b = then_passed (chain_check k) _ a.1 in
    let c = then_passed (demand s.finite Cause.NotFinite 0) _ b.1 in
    let d = (and-eq-true_iff (chain_within k) s.within).0 (demand_passed _ _ _ c.1) in
    record { chain = b.0; sizes = d.0; sets = d.1 }

-- the rest of a rotary that the chain has is within 36,000 degrees
rotary_rest : (j : RotaryJoint) → rotary_within j ≡ true → within j.rest most_turned ≡ true
unfolding rotary_within
rotary_rest j e = ((and-eq-true_iff (all_within j.pivot longest) (within j.rest most_turned)).0 e).1

rests_within : (k : Kinematics) (rotary : ℕ) → chain_check k ≡ Ok tt → chain_within k ≡ true → rotary < k.count → within (rest_of k rotary) most_turned ≡ true
unfolding chain_check chain_within one_or_two rest_of
rests_within k rotary passed sizes has = by_index rotary has
  where
    counted : (not (ltb k.count 1) && ltb k.count 3) ≡ true
    counted = demand_passed _ _ _ (then_passed (demand (not (ltb k.count 1) && ltb k.count 3) Cause.RotaryCount 0) _ passed).0

    most : k.count < 3
    most = ltb-true k.count 3 ((and-eq-true_iff (not (ltb k.count 1)) (ltb k.count 3)).0 counted).1

    both : (rotary_within k.first ≡ true) × (cond (eqb k.count 2) (rotary_within k.second) true ≡ true)
    both = (and-eq-true_iff (rotary_within k.first) (cond (eqb k.count 2) (rotary_within k.second) true)).0 sizes

    by_index : (i : ℕ) → i < k.count → within (cond (eqb i 0) k.first.rest k.second.rest) most_turned ≡ true
    by_index zero h = rotary_rest k.first both.0
    by_index (suc i) h =
        let m = most in
        let two : k.count ≡ 2 = omega (arith, h, m) in
        rw (ne_eqb (suc i) 0 (λ e. absurd (omega (arith, e)))) (rotary_rest k.second (rw (eq-eqb k.count 2 two) at both.1))

-- what is answered of a rotary that the chain has is the largest; of another it is 0
module _ (k : Kinematics) (joints : List Float) (rotary n : ℕ) (answered : cable_number k joints rotary ≡ Ok n) where
  given : (cable_check k (length joints) (survey (rest_of k rotary) rotary (joint_sets joints)) ≡ Ok tt) × (n ≡ cond (ltb rotary k.count) (most_turns (rest_of k rotary) rotary (joint_sets joints)) 0)
  unfolding cable_number cable_of survey
  given = accepted (cable_check k (length joints) (survey (rest_of k rotary) rotary (joint_sets joints))) _ n answered

  pub cable_largest : rotary < k.count → Largest (rest_of k rotary) rotary (joint_sets joints) n
  unfolding survey
  cable_largest h =
      let e : n ≡ most_turns (rest_of k rotary) rotary (joint_sets joints) = rw (lt-ltb rotary k.count h) at given.1 in
      let c = cable_checked k (length joints) (survey (rest_of k rotary) rotary (joint_sets joints)) given.0 in
      rw e (most_largest (rest_of k rotary) (rests_within k rotary c.chain c.sizes h) rotary (joint_sets joints) c.sets)

  pub cable_none : k.count ≤ rotary → n ≡ 0
  cable_none h = rw (le-ltb rotary k.count h) at given.1

-- ---- joint sets within the sizes are answered: of a chain that passes its checks no cable number is refused
unless_turns : (c : Checked) (n : ℕ) → c ≡ Ok tt → cable_unless c n ≡ Ok n
unless_turns (Ok _) n e = refl
unless_turns (Err r) n e = absurd (refused_passed e)

module _ (k : Kinematics) (joints : List Float) (whole : length joints % 5 ≡ 0) (chain : chain_check k ≡ Ok tt) (within : chain_within k ≡ true)
    (numbers : all joints_finite (joint_sets joints) ≡ true) (sizes : all joints_within (joint_sets joints) ≡ true) where
  cable_passed : (rotary : ℕ) → cable_check k (length joints) (survey (rest_of k rotary) rotary (joint_sets joints)) ≡ Ok tt
  unfolding cable_check cable_sizes survey
  cable_passed rotary = rw (eq-eqb (length joints % 5) 0 whole, chain, numbers, within, sizes)

  pub cable_answered : (rotary : ℕ) → (n : ℕ) × (cable_number k joints rotary ≡ Ok n)
  unfolding cable_number cable_of
  cable_answered rotary =
      let s = survey (rest_of k rotary) rotary (joint_sets joints) in
      let n = cond (ltb rotary k.count) s.turns 0 in
      (n, unless_turns (cable_check k (length joints) s) n (cable_passed rotary))
