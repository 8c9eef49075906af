-- With a rest angle of +0.0 the cable number is the one that there was before there were rest angles: the largest whole k
-- with 360 times k at most the size of some angle. On every path, refusals included.
use Rattle.std.proofs.Common.{◌≡◌, ℕ, true, cond, T, ltb, List, [], ◌∷◌, length, refl, ap, ◌∙◌}
use mathlib.Core.Bool.{and-eq-true_iff}
use lib.Ieee.{Float, binary64, fits, of_bits, sub, le, lt, eq}
use Rattle.std.specs.Prelude.{Err, Ok, Result}
use Rattle.refusal.specs.declared.Refusal.{Refusal}
use Rattle.lists.specs.Fold.{fold}
use Rattle.lists.specs.Search.{all}
use Rattle.float.specs.Helpers.{nought, size_of}
use Rattle.float.proofs.Zeros.{sub_zero}
use Rattle.chain.specs.Checked.{Checked}
use Rattle.chain.specs.declared.Kinematics.{Kinematics}
use Rattle.chain.specs.declared.Joints.{Joints}
use Rattle.chain.specs.Check.{within, most_turned, joints_finite, joints_within}
use Rattle.chain.specs.Angles.{angle_of}
use Rattle.job.specs.Cable.{joint_sets, rest_of, wind_of, turns_of, turns_within, larger, most_turns, survey, cable_check, cable_unless, cable_of, cable_number}
use Rattle.job.specs.declared.Survey.{Survey}
use Rattle.job.proofs.CableLaws.{angle_within, cable_checked}
use Rattle.job.proofs.Wound.{wind_within}

-- ---- the cable number as it was: of the angles themselves, up to 36,000 degrees
turns_before : Float → ℕ
turns_before angle = cond (within angle most_turned) (turns_of angle) 0

most_before : ℕ → List Joints → ℕ
most_before rotary l = fold (λ (k : ℕ) (j : Joints). larger k (turns_before (angle_of rotary j))) 0 l

survey_before : ℕ → List Joints → Survey
survey_before rotary l = record { finite = all joints_finite l; within = all joints_within l; turns = most_before rotary l }

pub cable_before : Kinematics → List Float → ℕ → Result ℕ Refusal
cable_before k joints rotary = cable_of k (length joints) (survey_before rotary (joint_sets joints)) rotary

-- ---- one angle
nought_within : within nought most_turned ≡ true
unfolding within size_of le lt eq of_bits
nought_within = refl

counted : (a : Float) → T (fits binary64 a) → within a most_turned ≡ true → turns_within (sub binary64 a nought) ≡ turns_before a
unfolding turns_within turns_before
counted a f h = rw (wind_within a nought h nought_within, h) (ap turns_of (sub_zero a f))

module _ (rotary : ℕ) where
  -- the angles are doubles
  pub AnglesFit : List Joints → Type 0
  AnglesFit [] = Unit {0}
  AnglesFit (j ∷ l) = T (fits binary64 (angle_of rotary j)) × AnglesFit l

  of_list : (k : ℕ) (l : List Joints) → AnglesFit l → all joints_within l ≡ true
      → fold (λ (k : ℕ) (j : Joints). larger k (turns_within (wind_of nought rotary j))) k l ≡ fold (λ (k : ℕ) (j : Joints). larger k (turns_before (angle_of rotary j))) k l
  unfolding fold all wind_of AnglesFit
  of_list k [] f h = refl
  of_list k (j ∷ l) f h =
      let w = (and-eq-true_iff (joints_within j) (all joints_within l)).0 h in
      let same = counted (angle_of rotary j) f.0 (angle_within rotary j w.0) in
      of_list (larger k (turns_within (sub binary64 (angle_of rotary j) nought))) l f.1 w.1
      ∙ ap (λ (t : ℕ). fold (λ (k : ℕ) (i : Joints). larger k (turns_before (angle_of rotary i))) (larger k t) l) same

-- ---- the number
either_way : (c : Checked) (a b : ℕ) → (c ≡ Ok tt → a ≡ b) → cable_unless c a ≡ cable_unless c b
either_way (Ok _) a b h = ap (cable_unless (Ok tt)) (h refl)
either_way (Err r) a b h = refl

pub earlier_cable : (k : Kinematics) (joints : List Float) (rotary : ℕ) → rest_of k rotary ≡ nought → AnglesFit rotary (joint_sets joints)
    → cable_number k joints rotary ≡ cable_before k joints rotary
unfolding cable_number cable_of cable_before survey_before survey cable_check most_turns most_before
earlier_cable k joints rotary e f =
    either_way (cable_check k (length joints) (survey_before rotary (joint_sets joints))) _ _
    (λ passed.
    let within = (cable_checked k (length joints) (survey_before rotary (joint_sets joints)) passed).sets in
    ap (λ (n : ℕ). cond (ltb rotary k.count) n 0)
    (ap (λ (rest : Float). most_turns rest rotary (joint_sets joints)) e ∙ of_list rotary 0 (joint_sets joints) f within))
