-- The cable number, a term of documents 01 and 02: of a rotary on a path the largest whole k with 360 times k at most
-- the size of the difference, taken once in floats, of some angle and the rotary's rest angle; 0 on an empty path and
-- for a rotary that the chain lacks.
use Rattle.std.specs.Prelude.{◌≡◌, ℕ, ◌*◌, ◌/◌, ◌%◌, ◌≤◌, Bool, cond, ◌&&◌, ◌⊎◌, List, [], ◌∷◌, length, ◌==◌, from_bits, nat_lt, Float, Err, Ok, Result}
use Rattle.std.specs.Float.Ieee as Ieee
use Rattle.std.specs.Float.{nan, inf, fin, binary64}
use Rattle.std.specs.Float.Ieee.{up, down}
use Rattle.lists.specs.Fold.{fold}
use Rattle.lists.specs.Rows.{rows}
use Rattle.lists.specs.Search.{all}
use Rattle.refusal.specs.declared.Refusal.{Refusal}
use Rattle.refusal.specs.declared.Cause.{Cause}
use Rattle.chain.specs.Angles.{angle_of}
use Rattle.chain.specs.Checked.{Checked}
use Rattle.chain.specs.declared.Joints.{Joints}
use Rattle.chain.specs.declared.Kinematics.{Kinematics}
use Rattle.chain.specs.Check.{demand, first_refusal, chain_check, chain_within, joints_finite, joints_within, within}
use Rattle.turn.specs.Items.{joints_from}
use Rattle.job.specs.declared.Survey.{Survey}

-- ---- the joint sets, five numbers each
unfoldable pub joint_sets : List Float → List Joints
joint_sets l = rows 5 joints_from (length l / 5) l

-- how far the cable is wound: from the angle at which it hangs free
unfoldable pub rest_of : Kinematics → ℕ → Float
rest_of k rotary = cond (rotary == 0) k.first.rest k.second.rest

unfoldable pub wind_of : Float → ℕ → Joints → Float
wind_of rest rotary j = Ieee.sub binary64 (angle_of rotary j) rest

-- ---- the whole turns in a wind
-- n turns are at most its size: m * 2 ^ e degrees are m * up e / down e
unfoldable pub Turned : ℕ → Float → Type 0
Turned n nan = ⊥
Turned n (inf s) = ⊥
Turned n (fin s m e) = n * 360 * down e ≤ m * up e

unfoldable pub turns_of : Float → ℕ
turns_of nan = 0
turns_of (inf s) = 0
turns_of (fin s m e) = m * up e / (down e * 360)

-- 72,000: no wind of an angle and a rest that a check lets by is larger; another counts none
abbrev pub most_wound : Float
most_wound = from_bits binary64 0x40f1_9400_0000_0000

unfoldable pub turns_within : Float → ℕ
turns_within wind = cond (within wind most_wound) (turns_of wind) 0

unfoldable pub larger : ℕ → ℕ → ℕ
larger a b = cond (nat_lt a b) b a

unfoldable pub most_turns : Float → ℕ → List Joints → ℕ
most_turns rest rotary l = fold (λ k j. larger k (turns_within (wind_of rest rotary j))) 0 l

-- ---- one reading of the path
unfoldable pub also : Bool → Bool → Bool
also a b = a && b

unfoldable pub surveyed : Float → ℕ → Survey → Joints → Survey
surveyed rest rotary s j = record {
  finite = also s.finite (joints_finite j);
  within = also s.within (joints_within j);
  turns = larger s.turns (turns_within (wind_of rest rotary j));
}

unfoldable pub survey : Float → ℕ → List Joints → Survey
survey rest rotary l = record { finite = all joints_finite l; within = all joints_within l; turns = most_turns rest rotary l }

-- ---- the entry
unfoldable pub cable_sizes : Kinematics → Bool → Bool
cable_sizes k within = chain_within k && within

-- a path may have any number of joint sets
unfoldable pub cable_check : Kinematics → ℕ → Survey → Checked
cable_check k numbers s =
    first_refusal
    (demand (numbers % 5 == 0) Cause.LengthsDiffer 0
    ∷ chain_check k
    ∷ demand s.finite Cause.NotFinite 0
    ∷ demand (cable_sizes k s.within) Cause.TooLarge 0
    ∷ [])

abbrev pub cable_unless : Checked → ℕ → Result ℕ Refusal
cable_unless (Ok _) k = Ok k
cable_unless (Err r) k = Err r

unfoldable pub cable_of : Kinematics → ℕ → Survey → ℕ → Result ℕ Refusal
cable_of k numbers s rotary = cable_unless (cable_check k numbers s) (cond (nat_lt rotary k.count) s.turns 0)

unfoldable pub cable_number : Kinematics → List Float → ℕ → Result ℕ Refusal
cable_number k joints rotary = cable_of k (length joints) (survey (rest_of k rotary) rotary (joint_sets joints)) rotary

-- ---- that it is the largest
-- one of the list is such
unfoldable pub Some : {A : Type 0} → (A → Type 0) → List A → Type 0
Some P [] = ⊥
Some P (x ∷ l) = P x ⊎ Some P l

-- k turns are at most the size of some wind, unless k is 0, and no more turns are
pub record Largest (rest : Float) (rotary : ℕ) (l : List Joints) (k : ℕ) : Type 0 where
  pub reached : (k ≡ 0) ⊎ Some (λ (j : Joints). Turned k (wind_of rest rotary j)) l
  pub largest : (n : ℕ) → Some (λ (j : Joints). Turned n (wind_of rest rotary j)) l → n ≤ k
