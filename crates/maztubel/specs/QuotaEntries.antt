-- What the two entries of quotas say beside the definitions of `quota`: the promise behind the chain's bytes, and what
-- the number that a charged division returns says.
use Rattle.std.specs.Prelude.{ℕ, ◌≤◌, ◌<◌, ◌≡◌, ◌↔◌, List, Float, length, Err, Ok, Result}
use Rattle.chain.specs.declared.Kinematics.{Kinematics}
use Rattle.refusal.specs.declared.Refusal.{Refusal}
use Rattle.refusal.specs.Numbers.{number_of}
use Rattle.refusal.specs.declared.Cause.{Cause}
use Rattle.middle.specs.declared.Tolerances.{Tolerances}
use Rattle.divide.specs.Subdividing.{DivisionAnswer, Division}
use Rattle.quota.specs.Quota.{shops, balance_of, shop_check, charge}
use Rattle.quota.specs.Charged.{Charged}
use Rattle.maztubel.specs.DivideEntries.{Says}

-- demand 3 and R-12 of a charged division, and when 35 comes; of bytes that are refused the definition says all
abbrev pub ChargedPromise : Result Kinematics Refusal → List ℕ → ℕ → DivisionAnswer → Tolerances → (lent solved : List Float) → (roomPoses roomJoints : ℕ) → Division → (poses joints : List Float) → Type 0
ChargedPromise (Err r) b shop plain tol lent solved roomPoses roomJoints answer poses joints = Unit {0}
ChargedPromise (Ok k) b shop plain tol lent solved roomPoses roomJoints answer poses joints =
    Charged b shop plain k tol lent solved roomPoses roomJoints answer poses joints

-- of the number that is returned
pub record ChargedSays (number : ℕ) (b : List ℕ) (shop : ℕ) (plain : DivisionAnswer) (answer : Division) : Type 0 where
  -- 0 and 27 say what they say of the plain division
  pub as_plain : Says number answer
  -- 34 comes exactly for an unknown shop
  pub unknown : (number ≡ number_of Cause.UnknownShop) ↔ (shops ≤ shop)
  -- and 35 exactly where what is to be charged is above the balance of a known one
  pub short : (number ≡ number_of Cause.BalanceShort) ↔ ((shop_check (length b) shop ≡ Ok tt) × (balance_of b shop < charge plain))
