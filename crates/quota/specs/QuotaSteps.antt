-- The charge as the program takes it: from the plain division's answer, and from outputs that hold what it left.
use Rattle.std.specs.Prelude.{Bool, cond, List, ℕ, ◌-◌, leb, length, set, replicate, Float, Err, Ok}
use Rattle.divide.specs.declared.DivisionError.{DivisionError}
use Rattle.divide.specs.Subdividing.{Division}
use Rattle.float.specs.Helpers.{nought}
use Rattle.refusal.specs.Numbers.{refusal}
use Rattle.refusal.specs.declared.Cause.{Cause}
use Rattle.quota.specs.Quota.{balance_of}

-- the reported count of a success
abbrev pub charge_of : Division → ℕ
charge_of (Ok n) = n
charge_of (Err e) = 0

unfoldable pub covers : ℕ → Division → Bool
covers balance said = leb (charge_of said) balance

unfoldable pub settled_said : ℕ → Division → Division
settled_said balance said = cond (covers balance said) said (Err (DivisionError.Refused (refusal Cause.BalanceShort 0)))

unfoldable pub settled_over : ℕ → Division → List Float → List Float
settled_over balance said out = cond (covers balance said) out (replicate (length out) nought)

unfoldable pub settled_balances : List ℕ → ℕ → Division → List ℕ
settled_balances b shop said = cond (covers (balance_of b shop) said) (set b shop (balance_of b shop - charge_of said)) b
