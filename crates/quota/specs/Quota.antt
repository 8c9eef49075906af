-- Quotas of 32 shops, R-11: a grant adds to a shop's balance, and a division takes its reported count from it. The
-- balances are 32 lent whole numbers, and nothing else is kept.
use Rattle.std.specs.Prelude.{cond, List, [], ◌∷◌, ℕ, ◌+◌, ltb, leb, eqb, length, get_or, replicate}
use Rattle.refusal.specs.Numbers.{refusal}
use Rattle.refusal.specs.declared.Cause.{Cause}
use Rattle.chain.specs.Checked.{Checked}
use Rattle.chain.specs.Check.{demand, first_refusal}
use Rattle.halving.specs.Halving.{Done, TooMany, NoSpace}
use Rattle.divide.specs.Subdividing.{DivisionAnswer, Kept, AtPose, Cleared, Halved, unless_kept}

-- the shops are numbered from 0
abbrev pub shops : ℕ
shops = 32

abbrev pub most_balance : ℕ
most_balance = 1000000000

abbrev pub balance_of : List ℕ → ℕ → ℕ
balance_of b shop = get_or b shop 0

abbrev pub no_balances : List ℕ
no_balances = replicate shops 0

-- ---- the checks; `balances` is how many there are
-- "An unknown shop is 34 before any other check, 20 too"
unfoldable pub shop_check : (balances shop : ℕ) → Checked
shop_check balances shop = first_refusal (demand (ltb shop shops) Cause.UnknownShop 0 ∷ demand (eqb balances shops) Cause.LengthsDiffer 0 ∷ [])

-- "A grant that takes a balance above 1,000,000,000 is 17"
unfoldable pub grant_check : List ℕ → (shop amount : ℕ) → Checked
grant_check b shop amount =
    first_refusal
    (demand (ltb shop shops) Cause.UnknownShop 0
    ∷ demand (eqb (length b) shops) Cause.LengthsDiffer 0
    ∷ demand (leb (balance_of b shop + amount) most_balance) Cause.TooLarge 0
    ∷ [])

-- ---- "a division is charged its reported count when it succeeds and nothing when it is refused"
unfoldable pub charge : DivisionAnswer → ℕ
charge (Kept r) = 0
charge (AtPose r) = 0
charge (Cleared r) = 0
charge (Halved (Done n l)) = n
charge (Halved (TooMany n)) = 0
charge (Halved (NoSpace n)) = 0

-- "a balance below the count is 35 after the division, whose output then becomes +0.0"
unfoldable pub settled : ℕ → DivisionAnswer → DivisionAnswer
settled balance plain = cond (leb (charge plain) balance) plain (Cleared (refusal Cause.BalanceShort 0))

-- a charged division, from what the plain division answers to the same arguments
unfoldable pub charged_division : List ℕ → ℕ → DivisionAnswer → DivisionAnswer
charged_division b shop plain = unless_kept (shop_check (length b) shop) (settled (balance_of b shop) plain)
