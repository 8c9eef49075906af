-- Rows of calls on balances that are lent to each of them, and what holds of every row.
use Rattle.std.specs.Prelude.{cond, ◌≡◌, List, [], ◌∷◌, ℕ, ◌+◌, ◌-◌, ◌≤◌, ◌<◌, eqb, set, Err, Ok}
use Rattle.chain.specs.Checked.{Checked}
use Rattle.lists.specs.Each.{Each}
use Rattle.lists.specs.Fold.{fold}
use Rattle.refusal.specs.Numbers.{refusal}
use Rattle.refusal.specs.declared.Cause.{Cause}
use Rattle.divide.specs.Subdividing.{DivisionAnswer}
use Rattle.quota.specs.Quota.{shops, most_balance, balance_of, no_balances, grant_check, charge, charged_division}

-- A call with its arguments, be it served or refused. Of a division's arguments stands here what the plain division
-- answers to them: whatever that is, the laws below hold.
pub data Call : Type 0 where
  Grant : (shop amount : ℕ) → Call
  Divide : (shop : ℕ) → DivisionAnswer → Call

abbrev pub shop_of : Call → ℕ
shop_of (Grant shop amount) = shop
shop_of (Divide shop plain) = shop

-- ---- what a call grants and what it charges where the balances are b: nothing if it is refused
abbrev pub if_passed : Checked → ℕ → ℕ
if_passed (Ok _) n = n
if_passed (Err r) n = 0

unfoldable pub grant_in : List ℕ → Call → ℕ
grant_in b (Grant shop amount) = if_passed (grant_check b shop amount) amount
grant_in b (Divide shop plain) = 0

unfoldable pub charge_in : List ℕ → Call → ℕ
charge_in b (Grant shop amount) = 0
charge_in b (Divide shop plain) = charge (charged_division b shop plain)

-- what it leaves of the balances
unfoldable pub after : List ℕ → Call → List ℕ
after b c = set b (shop_of c) (balance_of b (shop_of c) + grant_in b c - charge_in b c)

-- and a row from empty balances
abbrev pub balances_after : List Call → List ℕ
balances_after row = fold after no_balances row

-- ---- "the sums of accepted grants and of charges taken from the row itself": each call's, where it is made
unfoldable pub summed : (List ℕ → Call → ℕ) → List ℕ → List Call → ℕ
summed of b [] = 0
summed of b (c ∷ row) = of b c + summed of (after b c) row

-- of one shop's calls alone
abbrev pub only : ℕ → (List ℕ → Call → ℕ) → List ℕ → Call → ℕ
only shop of b c = cond (eqb (shop_of c) shop) (of b c) 0

-- what all shops have
unfoldable pub total : List ℕ → ℕ
total [] = 0
total (n ∷ b) = n + total b

-- ---- what holds of every row of calls from empty balances
pub record Accounts (row : List Call) : Type 0 where
  -- "all grants equal all charges plus what all shops have left"
  pub in_all : summed grant_in no_balances row ≡ summed charge_in no_balances row + total (balances_after row)
  -- and of each shop alone
  pub of_each : (shop : ℕ) → summed (only shop grant_in) no_balances row ≡ summed (only shop charge_in) no_balances row + balance_of (balances_after row) shop
  -- "One shop's calls leave another's balance alone": after the row, as many calls as may be of other shops
  pub apart : (shop : ℕ) (others : List Call) → Each (λ (c : Call). shop ≡ shop_of c → ⊥) others
      → balance_of (fold after (balances_after row) others) shop ≡ balance_of (balances_after row) shop
  -- "A grant that takes a balance above 1,000,000,000 is 17"
  pub above : (shop amount : ℕ) → shop < shops → most_balance < balance_of (balances_after row) shop + amount
      → grant_check (balances_after row) shop amount ≡ Err (refusal Cause.TooLarge 0)
  -- "and changes nothing", as every call that grants and charges nothing
  pub unchanged : (c : Call) → grant_in (balances_after row) c ≡ 0 → charge_in (balances_after row) c ≡ 0 → after (balances_after row) c ≡ balances_after row
  -- "every other to a known shop counts"
  pub counts : (shop amount : ℕ) → shop < shops → balance_of (balances_after row) shop + amount ≤ most_balance
      → (grant_check (balances_after row) shop amount ≡ Ok tt)
      × (balance_of (after (balances_after row) (Grant shop amount)) shop ≡ balance_of (balances_after row) shop + amount)
  -- so no balance is ever above the limit
  pub limit : (shop : ℕ) → balance_of (balances_after row) shop ≤ most_balance
