-- The checks of a shop and of a grant, and what a grant leaves in each way out.
use Prim.Native.Nat.{ℕ, ◌+◌, ◌-◌, ◌≤◌, ◌<◌}
use native.Mathlib.Omega.{arith}
use mathlib.Core.Path.{◌≡◌, refl, sym, ap}
use mathlib.Core.Bool.{Bool, true, false}
use mathlib.Core.List.{List}
use borrow.Author.Tests.{ltb-true, leb-true, leb-false, eqb-true, le-leb, lt-leb}
use lib.Dec.{ltb, leb, eqb}
use lib.ListN.{length, set}
use Rattle.std.specs.Prelude.{Err, Ok}
use Rattle.refusal.specs.declared.Refusal.{Refusal}
use Rattle.refusal.specs.declared.Cause.{Cause}
use Rattle.chain.specs.Checked.{Checked}
use Rattle.chain.specs.Check.{demand, then}
use Rattle.chain.proofs.Passing.{refused_passed, then_passed, demand_passed}
use Rattle.quota.specs.Quota.{shops, most_balance, balance_of, shop_check, grant_check}
use Rattle.quota.specs.Calls.{Grant, grant_in, charge_in, after}
use Rattle.quota.proofs.Accounts.{unchanged}

pub shop_known : (balances shop : ℕ) → shop_check balances shop ≡ Ok tt → (shop < shops) × (balances ≡ shops)
unfolding shop_check
shop_known balances shop e =
    let p = then_passed (demand (ltb shop shops) Cause.UnknownShop 0) (demand (eqb balances shops) Cause.LengthsDiffer 0) e in
    (ltb-true shop shops (demand_passed (ltb shop shops) Cause.UnknownShop 0 p.0), eqb-true balances shops (demand_passed (eqb balances shops) Cause.LengthsDiffer 0 p.1))

-- ---- the room below the limit, without a sum
pub room_below : (balance amount : ℕ) → amount ≤ most_balance → leb balance (most_balance - amount) ≡ leb (balance + amount) most_balance
room_below balance amount h = go (leb balance (most_balance - amount)) refl
  where
    go : (t : Bool) → leb balance (most_balance - amount) ≡ t → t ≡ leb (balance + amount) most_balance
    go true e = let w = leb-true balance (most_balance - amount) e in sym (le-leb (balance + amount) most_balance (omega (arith, w, h)))
    go false e = let w = leb-false balance (most_balance - amount) e in sym (lt-leb (balance + amount) most_balance (omega (arith, w, h)))

pub no_room : (balance amount : ℕ) → most_balance < amount → false ≡ leb (balance + amount) most_balance
no_room balance amount h = sym (lt-leb (balance + amount) most_balance (omega (arith, h)))

-- ---- the list of a grant: the shop's two checks, then the limit
first_two : {r : Refusal} (known counted : Bool) (room : Checked) → then (demand known Cause.UnknownShop 0) (demand counted Cause.LengthsDiffer 0) ≡ Err r
    → then (demand known Cause.UnknownShop 0) (then (demand counted Cause.LengthsDiffer 0) room) ≡ Err r
first_two true true room e = absurd (refused_passed (sym e))
first_two true false room e = e
first_two false counted room e = e

past_two : (known counted : Bool) (room : Checked) → then (demand known Cause.UnknownShop 0) (demand counted Cause.LengthsDiffer 0) ≡ Ok tt
    → then (demand known Cause.UnknownShop 0) (then (demand counted Cause.LengthsDiffer 0) room) ≡ room
past_two true true room e = refl
past_two true false room e = absurd (refused_passed e)
past_two false counted room e = absurd (refused_passed e)

module _ (b : List ℕ) (shop amount : ℕ) where
  pub shop_refused : {r : Refusal} → shop_check (length b) shop ≡ Err r → grant_check b shop amount ≡ Err r
  unfolding shop_check grant_check
  shop_refused e = first_two (ltb shop shops) (eqb (length b) shops) (demand (leb (balance_of b shop + amount) most_balance) Cause.TooLarge 0) e

  pub shop_passed : shop_check (length b) shop ≡ Ok tt → grant_check b shop amount ≡ demand (leb (balance_of b shop + amount) most_balance) Cause.TooLarge 0
  unfolding shop_check grant_check
  shop_passed e = past_two (ltb shop shops) (eqb (length b) shops) (demand (leb (balance_of b shop + amount) most_balance) Cause.TooLarge 0) e

  -- ---- the balances afterwards
  pub grant_refused : {r : Refusal} → grant_check b shop amount ≡ Err r → b ≡ after b (Grant shop amount)
  grant_refused e = sym (unchanged b (Grant shop amount) (unfold grant_in in rw e) (unfold charge_in in refl))

  pub grant_added : grant_check b shop amount ≡ Ok tt → set b shop (balance_of b shop + amount) ≡ after b (Grant shop amount)
  unfolding after grant_in charge_in
  grant_added e = let same : balance_of b shop + amount ≡ balance_of b shop + amount - 0 = omega arith in rw e (ap (set b shop) same)

  -- the sum fits its type
  pub grant_small : demand (leb (balance_of b shop + amount) most_balance) Cause.TooLarge 0 ≡ Ok tt → balance_of b shop + amount ≤ most_balance
  grant_small e = leb-true (balance_of b shop + amount) most_balance (demand_passed (leb (balance_of b shop + amount) most_balance) Cause.TooLarge 0 e)
