-- Worked examples: the limit and one above it, a grant of nothing, the two checks of a shop in their order, and a count
-- just within and just above a balance.
use Rattle.std.specs.Prelude.{◌≡◌, refl, [], ◌∷◌, replicate, Err, Ok}
use Rattle.refusal.specs.Numbers.{refusal}
use Rattle.refusal.specs.declared.Cause.{Cause}
use Rattle.halving.specs.Halving.{Done, TooMany}
use Rattle.divide.specs.Subdividing.{Cleared, Halved}
use Rattle.quota.specs.Quota.{no_balances, shop_check, grant_check, charge, settled, charged_division}
use Rattle.quota.specs.Calls.{Grant, Divide, grant_in, charge_in, after}

-- just 1,000,000,000 passes, one more does not, whatever the amount; a grant of nothing counts
limit : (grant_check no_balances 31 1000000000 ≡ Ok tt) × (grant_check no_balances 31 1000000001 ≡ Err (refusal Cause.TooLarge 0)) × (grant_check no_balances 0 18446744073709551615 ≡ Err (refusal Cause.TooLarge 0))
    × (grant_check no_balances 0 0 ≡ Ok tt)
unfolding grant_check
limit = (refl, refl, refl, refl)

-- an unknown shop is 34 also where there are no balances at all
order : (shop_check 32 31 ≡ Ok tt) × (shop_check 31 31 ≡ Err (refusal Cause.LengthsDiffer 0)) × (shop_check 32 32 ≡ Err (refusal Cause.UnknownShop 0)) × (shop_check 0 32 ≡ Err (refusal Cause.UnknownShop 0))
unfolding shop_check
order = (refl, refl, refl, refl)

-- a balance of 7: a count of 7 is paid for, one of 8 is 35, and a refused division is left as it is; a count of 0 needs
-- none
seven : (settled 7 (Halved (Done 7 [])) ≡ Halved (Done 7 [])) × (settled 7 (Halved (Done 8 [])) ≡ Cleared (refusal Cause.BalanceShort 0)) × (settled 7 (Halved (TooMany 10000)) ≡ Halved (TooMany 10000))
    × (settled 0 (Halved (Done 0 [])) ≡ Halved (Done 0 []))
unfolding settled charge
seven = (refl, refl, refl, refl)

-- a row: 10 are granted to shop 0, of which a division takes 7, and one of 8 is refused
left : after (after (after no_balances (Grant 0 10)) (Divide 0 (Halved (Done 7 [])))) (Divide 0 (Halved (Done 8 []))) ≡ 3 ∷ replicate 31 0
unfolding after grant_in charge_in grant_check shop_check charged_division settled charge
left = refl
