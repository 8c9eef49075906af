-- What holds of every row of calls from empty balances: each law of one call first, then by induction over the row.
use Prim.Native.Nat.{ℕ, zero, suc, ◌+◌, ◌-◌, ◌≤◌, ◌<◌}
use native.Mathlib.Nat.{le_of_suc-le-suc}
use native.Mathlib.Omega.{arith}
use mathlib.Core.Path.{◌≡◌, refl, sym, ap, ◌∙◌, subst}
use mathlib.Core.Bool.{Bool, true, false, cond}
use mathlib.Core.List.{List, [], ◌∷◌}
use borrow.Author.Tests.{ltb-true, ltb-false, le-ltb, leb-true, lt-ltb, le-leb, lt-leb, eq-eqb, eqb-true, eqb-false}
use lib.Dec.{ltb, leb, eqb}
use lib.ListN.{length, get_or, set, replicate, length-set}
use lib.Seq.{get_or-set_same, get_or-set_other, set-get_or, set_out}
use Rattle.std.specs.Prelude.{Err, Ok}
use Rattle.lists.specs.Each.{Each}
use Rattle.lists.specs.Fold.{fold}
use Rattle.refusal.specs.Numbers.{refusal}
use Rattle.refusal.specs.declared.Cause.{Cause}
use Rattle.chain.specs.Checked.{Checked}
use Rattle.chain.specs.Check.{demand, then}
use Rattle.divide.specs.Subdividing.{DivisionAnswer, Cleared, unless_kept}
use Rattle.quota.specs.Quota.{shops, most_balance, balance_of, no_balances, shop_check, grant_check, charge, settled, charged_division}
use Rattle.quota.specs.Calls.{Call, Grant, Divide, shop_of, if_passed, grant_in, charge_in, after, balances_after, summed, only, total, Accounts}

-- ---- one call: no more is charged than there is
settled_most : (balance : ℕ) (plain : DivisionAnswer) → charge (settled balance plain) ≤ balance
unfolding settled
settled_most balance plain = go (leb (charge plain) balance) refl
  where
    go : (t : Bool) → leb (charge plain) balance ≡ t → charge (cond t plain (Cleared (refusal Cause.BalanceShort 0))) ≤ balance
    go true e = leb-true (charge plain) balance e
    go false e = unfold charge in omega arith

unless_most : (c : Checked) (balance : ℕ) (plain : DivisionAnswer) → charge (unless_kept c (settled balance plain)) ≤ balance
unless_most (Ok _) balance plain = settled_most balance plain
unless_most (Err r) balance plain = unfold charge in omega arith

charge_most : (b : List ℕ) (c : Call) → charge_in b c ≤ balance_of b (shop_of c)
unfolding charge_in charged_division
charge_most b (Grant shop amount) = omega arith
charge_most b (Divide shop plain) = unless_most (shop_check (length b) shop) (balance_of b shop) plain

-- and no grant takes a balance above the limit
checked_most : (known counted room : Bool) (balance amount : ℕ) → balance ≤ most_balance → (room ≡ true → balance + amount ≤ most_balance)
    → balance + if_passed (then (demand known Cause.UnknownShop 0) (then (demand counted Cause.LengthsDiffer 0) (demand room Cause.TooLarge 0))) amount ≤ most_balance
checked_most true true true balance amount h w = w refl
checked_most true true false balance amount h w = omega (arith, h)
checked_most true false room balance amount h w = omega (arith, h)
checked_most false counted room balance amount h w = omega (arith, h)

grant_most : (b : List ℕ) (c : Call) → balance_of b (shop_of c) ≤ most_balance → balance_of b (shop_of c) + grant_in b c ≤ most_balance
unfolding grant_in grant_check
grant_most b (Divide shop plain) h = omega (arith, h)
grant_most b (Grant shop amount) h =
    checked_most (ltb shop shops) (eqb (length b) shops) (leb (balance_of b shop + amount) most_balance) (balance_of b shop) amount h (leb-true (balance_of b shop + amount) most_balance)

-- an unknown shop is neither granted nor charged anything
outside : (b : List ℕ) (c : Call) → shops ≤ shop_of c → (grant_in b c ≡ 0) × (charge_in b c ≡ 0)
outside b (Grant shop amount) h = (unfold grant_in in unfold grant_check in rw (le-ltb shop shops h), unfold charge_in in refl)
outside b (Divide shop plain) h = (unfold grant_in in refl, unfold charge_in in unfold charged_division in unfold shop_check in unfold charge in rw (le-ltb shop shops h))

-- ---- what a call leaves
pub after_long : (b : List ℕ) (c : Call) → length (after b c) ≡ length b
unfolding after
after_long b c = length-set b (shop_of c) (balance_of b (shop_of c) + grant_in b c - charge_in b c)

pub unchanged : (b : List ℕ) (c : Call) → grant_in b c ≡ 0 → charge_in b c ≡ 0 → after b c ≡ b
unfolding after
unchanged b c g h =
    let same : balance_of b (shop_of c) + grant_in b c - charge_in b c ≡ balance_of b (shop_of c) = omega (arith, g, h) in
    ap (set b (shop_of c)) same ∙ set-get_or b (shop_of c) 0

own : (b : List ℕ) (c : Call) → shop_of c < length b → balance_of (after b c) (shop_of c) ≡ balance_of b (shop_of c) + grant_in b c - charge_in b c
unfolding after
own b c h = get_or-set_same b (shop_of c) (balance_of b (shop_of c) + grant_in b c - charge_in b c) 0 h

other : (b : List ℕ) (c : Call) (shop : ℕ) → (shop ≡ shop_of c → ⊥) → balance_of (after b c) shop ≡ balance_of b shop
unfolding after
other b c shop n = get_or-set_other b (shop_of c) shop (balance_of b (shop_of c) + grant_in b c - charge_in b c) 0 n

-- ---- what there is, what is granted, what is charged: of all shops
total_set : (b : List ℕ) (i n : ℕ) → i < length b → total (set b i n) + get_or b i 0 ≡ total b + n
unfolding total
total_set [] i n h = absurd (omega arith)
total_set (x ∷ b) zero n h = omega arith
total_set (x ∷ b) (suc i) n h = let e = total_set b i n (le_of_suc-le-suc h) in omega (arith, e)

total_after : (b : List ℕ) (c : Call) → shop_of c < length b → total (after b c) + balance_of b (shop_of c) ≡ total b + (balance_of b (shop_of c) + grant_in b c - charge_in b c)
unfolding after
total_after b c h = total_set b (shop_of c) (balance_of b (shop_of c) + grant_in b c - charge_in b c) h

-- a law of a call of a known shop holds of every call, where an unknown shop's changes nothing
by_shop : (has : List ℕ → ℕ) (b : List ℕ) (c : Call) → length b ≡ shops → (shop_of c < length b → has b + grant_in b c ≡ charge_in b c + has (after b c))
    → has b + grant_in b c ≡ charge_in b c + has (after b c)
by_shop has b c long known = go (ltb (shop_of c) shops) refl
  where
    go : (t : Bool) → ltb (shop_of c) shops ≡ t → has b + grant_in b c ≡ charge_in b c + has (after b c)
    go true e = let h = ltb-true (shop_of c) shops e in known (omega (arith, h, long))
    go false e =
        let z = outside b c (ltb-false (shop_of c) shops e) in
        let g = z.0 in
        let h = z.1 in
        let s = ap has (unchanged b c g h) in
        omega (arith, g, h, s)

call_in_all : (b : List ℕ) (c : Call) → length b ≡ shops → total b + grant_in b c ≡ charge_in b c + total (after b c)
call_in_all b c long =
    by_shop total b c long (λ h.
    let s = total_after b c h in
    let m = charge_most b c in
    omega (arith, s, m))

-- and of one shop
call_of_each : (shop : ℕ) (b : List ℕ) (c : Call) → length b ≡ shops → balance_of b shop + only shop grant_in b c ≡ only shop charge_in b c + balance_of (after b c) shop
call_of_each shop b c long = go (eqb (shop_of c) shop) refl
  where
    its_own : balance_of b (shop_of c) + grant_in b c ≡ charge_in b c + balance_of (after b c) (shop_of c)
    its_own =
        by_shop (λ l. balance_of l (shop_of c)) b c long (λ h.
        let s = own b c h in
        let m = charge_most b c in
        omega (arith, s, m))

    go : (t : Bool) → eqb (shop_of c) shop ≡ t → balance_of b shop + cond t (grant_in b c) 0 ≡ cond t (charge_in b c) 0 + balance_of (after b c) shop
    go true e = subst (λ (s : ℕ). balance_of b s + grant_in b c ≡ charge_in b c + balance_of (after b c) s) (eqb-true (shop_of c) shop e) its_own
    go false e = let s = other b c shop (λ f. eqb-false (shop_of c) shop e (sym f)) in omega (arith, s)

-- ---- by induction over the row
row_long : (b : List ℕ) (row : List Call) → length (fold after b row) ≡ length b
unfolding fold
row_long b [] = refl
row_long b (c ∷ row) = row_long (after b c) row ∙ after_long b c

module _ (has : List ℕ → ℕ) (grants charges : List ℕ → Call → ℕ) (each : (b : List ℕ) (c : Call) → length b ≡ shops → has b + grants b c ≡ charges b c + has (after b c)) where
  row_balanced : (b : List ℕ) (row : List Call) → length b ≡ shops → has b + summed grants b row ≡ summed charges b row + has (fold after b row)
  unfolding summed fold
  row_balanced b [] long = omega arith
  row_balanced b (c ∷ row) long =
      let e = each b c long in
      let f = row_balanced (after b c) row (after_long b c ∙ long) in
      omega (arith, e, f)

row_apart : (shop : ℕ) (b : List ℕ) (others : List Call) → Each (λ (c : Call). shop ≡ shop_of c → ⊥) others → balance_of (fold after b others) shop ≡ balance_of b shop
unfolding fold
row_apart shop b [] h = refl
row_apart shop b (c ∷ others) h = row_apart shop (after b c) others h.1 ∙ other b c shop h.0

abbrev Within : List ℕ → Type 0
Within b = (shop : ℕ) → balance_of b shop ≤ most_balance

call_limit : (b : List ℕ) (c : Call) → Within b → Within (after b c)
call_limit b c within shop = go (eqb shop (shop_of c)) (ltb (shop_of c) (length b)) refl refl
  where
    go : (t u : Bool) → eqb shop (shop_of c) ≡ t → ltb (shop_of c) (length b) ≡ u → balance_of (after b c) shop ≤ most_balance
    go false u e f = let s = other b c shop (eqb-false shop (shop_of c) e) in let w = within shop in omega (arith, s, w)
    go true true e f =
        let s = own b c (ltb-true (shop_of c) (length b) f) in
        let m = grant_most b c (within (shop_of c)) in
        subst (λ (i : ℕ). balance_of (after b c) i ≤ most_balance) (sym (eqb-true shop (shop_of c) e)) (omega (arith, s, m))
    go true false e f =
        let w = within shop in
        let s : balance_of (after b c) shop ≡ balance_of b shop =
        unfold after in ap (λ (l : List ℕ). balance_of l shop) (set_out b (shop_of c) (balance_of b (shop_of c) + grant_in b c - charge_in b c) (ltb-false (shop_of c) (length b) f)) in
        omega (arith, s, w)

row_limit : (b : List ℕ) (row : List Call) → Within b → Within (fold after b row)
unfolding fold
row_limit b [] within = within
row_limit b (c ∷ row) within = row_limit (after b c) row (call_limit b c within)

-- ---- from empty balances
nothing : (n shop : ℕ) → balance_of (replicate n 0) shop ≡ 0
nothing zero shop = refl
nothing (suc n) zero = refl
nothing (suc n) (suc shop) = nothing n shop

grant_passes : (b : List ℕ) (shop amount : ℕ) → length b ≡ shops → shop < shops → balance_of b shop + amount ≤ most_balance → grant_check b shop amount ≡ Ok tt
unfolding grant_check
grant_passes b shop amount long h w = rw (lt-ltb shop shops h, eq-eqb (length b) shops long, le-leb (balance_of b shop + amount) most_balance w)

grant_above : (b : List ℕ) (shop amount : ℕ) → length b ≡ shops → shop < shops → most_balance < balance_of b shop + amount
    → grant_check b shop amount ≡ Err (refusal Cause.TooLarge 0)
unfolding grant_check
grant_above b shop amount long h w = rw (lt-ltb shop shops h, eq-eqb (length b) shops long, lt-leb (balance_of b shop + amount) most_balance w)

grant_counts : (b : List ℕ) (shop amount : ℕ) → length b ≡ shops → shop < shops → grant_check b shop amount ≡ Ok tt → balance_of (after b (Grant shop amount)) shop ≡ balance_of b shop + amount
grant_counts b shop amount long h p =
    let s = own b (Grant shop amount) (omega (arith, h, long)) in
    let g : grant_in b (Grant shop amount) ≡ amount = unfold grant_in in rw p in
    let z : charge_in b (Grant shop amount) ≡ 0 = unfold charge_in in refl in
    omega (arith, s, g, z)

pub every_row : (row : List Call) → Accounts row
every_row row =
    let b = balances_after row in
    let long : length b ≡ shops = row_long no_balances row in
    record {
      in_all =
          let e = row_balanced total grant_in charge_in call_in_all no_balances row refl in
          let z : total no_balances ≡ 0 = unfold total in refl in
          omega (arith, e, z);
      of_each = λ shop.
          let e = row_balanced (λ l. balance_of l shop) (only shop grant_in) (only shop charge_in) (call_of_each shop) no_balances row refl in
          let z = nothing shops shop in
          omega (arith, e, z);
      apart = λ shop others h. row_apart shop b others h;
      above = λ shop amount h w. grant_above b shop amount long h w;
      unchanged = λ c g h. unchanged b c g h;
      counts = λ shop amount h w.
          let p = grant_passes b shop amount long h w in
          (p, grant_counts b shop amount long h p);
      limit = row_limit no_balances row (λ shop. let z = nothing shops shop in omega (arith, z));
    }
