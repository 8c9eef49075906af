use native.Mathlib.Omega.{arith}
use borrow.Author.Rules.{rules}
use mathlib.Core.Path.{◌≡◌, sym, ◌∙◌}
use Rattle.std.specs.Prelude.{Err}
use Rattle.chain.specs.Checked.{Checked}
use Rattle.quota.proofs.Checks.{shop_known, shop_refused, shop_passed, grant_refused, grant_added}
use Rattle.quota.proofs.granting.grant.Goals as goal

pub returns-in_err-shop_check : goal.returns-in_err-shop_check
returns-in_err-shop_check c =
    let s : ◌≡◌ {A = Checked} c.from_residual.result (Err c.in_err-shop_check.field-0.0) = search rules in
    let g = shop_refused c.args.balances.now c.args.shop c.args.amount (sym c.in_err-shop_check.ensures) in
    record { answer = s ∙ sym g; balances = grant_refused c.args.balances.now c.args.shop c.args.amount g }

pub offset_bounds-balances-i : goal.offset_bounds-balances-i
offset_bounds-balances-i c =
    let k = shop_known _ _ (sym c.in_ok-shop_check.ensures) in
    omega (arith, k)

pub bounds-balances-i : goal.bounds-balances-i
bounds-balances-i c =
    let k = shop_known _ _ (sym c.in_ok-shop_check.ensures) in
    omega (arith, k)

pub returns-in_err-demand : goal.returns-in_err-demand
returns-in_err-demand c =
    let r : ◌≡◌ {A = Checked} c.from_residual-in_err-demand.result (Err c.in_err-demand.field-0.0) = search rules in
    let s = sym c.in_ok-shop_check.ensures in
    let e = rw c.room.ensures at (sym c.in_err-demand.ensures) in
    let g = shop_passed c.args.balances.now c.args.shop c.args.amount s ∙ e in
    record { answer = r ∙ sym g; balances = grant_refused c.args.balances.now c.args.shop c.args.amount g }

pub offset_bounds-balances-i-2 : goal.offset_bounds-balances-i-2
offset_bounds-balances-i-2 c =
    let k = shop_known _ _ (sym c.in_ok-shop_check.ensures) in
    omega (arith, k)

pub bounds-balances-i-2 : goal.bounds-balances-i-2
bounds-balances-i-2 c =
    let k = shop_known _ _ (sym c.in_ok-shop_check.ensures) in
    omega (arith, k)

pub returns : goal.returns
returns c =
    let s = sym c.in_ok-shop_check.ensures in
    let e = rw c.room.ensures at (sym c.in_ok-demand.ensures) in
    let g = shop_passed c.args.balances.now c.args.shop c.args.amount s ∙ e in
    record { answer = sym g; balances = grant_added c.args.balances.now c.args.shop c.args.amount g }
