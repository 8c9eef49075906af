use native.Mathlib.Omega.{arith}
use borrow.Author.Rules.{rules}
use mathlib.Core.Path.{◌≡◌}
use Rattle.divide.specs.declared.DivisionError.{DivisionError}
use Rattle.quota.proofs.Settling.{paid_for, not_paid_for}
use Rattle.quota.proofs.charging.settle.Goals as goal

pub returns-then-charge-balance : goal.returns-then-charge-balance
returns-then-charge-balance c =
    let h = c.if-charge-balance.true in let all = paid_for c.args.balances.now c.args.shop c.args.said c.args.poses.now c.args.joints.now c.charge_of-charge.ensures (omega (arith, h)) in record { answer = all.0; poses = all.1.0; joints = all.1.1.0; balances = all.1.1.1 }

pub returns : goal.returns
returns c = let s : ◌≡◌ {A = DivisionError} c.into.result (DivisionError.Refused c.new.result) = search rules in let all = not_paid_for c.args.balances.now c.args.shop c.args.said c.args.poses.now c.args.joints.now c.charge_of-charge.ensures c.if-charge-balance.false (c.fill.ensures.after (λ y e. e)) (c.fill-2.ensures.after (λ y e. e)) in record { answer = rw (s, c.new.ensures) all.0; poses = all.1.0; joints = all.1.1.0; balances = all.1.1.1 }
