use borrow.Author.Rules.{rules}
use native.Mathlib.Omega.{arith}
use mathlib.Core.Path.{◌≡◌, sym}
use Rattle.std.specs.Prelude.{Err}
use Rattle.divide.specs.declared.DivisionError.{DivisionError}
use Rattle.divide.specs.Subdividing.{Division}
use Rattle.quota.proofs.Checks.{shop_known}
use Rattle.quota.proofs.Settling.{charged_kept, charged_settled}
use Rattle.quota.proofs.charging.divide_for.Goals as goal

pub returns-in_err-shop_check : goal.returns-in_err-shop_check
returns-in_err-shop_check c =
    let s : ◌≡◌ {A = Division} c.from_residual.result (Err (DivisionError.Refused c.in_err-shop_check.field-0.0)) = search rules in
    let all = charged_kept c.args.balances.now c.args.shop c.args.k.now c.args.tol c.args.given.now c.args.solved.now c.args.poses.now c.args.joints.now (sym c.in_err-shop_check.ensures) in
    record { answer = rw s all.0; poses = all.1.0; joints = all.1.1.0; balances = all.1.1.1.0; price = rw s all.1.1.1.1 }

pub settle-requires : goal.settle-requires
settle-requires c =
    let k = shop_known _ _ (sym c.in_ok-shop_check.ensures) in
    omega (arith, k)

pub returns : goal.returns
returns c =
    let all =
    charged_settled c.args.balances.now c.args.shop c.args.k.now c.args.tol c.args.given.now c.args.solved.now c.args.poses.now c.args.joints.now (sym c.in_ok-shop_check.ensures) c.subdivide_path-said.auto.poses c.subdivide_path-said.auto.joints (c.subdivide_path-said.ensures.answer, (c.subdivide_path-said.ensures.poses, (c.subdivide_path-said.ensures.joints, (c.subdivide_path-said.ensures.price, c.subdivide_path-said.ensures.later))))
    (c.settle.ensures.answer, (c.settle.ensures.poses, (c.settle.ensures.joints, c.settle.ensures.balances))) in
    record { answer = all.0; poses = all.1.0; joints = all.1.1.0; balances = all.1.1.1.0; price = all.1.1.1.1 }
