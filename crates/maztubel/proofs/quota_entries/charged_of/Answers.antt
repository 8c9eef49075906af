use borrow.Author.Rules.{rules}
use mathlib.Core.Path.{◌≡◌, sym}
use Rattle.std.specs.Prelude.{Err}
use Rattle.divide.specs.declared.DivisionError.{DivisionError}
use Rattle.divide.specs.Subdividing.{Division}
use native.Mathlib.Omega.{arith}
use Rattle.quota.proofs.Checks.{shop_known}
use Rattle.maztubel.proofs.ChargesFor.{charged_kept, charged_settled}
use Rattle.maztubel.proofs.quota_entries.charged_of.Goals as goal

pub returns-in_err-shop_check : goal.returns-in_err-shop_check
returns-in_err-shop_check c =
    let e = sym c.in_err-shop_check.ensures in
    let s : ◌≡◌ {A = Division} c.from_residual.result (Err (DivisionError.Refused c.in_err-shop_check.field-0.0)) = search rules in
    let all = charged_kept c.args.balances.now c.args.shop c.args.chain.now c.args.tol c.args.poses.now c.args.joints.now c.args.out_poses.now c.args.out_joints.now e in record { answer = rw s all.0; poses = all.1.0; joints = all.1.1.0; balances = all.1.1.1.0; price = all.1.1.1.1 }

pub settle-requires : goal.settle-requires
settle-requires c =
    let k = shop_known _ _ (sym c.in_ok-shop_check.ensures) in
    omega (arith, k)

pub returns : goal.returns
returns c =
    let e = sym c.in_ok-shop_check.ensures in let all = charged_settled c.args.balances.now c.args.shop c.args.chain.now c.args.tol c.args.poses.now c.args.joints.now c.args.out_poses.now c.args.out_joints.now e
    (search rules) (search rules) (c.subdivide_of-said.ensures.answer, (c.subdivide_of-said.ensures.poses, (c.subdivide_of-said.ensures.joints, c.subdivide_of-said.ensures.price))) (c.settle.ensures.answer, (c.settle.ensures.poses, (c.settle.ensures.joints, c.settle.ensures.balances))) in record { answer = all.0; poses = all.1.0; joints = all.1.1.0; balances = all.1.1.1.0; price = all.1.1.1.1 }
