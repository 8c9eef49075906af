use borrow.Author.Rules.{rules}
use mathlib.Core.Path.{◌≡◌, refl, sym, ◌∙◌}
use native.Mathlib.Omega.{arith}
use lib.ListN.{length}
use Rattle.std.specs.Prelude.{Err}
use Rattle.chain.proofs.Fitting.{axes_fit}
use Rattle.divide.specs.declared.DivisionError.{DivisionError}
use Rattle.divide.specs.Subdividing.{Division}
use Rattle.divide.proofs.BothCalls.{room_for, chain_for, both_kept, both_at_pose, both_divided}
use Rattle.divide.proofs.both.solve_and_divide.Goals as goal

pub returns-in_err-both_check : goal.returns-in_err-both_check
returns-in_err-both_check c =
    let s : ◌≡◌ {A = Division} c.from_residual.result (Err (DivisionError.Refused c.in_err-both_check.field-0.0)) = search rules in
    let all = both_kept c.args.k.now c.args.given.now c.args.start c.args.cone c.args.tol c.args.poses.now c.args.joints.now _ (sym c.in_err-both_check.ensures) s in
    record { answer = all.0; poses = all.1.0; joints = all.1.1.0; price = all.1.1.1 }

pub solve_checked-requires : goal.solve_checked-requires
solve_checked-requires c =
    let e = sym c.in_ok-both_check.ensures in (
      room_for c.args.k.now c.args.given.now c.args.start c.args.cone (length c.args.poses.now) (length c.args.joints.now) e,
      chain_for c.args.k.now c.args.given.now c.args.start c.args.cone (length c.args.poses.now) (length c.args.joints.now) (axes_fit _ c.chain_fits.ensures) e,
    )

pub returns-in-Err : goal.returns-in-Err
returns-in-Err c = let all = both_at_pose c.args.k.now c.args.given.now c.args.start c.args.cone c.args.tol c.args.poses.now c.args.joints.now _ (sym c.in_ok-both_check.ensures) (sym c.solve_checked.ensures.checked ∙ c.in-Err.is) refl (c.fill.ensures.after (λ y e. e)) c.solve_checked.ensures.lent in record { answer = all.0; poses = all.1.0; joints = all.1.1.0; price = all.1.1.1 }

pub divide_found-requires : goal.divide_found-requires
divide_found-requires c = let h = room_for c.args.k.now c.args.given.now c.args.start c.args.cone (length c.args.poses.now) (length c.args.joints.now) (sym c.in_ok-both_check.ensures) in omega (arith, h, c.solve_checked.auto)

pub returns : goal.returns
returns c = let all = both_divided c.args.k.now c.args.given.now c.args.start c.args.cone c.args.tol c.args.poses.now c.args.joints.now (sym c.in_ok-both_check.ensures) (sym c.solve_checked.ensures.checked ∙ c.in_default.is) c.solve_checked.ensures.lent c.solve_checked.auto.out c.divide_found.ensures.answer c.divide_found.ensures.poses c.divide_found.ensures.joints c.divide_found.ensures.price c.divide_found.ensures.later in record { answer = all.0; poses = all.1.0; joints = all.1.1.0; price = all.1.1.1 }
