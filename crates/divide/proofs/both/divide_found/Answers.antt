use borrow.Author.Rules.{rules}
use Prim.Native.Nat.{◌/◌, ◌*◌}
use mathlib.Core.Path.{◌≡◌, refl, sym, ap, ◌∙◌}
use lib.ListN.{length, take}
use Rattle.std.specs.Prelude.{Err}
use Rattle.divide.specs.declared.DivisionError.{DivisionError}
use Rattle.divide.specs.Subdividing.{Division, ended}
use Rattle.divide.proofs.Lengths.{check_lengths}
use Rattle.divide.proofs.Subdivides.{found_refused, found_ended}
use Rattle.divide.proofs.both.divide_found.Goals as goal

pub returns-in-Err : goal.returns-in-Err
returns-in-Err c =
    let all = found_refused c.args.k.now c.args.tol c.args.given.now c.args.poses.now c.args.joints.now (sym c.division_check.ensures.checked ∙ c.in-Err.is) refl (c.fill.ensures.after (λ y e. e)) (c.fill-in-Err.ensures.after (λ y e. e)) in
    record { answer = all.0; poses = all.1.0; joints = all.1.1.0; price = all.1.1.1.0; later = all.1.1.1.1 }

pub halve_solved-requires : goal.halve_solved-requires
halve_solved-requires c =
    let lengths = check_lengths c.args.k.now c.args.tol c.args.given.now (take (length c.args.given.now / 6 * 5) c.args.joints.now) (length c.args.poses.now) (length c.args.joints.now) (sym c.division_check.ensures.checked ∙ c.in_default.is) in
    lengths.0

pub returns-in_err-halve_solved : goal.returns-in_err-halve_solved
returns-in_err-halve_solved c =
    let s : ◌≡◌ {A = Division} c.from_residual.result (Err (DivisionError.Stopped c.in_err-halve_solved.field-0.0)) = search rules in
    let all = found_ended c.args.k.now c.args.tol c.args.given.now c.args.poses.now c.args.joints.now c.requires (sym c.division_check.ensures.checked ∙ c.in_default.is) (c.division_check.ensures.fit c.in_default.is) c.chain_fits.ensures.spindle c.halve_solved.ensures.answer c.halve_solved.ensures.poses c.halve_solved.ensures.joints (s ∙ ap ended (sym c.in_err-halve_solved.was)) in
    record { answer = all.0; poses = all.1.0; joints = all.1.1.0; price = all.1.1.1.0; later = all.1.1.1.1 }

pub returns : goal.returns
returns c =
    let all = found_ended c.args.k.now c.args.tol c.args.given.now c.args.poses.now c.args.joints.now c.requires (sym c.division_check.ensures.checked ∙ c.in_default.is) (c.division_check.ensures.fit c.in_default.is) c.chain_fits.ensures.spindle c.halve_solved.ensures.answer c.halve_solved.ensures.poses c.halve_solved.ensures.joints (ap ended (sym c.in_ok-halve_solved.was)) in
    record { answer = all.0; poses = all.1.0; joints = all.1.1.0; price = all.1.1.1.0; later = all.1.1.1.1 }
