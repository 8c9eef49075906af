use borrow.Author.Rules.{rules}
use mathlib.Core.Path.{◌≡◌, sym, ap, ◌∙◌}
use lib.ListN.{length}
use Rattle.std.specs.Prelude.{Err}
use Rattle.divide.specs.declared.DivisionError.{DivisionError}
use Rattle.divide.specs.Subdividing.{Division, ended}
use Rattle.divide.proofs.Lengths.{check_lengths}
use Rattle.divide.proofs.Subdivides.{subdivide_refused, subdivide_ended}
use Rattle.divide.proofs.subdividing.subdivide_path.Goals as goal

pub returns-in_err-division_check : goal.returns-in_err-division_check
returns-in_err-division_check c =
    let s : ◌≡◌ {A = Division} c.from_residual.result (Err (DivisionError.Refused c.in_err-division_check.field-0.0)) = search rules in
    let all = subdivide_refused c.args.k.now c.args.tol c.args.given.now c.args.solved.now c.args.poses.now c.args.joints.now (sym c.in_err-division_check.ensures.checked) s in
    record { answer = all.0; poses = all.1.0; joints = all.1.1.0; price = all.1.1.1.0; later = all.1.1.1.1 }

pub invariant_of-path : goal.invariant_of-path
invariant_of-path c =
    let l = check_lengths c.args.k.now c.args.tol c.args.given.now c.args.solved.now (length c.args.poses.now) (length c.args.joints.now) (sym c.in_ok-division_check.ensures.checked) in
    record { poses_whole = l.0; joints_whole = l.1 }

pub returns-in_err-halve_given : goal.returns-in_err-halve_given
returns-in_err-halve_given c =
    let s : ◌≡◌ {A = Division} c.from_residual-in_err-halve_given.result (Err (DivisionError.Stopped c.in_err-halve_given.field-0.0)) = search rules in
    let all = subdivide_ended c.args.k.now c.args.tol c.args.given.now c.args.solved.now c.args.poses.now c.args.joints.now (sym c.in_ok-division_check.ensures.checked) (c.division_check.ensures.fit c.in_ok-division_check.was) c.chain_fits.ensures.spindle c.halve_given.ensures.answer c.halve_given.ensures.poses c.halve_given.ensures.joints (s ∙ ap ended (sym c.in_err-halve_given.was)) in
    record { answer = all.0; poses = all.1.0; joints = all.1.1.0; price = all.1.1.1.0; later = all.1.1.1.1 }

pub returns : goal.returns
returns c =
    let all = subdivide_ended c.args.k.now c.args.tol c.args.given.now c.args.solved.now c.args.poses.now c.args.joints.now (sym c.in_ok-division_check.ensures.checked) (c.division_check.ensures.fit c.in_ok-division_check.was) c.chain_fits.ensures.spindle c.halve_given.ensures.answer c.halve_given.ensures.poses c.halve_given.ensures.joints (ap ended (sym c.in_ok-halve_given.was)) in
    record { answer = all.0; poses = all.1.0; joints = all.1.1.0; price = all.1.1.1.0; later = all.1.1.1.1 }
