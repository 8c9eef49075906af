use Rattle.std.proofs.Common.{◌≡◌, Err, rules, ap, ◌∙◌}
use Rattle.divide.specs.declared.DivisionError.{DivisionError}
use Rattle.lists.proofs.Tests.{is}
use Rattle.chain.proofs.Passing.{demand_passed, demand_refused, read_refused, read_served}
use Rattle.maztubel.proofs.DividesFor.{refused_by, subdivide_lengths, subdivide_bytes, subdivide_chain}
use Rattle.maztubel.proofs.divide_entries.subdivide_of.Goals as goal

pub returns-in_err-demand : goal.returns-in_err-demand
returns-in_err-demand c =
    let a = c.args in
    let e : c.from_residual.result ≡ Err (DivisionError.Refused c.in_err-demand.field-0.0) = search rules in
    let d = demand_refused _ _ _ (is c.demand.ensures c.in_err-demand.was) in
    let said = e ∙ ap refused_by d.1 in
    let all = subdivide_lengths a.chain.now a.tol a.poses.now a.joints.now a.out_poses.now a.out_joints.now (is c.four_whole-whole.ensures d.0) said in
    record { answer = all.0; poses = all.1.0; joints = all.1.1.0; price = all.1.1.1 }

pub returns-in_err-read_chain_into : goal.returns-in_err-read_chain_into
returns-in_err-read_chain_into c =
    let a = c.args in
    let e : c.from_residual-in_err-read_chain_into.result ≡ Err (DivisionError.Refused c.in_err-read_chain_into.field-0.0) = search rules in
    let w = is c.four_whole-whole.ensures (demand_passed _ _ _ (is c.demand.ensures c.in_ok-demand.was)) in
    let all = subdivide_bytes a.chain.now a.tol a.poses.now a.joints.now a.out_poses.now a.out_joints.now w (read_refused _ c.read_chain_into.ensures.chain c.in_err-read_chain_into.was) in
    record { answer = rw e all.0; poses = all.1.0; joints = all.1.1.0; price = all.1.1.1 }

pub returns : goal.returns
returns c =
    let a = c.args in
    let w = is c.four_whole-whole.ensures (demand_passed _ _ _ (is c.demand.ensures c.in_ok-demand.was)) in
    let s = c.subdivide_path.ensures in
    let all = subdivide_chain a.chain.now a.tol a.poses.now a.joints.now a.out_poses.now a.out_joints.now w (read_served _ c.read_chain_into.ensures.chain c.in_ok-read_chain_into.was)
    (s.answer, (s.poses, (s.joints, (s.price, s.later)))) in
    record { answer = all.0; poses = all.1.0; joints = all.1.1.0; price = all.1.1.1 }
