use native.Mathlib.Omega.{arith}
use mathlib.Core.Path.{sym}
use Rattle.lists.proofs.Tests.{is}
use Rattle.extremes.proofs.Afresh.{joints_left, summary_left, left_own}
use Rattle.extremes.proofs.Checks.{replace_lengths}
use Rattle.extremes.proofs.Groups.{in_group}
use Rattle.extremes.proofs.entries.replace.Goals as goal

pub joints_in-j-requires : goal.joints_in-j-requires
joints_in-j-requires c =
    let l = replace_lengths _ _ _ _ (is c.replace_check.ensures c.in_ok-replace_check.was) in
    omega (arith, l)

pub overflow_mul-index : goal.overflow_mul-index
overflow_mul-index c =
    let l = replace_lengths _ _ _ _ (is c.replace_check.ensures c.in_ok-replace_check.was) in
    omega (arith, l)

pub put_joints-requires : goal.put_joints-requires
put_joints-requires c =
    let l = replace_lengths _ _ _ _ (is c.replace_check.ensures c.in_ok-replace_check.was) in
    omega (arith, l)

pub sum_group-requires : goal.sum_group-requires
sum_group-requires c =
    let l = replace_lengths _ _ _ _ (is c.replace_check.ensures c.in_ok-replace_check.was) in
    let g = in_group _ _ l.0 in
    (omega (arith, l), omega (arith, l, g))

pub returns : goal.returns
returns c =
    let e = is c.replace_check.ensures c.in_ok-replace_check.was in
    let joints = joints_left c.args.joints.now c.args.summary.now c.args.index c.args.fresh.now e c.joints_in-j.ensures c.put_joints.ensures in
    let summary = summary_left c.args.joints.now c.args.summary.now c.args.index c.args.fresh.now e joints c.sum_group.ensures in
    record { checked = sym e; joints = joints; summary = summary; own = left_own c.args.joints.now c.args.summary.now c.args.index c.args.fresh.now joints summary }
