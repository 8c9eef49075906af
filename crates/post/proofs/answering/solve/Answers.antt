use Rattle.std.proofs.Common.{◌≡◌, length, sym, ◌∙◌, rules, arith}
use Rattle.std.specs.Prelude.{None}
use Rattle.lists.proofs.Tests.{is}
use Rattle.chain.proofs.Passing.{refused_passed}
use Rattle.post.proofs.Lent.{few_poses, taken, solved, cabled_job}
use Rattle.post.proofs.Cables.{path_cabled}
use Rattle.post.proofs.answering.solve.Goals as goal

pub returns-in_err-job_poses : goal.returns-in_err-job_poses
returns-in_err-job_poses c =
    let p : length c.args.room.now.poses ≡ 8172 = search rules in
    absurd (refused_passed (sym (is c.job_poses.ensures.checked c.in_err-job_poses.was) ∙ taken c.args.bytes.now c.args.j c.requires c.args.room.now.poses p))

pub shared_ref_as_front-solve_and_divide : goal.shared_ref_as_front-solve_and_divide
shared_ref_as_front-solve_and_divide c =
    let n = few_poses c.args.bytes.now c.args.j c.requires in
    omega (arith, n)

pub returns : goal.returns
returns c =
    let lent = c.job_poses.ensures.lent in
    let p : length c.args.room.now.poses ≡ 8172 = search rules in
    let q : length c.args.room.now.divided ≡ 4200 = search rules in
    let r : length c.args.room.now.joints ≡ 3500 = search rules in
    let s = solved c.args.bytes.now c.args.j c.requires c.args.room.now.poses _ c.args.room.now.divided c.args.room.now.joints _ _ p q r lent c.solve_and_divide.ensures.answer c.solve_and_divide.ensures.joints in
    let k = c.args.j.chain in
    let cabled = path_cabled k _ None c.args.j.cone c.args.j.tol c.args.room.now.divided c.args.room.now.joints c.solve_and_divide.ensures.price c.solve_and_divide.ensures.answer c.solve_and_divide.ensures.poses c.solve_and_divide.ensures.joints in
    record { answer = s.0; joints = s.1; served = cabled_job c.args.bytes.now c.args.j c.requires c.args.room.now.poses _ c.args.room.now.divided c.args.room.now.joints p q r lent cabled }
