use Rattle.std.proofs.Common.{arith}
use Rattle.job.proofs.Texts.{length_pose, length_refusal}
use Rattle.job.proofs.telling.refused_length.Goals as goal

pub returns-in-None : goal.returns-in-None
returns-in-None c =
    let k = length_refusal c.args.cause in
    let n = rw c.number.ensures at c.width-refused.ensures.width in
    rw c.in-None.is (omega (arith, k, n))

pub returns-in-Some : goal.returns-in-Some
returns-in-Some c =
    let k = length_pose c.args.cause c.in-Some.at in
    let n = rw c.number.ensures at c.width-refused.ensures.width in
    let m = c.width.ensures.width in
    rw c.in-Some.is (omega (arith, k, n, m))
