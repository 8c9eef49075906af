use Rattle.std.proofs.Common.{arith}
use Rattle.post.specs.Posting.{path_of}
use Rattle.post.proofs.Lent.{sized_job}
use Rattle.post.proofs.Paths.{few, concluded}
use Rattle.post.proofs.answering.post_job.Goals as goal

pub path_length-numbers-requires : goal.path_length-numbers-requires
path_length-numbers-requires c =
    rw c.solve-said.ensures.answer (few c.args.j.poses (path_of c.args.bytes.now c.args.j) (sized_job c.args.bytes.now c.args.j c.requires))

pub overflow_mul-numbers : goal.overflow_mul-numbers
overflow_mul-numbers c =
    let h = rw c.solve-said.ensures.answer at c.path_length-numbers.ensures in
    let f = few c.args.j.poses (path_of c.args.bytes.now c.args.j) (sized_job c.args.bytes.now c.args.j c.requires) in
    record { fits = omega (arith, h, f) }

pub shared_ref_as_front-conclude : goal.shared_ref_as_front-conclude
shared_ref_as_front-conclude c =
    let h = rw c.solve-said.ensures.answer at c.path_length-numbers.ensures in
    let f = few c.args.j.poses (path_of c.args.bytes.now c.args.j) (sized_job c.args.bytes.now c.args.j c.requires) in
    omega (arith, h, f)

pub returns : goal.returns
returns c =
    let e = concluded c.args.j.chain c.args.j.poses (path_of c.args.bytes.now c.args.j) _ c.args.room.now.joints _ _ (sized_job c.args.bytes.now c.args.j c.requires) c.solve-said.ensures.answer c.solve-said.ensures.joints c.path_length-numbers.ensures in
    record { end = rw e at c.conclude.ensures.end; text = rw e at c.conclude.ensures.text; served = c.solve-said.ensures.served }
