use Rattle.std.proofs.Common.{refl, ◌∙◌, rules}
use Rattle.job.proofs.Written.{fits_first, fits_next, put_then}
use Rattle.writer.proofs.Texts.{kind_word, job_fits, job_put}
use Rattle.writer.proofs.writing.put_job.Goals as goal

pub put_chain-requires : goal.put_chain-requires
put_chain-requires c = fits_first _ (job_fits c.args.k.now c.args.poses.now c.args.cone c.args.tol c.requires.0 c.kind_of-kind.ensures refl refl refl c.requires.1)

pub put_poses-requires : goal.put_poses-requires
put_poses-requires c =
    fits_first _
    (fits_next c.put_chain.ensures (job_fits c.args.k.now c.args.poses.now c.args.cone c.args.tol c.requires.0 c.kind_of-kind.ensures c.put_chain.ensures.behind refl refl c.requires.1))

pub put_trailer-requires : goal.put_trailer-requires
put_trailer-requires c =
    fits_next c.put_poses.ensures
    (fits_next c.put_chain.ensures
    (job_fits c.args.k.now c.args.poses.now c.args.cone c.args.tol c.requires.0 c.kind_of-kind.ensures c.put_chain.ensures.behind (c.word.ensures ∙ kind_word _ _ c.kind_of-kind.ensures) refl c.requires.1))

pub returns : goal.returns
returns c =
    let all = job_put c.args.k.now c.args.poses.now c.args.cone c.args.tol c.requires.0 c.kind_of-kind.ensures c.put_chain.ensures.behind (c.word.ensures ∙ kind_word _ _ c.kind_of-kind.ensures) refl
    (put_then c.put_chain.ensures (put_then c.put_poses.ensures c.put_trailer.ensures)) in
    let lent = all.1 in
    record { end = all.0; lent = search rules }
