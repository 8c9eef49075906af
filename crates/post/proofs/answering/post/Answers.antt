use mathlib.Core.Path.{sym, ◌∙◌}
use Rattle.post.specs.Posting.{post}
use Rattle.post.proofs.Cables.{job_told, no_job_told}
use Rattle.post.proofs.answering.post.Goals as goal

pub returns-in-Ok : goal.returns-in-Ok
unfolding post
returns-in-Ok c =
    let e = sym c.read_job.ensures ∙ c.in-Ok.is in record { end = rw e c.post_job.ensures.end; text = rw e c.post_job.ensures.text; served = job_told _ _ e c.post_job.ensures.served }

pub returns-in-Err : goal.returns-in-Err
unfolding post
returns-in-Err c =
    let e = sym c.read_job.ensures ∙ c.in-Err.is in record { end = rw e (rw c.into.ensures at c.tell.ensures.end); text = rw e (rw c.into.ensures at c.tell.ensures.text); served = no_job_told _ _ e }
