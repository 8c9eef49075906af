use Rattle.job.specs.Spelling.{labelled}
use Rattle.job.proofs.Written.{put_then}
use Rattle.job.proofs.spelling.Page.put_labelled.Goals as goal

pub returns : goal.returns
unfolding labelled
returns c = put_then c.put.ensures c.put_decimal.ensures
