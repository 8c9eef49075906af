use Rattle.job.specs.Telling.{line}
use Rattle.job.proofs.Written.{put_then}
use Rattle.job.proofs.spelling.Page.put_line.Goals as goal

pub returns : goal.returns
unfolding line
returns c = put_then c.put_decimal.ensures c.put_numbers.ensures
