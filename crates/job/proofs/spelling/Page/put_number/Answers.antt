use Rattle.job.specs.Spelling.{number}
use Rattle.job.proofs.Written.{fits_first, fits_next, put_then}
use Rattle.job.proofs.spelling.Page.put_number.Goals as goal

pub put-requires : goal.put-requires
unfolding number
put-requires c = fits_first _ c.requires

pub put-requires-2 : goal.put-requires-2
unfolding number
put-requires-2 c = rw (c.hexadecimal.ensures, c.bits_of.ensures) (fits_next c.put.ensures c.requires)

pub returns : goal.returns
unfolding number
returns c = put_then c.put.ensures (rw (c.hexadecimal.ensures, c.bits_of.ensures) at c.put-2.ensures)
