use Rattle.job.specs.Telling.{numbers}
use Rattle.job.proofs.Written.{fits_first, fits_next, put_then}
use Rattle.job.proofs.spelling.Page.put_numbers.Goals as goal

pub put_number-requires-2 : goal.put_number-requires-2
unfolding numbers
put_number-requires-2 c = fits_first _ (fits_next c.put_number.ensures c.requires)

pub put_number-requires-3 : goal.put_number-requires-3
unfolding numbers
put_number-requires-3 c = fits_first _ (fits_next c.put_number-2.ensures (fits_next c.put_number.ensures c.requires))

pub put_number-requires-4 : goal.put_number-requires-4
unfolding numbers
put_number-requires-4 c = fits_first _ (fits_next c.put_number-3.ensures (fits_next c.put_number-2.ensures (fits_next c.put_number.ensures c.requires)))

pub put_number-requires-5 : goal.put_number-requires-5
unfolding numbers
put_number-requires-5 c = fits_first _ (fits_next c.put_number-4.ensures (fits_next c.put_number-3.ensures (fits_next c.put_number-2.ensures (fits_next c.put_number.ensures c.requires))))

pub put-requires : goal.put-requires
unfolding numbers
put-requires c = fits_next c.put_number-5.ensures (fits_next c.put_number-4.ensures (fits_next c.put_number-3.ensures (fits_next c.put_number-2.ensures (fits_next c.put_number.ensures c.requires))))

pub returns : goal.returns
unfolding numbers
returns c = put_then c.put_number.ensures (put_then c.put_number-2.ensures (put_then c.put_number-3.ensures (put_then c.put_number-4.ensures (put_then c.put_number-5.ensures c.put.ensures))))
