use Rattle.writer.specs.Writing.{vector_bytes}
use Rattle.job.proofs.Written.{fits_first, fits_next, put_then}
use Rattle.writer.proofs.writing.put_vector.Goals as goal

pub put_number-requires-2 : goal.put_number-requires-2
unfolding vector_bytes
put_number-requires-2 c = fits_first _ (fits_next c.put_number.ensures c.requires)

pub put_number-requires-3 : goal.put_number-requires-3
unfolding vector_bytes
put_number-requires-3 c = fits_next c.put_number-2.ensures (fits_next c.put_number.ensures c.requires)

pub returns : goal.returns
unfolding vector_bytes
returns c = put_then c.put_number.ensures (put_then c.put_number-2.ensures c.put_number-3.ensures)
