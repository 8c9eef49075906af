use Rattle.job.specs.Spelling.{paired}
use Rattle.job.specs.Telling.{head}
use Rattle.job.proofs.Written.{fits_first, fits_next, put_then}
use Rattle.job.proofs.spelling.Page.put_head.Goals as goal

pub put_labelled-requires-2 : goal.put_labelled-requires-2
unfolding head paired
put_labelled-requires-2 c = fits_next c.put_labelled.ensures (fits_first _ c.requires)

pub put_labelled-requires-3 : goal.put_labelled-requires-3
unfolding head paired
put_labelled-requires-3 c = fits_first _ (fits_first _ (fits_next (put_then c.put_labelled.ensures c.put_labelled-2.ensures) c.requires))

pub put_labelled-requires-4 : goal.put_labelled-requires-4
unfolding head paired
put_labelled-requires-4 c = fits_next c.put_labelled-3.ensures (fits_first _ (fits_next (put_then c.put_labelled.ensures c.put_labelled-2.ensures) c.requires))

pub put-requires : goal.put-requires
unfolding head paired
put-requires c = fits_next (put_then c.put_labelled-3.ensures c.put_labelled-4.ensures) (fits_next (put_then c.put_labelled.ensures c.put_labelled-2.ensures) c.requires)

pub returns : goal.returns
unfolding head paired
returns c = put_then (put_then c.put_labelled.ensures c.put_labelled-2.ensures) (put_then (put_then c.put_labelled-3.ensures c.put_labelled-4.ensures) c.put.ensures)
