use Rattle.writer.specs.Writing.{chain_bytes}
use Rattle.job.proofs.Written.{fits_first, fits_next, put_then}
use Rattle.writer.proofs.writing.put_chain.Goals as goal

pub put_rotary-requires : goal.put_rotary-requires
unfolding chain_bytes
put_rotary-requires c = fits_first _ (fits_next c.put_head.ensures c.requires)

pub put_second-requires : goal.put_second-requires
unfolding chain_bytes
put_second-requires c = fits_first _ (fits_next c.put_rotary.ensures (fits_next c.put_head.ensures c.requires))

pub put_vector-requires : goal.put_vector-requires
unfolding chain_bytes
put_vector-requires c = fits_next c.put_second.ensures (fits_next c.put_rotary.ensures (fits_next c.put_head.ensures c.requires))

pub returns : goal.returns
unfolding chain_bytes
returns c = put_then c.put_head.ensures (put_then c.put_rotary.ensures (put_then c.put_second.ensures c.put_vector.ensures))
