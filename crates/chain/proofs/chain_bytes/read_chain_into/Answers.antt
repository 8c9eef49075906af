use Rattle.chain.proofs.chain_bytes.read_chain_into.Goals as goal

pub read_count-requires : goal.read_count-requires
read_count-requires c = (c.record_length-w.ensures.least, c.record_length-w.ensures.most)
