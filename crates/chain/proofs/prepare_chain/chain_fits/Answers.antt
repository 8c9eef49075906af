use Rattle.chain.proofs.Fitting.{chain_fits}
use Rattle.chain.proofs.prepare_chain.chain_fits.Goals as goal

pub returns : goal.returns
returns c = chain_fits c.args.k _ c.well_formed.0
