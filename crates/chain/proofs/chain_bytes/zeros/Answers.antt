use mathlib.Core.Path.{sym, ◌∙◌}
use Rattle.chain.proofs.Bytes.{zeros_none, zeros_some}
use Rattle.chain.proofs.chain_bytes.zeros.Goals as goal

pub returns-in-None : goal.returns-in-None
returns-in-None c = sym (zeros_none _ _ _ c.requires (sym c.first_nonzero.ensures ∙ c.in-None.is))

pub returns-in-Some : goal.returns-in-Some
returns-in-Some c = rw c.new.ensures (sym (zeros_some _ _ _ c.requires _ (sym c.first_nonzero.ensures ∙ c.in-Some.is)))
