use Rattle.inverse.proofs.Compared.{less_is}
use Rattle.inverse.proofs.ordering.precedes.Goals as goal

pub returns : goal.returns
returns c = rw (c.is_lt.ensures, c.compare.ensures) (less_is _ _)
