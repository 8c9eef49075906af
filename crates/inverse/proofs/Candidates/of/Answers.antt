use Rattle.std.proofs.lemmas.List.{take_at}
use Rattle.std.proofs.Common.{sym}
use Rattle.lists.specs.Padding.{padded}
use Rattle.inverse.proofs.Candidates.of.Goals as goal

pub returns-clause-items : goal.returns-clause-items
unfolding padded
returns-clause-items c = rw (rw c.as_slice.ensures.value at c.in_array.ensures) (take_at _ _ _ (sym c.len.ensures.value))
