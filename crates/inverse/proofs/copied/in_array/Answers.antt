use Rattle.std.proofs.lemmas.List.{drop-replicate}
use Rattle.lists.specs.Padding.{padded}
use Rattle.inverse.proofs.copied.in_array.Goals as goal

pub returns : goal.returns
unfolding padded
returns g c = rw (c.copy_from_slice.ensures.after, drop-replicate _ _ _)
