use mathlib.Core.Path.{sym}
use Rattle.geometry.specs.Vector.{norm}
use Rattle.inverse.specs.Inverse.{misses}
use Rattle.inverse.proofs.SmallGap.{small_norm}
use Rattle.inverse.proofs.inverse_map.misses.Goals as goal

pub returns-then-square : goal.returns-then-square
unfolding misses
returns-then-square c = sym (small_norm _ (rw (c.dot-square.ensures, c.sub-gap.ensures) at c.if-square.true))

pub returns : goal.returns
unfolding misses norm
returns c = rw (c.root.ensures, c.dot-square.ensures, c.sub-gap.ensures)
