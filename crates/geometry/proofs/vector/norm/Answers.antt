use Rattle.geometry.specs.Vector.{norm}
use Rattle.geometry.proofs.vector.norm.Goals as goal

pub returns : goal.returns
unfolding norm
returns c = rw (c.quick_root.ensures, c.dot.ensures)
