use Rattle.geometry.specs.Vector.{gap_vec}
use Rattle.geometry.proofs.vector.gap_vec.Goals as goal

pub returns : goal.returns
unfolding gap_vec
returns c = rw (c.norm.ensures, c.sub.ensures)
