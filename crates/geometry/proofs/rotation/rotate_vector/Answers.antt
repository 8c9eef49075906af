use Rattle.geometry.specs.Turn.{rotate_vector}
use Rattle.geometry.proofs.rotation.rotate_vector.Goals as goal

pub returns : goal.returns
unfolding rotate_vector
returns c = rw (c.add-2.ensures, c.mul-3.ensures, c.add.ensures, c.mul-2.ensures, c.mul.ensures, c.cross-crossed.ensures, c.dot-along.ensures)
