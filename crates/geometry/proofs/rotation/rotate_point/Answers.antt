use Rattle.geometry.specs.Turn.{rotate_point}
use Rattle.geometry.proofs.rotation.rotate_point.Goals as goal

pub returns : goal.returns
unfolding rotate_point
returns c = rw (c.add.ensures, c.rotate_vector.ensures, c.sub.ensures)
