use Rattle.geometry.specs.Rigid.{map_point}
use Rattle.geometry.proofs.Rigid.map_point.Goals as goal

pub returns : goal.returns
unfolding map_point
returns c = rw (c.add.ensures, c.map_direction.ensures)
