use Rattle.geometry.specs.Rigid.{map_direction}
use Rattle.geometry.proofs.Rigid.map_direction.Goals as goal

pub returns : goal.returns
unfolding map_direction
returns c = rw (c.add-2.ensures, c.mul-3.ensures, c.add.ensures, c.mul-2.ensures, c.mul.ensures)
