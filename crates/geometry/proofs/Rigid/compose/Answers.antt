use Rattle.geometry.specs.Rigid.{compose}
use Rattle.geometry.proofs.Rigid.compose.Goals as goal

pub returns : goal.returns
unfolding compose
returns c = rw (c.map_direction-axis_z.ensures, c.map_direction-axis_y.ensures, c.map_direction-axis_x.ensures, c.map_point-origin.ensures)
