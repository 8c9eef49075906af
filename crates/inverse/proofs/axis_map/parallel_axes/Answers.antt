use Rattle.inverse.proofs.axis_map.parallel_axes.Goals as goal

pub returns : goal.returns
returns c = rw (c.norm.ensures, c.cross.ensures)
