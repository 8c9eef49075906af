use Rattle.geometry.specs.Vector.{dot}
use Rattle.geometry.specs.Rigid.{inverse}
use Rattle.geometry.proofs.Rigid.inverse.Goals as goal

pub returns : goal.returns
unfolding inverse dot
returns c = rw (c.dot.ensures, c.dot-2.ensures, c.dot-3.ensures)
