use Rattle.writer.proofs.Texts.{posing_start, posing_room, posing_step, posing_end}
use Rattle.writer.proofs.writing.put_poses.Goals as goal

pub loop-x-init : goal.loop-x-init
loop-x-init c = posing_start c.requires

pub put_number-requires : goal.put_number-requires
put_number-requires c = posing_room c.loop-x-test.true c.loop-x.invariant

pub loop-x-preserved : goal.loop-x-preserved
loop-x-preserved c = posing_step c.loop-x-test.true c.loop-x.invariant c.put_number.ensures

pub returns : goal.returns
returns c = posing_end c.loop-x-test.false c.loop-x.invariant
