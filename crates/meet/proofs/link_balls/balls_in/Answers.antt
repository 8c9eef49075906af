use Rattle.std.proofs.Common.{lit<}
use mathlib.Core.Path.{ap, ◌∙◌}
use Rattle.model.proofs.Links.{left}
use Rattle.meet.proofs.Filling.{filling_start, filling_room, filling_whole, filling_step, filling_end}
use Rattle.meet.proofs.link_balls.balls_in.Goals as goal

pub loop-link-init : goal.loop-link-init
loop-link-init c =
    filling_start c.requires.0 c.requires.1 c.new-balls.ensures
    (ap left c.into_iter-link-iterator.ensures.into_iter_gives ∙ c.links_in-link-items.ensures)

pub link_ball-requires : goal.link_ball-requires
link_ball-requires c = filling_whole c.in-Some.ensures.steps c.loop-link.invariant

pub push-requires : goal.push-requires
push-requires c = (lit< tt, filling_room c.in-Some.ensures.steps c.loop-link.invariant)

pub loop-link-preserved : goal.loop-link-preserved
loop-link-preserved c = filling_step c.in-Some.ensures.steps c.loop-link.invariant c.link_ball.ensures c.push.ensures.items

pub returns : goal.returns
returns c = filling_end c.in-None.ensures.steps.0 c.loop-link.invariant
