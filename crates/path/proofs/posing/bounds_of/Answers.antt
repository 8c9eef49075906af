use Rattle.path.specs.Posing.{bounds_of}
use Rattle.path.proofs.SecondBound.{second_bound}
use Rattle.path.proofs.posing.bounds_of.Goals as goal

pub returns : goal.returns
unfolding bounds_of
returns c = rw (c.from-first.ensures, second_bound c.args.k.now c.second_rotary.result c.map-second.result _ c.second_rotary.ensures c.map-second.ensures.cases (λ j b h. h))
