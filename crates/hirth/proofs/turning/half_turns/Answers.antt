use Rattle.std.proofs.Common.{arith}
use Rattle.hirth.specs.Teeth.{entries}
use Rattle.hirth.specs.Turning.{half_turns, part_turn}
use Rattle.hirth.proofs.Halves.{tooth_most}
use Rattle.hirth.proofs.turning.half_turns.Goals as goal

pub entries-e-requires : goal.entries-e-requires
entries-e-requires c = omega arith

pub unscaled-s-requires : goal.unscaled-s-requires
unscaled-s-requires c = rw c.entries-e.ensures.name (unfold entries in tooth_most _)

pub unscaled-c-requires : goal.unscaled-c-requires
unscaled-c-requires c = rw c.entries-e.ensures.name (unfold entries in tooth_most _)

pub overflow_add-q : goal.overflow_add-q
overflow_add-q c = omega arith

pub returns : goal.returns
unfolding half_turns part_turn
returns c =
    rw (c.quartered-cosine.ensures, c.quartered-sine.ensures, c.unscaled-c.ensures, c.unscaled-s.ensures, c.entries-e.ensures.name)
