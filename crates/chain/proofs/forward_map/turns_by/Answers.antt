use Rattle.chain.proofs.forward_map.turns_by.Goals as goal
use Rattle.chain.proofs.forward_map.turns_by.Goals.{in-Some, in-None}

pub returns : goal.returns
returns g c =
    λ t f.
    elim c.match-p.branch [
      | in-Some w ↦ rw (w.second-is, f _ _ w.turn-second.ensures, f _ _ c.turn-first.ensures, w.forward_angle-in-Some.ensures, c.forward_angle.ensures, w.in-Some.is)
      | in-None w ↦ rw (w.second-is, f _ _ c.turn-first.ensures, w.still-second.ensures, c.forward_angle.ensures, w.in-None.is)
    ]
