use Rattle.path.specs.Solving.{solve_checked}
use Rattle.path.proofs.Room.{set_up_bounded, set_up_fits}
use Rattle.path.proofs.solving.solve_checked.Goals as goal

pub invariant_of-s : goal.invariant_of-s
invariant_of-s c = record {
  bounded = set_up_bounded _ _ _ c.set_up.ensures c.requires.1;
  fits = set_up_fits _ _ _ c.set_up.ensures c.chain_fits.ensures;
}

pub returns : goal.returns
unfolding solve_checked
returns c = record {
  checked = rw (c.start_angles.ensures, c.set_up.ensures) at c.solve_poses.ensures.checked;
  lent = rw (c.start_angles.ensures, c.set_up.ensures) at c.solve_poses.ensures.lent;
}
