use mathlib.Core.Path.{sym}
use lib.ListN.{length}
use Rattle.chain.proofs.Fitting.{axes_fit}
use Rattle.path.specs.Solving.{solve_path}
use Rattle.path.proofs.Promises.{path_served}
use Rattle.path.proofs.Room.{room_passed, chain_bounded}
use Rattle.path.proofs.solving.solve_path.Goals as goal

pub returns-in_err-solve_check-clause-served : goal.returns-in_err-solve_check-clause-served
returns-in_err-solve_check-clause-served c = path_served c.args.k.now c.args.poses.now c.args.start c.args.cone (length c.args.out.now)

pub solve_checked-requires : goal.solve_checked-requires
solve_checked-requires c =
    let e = sym c.in_ok-solve_check.ensures in
    (room_passed _ _ _ _ _ e, chain_bounded _ _ _ _ _ e (axes_fit _ c.chain_fits.ensures))

pub returns : goal.returns
unfolding solve_path
returns c =
    let e = sym c.in_ok-solve_check.ensures in
    record {
      checked = rw e c.solve_checked.ensures.checked;
      lent = rw e c.solve_checked.ensures.lent;
      served = path_served c.args.k.now c.args.poses.now c.args.start c.args.cone (length c.args.out.now);
    }
