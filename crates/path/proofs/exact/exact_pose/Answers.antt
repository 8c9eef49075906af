use mathlib.Core.Path.{sym}
use Rattle.inverse.specs.Orientation.{orientation_angles}
use Rattle.path.specs.Exact.{exact_pose}
use Rattle.path.proofs.OneEnough.{one_enough}
use Rattle.path.proofs.exact.exact_pose.Goals as goal

pub returns-in-Some : goal.returns-in-Some
unfolding exact_pose
returns-in-Some c =
    let s = c.args.s.now in
    let aim = c.args.aim.now in
    let raw = orientation_angles s.setup.chain aim.target aim.previous in
    sym (one_enough s.setup aim.target aim.tip aim.previous raw.first raw.second _ s.fits s.bounded aim.fits aim.within
    (rw (c.closest_alone-closest.ensures, c.orientation_angles-raw.ensures) at c.in-Some.is))

pub returns-in-None : goal.returns-in-None
unfolding exact_pose
returns-in-None c = rw (c.of_raw.ensures, c.orientation_angles-raw.ensures)
