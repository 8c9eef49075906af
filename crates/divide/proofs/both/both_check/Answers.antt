use native.Mathlib.Omega.{arith}
use Rattle.turn.proofs.Space.{space_joints}
use Rattle.divide.proofs.both.both_check.Goals as goal

pub overflow_mul-room : goal.overflow_mul-room
overflow_mul-room c = record { fits = let h = rw (← c.space_in-room.ensures) at (space_joints c.args.room_poses c.args.room_joints) in omega (arith, h, c.ranges.room_joints.fits) }
