use Prim.Native.Nat.{◌<◌}
use borrow.Author.Rules.{rules}
use lib.ListN.{length}
use Rattle.turn.proofs.Lent.{left_same}
use Rattle.slice.proofs.Slices.{sliced_long}
use Rattle.machine.proofs.Alone.{ends_at_once, enough}
use Rattle.machine.proofs.dividing.run.Goals as goal

pub run_some-requires : goal.run_some-requires
run_some-requires c =
    let r = c.requires in
    record { some_placed = λ h. r.some_placed; apart = r.apart; waits = r.waits; given_last = r.cached.fewer; few = r.few }

pub returns : goal.returns
returns c =
    let a = c.args in
    let o = a.out.now in
    let l = c.run_some.ensures.lent in
    let long = sliced_long a.by.now.p a.by.now.tol o.space 18446744073709551615 a.m o.poses.now o.joints.now in
    let fits : length o.poses.now < 18446744073709551616 = search rules in
    record {
      same = left_same l long.0 long.1;
      ran = ends_at_once a.by.now.p a.by.now.tol o.space o.poses.now o.joints.now a.m c.requires (enough o.space a.m (length o.poses.now) c.requires.poses_long fits)
          c.run_some.ensures.turn l.in_poses l.in_joints;
    }
