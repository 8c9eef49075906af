use Rattle.std.proofs.Common.{rules}
use Rattle.turn.proofs.Space.{space_so}
use Rattle.cell.specs.Turning.{slice_of}
use Rattle.cell.proofs.Serving.{fits_counts, settles}
use Rattle.cell.proofs.Entry.serve.Goals as goal

pub invariant_of-out : goal.invariant_of-out
invariant_of-out c = let s = space_so c.space_in-space.ensures in record { poses_long = s.0; joints_long = s.1 }

pub run_some-t-requires : goal.run_some-t-requires
run_some-t-requires c = rw c.space_in-space.ensures (fits_counts _ _ _ c.requires)

pub settle-requires : goal.settle-requires
settle-requires c =
    rw c.run_some-t.ensures.lent.as_much (settles _ _ _ _ _ _ _ _ (rw c.space_in-space.ensures (fits_counts _ _ _ c.requires)) c.run_some-t.ensures.turn)

pub returns : goal.returns
unfolding slice_of
returns c =
    let l = c.run_some-t.ensures.lent in
    let s = c.settle.ensures.lent in
    let o = rw (l.as_much, c.run_some-t.ensures.turn, c.tolerances.ensures, c.space_in-space.ensures) at c.settle.ensures.outcome in
    let p = rw (l.as_much, l.in_poses, c.run_some-t.ensures.turn, c.tolerances.ensures, c.space_in-space.ensures) at s.in_poses in
    let q = rw (l.as_much, l.in_joints, c.run_some-t.ensures.turn, c.tolerances.ensures, c.space_in-space.ensures) at s.in_joints in
    record { outcome = o; poses = search rules; joints = search rules }
