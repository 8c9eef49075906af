use Rattle.inverse.specs.Inverse.{reached_at}
use Rattle.inverse.proofs.FromTurns.{pose_from_is, joints_from_is}
use Rattle.inverse.proofs.inverse_map.reached_at.Goals as goal

pub returns-then-misses : goal.returns-then-misses
unfolding reached_at
returns-then-misses c =
    rw (rw (c.misses.ensures, c.pose_from-pose0.ensures, c.turns_of-turns.ensures, pose_from_is c.args.p c.args.angles c.args.tool_length) at c.if-misses.true)

pub returns : goal.returns
unfolding reached_at
returns c =
    rw (
      c.joints_from.ensures,
      c.pose_from-pose0.ensures,
      c.turns_of-turns.ensures,
      pose_from_is c.args.p c.args.angles c.args.tool_length,
      joints_from_is _ _ _ _,
      rw (c.misses.ensures, c.pose_from-pose0.ensures, c.turns_of-turns.ensures, pose_from_is c.args.p c.args.angles c.args.tool_length) at c.if-misses.false,
    )
