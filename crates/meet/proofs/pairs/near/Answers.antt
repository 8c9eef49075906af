use mathlib.Core.Path.{◌≡◌}
use mathlib.Core.Bool.{false}
use Rattle.std.proofs.Common.{rules}
use Rattle.meet.specs.MeetingSteps.{same_kind, near}
use Rattle.meet.proofs.pairs.near.Goals as goal

pub returns-then-ne : goal.returns-then-ne
unfolding near
returns-then-ne c =
    let e : same_kind c.args.left.kind c.args.right.kind ≡ false = search (rules, c.ne.ensures, c.if-ne.true) in
    rw (c.nearer.ensures, e)
