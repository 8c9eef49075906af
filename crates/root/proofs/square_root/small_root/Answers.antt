use Rattle.std.proofs.Common.{lit≤, rules}
use Rattle.root.proofs.RootCases.{case_zero, case_below, lifted_normal, case_lifted, scaled}
use Rattle.root.proofs.RootTests.{small_above}
use Rattle.root.proofs.square_root.small_root.Goals as goal

pub returns-then-x : goal.returns-then-x
returns-then-x c = case_zero _ c.if-x.true

pub returns-then-x-2 : goal.returns-then-x-2
returns-then-x-2 c = case_below _ c.if-x.false c.if-x-2.true

pub apart-requires : goal.apart-requires
apart-requires c = (lifted_normal _ ((small_above _ (search rules) c.requires c.if-x.false c.if-x-2.false)) c.requires, lit≤ tt)

pub returns : goal.returns
returns c =
    let above = small_above _ (search rules) c.requires c.if-x.false c.if-x-2.false in
    case_lifted _ above c.requires c.sure_root.result
    (scaled _ (search rules) (lifted_normal _ above c.requires) 10 c.sure_root.result (rw (c.apart.ensures.0, c.apart.ensures.1) at c.sure_root.ensures))
