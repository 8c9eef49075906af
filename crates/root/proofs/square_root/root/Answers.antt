use Rattle.root.proofs.RootCases.{normal_of, case_normal}
use Rattle.root.proofs.RootTests.{normal_above, nothing_smaller}
use Rattle.std.proofs.Common.{rules}
use Rattle.root.proofs.square_root.root.Goals as goal

pub normal_root-requires : goal.normal_root-requires
normal_root-requires c = normal_of _ ((normal_above _ (search rules) c.if-x.false c.if-x-2.true)) c.if-x.false

pub returns-then-x-2 : goal.returns-then-x-2
returns-then-x-2 c = case_normal _ ((normal_above _ (search rules) c.if-x.false c.if-x-2.true)) c.normal_root.result c.normal_root.ensures

pub returns : goal.returns
returns c = nothing_smaller _ c.if-x.false c.if-x-2.false
