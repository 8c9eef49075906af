use Prim.Native.Nat.{◌*◌, ◌/◌}
use native.Mathlib.Omega.{arith}
use mathlib.Core.Path.{◌≡◌}
use Rattle.lists.proofs.Tests.{is}
use Rattle.extremes.specs.AskingSteps.{in_group}
use Rattle.extremes.proofs.Groups.{group_end_is, starts_before}
use Rattle.extremes.proofs.Searching.{among_none}
use Rattle.extremes.proofs.Question.in_group.Goals as goal

pub group_end-requires : goal.group_end-requires
group_end-requires c = let p = starts_before _ _ c.requires in omega (arith, p)

pub first_in-requires : goal.first_in-requires
first_in-requires c =
    let p = group_end_is _ _ (starts_before _ _ c.requires) in
    let e = c.group_end.ensures in
    (omega (arith, p, e), omega (arith, p, e))

pub returns-then-opened : goal.returns-then-opened
unfolding in_group
returns-then-opened c =
    let s : c.args.g * 64 / 64 ≡ c.args.g = omega arith in
    rw (s, is c.opened.ensures c.if-opened.true, ← c.group_end.ensures) c.first_in.ensures

pub returns : goal.returns
unfolding in_group
returns c =
    let s : c.args.g * 64 / 64 ≡ c.args.g = omega arith in
    rw (s, is c.opened.ensures c.if-opened.false) (among_none (omega arith))
