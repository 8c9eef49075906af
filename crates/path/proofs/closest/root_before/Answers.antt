use borrow.Author.Rules.{rules}
use mathlib.Core.Path.{sym}
use Rattle.path.specs.Closest.{root_before}
use Rattle.path.proofs.FarApart.{root_first, root_last}
use Rattle.path.proofs.closest.root_before.Goals as goal

pub returns-then-far_apart : goal.returns-then-far_apart
returns-then-far_apart c =
    sym (root_first c.args.x c.args.y ((search rules)) ((search rules)) (rw c.far_apart.ensures at c.if-far_apart.true))

pub returns-then-far_apart-2 : goal.returns-then-far_apart-2
returns-then-far_apart-2 c =
    sym (root_last c.args.y c.args.x ((search rules)) ((search rules)) (rw c.far_apart-2.ensures at c.if-far_apart-2.true))

pub returns : goal.returns
unfolding root_before
returns c = rw (c.precedes.ensures, c.root-2.ensures, c.root.ensures)
