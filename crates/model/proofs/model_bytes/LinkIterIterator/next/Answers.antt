use mathlib.Core.Path.{ap}
use lib.ListN.{length}
use Rattle.std.proofs.Common.{rules}
use Rattle.model.specs.declared.Link.{Link}
use Rattle.model.proofs.Links.{links_none, next}
use Rattle.model.proofs.model_bytes.LinkIterIterator.next.Goals as goal

pub returns-then-self-clause-steps : goal.returns-then-self-clause-steps
returns-then-self-clause-steps c = (links_none _ _ _ c.if-self.true, links_none _ _ _ c.if-self.true)

pub returns-clause-steps : goal.returns-clause-steps
returns-clause-steps c = next _ _ _ _ c.if-self.false c.link_at-link.ensures.0

pub returns-clause-goes : goal.returns-clause-goes
returns-clause-goes c =
    let e = ap (length {A = Link}) (next _ _ _ _ c.if-self.false c.link_at-link.ensures.0) in
    search (rules, e)
