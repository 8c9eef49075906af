use mathlib.Core.Path.{ap, ◌∙◌}
use lib.ListN.{length}
use Rattle.inverse.proofs.Insertion.{insert_at_place, as_many_back}
use Rattle.inverse.proofs.ordering.insert.Goals as goal

pub returns-clause-list : goal.returns-clause-list
returns-clause-list c =
    let lent = c.deref_mut.ensures.value in
    let brought = c.bring_last.ensures.at_place c.args.solutions.now.items c.args.j (lent ∙ c.push.ensures.items) in
    as_many_back c.push.new.self.items c.bring_last.new.list (c.bring_last.ensures.count ∙ ap length lent)
    ∙ (rw (brought, c.place_of-place.ensures.place, c.deref.ensures.0) (insert_at_place c.args.solutions.now.items c.args.j))
