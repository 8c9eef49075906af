use mathlib.Core.Path.{◌≡◌, ◌∙◌}
use mathlib.Core.Bool.{Bool}
use Rattle.std.proofs.Common.{rules}
use Rattle.std.specs.List.{list_all}
use Rattle.std.proofs.lemmas.Iterator.Consumers.{YieldsList-from_first}
use Rattle.std.proofs.lemmas.Iterator.Search.{all_from_yields_List}
use Rattle.model.specs.declared.Link.{Link}
use Rattle.model.specs.Model.{links_of}
use Rattle.model.proofs.Links.{left, all_is}
use Rattle.meet.specs.Checking.{small_link}
use Rattle.meet.proofs.checking.solids_within.Goals as goal

pub returns : goal.returns
unfolding small_link
returns c =
    let test : Link → Bool = small_link c.args.bytes.now in
    let e : c.all.result ≡ list_all test (links_of c.args.bytes.now) =
    all_from_yields_List test c.all.new.self _ _ c.all.ensures.ran
    (YieldsList-from_first (λ (x : Link). x) left (links_of c.args.bytes.now) c.links_in.ensures)
    (search rules)
    in
    e ∙ all_is test _
