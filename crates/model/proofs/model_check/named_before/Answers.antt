use mathlib.Core.Path.{◌≡◌, ◌∙◌}
use mathlib.Core.Bool.{Bool}
use Rattle.std.proofs.Common.{rules}
use Rattle.std.specs.List.{list_any}
use Rattle.std.proofs.lemmas.Iterator.Consumers.{YieldsList-from_first}
use Rattle.std.proofs.lemmas.Iterator.Search.{any_from_yields_List}
use Rattle.model.specs.declared.Link.{Link}
use Rattle.model.specs.declared.LinkIter.{LinkIter}
use Rattle.model.specs.Model.{links}
use Rattle.model.specs.ModelCheck as S
use Rattle.model.specs.ModelCheck.{named_before}
use Rattle.model.proofs.Links.{any_is}
use Rattle.model.proofs.model_check.named_before.Goals as goal

pub returns : goal.returns
unfolding named_before
returns c =
    let test : Link → Bool = λ earlier. S.same_name c.args.bytes.now earlier c.args.link in
    let e : c.any.result ≡ list_any test (links c.args.bytes.now 0 c.args.link.name) =
    any_from_yields_List test c.any.new.self _ _ c.any.ensures.ran
    (YieldsList-from_first (λ (x : Link). x) (λ (s : LinkIter). links s.bytes.now s.at s.to) (links c.args.bytes.now 0 c.args.link.name) c.links_before.ensures)
    (search rules)
    in e ∙ any_is test _
