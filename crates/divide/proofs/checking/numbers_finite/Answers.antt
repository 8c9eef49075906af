use Rattle.std.proofs.Common.{◌≡◌, rules, ◌∙◌, sym}
use Rattle.std.specs.Float.Ieee.Scale.{finite}
use Rattle.std.specs.List.{list_all}
use Rattle.std.proofs.lemmas.Iterator.{YieldsList-from_slice}
use Rattle.std.proofs.lemmas.Iterator.Search.{all_from_yields_List}
use Rattle.lists.proofs.Library.{all_is}
use Rattle.divide.proofs.checking.numbers_finite.Goals as goal

pub returns-clause-finite : goal.returns-clause-finite
returns-clause-finite c =
    let e : c.all.result ≡ list_all finite c.args.numbers.now =
    all_from_yields_List finite c.all.new.self _ _ c.all.ensures.ran (YieldsList-from_slice c.args.numbers.now c.iter.ensures.rest) (search rules) in
    e ∙ sym (all_is finite _)
