use native.Mathlib.Omega.{arith}
use mathlib.Core.Path.{ap}
use lib.ListN.{length}
use Rattle.std.proofs.Common.{inl}
use Rattle.model.specs.declared.Link.{Link}
use Rattle.model.proofs.Links.{links_few}
use Rattle.model.proofs.model_bytes.count_links.Goals as goal

pub count-requires-clause-fits : goal.count-requires-clause-fits
count-requires-clause-fits c =
    let few = links_few c.args.bytes.now in
    let e = ap (length {A = Link}) c.links_in.ensures in
    inl (omega (arith, few, e))
