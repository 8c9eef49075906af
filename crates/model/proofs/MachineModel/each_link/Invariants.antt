use mathlib.Core.Path.{◌≡◌}
use lib.ListN.{length}
use Rattle.chain.specs.Check.{first_refusal}
use Rattle.model.specs.Model.{links, links_of}
use Rattle.model.specs.ModelCheck.{link_checks}
use Rattle.model.proofs.Links.{NamesBelow}
use Rattle.model.proofs.MachineModel.each_link.Given as goal

abbrev pub invariant-loop-index : goal.invariant-loop-index
invariant-loop-index l =
    let it = l.index-iterator.iter in
    record {
      within : NamesBelow (length l.self.bytes.now) (links it.bytes.now it.at it.to);
      rest :
          first_refusal (link_checks l.self.chain l.self.bytes.now 0 (links_of l.self.bytes.now))
          ≡ first_refusal (link_checks l.self.chain l.self.bytes.now l.index-iterator.count (links it.bytes.now it.at it.to));
    }
