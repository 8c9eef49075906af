use mathlib.Core.Path.{◌≡◌}
use mathlib.Core.List.{map}
use Rattle.chain.specs.Check.{first_refusal}
use Rattle.model.specs.Model.{link_fields, links, links_of}
use Rattle.model.proofs.model_bytes.read_model.Given as goal

abbrev pub invariant-loop-link : goal.invariant-loop-link
invariant-loop-link l =
    first_refusal (map (link_fields l.bytes) (links_of l.bytes))
    ≡ first_refusal (map (link_fields l.bytes) (links l.link-iterator.bytes.now l.link-iterator.at l.link-iterator.to))
