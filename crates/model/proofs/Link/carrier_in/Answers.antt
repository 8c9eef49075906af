use Rattle.model.proofs.Link.carrier_in.Goals as goal

-- named, so that other bounds are refused by the two sides that differ, and not by a search that ends
pub returns : goal.returns
returns c = c.text.ensures
