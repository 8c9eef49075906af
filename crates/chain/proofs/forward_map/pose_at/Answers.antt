use Rattle.chain.proofs.forward_map.pose_at.Goals as goal

-- named, so that other angles are refused by the two sides that differ, and not by a search that ends
pub returns : goal.returns
returns c = rw (c.forward_core.ensures, c.turns_of.ensures)
