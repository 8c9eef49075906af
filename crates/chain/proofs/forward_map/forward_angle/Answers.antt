use Rattle.chain.proofs.forward_map.forward_angle.Goals as goal

pub returns-in-Table : goal.returns-in-Table
returns-in-Table c = rw c.in-Table.is

pub returns-in-Head : goal.returns-in-Head
returns-in-Head c = rw c.in-Head.is
