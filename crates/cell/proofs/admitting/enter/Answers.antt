use Rattle.turn.proofs.Space.{space_so}
use Rattle.cell.specs.Admitting.{first_entry}
use Rattle.cell.proofs.admitting.enter.Goals as goal

pub place-requires : goal.place-requires
place-requires c =
    let s = space_so c.space_in-space.ensures in
    (c.requires.0, c.requires.1, rw c.space_in-space.ensures c.requires.2, s.0, s.1)

pub returns-clause-entry : goal.returns-clause-entry
unfolding first_entry
returns-clause-entry c = rw (c.machine_on-machine.ensures, c.prepare-chain.ensures, c.space_in-space.ensures, c.place.auto.poses, c.place.auto.joints)
