use native.Mathlib.Omega.{arith}
use Rattle.turn.proofs.Turned.{given_there}
use Rattle.turn.specs.Turning.{past}
use Rattle.turn.proofs.turning.Unfinished.past.Goals as goal

pub past_given-requires : goal.past_given-requires
past_given-requires c =
    let e = given_there _ _ (rw c.given_next.ensures at c.if-given_next.true) in
    omega arith

pub returns-then-given_next : goal.returns-then-given_next
unfolding past
returns-then-given_next c = rw (c.past_given.ensures, rw c.given_next.ensures at c.if-given_next.true)

pub returns : goal.returns
unfolding past
returns c = rw (c.past_inserted.ensures, rw c.given_next.ensures at c.if-given_next.false)
