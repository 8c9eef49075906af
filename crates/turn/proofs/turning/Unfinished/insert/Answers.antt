use borrow.Author.Tests.{eq-eqb, ne_eqb}
use Rattle.turn.specs.Turning.{inserting, if_inserted, before}
use Rattle.turn.proofs.Lent.{left_alone}
use Rattle.turn.proofs.turning.Unfinished.insert.Goals as goal

pub returns-then-m-eq-MOST : goal.returns-then-m-eq-MOST
unfolding inserting if_inserted before
returns-then-m-eq-MOST c = let e = eq-eqb _ _ c.if-m-eq-MOST.true in record { turn = rw e; lent = rw e (left_alone _) }

pub returns-then-m : goal.returns-then-m
unfolding inserting if_inserted before
returns-then-m c =
    let e = ne_eqb _ _ c.if-m-eq-MOST.false in
    let f = eq-eqb _ _ c.if-m.true in record { turn = rw (e, f); lent = rw (e, f) (left_alone _) }

pub returns : goal.returns
unfolding inserting if_inserted before
returns c =
    let e = ne_eqb _ _ c.if-m-eq-MOST.false in
    let f = ne_eqb _ _ c.if-m.false in record { turn = rw (c.with_midpoint.ensures, e, f); lent = rw (e, f) c.put.ensures }
