use borrow.Author.Tests.{eq-eqb, ne_eqb}
use Rattle.quote.specs.QuotationSteps.{inserting, if_inserted, if_kept, with_middle}
use Rattle.quote.proofs.Quoter.insert.Goals as goal

pub returns-then-self-eq-MOST : goal.returns-then-self-eq-MOST
unfolding inserting if_inserted if_kept
returns-then-self-eq-MOST c = let full = eq-eqb _ _ c.if-self-eq-MOST.true in record { step = rw full; stack = rw full; tips = rw full }

pub returns : goal.returns
unfolding inserting if_inserted if_kept with_middle
returns c =
    let left = ne_eqb _ _ c.if-self-eq-MOST.false in
    record { step = rw (c.with_midpoint.ensures, left); stack = rw (c.put_joints.ensures, left); tips = rw (c.keep_pose.ensures, left) }
