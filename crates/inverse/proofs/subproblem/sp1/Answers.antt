use Rattle.inverse.specs.Subproblem.{sp1}
use Rattle.inverse.proofs.subproblem.sp1.Goals as goal

pub returns-then-size : goal.returns-then-size
unfolding sp1
returns-then-size c = rw (simp (c.size.ensures, c.dot-along_v.ensures, c.dot-along_u.ensures) at c.if-size.true)

pub returns : goal.returns
unfolding sp1
returns c =
    rw (
      c.between_parts.ensures,
      c.square_part-2.ensures,
      c.square_part.ensures,
      c.dot-along_v.ensures,
      c.dot-along_u.ensures,
      simp (c.size.ensures, c.dot-along_v.ensures, c.dot-along_u.ensures) at c.if-size.false,
    )
