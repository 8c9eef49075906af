use Rattle.std.proofs.Common.{◌∙◌}
use Rattle.job.proofs.Chunks.{chunk_set}
use Rattle.job.proofs.Lines.{lining_start, lining_room, lining_step, lining_end}
use Rattle.job.proofs.spelling.Page.put_lines.Goals as goal

pub loop-i-init : goal.loop-i-init
loop-i-init c = lining_start c.requires

pub put_line-requires : goal.put_line-requires
put_line-requires c =
    let h = rw c.as_chunks.ensures.front_len at c.loop-i-test.true in
    rw (rw c.as_chunks.ensures.front at c.joints_in.ensures ∙ chunk_set _ _ _ _ h) (lining_room h c.loop-i.invariant)

pub loop-i-preserved : goal.loop-i-preserved
loop-i-preserved c =
    let h = rw c.as_chunks.ensures.front_len at c.loop-i-test.true in
    lining_step h c.loop-i.invariant (rw (rw c.as_chunks.ensures.front at c.joints_in.ensures ∙ chunk_set _ _ _ _ h) at c.put_line.ensures)

pub returns : goal.returns
returns c = lining_end (rw c.as_chunks.ensures.front_len at c.loop-i-test.false) c.loop-i.invariant
