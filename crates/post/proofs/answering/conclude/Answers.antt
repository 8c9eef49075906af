use Rattle.post.proofs.answering.conclude.Goals as goal

pub returns : goal.returns
returns c = record { end = rw c.ended_by-ended.ensures at c.tell.ensures.end; text = rw c.ended_by-ended.ensures at c.tell.ensures.text }
