use Rattle.post.proofs.Shown.{told_path}
use Rattle.post.proofs.answering.tell.Goals as goal

pub returns : goal.returns
returns c = let all = told_path c.args.ended _ c.args.path.now c.args.text.now _ _ c.well_formed.0 c.requires.0 c.requires.1 (rw c.answer_text.ensures.told at c.unwrap_or.ensures) c.answer_text.ensures.lent in record { end = all.0; text = all.1 }
