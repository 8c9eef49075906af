use Rattle.std.proofs.Common.{arith, ◌<◌, ◌≡◌, length}
use Rattle.lists.proofs.Padding.{clearing_start, clearing_step, clearing_kept}
use Rattle.cell.proofs.clearing.clear_words.Goals.{then-words-i-ne0, else-words-i-ne0}
use Rattle.cell.proofs.clearing.clear_words.Goals as goal

pub loop-i-init : goal.loop-i-init
loop-i-init c = clearing_start c.requires

pub loop-i-preserved : goal.loop-i-preserved
loop-i-preserved c =
    let within : c.loop-i.i < length c.loop-i.words = omega (arith, c.loop-i-test.true, c.loop-i.auto.words) in
    elim c.if-words-i-ne0.branch [
      | then-words-i-ne0 w ↦ rw w.words-is (clearing_step within c.loop-i.invariant)
      | else-words-i-ne0 w ↦ rw w.words-is (clearing_kept 0 within w.if-words-i-ne0.false c.loop-i.invariant)
    ]
