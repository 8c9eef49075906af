use Rattle.std.proofs.Common.{arith, ◌<◌, ◌≡◌, length}
use lib.Ieee.{nan}
use Rattle.lists.proofs.Padding.{clearing_start, clearing_step, clearing_kept}
use Rattle.cell.proofs.clearing.clear_numbers.Goals.{then-not-is_nought, else-not-is_nought}
use Rattle.cell.proofs.clearing.clear_numbers.Goals as goal

pub loop-i-init : goal.loop-i-init
loop-i-init c = clearing_start c.requires

pub loop-i-preserved : goal.loop-i-preserved
loop-i-preserved c =
    let within : c.loop-i.i < length c.loop-i.numbers = omega (arith, c.loop-i-test.true, c.loop-i.auto.numbers) in
    elim c.if-not-is_nought.branch [
      | then-not-is_nought w ↦ rw w.numbers-is (clearing_step within c.loop-i.invariant)
      | else-not-is_nought w ↦ rw w.numbers-is (clearing_kept nan within (c.is_nought.ensures w.if-not-is_nought.false) c.loop-i.invariant)
    ]
