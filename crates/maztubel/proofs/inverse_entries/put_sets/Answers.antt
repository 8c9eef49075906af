use native.Mathlib.Omega.{arith}
use Rattle.maztubel.specs.InverseEntries.{set_numbers}
use Rattle.maztubel.proofs.Sets.{placing_start, placing_step, placing_end}
use Rattle.maztubel.proofs.inverse_entries.put_sets.Goals as goal

pub loop-k-init : goal.loop-k-init
loop-k-init c =
    let f = c.requires.few in
    placing_start (omega (arith, f)) c.requires.room

pub loop-k-preserved : goal.loop-k-preserved
loop-k-preserved c = rw c.put_joints.ensures (placing_step _ c.loop-k-test.true c.loop-k.invariant)

pub returns : goal.returns
unfolding set_numbers
returns c = rw c.clear_from.ensures (placing_end c.requires.few (omega arith) c.loop-k.invariant)
