use native.Mathlib.Omega.{arith}
use Rattle.probe.proofs.Laws.{front_long, rooting_start, rooting_step, rooting_end}
use Rattle.probe.proofs.probe_roots.Goals as goal

pub loop-i-init : goal.loop-i-init
loop-i-init c = rooting_start _ _ c.min-n.ensures

pub loop-i-preserved : goal.loop-i-preserved
loop-i-preserved c =
    let n = front_long c.args.xs.now c.args.answers.now c.min-n.ensures in
    rooting_step _ (omega arith) c.loop-i.invariant c.root.ensures

pub returns : goal.returns
returns c =
    let n = front_long c.args.xs.now c.args.answers.now c.min-n.ensures in
    rooting_end _ _ c.min-n.ensures (omega arith) c.loop-i.invariant
