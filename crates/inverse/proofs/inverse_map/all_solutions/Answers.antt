use mathlib.Core.Path.{sym, ap, ◌∙◌}
use lib.ListN.{length}
use native.Mathlib.Omega.{arith}
use Rattle.arrayvec.specs.ArrayVec.{ArrayVec}
use Rattle.chain.specs.declared.Joints.{Joints}
use Rattle.lists.proofs.Fold.{folding_start, folding_step}
use Rattle.lists.proofs.Library.{folding_all}
use Rattle.inverse.proofs.Taking.{taken_all, taken_some, taken_none}
use Rattle.inverse.proofs.inverse_map.all_solutions.Goals as goal
use Rattle.inverse.proofs.inverse_map.all_solutions.Goals.{in-Some, in_default}

pub loop-angles-init : goal.loop-angles-init
loop-angles-init c = record { count = omega (arith, ap length c.requires); list = rw c.requires (folding_start (omega arith)) }

pub loop-angles-preserved : goal.loop-angles-preserved
loop-angles-preserved c =
    elim c.match-reached_at.branch [
      | in-Some w ↦ record {
        count = rw (w.solutions-is, w.insert.ensures.count) (omega arith);
        list = folding_step _ (omega (arith, ap length c.deref-angles-items.ensures.0)) c.loop-angles.invariant.list (ap (λ (s : ArrayVec Joints). s.items) w.solutions-is ∙ w.insert.ensures.list ∙ taken_some _ _ _ _ _ _ _ (sym (rw c.deref-angles-items.ensures.0 at c.reached_at.ensures) ∙ w.in-Some.is));
      }
      | in_default w ↦ record {
        count = rw w.solutions-is (omega arith);
        list = folding_step _ (omega (arith, ap length c.deref-angles-items.ensures.0)) c.loop-angles.invariant.list (ap (λ (s : ArrayVec Joints). s.items) w.solutions-is ∙ taken_none _ _ _ _ _ _ (sym (rw c.deref-angles-items.ensures.0 at c.reached_at.ensures) ∙ w.in_default.is));
      }
    ]

pub returns : goal.returns
returns c = record {
  list = folding_all (omega (arith, ap length c.deref-angles-items.ensures.0)) c.loop-angles.invariant.list ∙ taken_all _ _ _ _ _;
  count = omega (arith, c.loop-angles.invariant.count, c.loop-angles.auto.angles-index-end, c.deref-angles-items.ensures.1);
}
