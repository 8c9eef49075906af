use native.Mathlib.Omega.{arith}
use mathlib.Core.Path.{subst}
use Rattle.quote.specs.declared.Place.{Place}
use Rattle.quote.specs.QuotationSteps.{PosesKept}
use Rattle.quote.proofs.Costs.{cost_low}
use Rattle.quote.proofs.Steps.{divided_counts, divided_kept, stepped_keep, stepped_divide}
use Rattle.quote.proofs.Kept.{keeps_place}
use Rattle.quote.proofs.Poses.{kept_past, kept_inserted}
use Rattle.quote.proofs.stepping.QuotedPath.advance.Goals as goal

pub move_on-requires : goal.move_on-requires
move_on-requires c = let low = cost_low _ _ _ c.cost-tested.ensures in (c.requires.0, (c.requires.1.0, (low, c.requires.1.1)))

pub returns-in_default : goal.returns-in_default
returns-in_default c =
    let p = c.args.self.now.p in
    let g = c.args.self.now.given in
    let m = c.args.m.now in
    let all = stepped_keep p c.args.self.now.tol g.count m g.poses.now g.joints.now c.args.stack.now c.requires.1.0 c.cost-tested.ensures c.verdict_with-said.ensures c.in_default.is c.move_on.ensures in
    let kept = kept_past p m.place m.right c.cost-tested.result c.args.stack.now c.args.tips.now c.requires.1.1 in
    record {
      step = all.0;
      stack = all.1;
      kept = subst (λ (s : Place). PosesKept p s.top c.args.stack.now c.args.tips.now) (keeps_place p g.count g.poses.now g.joints.now c.args.stack.now c.move_on.ensures) kept;
    }

pub insert-requires : goal.insert-requires
insert-requires c =
    let low = cost_low _ _ _ (divided_counts _ _ _ _ _ _ c.verdict_with-said.ensures c.in-Some.is c.per_test.ensures) in
    let r = c.requires.0.0 in
    ((r.1.0.0, r.1.0.1), ((r.1.1, low), r.0.0))

pub returns : goal.returns
returns c =
    let p = c.args.self.now.p in
    let g = c.args.self.now.given in
    let m = c.args.m.now in
    let r = c.requires.0.0 in
    let counts = divided_counts _ _ _ _ _ _ c.verdict_with-said.ensures c.in-Some.is c.per_test.ensures in
    let all = stepped_divide p c.args.self.now.tol g.count m g.poses.now g.joints.now c.args.stack.now c.requires.1.0 counts c.verdict_with-said.ensures r.1.0.0 r.1.0.1 r.0.0 (omega arith) c.in-Some.is c.insert.ensures.step c.insert.ensures.stack in
    let arrives = divided_kept p c.args.self.now.tol g.count m g.poses.now g.joints.now c.args.stack.now c.requires.1.0 counts c.verdict_with-said.ensures c.in-Some.is in
    record {
      step = all.0;
      stack = all.1;
      kept = kept_inserted p m _ _ c.args.stack.now c.args.tips.now c.requires.1.1 arrives r.1.0.0 r.1.0.1 r.0.0 (omega arith) (omega arith) c.insert.ensures.step c.insert.ensures.stack c.insert.ensures.tips;
    }
