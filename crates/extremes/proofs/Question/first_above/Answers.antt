use Prim.Native.Nat.{◌/◌}
use native.Mathlib.Omega.{arith}
use mathlib.Core.Path.{refl, ◌∙◌}
use lib.ListN.{length}
use Rattle.std.proofs.Common.{rules}
use Rattle.std.proofs.lemmas.Iterator.{YieldsList-from_range}
use Rattle.extremes.specs.Summary.{group_count}
use Rattle.extremes.specs.AskingSteps.{found_in_group}
use Rattle.extremes.proofs.FirstSome.{first_mapped}
use Rattle.extremes.proofs.Searching.{groups_left, groups_start}
use Rattle.extremes.proofs.Question.first_above.Goals as goal

pub returns : goal.returns
returns c =
    let q = c.args.self in
    let n = length c.args.path.now.joints.now / 5 in
    let e = c.group_count.ensures in
    first_mapped _ (λ g. g) (found_in_group q.rotary q.angle c.args.path.now.summary.now c.args.path.now.joints.now n) _ (search rules) _ _ c.find_map.ensures.ran c.find_map.ensures.runs
    (YieldsList-from_range 0 c.group_count.result (group_count n) refl (omega (arith, e)))
    ∙ groups_left q.rotary q.angle c.args.path.now.summary.now c.args.path.now.joints.now n (group_count n) 0 (omega arith) groups_start
