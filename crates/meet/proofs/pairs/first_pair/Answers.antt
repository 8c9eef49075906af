use native.Mathlib.Omega.{arith}
use mathlib.Core.Path.{refl, ◌∙◌}
use lib.ListN.{length}
use Rattle.std.proofs.Common.{rules}
use Rattle.std.proofs.lemmas.Iterator.{YieldsList-from_range}
use Rattle.extremes.proofs.FirstSome.{first_mapped}
use Rattle.meet.specs.MeetingSteps.{pair_of}
use Rattle.meet.proofs.Seeking.{pairs_all}
use Rattle.meet.proofs.pairs.first_pair.Goals as goal

pub returns : goal.returns
returns c =
    let l = c.args.balls.now in
    first_mapped _ (λ i. i) (pair_of l) _ (search rules) _ _ c.find_map.ensures.ran c.find_map.ensures.runs (YieldsList-from_range 0 (length l) (length l) refl (omega arith))
    ∙ pairs_all l
