use Rattle.std.proofs.Common.{◌≡◌, rules, ◌∙◌, List, Float}
use Rattle.std.specs.List.{list_all}
use Rattle.std.proofs.lemmas.Iterator.{YieldsList-from_slice}
use Rattle.std.proofs.lemmas.Iterator.Search.{all_from_yields_List}
use Rattle.path.specs.Solving.{pose_from, pose_in, poses_in}
use Rattle.divide.specs.Checking.{tip_within}
use Rattle.divide.proofs.Chunks.{tips_of}
use Rattle.divide.proofs.checking.tips_within.Goals as goal

pub returns : goal.returns
unfolding poses_in pose_in tip_within
returns c =
    let e : c.all.result ≡ list_all (λ (l : List Float). tip_within (pose_from l)) c.as_chunks.result.0.now =
    all_from_yields_List (λ (l : List Float). tip_within (pose_from l)) c.all.new.self _ _ c.all.ensures.ran (YieldsList-from_slice c.as_chunks.result.0.now c.iter.ensures.rest) (search rules) in
    e ∙ rw c.as_chunks.ensures.front (tips_of _ _)
