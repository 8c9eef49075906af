use Rattle.std.proofs.Common.{◌≡◌, rules, ◌∙◌, List, Float}
use Rattle.std.specs.List.{list_all}
use Rattle.std.proofs.lemmas.Iterator.{YieldsList-from_slice}
use Rattle.std.proofs.lemmas.Iterator.Search.{all_from_yields_List}
use Rattle.turn.specs.Items.{joints_from, joints_in}
use Rattle.turn.proofs.Chunks.{sets_of}
use Rattle.turn.proofs.items.every_set.Goals as goal

pub returns : goal.returns
unfolding joints_in
returns g c = λ t f.
    let e : c.all.result ≡ list_all (λ (l : List Float). t (joints_from l)) c.as_chunks.result.0.now =
    all_from_yields_List (λ (l : List Float). t (joints_from l)) c.all.new.self _ _ c.all.ensures.ran (YieldsList-from_slice c.as_chunks.result.0.now c.iter.ensures.rest) (search (rules, f)) in
    e ∙ rw c.as_chunks.ensures.front (sets_of t _ c.args.joints.now)
