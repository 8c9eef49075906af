use mathlib.Core.Path.{◌≡◌}
use mathlib.Core.Bool.{true, false}
use Rattle.std.proofs.Common.{rules}
use Rattle.std.proofs.lemmas.Iterator.{first_from_Range}
use Rattle.extremes.specs.Asking.{above_at}
use Rattle.extremes.proofs.Searching.{found_in}
use Rattle.extremes.proofs.Question.first_in.Goals as goal

pub returns : goal.returns
returns c =
    let q = c.args.self in
    let test = above_at q.rotary q.angle c.args.joints.now in
    found_in test _ c.requires.0
    (first_from_Range _ c.find.new.self _ _ (λ k. true ≡ test k) (λ k. false ≡ test k) c.find.ensures.ran (search rules) (search rules))
