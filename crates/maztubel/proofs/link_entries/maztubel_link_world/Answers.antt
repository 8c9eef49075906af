use mathlib.Core.Path.{◌≡◌, ◌∙◌}
use lib.ListN.{length}
use Rattle.std.proofs.Common.{rules}
use Rattle.model.specs.Frame.{link_world}
use Rattle.maztubel.specs.LinkEntries.{link_of}
use Rattle.maztubel.proofs.Asking.{asked_alike}
use Rattle.maztubel.proofs.link_entries.maztubel_link_world.Goals as goal

pub returns : goal.returns
returns c =
    let a = c.args in
    let e : c.link_of-answer.result ≡ link_of link_world a.name.now a.chain.now a.model.now a.joints.now a.carrier.now (length a.frame.now) =
    c.link_of-answer.ensures (λ k j. link_world a.name.now k a.model.now j a.carrier.now) (λ k j p h. search rules)
    ∙ asked_alike link_world a.name.now a.model.now a.carrier.now a.chain.now a.joints.now (length a.frame.now) in
    record {
      number = rw (c.hand_back.ensures.number, e);
      place = rw (c.hand_back.ensures.place, e);
      named = rw (c.hand_back.ensures.named, e);
      lent = rw (c.put_frame.ensures, e);
    }
