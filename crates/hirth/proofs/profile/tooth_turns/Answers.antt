use Rattle.hirth.specs.Turning.{tooth_turn}
use Rattle.hirth.specs.Profile.{tooth_turns}
use Rattle.hirth.proofs.profile.tooth_turns.Goals as goal

pub returns : goal.returns
unfolding tooth_turns
returns c = c.turns_by.ensures tooth_turn (λ x r h. h)
