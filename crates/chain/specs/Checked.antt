-- What a check answers: that it passes, or a refusal.
use Rattle.std.specs.Prelude.{Result, ⊤}
use Rattle.refusal.specs.declared.Refusal.{Refusal}

abbrev pub Checked : Type 0
Checked = Result ⊤ Refusal
