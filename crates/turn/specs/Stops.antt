-- Why a division ends before its time, as document 01's cause, and how many were inserted before.
use Rattle.std.specs.Prelude.{ℕ}
use Rattle.refusal.specs.declared.Cause.{Cause}
use Rattle.turn.specs.declared.Stop.{Stop}

abbrev pub cause_of : Stop → Cause
cause_of (Stop.TooMany n) = Cause.TooManyInsertions
cause_of (Stop.NoSpace n) = Cause.NoSpace

abbrev pub inserted_before : Stop → ℕ
inserted_before (Stop.TooMany n) = n
inserted_before (Stop.NoSpace n) = n
