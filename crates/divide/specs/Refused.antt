-- A division that gives no path, as a refusal: that of the checks or of a pose, or the cause of the stop, at no place.
use Rattle.refusal.specs.Numbers.{refusal}
use Rattle.refusal.specs.declared.Refusal.{Refusal}
use Rattle.turn.specs.Stops.{cause_of}
use Rattle.divide.specs.declared.DivisionError.{DivisionError}

abbrev pub refusal_of : DivisionError → Refusal
refusal_of (DivisionError.Refused r) = r
refusal_of (DivisionError.AtPose r) = r
refusal_of (DivisionError.Stopped s) = refusal (cause_of s) 0
