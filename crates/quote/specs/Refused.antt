-- A quotation that has no figures, as a refusal: that of the checks, or the cause of the stop, at no place.
use Rattle.refusal.specs.Numbers.{refusal}
use Rattle.refusal.specs.declared.Refusal.{Refusal}
use Rattle.turn.specs.Stops.{cause_of}
use Rattle.quote.specs.declared.QuoteError.{QuoteError}

abbrev pub refusal_of : QuoteError → Refusal
refusal_of (QuoteError.Refused r) = r
refusal_of (QuoteError.Stopped s) = refusal (cause_of s) 0
