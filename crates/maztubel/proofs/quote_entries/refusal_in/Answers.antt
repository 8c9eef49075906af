use Rattle.std.proofs.Common.{◌≡◌, Err, rules, refl}
use Rattle.quote.specs.declared.QuoteError.{QuoteError}
use Rattle.quote.specs.Refused.{refusal_of}
use Rattle.maztubel.specs.QuoteEntries.{refusal_in}
use Rattle.maztubel.proofs.quote_entries.refusal_in.Goals as goal

-- what is told of each kind of error
told : (e : QuoteError) → Err (refusal_of e) ≡ refusal_in (Err e)
told (QuoteError.Refused r) = refl
told (QuoteError.Stopped s) = refl

pub returns-in_err-answer : goal.returns-in_err-answer
returns-in_err-answer c =
    let e : c.from_residual.result ≡ Err (refusal_of c.in_err-answer.field-0.0) = search rules in
    rw (e, c.in_err-answer.was) (told c.in_err-answer.field-0.0)

pub returns : goal.returns
returns c = rw c.in_ok-answer.was
