use Rattle.std.proofs.Common.{◌≡◌, Err, rules, refl}
use Rattle.divide.specs.declared.DivisionError.{DivisionError}
use Rattle.divide.specs.Refused.{refusal_of}
use Rattle.refusal.specs.Numbers.{number_of}
use Rattle.maztubel.specs.DivideEntries.{division_number, division_place, division_letter}
use Rattle.maztubel.proofs.divide_entries.refusal_in.Goals as goal

-- what is told of each kind of error
told : (e : DivisionError) → (number_of (refusal_of e).cause ≡ division_number (Err e)) × (((refusal_of e).at ≡ division_place (Err e)) × ((refusal_of e).letter ≡ division_letter (Err e)))
told (DivisionError.Refused r) = (refl, (refl, refl))
told (DivisionError.AtPose r) = (refl, (refl, refl))
told (DivisionError.Stopped s) = (refl, (refl, refl))

pub returns-in_err-said : goal.returns-in_err-said
returns-in_err-said c =
    let e : c.from_residual.result ≡ Err (refusal_of c.in_err-said.field-0.0) = search rules in
    let all = told c.in_err-said.field-0.0 in
    rw (e, c.in_err-said.was) (record { number = all.0; place = all.1.0; named = all.1.1 })

pub returns : goal.returns
returns c = rw c.in_ok-said.was (record { number = refl; place = refl; named = refl })
