-- `trig::bearing::level` meets its contract. Assumes nothing.
use Rattle.std.proofs.Common.{sym, ◌∙◌}
use Rattle.trig.proofs.Choices.{pick, drop}
use Rattle.trig.proofs.DirectionLaws.{no_nan, sign_is, pi_signed}
use Rattle.trig.specs.Arctangent.{level_float}
use Rattle.trig.proofs.bearing.level.Goals as goal

pub is_sign_negative-requires : goal.is_sign_negative-requires
is_sign_negative-requires c = no_nan c.args.x c.requires.x_finite

pub copysign-requires : goal.copysign-requires
copysign-requires c = no_nan c.args.y c.requires.y_finite

pub returns-then-is_sign_negative : goal.returns-then-is_sign_negative
unfolding level_float
returns-then-is_sign_negative c =
    c.copysign.ensures ∙ pi_signed c.args.y
    ∙ pick _ _ _ (sym (c.is_sign_negative.ensures ∙ sign_is c.args.x) ∙ c.if-is_sign_negative.true)

pub returns-else-is_sign_negative : goal.returns-else-is_sign_negative
unfolding level_float
returns-else-is_sign_negative c = drop _ _ _ (sym (c.is_sign_negative.ensures ∙ sign_is c.args.x) ∙ c.if-is_sign_negative.false)
