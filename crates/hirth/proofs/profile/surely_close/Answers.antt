use Rattle.std.proofs.Common.{rules}
use Rattle.lists.proofs.Tests.{is}
use Rattle.hirth.proofs.SmallAngle.{surely_close}
use Rattle.hirth.proofs.profile.surely_close.Goals as goal

pub returns : goal.returns
returns c =
    λ h. surely_close _ _ _ _ _ (search rules) (is c.unit_direction.ensures c.in-Some.is) (is c.unit_direction-2.ensures c.in-Some-unit_direction.is)
    (rw (c.surely_within.ensures, c.dot-square.ensures, c.cross-across.ensures, c.clamp_unit-cosine.ensures, c.dot.ensures) at h)
