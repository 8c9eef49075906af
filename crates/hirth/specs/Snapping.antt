-- The nearest half degree: a half away from zero, a zero as +0.0. `NearestTooth` says in whole numbers what that is,
-- and proofs/HalfDegree.antt that `snapped` is it.
use Rattle.std.specs.Prelude.{ℕ, zero, suc, ◌+◌, ◌*◌, ◌<◌, ◌≤◌, Bool, false, from_bits, Float}
use Rattle.std.specs.Float.{binary64}
use Rattle.std.specs.Float.Ieee.{add, mul}
use Rattle.std.specs.Float.Ieee.Positive.{num as top, den as bot}
use Rattle.std.specs.Float.Ieee.Exact.{HasValue}
use Rattle.float.specs.Helpers.{nought, negative, round_half_away}
use Rattle.chain.specs.declared.Joints.{Joints}
use Rattle.inverse.specs.declared.Angles.{Angles}

abbrev pub two : Float
two = from_bits binary64 0x4000_0000_0000_0000

abbrev pub half : Float
half = from_bits binary64 0x3fe0_0000_0000_0000

unfoldable pub snapped : Float → Float
snapped angle = add binary64 (mul binary64 (round_half_away (mul binary64 angle two)) half) nought

unfoldable pub snapped_angles : Joints → Angles
snapped_angles j = record { a0 = snapped j.a0; a1 = snapped j.a1 }

-- ---- what that is
-- the sign of h half degrees beside an angle with the sign s: zero has none
abbrev pub sign_at : Bool → ℕ → Bool
sign_at s zero = false
sign_at s (suc h) = s

-- t is h half degrees, with the sign of a, for the whole number h nearest to twice the size of a: h - 1/2 ≤ 2 |a| <
-- h + 1/2, so that a half goes away from zero. Of no half degree t is +0.0
pub record NearestTooth (a t : Float) : Type 0 where
  pub h : ℕ
  pub value : HasValue t (sign_at (negative a) h) h 2
  pub low : 2 * h * bot a ≤ 4 * top a + bot a
  pub high : 4 * top a + bot a < 2 * (h + 1) * bot a
