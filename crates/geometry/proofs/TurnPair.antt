-- The pair of every turn, for every float: both at most 1 + 2 ^ -50 in size, and one of them at least 0.6
-- (`turn_pair`). A law that leans on a turn leans on this alone.
use mathlib.Core.Path.{◌≡◌}
use mathlib.Core.Bool.{false≢true}
use mathlib.Core.Logic.{◌⊎◌, inl, inr}
use Prim.Native.Nat.{ℕ, ◌+◌, ◌*◌, ◌^◌, ◌≤◌}
use native.Mathlib.Nat.{mul-le-mul_right, le_of_mul-le-mul_right}
use native.Mathlib.Omega.{arith}
use lib.Dec.{T}
use lib.Ieee.{Float, nan, inf, fin, binary64, up, down, fits}
use lib.Ieee.Bits.{of_bits-fits}
use lib.Ieee.Fits.{down_pos}
use Rattle.std.specs.Prelude.{None, Option, Some}
use Rattle.float.specs.Units.{U}
use Rattle.float.specs.Helpers.{nought, one}
use Rattle.float.proofs.Units.{Held, held}
use Rattle.trig.specs.declared.Pair.{Pair}
use Rattle.trig.specs.DegreeSteps.{degree_pair}
use Rattle.trig.proofs.DegreeSizes.{Tidy, TidyPair, pair_tidy, nought_tidy, one_tidy}
use Rattle.trig.proofs.DegreeWide.{Wide, WidePair, pair_wide, one_wide}
use Rattle.geometry.specs.declared.Turn.{Turn}
use Rattle.geometry.specs.Turn.{still, turned, turn_of}

pub record TurnSized (t : Turn) : Type 0 where
  pub sine : Held t.sine
  pub cosine : Held t.cosine
  pub sine_most : 2 ^ 50 * sine.v ≤ (2 ^ 50 + 1) * U
  pub cosine_most : 2 ^ 50 * cosine.v ≤ (2 ^ 50 + 1) * U
  pub wide : (3 * U ≤ 5 * sine.v) ⊎ (3 * U ≤ 5 * cosine.v)

-- ---- from a float to its units
record Sizes (y : Float) : Type 0 where
  units : Held y
  most : 2 ^ 50 * units.v ≤ (2 ^ 50 + 1) * U
  wide : Wide y → 3 * U ≤ 5 * units.v

sizes : (y : Float) → T (fits binary64 y) → Tidy y → Sizes y
sizes nan f h = absurd (false≢true h.0)
sizes (inf s) f h = absurd (false≢true h.0)
sizes (fin s m e) f h =
    let k = held (fin s m e) f tt in
    record {
      units = k;
      most = le_of_mul-le-mul_right {k = down e} (at_most (m * up e) (down e) k.v U k.is.1 (mul-le-mul_right U h.1)) (down_pos e);
      wide = λ w. le_of_mul-le-mul_right {k = down e} (at_least (m * up e) (down e) k.v U k.is.1 (mul-le-mul_right U w)) (down_pos e);
    }
  where
    at_most : (a d v u : ℕ) → a * u ≡ v * d → 2 ^ 50 * a * u ≤ (2 ^ 50 + 1) * d * u → 2 ^ 50 * v * d ≤ (2 ^ 50 + 1) * u * d
    at_most a d v u p q = omega arith

    at_least : (a d v u : ℕ) → a * u ≡ v * d → 3 * d * u ≤ 5 * a * u → 3 * u * d ≤ 5 * v * d
    at_least a d v u p q = omega arith

pair_sized : (s c : Float) → Sizes s → Sizes c → Wide s ⊎ Wide c → TurnSized (record { sine = s; cosine = c })
pair_sized s c S C w = record { sine = S.units; cosine = C.units; sine_most = S.most; cosine_most = C.most; wide = go w }
  where
    go : Wide s ⊎ Wide c → (3 * U ≤ 5 * S.units.v) ⊎ (3 * U ≤ 5 * C.units.v)
    go (inl w) = inl (S.wide w)
    go (inr w) = inr (C.wide w)

-- no turn: +0.0 and 1
pub still_sized : TurnSized still
still_sized = pair_sized nought one (sizes nought (of_bits-fits binary64 0) nought_tidy) (sizes one (of_bits-fits binary64 0x3ff0_0000_0000_0000) one_tidy) (inr one_wide)

turned_sized : (p : Option Pair) → TidyPair p → WidePair p → TurnSized (turned p)
turned_sized (Some p) h w = pair_sized p.sine p.cosine (sizes p.sine h.0.0 h.0.1) (sizes p.cosine h.1.0 h.1.1) w
turned_sized None h w = still_sized

-- ---- the law
pub turn_pair : (degrees : Float) → TurnSized (turn_of degrees)
unfolding turn_of
turn_pair degrees = turned_sized (degree_pair degrees) (pair_tidy degrees) (pair_wide degrees)
