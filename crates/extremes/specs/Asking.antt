-- Whether a path comes near a stop: the first joint set with an angle of a rotary above a given one, among the groups
-- whose largest is above.
use Rattle.std.specs.Prelude.{Bool, cond, ◌&&◌, List, ℕ, zero, suc, ◌+◌, ◌*◌, ◌/◌, Float}
use Rattle.std.specs.Float.Ieee as Ieee
use Rattle.chain.specs.declared.Joints.{Joints}
use Rattle.chain.specs.Angles.{angle_of}
use Rattle.turn.specs.Items.{joints_in}

-- compared as floats, and strictly
unfoldable pub above : ℕ → Float → Joints → Bool
above rotary angle j = Ieee.lt angle (angle_of rotary j)

-- a group of the summary whose largest is above: the largest five are the second five of its ten
unfoldable pub opened : ℕ → Float → List Float → ℕ → Bool
opened rotary angle summary g = above rotary angle (joints_in summary (g * 10 + 5))

unfoldable pub above_at : ℕ → Float → List Float → ℕ → Bool
above_at rotary angle joints i = above rotary angle (joints_in joints (i * 5))

-- the joint sets of a group that is not opened are not looked at
unfoldable pub hit : ℕ → Float → List Float → List Float → ℕ → Bool
hit rotary angle summary joints i = opened rotary angle summary (i / 64) && above_at rotary angle joints i

-- the first index from k on, among n, that passes; k + n where none does
unfoldable pub first_index : (ℕ → Bool) → ℕ → ℕ → ℕ
first_index test k zero = k
first_index test k (suc n) = cond (test k) k (first_index test (suc k) n)

-- n joint sets, with groups skipped; n where none is above
unfoldable pub first_above : ℕ → Float → List Float → List Float → ℕ → ℕ
first_above rotary angle summary joints n = first_index (hit rotary angle summary joints) 0 n

-- the same by a full reading, without a summary
unfoldable pub full_reading : ℕ → Float → List Float → ℕ → ℕ
full_reading rotary angle joints n = first_index (above_at rotary angle joints) 0 n
