-- The denominators of the contract's fractions are above zero, so `Small` and `Positive` mean what they say. Assumes nothing.
use Rattle.std.proofs.Common.{ℕ, zero, suc, ◌+◌, ◌*◌, ◌%◌, ◌<◌, Bool, true, false, ℤ, mul-pos, lit<}
use native.Mathlib.Nat.{one-le-pow}
use lib.Ieee.{fin, up, down}
use lib.Ieee.Fits.{down_pos}
use Rattle.trig.specs.Angle.{pi_den, nearest_k, gap, quarter, rest_below, place, under, wave}
use Rattle.trig.proofs.NearestTurn.{pi_den_pos}
use Rattle.trig.specs.Taylor.{rising, sin_sum, cos_sum}
use Rattle.trig.specs.Fraction.{Frac, worth}
use Rattle.trig.specs.Direction.{residual, along}

sin_over : (u v : ℕ) → 0 < v → 0 < (sin_sum u v).over
unfolding sin_sum
sin_over u v h = mul-pos (one-le-pow 25 v h) (unfold rising in lit< tt)

cos_over : (u v : ℕ) → 0 < v → 0 < (cos_sum u v).over
unfolding cos_sum
cos_over u v h = mul-pos (one-le-pow 24 v h) (unfold rising in lit< tt)

place_over : (q : ℕ) (b : Bool) (s c : Frac) → 0 < s.over → 0 < c.over → 0 < (place q b s c).over
place_over zero true s c S C = S
place_over zero false s c S C = S
place_over (suc zero) b s c S C = C
place_over (suc (suc zero)) true s c S C = S
place_over (suc (suc zero)) false s c S C = S
place_over (suc (suc (suc q))) b s c S C = C

pub wave_over : (s : Bool) (j A D : ℕ) → 0 < D → 0 < (wave s j A D).over
unfolding wave
wave_over s j A D h =
    let k = nearest_k A D in
    let b = under A D k in
    let v : 0 < 2 * D * pi_den = mul-pos (mul-pos (lit< tt) h) pi_den_pos in
    place_over ((quarter s k + j) % 4) (rest_below s b) (sin_sum (gap b A D k) (2 * D * pi_den)) (cos_sum (gap b A D k) (2 * D * pi_den)) (sin_over (gap b A D k) (2 * D * pi_den) v) (cos_over (gap b A D k) (2 * D * pi_den) v)

worth_over : (s : Bool) (m : ℕ) (e : ℤ) → 0 < (worth (fin s m e)).over
worth_over true m e = down_pos e
worth_over false m e = down_pos e

pub residual_over : (s t w : Bool) (m n l : ℕ) (e f h : ℤ) → 0 < (residual (fin s m e) (fin t n f) (fin w l h)).over
residual_over s t w m n l e f h = mul-pos (mul-pos (worth_over s m e) (wave_over w 1 (l * up h) (down h) (down_pos h))) (mul-pos (worth_over t n f) (wave_over w 0 (l * up h) (down h) (down_pos h)))

pub along_over : (s t w : Bool) (m n l : ℕ) (e f h : ℤ) → 0 < (along (fin s m e) (fin t n f) (fin w l h)).over
along_over s t w m n l e f h = mul-pos (mul-pos (worth_over t n f) (wave_over w 1 (l * up h) (down h) (down_pos h))) (mul-pos (worth_over s m e) (wave_over w 0 (l * up h) (down h) (down_pos h)))
