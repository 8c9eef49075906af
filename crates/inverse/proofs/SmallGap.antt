-- A gap whose square is at most 2 ^ -60 is not above 1e-9: the root grows with its argument, and that of 2 ^ -60 is 2 ^ -30.
use mathlib.Core.Path.{◌≡◌, refl, sym, ◌∙◌}
use mathlib.Core.Bool.{Bool, true, false, true≢false, false≢true}
use Prim.Native.Nat.{ℕ, zero, suc, ◌*◌, ◌≤◌}
use native.Mathlib.Omega.{arith}
use lib.Dec.{T, lit<}
use lib.IntN.{ℤ, pos}
use lib.Ieee.{Float, nan, inf, fin, binary64, up, down, round, of_bits, le, lt, eq, fits}
use lib.Ieee.Bits.{of_bits-fits}
use lib.Ieee.Fits.{down_pos, add-fits}
use lib.Ieee.Order.{le_of_values}
use Rattle.float.specs.Helpers.{nought}
use Rattle.root.specs.Root.{root}
use Rattle.float.proofs.Order as order
use Rattle.root.proofs.RootOrder.{root_mono}
use Rattle.geometry.specs.declared.Vec3.{Vec3}
use Rattle.geometry.specs.Vector.{dot, norm}
use Rattle.inverse.specs.Subproblem.{shortest}

-- 2 ^ -60, the double that the code has as 8.673617379884035e-19
abbrev small_square : Float
small_square = of_bits binary64 0x3c30_0000_0000_0000

root_short : le (root small_square) shortest ≡ true
unfolding root of_bits round le lt eq
root_short = refl

not_above : (x : Float) → le (root x) shortest ≡ true → lt shortest (root x) ≡ false
not_above x h = go (lt shortest (root x)) refl
  where
    go : (b : Bool) → lt shortest (root x) ≡ b → b ≡ false
    go true e = absurd (true≢false (sym h ∙ order.lt_not_le shortest (root x) e))
    go false e = refl

from_zero : (x : Float) → T (fits binary64 x) → le nought x ≡ true → le x small_square ≡ true → lt shortest (root x) ≡ false
from_zero x f n h = not_above x (order.le_trans (root x) (root small_square) shortest (root_mono x small_square f (of_bits-fits binary64 0x3c30_0000_0000_0000) n h) root_short)

above : (m : ℕ) (e : ℤ) → le nought (fin false m e) ≡ true
unfolding of_bits
above m e = is_true (le (fin false 0 (pos 0)) (fin false m e)) (le_of_values (fin false 0 (pos 0)) (fin false m e) 0 1 (m * up e) (down e) (lit< tt) (down_pos e) (refl, refl) (refl, refl) (go (m * up e) (down e)))
  where
    is_true : (b : Bool) → T b → b ≡ true
    is_true true h = refl
    is_true false h = absurd h

    go : (a d : ℕ) → 0 * d ≤ a * 1
    go a d = omega arith

-- of every double: the root of what is below zero is a nan, which is above nothing
small_gap : (x : Float) → T (fits binary64 x) → le x small_square ≡ true → lt shortest (root x) ≡ false
unfolding root of_bits le lt eq
small_gap nan f h = refl
small_gap (inf true) f h = refl
small_gap (inf false) f h = absurd (false≢true h)
small_gap (fin true zero e) f h = refl
small_gap (fin true (suc m) e) f h = refl
small_gap (fin false m e) f h = from_zero (fin false m e) f (above m e) h

-- of a vector
pub small_norm : (v : Vec3) → le (dot v v) small_square ≡ true → lt shortest (norm v) ≡ false
unfolding norm
small_norm v h = small_gap (dot v v) (unfold dot in add-fits binary64 _ _) h
