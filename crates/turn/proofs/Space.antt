-- The space of the two outputs, in poses: no more than either has.
use Prim.Native.Nat.{ℕ, ◌*◌, ◌/◌, ◌≤◌}
use native.Mathlib.Omega.{arith}
use mathlib.Core.Path.{◌≡◌, refl}
use mathlib.Core.Bool.{Bool, true, false, cond}
use borrow.Author.Tests.{leb-true, leb-false}
use lib.Dec.{leb}
use Rattle.turn.specs.Items.{space_in}

least : (b : Bool) (m n : ℕ) → (b ≡ true → m ≤ n) → (b ≡ false → n ≤ m) → (cond b m n ≤ m) × (cond b m n ≤ n)
least true m n f g = let h = f refl in (omega arith, h)
least false m n f g = let h = g refl in (h, omega arith)

space_least : (a b : ℕ) → (space_in a b ≤ a / 6) × (space_in a b ≤ b / 5)
unfolding space_in
space_least a b = least (leb (a / 6) (b / 5)) (a / 6) (b / 5) (leb-true (a / 6) (b / 5)) (λ e. let h = leb-false (a / 6) (b / 5) e in omega arith)

sixths : (s a : ℕ) → s ≤ a / 6 → s * 6 ≤ a
sixths s a h = omega arith

fifths : (s a : ℕ) → s ≤ a / 5 → s * 5 ≤ a
fifths s a h = omega arith

pub space_poses : (a b : ℕ) → space_in a b * 6 ≤ a
space_poses a b = sixths (space_in a b) a (space_least a b).0

pub space_joints : (a b : ℕ) → space_in a b * 5 ≤ b
space_joints a b = fifths (space_in a b) b (space_least a b).1

pub space_so : {a b n : ℕ} → n ≡ space_in a b → (n * 6 ≤ a) × (n * 5 ≤ b)
space_so {a} {b} e = rw e (space_poses a b, space_joints a b)
