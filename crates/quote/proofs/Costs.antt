-- What a test counts: three evaluations, five if it is strict, and none where the joints do not differ (`old_cost`,
-- `strict_cost`). It is a small number: with 110,000 poses and 10,000 insertions no sum of it comes near 2^64.
use Prim.Native.Nat.{ℕ, ◌+◌, ◌≤◌}
use native.Mathlib.Omega.{arith}
use mathlib.Core.Path.{◌≡◌, refl, sym, subst}
use mathlib.Core.Bool.{Bool, true, false, cond, true≢false, false≢true}
use lib.ListN.{length}
use Rattle.middle.specs.declared.Item.{Item}
use Rattle.middle.specs.declared.Tolerances.{Tolerances}
use Rattle.middle.specs.Testing.{portions, plain, strictly, joints_unchanged}
use Rattle.quote.specs.Quotation.{per_test, cost_of}

pub strict_counts : (strict : Bool) → strict ≡ true → 5 ≡ 2 + length (portions strict)
strict_counts true e = refl
strict_counts false e = absurd (false≢true e)

pub plain_counts : (strict : Bool) → strict ≡ false → 3 ≡ 2 + length (portions strict)
plain_counts true e = absurd (true≢false e)
plain_counts false e = refl

-- "three evaluations unless the Rust's test passes them before any"
pub old_cost : (tol : Tolerances) (left right : Item) → cost_of (plain tol) left right ≡ cond (joints_unchanged left.joints right.joints) 0 3
unfolding cost_of per_test
old_cost tol left right = refl

-- "its quotation counts five evaluations for a tested pair, also where the old test already fails. Excepted is what
-- counts none in the old quotation"
pub strict_cost : (tol : Tolerances) (left right : Item) → cost_of (strictly tol) left right ≡ cond (joints_unchanged left.joints right.joints) 0 5
unfolding cost_of per_test
strict_cost tol left right = refl

portions_few : (strict : Bool) → 2 + length (portions strict) ≤ 10
portions_few true = omega arith
portions_few false = omega arith

test_low : (tol : Tolerances) → per_test tol ≤ 10
unfolding per_test
test_low tol = portions_few tol.strict

at_most : (b : Bool) (n : ℕ) → n ≤ 10 → cond b 0 n ≤ 10
at_most true n h = omega arith
at_most false n h = h

pub cost_of_low : (tol : Tolerances) (left right : Item) → cost_of tol left right ≤ 10
unfolding cost_of
cost_of_low tol left right = at_most (joints_unchanged left.joints right.joints) (per_test tol) (test_low tol)

pub cost_low : (tol : Tolerances) (left right : Item) {tested : ℕ} → tested ≡ cost_of tol left right → tested ≤ 10
cost_low tol left right e = subst (λ (k : ℕ). k ≤ 10) (sym e) (cost_of_low tol left right)
