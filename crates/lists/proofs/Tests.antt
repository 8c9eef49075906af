-- What the test of a call's answer tells of the function that the answer's contract names: `is` where the code tests the
-- answer itself, `isn't` and `is_after_all` where it tests the answer's negation.
use mathlib.Core.Path.{◌≡◌, sym, ◌∙◌}
use mathlib.Core.Bool.{Bool, true, false, not}
use borrow.Author.Tests.{not-true, not-false}

pub is : {A : Type 0} {x y z : A} → x ≡ y → x ≡ z → y ≡ z
is p q = sym p ∙ q

pub isn't : {x y : Bool} → x ≡ y → not x ≡ true → y ≡ false
isn't p q = sym p ∙ not-true _ q

pub is_after_all : {x y : Bool} → x ≡ y → not x ≡ false → y ≡ true
is_after_all p q = sym p ∙ not-false _ q
