-- The order of joint sets by one comparison after another: what `then_with` answers, and the tests that stand in `precedes`.
use mathlib.Core.Path.{◌≡◌, refl}
use mathlib.Core.Bool.{Bool, true, false, cond}
use Rattle.std.specs.declared.cmp.Ordering.{Ordering}
use Rattle.std.specs.declared.cmp.Ordering.TheVariants.{Less, Equal, Greater}
use Rattle.std.specs.Ordering.{MatchOrdering, ordering_then, is_lt}
use Rattle.float.specs.TotalOrder.{total_compare}
use Rattle.chain.specs.declared.Joints.{Joints}
use Rattle.inverse.specs.Solutions.{smaller, precedes, compare}

pub then_with_is : (a o r : Ordering) (Q : Type 0) → MatchOrdering a (r ≡ Less) Q (r ≡ Greater) → (Q → r ≡ o) → r ≡ ordering_then a o
then_with_is Less o r Q h f = h
then_with_is Equal o r Q h f = f h
then_with_is Greater o r Q h f = h

-- an order, of the tests whether the one stands before the other and the other before the one
abbrev pub compared : Bool → Bool → Ordering
compared before after = cond before Less (cond after Greater Equal)

pub first_of_three : (s t a b x y : Bool) → is_lt (ordering_then (ordering_then (compared s t) (compared a b)) (compared x y)) ≡ cond s true (cond t false (cond a true (cond b false x)))
first_of_three true t a b x y = refl
first_of_three false true a b x y = refl
first_of_three false false true b x y = refl
first_of_three false false false true x y = refl
first_of_three false false false false true y = refl
first_of_three false false false false false true = refl
first_of_three false false false false false false = refl

pub less_is : (j k : Joints) → is_lt (compare j k) ≡ precedes j k
unfolding compare precedes smaller total_compare
less_is j k = first_of_three _ _ _ _ _ _

-- of one comparison before another
pub first_of_two : (s t : Bool) (o : Ordering) → is_lt (ordering_then (compared s t) o) ≡ cond s true (cond t false (is_lt o))
first_of_two true t o = refl
first_of_two false true o = refl
first_of_two false false o = refl
