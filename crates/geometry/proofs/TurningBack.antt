-- The turn by an angle is the turn by the negated angle with its sine negated, a zero staying +0.0, in every bit and
-- for every float: so `turned_back` of the one is the other. Beyond the range both are no turn.
use mathlib.Core.Path.{◌≡◌, refl, sym, ap, ◌∙◌}
use lib.Ieee.{Float, binary64, add, sub, neg, of_bits}
use Rattle.std.specs.Prelude.{None, Option, Some}
use Rattle.float.specs.Helpers.{nought}
use Rattle.float.proofs.Order.{neg_neg}
use Rattle.float.proofs.Commute.{add_commutes}
use Rattle.trig.specs.declared.Pair.{Pair}
use Rattle.trig.specs.Degrees.{plain, opposite}
use Rattle.trig.specs.DegreeSteps.{degree_pair}
use Rattle.trig.proofs.DegreeBack.{pair_back}
use Rattle.geometry.specs.Turn.{turned, turn_of, turned_back}

minus_plain : (s : Float) → sub binary64 nought s ≡ plain (neg s)
unfolding sub
minus_plain s = add_commutes binary64 nought (neg s)

no_turn : sub binary64 nought nought ≡ nought
unfolding sub add neg of_bits
no_turn = refl

back : (p : Option Pair) → turned_back (turned p) ≡ turned (opposite p)
unfolding turned_back
back (Some p) = rw (minus_plain p.sine)
back None = rw no_turn

pub turn_back : (a : Float) → turned_back (turn_of (neg a)) ≡ turn_of a
unfolding turn_of
turn_back a = back (degree_pair (neg a)) ∙ ap turned (sym (pair_back (neg a)) ∙ ap degree_pair (neg_neg a))
