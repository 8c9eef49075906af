-- Worked examples of whole turns, by computation: 360.0 times k is the constant that the code adds, and a raw zero stays one. The table of document 01 stands in `divide`, above all of its definitions.
use mathlib.Core.Path.{◌≡◌, refl}
use mathlib.Core.List.{[], ◌∷◌}
use lib.IntN.{pos, negsuc}
use lib.Ieee as Ieee
use lib.Ieee.{binary64, of_bits, of_int, mul, neg, add, lt, le}
use Rattle.std.specs.Prelude.{None}
use Rattle.lists.specs.Fold.{fold}
use Rattle.float.specs.Helpers.{nought}
use Rattle.geometry.specs.Vector.{times}
use Rattle.inverse.specs.Wraps.{one_turn, whole_turns, principal, keep_allowed, angle_candidates}

turns_are :
    (times one_turn (of_int binary64 (negsuc 1)) ∷ times one_turn (of_int binary64 (negsuc 0)) ∷ times one_turn (of_int binary64 (pos 0)) ∷ times one_turn (of_int binary64 (pos 1))
    ∷ times one_turn (of_int binary64 (pos 2)) ∷ []) ≡ whole_turns
unfolding mul of_bits of_int neg
turns_are = refl

-- a raw -0.0 becomes +0.0, and the unused angle stays +0.0
minus_zero : angle_candidates (Ieee.neg nought) None ≡ nought ∷ []
unfolding angle_candidates keep_allowed principal fold add lt le of_bits neg
minus_zero = refl

unused : angle_candidates nought None ≡ nought ∷ []
unfolding angle_candidates keep_allowed principal fold add lt le of_bits neg
unused = refl
