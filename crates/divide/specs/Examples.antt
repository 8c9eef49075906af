-- Document 01's worked examples of the definitions, in one table: each row is a test that is computed from the
-- definition that it shows. Answers are compared bit for bit.
use Rattle.std.specs.Prelude.{ℕ, Bool, true, false, not, ◌&&◌, List, [], ◌∷◌, eqb, pos, Float, None}
use Rattle.std.specs.Float.Ieee as Ieee
use Rattle.std.specs.Float.{binary64}
use Rattle.std.specs.Float.Ieee.{of_bits, of_int, to_bits}
use Rattle.float.specs.Helpers.{nought}
use Rattle.geometry.specs.Vector.{vector}
use Rattle.chain.specs.declared.Joints.{Joints}
use Rattle.inverse.specs.Wraps.{angle_candidates}
use Rattle.path.specs.Solving.{cone_good, joint_numbers}
use Rattle.path.specs.Unwinding.{unwind_angle, different_branch}
use Rattle.middle.specs.Testing.{lerp_joints}

abbrev the : ℕ → Float
the n = of_int binary64 (pos n)

abbrev minus : ℕ → Float
minus n = Ieee.neg (the n)

-- the next double above 10, and above 90
abbrev above10 : Float
above10 = of_bits binary64 0x4024_0000_0000_0001

abbrev above90 : Float
above90 = of_bits binary64 0x4056_8000_0000_0001

abbrev is : Float → Float → Bool
is a b = eqb (to_bits binary64 a) (to_bits binary64 b)

abbrev are : List Float → List Float → Bool
are [] [] = true
are (a ∷ l) (b ∷ m) = is a b && are l m
are [] (b ∷ m) = false
are (a ∷ l) [] = false

-- joints whose first angle is that, and whose other numbers are +0.0; and joints of one number five times
abbrev turned_to : Float → Joints
turned_to angle = record { xyz = vector nought nought nought; a0 = angle; a1 = nought }

abbrev all_five : Float → Joints
all_five x = record { xyz = vector x x x; a0 = x; a1 = x }

unfoldable pub table : List Bool
table =
    -- unwinding 10 from 370 gives 370; 0 from 180 gives 360, from -180 gives -360, from 179 gives 0
    is (unwind_angle (the 10) (the 370)) (the 370)
    ∷ is (unwind_angle (the 0) (the 180)) (the 360)
    ∷ is (unwind_angle (the 0) (minus 180)) (minus 360)
    ∷ is (unwind_angle (the 0) (the 179)) (the 0)
    -- wraps without limits of -180, 180 and 540 are 180 alone, of 1000 none
    ∷ are (angle_candidates (minus 180) None) (the 180 ∷ [])
    ∷ are (angle_candidates (the 180) None) (the 180 ∷ [])
    ∷ are (angle_candidates (the 540) None) (the 180 ∷ [])
    ∷ are (angle_candidates (the 1000) None) []
    -- cone 10 passes, 10.000000000000002 and 0 do not
    ∷ cone_good (the 10)
    ∷ not (cone_good above10)
    ∷ not (cone_good (the 0))
    -- 90 apart is the same branch, 90.00000000000001 is not
    ∷ not (different_branch true (turned_to (the 90)) (turned_to (the 0)))
    ∷ different_branch true (turned_to above90) (turned_to (the 0))
    -- the midpoint of 1 and 3 is 2
    ∷ are (joint_numbers (lerp_joints (all_five (the 1)) (all_five (the 3)))) (joint_numbers (all_five (the 2)))
    ∷ []

unfoldable pub all_hold : List Bool → Bool
all_hold [] = true
all_hold (row ∷ rows) = row && all_hold rows
