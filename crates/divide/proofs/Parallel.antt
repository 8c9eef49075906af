-- R-3 in the two calls that divide: parallel rotaries are refused as 30 alone, with both outputs kept, whatever the numbers, the
-- sizes and the space; so on an empty path too. Every other chain gets the list of checks that stood here before.
use Prim.Native.Nat.{ℕ, ◌*◌, ◌/◌, ◌%◌}
use native.Mathlib.Omega.{arith}
use mathlib.Core.Path.{◌≡◌}
use mathlib.Core.Bool.{Bool, true, false, ◌&&◌}
use mathlib.Core.List.{List, [], ◌∷◌}
use borrow.Author.Tests.{eq-eqb}
use lib.Dec.{eqb}
use lib.Ieee.{Float}
use lib.ListN.{length}
use Rattle.std.specs.Prelude.{Ok, Option}
use Rattle.refusal.specs.Numbers.{refusal}
use Rattle.refusal.specs.declared.Cause.{Cause}
use Rattle.chain.specs.declared.Joints.{Joints}
use Rattle.chain.specs.declared.Kinematics.{Kinematics}
use Rattle.chain.specs.Check.{demand, first_refusal, chain_check}
use Rattle.chain.proofs.ReadyLaws.{both}
use Rattle.path.specs.Solving.{whole_records, cone_good, parallel}
use Rattle.path.proofs.Apart.{parallel_refused, apart_kept, path_parallel}
use Rattle.middle.specs.declared.Tolerances.{Tolerances}
use Rattle.turn.specs.Items.{space_in}
use Rattle.divide.specs.Checking.{tolerance_good, four_whole, checks_in_order, division_check}
use Rattle.divide.specs.Subdividing.{Kept, three_whole, subdivide_path, solved_path, solve_and_divide}

-- ---- subdivide_path
pub division_parallel : (k : Kinematics) (tol : Tolerances) (poses joints : List Float) (roomPoses roomJoints : ℕ)
    → four_whole (length poses) (length joints) roomPoses roomJoints ≡ true → tolerance_good tol.chord ≡ true → tolerance_good tol.axis ≡ true
    → eqb (length poses / 6) (length joints / 5) ≡ true → chain_check k ≡ Ok tt → parallel k ≡ true
    → subdivide_path k tol poses joints roomPoses roomJoints ≡ Kept (refusal Cause.ParallelRotaries 0)
unfolding subdivide_path division_check checks_in_order
division_parallel k tol poses joints roomPoses roomJoints whole chord axis asMany passed par = rw (whole, chord, axis, asMany, parallel_refused k passed par)

pub division_kept : (k : Kinematics) (whole chord axis asMany finite sizes : Bool) → parallel k ≡ false
    → checks_in_order k whole chord axis asMany finite sizes
    ≡ first_refusal
    (demand whole Cause.LengthsDiffer 0
    ∷ demand chord Cause.Tolerance 0
    ∷ demand axis Cause.Tolerance 0
    ∷ demand asMany Cause.LengthsDiffer 0
    ∷ chain_check k
    ∷ demand finite Cause.NotFinite 0
    ∷ demand sizes Cause.TooLarge 0
    ∷ [])
unfolding checks_in_order
division_kept k whole chord axis asMany finite sizes h = rw (apart_kept k h)

-- ---- the call of both
fifths : (n : ℕ) → n * 5 % 5 ≡ 0
fifths n = omega arith

whole_space : (poses roomPoses roomJoints n : ℕ) → three_whole poses roomPoses roomJoints ≡ true → whole_records poses (n * 5) ≡ true
unfolding three_whole whole_records
whole_space poses roomPoses roomJoints n h =
    let given = both (eqb (poses % 6) 0 && eqb (roomJoints % 5) 0) (eqb (roomPoses % 6) 0 && eqb (roomJoints % 5) 0) h in
    let six = both (eqb (poses % 6) 0) (eqb (roomJoints % 5) 0) given.0 in
    rw (six.0, eq-eqb (n * 5 % 5) 0 (fifths n))

pub both_parallel : (k : Kinematics) (poses : List Float) (start : Option Joints) (cone : Float) (tol : Tolerances) (roomPoses roomJoints : ℕ)
    → three_whole (length poses) roomPoses roomJoints ≡ true → cone_good cone ≡ true → chain_check k ≡ Ok tt → parallel k ≡ true
    → solve_and_divide k poses start cone tol roomPoses roomJoints ≡ Kept (refusal Cause.ParallelRotaries 0)
unfolding solve_and_divide solved_path
both_parallel k poses start cone tol roomPoses roomJoints whole good passed par =
    rw (whole, path_parallel k start cone poses (space_in roomPoses roomJoints * 5) (whole_space (length poses) roomPoses roomJoints (space_in roomPoses roomJoints) whole) good passed par)
