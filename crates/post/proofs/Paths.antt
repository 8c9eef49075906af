-- The path of a job: how many joint sets it has, and that what the joints hold at their front is its numbers.
use Prim.Native.Nat.{ℕ, ◌+◌, ◌*◌, ◌/◌, ◌≤◌}
use native.Mathlib.Omega.{arith}
use mathlib.Core.Path.{◌≡◌, refl, ◌∙◌}
use mathlib.Core.Bool.{Bool, true, false, cond}
use mathlib.Core.List.{List, map}
use borrow.Author.Tests.{leb-true}
use lib.Dec.{leb}
use lib.Ieee.{Float}
use lib.ListN.{length, take, length-map}
use lib.Seq.{take_all}
use Rattle.std.specs.Prelude.{Err, Ok, Option}
use Rattle.lists.specs.Rows.{flat}
use Rattle.lists.proofs.Padding.{take_padded}
use Rattle.lists.proofs.Rows.{rows_flat, length_flat}
use Rattle.float.specs.Helpers.{nought}
use Rattle.chain.specs.Checked.{Checked}
use Rattle.chain.specs.declared.Joints.{Joints}
use Rattle.chain.specs.declared.Kinematics.{Kinematics}
use Rattle.chain.specs.declared.Prepared.{Prepared}
use Rattle.chain.specs.Prepared.{prepared}
use Rattle.path.specs.Solving.{PathAnswer, joint_numbers}
use Rattle.path.specs.Solving as Path
use Rattle.halving.specs.Halving.{Answer, Done, TooMany, NoSpace, halve}
use Rattle.halving.proofs.Ends.{result}
use Rattle.middle.specs.declared.Item.{Item}
use Rattle.middle.specs.declared.Tolerances.{Tolerances}
use Rattle.divide.specs.Checking.{division_check}
use Rattle.middle.specs.Testing.{midpoint, divides}
use Rattle.turn.specs.Turning.{most}
use Rattle.machine.specs.Dividing.{division}
use Rattle.divide.specs.Subdividing.{DivisionAnswer, Kept, AtPose, Cleared, Halved, division_in, joints_left, given, division_within, unless_kept, subdivide_path, clearing, after_solving, solved_path, solve_and_divide, Division}
use Rattle.turn.specs.Items.{space_in}
use Rattle.turn.proofs.Stored.{joints_codec, items_length}
use Rattle.job.specs.Cable.{joint_sets}
use Rattle.post.specs.Posting.{joints_of, path_text}
use Rattle.post.specs.Steps.{conclusion, path_length}

-- ---- how many joint sets there are: the given ones and the inserted ones, at most as many as there is space for
abbrev SizedAnswer : ℕ → ℕ → Answer Item → Type 0
SizedAnswer n space (Done m l) = (length l ≡ n + m) × (length l ≤ space)
SizedAnswer n space (TooMany m) = Unit {0}
SizedAnswer n space (NoSpace m) = Unit {0}

abbrev pub Sized : ℕ → ℕ → DivisionAnswer → Type 0
Sized n space (Kept r) = Unit {0}
Sized n space (AtPose r) = Unit {0}
Sized n space (Cleared r) = Unit {0}
Sized n space (Halved answer) = SizedAnswer n space answer

sized_within : (p : Prepared) (tol : Tolerances) (space : ℕ) (g : List Item) → SizedAnswer (length g) space (division_within p tol space g)
unfolding division_within division
sized_within p tol space g = by_space (leb (length g) space) refl
  where
    by_answer : (a : Answer Item) → length g ≤ space → halve (divides p tol) (midpoint p) space most 0 g ≡ a → SizedAnswer (length g) space a
    by_answer (Done m l) h e =
        let r = result (divides p tol) (midpoint p) space most m g l h e in
        (r.counted, r.fits)
    by_answer (TooMany m) h e = tt
    by_answer (NoSpace m) h e = tt

    by_space : (t : Bool) → leb (length g) space ≡ t → SizedAnswer (length g) space (cond t (halve (divides p tol) (midpoint p) space most 0 g) (NoSpace 0))
    by_space true e = by_answer _ (leb-true _ _ e) refl
    by_space false e = tt

sized_unless : (c : Checked) (n space : ℕ) (a : DivisionAnswer) → Sized n space a → Sized n space (unless_kept c a)
sized_unless (Ok _) n space a s = s
sized_unless (Err r) n space a s = tt

sized_path : (k : Kinematics) (tol : Tolerances) (poses joints : List Float) (roomPoses roomJoints : ℕ) → Sized (length poses / 6) (space_in roomPoses roomJoints) (subdivide_path k tol poses joints roomPoses roomJoints)
unfolding subdivide_path
sized_path k tol poses joints roomPoses roomJoints =
    let e : length (given poses joints) ≡ length poses / 6 = items_length (length poses / 6) poses joints in
    sized_unless (division_check k tol poses joints roomPoses roomJoints) _ _ _ (rw e at (sized_within (prepared k) tol (space_in roomPoses roomJoints) (given poses joints)))

sized_cleared : (n space : ℕ) (a : DivisionAnswer) → Sized n space a → Sized n space (clearing a)
sized_cleared n space (Kept r) s = tt
sized_cleared n space (AtPose r) s = tt
sized_cleared n space (Cleared r) s = tt
sized_cleared n space (Halved answer) s = s

sized_after : (p : PathAnswer) (f : List Joints → DivisionAnswer) (n space : ℕ) → ((l : List Joints) → Sized n space (f l)) → Sized n space (after_solving p f)
sized_after (Path.Along l) f n space s = sized_cleared n space (f l) (s l)
sized_after (Path.AtPose r) f n space s = tt
sized_after (Path.Kept r) f n space s = tt

pub sized : (k : Kinematics) (poses : List Float) (start : Option Joints) (cone : Float) (tol : Tolerances) → Sized (length poses / 6) 700 (solve_and_divide k poses start cone tol 4200 3500)
unfolding solve_and_divide space_in
sized k poses start cone tol =
    sized_after (solved_path k poses start cone 4200 3500) (λ l. subdivide_path k tol poses (flat joint_numbers l) 4200 3500) (length poses / 6) 700 (λ l. sized_path k tol poses (flat joint_numbers l) 4200 3500)

-- ---- the numbers of joint sets
numbers_long : (l : List Joints) → length (flat joint_numbers l) ≡ length l * 5
numbers_long l = length_flat joints_codec l

pub sets_back : (l : List Joints) → joint_sets (flat joint_numbers l) ≡ l
unfolding joint_sets
sets_back l =
    let e = numbers_long l in
    let n : length (flat joint_numbers l) / 5 ≡ length l = omega (arith, e) in
    rw n (rows_flat joints_codec l)

-- ---- a path in its lent joints
pub few : (n : ℕ) (a : DivisionAnswer) → Sized n 700 a → path_length n (division_in a) ≤ 700
few n (Kept r) s = omega arith
few n (AtPose r) s = omega arith
few n (Cleared r) s = omega arith
few n (Halved (Done m l)) s =
    let p = s.0 in
    let q = s.1 in
    omega (arith, p, q)
few n (Halved (TooMany m)) s = omega arith
few n (Halved (NoSpace m)) s = omega arith

pub front : (n : ℕ) (a : DivisionAnswer) (out : List Float) → Sized n 700 a → take (5 * path_length n (division_in a)) (joints_left a out) ≡ flat joint_numbers (joints_of a)
unfolding joints_left flat
front n (Kept r) out s = refl
front n (AtPose r) out s = refl
front n (Cleared r) out s = refl
front n (Halved (Done m l)) out s =
    let js = map (λ (t : Item). t.joints) l in
    let e = numbers_long js in
    let f : length js ≡ length l = length-map l (λ (t : Item). t.joints) in
    let p = s.0 in
    take_padded (length out) nought (flat joint_numbers js) (5 * (n + m)) (omega (arith, e, f, p)) ∙ take_all (5 * (n + m)) (flat joint_numbers js) (omega (arith, e, f, p))
front n (Halved (TooMany m)) out s = refl
front n (Halved (NoSpace m)) out s = refl

-- the same text by the answer and by what the joints hold
pub concluded : (k : Kinematics) (n : ℕ) (a : DivisionAnswer) (said : Division) (out after : List Float) (m : ℕ) → Sized n 700 a → said ≡ division_in a → after ≡ joints_left a out → m ≡ path_length n said
    → conclusion k said (take (5 * m) after) ≡ path_text k a
unfolding path_text
concluded k n a said out after m s e f g =
    let p : take (5 * m) after ≡ flat joint_numbers (joints_of a) = rw (g, e, f) (front n a out s) in
    rw (p, e, sets_back (joints_of a))
