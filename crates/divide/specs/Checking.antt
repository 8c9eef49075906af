-- The checks of a division before its first test, as one list. The call of both makes the same of the joints that it
-- has solved.
use Rattle.std.specs.Prelude.{Bool, ◌&&◌, List, [], ◌∷◌, ℕ, ◌/◌, ◌<◌, T, eqb, leb, length, get_or, Float}
use Rattle.std.specs.Float.Ieee as Ieee
use Rattle.std.specs.Float.{binary64, nan}
use Rattle.std.specs.Float.Ieee.{fits}
use Rattle.std.specs.Float.Ieee.Scale.{finite}
use Rattle.lists.specs.Rows.{rows}
use Rattle.lists.specs.Search.{all}
use Rattle.float.specs.Helpers.{nought}
use Rattle.refusal.specs.declared.Cause.{Cause}
use Rattle.chain.specs.Checked.{Checked}
use Rattle.chain.specs.declared.Joints.{Joints}
use Rattle.chain.specs.declared.Kinematics.{Kinematics}
use Rattle.chain.specs.declared.ToolPose.{ToolPose}
use Rattle.chain.specs.Check.{demand, first_refusal, all_within, longest, chain_within, joints_within}
use Rattle.path.specs.Solving.{poses_in, whole_records, path_chain}
use Rattle.middle.specs.declared.Tolerances.{Tolerances}
use Rattle.turn.specs.Items.{joints_from}

-- ---- a tolerance: finite and above 0
unfoldable pub tolerance_good : Float → Bool
tolerance_good t = finite t && Ieee.lt nought t

-- ---- every number of every pose and joint set, an unused angle and a pose's axis too
unfoldable pub all_finite : List Float → List Float → Bool
all_finite poses joints = all finite poses && all finite joints

-- a number that was read is a float of 64 bits: of the first n
pub record FitUpTo (n : ℕ) (l : List Float) : Type 0 where
  pub fit : (i : ℕ) → i < n → T (fits binary64 (get_or l i nan))

-- ---- the sizes: pivots and tips, positions and angles, and the count. A pose's axis has none.
unfoldable pub tip_within : ToolPose → Bool
tip_within p = all_within p.tip longest

unfoldable pub joint_sets_in : List Float → List Joints
joint_sets_in l = rows 5 joints_from (length l / 5) l

unfoldable pub division_sizes : Kinematics → List Float → List Float → Bool
division_sizes k poses joints = chain_within k && all tip_within (poses_in poses) && all joints_within (joint_sets_in joints) && leb (length poses / 6) 100000

-- ---- the list; `roomPoses` and `roomJoints` are how many numbers the lent outputs have
unfoldable pub four_whole : (poses joints roomPoses roomJoints : ℕ) → Bool
four_whole poses joints roomPoses roomJoints = whole_records poses joints && whole_records roomPoses roomJoints

unfoldable pub checks_in_order : Kinematics → (whole chord axis asMany finite sizes : Bool) → Checked
checks_in_order k whole chord axis asMany finite sizes =
    first_refusal
    (demand whole Cause.LengthsDiffer 0
    ∷ demand chord Cause.Tolerance 0
    ∷ demand axis Cause.Tolerance 0
    ∷ demand asMany Cause.LengthsDiffer 0
    ∷ path_chain k
    ∷ demand finite Cause.NotFinite 0
    ∷ demand sizes Cause.TooLarge 0
    ∷ [])

unfoldable pub division_check : Kinematics → Tolerances → (poses joints : List Float) → (roomPoses roomJoints : ℕ) → Checked
division_check k tol poses joints roomPoses roomJoints =
    checks_in_order k (four_whole (length poses) (length joints) roomPoses roomJoints) (tolerance_good tol.chord) (tolerance_good tol.axis)
    (eqb (length poses / 6) (length joints / 5)) (all_finite poses joints) (division_sizes k poses joints)
