-- A pose and its joint set in lent numbers: six in one list, five in another, at one index.
use Rattle.std.specs.Prelude.{ℕ, ◌+◌, ◌*◌, ◌/◌, cond, List, [], ◌∷◌, leb, get_or, set, drop, Float}
use Rattle.std.specs.Float.{nan}
use Rattle.lists.specs.Rows.{table}
use Rattle.geometry.specs.Vector.{vector}
use Rattle.chain.specs.declared.Joints.{Joints}
use Rattle.chain.specs.declared.ToolPose.{ToolPose}
use Rattle.path.specs.Solving.{pose_from, pose_in, joints_over}
use Rattle.middle.specs.declared.Item.{Item}

-- a joint set is five numbers: the position, then the angles
abbrev pub joints_from : List Float → Joints
joints_from l = record { xyz = vector (get_or l 0 nan) (get_or l 1 nan) (get_or l 2 nan); a0 = get_or l 3 nan; a1 = get_or l 4 nan }

unfoldable pub joints_in : List Float → ℕ → Joints
joints_in l at = joints_from (drop at l)

-- a pose is six: the tip, then the axis
abbrev pub pose_numbers : ToolPose → List Float
pose_numbers p = p.tip.x ∷ p.tip.y ∷ p.tip.z ∷ p.axis.x ∷ p.axis.y ∷ p.axis.z ∷ []

unfoldable pub pose_over : ToolPose → List Float → ℕ → List Float
pose_over p l at =
    set (set (set (set (set (set l at p.tip.x) (at + 1) p.tip.y) (at + 2) p.tip.z) (at + 3) p.axis.x) (at + 4) p.axis.y) (at + 5) p.axis.z

abbrev pub item : ToolPose → Joints → Item
item pose joints = record { pose = pose; joints = joints }

unfoldable pub item_at : List Float → List Float → ℕ → Item
item_at poses joints i = item (pose_in poses (i * 6)) (joints_in joints (i * 5))

-- the first n
unfoldable pub items_in : ℕ → List Float → List Float → List Item
items_in n poses joints = table 6 pose_from 5 joints_from item n poses joints

-- the two lists with an item stored at index i
unfoldable pub poses_with : Item → List Float → ℕ → List Float
poses_with t poses i = pose_over t.pose poses (i * 6)

unfoldable pub joints_with : Item → List Float → ℕ → List Float
joints_with t joints i = joints_over t.joints joints (i * 5)

-- ---- two outputs of so many numbers have space for so many items: that of the smaller one
unfoldable pub space_in : (roomPoses roomJoints : ℕ) → ℕ
space_in roomPoses roomJoints = cond (leb (roomPoses / 6) (roomJoints / 5)) (roomPoses / 6) (roomJoints / 5)
