-- The summary beside a path: for every 64 joint sets, the last group maybe fewer, the smallest and the largest of each
-- of the five numbers by totalOrder. A group has ten numbers, the smallest five first.
use Rattle.std.specs.Prelude.{cond, List, [], ◌∷◌, ◌++◌, map, ℕ, ◌+◌, ◌*◌, ◌/◌, length, take, drop, Float}
use Rattle.std.proofs.lemmas.List.Edits.{sets}
use Rattle.lists.specs.Fold.{fold}
use Rattle.lists.specs.Rows.{rows, flat}
use Rattle.float.specs.Helpers.{nought}
use Rattle.float.specs.TotalOrder.{before}
use Rattle.geometry.specs.Vector.{vector}
use Rattle.chain.specs.declared.Joints.{Joints}
use Rattle.path.specs.Solving.{joint_numbers}
use Rattle.turn.specs.Items.{joints_from}
use Rattle.extremes.specs.declared.Extremes.{Extremes}

-- the joint sets of a path, five numbers each
unfoldable pub sets_in : List Float → List Joints
sets_in joints = rows 5 joints_from (length joints / 5) joints

-- ---- of two numbers, and of two joint sets number by number
unfoldable pub lower : Float → Float → Float
lower x y = cond (before y x) y x

unfoldable pub upper : Float → Float → Float
upper x y = cond (before x y) y x

unfoldable pub lower_set : Joints → Joints → Joints
lower_set a b = record {
  xyz = vector (lower a.xyz.x b.xyz.x) (lower a.xyz.y b.xyz.y) (lower a.xyz.z b.xyz.z);
  a0 = lower a.a0 b.a0;
  a1 = lower a.a1 b.a1;
}

unfoldable pub upper_set : Joints → Joints → Joints
upper_set a b = record {
  xyz = vector (upper a.xyz.x b.xyz.x) (upper a.xyz.y b.xyz.y) (upper a.xyz.z b.xyz.z);
  a0 = upper a.a0 b.a0;
  a1 = upper a.a1 b.a1;
}

-- ---- of a group
abbrev pub level : Joints → Extremes
level j = record { low = j; high = j }

unfoldable pub widened : Extremes → Joints → Extremes
widened e j = record { low = lower_set e.low j; high = upper_set e.high j }

-- what stands for the extremes of no joint set: no group is empty
abbrev pub no_joints : Joints
no_joints = record { xyz = vector nought nought nought; a0 = nought; a1 = nought }

unfoldable pub extremes_of : List Joints → Extremes
extremes_of [] = level no_joints
extremes_of (j ∷ l) = fold widened (level j) l

-- ---- the groups, in order
unfoldable pub group_count : ℕ → ℕ
group_count n = (n + 63) / 64

unfoldable pub groups : List Joints → List (List Joints)
groups l = rows 64 (take 64) (group_count (length l)) l

-- ---- ten numbers
abbrev pub extremes_numbers : Extremes → List Float
extremes_numbers e = joint_numbers e.low ++ joint_numbers e.high

abbrev pub extremes_from : List Float → Extremes
extremes_from l = record { low = joints_from l; high = joints_from (drop 5 l) }

-- stored over a group of a summary
unfoldable pub extremes_over : Extremes → List Float → ℕ → List Float
extremes_over e s g = sets s (g * 10) (extremes_numbers e)

unfoldable pub summary_of : List Joints → List Float
summary_of l = flat extremes_numbers (map extremes_of (groups l))

-- ---- one group worked out afresh
unfoldable pub group_at : List Joints → ℕ → List Joints
group_at l g = take 64 (drop (g * 64) l)

unfoldable pub resummed : List Float → List Joints → ℕ → List Float
resummed s l g = extremes_over (extremes_of (group_at l g)) s g
