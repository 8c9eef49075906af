-- Which links meet first on a path: by the pose, then by the earlier link, then by the later.
use Rattle.std.specs.Prelude.{Bool, cond, not, ◌&&◌, List, [], ◌∷◌, ℕ, ◌+◌, Float, Err, None, Ok, Option, Result, Some}
use Rattle.std.specs.Float.Ieee as Ieee
use Rattle.lists.specs.Search.{any, first_hit}
use Rattle.geometry.specs.Vector.{plus, gap_vec}
use Rattle.refusal.specs.declared.Refusal.{Refusal}
use Rattle.chain.specs.Checked.{Checked}
use Rattle.chain.specs.declared.Joints.{Joints}
use Rattle.chain.specs.declared.Kinematics.{Kinematics}
use Rattle.model.specs.declared.Link.{Link}
use Rattle.model.specs.Model.{links_of}
use Rattle.model.specs.ModelCheck.{carrier_of}
use Rattle.model.specs.Text.{same_bytes}
use Rattle.meet.specs.Balls.{middle_at, radius_at}
use Rattle.extremes.specs.Summary.{sets_in}
use Rattle.meet.specs.Checking.{meeting_check}
use Rattle.meet.specs.declared.Meeting.{Meeting}
use Rattle.meet.specs.declared.LinkPair.{LinkPair}

-- two links at a joint set: of different carrier bytes, and their balls nearer than the sum of the radii
unfoldable pub meets : Kinematics → List ℕ → Joints → Link → Link → Bool
meets k bytes j l m =
    not (same_bytes (carrier_of bytes l) (carrier_of bytes m))
    && Ieee.lt (gap_vec (middle_at k bytes j l) (middle_at k bytes j m)) (plus (radius_at bytes l) (radius_at bytes m))

abbrev pub link_pair : (first second : ℕ) → LinkPair
link_pair first second = record { first = first; second = second }

abbrev pub meeting_at : (pose first second : ℕ) → Meeting
meeting_at pose first second = record { pose = pose; first = first; second = second }

-- the first pair of a list, of which the first element has the index i
unfoldable pub first_pair : {A : Type 0} → (A → A → Bool) → ℕ → List A → Option LinkPair
first_pair test i [] = None
first_pair test i (x ∷ l) = cond (any (test x) l) (Some (link_pair i (i + 1 + first_hit (test x) l))) (first_pair test (i + 1) l)

abbrev pub or_later : ℕ → Option LinkPair → Option Meeting → Option Meeting
or_later pose (Some p) later = Some (meeting_at pose p.first p.second)
or_later pose None later = later

-- the first pose that has a pair, of which the first has the index i
unfoldable pub along_path : (Joints → Option LinkPair) → ℕ → List Joints → Option Meeting
along_path pair i [] = None
along_path pair i (j ∷ l) = or_later i (pair j) (along_path pair (i + 1) l)

unfoldable pub links_at : Kinematics → List ℕ → Joints → Option LinkPair
links_at k bytes j = first_pair (meets k bytes j) 0 (links_of bytes)

abbrev pub meeting_unless : Checked → Option Meeting → Result (Option Meeting) Refusal
meeting_unless (Ok _) m = Ok m
meeting_unless (Err r) m = Err r

unfoldable pub links_meet : List ℕ → Kinematics → List ℕ → List Float → Result (Option Meeting) Refusal
links_meet name k bytes joints = meeting_unless (meeting_check name k bytes joints) (along_path (links_at k bytes) 0 (sets_in joints))
