-- What the answer promises: the pair meets there, and no pair does that comes before it by pose, then by the earlier
-- link, then by the later; or no pair does at any pose; or the first refusal. An element by its index is the same with
-- every default.
use Rattle.std.specs.Prelude.{Bool, true, false, List, ◌≡◌, ℕ, ◌<◌, length, get_or, Float, Err, None, Ok, Option, Result, Some}
use Rattle.refusal.specs.declared.Refusal.{Refusal}
use Rattle.chain.specs.declared.Joints.{Joints}
use Rattle.chain.specs.declared.Kinematics.{Kinematics}
use Rattle.model.specs.Model.{links_of}
use Rattle.extremes.specs.Summary.{sets_in}
use Rattle.meet.specs.Checking.{meeting_check}
use Rattle.meet.specs.Meeting.{meets}
use Rattle.meet.specs.declared.Meeting.{Meeting}

-- ---- in one list: no two elements pass
pub record NoneIn {A : Type 0} (test : A → A → Bool) (l : List A) : Type 0 where
  pub none : (a b : ℕ) (d : A) → a < b → b < length l → test (get_or l a d) (get_or l b d) ≡ false

-- the elements at f and s do, none with an earlier first one, and none with that first one and an earlier second one
pub record FirstIn {A : Type 0} (test : A → A → Bool) (l : List A) (f s : ℕ) : Type 0 where
  pub order : f < s
  pub within : s < length l
  pub pass : (d : A) → test (get_or l f d) (get_or l s d) ≡ true
  pub no_earlier : (a b : ℕ) (d : A) → a < f → a < b → b < length l → test (get_or l a d) (get_or l b d) ≡ false
  pub no_sooner : (b : ℕ) (d : A) → f < b → b < s → test (get_or l f d) (get_or l b d) ≡ false

-- ---- on a path
pub record FirstOn (k : Kinematics) (bytes : List ℕ) (l : List Joints) (pose f s : ℕ) : Type 0 where
  pub within : pose < length l
  pub there : (d : Joints) → FirstIn (meets k bytes (get_or l pose d)) (links_of bytes) f s
  pub before : (q : ℕ) (d : Joints) → q < pose → NoneIn (meets k bytes (get_or l q d)) (links_of bytes)

pub record NoneOn (k : Kinematics) (bytes : List ℕ) (l : List Joints) : Type 0 where
  pub none : (q : ℕ) (d : Joints) → q < length l → NoneIn (meets k bytes (get_or l q d)) (links_of bytes)

-- ---- the answer
abbrev pub Answered : List ℕ → Kinematics → List ℕ → List Float → Result (Option Meeting) Refusal → Type 0
Answered name k bytes joints (Ok (Some m)) = (meeting_check name k bytes joints ≡ Ok tt) × FirstOn k bytes (sets_in joints) m.pose m.first m.second
Answered name k bytes joints (Ok None) = (meeting_check name k bytes joints ≡ Ok tt) × NoneOn k bytes (sets_in joints)
Answered name k bytes joints (Err r) = meeting_check name k bytes joints ≡ Err r
