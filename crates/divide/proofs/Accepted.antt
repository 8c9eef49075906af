-- A division that is accepted, taken apart: the checks that pass, the space for what is given, and the halving that is
-- done.
use Prim.Native.Nat.{ℕ, ◌≤◌}
use mathlib.Core.Path.{◌≡◌, refl, ap}
use mathlib.Core.Bool.{Bool, true, false, cond, false≢true}
use mathlib.Core.List.{List}
use borrow.Author.Tests.{leb-true, le-leb}
use lib.Dec.{leb}
use lib.Ieee.{Float}
use lib.ListN.{length}
use Rattle.std.specs.Prelude.{Err, Ok}
use Rattle.chain.specs.Checked.{Checked}
use Rattle.chain.specs.declared.Kinematics.{Kinematics}
use Rattle.chain.specs.Prepared.{prepared}
use Rattle.halving.specs.Halving.{Answer, Done, TooMany, NoSpace, halve}
use Rattle.halving.proofs.Ends as Ends
use Rattle.middle.specs.declared.Item.{Item}
use Rattle.middle.specs.declared.Tolerances.{Tolerances}
use Rattle.middle.specs.Testing.{midpoint, divides}
use Rattle.turn.specs.Items.{space_in}
use Rattle.turn.specs.Turning.{most}
use Rattle.machine.specs.Dividing.{division}
use Rattle.divide.specs.Checking.{division_check}
use Rattle.divide.specs.Subdividing.{DivisionAnswer, Kept, AtPose, Cleared, Halved, given, division_within, unless_kept, subdivide_path}
use Rattle.divide.proofs.Lengths.{AllPass, all_pass, all_passed}

abbrev pub is_halved : DivisionAnswer → Bool
is_halved (Kept r) = false
is_halved (AtPose r) = false
is_halved (Cleared r) = false
is_halved (Halved a) = true

abbrev answer_in : DivisionAnswer → Answer Item
answer_in (Kept r) = NoSpace 0
answer_in (AtPose r) = NoSpace 0
answer_in (Cleared r) = NoSpace 0
answer_in (Halved a) = a

unless_passed : (c : Checked) (a b : Answer Item) → unless_kept c (Halved a) ≡ Halved b → (c ≡ Ok tt) × (a ≡ b)
unless_passed (Ok _) a b e = (refl, ap answer_in e)
unless_passed (Err r) a b e = absurd (false≢true (ap is_halved e))

abbrev is_done : Answer Item → Bool
is_done (Done n l) = true
is_done (TooMany n) = false
is_done (NoSpace n) = false

within_done : (b : Bool) (a : Answer Item) (n : ℕ) (r : List Item) → cond b a (NoSpace 0) ≡ Done n r → (b ≡ true) × (a ≡ Done n r)
within_done true a n r e = (refl, e)
within_done false a n r e = absurd (false≢true (ap is_done e))

pub record Accepted (k : Kinematics) (tol : Tolerances) (poses joints : List Float) (roomPoses roomJoints n : ℕ) (r : List Item) : Type 0 where
  pub checks : AllPass k tol poses joints roomPoses roomJoints
  pub room : length (given poses joints) ≤ space_in roomPoses roomJoints
  pub done : halve (divides (prepared k) tol) (midpoint (prepared k)) (space_in roomPoses roomJoints) most 0 (given poses joints) ≡ Done n r

module _ (k : Kinematics) (tol : Tolerances) (poses joints : List Float) (roomPoses roomJoints n : ℕ) (r : List Item) where
  pub accepted_parts : subdivide_path k tol poses joints roomPoses roomJoints ≡ Halved (Done n r) → Accepted k tol poses joints roomPoses roomJoints n r
  unfolding subdivide_path division_within division
  accepted_parts e =
      let g = given poses joints in
      let space = space_in roomPoses roomJoints in
      let p = unless_passed (division_check k tol poses joints roomPoses roomJoints) (division_within (prepared k) tol space g) (Done n r) e in
      let q = within_done (leb (length g) space) (division (prepared k) tol space g) n r p.1 in
      record { checks = all_pass k tol poses joints roomPoses roomJoints p.0; room = leb-true (length g) space q.0; done = q.1 }

  pub accepted_of : Accepted k tol poses joints roomPoses roomJoints n r → subdivide_path k tol poses joints roomPoses roomJoints ≡ Halved (Done n r)
  unfolding subdivide_path division_within division
  accepted_of a =
      rw (all_passed k tol poses joints roomPoses roomJoints a.checks, le-leb (length (given poses joints)) (space_in roomPoses roomJoints) a.room, a.done)

  pub accepted_result : Accepted k tol poses joints roomPoses roomJoints n r
      → Ends.Result (divides (prepared k) tol) (midpoint (prepared k)) (space_in roomPoses roomJoints) most (given poses joints) n r
  accepted_result a = Ends.result (divides (prepared k) tol) (midpoint (prepared k)) (space_in roomPoses roomJoints) most n (given poses joints) r a.room a.done
