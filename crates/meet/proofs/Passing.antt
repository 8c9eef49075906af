-- What a call that passed its checks knows of the model's links: at most 64, each whole and good, each with a carrier
-- that the chain has.
use Prim.Native.Nat.{ℕ, ◌+◌, ◌%◌, ◌≤◌}
use mathlib.Core.Path.{◌≡◌, refl, sym, ◌∙◌}
use mathlib.Core.Bool.{Bool, true, not, and-eq-true_iff}
use mathlib.Core.List.{List, [], ◌∷◌}
use lib.Dec.{eqb, leb}
use lib.ListN.{length}
use lib.Ieee.{Float}
use borrow.Author.Tests.{leb-true}
use Rattle.std.specs.Prelude.{Err, Ok}
use Rattle.lists.specs.Search.{all}
use Rattle.chain.specs.Checked.{Checked}
use Rattle.chain.specs.declared.Kinematics.{Kinematics}
use Rattle.chain.specs.Check.{demand, then, first_refusal, chain_check, joints_finite}
use Rattle.chain.proofs.Passing.{then_passed, demand_passed}
use Rattle.model.specs.declared.Link.{Link}
use Rattle.model.specs.Carrier.{carrier_kind, known}
use Rattle.model.specs.Model.{links_of, model_fields}
use Rattle.model.specs.ModelCheck.{name_check, name_of, carrier_of, named_before, link_check, link_checks, each_link, links_check, full_check}
use Rattle.model.specs.Solid.{good_solid_at, solid_good, solid_at}
use Rattle.refusal.specs.declared.Cause.{Cause}
use Rattle.extremes.specs.Summary.{sets_in}
use Rattle.meet.specs.Checking.{meeting_sizes, meeting_check}
use Rattle.meet.specs.MeetingSteps.{whole_solid}

-- ---- lists of checks
first_then : (c : Checked) (l : List Checked) → first_refusal (c ∷ l) ≡ then c (first_refusal l)
first_then (Ok _) [] = refl
first_then (Err r) [] = refl
first_then c (d ∷ l) = refl

-- ---- links
unfoldable pub carried : Kinematics → List ℕ → Link → Bool
carried k bytes l = known (carrier_kind k (carrier_of bytes l))

unfoldable pub good_link : List ℕ → Link → Bool
good_link bytes l = good_solid_at bytes l.kind

module _ (k : Kinematics) (bytes : List ℕ) where
  pub record Links (ls : List Link) : Type 0 where
    pub all_carried : all (carried k bytes) ls ≡ true
    pub all_whole : all (whole_solid bytes) ls ≡ true
    pub all_good : all (good_link bytes) ls ≡ true

  link_passed : (l : Link) (i : ℕ) → link_check k bytes l i ≡ Ok tt → (carried k bytes l ≡ true) × (good_link bytes l ≡ true)
  unfolding link_check carried good_link
  link_passed l i e =
      let a = (then_passed (name_check (name_of bytes l)) _ e).1 in
      let b = (then_passed (demand (not (named_before bytes l)) Cause.LinkNameTwice i) _ a).1 in
      let c = then_passed (demand (known (carrier_kind k (carrier_of bytes l))) Cause.CarrierUnknown i) _ b in
      (demand_passed _ Cause.CarrierUnknown i c.0, demand_passed _ Cause.SolidBad i c.1)

  good_whole : (l : Link) → good_link bytes l ≡ true → whole_solid bytes l ≡ true
  unfolding good_link good_solid_at whole_solid
  good_whole l e = ((and-eq-true_iff (leb (l.kind + 65) (length bytes)) (solid_good (solid_at bytes l.kind))).0 e).0

  each_passed : (i : ℕ) (ls : List Link) → first_refusal (link_checks k bytes i ls) ≡ Ok tt → Links ls
  unfolding link_checks all
  each_passed i [] e = record { all_carried = refl; all_whole = refl; all_good = refl }
  each_passed i (l ∷ ls) e =
      let a = then_passed (link_check k bytes l i) (first_refusal (link_checks k bytes (i + 1) ls)) (sym (first_then (link_check k bytes l i) (link_checks k bytes (i + 1) ls)) ∙ e) in
      let b = link_passed l i a.0 in
      let w = good_whole l b.1 in
      let c = each_passed (i + 1) ls a.1 in
      record { all_carried = rw (b.0, c.all_carried); all_whole = rw (w, c.all_whole); all_good = rw (b.1, c.all_good) }

pub record Sound (k : Kinematics) (bytes : List ℕ) : Type 0 where
  pub few : length (links_of bytes) ≤ 64
  pub each : Links k bytes (links_of bytes)

module _ (name : List ℕ) (k : Kinematics) (bytes : List ℕ) where
  pub full_sound : full_check name k bytes ≡ Ok tt → Sound k bytes
  unfolding full_check links_check each_link
  full_sound e =
      let a = (then_passed (model_fields bytes) _ e).1 in
      let b = (then_passed (name_check name) _ a).1 in
      let c = (then_passed (chain_check k) _ b).1 in
      let d = then_passed (demand (leb (length (links_of bytes)) 64) Cause.TooManyLinks 0) _ c in
      let f = each_passed k bytes 0 (links_of bytes) d.1 in
      record { few = leb-true (length (links_of bytes)) 64 (demand_passed _ Cause.TooManyLinks 0 d.0); each = f }

  -- all that a call that passed knows
  pub passed : (joints : List Float) → meeting_check name k bytes joints ≡ Ok tt
      → (full_check name k bytes ≡ Ok tt) × (all joints_finite (sets_in joints) ≡ true) × (meeting_sizes k bytes joints ≡ true)
  unfolding meeting_check
  passed joints e =
      let a = (then_passed (demand (eqb (length joints % 5) 0) Cause.LengthsDiffer 0) _ e).1 in
      let b = then_passed (full_check name k bytes) _ a in
      let c = then_passed (demand (all joints_finite (sets_in joints)) Cause.NotFinite 0) _ b.1 in
      (b.0, demand_passed _ Cause.NotFinite 0 c.0, demand_passed _ Cause.TooLarge 0 c.1)

  pub passed_sound : (joints : List Float) → meeting_check name k bytes joints ≡ Ok tt → Sound k bytes
  passed_sound joints e = full_sound (passed joints e).0
