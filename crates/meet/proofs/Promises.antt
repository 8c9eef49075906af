-- The answer keeps its promise: a pair that is given meets there and is the first, by pose, then by the earlier link,
-- then by the later; where none is given no pair meets at any pose. The middles stand where `link_world` puts them, and
-- every cylinder's axis has a direction.
use Prim.Native.Nat.{ℕ, zero, suc, ◌+◌, ◌≤◌, ◌<◌}
use native.Mathlib.Nat.{zero-add}
use native.Mathlib.Omega.{arith}
use mathlib.Core.Path.{◌≡◌, refl, sym, ap, ◌∙◌, subst}
use mathlib.Core.Bool.{Bool, true, false, cond, ◌&&◌, and-eq-true_iff, false≢true}
use mathlib.Core.List.{List, [], ◌∷◌}
use lib.Dec.{leb}
use lib.ListN.{length, get_or}
use lib.Ieee.{Float}
use borrow.Author.Tests.{ltb-true, ltb-false}
use Rattle.std.specs.Prelude.{Err, None, Ok, Option, Result, Some}
use Rattle.lists.specs.Search.{any, all, first_hit}
use Rattle.lists.proofs.Search.{any_within, first_hit_there, first_hit_before, all_true}
use Rattle.refusal.specs.declared.Refusal.{Refusal}
use Rattle.geometry.specs.declared.Vec3.{Vec3}
use Rattle.geometry.specs.Direction.{all_finite, unit_direction, unit_or, along}
use Rattle.chain.specs.Checked.{Checked}
use Rattle.chain.specs.declared.Joints.{Joints}
use Rattle.chain.specs.declared.Kinematics.{Kinematics}
use Rattle.chain.specs.Check.{joints_finite, joints_within, chain_within, served, has_direction}
use Rattle.chain.specs.Prepared.{unit_axis}
use Rattle.model.specs.declared.Link.{Link}
use Rattle.model.specs.declared.LinkSolid.TheVariants.{Cylinder}
use Rattle.model.specs.Carrier.{carrier_kind, known}
use Rattle.model.specs.Frame.{frame_sizes, frame_check, world_frame, link_world}
use Rattle.model.specs.Model.{links_of}
use Rattle.model.specs.ModelCheck.{carrier_of}
use Rattle.model.specs.Solid.{solid_at, positive, cylinder_good, solid_good, good_solid_at}
use Rattle.extremes.specs.Summary.{sets_in}
use Rattle.meet.specs.Checking.{meeting_check, meeting_sizes, small_link}
use Rattle.meet.specs.First.{NoneIn, FirstIn, Answered}
use Rattle.meet.specs.Meeting.{link_pair, meets, first_pair, or_later, along_path, links_at, meeting_unless, links_meet}
use Rattle.meet.specs.declared.Meeting.{Meeting}
use Rattle.meet.specs.declared.LinkPair.{LinkPair}
use Rattle.meet.proofs.Passing.{carried, good_link, passed, passed_sound}

-- ---- one list, from an index on
record Found {A : Type 0} (test : A → A → Bool) (i : ℕ) (l : List A) (f s : ℕ) : Type 0 where
  a : ℕ
  b : ℕ
  f_is : f ≡ i + a
  s_is : s ≡ i + b
  first : FirstIn test l a b

abbrev ByPair : {A : Type 0} → (A → A → Bool) → ℕ → List A → Option LinkPair → Type 0
ByPair test i l (Some p) = Found test i l p.first p.second
ByPair test i l None = NoneIn test l

module _ {A : Type 0} (test : A → A → Bool) where
  module _ (x : A) (l : List A) where
    -- x meets one of the others
    hit : any (test x) l ≡ true → FirstIn test (x ∷ l) 0 (suc (first_hit (test x) l))
    hit e =
        let p : first_hit (test x) l < length l = ltb-true (first_hit (test x) l) (length l) (sym (any_within (test x) l) ∙ e) in
        record {
          order = omega arith;
          within = omega arith;
          pass = λ d. first_hit_there (test x) l d p;
          no_earlier = λ a b d q r t. absurd (omega arith);
          no_sooner = sooner;
        }
      where
        sooner : (b : ℕ) (d : A) → 0 < b → b < suc (first_hit (test x) l) → test x (get_or (x ∷ l) b d) ≡ false
        sooner zero d q r = absurd (omega arith)
        sooner (suc b) d q r = first_hit_before (test x) l b d (omega arith)

    -- x meets none
    missed : any (test x) l ≡ false → (b : ℕ) (d : A) → 0 < b → b < suc (length l) → test x (get_or (x ∷ l) b d) ≡ false
    missed e zero d q r = absurd (omega arith)
    missed e (suc b) d q r =
        let p : length l ≤ first_hit (test x) l = ltb-false (first_hit (test x) l) (length l) (sym (any_within (test x) l) ∙ e) in
        first_hit_before (test x) l b d (omega arith)

    none_more : any (test x) l ≡ false → NoneIn test l → NoneIn test (x ∷ l)
    none_more e n = record { none = go }
      where
        go : (a b : ℕ) (d : A) → a < b → b < suc (length l) → test (get_or (x ∷ l) a d) (get_or (x ∷ l) b d) ≡ false
        go zero b d q r = missed e b d q r
        go (suc a) zero d q r = absurd (omega arith)
        go (suc a) (suc b) d q r = n.none a b d (omega arith) (omega arith)

    first_more : {f s : ℕ} → any (test x) l ≡ false → FirstIn test l f s → FirstIn test (x ∷ l) (suc f) (suc s)
    first_more {f} {s} e n =
        let o = n.order in
        let w = n.within in
        record { order = omega arith; within = omega arith; pass = λ d. n.pass d; no_earlier = earlier; no_sooner = sooner }
      where
        earlier : (a b : ℕ) (d : A) → a < suc f → a < b → b < suc (length l) → test (get_or (x ∷ l) a d) (get_or (x ∷ l) b d) ≡ false
        earlier zero b d p q r = missed e b d q r
        earlier (suc a) zero d p q r = absurd (omega arith)
        earlier (suc a) (suc b) d p q r = n.no_earlier a b d (omega arith) (omega arith) (omega arith)

        sooner : (b : ℕ) (d : A) → suc f < b → b < suc s → test (get_or l f d) (get_or (x ∷ l) b d) ≡ false
        sooner zero d p q = absurd (omega arith)
        sooner (suc b) d p q = n.no_sooner b d (omega arith) (omega arith)

    later : (i : ℕ) (r : Option LinkPair) → any (test x) l ≡ false → ByPair test (i + 1) l r → ByPair test i (x ∷ l) r
    later i (Some p) e g =
        let u = g.f_is in
        let v = g.s_is in
        record { a = suc g.a; b = suc g.b; f_is = omega arith; s_is = omega arith; first = first_more e g.first }
    later i None e g = none_more e g

    by_test : (i : ℕ) (b : Bool) → any (test x) l ≡ b → ByPair test (i + 1) l (first_pair test (i + 1) l)
        → ByPair test i (x ∷ l) (cond b (Some (link_pair i (i + 1 + first_hit (test x) l))) (first_pair test (i + 1) l))
    by_test i true e g = record { a = 0; b = suc (first_hit (test x) l); f_is = omega arith; s_is = omega arith; first = hit e }
    by_test i false e g = later i (first_pair test (i + 1) l) e g

  by_pair : (i : ℕ) (l : List A) → ByPair test i l (first_pair test i l)
  unfolding first_pair
  by_pair i [] = record { none = λ a b d p q. absurd (omega arith) }
  by_pair i (x ∷ l) = by_test x l i (any (test x) l) refl (by_pair (i + 1) l)

  pub pair_first : {f s : ℕ} (l : List A) → first_pair test 0 l ≡ Some (link_pair f s) → FirstIn test l f s
  pair_first {f} {s} l e =
      let g : Found test 0 l f s = subst (ByPair test 0 l) e (by_pair 0 l) in
      let u : g.a ≡ f = sym (g.f_is ∙ zero-add g.a) in
      let v : g.b ≡ s = sym (g.s_is ∙ zero-add g.b) in
      rw (u, v) at g.first

  pub pair_none : (l : List A) → first_pair test 0 l ≡ None → NoneIn test l
  pair_none l e = subst (ByPair test 0 l) e (by_pair 0 l)

-- ---- along the path, from an index on
record Stopped (pair : Joints → Option LinkPair) (i : ℕ) (l : List Joints) (pose f s : ℕ) : Type 0 where
  a : ℕ
  pose_is : pose ≡ i + a
  within : a < length l
  there : (d : Joints) → pair (get_or l a d) ≡ Some (link_pair f s)
  before : (q : ℕ) (d : Joints) → q < a → pair (get_or l q d) ≡ None

record Nowhere (pair : Joints → Option LinkPair) (l : List Joints) : Type 0 where
  none : (q : ℕ) (d : Joints) → q < length l → pair (get_or l q d) ≡ None

abbrev ByPose : (Joints → Option LinkPair) → ℕ → List Joints → Option Meeting → Type 0
ByPose pair i l (Some m) = Stopped pair i l m.pose m.first m.second
ByPose pair i l None = Nowhere pair l

module _ (pair : Joints → Option LinkPair) where
  module _ (j : Joints) (l : List Joints) (apart : pair j ≡ None) where
    on : (i : ℕ) (m : Option Meeting) → ByPose pair (i + 1) l m → ByPose pair i (j ∷ l) m
    on i (Some m) g =
        let u = g.pose_is in
        let w = g.within in
        record { a = suc g.a; pose_is = omega arith; within = omega arith; there = λ d. g.there d; before = go }
      where
        go : (q : ℕ) (d : Joints) → q < suc g.a → pair (get_or (j ∷ l) q d) ≡ None
        go zero d h = apart
        go (suc q) d h = g.before q d (omega arith)
    on i None g = record { none = go }
      where
        go : (q : ℕ) (d : Joints) → q < suc (length l) → pair (get_or (j ∷ l) q d) ≡ None
        go zero d h = apart
        go (suc q) d h = g.none q d (omega arith)

  by_answer : (j : Joints) (l : List Joints) (i : ℕ) (r : Option LinkPair) (m : Option Meeting) → pair j ≡ r → ByPose pair (i + 1) l m → ByPose pair i (j ∷ l) (or_later i r m)
  by_answer j l i (Some p) m e g = record { a = 0; pose_is = omega arith; within = omega arith; there = λ d. e; before = λ q d h. absurd (omega arith) }
  by_answer j l i None m e g = on j l e i m g

  by_pose : (i : ℕ) (l : List Joints) → ByPose pair i l (along_path pair i l)
  unfolding along_path
  by_pose i [] = record { none = λ q d h. absurd (omega arith) }
  by_pose i (j ∷ l) = by_answer j l i (pair j) (along_path pair (i + 1) l) refl (by_pose (i + 1) l)

-- ---- a unit vector
directed : (v : Vec3) → has_direction v ≡ true → unit_direction v ≡ Some (unit_axis v)
unfolding has_direction unit_axis unit_or
directed v h = go (unit_direction v) h
  where
    go : (d : Option Vec3) → served d ≡ true → d ≡ Some (along d v (λ u. u))
    go (Some u) h = refl
    go None h = absurd (false≢true h)

-- ---- the answer
module _ (name : List ℕ) (k : Kinematics) (bytes : List ℕ) (joints : List Float) where
  there_first : (j : Joints) (f s : ℕ) → links_at k bytes j ≡ Some (link_pair f s) → FirstIn (meets k bytes j) (links_of bytes) f s
  unfolding links_at
  there_first j f s e = pair_first (meets k bytes j) (links_of bytes) e

  there_none : (j : Joints) → links_at k bytes j ≡ None → NoneIn (meets k bytes j) (links_of bytes)
  unfolding links_at
  there_none j e = pair_none (meets k bytes j) (links_of bytes) e

  told : (m : Option Meeting) → meeting_check name k bytes joints ≡ Ok tt → ByPose (links_at k bytes) 0 (sets_in joints) m → Answered name k bytes joints (Ok m)
  told (Some m) h g =
      let u : g.a ≡ m.pose = sym (g.pose_is ∙ zero-add g.a) in (
        h,
        record {
          within = rw u at g.within;
          there = λ d. rw u at (there_first (get_or (sets_in joints) g.a d) m.first m.second (g.there d));
          before = λ q d p. there_none (get_or (sets_in joints) q d) (g.before q d (rw u p));
        },
      )
  told None h g = (h, record { none = λ q d p. there_none (get_or (sets_in joints) q d) (g.none q d p) })

  by_check : (c : Checked) → meeting_check name k bytes joints ≡ c → Answered name k bytes joints (meeting_unless c (along_path (links_at k bytes) 0 (sets_in joints)))
  by_check (Ok _) h = told (along_path (links_at k bytes) 0 (sets_in joints)) h (by_pose (links_at k bytes) 0 (sets_in joints))
  by_check (Err r) h = h

  pub answered : Answered name k bytes joints (links_meet name k bytes joints)
  unfolding links_meet
  answered = by_check (meeting_check name k bytes joints) refl

  pub with_promise : {m : Result (Option Meeting) Refusal} → m ≡ links_meet name k bytes joints → (m ≡ links_meet name k bytes joints) × Answered name k bytes joints m
  with_promise e = (e, subst (Answered name k bytes joints) (sym e) answered)

  pub refused_is : {r : Refusal} → meeting_check name k bytes joints ≡ Err r → Err r ≡ links_meet name k bytes joints
  unfolding links_meet
  refused_is e = rw e

  -- no pose, or fewer than two links: none, after all checks
  pub empty_path : sets_in joints ≡ [] → meeting_check name k bytes joints ≡ Ok tt → links_meet name k bytes joints ≡ Ok None
  unfolding links_meet along_path
  empty_path e h = rw (h, e)

  -- every middle is placed by `link_world`
  pub placed_by_link_world : meeting_check name k bytes joints ≡ Ok tt → (q i : ℕ) (d : Joints) (e : Link) → q < length (sets_in joints) → i < length (links_of bytes)
      → link_world name k bytes (get_or (sets_in joints) q d) (carrier_of bytes (get_or (links_of bytes) i e)) ≡ Ok (world_frame k (get_or (sets_in joints) q d) (carrier_of bytes (get_or (links_of bytes) i e)))
  unfolding link_world frame_check frame_sizes meeting_sizes carried
  placed_by_link_world h q i d e p r =
      let a = passed name k bytes joints h in
      let s = passed_sound name k bytes joints h in
      let z = ((and-eq-true_iff (chain_within k && all joints_within (sets_in joints)) (all (small_link bytes) (links_of bytes))).0 a.2).0 in
      let y = (and-eq-true_iff (chain_within k) (all joints_within (sets_in joints))).0 z in
      let finite : joints_finite (get_or (sets_in joints) q d) ≡ true = (all_true joints_finite (sets_in joints) d).0 a.1 q p in
      let inside : joints_within (get_or (sets_in joints) q d) ≡ true = (all_true joints_within (sets_in joints) d).0 y.1 q p in
      let has : known (carrier_kind k (carrier_of bytes (get_or (links_of bytes) i e))) ≡ true = (all_true (carried k bytes) (links_of bytes) e).0 s.each.all_carried i r in
      rw (a.0, finite, inside, has, y.0)

  -- the axis of every cylinder has a direction, and the unit vector is that of this direction
  pub no_fallback : meeting_check name k bytes joints ≡ Ok tt → (i : ℕ) (e : Link) {base axis : Vec3} {radius long : Float} → i < length (links_of bytes)
      → solid_at bytes (get_or (links_of bytes) i e).kind ≡ Cylinder base axis radius long → unit_direction axis ≡ Some (unit_axis axis)
  unfolding good_link good_solid_at cylinder_good
  no_fallback h i e {base} {axis} {radius} {long} p c =
      let s = passed_sound name k bytes joints h in
      let l = get_or (links_of bytes) i e in
      let good : good_link bytes l ≡ true = (all_true (good_link bytes) (links_of bytes) e).0 s.each.all_good i p in
      let solid : solid_good (solid_at bytes l.kind) ≡ true = ((and-eq-true_iff (leb (l.kind + 65) (length bytes)) (solid_good (solid_at bytes l.kind))).0 good).1 in
      let round : cylinder_good base axis radius long ≡ true = rw c at solid in
      directed axis ((and-eq-true_iff (all_finite base && all_finite axis && positive radius && positive long) (has_direction axis)).0 round).1

few_pairs : {A : Type 0} (test : A → A → Bool) (l : List A) → length l ≤ 1 → first_pair test 0 l ≡ None
unfolding first_pair any
few_pairs test [] h = refl
few_pairs test (x ∷ []) h = refl
few_pairs test (x ∷ y ∷ l) h = absurd (omega arith)

all_apart : (pair : Joints → Option LinkPair) → ((j : Joints) → pair j ≡ None) → (i : ℕ) (l : List Joints) → along_path pair i l ≡ None
unfolding along_path
all_apart pair f i [] = refl
all_apart pair f i (j ∷ l) = rw (f j, all_apart pair f (i + 1) l)

pub few_links : (name : List ℕ) (k : Kinematics) (bytes : List ℕ) (joints : List Float) → length (links_of bytes) ≤ 1 → meeting_check name k bytes joints ≡ Ok tt
    → links_meet name k bytes joints ≡ Ok None
unfolding links_meet links_at
few_links name k bytes joints e h = rw h (ap Ok (all_apart (links_at k bytes) (λ j. few_pairs (meets k bytes j) (links_of bytes) e) 0 (sets_in joints)))
