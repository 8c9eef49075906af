-- The code compares the kinds that carriers name and makes each frame once for a pose; the definition compares carrier
-- bytes and places each link by its own frame. For carriers that the chain has these are the same.
use Prim.Native.Nat.{ℕ, ◌+◌}
use native.Mathlib.Omega.{arith}
use mathlib.Core.Path.{◌≡◌, refl, sym, ap, ◌∙◌}
use mathlib.Core.Bool.{Bool, true, false, cond, and-eq-true_iff}
use mathlib.Core.List.{List, [], ◌∷◌, map}
use lib.Dec.{eqb}
use lib.ListN.{length, get_or}
use lib.Ieee.{Float}
use borrow.Author.Tests.{eqb-true, eq-eqb}
use Rattle.std.specs.Prelude.{Ok, Option}
use Rattle.lists.specs.Search.{any, all, first_hit}
use Rattle.chain.specs.declared.Joints.{Joints}
use Rattle.chain.specs.declared.Kinematics.{Kinematics}
use Rattle.chain.specs.declared.Prepared.{Prepared}
use Rattle.chain.specs.Prepared.{prepared}
use Rattle.model.specs.declared.Link.{Link}
use Rattle.model.specs.declared.LinkKind.{LinkKind}
use Rattle.model.specs.declared.LinkKind.TheVariants.{Base, Table, Head, Rotary, Unknown}
use Rattle.model.specs.Carrier.{base, table, head, rotary_named, carrier_kind, known}
use Rattle.model.specs.Frame.{frame_of, turns_forth}
use Rattle.model.specs.Model.{links_of}
use Rattle.model.specs.ModelCheck.{carrier_of}
use Rattle.model.specs.Text.{same_bytes}
use Rattle.meet.specs.Balls.{middle_at, radius_at}
use Rattle.extremes.specs.Summary.{sets_in}
use Rattle.meet.specs.Checking.{meeting_check}
use Rattle.meet.specs.Meeting.{meets, first_pair, along_path, links_at, links_meet}
use Rattle.meet.specs.MeetingSteps.{same_kind, link_ball, frames_at, frame_for, placed, near, pair_at}
use Rattle.meet.specs.declared.Ball.{Ball}
use Rattle.meet.specs.declared.LinkPair.{LinkPair}
use Rattle.meet.proofs.Passing.{carried, passed_sound}

-- ---- bytes that compare the same are the same
pub same_equal : (l m : List ℕ) → same_bytes l m ≡ true → l ≡ m
unfolding same_bytes
same_equal [] [] e = refl
same_equal [] (y ∷ m) e = cc
same_equal (x ∷ l) [] e = cc
same_equal (x ∷ l) (y ∷ m) e =
    let a = (and-eq-true_iff (eqb x y) (same_bytes l m)).0 e in
    rw (eqb-true x y a.0, same_equal l m a.1)

pub same_self : (l : List ℕ) → same_bytes l l ≡ true
unfolding same_bytes
same_self [] = refl
same_self (x ∷ l) = rw (eq-eqb x x refl, same_self l)

-- ---- kinds that compare the same are the same
kind_equal : (a b : LinkKind) → same_kind a b ≡ true → a ≡ b
kind_equal Base Base e = refl
kind_equal Table Table e = refl
kind_equal Head Head e = refl
kind_equal (Rotary i) (Rotary j) e = ap Rotary (eqb-true i j e)
kind_equal Unknown Unknown e = refl
kind_equal a b e = cc

kind_self : (a : LinkKind) → same_kind a a ≡ true
kind_self (Rotary i) = eq-eqb i i refl
kind_self a = refl

-- ---- the bytes of each kind
pub carrier_from : Kinematics → LinkKind → List ℕ
carrier_from k Base = base
carrier_from k Table = table
carrier_from k Head = head
carrier_from k (Rotary i) = cond (eqb i 0) (k.first.letter ∷ []) (k.second.letter ∷ [])
carrier_from k Unknown = []

pub Named : Kinematics → List ℕ → LinkKind → Type 0
Named k c kind = known kind ≡ true → c ≡ carrier_from k kind

by_test : (P : LinkKind → Type 0) (b : Bool) (x y : LinkKind) → (b ≡ true → P x) → P y → P (cond b x y)
by_test P true x y f g = f refl
by_test P false x y f g = g

one_byte : (c : List ℕ) → length c ≡ 1 → c ≡ get_or c 0 0 ∷ []
one_byte [] h = absurd (omega arith)
one_byte (x ∷ []) h = refl
one_byte (x ∷ y ∷ c) h = absurd (omega arith)

module _ (k : Kinematics) (c : List ℕ) where
  unknown_named : Named k c Unknown
  unfolding Named
  unknown_named e = cc

  letter_named : length c ≡ 1 → Named k c (rotary_named k (get_or c 0 0))
  unfolding rotary_named Named carrier_from
  letter_named h =
      by_test (Named k c) (eqb k.first.letter (get_or c 0 0)) (Rotary 0) _
      (λ e q. rw (eqb-true k.first.letter (get_or c 0 0) e) (one_byte c h))
      (by_test (Named k c) (eqb k.count 2) (cond (eqb k.second.letter (get_or c 0 0)) (Rotary 1) Unknown) Unknown
      (λ f. by_test (Named k c) (eqb k.second.letter (get_or c 0 0)) (Rotary 1) Unknown
      (λ e q. rw (eqb-true k.second.letter (get_or c 0 0) e) (one_byte c h))
      unknown_named)
      unknown_named)

  pub named : Named k c (carrier_kind k c)
  unfolding carrier_kind Named carrier_from
  named =
      by_test (Named k c) (same_bytes c base) Base _ (λ e q. same_equal c base e)
      (by_test (Named k c) (same_bytes c table) Table _ (λ e q. same_equal c table e)
      (by_test (Named k c) (same_bytes c head) Head _ (λ e q. same_equal c head e)
      (by_test (Named k c) (eqb (length c) 1) (rotary_named k (get_or c 0 0)) Unknown (λ e. letter_named (eqb-true (length c) 1 e)) unknown_named)))

both_ways : (x y : Bool) → (x ≡ true → y ≡ true) → (y ≡ true → x ≡ true) → x ≡ y
both_ways true y f g = sym (f refl)
both_ways false true f g = g refl
both_ways false false f g = refl

-- two carriers that the chain has are the same exactly if their kinds are
module _ (k : Kinematics) (c d : List ℕ) (p : known (carrier_kind k c) ≡ true) (q : known (carrier_kind k d) ≡ true) where
  one_kind : same_kind (carrier_kind k c) (carrier_kind k d) ≡ true → c ≡ d
  unfolding Named
  one_kind e = named k c p ∙ ap (carrier_from k) (kind_equal (carrier_kind k c) (carrier_kind k d) e) ∙ sym (named k d q)

  pub same_carrier : same_kind (carrier_kind k c) (carrier_kind k d) ≡ same_bytes c d
  same_carrier =
      both_ways _ _ (λ e. ap (same_bytes c) (sym (one_kind e)) ∙ same_self c)
      (λ e. ap (λ (b : List ℕ). same_kind (carrier_kind k c) (carrier_kind k b)) (sym (same_equal c d e)) ∙ kind_self (carrier_kind k c))

-- ---- the frame of a kind is that of every link that it carries
module _ (p : Prepared) (j : Joints) where
  abbrev Framed : LinkKind → Type 0
  Framed kind = frame_for (frames_at p j) kind ≡ frame_of p (turns_forth j.a0 j.a1) j.xyz kind

  base_framed : Framed Base
  unfolding frames_at
  base_framed = refl

  table_framed : Framed Table
  unfolding frames_at
  table_framed = refl

  head_framed : Framed Head
  unfolding frames_at
  head_framed = refl

  first_framed : Framed (Rotary 0)
  unfolding frames_at
  first_framed = refl

  second_framed : Framed (Rotary 1)
  unfolding frames_at
  second_framed = refl

  unknown_framed : Framed Unknown
  unfolding frames_at
  unknown_framed = refl

  pub framed : (k : Kinematics) (c : List ℕ) → frame_for (frames_at p j) (carrier_kind k c) ≡ frame_of p (turns_forth j.a0 j.a1) j.xyz (carrier_kind k c)
  unfolding carrier_kind rotary_named
  framed k c =
      by_test Framed (same_bytes c base) Base _ (λ e. base_framed)
      (by_test Framed (same_bytes c table) Table _ (λ e. table_framed)
      (by_test Framed (same_bytes c head) Head _ (λ e. head_framed)
      (by_test Framed (eqb (length c) 1) _ Unknown
      (λ e. by_test Framed (eqb k.first.letter (get_or c 0 0)) (Rotary 0) _ (λ f. first_framed)
      (by_test Framed (eqb k.count 2) (cond (eqb k.second.letter (get_or c 0 0)) (Rotary 1) Unknown) Unknown
      (λ f. by_test Framed (eqb k.second.letter (get_or c 0 0)) (Rotary 1) Unknown (λ g. second_framed) unknown_framed)
      unknown_framed))
      unknown_framed)))

-- ---- two links
module _ (k : Kinematics) (bytes : List ℕ) (j : Joints) where
  abbrev pub spot : Link → Ball
  spot l = placed (frames_at (prepared k) j) (link_ball k bytes l)

  pub near_meets : (l m : Link) → carried k bytes l ≡ true → carried k bytes m ≡ true → near (spot l) (spot m) ≡ meets k bytes j l m
  unfolding near placed link_ball meets middle_at radius_at carried
  near_meets l m p q =
      rw (framed (prepared k) j k (carrier_of bytes l), framed (prepared k) j k (carrier_of bytes m), same_carrier k (carrier_of bytes l) (carrier_of bytes m) p q)

-- ---- a search over what a list is turned into
pub map_map : {A B C : Type 0} (f : B → C) (g : A → B) (l : List A) → map f (map g l) ≡ map (λ (x : A). f (g x)) l
map_map f g [] = refl
map_map {A} {B} {C} f g (x ∷ l) = ap (λ (m : List C). f (g x) ∷ m) (map_map f g l)

module _ {A B : Type 0} (f : A → B) (test : B → B → Bool) (asked : A → A → Bool) (good : A → Bool) (agree : (x y : A) → good x ≡ true → good y ≡ true → test (f x) (f y) ≡ asked x y) where
  any_agree : (x : A) (l : List A) → good x ≡ true → all good l ≡ true → any (test (f x)) (map f l) ≡ any (asked x) l
  unfolding any all
  any_agree x [] p q = refl
  any_agree x (y ∷ l) p q =
      let a = (and-eq-true_iff (good y) (all good l)).0 q in
      rw (agree x y p a.0, any_agree x l p a.1)

  hit_agree : (x : A) (l : List A) → good x ≡ true → all good l ≡ true → first_hit (test (f x)) (map f l) ≡ first_hit (asked x) l
  unfolding first_hit all
  hit_agree x [] p q = refl
  hit_agree x (y ∷ l) p q =
      let a = (and-eq-true_iff (good y) (all good l)).0 q in
      rw (agree x y p a.0, hit_agree x l p a.1)

  pub pair_agree : (i : ℕ) (l : List A) → all good l ≡ true → first_pair test i (map f l) ≡ first_pair asked i l
  unfolding first_pair all
  pair_agree i [] q = refl
  pair_agree i (x ∷ l) q =
      let a = (and-eq-true_iff (good x) (all good l)).0 q in
      rw (any_agree x l a.0 a.1, hit_agree x l a.0 a.1, pair_agree (i + 1) l a.1)

pub pose_agree : (k : Kinematics) (bytes : List ℕ) (j : Joints) → all (carried k bytes) (links_of bytes) ≡ true
    → pair_at (prepared k) (map (link_ball k bytes) (links_of bytes)) j ≡ links_at k bytes j
unfolding pair_at links_at
pose_agree k bytes j h =
    ap (first_pair near 0) (map_map (placed (frames_at (prepared k) j)) (link_ball k bytes) (links_of bytes))
    ∙ pair_agree (spot k bytes j) near (meets k bytes j) (carried k bytes) (near_meets k bytes j) 0 (links_of bytes) h

pub path_agree : (pair asked : Joints → Option LinkPair) → ((j : Joints) → pair j ≡ asked j) → (i : ℕ) (l : List Joints) → along_path pair i l ≡ along_path asked i l
unfolding along_path
path_agree pair asked f i [] = refl
path_agree pair asked f i (j ∷ l) = rw (f j, path_agree pair asked f (i + 1) l)

-- ---- the answer of a call that passed
pub meeting_agree : (name : List ℕ) (k : Kinematics) (bytes : List ℕ) (joints : List Float) (p : Prepared) (balls : List Ball) → meeting_check name k bytes joints ≡ Ok tt → p ≡ prepared k
    → balls ≡ map (link_ball k bytes) (links_of bytes) → Ok (along_path (pair_at p balls) 0 (sets_in joints)) ≡ links_meet name k bytes joints
unfolding links_meet
meeting_agree name k bytes joints p balls h e f =
    let s = passed_sound name k bytes joints h in
    rw (h, e, f) (ap Ok (path_agree (pair_at (prepared k) (map (link_ball k bytes) (links_of bytes))) (links_at k bytes) (λ j. pose_agree k bytes j s.each.all_carried) 0 (sets_in joints)))
