-- The searches: for the first pair, by the library's `find_map`, and along the path, by a loop: a record for its
-- invariant, and a law each for its start, its step, a find and its end.
use Prim.Native.Nat.{ℕ, zero, suc, ◌+◌, ◌-◌, ◌/◌, ◌≤◌, ◌<◌}
use native.Mathlib.Numerals.{add-one}
use native.Mathlib.Omega.{arith}
use mathlib.Core.Path.{◌≡◌, refl, sym, ap, ◌∙◌}
use mathlib.Core.Bool.{Bool, true, false, cond}
use mathlib.Core.List.{List, [], ◌∷◌, map}
use lib.Dec.{ltb}
use Rattle.std.proofs.Math.Seq.{take-length}
use Rattle.std.proofs.lemmas.List.{length-drop}
use lib.ListN.{length, take, drop, get_or, drop_of_length-le}
use lib.Seq.{drop-cons}
use Rattle.std.proofs.Common.{Option, Some, None}
use Rattle.std.specs.List.{position, position_or_len, range_with_len}
use Rattle.std.proofs.lemmas.List.Recursion.{is_position_or_len}
use Rattle.lists.proofs.Search.{any_within}
use lib.Ieee.{Float}
use Rattle.std.specs.Simd.{first_chunks}
use Rattle.lists.specs.Rows.{rows}
use Rattle.lists.specs.Search.{any, first_hit}
use Rattle.chain.specs.declared.Joints.{Joints}
use Rattle.turn.specs.Items.{joints_from, joints_in}
use Rattle.turn.proofs.Chunks.{front}
use Rattle.extremes.specs.Summary.{sets_in}
use Rattle.extremes.proofs.FirstSome.{either, first_some}
use Rattle.meet.specs.Meeting.{link_pair, meeting_at, first_pair, along_path, or_later}
use Rattle.meet.specs.MeetingSteps.{near, pair_behind, pair_of}
use Rattle.meet.specs.declared.Ball.{Ball}
use Rattle.meet.specs.declared.LinkPair.{LinkPair}

-- ---- the first element that passes, by the library's search
module _ {A : Type 0} (test : A → Bool) (l : List A) where
  same_place : first_hit test l ≡ position_or_len test l
  unfolding first_hit
  same_place = is_position_or_len (first_hit test) test refl (λ x xs. ap (cond (test x) 0) (omega arith)) l

  told : (b : Bool) (n : ℕ) {i : ℕ} → cond b (Some n) None ≡ Some i → (b ≡ true) × (n ≡ i)
  told true n e = (refl, cc)
  told false n e = cc

  untold : (b : Bool) (n : ℕ) → cond b (Some n) None ≡ None → b ≡ false
  untold true n e = cc
  untold false n e = refl

  passes : any test l ≡ ltb (position_or_len test l) (length l)
  passes = any_within test l ∙ ap (λ n. ltb n (length l)) same_place

  found : {i : ℕ} → position test l ≡ Some i → (any test l ≡ true) × (first_hit test l ≡ i)
  found e =
      let t = told (ltb (position_or_len test l) (length l)) (position_or_len test l) e in
      (passes ∙ t.0, same_place ∙ t.1)

  missed : position test l ≡ None → any test l ≡ false
  missed e = passes ∙ untold (ltb (position_or_len test l) (length l)) (position_or_len test l) e

-- ---- the first pair, by the first ball that has one
to_end : {A : Type 0} (l : List A) (n : ℕ) → take (length l - n) (drop n l) ≡ drop n l
to_end l n =
    let e : length l - n ≡ length (drop n l) = sym (length-drop n l) in
    rw e (take-length (drop n l))

pair_seen : (i : ℕ) (b : Ball) (later : List Ball) (rest : Option LinkPair)
    → either (pair_behind i (position (near b) later)) rest ≡ cond (any (near b) later) (Some (link_pair i (i + 1 + first_hit (near b) later))) rest
pair_seen i b later rest = go (position (near b) later) refl
  where
    go : (o : Option ℕ) → position (near b) later ≡ o
        → either (pair_behind i o) rest ≡ cond (any (near b) later) (Some (link_pair i (i + 1 + first_hit (near b) later))) rest
    go (Some k) e = let f = found (near b) later e in rw (f.0, f.1)
    go None e = rw (missed (near b) later e)

-- the ball at an index, by what stands behind it
pub pair_there : (l : List Ball) (i : ℕ) (d : Ball) → i < length l
    → pair_of l i ≡ pair_behind i (position (near (get_or l i d)) (take (length l - (i + 1)) (drop (i + 1) l)))
unfolding pair_of
pair_there l i d within =
    let here : drop i l ≡ get_or l i d ∷ drop (i + 1) l = rw add-one (drop-cons l i d within) in
    rw (here, to_end l (i + 1))

module _ (l : List Ball) (d : Ball) where
  pairs_left : (m i : ℕ) → i + m ≡ length l → first_some (pair_of l) (range_with_len i m) ≡ first_pair near i (drop i l)
  unfolding first_pair pair_of
  pairs_left zero i e =
      let p : length l ≤ i = omega (arith, e) in
      rw (drop_of_length-le l p)
  pairs_left (suc m) i e =
      let b = get_or l i d in
      let behind = drop (i + 1) l in
      let here : drop i l ≡ b ∷ behind = rw add-one (drop-cons l i d (omega (arith, e))) in
      let later : first_some (pair_of l) (range_with_len (i + 1) m) ≡ first_pair near (i + 1) behind = pairs_left m (i + 1) (omega (arith, e)) in
      rw (here, later) (pair_seen i b behind (first_pair near (i + 1) behind))

pub pairs_all : (l : List Ball) → first_some (pair_of l) (range_with_len 0 (length l)) ≡ first_pair near 0 l
unfolding first_pair
pairs_all [] = refl
pairs_all (b ∷ l) = pairs_left (b ∷ l) b (length (b ∷ l)) 0 (omega arith)

-- ---- along the path: the joint sets as chunks of five, the library's chunks beside the sets of `sets_in`
abbrev pub set_in : List Float → Joints
set_in c = joints_in c 0

chunked : (k : ℕ) (l : List Float) → rows 5 joints_from k l ≡ map set_in (first_chunks 5 k l)
unfolding rows joints_in
chunked zero l = refl
chunked (suc k) l = rw (front l, chunked k (drop 5 l))

-- what the path comes to from the chunk i on
pub record Following (pair : Joints → Option LinkPair) (l : List Float) (sets : List (List Float)) (i : ℕ) : Type 0 where
  pub whole : along_path pair 0 (sets_in l) ≡ along_path pair i (map set_in (drop i sets))

pub following_start : (pair : Joints → Option LinkPair) {l : List Float} {sets : List (List Float)} → sets ≡ first_chunks 5 (length l / 5) l → Following pair l sets 0
unfolding sets_in
following_start pair {l} e = record { whole = rw (e, ← chunked (length l / 5) l) }

module _ {pair : Joints → Option LinkPair} {l : List Float} {sets : List (List Float)} {i : ℕ} (d : List Float) {j : Joints} {answer : Option LinkPair}
    (p : i < length sets) (g : Following pair l sets i) (this : j ≡ joints_in (get_or sets i d) 0) (e : answer ≡ pair j) where
  here : along_path pair 0 (sets_in l) ≡ or_later i answer (along_path pair (i + 1) (map set_in (drop (i + 1) sets)))
  unfolding along_path
  here =
      let from : drop i sets ≡ get_or sets i d ∷ drop (i + 1) sets = rw add-one (drop-cons sets i d p) in
      g.whole ∙ rw (from, ← this, ← e)

  pub following_step : answer ≡ None → Following pair l sets (i + 1)
  following_step a = record { whole = rw a at here }

  pub following_found : {p : LinkPair} → answer ≡ Some p → Some (meeting_at i p.first p.second) ≡ along_path pair 0 (sets_in l)
  following_found a = sym (rw a at here)

pub following_end : {pair : Joints → Option LinkPair} {l : List Float} {sets : List (List Float)} {i : ℕ} → length sets ≤ i → Following pair l sets i → None ≡ along_path pair 0 (sets_in l)
unfolding along_path
following_end {sets = sets} {i = i} p g = sym (rw (drop_of_length-le sets p) at g.whole)
