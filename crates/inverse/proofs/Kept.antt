-- What holds of every joint set of the answers: a test that each pair passes, and each joint set made of it, passes over the whole list, before and after it is sorted.
use mathlib.Core.Path.{◌≡◌, refl}
use mathlib.Core.Bool.{Bool, true, false, ◌&&◌, cond, and-eq-true_iff}
use mathlib.Core.List.{List, [], ◌∷◌, ◌++◌}
use lib.Ieee.{Float}
use Rattle.std.specs.Prelude.{None, Option, Some}
use Rattle.lists.specs.Fold.{fold}
use Rattle.lists.specs.Search.{all}
use Rattle.geometry.specs.declared.Vec3.{Vec3}
use Rattle.chain.specs.declared.RotaryLimits.{RotaryLimits}
use Rattle.chain.specs.declared.Joints.{Joints}
use Rattle.chain.specs.declared.Prepared.{Prepared}
use Rattle.inverse.specs.declared.Angles.{Angles}
use Rattle.inverse.specs.UpToTwo.{RawPair}
use Rattle.inverse.specs.Wraps.{allowed, keep_allowed, angle_candidates, angles_of, has, add_pair, add_row, add_rows, add_raw, expand_wraps}
use Rattle.inverse.specs.Solutions.{precedes, insert, sorted}
use Rattle.inverse.specs.Inverse.{pose_at, misses, joints_at, reached, solutions}

both : {b c : Bool} → b ≡ true → c ≡ true → (b && c) ≡ true
both p q = rw (p, q)

-- a property that each step of a fold keeps, where the element passes
pub fold_keeps : {X S : Type 0} (f : S → X → S) (good : X → Bool) (P : S → Type 0) → ((s : S) (x : X) → good x ≡ true → P s → P (f s x))
    → (l : List X) (s : S) → all good l ≡ true → P s → P (fold f s l)
unfolding fold all
fold_keeps f good P step [] s h p = p
fold_keeps f good P step (x ∷ l) s h p =
    let e = (and-eq-true_iff (good x) (all good l)).0 h in
    fold_keeps f good P step l (f s x) e.1 (step s x e.0 p)

all_push : {A : Type 0} (test : A → Bool) (l : List A) (x : A) → all test l ≡ true → test x ≡ true → all test (l ++ (x ∷ [])) ≡ true
unfolding all
all_push test [] x h e = rw e
all_push test (y ∷ l) x h e =
    let g = (and-eq-true_iff (test y) (all test l)).0 h in
    both g.0 (all_push test l x g.1 e)

-- ---- the wraps
module _ (first second : Option RotaryLimits) where
  abbrev pub inside : Angles → Bool
  inside a = allowed first a.a0 && allowed second a.a1

  kept_by : (b : Bool) (travel : Option RotaryLimits) (l : List Float) (x : Float) → allowed travel x ≡ b → all (allowed travel) l ≡ true → all (allowed travel) (cond b (l ++ (x ∷ [])) l) ≡ true
  kept_by true travel l x e h = all_push (allowed travel) l x h e
  kept_by false travel l x e h = h

  all_allowed_kept : (travel : Option RotaryLimits) (l : List Float) (x : Float) → all (allowed travel) l ≡ true → all (allowed travel) (keep_allowed travel l x) ≡ true
  unfolding keep_allowed
  all_allowed_kept travel l x h = kept_by (allowed travel x) travel l x refl h

  candidates_allowed : (angle : Float) (travel : Option RotaryLimits) → all (allowed travel) (angle_candidates angle travel) ≡ true
  unfolding angle_candidates fold all
  candidates_allowed angle travel =
      all_allowed_kept travel _ _ (all_allowed_kept travel _ _ (all_allowed_kept travel _ _ (all_allowed_kept travel _ _ (all_allowed_kept travel [] _ refl))))

  pair_by : (b : Bool) (l : List Angles) (a : Angles) → inside a ≡ true → all inside l ≡ true → all inside (cond b l (l ++ (a ∷ []))) ≡ true
  pair_by true l a e h = h
  pair_by false l a e h = all_push inside l a h e

  row_inside : (a0 : Float) (seconds : List Float) (l : List Angles) → allowed first a0 ≡ true → all (allowed second) seconds ≡ true → all inside l ≡ true → all inside (add_row seconds l a0) ≡ true
  unfolding add_row add_pair
  row_inside a0 seconds l e g h =
      fold_keeps (add_pair a0) (allowed second) (λ s. all inside s ≡ true) (λ s a1 q p. pair_by (has (angles_of a0 a1) s) s (angles_of a0 a1) (both e q) p) seconds l g h

  rows_inside : (firsts seconds : List Float) (l : List Angles) → all (allowed first) firsts ≡ true → all (allowed second) seconds ≡ true → all inside l ≡ true → all inside (add_rows firsts seconds l) ≡ true
  unfolding add_rows
  rows_inside firsts seconds l e g h = fold_keeps (add_row seconds) (allowed first) (λ s. all inside s ≡ true) (λ s a0 q p. row_inside a0 seconds s q g p) firsts l e h

  raw_inside : (raw : Option Angles) (l : List Angles) → all inside l ≡ true → all inside (add_raw first second raw l) ≡ true
  raw_inside (Some raw) l h = rows_inside _ _ l (candidates_allowed raw.a0 first) (candidates_allowed raw.a1 second) h
  raw_inside None l h = h

  pub wraps_inside : (raw : RawPair) → all inside (expand_wraps first second raw) ≡ true
  unfolding expand_wraps all
  wraps_inside raw = raw_inside raw.second _ (raw_inside raw.first [] refl)

-- ---- the joint sets
module _ (p : Prepared) (target tip : Vec3) (tool : Float) (good : Angles → Bool) (test : Joints → Bool)
    (passes : (a : Angles) → good a ≡ true → misses (pose_at p a tool).axis target ≡ false → test (joints_at p a tip (pose_at p a tool).tip) ≡ true) where
  reached_by_all : (b : Bool) (a : Angles) (l : List Joints) → misses (pose_at p a tool).axis target ≡ b → good a ≡ true → all test l ≡ true
      → all test (cond b l (joints_at p a tip (pose_at p a tool).tip ∷ l)) ≡ true
  unfolding all
  reached_by_all true a l e g h = h
  reached_by_all false a l e g h = both (passes a g e) h

  reached_pass : (l : List Angles) → all good l ≡ true → all test (reached p target tip tool l) ≡ true
  unfolding reached all
  reached_pass [] h = refl
  reached_pass (a ∷ l) h =
      let e = (and-eq-true_iff (good a) (all good l)).0 h in
      reached_by_all (misses (pose_at p a tool).axis target) a (reached p target tip tool l) refl e.0 (reached_pass l e.1)

  insert_by : (b : Bool) (j k : Joints) (l m : List Joints) → test j ≡ true → all test (k ∷ l) ≡ true → all test m ≡ true → all test (cond b (j ∷ k ∷ l) (k ∷ m)) ≡ true
  unfolding all
  insert_by true j k l m e h i = both e h
  insert_by false j k l m e h i = both ((and-eq-true_iff (test k) (all test l)).0 h).0 i

  insert_pass : (l : List Joints) (j : Joints) → test j ≡ true → all test l ≡ true → all test (insert l j) ≡ true
  unfolding insert all
  insert_pass [] j e h = both e refl
  insert_pass (k ∷ l) j e h = insert_by (precedes j k) j k l (insert l j) e h (insert_pass l j e ((and-eq-true_iff (test k) (all test l)).0 h).1)

  pub solutions_pass : (l : List Angles) → all good l ≡ true → all test (solutions p target tip tool l) ≡ true
  unfolding solutions sorted all
  solutions_pass l h = fold_keeps insert test (λ s. all test s ≡ true) (λ s j e i. insert_pass s j e i) (reached p target tip tool l) [] (reached_pass l h) refl
