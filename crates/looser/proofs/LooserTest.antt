-- Looser tolerances pass what stricter ones pass, so they divide no two neighbours that the stricter ones do not. This
-- is shown of the test at any list of portions: a portion that is within stays within (`at_looser`), so do all of a
-- list, and then all of any list with fewer portions (`all_looser`). The Rust's test and the strict one are two such
-- lists.
use mathlib.Core.Path.{◌≡◌, refl, sym, subst}
use mathlib.Core.Bool.{Bool, true, false, not, cond, ◌&&◌, false≢true}
use mathlib.Core.List.{List, Sublistᴰ}
use lib.Ieee as Ieee
use lib.Ieee.{Float}
use Rattle.float.proofs.Order.{le_trans}
use Rattle.lists.specs.Search.{all}
use Rattle.geometry.specs.declared.Vec3.{Vec3}
use Rattle.geometry.specs.Vector.{gap_vec, lerp_vec}
use Rattle.geometry.specs.Slerp.{slerp_axis, angle_between_deg}
use Rattle.chain.specs.declared.Prepared.{Prepared}
use Rattle.chain.specs.declared.ToolPose.{ToolPose}
use Rattle.chain.proofs.ReadyLaws.{both}
use Rattle.middle.specs.declared.Item.{Item}
use Rattle.middle.specs.declared.Tolerances.{Tolerances}
use Rattle.middle.specs.Testing.{portions, joints_unchanged, joints_between, pose_within, within_at, portions_within, segment_within, midpoint, near_an_end, divides, pose_of}

fewer : (a b n : Bool) → (a ≡ true → b ≡ true) → (not b && n) ≡ true → (not a && n) ≡ true
fewer true true n f e = absurd (false≢true e)
fewer true false n f e = absurd (false≢true (f refl))
fewer false true n f e = absurd (false≢true e)
fewer false false n f e = e

-- ---- a test that passes at each portion where another does passes at fewer portions too
all_weaker : {A : Type 0} (test weaker : A → Bool) → ((t : A) → test t ≡ true → weaker t ≡ true)
    → {few many : List A} → Sublistᴰ few many → all test many ≡ true → all weaker few ≡ true
unfolding all
all_weaker test weaker f Sublistᴰ.slnil e = refl
all_weaker test weaker f (Sublistᴰ.cons {a} {l₁} {l₂} s) e = all_weaker test weaker f s (both (test a) (all test l₂) e).1
all_weaker test weaker f (Sublistᴰ.cons-cons {a} {b} {l₁} {l₂} same s) e =
    let q = both (test b) (all test l₂) e in
    rw (f a (subst (λ t. test t ≡ true) (sym same) q.0)) (all_weaker test weaker f s q.1)

-- the Rust's portions are among those of the strict test
portions_fewer : (strict looser : Bool) → (looser ≡ true → strict ≡ true) → Sublistᴰ (portions looser) (portions strict)
portions_fewer true true f = Sublistᴰ.cons-cons refl (Sublistᴰ.cons-cons refl (Sublistᴰ.cons-cons refl Sublistᴰ.slnil))
portions_fewer true false f = Sublistᴰ.cons-cons refl (Sublistᴰ.cons (Sublistᴰ.cons Sublistᴰ.slnil))
portions_fewer false true f = absurd (false≢true (f refl))
portions_fewer false false f = Sublistᴰ.cons-cons refl Sublistᴰ.slnil

module _ (tol wider : Tolerances) (chord : Ieee.le tol.chord wider.chord ≡ true) (axis : Ieee.le tol.axis wider.axis ≡ true) where
  pose_looser : (left right : Item) (axis_left axis_right : Vec3) (t : Float) (pose : ToolPose) → pose_within tol left right axis_left axis_right t pose ≡ true
      → pose_within wider left right axis_left axis_right t pose ≡ true
  unfolding pose_within
  pose_looser left right axis_left axis_right t pose e =
      let tip = gap_vec pose.tip (lerp_vec left.pose.tip right.pose.tip t) in
      let turn = angle_between_deg pose.axis (slerp_axis axis_left axis_right t) in
      let q = both (Ieee.le tip tol.chord) (Ieee.le turn tol.axis) e in
      rw (le_trans tip tol.chord wider.chord q.0 chord, le_trans turn tol.axis wider.axis q.1 axis)

  module _ (p : Prepared) (left right : Item) where
    -- at one portion of the way
    pub at_looser : (axis_left axis_right : Vec3) (t : Float) → within_at p tol left right axis_left axis_right t ≡ true → within_at p wider left right axis_left axis_right t ≡ true
    unfolding within_at
    at_looser axis_left axis_right t e = pose_looser left right axis_left axis_right t (pose_of p (joints_between t left.joints right.joints)) e

    -- at every portion of any list, and of any list with fewer
    pub all_looser : (axis_left axis_right : Vec3) {few many : List Float} → Sublistᴰ few many
        → all (within_at p tol left right axis_left axis_right) many ≡ true → all (within_at p wider left right axis_left axis_right) few ≡ true
    all_looser axis_left axis_right s e =
        all_weaker (within_at p tol left right axis_left axis_right) (within_at p wider left right axis_left axis_right) (at_looser axis_left axis_right) s e

-- ---- of the two tests: the wider one is not the strict one of the two
module _ (tol wider : Tolerances) (chord : Ieee.le tol.chord wider.chord ≡ true) (axis : Ieee.le tol.axis wider.axis ≡ true)
    (no_stricter : wider.strict ≡ true → tol.strict ≡ true) (p : Prepared) (left right : Item) where
  pub within_looser : segment_within p tol left right ≡ true → segment_within p wider left right ≡ true
  unfolding segment_within portions_within
  within_looser e = go (joints_unchanged left.joints right.joints) e
    where
      axis_left : Vec3
      axis_left = (pose_of p left.joints).axis

      axis_right : Vec3
      axis_right = (pose_of p right.joints).axis

      go : (b : Bool) → cond b true (all (within_at p tol left right axis_left axis_right) (portions tol.strict)) ≡ true
          → cond b true (all (within_at p wider left right axis_left axis_right) (portions wider.strict)) ≡ true
      go true h = refl
      go false h = all_looser tol wider chord axis p left right axis_left axis_right (portions_fewer tol.strict wider.strict no_stricter) h

  pub divides_looser : divides p wider left right ≡ true → divides p tol left right ≡ true
  unfolding divides
  divides_looser e = fewer (segment_within p tol left right) (segment_within p wider left right) (not (near_an_end left right (midpoint p left right))) within_looser e
