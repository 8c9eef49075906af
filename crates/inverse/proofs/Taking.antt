-- The loop over the pairs, and the list of those that reach the target: each takes in one pair after another.
use mathlib.Core.Path.{◌≡◌, refl, sym, ap, ◌∙◌}
use mathlib.Core.Bool.{Bool, true, false, cond}
use mathlib.Core.List.{List, [], ◌∷◌}
use lib.Ieee.{Float}
use Rattle.lists.specs.Fold.{fold}
use Rattle.geometry.specs.declared.Vec3.{Vec3}
use Rattle.chain.specs.declared.Joints.{Joints}
use Rattle.chain.specs.declared.Prepared.{Prepared}
use Rattle.inverse.specs.declared.Angles.{Angles}
use Rattle.inverse.specs.Solutions.{insert, sorted}
use Rattle.std.specs.Prelude.{None, Option, Some}
use Rattle.inverse.specs.Inverse.{pose_at, misses, joints_at, reached_at, reached, solutions, taken_in}

module _ (p : Prepared) (target tip : Vec3) (tool : Float) where
  abbrev one : Angles → Joints
  one a = joints_at p a tip (pose_at p a tool).tip

  taken : (b : Bool) (j : Joints) (done : List Joints) (rest : List Angles)
      → ((l : List Joints) → fold (taken_in p target tip tool) l rest ≡ fold insert l (reached p target tip tool rest))
      → fold (taken_in p target tip tool) (cond b done (insert done j)) rest
      ≡ fold insert done (cond b (reached p target tip tool rest) (j ∷ reached p target tip tool rest))
  unfolding fold
  taken true j done rest f = f done
  taken false j done rest f = f (insert done j)

  folded : (l : List Angles) (done : List Joints) → fold (taken_in p target tip tool) done l ≡ fold insert done (reached p target tip tool l)
  unfolding fold reached taken_in
  folded [] done = refl
  folded (a ∷ l) done = taken (misses (pose_at p a tool).axis target) (one a) done l (folded l)

  pub taken_all : (l : List Angles) → fold (taken_in p target tip tool) [] l ≡ solutions p target tip tool l
  unfolding solutions sorted
  taken_all l = folded l []

  -- what one more pair gives, by whether it reaches the target
  abbrev by_reached : Option Joints → List Joints → List Joints
  by_reached (Some j) l = insert l j
  by_reached None l = l

  one_in : (b : Bool) (j : Joints) (l : List Joints) → cond b l (insert l j) ≡ by_reached (cond b None (Some j)) l
  one_in true j l = refl
  one_in false j l = refl

  taken_by : (l : List Joints) (a : Angles) → taken_in p target tip tool l a ≡ by_reached (reached_at p target tip tool a) l
  unfolding taken_in reached_at
  taken_by l a = one_in (misses (pose_at p a tool).axis target) (one a) l

  pub taken_some : (l : List Joints) (a : Angles) (j : Joints) → reached_at p target tip tool a ≡ Some j → insert l j ≡ taken_in p target tip tool l a
  taken_some l a j e = sym (taken_by l a ∙ ap (λ (o : Option Joints). by_reached o l) e)

  pub taken_none : (l : List Joints) (a : Angles) → reached_at p target tip tool a ≡ None → l ≡ taken_in p target tip tool l a
  taken_none l a e = sym (taken_by l a ∙ ap (λ (o : Option Joints). by_reached o l) e)
