-- The angle between two unit vectors is always that of an arctangent, and the arccosine of their product is always
-- served: all the numbers that are asked for are finite. So the fallbacks of `angle_between_deg`, and of a caller that
-- takes such an arccosine, are never taken.
use mathlib.Core.Path.{◌≡◌, refl, ap}
use Prim.Native.Nat.{ℕ, ◌+◌, ◌≤◌}
use native.Mathlib.Omega.{arith}
use lib.Dec.{lit≤}
use lib.Ieee.{Float, neg}
use Rattle.std.specs.Prelude.{None, Option, Some}
use Rattle.float.specs.Helpers.{clamp_unit, size_of, to_degrees}
use Rattle.float.proofs.Bounded.{finite_small, clamp_finite}
use Rattle.trig.specs.Arctangent.{angle_float, arctangent_of}
use Rattle.trig.specs.Arccosine.{arccosine_of}
use Rattle.trig.proofs.Laws.{arctangent_is, clamped_arccosines}
use Rattle.geometry.specs.declared.Vec3.{Vec3}
use Rattle.geometry.specs.Vector.{dot, cross, norm}
use Rattle.geometry.specs.Direction.{along, unit_direction}
use Rattle.geometry.specs.Slerp.{with, half_turn_degrees, angle_between_deg}
use Rattle.geometry.specs.Doubles.{FitVec}
use Rattle.geometry.proofs.FitVectors.{dot_fits}
use Rattle.geometry.proofs.Bounded.{SmallVec, small_dot, small_cross}
use Rattle.geometry.proofs.Lengths.{norm_small}
use Rattle.geometry.proofs.UnitSize.{unit_small}

between_served : (a b : Vec3) → SmallVec 1 a → SmallVec 1 b → arctangent_of (norm (cross a b)) (clamp_unit (dot a b)) ≡ Some (angle_float (norm (cross a b)) (clamp_unit (dot a b)))
between_served a b A B =
    arctangent_is (norm (cross a b)) (clamp_unit (dot a b)) (finite_small 100 (norm (cross a b)) (norm_small (cross a b) (small_cross 1 1 90 a b (lit≤ tt) (lit≤ tt) A B)))
    (clamp_finite (dot a b) (finite_small 7 (dot a b) (small_dot 1 1 7 a b (lit≤ tt) (lit≤ tt) A B)))

-- the angle in degrees between two unit vectors, without the fallback
abbrev pub plain_angle : Vec3 → Vec3 → Float
plain_angle a b = size_of (to_degrees (angle_float (norm (cross a b)) (clamp_unit (dot a b))))

pub angle_between : (left right : Vec3) → FitVec left → FitVec right
    → angle_between_deg left right ≡ along (unit_direction left) half_turn_degrees (λ a. along (unit_direction right) half_turn_degrees (λ b. plain_angle a b))
unfolding angle_between_deg
angle_between left right L R = go (unit_direction left) (unit_direction right) (λ u e. unit_small left u L e) (λ u e. unit_small right u R e)
  where
    go : (d e : Option Vec3) → ((u : Vec3) → d ≡ Some u → SmallVec 1 u) → ((u : Vec3) → e ≡ Some u → SmallVec 1 u)
        → along d half_turn_degrees (λ a. along e half_turn_degrees (λ b. with (arctangent_of (norm (cross a b)) (clamp_unit (dot a b))) half_turn_degrees (λ radians. size_of (to_degrees radians))))
        ≡ along d half_turn_degrees (λ a. along e half_turn_degrees (λ b. plain_angle a b))
    go (Some a) (Some b) A B = ap (λ (w : Option Float). with w half_turn_degrees (λ radians. size_of (to_degrees radians))) (between_served a b (A a refl) (B b refl))
    go (Some a) None A B = refl
    go None e A B = refl

-- the arccosines of the product of two bounded vectors and of its opposite
pub unit_arccosines : (k : ℕ) (v w : Vec3) → k ≤ 400 → SmallVec k v → SmallVec k w
    → ((r : Float) × (arccosine_of (clamp_unit (dot v w)) ≡ Some r)) × ((r : Float) × (arccosine_of (neg (clamp_unit (dot v w))) ≡ Some r))
unit_arccosines k v w h A B = clamped_arccosines (dot v w) (dot_fits v w) (finite_small (k + k + 5) (dot v w) (small_dot k k (k + k + 5) v w (omega arith) (omega arith) A B))
