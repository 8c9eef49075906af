-- What holds of given joints, and of the midpoint of two of which it holds: so it holds of all that are inserted. A
-- midpoint lies between its ends, so limits and sizes stay. `Limited` is of solved joints, and of their angles alone;
-- `Sized` is of any joints that pass division's checks, and of all five numbers, and holds at both quarters of the way
-- too, which a strict test asks at.
use mathlib.Core.Path.{◌≡◌, refl}
use mathlib.Core.Bool.{true, ◌&&◌}
use lib.Dec.{T}
use lib.Ieee as Ieee
use lib.Ieee.{Float, binary64, le, fits, of_bits}
use lib.Ieee.Bits.{of_bits-fits}
use lib.Ieee.Fits.{add-fits}
use Rattle.std.specs.Prelude.{None, Option, Some}
use Rattle.float.proofs.Between.{big, Tame, tame_of, Portion, half_portion, way_between, way_size, ten_million_big}
use Rattle.float.proofs.Sizes.{size_le_parts}
use Rattle.geometry.specs.declared.Vec3.{Vec3}
use Rattle.geometry.specs.Vector.{lerp, lerp_vec}
use Rattle.chain.specs.declared.RotaryLimits.{RotaryLimits}
use Rattle.chain.specs.declared.Joints.{Joints}
use Rattle.chain.specs.declared.Kinematics.{Kinematics}
use Rattle.chain.specs.Check.{contains, within, all_within, farthest, most_turned, joints_finite, joints_within}
use Rattle.chain.proofs.ReadyLaws.{both, within_finite, all_within_finite, over_farthest, over_turned}
use Rattle.path.specs.Unwinding.{permits, first_inside, second_permits, second_inside, inside}
use Rattle.path.specs.Posing.{bounds_of, turned_within}
use Rattle.path.specs.Promise.{Served}
use Rattle.path.specs.declared.Bound.{Bound}
use Rattle.path.specs.declared.Bounds.{Bounds}
use Rattle.middle.specs.Testing.{half, joints_between, lerp_joints}

-- ---- one number
pub half_fits : T (fits binary64 half)
half_fits = of_bits-fits binary64 0x3fe0_0000_0000_0000

pub turned_big : le most_turned big ≡ true
unfolding big of_bits Ieee.le Ieee.lt Ieee.eq
turned_big = refl

way_fits : (t a b : Float) → T (fits binary64 (lerp a b t))
way_fits t a b = add-fits binary64 a _

mid_fits : (a b : Float) → T (fits binary64 (lerp a b half))
mid_fits = way_fits half

turned_tame : (x : Float) → within x most_turned ≡ true → Tame x
unfolding within
turned_tame x h = let p = size_le_parts x most_turned h in tame_of most_turned x turned_big p.0 p.1

way_within : (t : Float) → T (fits binary64 t) → Portion t → (a b : Float) → T (fits binary64 a) → T (fits binary64 b)
    → (c : Float) → le c big ≡ true → within a c ≡ true → within b c ≡ true → within (lerp a b t) c ≡ true
unfolding within
way_within t ft pt a b fa fb c h x y = way_size a b t c fa fb ft h pt x y

module _ (a b : Float) (fa : T (fits binary64 a)) (fb : T (fits binary64 b)) where
  mid_within : (c : Float) → le c big ≡ true → within a c ≡ true → within b c ≡ true → within (lerp a b half) c ≡ true
  mid_within = way_within half half_fits half_portion a b fa fb

  mid_permitted : (t : Option RotaryLimits) → within a most_turned ≡ true → within b most_turned ≡ true → permits t a ≡ true → permits t b ≡ true → permits t (lerp a b half) ≡ true
  unfolding contains
  mid_permitted (Some l) x y g h =
      let p = both (le l.min a) (le a l.max) g in
      let q = both (le l.min b) (le b l.max) h in
      let w = way_between a b half fa fb half_fits (turned_tame a x) (turned_tame b y) half_portion l.min l.max p.0 q.0 p.1 q.1 in
      rw (w.0, w.1)
  mid_permitted None x y g h = within_finite most_turned over_turned (lerp a b half) (mid_within most_turned turned_big x y)

-- ---- three numbers
way_all_within : (at : Float) → T (fits binary64 at) → Portion at → (c : Float) → le c big ≡ true → (u v : Vec3)
    → T (fits binary64 u.x) → T (fits binary64 u.y) → T (fits binary64 u.z) → T (fits binary64 v.x) → T (fits binary64 v.y) → T (fits binary64 v.z)
    → all_within u c ≡ true → all_within v c ≡ true → all_within (lerp_vec u v at) c ≡ true
unfolding all_within lerp_vec
way_all_within at fa pa c h u v ux uy uz vx vy vz g k =
    let p = both (within u.x c && within u.y c) (within u.z c) g in
    let q = both (within u.x c) (within u.y c) p.0 in
    let s = both (within v.x c && within v.y c) (within v.z c) k in
    let t = both (within v.x c) (within v.y c) s.0 in
    rw (
      way_within at fa pa u.x v.x ux vx c h q.0 t.0,
      way_within at fa pa u.y v.y uy vy c h q.1 t.1,
      way_within at fa pa u.z v.z uz vz c h p.1 s.1,
    )

-- ---- the limits: the second angle of a chain of one is not looked at
second_mid : (o : Option Bound) (a b c : Float) → ((t : Option RotaryLimits) → permits t a ≡ true → permits t b ≡ true → permits t c ≡ true)
    → second_permits o a ≡ true → second_permits o b ≡ true → second_permits o c ≡ true
second_mid (Some second) a b c f g h = f second.limits g h
second_mid None a b c f g h = refl

inside_parts : (c : Bounds) (j : Joints) → inside c j ≡ true → (first_inside c j ≡ true) × (second_inside c j ≡ true)
unfolding inside
inside_parts c j h = both (first_inside c j) (second_inside c j) h

turned_parts : (j : Joints) → turned_within j ≡ true → (within j.a0 most_turned ≡ true) × (within j.a1 most_turned ≡ true)
unfolding turned_within
turned_parts j h = both (within j.a0 most_turned) (within j.a1 most_turned) h

-- ---- the angles: within their rotaries' limits and 36,000 degrees, and numbers of the format
pub record Limited (k : Kinematics) (j : Joints) : Type 0 where
  pub limits : inside (bounds_of k) j ≡ true
  pub turns : turned_within j ≡ true
  pub fits_a0 : T (fits binary64 j.a0)
  pub fits_a1 : T (fits binary64 j.a1)

pub served_limited : (k : Kinematics) (j : Joints) → Served k j → T (fits binary64 j.a0) → T (fits binary64 j.a1) → Limited k j
served_limited k j s f g = record { limits = s.limits; turns = s.turns; fits_a0 = f; fits_a1 = g }

module _ (k : Kinematics) (a b : Joints) (A : Limited k a) (B : Limited k b) where
  first_mid : (c : Bounds) → first_inside c a ≡ true → first_inside c b ≡ true → first_inside c (lerp_joints a b) ≡ true
  unfolding first_inside joints_between
  first_mid c g h = mid_permitted a.a0 b.a0 A.fits_a0 B.fits_a0 c.first.limits (turned_parts a A.turns).0 (turned_parts b B.turns).0 g h

  second_inside_between : (c : Bounds) → second_inside c a ≡ true → second_inside c b ≡ true → second_inside c (lerp_joints a b) ≡ true
  unfolding second_inside joints_between
  second_inside_between c g h =
      second_mid c.second a.a1 b.a1 (lerp a.a1 b.a1 half)
      (λ t. mid_permitted a.a1 b.a1 A.fits_a1 B.fits_a1 t (turned_parts a A.turns).1 (turned_parts b B.turns).1) g h

  inside_mid : (c : Bounds) → inside c a ≡ true → inside c b ≡ true → inside c (lerp_joints a b) ≡ true
  unfolding inside
  inside_mid c g h =
      let p = inside_parts c a g in
      let q = inside_parts c b h in
      rw (first_mid c p.0 q.0, second_inside_between c p.1 q.1)

  turned_mid : turned_within (lerp_joints a b) ≡ true
  unfolding turned_within joints_between
  turned_mid =
      let p = turned_parts a A.turns in
      let q = turned_parts b B.turns in
      rw (
        mid_within a.a0 b.a0 A.fits_a0 B.fits_a0 most_turned turned_big p.0 q.0,
        mid_within a.a1 b.a1 A.fits_a1 B.fits_a1 most_turned turned_big p.1 q.1,
      )

  pub limited_mid : Limited k (lerp_joints a b)
  unfolding joints_between
  limited_mid = record {
    limits = inside_mid (bounds_of k) A.limits B.limits;
    turns = turned_mid;
    fits_a0 = mid_fits a.a0 b.a0;
    fits_a1 = mid_fits a.a1 b.a1;
  }

-- ---- all five numbers: within the sizes that division's checks ask for, and numbers of the format
pub record Sized (j : Joints) : Type 0 where
  pub sizes : joints_within j ≡ true
  pub fits_x : T (fits binary64 j.xyz.x)
  pub fits_y : T (fits binary64 j.xyz.y)
  pub fits_z : T (fits binary64 j.xyz.z)
  pub fits_a0 : T (fits binary64 j.a0)
  pub fits_a1 : T (fits binary64 j.a1)

pub size_parts : (j : Joints) → joints_within j ≡ true
    → (all_within j.xyz farthest ≡ true) × ((within j.a0 most_turned ≡ true) × (within j.a1 most_turned ≡ true))
unfolding joints_within
size_parts j h =
    let p = both (all_within j.xyz farthest && within j.a0 most_turned) (within j.a1 most_turned) h in
    let q = both (all_within j.xyz farthest) (within j.a0 most_turned) p.0 in
    (q.0, (q.1, p.1))

pub sizes_finite : (j : Joints) → joints_within j ≡ true → joints_finite j ≡ true
unfolding joints_finite
sizes_finite j h =
    let p = size_parts j h in
    rw (
      all_within_finite farthest over_farthest j.xyz p.0,
      within_finite most_turned over_turned j.a0 p.1.0,
      within_finite most_turned over_turned j.a1 p.1.1,
    )

module _ (t : Float) (ft : T (fits binary64 t)) (pt : Portion t) (a b : Joints) (A : Sized a) (B : Sized b) where
  way_sizes : joints_within (joints_between t a b) ≡ true
  unfolding joints_within joints_between
  way_sizes =
      let p = size_parts a A.sizes in
      let q = size_parts b B.sizes in
      rw (
        way_all_within t ft pt farthest ten_million_big a.xyz b.xyz A.fits_x A.fits_y A.fits_z B.fits_x B.fits_y B.fits_z p.0 q.0,
        way_within t ft pt a.a0 b.a0 A.fits_a0 B.fits_a0 most_turned turned_big p.1.0 q.1.0,
        way_within t ft pt a.a1 b.a1 A.fits_a1 B.fits_a1 most_turned turned_big p.1.1 q.1.1,
      )

  pub sized_way : Sized (joints_between t a b)
  unfolding joints_between lerp_vec
  sized_way = record {
    sizes = way_sizes;
    fits_x = way_fits t a.xyz.x b.xyz.x;
    fits_y = way_fits t a.xyz.y b.xyz.y;
    fits_z = way_fits t a.xyz.z b.xyz.z;
    fits_a0 = way_fits t a.a0 b.a0;
    fits_a1 = way_fits t a.a1 b.a1;
  }

pub sized_mid : (a b : Joints) → Sized a → Sized b → Sized (lerp_joints a b)
sized_mid = sized_way half half_fits half_portion
