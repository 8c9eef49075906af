-- The square of a vector's length is at least the square of each of its numbers, and the length of a bounded vector is
-- bounded.
use mathlib.Core.Path.{◌≡◌, ap, ◌∙◌}
use mathlib.Core.Bool.{true}
use Prim.Native.Nat.{ℕ, ◌*◌}
use native.Mathlib.Nat.{mul-pos}
use lib.Dec.{lit≤}
use lib.Ieee.{Float, binary64, add, mul, le}
use lib.Ieee.Fits.{add-fits, mul-fits}
use Rattle.float.specs.Units.{U}
use Rattle.float.specs.Helpers.{nought}
use Rattle.float.proofs.Order.{le_trans}
use Rattle.float.proofs.Rounding.{U_pos}
use Rattle.float.proofs.Bounded.{Small}
use Rattle.root.proofs.RootOrder.{round_nn, add_above, sq_is}
use Rattle.root.proofs.RootSizes.{root_small}
use Rattle.geometry.specs.declared.Vec3.{Vec3}
use Rattle.geometry.specs.Vector.{dot, norm}
use Rattle.geometry.proofs.FitVectors.{dot_fits}
use Rattle.geometry.proofs.Bounded.{SmallVec, small_dot}

pub record DotAbove (v : Vec3) : Type 0 where
  pub nn : le nought (dot v v) ≡ true
  pub x : le (mul binary64 v.x v.x) (dot v v) ≡ true
  pub y : le (mul binary64 v.y v.y) (dot v v) ≡ true
  pub z : le (mul binary64 v.z v.z) (dot v v) ≡ true

square_nn : (k : ℕ) (x : Float) → Small k x → le nought (mul binary64 x x) ≡ true
square_nn k x X = ap (λ (z : Float). le nought z) (sq_is x X.s X.v X.is) ∙ round_nn (X.v * X.v) (U * U) (mul-pos U_pos U_pos)

pub dot_above : (k : ℕ) (v : Vec3) → SmallVec k v → DotAbove v
unfolding dot
dot_above k v A =
    let xx = mul binary64 v.x v.x in
    let yy = mul binary64 v.y v.y in
    let zz = mul binary64 v.z v.z in
    let xy = add binary64 xx yy in
    let nx = square_nn k v.x A.0 in
    let a = add_above xx yy (mul-fits binary64 v.x v.x) (mul-fits binary64 v.y v.y) nx (square_nn k v.y A.1) in
    let n = le_trans nought xx xy nx a.0 in
    let b = add_above xy zz (add-fits binary64 xx yy) (mul-fits binary64 v.z v.z) n (square_nn k v.z A.2) in
    record {
      nn = le_trans nought xy (add binary64 xy zz) n b.0;
      x = le_trans xx xy (add binary64 xy zz) a.0 b.0;
      y = le_trans yy xy (add binary64 xy zz) a.1 b.0;
      z = b.1;
    }

pub dot_nn : (k : ℕ) (v : Vec3) → SmallVec k v → le nought (dot v v) ≡ true
dot_nn k v A = (dot_above k v A).nn

pub norm_small : (v : Vec3) → SmallVec 90 v → Small 100 (norm v)
unfolding norm
norm_small v A = root_small (dot v v) (dot_fits v v) (dot_nn 90 v A) (small_dot 90 90 200 v v (lit≤ tt) (lit≤ tt) A A)
