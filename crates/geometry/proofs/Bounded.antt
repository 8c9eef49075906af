-- Vectors of numbers up to 2 ^ k: sums, differences, multiples, products, and turned vectors and points have such a
-- bound too. With this every number that is made of bounded ones is finite.
use mathlib.Core.Path.{◌≡◌, sym, subst}
use mathlib.Core.Bool.{true, ◌&&◌, and-eq-true_iff}
use Prim.Native.Nat.{ℕ, ◌+◌, ◌*◌, ◌^◌, ◌≤◌}
use native.Mathlib.Omega.{arith}
use lib.Dec.{T, lit≤}
use lib.Ieee.{Float, binary64, sub, mul, fits}
use lib.Ieee.Scale.{finite}
use Rattle.float.specs.Units.{U}
use Rattle.float.specs.Helpers.{nought, one}
use Rattle.float.proofs.Units.{Held, held}
use Rattle.float.proofs.Bounded.{Small, finite_small, raise, nought_small, one_small, held_small, times, plus, minus}
use Rattle.geometry.specs.declared.Vec3.{Vec3}
use Rattle.geometry.specs.declared.Turn.{Turn}
use Rattle.geometry.specs.Vector as G
use Rattle.geometry.specs.Direction.{all_finite}
use Rattle.geometry.specs.Turn.{still, turn_of, rotate_vector, rotate_point}
use Rattle.geometry.specs.Doubles.{FitVec}
use Rattle.geometry.proofs.TurnPair.{TurnSized, turn_pair}

-- ---- vectors
abbrev pub SmallVec : ℕ → Vec3 → Type 0
SmallVec k v = Small k v.x × Small k v.y × Small k v.z

pub vec_raise : (k l : ℕ) (v : Vec3) → k ≤ l → SmallVec k v → SmallVec l v
vec_raise k l v h A = (raise k l v.x h A.0, raise k l v.y h A.1, raise k l v.z h A.2)

pub vec_finite : (k : ℕ) (v : Vec3) → SmallVec k v → all_finite v ≡ true
unfolding all_finite
vec_finite k v A = rw (finite_small k v.x A.0, finite_small k v.y A.1, finite_small k v.z A.2)

-- every vector of finite doubles
pub held_vector : (v : Vec3) → FitVec v → all_finite v ≡ true → SmallVec 1024 v
unfolding all_finite
held_vector v F h =
    let a = (and-eq-true_iff (finite v.x && finite v.y) (finite v.z)).0 h in
    let b = (and-eq-true_iff (finite v.x) (finite v.y)).0 a.0 in
    (number v.x F.0 b.0, number v.y F.1 b.1, number v.z F.2 a.1)
  where
    number : (x : Float) → T (fits binary64 x) → finite x ≡ true → Small 1024 x
    number x f e = held_small x (held x f (subst T (sym e) tt))

-- ---- turns
abbrev pub SmallTurn : Turn → Type 0
SmallTurn t = Small 1 t.sine × Small 1 t.cosine

-- a sine and a cosine are at most 2: far more than needed
sized_small : (t : Turn) → TurnSized t → SmallTurn t
sized_small t T = (twice t.sine T.sine T.sine_most, twice t.cosine T.cosine T.cosine_most)
  where
    go : (v u : ℕ) → 2 ^ 50 * v ≤ (2 ^ 50 + 1) * u → v ≤ 2 ^ 1 * u
    go v u l = omega arith

    twice : (y : Float) (h : Held y) → 2 ^ 50 * h.v ≤ (2 ^ 50 + 1) * U → Small 1 y
    twice y h l = record { s = h.s; v = h.v; is = h.is; most = go h.v U l }

pub turn_small : (degrees : Float) → SmallTurn (turn_of degrees)
turn_small degrees = sized_small (turn_of degrees) (turn_pair degrees)

pub still_small : SmallTurn still
still_small = (raise 0 1 nought (lit≤ tt) nought_small, raise 0 1 one (lit≤ tt) one_small)

-- ---- sums, differences, multiples and products
module _ (k l m n : ℕ) (v w : Vec3) (a : k ≤ m) (b : l ≤ m) (h : m + 2 ≤ n) (o : n ≤ 900) (A : SmallVec k v) (B : SmallVec l w) where
  pub vec_add : SmallVec n (G.add v w)
  unfolding G.add
  vec_add = (plus k l m n v.x w.x a b h o A.0 B.0, plus k l m n v.y w.y a b h o A.1 B.1, plus k l m n v.z w.z a b h o A.2 B.2)

  pub vec_sub : SmallVec n (G.sub v w)
  unfolding G.sub
  vec_sub = (minus k l m n v.x w.x a b h o A.0 B.0, minus k l m n v.y w.y a b h o A.1 B.1, minus k l m n v.z w.z a b h o A.2 B.2)

pub vec_scale : (k l n : ℕ) (v : Vec3) (f : Float) → k + l + 1 ≤ n → n ≤ 900 → SmallVec k v → Small l f → SmallVec n (G.scale v f)
unfolding G.scale
vec_scale k l n v f h o A F = (times k l n v.x f h o A.0 F, times k l n v.y f h o A.1 F, times k l n v.z f h o A.2 F)

module _ (k l n : ℕ) (v w : Vec3) (h : k + l + 5 ≤ n) (o : n ≤ 900) (A : SmallVec k v) (B : SmallVec l w) where
  pub small_dot : Small n (G.dot v w)
  unfolding G.dot
  small_dot =
      plus (k + l + 3) (k + l + 1) (k + l + 3) n _ _ (omega arith) (omega arith) (omega arith) o
      (plus (k + l + 1) (k + l + 1) (k + l + 1) (k + l + 3) _ _ (omega arith) (omega arith) (omega arith) (omega arith) (times k l (k + l + 1) v.x w.x (omega arith) (omega arith) A.0 B.0) (times k l (k + l + 1) v.y w.y (omega arith) (omega arith) A.1 B.1))
      (times k l (k + l + 1) v.z w.z (omega arith) (omega arith) A.2 B.2)

module _ (k l n : ℕ) (v w : Vec3) (h : k + l + 3 ≤ n) (o : n ≤ 900) (A : SmallVec k v) (B : SmallVec l w) where
  between : (a b c d : Float) → Small k a → Small l b → Small k c → Small l d → Small n (sub binary64 (mul binary64 a b) (mul binary64 c d))
  between a b c d P Q R S = minus (k + l + 1) (k + l + 1) (k + l + 1) n _ _ (omega arith) (omega arith) (omega arith) o (times k l (k + l + 1) a b (omega arith) (omega arith) P Q) (times k l (k + l + 1) c d (omega arith) (omega arith) R S)

  pub small_cross : SmallVec n (G.cross v w)
  unfolding G.cross
  small_cross = (between v.y w.z v.z w.y A.1 B.2 A.2 B.1, between v.z w.x v.x w.z A.2 B.0 A.0 B.2, between v.x w.y v.y w.x A.0 B.1 A.1 B.0)

-- ---- turned vectors and points: an axis of numbers up to 2 ^ 17, and a vector of numbers up to 2 ^ k
module _ (k : ℕ) (axis v : Vec3) (h : k ≤ 700) (A : SmallVec 17 axis) (B : SmallVec k v) where
  pub turned_vector : (t : Turn) → SmallTurn t → SmallVec (k + 46) (rotate_vector axis v t)
  unfolding rotate_vector
  turned_vector t T =
      vec_add (k + 24) (k + 44) (k + 44) (k + 46) _ _ (omega arith) (omega arith) (omega arith) (omega arith)
      (vec_add (k + 2) (k + 22) (k + 22) (k + 24) _ _ (omega arith) (omega arith) (omega arith) (omega arith)
      (vec_scale k 1 (k + 2) v t.cosine (omega arith) (omega arith) B T.1)
      (vec_scale (k + 20) 1 (k + 22) (G.cross axis v) t.sine (omega arith) (omega arith) (small_cross 17 k (k + 20) axis v (omega arith) (omega arith) A B) T.0))
      (vec_scale 17 (k + 26) (k + 44) axis _ (omega arith) (omega arith) A
      (times (k + 22) 3 (k + 26) _ _ (omega arith) (omega arith) (small_dot 17 k (k + 22) axis v (omega arith) (omega arith) A B)
      (minus 0 1 1 3 one t.cosine (lit≤ tt) (lit≤ tt) (lit≤ tt) (lit≤ tt) one_small T.1)))

-- a point that is turned about a pivot of numbers up to 2 ^ 17
pub turned_point : (k : ℕ) (axis pivot point : Vec3) (t : Turn) → 17 ≤ k → k ≤ 600 → SmallVec 17 axis → SmallVec 17 pivot → SmallVec k point → SmallTurn t → SmallVec (k + 50) (rotate_point axis pivot point t)
unfolding rotate_point
turned_point k axis pivot point t l h A P Q T =
    vec_add 17 (k + 48) (k + 48) (k + 50) pivot _ (omega arith) (omega arith) (omega arith) (omega arith) P
    (subst (λ (n : ℕ). SmallVec n (rotate_vector axis (G.sub point pivot) t)) same
    (turned_vector (k + 2) axis (G.sub point pivot) (omega arith) A (vec_sub k 17 k (k + 2) point pivot (omega arith) l (omega arith) (omega arith) Q P) t T))
  where
    same : k + 2 + 46 ≡ k + 48
    same = omega arith
