-- Where no number of the chain and of the tip is past 100,000, the position of every pair of angles is finite: a sine
-- is at most a little over 1, and nothing in between can overflow.
use mathlib.Core.Path.{◌≡◌, refl}
use mathlib.Core.Bool.{Bool, true, false, cond}
use Prim.Native.Nat.{ℕ, ◌+◌, ◌*◌, ◌^◌, ◌≤◌}
use native.Mathlib.Omega.{arith}
use lib.Dec.{T, lit≤}
use lib.Ieee.{Float, binary64, neg, of_bits, fits}
use Rattle.std.specs.Prelude.{None, Option, Some}
use Rattle.float.specs.Units.{U, Is}
use Rattle.float.specs.Helpers.{nought}
use Rattle.float.proofs.Sizes.{parts_size_le}
use Rattle.float.proofs.UpTo.{up_to_more, up_to_le, double_up_to}
use Rattle.float.proofs.Bounded.{Small, nought_small}
use Rattle.geometry.specs.declared.Vec3.{Vec3}
use Rattle.geometry.specs.declared.Turn.{Turn}
use Rattle.geometry.specs.Turn.{rotate_vector, rotate_point}
use Rattle.geometry.proofs.Bounded.{SmallVec, SmallTurn, vec_raise, vec_finite, turn_small, still_small, vec_add, vec_sub, vec_scale, turned_vector, turned_point}
use Rattle.chain.specs.declared.Carrier.{Carrier}
use Rattle.chain.specs.declared.Carrier.TheVariants.{Table, Head}
use Rattle.chain.specs.declared.Spin.{Spin}
use Rattle.chain.specs.declared.Prepared.{Prepared}
use Rattle.chain.specs.Check.{within, all_within, longest}
use Rattle.chain.specs.Forward.{of_second, by_second, still, swing, turns_of, swing_forth, tables_forth, by_head, by_table, head_point, table_point, table_vector, reach, forward_core, position}
use Rattle.inverse.specs.Solutions.{origin}
use Rattle.inverse.specs.Inverse.{pose_at, misses, joints_at}
use Rattle.inverse.specs.declared.Angles.{Angles}
use Rattle.path.specs.Exact.{reached_by, candidate, position_finite}

-- ---- a sine and a cosine are at most 2
below_small : Small 0 (neg nought)
unfolding of_bits neg U
below_small = record { s = true; v = 0; is = (refl, refl); most = lit≤ tt }

swing_small : (m : Carrier) (angle : Float) → SmallTurn (swing m angle)
swing_small Table angle = turn_small (neg angle)
swing_small Head angle = turn_small angle

forth_small : (m : Carrier) (angle : Float) → SmallTurn (swing_forth m angle)
forth_small Table angle = turn_small angle
forth_small Head angle = still_small

second_small : (o : Option Spin) (turn : Carrier → Turn) → ((c : Carrier) → SmallTurn (turn c)) → SmallTurn (of_second o still (λ s. turn s.carrier))
second_small (Some s) turn h = h s.carrier
second_small None turn h = still_small

-- ---- what is not past 100,000 is below 2 ^ 17
longest_is : Is longest false (100000 * U)
unfolding of_bits U
longest_is = (refl, refl)

pub within_small : (x : Float) → T (fits binary64 x) → within x longest ≡ true → Small 17 x
unfolding within
within_small x f h = up_to_more 100000 (2 ^ 17) x (lit≤ tt) (double_up_to 100000 longest longest_is x f h)

-- what is at most 2 is not past it
small_within : (x : Float) → Small 1 x → within x longest ≡ true
unfolding within
small_within x X = let l = up_to_le 100000 longest longest_is x (up_to_more 2 100000 x (lit≤ tt) X) in parts_size_le x longest l.0 l.1

pub vec_within : (v : Vec3) → SmallVec 1 v → all_within v longest ≡ true
unfolding all_within
vec_within v A = rw (small_within v.x A.0, small_within v.y A.1, small_within v.z A.2)

-- ---- one rotary
abbrev pub SmallOf : Spin → Type 0
SmallOf s = SmallVec 17 s.axis × SmallVec 17 s.pivot

module _ (k : ℕ) (axis pivot v : Vec3) (t : Turn) (l : 17 ≤ k) (h : k ≤ 600) (R : SmallTurn t) (A : SmallVec k v) where
  raised : (n : ℕ) → SmallVec (k + n) v
  raised n = vec_raise k (k + n) v (omega arith) A

  by_head_point : (m : Carrier) → SmallVec 17 axis × SmallVec 17 pivot → SmallVec (k + 50) (by_head m (rotate_point axis pivot v t) v)
  by_head_point Head S = turned_point k axis pivot v t l h S.0 S.1 A R
  by_head_point Table S = raised 50

  by_table_point : (m : Carrier) → SmallVec 17 axis × SmallVec 17 pivot → SmallVec (k + 50) (by_table m (rotate_point axis pivot v t) v)
  by_table_point Table S = turned_point k axis pivot v t l h S.0 S.1 A R
  by_table_point Head S = raised 50

  by_table_vector : (m : Carrier) → SmallVec 17 axis × SmallVec 17 pivot → SmallVec (k + 46) (by_table m (rotate_vector axis v t) v)
  by_table_vector Table S = turned_vector k axis v (omega arith) S.0 A t R
  by_table_vector Head S = raised 46

module _ (k : ℕ) (s : Spin) (t : Turn) (v : Vec3) (l : 17 ≤ k) (h : k ≤ 600) (S : SmallOf s) (R : SmallTurn t) (A : SmallVec k v) where
  head_point_small : SmallVec (k + 50) (head_point s t v)
  unfolding head_point
  head_point_small = by_head_point k s.axis s.pivot v t l h R A s.carrier S

  table_point_small : SmallVec (k + 50) (table_point s t v)
  unfolding table_point
  table_point_small = by_table_point k s.axis s.pivot v t l h R A s.carrier S

  table_vector_small : SmallVec (k + 46) (table_vector s t v)
  unfolding table_vector
  table_vector_small = by_table_vector k s.axis s.pivot v t l h R A s.carrier S

-- ---- the second one, where there is one
abbrev pub SmallSecond : Option Spin → Type 0
SmallSecond (Some s) = SmallOf s
SmallSecond None = Unit {0}

module _ (k : ℕ) (t : Turn) (v : Vec3) (l : 17 ≤ k) (h : k ≤ 600) (R : SmallTurn t) (A : SmallVec k v) where
  second_head_point : (o : Option Spin) → SmallSecond o → SmallVec (k + 50) (by_second o (λ s. head_point s t) v)
  second_head_point (Some s) S = head_point_small k s t v l h S R A
  second_head_point None S = vec_raise k (k + 50) v (omega arith) A

  second_table_point : (o : Option Spin) → SmallSecond o → SmallVec (k + 50) (by_second o (λ s. table_point s t) v)
  second_table_point (Some s) S = table_point_small k s t v l h S R A
  second_table_point None S = vec_raise k (k + 50) v (omega arith) A

  second_table_vector : (o : Option Spin) → SmallSecond o → SmallVec (k + 46) (by_second o (λ s. table_vector s t) v)
  second_table_vector (Some s) S = table_vector_small k s t v l h S R A
  second_table_vector None S = vec_raise k (k + 46) v (omega arith) A

-- ---- the chain
pub record SmallChain (p : Prepared) : Type 0 where
  pub first : SmallOf p.first
  pub second : SmallSecond p.second
  pub spindle : SmallVec 17 p.spindle

module _ (p : Prepared) (angles : Angles) (P : SmallChain p) where
  outer : SmallTurn (swing p.first.carrier angles.a0)
  outer = swing_small p.first.carrier angles.a0

  inner : SmallTurn (of_second p.second still (λ s. swing s.carrier angles.a1))
  inner = second_small p.second (λ c. swing c angles.a1) (λ c. swing_small c angles.a1)

  origin_small : SmallVec 0 origin
  origin_small = (nought_small, nought_small, nought_small)

  tip_small : SmallVec 220 (pose_at p angles nought).tip
  unfolding pose_at turns_of forward_core reach
  tip_small =
      second_table_point 170 _ _ (lit≤ tt) (lit≤ tt) inner
      (table_point_small 120 p.first _ _ (lit≤ tt) (lit≤ tt) P.first outer
      (vec_add 0 118 118 120 origin _ (lit≤ tt) (lit≤ tt) (lit≤ tt) (lit≤ tt) origin_small
      (head_point_small 68 p.first _ _ (lit≤ tt) (lit≤ tt) P.first outer
      (second_head_point 18 _ _ (lit≤ tt) (lit≤ tt) inner
      (vec_scale 17 0 18 p.spindle (neg nought) (lit≤ tt) (lit≤ tt) P.spindle below_small)
      p.second P.second))))
      p.second P.second

  position_small : (tip : Vec3) → SmallVec 17 tip → SmallVec 314 (joints_at p angles tip (pose_at p angles nought).tip).xyz
  unfolding joints_at position tables_forth
  position_small tip A =
      table_vector_small 268 p.first _ _ (lit≤ tt) (lit≤ tt) P.first (forth_small p.first.carrier angles.a0)
      (second_table_vector 222 _ _ (lit≤ tt) (lit≤ tt) (second_small p.second (λ c. swing_forth c angles.a1) (λ c. forth_small c angles.a1))
      (vec_sub 17 220 220 222 tip (pose_at p angles nought).tip (lit≤ tt) (lit≤ tt) (lit≤ tt) (lit≤ tt) A tip_small)
      p.second P.second)

-- ---- the law
module _ (p : Prepared) (target tip : Vec3) (P : SmallChain p) (A : SmallVec 17 tip) where
  reached_finite : (angles : Angles) → position_finite (reached_by p target tip angles) ≡ true
  unfolding reached_by
  reached_finite angles = go (misses (pose_at p angles nought).axis target)
    where
      go : (b : Bool) → position_finite (cond b None (Some (joints_at p angles tip (pose_at p angles nought).tip))) ≡ true
      go true = refl
      go false = vec_finite 314 (joints_at p angles tip (pose_at p angles nought).tip).xyz (position_small p angles P tip A)

  pub candidate_finite : (raw : Option Angles) → position_finite (candidate p target tip raw) ≡ true
  candidate_finite (Some angles) = reached_finite angles
  candidate_finite None = refl
