-- A vector of numbers up to 10,000, one of them above 2 ^ -37, has a direction; and two turns of a unit vector about
-- unit axes leave such a vector: so what a chain's rotaries make of the spindle always has a direction.
use Prim.Native.Nat.{ℕ, ◌+◌, ◌*◌, ◌^◌, ◌≤◌, ◌<◌}
use native.Mathlib.Nat.{mul-le-mul, mul-le-mul_right, mul-pos, le_trans, le_of_eq}
use native.Mathlib.Omega.{arith}
use mathlib.Core.Path.{◌≡◌, refl}
use mathlib.Core.Bool.{Bool, true, false, ◌&&◌}
use lib.Dec.{lit≤}
use lib.Ieee.{Float, le}
use lib.Ieee.Scale.{finite}
use Rattle.std.specs.Prelude.{Some}
use Rattle.float.specs.Units.{U}
use Rattle.float.specs.Helpers.{one, size_of}
use Rattle.float.proofs.Rounding.{U_pos}
use Rattle.float.proofs.Sizes.{size_is}
use Rattle.float.proofs.UpTo.{UpTo, up_to_more, units_le}
use Rattle.float.proofs.Bounded.{finite_small}
use Rattle.root.specs.Root.{root}
use Rattle.root.proofs.RootSizes.{root_not_zero}
use Rattle.geometry.specs.declared.Vec3.{Vec3}
use Rattle.geometry.specs.declared.Turn.{Turn}
use Rattle.geometry.specs.Vector as G
use Rattle.geometry.specs.Turn.{rotate_vector}
use Rattle.geometry.specs.Direction.{smallest, tiny, with_length, unit_direction}
use Rattle.geometry.specs.Doubles.{FitVec}
use Rattle.geometry.proofs.FitVectors.{added_fits, dot_fits}
use Rattle.geometry.proofs.Bounded.{SmallVec, vec_raise, vec_finite}
use Rattle.geometry.proofs.Lengths.{norm_small}
use Rattle.geometry.proofs.UnitSize.{UnitSized, S, smallest_is, dot_least}
use Rattle.geometry.proofs.TurnPair.{TurnSized}
use Rattle.geometry.proofs.TurnSteps.{ω, U-ω, VecUpTo, Within, turned_bound, turned, before}

-- ---- sizes
-- doubles, each up to b, and not all within δ
pub record Out (b δ : ℕ) (v : Vec3) : Type 0 where
  pub fit : FitVec v
  pub size : VecUpTo b v
  pub out : Within δ b v size → ⊥

-- ---- a vector of that size has a direction: what is not within 2 ^ -37 is not tiny, and its length is finite
S-few : S ≤ 8 * ω
unfolding S ω
S-few = lit≤ tt

size_few : (B : ℕ) (x : Float) (X : UpTo B x) → le (size_of x) smallest ≡ true → X.v ≤ 8 * ω
size_few B x X h = le_trans (units_le (size_of x) smallest false X.v S (size_is x X.s X.v X.is) smallest_is h) S-few

module _ (v : Vec3) (o : Out 10000 (8 * ω) v) where
  small : SmallVec 14 v
  small = (up_to_more 10000 (2 ^ 14) v.x (lit≤ tt) o.size.x, up_to_more 10000 (2 ^ 14) v.y (lit≤ tt) o.size.y, up_to_more 10000 (2 ^ 14) v.z (lit≤ tt) o.size.z)

  not_tiny : tiny v ≡ false
  unfolding tiny
  not_tiny = go (le (size_of v.x) smallest) (le (size_of v.y) smallest) (le (size_of v.z) smallest) (size_few 10000 v.x o.size.x) (size_few 10000 v.y o.size.y) (size_few 10000 v.z o.size.z)
    where
      go : (a b c : Bool) → (a ≡ true → o.size.x.v ≤ 8 * ω) → (b ≡ true → o.size.y.v ≤ 8 * ω) → (c ≡ true → o.size.z.v ≤ 8 * ω) → (a && b && c) ≡ false
      go true true true f g h = absurd (o.out (f refl, g refl, h refl))
      go true true false f g h = refl
      go true false c f g h = refl
      go false b c f g h = refl

  length_finite : finite (root (G.dot v v)) ≡ true
  length_finite = finite_small 100 (root (G.dot v v)) (unfold G.norm in norm_small v (vec_raise 14 90 v (lit≤ tt) small))

  pub out_directed : unit_direction v ≡ Some (G.scale v (G.over one (root (G.dot v v))))
  unfolding unit_direction with_length
  out_directed = rw (vec_finite 14 v small, not_tiny, length_finite, root_not_zero (G.dot v v) (dot_fits v v) (dot_least 14 v small not_tiny))

-- ---- a turn leaves a vector of that kind
pub out_turn : (b δ : ℕ) → b ≤ 200 → 8 * ω ≤ δ → (axis v : Vec3) (t : Turn) → UnitSized axis → TurnSized t → Out b (41616 * δ) v → Out (turned_bound b) δ (rotate_vector axis v t)
unfolding rotate_vector
out_turn b δ few h axis v t K R o = record {
  fit = added_fits _ _;
  size = turned b few axis v t K o.size R;
  out = λ w. o.out (before b few axis v t K o.size R δ h w);
}

-- written out, so that the units are seen to stay
abbrev larger : (b c : ℕ) (x : Float) → b ≤ c → UpTo b x → UpTo c x
larger b c x h X = record { s = X.s; v = X.v; is = X.is; most = le_trans X.most (mul-le-mul_right U h) }

pub out_less : (b c δ ε : ℕ) (v : Vec3) → b ≤ c → ε ≤ δ → Out b δ v → Out c ε v
out_less b c δ ε v h k o = record {
  fit = o.fit;
  size = record { x = larger b c v.x h o.size.x; y = larger b c v.y h o.size.y; z = larger b c v.z h o.size.z };
  out = λ w. o.out (le_trans w.0 k, le_trans w.1 k, le_trans w.2 k);
}

-- ---- a unit vector
no_unit : (x y z u o : ℕ) → u ≡ 2 ^ 40 * o → 0 < u → x ≤ 41616 * (41616 * (8 * o)) → y ≤ 41616 * (41616 * (8 * o)) → z ≤ 41616 * (41616 * (8 * o)) → 2 ^ 20 * (u * u) ≤ 2 ^ 20 * (x * x + y * y + z * z) + u * u → ⊥
no_unit x y z u o e P a b c h = go (squared x a) (squared y b) (squared z c) (mul-pos P P)
  where
    tenth : (x : ℕ) → x ≤ 41616 * (41616 * (8 * o)) → 10 * x ≤ u
    tenth x a = omega arith

    squared : (x : ℕ) → x ≤ 41616 * (41616 * (8 * o)) → 10 * x * (10 * x) ≤ u * u
    squared x a = mul-le-mul (tenth x a) (tenth x a)

    go : 10 * x * (10 * x) ≤ u * u → 10 * y * (10 * y) ≤ u * u → 10 * z * (10 * z) ≤ u * u → 0 < u * u → ⊥
    go p q r s = omega arith

pub unit_out : (u : Vec3) → FitVec u → UnitSized u → Out 2 (41616 * (41616 * (8 * ω))) u
unit_out u fit K = record {
  fit = fit;
  size = record { x = K.small.0; y = K.small.1; z = K.small.2 };
  out = λ w. no_unit K.small.0.v K.small.1.v K.small.2.v U ω U-ω U_pos w.0 w.1 w.2 K.long;
}

-- ---- no turn, one, two
scaled_more : (d : ℕ) → d ≤ 41616 * d
scaled_more d = omega arith

pub none_directed : (v : Vec3) → Out 2 (41616 * (41616 * (8 * ω))) v → Out 10000 (8 * ω) v
none_directed v o = out_less 2 10000 (41616 * (41616 * (8 * ω))) (8 * ω) v (lit≤ tt) (le_trans (scaled_more (8 * ω)) (scaled_more (41616 * (8 * ω)))) o

pub one_directed : (axis v : Vec3) (t : Turn) → UnitSized axis → TurnSized t → Out 2 (41616 * (41616 * (8 * ω))) v → Out 10000 (8 * ω) (rotate_vector axis v t)
one_directed axis v t K R o =
    out_less 169 10000 (41616 * (8 * ω)) (8 * ω) (rotate_vector axis v t) (lit≤ tt) (scaled_more (8 * ω))
    (out_turn 2 (41616 * (8 * ω)) (lit≤ tt) (scaled_more (8 * ω)) axis v t K R o)

pub two_directed : (axis axis' v : Vec3) (t t' : Turn) → UnitSized axis → TurnSized t → UnitSized axis' → TurnSized t' → Out 2 (41616 * (41616 * (8 * ω))) v → Out 10000 (8 * ω) (rotate_vector axis' (rotate_vector axis v t) t')
two_directed axis axis' v t t' K R K' R' o =
    out_less 9855 10000 (8 * ω) (8 * ω) (rotate_vector axis' (rotate_vector axis v t) t') (lit≤ tt) (le_of_eq refl)
    (out_turn 169 (8 * ω) (lit≤ tt) (le_of_eq refl) axis' (rotate_vector axis v t) t' K' R' (out_turn 2 (41616 * (8 * ω)) (lit≤ tt) (scaled_more (8 * ω)) axis v t K R o))
