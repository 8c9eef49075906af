-- A unit vector of doubles is one: the squares of its numbers add up to 1 within 2 ^ -20 (`unit_size`), whatever vector
-- it is of, from 1e-15 up to the largest of which the length is finite. So its numbers are at most 2 in size
-- (`unit_small`), and every law that leans on a unit vector leans on this alone.
--
-- u is 1 in units, and b = u * u. The numbers a of the vector have squares that add up to m; l is the length, r one
-- over it, and v = a r the number of the unit vector, each rounded. Then l l is near m, r l near b, and the sum of v v
-- near b.
use Prim.Native.Nat.{ℕ, ◌+◌, ◌*◌, ◌^◌, ◌≤◌, ◌<◌}
use native.Mathlib.Nat.{mul-le-mul, mul-lt-mul_of_pos_right, mul-le-mul_right, mul-le-mul_left, le_of_mul-le-mul_right, mul-pos, le_trans, lt_of_lt_of_le, le_of_lt}
use native.Mathlib.Omega.{arith}
use mathlib.Core.Path.{◌≡◌, refl, sym, ap, ◌∙◌, subst}
use mathlib.Core.Bool.{Bool, true, false, not, cond, ◌&&◌, true≢false}
use mathlib.Core.Logic.{◌⊎◌, inl, inr}
use lib.Dec.{T, lit≤}
use lib.Pow.{pow_pos}
use lib.Ieee.{Float, binary64, unlike, add, mul, div, le, eq, round, of_bits, fits}
use lib.Ieee.Bits.{is_true}
use lib.Ieee.Order.{round_mono}
use lib.Ieee.Scale.{finite}
use Rattle.std.specs.Prelude.{None, Option, Some}
use Rattle.float.specs.Units.{U, Is}
use Rattle.float.specs.Helpers.{nought, one, size_of}
use Rattle.float.proofs.Order as order
use Rattle.float.proofs.Rounding.{W, U-is, U_pos, W-pos, div_is, div_rounded, mul_rounded}
use Rattle.float.proofs.Sizes.{size_is}
use Rattle.float.proofs.Units.{held, is_finite, le_or_lt, one_number}
use Rattle.float.proofs.UpTo.{one_is, units_le, le_of_units}
use Rattle.float.proofs.Bounded.{Small}
use Rattle.float.proofs.RelativeError.{Relative, RoundedTo, relative_scale, round_relative, sum_relative, sum_finite}
use Rattle.root.specs.Root.{root, Rooted}
use Rattle.root.proofs.RootOrder.{sq_is}
use Rattle.root.proofs.RootSizes.{root_fits, root_finite, RootSquare, root_square, units_rooted, short, short_units, root_long}
use Rattle.geometry.specs.declared.Vec3.{Vec3}
use Rattle.geometry.specs.Vector as G
use Rattle.geometry.specs.Direction.{smallest, all_finite, tiny, with_length, unit_direction}
use Rattle.geometry.specs.Doubles.{FitVec}
use Rattle.geometry.proofs.FitVectors.{dot_fits}
use Rattle.geometry.proofs.Bounded.{SmallVec, held_vector}
use Rattle.geometry.proofs.Lengths.{DotAbove, dot_above}

-- numbers of at most 2 in size, whose squares add up to 1 within 2 ^ -20: no less (`long`) and no more (`short`)
pub record UnitSized (v : Vec3) : Type 0 where
  pub small : SmallVec 1 v
  pub long : 2 ^ 20 * (U * U) ≤ 2 ^ 20 * (small.0.v * small.0.v + small.1.v * small.1.v + small.2.v * small.2.v) + U * U
  pub short : 2 ^ 20 * (small.0.v * small.0.v + small.1.v * small.1.v + small.2.v * small.2.v) ≤ 2 ^ 20 * (U * U) + U * U

-- ---- what is not tiny has a square of 2 ^ -100 and more
unfoldable pub S : ℕ
S = 5070602400912918 * 2 ^ 972

pub smallest_is : Is smallest false S
unfolding of_bits U S
smallest_is = (refl, refl)

S-most : U ≤ S * 2 ^ 50
unfolding U S
S-most = lit≤ tt

square_least : (k : ℕ) (c : Float) → Small k c → le (size_of c) smallest ≡ false → le short (mul binary64 c c) ≡ true
square_least k c C h = go (le_or_lt C.v S)
  where
    squared : (v u P R : ℕ) → P * P ≡ R → u ≤ v * P → 1 * (u * u) ≤ v * v * R
    squared v u P R e l = plain (u * u) (v * P * (v * P)) (v * v * (P * P)) (v * v * R) (mul-le-mul l l) (turned v P) (ap (λ (z : ℕ). v * v * z) e)
      where
        turned : (v P : ℕ) → v * P * (v * P) ≡ v * v * (P * P)
        turned v P = omega arith

        plain : (a b c d : ℕ) → a ≤ b → b ≡ c → c ≡ d → 1 * a ≤ d
        plain a b c d l m n = omega arith

    go : (C.v ≤ S) ⊎ (S < C.v) → le short (mul binary64 c c) ≡ true
    go (inl l) = absurd (true≢false (sym (le_of_units (size_of c) smallest false C.v S (size_is c C.s C.v C.is) smallest_is l) ∙ h))
    go (inr l) =
        ap (λ (z : Float). le short z) (sq_is c C.s C.v C.is)
        ∙ is_true _ (round_mono binary64 1 (2 ^ 100) (C.v * C.v) (U * U) (pow_pos 100) (mul-pos U_pos U_pos) (squared C.v U (2 ^ 50) (2 ^ 100) refl (le_trans S-most (mul-le-mul_right (2 ^ 50) (le_of_lt l)))))

pub dot_least : (k : ℕ) (v : Vec3) → SmallVec k v → tiny v ≡ false → le short (G.dot v v) ≡ true
unfolding tiny
dot_least k v A h = go (le (size_of v.x) smallest) (le (size_of v.y) smallest) (le (size_of v.z) smallest) refl refl refl h
  where
    above : DotAbove v
    above = dot_above k v A

    go : (a b c : Bool) → le (size_of v.x) smallest ≡ a → le (size_of v.y) smallest ≡ b → le (size_of v.z) smallest ≡ c → (a && b && c) ≡ false → le short (G.dot v v) ≡ true
    go false b c e f g h = order.le_trans short _ (G.dot v v) (square_least k v.x A.0 e) above.x
    go true false c e f g h = order.le_trans short _ (G.dot v v) (square_least k v.y A.1 f) above.y
    go true true false e f g h = order.le_trans short _ (G.dot v v) (square_least k v.z A.2 g) above.z
    go true true true e f g h = absurd (true≢false h)

-- ---- one over a length is finite
U-apart : U ≡ 2 ^ 50 * 2 ^ 1024
unfolding U
U-apart = refl

over_room : (u w b B P Q R : ℕ) → u ≡ Q * w → u ≡ P * B → B ≤ b → 0 < w → 0 < b → P * Q < R → u * u < R * w * b
over_room u w b B P Q R e f h x y r = strict (u * u) (P * b * (Q * w)) (P * Q * (w * b)) (R * (w * b)) (mul-le-mul (le_trans (equal f) (mul-le-mul_left P h)) (equal e)) (turned P b Q w) (mul-lt-mul_of_pos_right r (mul-pos x y)) (flat R w b)
  where
    equal : {m n : ℕ} → m ≡ n → m ≤ n
    equal {m} {n} e = omega arith

    turned : (P b Q w : ℕ) → P * b * (Q * w) ≡ P * Q * (w * b)
    turned P b Q w = omega arith

    flat : (R w b : ℕ) → R * (w * b) ≡ R * w * b
    flat R w b = omega arith

    strict : (a c d e : ℕ) → a ≤ c → c ≡ d → d < e → {g : ℕ} → e ≡ g → a < g
    strict a c d e h k l m = omega arith

over_finite : (len : Float) (s : Bool) (b : ℕ) → Is len s b → 2 ^ 1024 ≤ b → T (finite (div binary64 one len))
over_finite len s b i h =
    let B = le_trans (pow_pos 1024) h in
    let R = div_rounded one len false s U b 54 (lit≤ tt) B one_is i (over_room U W b (2 ^ 1024) (2 ^ 50) (2 ^ 57) (2 ^ 108) U-is U-apart h W-pos B (lit≤ tt)) in
    is_finite (div binary64 one len) (unlike false s) R.v R.is

-- ---- in whole numbers: relative errors, each a little larger than the one before
-- `Relative` with a smaller number, for `omega`
abbrev Near : ℕ → ℕ → ℕ → Type 0
Near v n c = (2 ^ 28 * v ≤ 2 ^ 28 * n + n + 2 ^ 28 * c) × (2 ^ 28 * n ≤ 2 ^ 28 * v + n + 2 ^ 28 * c)

near_of : (x n c : ℕ) → 2 ^ 50 * x ≤ 2 ^ 50 * n + n + 2 ^ 50 * c → 2 ^ 50 * n ≤ 2 ^ 50 * x + n + 2 ^ 50 * c → Near x n c
near_of x n c a b = (omega arith, omega arith)

near_whole : (v n k : ℕ) → 0 < k → Relative v (n * k) k → Near v n 1
near_whole v n k K r = near_of v n 1 (le_of_mul-le-mul_right {k = k} (up r.high) K) (le_of_mul-le-mul_right {k = k} (down r.low) K)
  where
    up : 2 ^ 50 * (v * k) ≤ 2 ^ 50 * (n * k) + n * k + 2 ^ 50 * k → 2 ^ 50 * v * k ≤ (2 ^ 50 * n + n + 2 ^ 50 * 1) * k
    up h = omega arith

    down : 2 ^ 50 * (n * k) ≤ 2 ^ 50 * (v * k) + n * k + 2 ^ 50 * k → 2 ^ 50 * n * k ≤ (2 ^ 50 * v + n + 2 ^ 50 * 1) * k
    down h = omega arith

-- x is the sum of the squares A, B, C, rounded: p, q, r the rounded squares, y the sum of two
record SumNear (A B C p q r y x u : ℕ) : Type 0 where
  first : Near (p * u) A u
  second : Near (q * u) B u
  third : Near (r * u) C u
  two : Near y (p + q) 1
  three : Near x (y + r) 1
  least : 2 ^ 40 * 1 ≤ x

-- two roundings: y is s, rounded, and x is y + r, rounded
sums_high : (s r y x : ℕ) → 2 ^ 28 * y ≤ 2 ^ 28 * s + s + 2 ^ 28 * 1 → 2 ^ 28 * x ≤ 2 ^ 28 * (y + r) + (y + r) + 2 ^ 28 * 1 → 2 ^ 26 * x ≤ 2 ^ 26 * (s + r) + (s + r) + 2 ^ 28 * 1
sums_high s r y x a b = omega arith

sums_low : (s r y x : ℕ) → 2 ^ 28 * s ≤ 2 ^ 28 * y + s + 2 ^ 28 * 1 → 2 ^ 28 * (y + r) ≤ 2 ^ 28 * x + (y + r) + 2 ^ 28 * 1 → 2 ^ 26 * (s + r) ≤ 2 ^ 26 * x + (s + r) + 2 ^ 28 * 1
sums_low s r y x a b = omega arith

-- three squares, each rounded
three_high : (A B C P Q R u : ℕ) → 2 ^ 28 * P ≤ 2 ^ 28 * A + A + 2 ^ 28 * u → 2 ^ 28 * Q ≤ 2 ^ 28 * B + B + 2 ^ 28 * u → 2 ^ 28 * R ≤ 2 ^ 28 * C + C + 2 ^ 28 * u
    → 2 ^ 28 * (P + Q + R) ≤ 2 ^ 28 * (A + B + C) + (A + B + C) + 2 ^ 28 * (3 * u)
three_high A B C P Q R u a b c = omega arith

three_low : (A B C P Q R u : ℕ) → 2 ^ 28 * A ≤ 2 ^ 28 * P + A + 2 ^ 28 * u → 2 ^ 28 * B ≤ 2 ^ 28 * Q + B + 2 ^ 28 * u → 2 ^ 28 * C ≤ 2 ^ 28 * R + C + 2 ^ 28 * u
    → 2 ^ 28 * (A + B + C) ≤ 2 ^ 28 * (P + Q + R) + (A + B + C) + 2 ^ 28 * (3 * u)
three_low A B C P Q R u a b c = omega arith

-- x is far above c
far_high : (x n c : ℕ) → 2 ^ 26 * x ≤ 2 ^ 26 * n + n + 2 ^ 28 * c → 2 ^ 40 * c ≤ x → 2 ^ 25 * x ≤ (2 ^ 25 + 1) * n
far_high x n c h k = omega arith

far_low : (x n c : ℕ) → 2 ^ 26 * n ≤ 2 ^ 26 * x + n + 2 ^ 28 * c → 2 ^ 40 * c ≤ x → 2 ^ 25 * n ≤ (2 ^ 25 + 1) * x
far_low x n c h k = omega arith

joined_high : (X S N u : ℕ) → 2 ^ 25 * X ≤ (2 ^ 25 + 1) * S → 2 ^ 28 * S ≤ 2 ^ 28 * N + N + 2 ^ 28 * (3 * u) → 2 ^ 24 * X ≤ 2 ^ 24 * N + N + 2 ^ 26 * u
joined_high X S N u h k = omega arith

joined_low : (X S N u : ℕ) → 2 ^ 25 * S ≤ (2 ^ 25 + 1) * X → 2 ^ 28 * N ≤ 2 ^ 28 * S + N + 2 ^ 28 * (3 * u) → 2 ^ 24 * N ≤ 2 ^ 24 * X + N + X + 2 ^ 26 * u
joined_low X S N u h k = omega arith

last_high : (X N u : ℕ) → 2 ^ 24 * X ≤ 2 ^ 24 * N + N + 2 ^ 26 * u → 2 ^ 40 * u ≤ X → 2 ^ 23 * X ≤ (2 ^ 23 + 1) * N
last_high X N u h k = omega arith

last_low : (X N u : ℕ) → 2 ^ 24 * N ≤ 2 ^ 24 * X + N + X + 2 ^ 26 * u → 2 ^ 40 * u ≤ X → 2 ^ 22 * N ≤ (2 ^ 22 + 1) * X
last_low X N u h k = omega arith

times_high : (p q r x u : ℕ) → 2 ^ 25 * x ≤ (2 ^ 25 + 1) * (p + q + r) → 2 ^ 25 * (x * u) ≤ (2 ^ 25 + 1) * (p * u + q * u + r * u)
times_high p q r x u k = at (mul-le-mul_right u k)
  where
    at : 2 ^ 25 * x * u ≤ (2 ^ 25 + 1) * (p + q + r) * u → 2 ^ 25 * (x * u) ≤ (2 ^ 25 + 1) * (p * u + q * u + r * u)
    at k = omega arith

times_low : (p q r x u : ℕ) → 2 ^ 25 * (p + q + r) ≤ (2 ^ 25 + 1) * x → 2 ^ 25 * (p * u + q * u + r * u) ≤ (2 ^ 25 + 1) * (x * u)
times_low p q r x u k = at (mul-le-mul_right u k)
  where
    at : 2 ^ 25 * (p + q + r) * u ≤ (2 ^ 25 + 1) * x * u → 2 ^ 25 * (p * u + q * u + r * u) ≤ (2 ^ 25 + 1) * (x * u)
    at k = omega arith

module _ (A B C p q r y x u : ℕ) (h : SumNear A B C p q r y x u) where
  sum_high : 2 ^ 23 * (x * u) ≤ (2 ^ 23 + 1) * (A + B + C)
  sum_high =
      last_high (x * u) (A + B + C) u
      (joined_high (x * u) (p * u + q * u + r * u) (A + B + C) u (times_high p q r x u (far_high x (p + q + r) 1 (sums_high (p + q) r y x h.two.0 h.three.0) h.least)) (three_high A B C (p * u) (q * u) (r * u) u h.first.0 h.second.0 h.third.0))
      (mul-le-mul_right u h.least)

  sum_low : 2 ^ 22 * (A + B + C) ≤ (2 ^ 22 + 1) * (x * u)
  sum_low =
      last_low (x * u) (A + B + C) u
      (joined_low (x * u) (p * u + q * u + r * u) (A + B + C) u (times_low p q r x u (far_low x (p + q + r) 1 (sums_low (p + q) r y x h.two.1 h.three.1) h.least)) (three_low A B C (p * u) (q * u) (r * u) u h.first.1 h.second.1 h.third.1))
      (mul-le-mul_right u h.least)

-- the length l, L its square
length_high : (L X m : ℕ) → 2 ^ 51 * L ≤ 2 ^ 51 * X + L → 2 ^ 23 * X ≤ (2 ^ 23 + 1) * m → 2 ^ 22 * L ≤ (2 ^ 22 + 1) * m
length_high L X m a b = omega arith

length_low : (L X m : ℕ) → 2 ^ 51 * X ≤ 2 ^ 51 * L + L → 2 ^ 22 * m ≤ (2 ^ 22 + 1) * X → 2 ^ 21 * m ≤ (2 ^ 21 + 1) * L
length_low L X m a b = omega arith

-- one over it: x is r l
recip_high : (x b l : ℕ) → 2 ^ 50 * x ≤ 2 ^ 50 * b + b + 2 ^ 50 * l → 2 ^ 50 * l ≤ b → 2 ^ 24 * x ≤ (2 ^ 24 + 1) * b
recip_high x b l h k = omega arith

recip_low : (x b l : ℕ) → 2 ^ 50 * b ≤ 2 ^ 50 * x + b + 2 ^ 50 * l → 2 ^ 50 * l ≤ b → 2 ^ 24 * b ≤ (2 ^ 24 + 1) * x
recip_low x b l h k = omega arith

-- ---- one number a of the vector, from a square that is at most 17 / 16 of the length's
part_most : (a l : ℕ) → 16 * (a * a) ≤ 17 * (l * l) → 32 * a ≤ 33 * l
part_most a l h = go (le_or_lt (32 * a) (33 * l))
  where
    go : (32 * a ≤ 33 * l) ⊎ (33 * l < 32 * a) → 32 * a ≤ 33 * l
    go (inl k) = k
    go (inr k) = absurd (clash (mul-le-mul (more k) (more k)))
      where
        more : 33 * l < 32 * a → 33 * l + 1 ≤ 32 * a
        more k = omega arith

        clash : (33 * l + 1) * (33 * l + 1) ≤ 32 * a * (32 * a) → ⊥
        clash s = omega arith

part_product : (a l r b : ℕ) → 32 * a ≤ 33 * l → 2 ^ 24 * (r * l) ≤ (2 ^ 24 + 1) * b → 16 * (a * r) ≤ 17 * b
part_product a l r b h k = go (mul-le-mul_right r h)
  where
    go : 32 * a * r ≤ 33 * l * r → 16 * (a * r) ≤ 17 * b
    go x = omega arith

part_room : (z w u : ℕ) → u ≡ 2 ^ 57 * w → 0 < u → 16 * z ≤ 17 * (u * u) → z < 2 ^ 58 * w * u
part_room z w u e P h = go (ap (λ (x : ℕ). x * u) e) (mul-pos P P)
  where
    go : u * u ≡ 2 ^ 57 * w * u → 0 < u * u → z < 2 ^ 58 * w * u
    go x y = omega arith

part_size : (z v w u : ℕ) → u ≡ 2 ^ 57 * w → 0 < u → 16 * z ≤ 17 * (u * u) → v * u ≤ z + 16 * w * u → v ≤ 2 * u
part_size z v w u e P h n = le_of_mul-le-mul_right {k = u} (go (ap (λ (x : ℕ). x * u) e)) P
  where
    go : u * u ≡ 2 ^ 57 * w * u → v * u ≤ 2 * u * u
    go x = omega arith

-- ---- the squares of the numbers: x is at most t more than z
close : (x z t b : ℕ) → x ≤ z + t → z ≤ 2 * b → 2 ^ 46 * t ≤ b → 2 ^ 30 * (x * x) ≤ 2 ^ 30 * (z * z) + b * b
close x z t b h k m = go (mul-le-mul h h) (mul-le-mul k m) (mul-le-mul (few t b m) m)
  where
    few : (t b : ℕ) → 2 ^ 46 * t ≤ b → t ≤ b
    few t b m = omega arith

    go : x * x ≤ (z + t) * (z + t) → z * (2 ^ 46 * t) ≤ 2 * b * b → t * (2 ^ 46 * t) ≤ b * b → 2 ^ 30 * (x * x) ≤ 2 ^ 30 * (z * z) + b * b
    go p q r = omega arith

error_few : (w u : ℕ) → u ≡ 2 ^ 57 * w → 2 ^ 46 * (16 * w * u) ≤ u * u
error_few w u e = go (ap (λ (x : ℕ). x * u) e)
  where
    go : u * u ≡ 2 ^ 57 * w * u → 2 ^ 46 * (16 * w * u) ≤ u * u
    go x = omega arith

-- m r r beside b b, by L = l l
scaled_high : (m L r b : ℕ) → 2 ^ 21 * m ≤ (2 ^ 21 + 1) * L → 2 ^ 48 * (L * (r * r)) ≤ (2 ^ 24 + 1) * (2 ^ 24 + 1) * (b * b) → 2 ^ 22 * (m * (r * r)) ≤ (2 ^ 22 + 3) * (b * b)
scaled_high m L r b h k = at (m * (r * r)) (L * (r * r)) (b * b) (flat m L (r * r) (mul-le-mul_right (r * r) h)) k
  where
    flat : (m L R : ℕ) → 2 ^ 21 * m * R ≤ (2 ^ 21 + 1) * L * R → 2 ^ 21 * (m * R) ≤ (2 ^ 21 + 1) * (L * R)
    flat m L R h = omega arith

    at : (x y z : ℕ) → 2 ^ 21 * x ≤ (2 ^ 21 + 1) * y → 2 ^ 48 * y ≤ (2 ^ 24 + 1) * (2 ^ 24 + 1) * z → 2 ^ 22 * x ≤ (2 ^ 22 + 3) * z
    at x y z h k = omega arith

scaled_low : (m L r b : ℕ) → 2 ^ 22 * L ≤ (2 ^ 22 + 1) * m → 2 ^ 48 * (b * b) ≤ (2 ^ 24 + 1) * (2 ^ 24 + 1) * (L * (r * r)) → 2 ^ 21 * (b * b) ≤ (2 ^ 21 + 1) * (m * (r * r))
scaled_low m L r b h k = at (m * (r * r)) (L * (r * r)) (b * b) (flat m L (r * r) (mul-le-mul_right (r * r) h)) k
  where
    flat : (m L R : ℕ) → 2 ^ 22 * L * R ≤ (2 ^ 22 + 1) * m * R → 2 ^ 22 * (L * R) ≤ (2 ^ 22 + 1) * (m * R)
    flat m L R h = omega arith

    at : (x y z : ℕ) → 2 ^ 22 * y ≤ (2 ^ 22 + 1) * x → 2 ^ 48 * z ≤ (2 ^ 24 + 1) * (2 ^ 24 + 1) * y → 2 ^ 21 * z ≤ (2 ^ 21 + 1) * x
    at x y z h k = omega arith

squared_high : (r l b : ℕ) → 2 ^ 24 * (r * l) ≤ (2 ^ 24 + 1) * b → 2 ^ 48 * (l * l * (r * r)) ≤ (2 ^ 24 + 1) * (2 ^ 24 + 1) * (b * b)
squared_high r l b h = go (mul-le-mul h h)
  where
    go : 2 ^ 24 * (r * l) * (2 ^ 24 * (r * l)) ≤ (2 ^ 24 + 1) * b * ((2 ^ 24 + 1) * b) → 2 ^ 48 * (l * l * (r * r)) ≤ (2 ^ 24 + 1) * (2 ^ 24 + 1) * (b * b)
    go x = omega arith

squared_low : (r l b : ℕ) → 2 ^ 24 * b ≤ (2 ^ 24 + 1) * (r * l) → 2 ^ 48 * (b * b) ≤ (2 ^ 24 + 1) * (2 ^ 24 + 1) * (l * l * (r * r))
squared_low r l b h = go (mul-le-mul h h)
  where
    go : 2 ^ 24 * b * (2 ^ 24 * b) ≤ (2 ^ 24 + 1) * (r * l) * ((2 ^ 24 + 1) * (r * l)) → 2 ^ 48 * (b * b) ≤ (2 ^ 24 + 1) * (2 ^ 24 + 1) * (l * l * (r * r))
    go x = omega arith

-- the sum of three: m = a a + d d + e e, and x, y, z the numbers of the unit vector
parted : (a d e r : ℕ) → (a * a + d * d + e * e) * (r * r) ≡ a * r * (a * r) + d * r * (d * r) + e * r * (e * r)
parted a d e r = omega arith

summed_high : (M B p q s x y z : ℕ) → M ≡ p + q + s → 2 ^ 22 * M ≤ (2 ^ 22 + 3) * B → 2 ^ 30 * x ≤ 2 ^ 30 * p + B → 2 ^ 30 * y ≤ 2 ^ 30 * q + B → 2 ^ 30 * z ≤ 2 ^ 30 * s + B → 2 ^ 20 * (x + y + z) ≤ 2 ^ 20 * B + B
summed_high M B p q s x y z e h i j k = omega arith

summed_low : (M B p q s x y z : ℕ) → M ≡ p + q + s → 2 ^ 21 * B ≤ (2 ^ 21 + 1) * M → 2 ^ 30 * p ≤ 2 ^ 30 * x + B → 2 ^ 30 * q ≤ 2 ^ 30 * y + B → 2 ^ 30 * s ≤ 2 ^ 30 * z + B → 2 ^ 20 * B ≤ 2 ^ 20 * (x + y + z) + B
summed_low M B p q s x y z e h i j k = omega arith

cancel_high : (x y z u : ℕ) → 0 < u → 2 ^ 20 * (x * u * (x * u) + y * u * (y * u) + z * u * (z * u)) ≤ 2 ^ 20 * (u * u * (u * u)) + u * u * (u * u) → 2 ^ 20 * (x * x + y * y + z * z) ≤ 2 ^ 20 * (u * u) + u * u
cancel_high x y z u P h = le_of_mul-le-mul_right {k = u * u} (go h) (mul-pos P P)
  where
    go : 2 ^ 20 * (x * u * (x * u) + y * u * (y * u) + z * u * (z * u)) ≤ 2 ^ 20 * (u * u * (u * u)) + u * u * (u * u) → 2 ^ 20 * (x * x + y * y + z * z) * (u * u) ≤ (2 ^ 20 * (u * u) + u * u) * (u * u)
    go h = omega arith

cancel_low : (x y z u : ℕ) → 0 < u → 2 ^ 20 * (u * u * (u * u)) ≤ 2 ^ 20 * (x * u * (x * u) + y * u * (y * u) + z * u * (z * u)) + u * u * (u * u) → 2 ^ 20 * (u * u) ≤ 2 ^ 20 * (x * x + y * y + z * z) + u * u
cancel_low x y z u P h = le_of_mul-le-mul_right {k = u * u} (go h) (mul-pos P P)
  where
    go : 2 ^ 20 * (u * u * (u * u)) ≤ 2 ^ 20 * (x * u * (x * u) + y * u * (y * u) + z * u * (z * u)) + u * u * (u * u) → 2 ^ 20 * (u * u) * (u * u) ≤ (2 ^ 20 * (x * x + y * y + z * z) + u * u) * (u * u)
    go h = omega arith

far_below : (l : ℕ) → l < 2 ^ 2098 → 2 ^ 50 * l ≤ U * U
unfolding U
far_below l h = le_trans (mul-le-mul_left (2 ^ 50) (le_of_lt h)) (lit≤ tt)

turned : (a b : ℕ) → a * b ≡ b * a
turned a b = omega arith

sixteenth : (a d e L : ℕ) → 2 ^ 21 * (a + d + e) ≤ (2 ^ 21 + 1) * L → (16 * a ≤ 17 * L) × (16 * d ≤ 17 * L) × (16 * e ≤ 17 * L)
sixteenth a d e L h = (omega arith, omega arith, omega arith)

-- the number a of the vector, x, times r
record Part (x recip : Float) (a r : ℕ) : Type 0 where
  size : Small 1 (mul binary64 x recip)
  high : 2 ^ 30 * (size.v * U * (size.v * U)) ≤ 2 ^ 30 * (a * r * (a * r)) + U * U * (U * U)
  low : 2 ^ 30 * (a * r * (a * r)) ≤ 2 ^ 30 * (size.v * U * (size.v * U)) + U * U * (U * U)

-- ---- the unit vector
module _ (v : Vec3) (fit : FitVec v) (numbers : all_finite v ≡ true) (not_tiny : tiny v ≡ false) (len-finite : finite (root (G.dot v v)) ≡ true) where
  h : SmallVec 1024 v
  h = held_vector v fit numbers

  abbrev xx : Float
  xx = mul binary64 v.x v.x

  abbrev yy : Float
  yy = mul binary64 v.y v.y

  abbrev zz : Float
  zz = mul binary64 v.z v.z

  -- ---- the square of the length
  least : le short (G.dot v v) ≡ true
  least = dot_least 1024 v h not_tiny

  dot_finite : T (finite (G.dot v v))
  dot_finite = root_finite (G.dot v v) (subst T (sym len-finite) tt)

  parts_finite : T (finite xx) × T (finite yy) × T (finite zz) × T (finite (add binary64 xx yy))
  unfolding G.dot
  parts_finite =
      let p = sum_finite (add binary64 xx yy) zz dot_finite in
      let q = sum_finite xx yy p.0 in
      (q.0, q.1, p.1, p.0)

  square_relative : (x : Float) (a : Small 1024 x) → T (finite (mul binary64 x x)) → RoundedTo (mul binary64 x x) (a.v * a.v * U) (U * U)
  square_relative x a f =
      let e = sq_is x a.s a.v a.is in
      subst (λ (z : Float). RoundedTo z (a.v * a.v * U) (U * U)) (sym e) (round_relative (a.v * a.v) (U * U) (mul-pos U_pos U_pos) (subst (λ (z : Float). T (finite z)) e f))

  rx : RoundedTo xx (h.0.v * h.0.v * U) (U * U)
  rx = square_relative v.x h.0 parts_finite.0

  ry : RoundedTo yy (h.1.v * h.1.v * U) (U * U)
  ry = square_relative v.y h.1 parts_finite.1

  rz : RoundedTo zz (h.2.v * h.2.v * U) (U * U)
  rz = square_relative v.z h.2 parts_finite.2

  two : RoundedTo (add binary64 xx yy) ((rx.v + ry.v) * U) U
  two = sum_relative xx yy rx.v ry.v rx.is ry.is parts_finite.3

  three : RoundedTo (G.dot v v) ((two.v + rz.v) * U) U
  unfolding G.dot
  three = sum_relative (add binary64 xx yy) zz two.v rz.v two.is rz.is dot_finite

  dot_units : 2 ^ 974 ≤ three.v
  dot_units = units_le short (G.dot v v) false (2 ^ 974) three.v short_units three.is least

  square_near : (p a : ℕ) → Relative p (a * a * U) (U * U) → Near (p * U) (a * a) U
  square_near p a r = let s = relative_scale p (a * a) U U U_pos r in near_of (p * U) (a * a) U s.high s.low

  sum_near : SumNear (h.0.v * h.0.v) (h.1.v * h.1.v) (h.2.v * h.2.v) rx.v ry.v rz.v two.v three.v U
  sum_near = record {
    first = square_near rx.v h.0.v rx.near;
    second = square_near ry.v h.1.v ry.near;
    third = square_near rz.v h.2.v rz.near;
    two = near_whole two.v (rx.v + ry.v) U U_pos two.near;
    three = near_whole three.v (two.v + rz.v) U U_pos three.near;
    least = le_trans (lit≤ tt) dot_units;
  }

  -- ---- the length
  abbrev len : Float
  len = root (G.dot v v)

  rooted : Rooted three.v len
  rooted = units_rooted (G.dot v v) three.v (dot_fits v v) three.is (lt_of_lt_of_le (pow_pos 974) dot_units)

  abbrev l : ℕ
  l = rooted.q * rooted.g

  square : RootSquare three.v l
  square = root_square three.v len rooted

  abbrev m : ℕ
  m = h.0.v * h.0.v + h.1.v * h.1.v + h.2.v * h.2.v

  l_high : 2 ^ 22 * (l * l) ≤ (2 ^ 22 + 1) * m
  l_high = length_high (l * l) (three.v * U) m square.high (sum_high _ _ _ _ _ _ _ _ U sum_near)

  l_low : 2 ^ 21 * m ≤ (2 ^ 21 + 1) * (l * l)
  l_low = length_low (l * l) (three.v * U) m square.low (sum_low _ _ _ _ _ _ _ _ U sum_near)

  len_fits : T (fits binary64 len)
  len_fits = root_fits (G.dot v v) (dot_fits v v)

  len_least : 2 ^ 1024 ≤ l
  len_least = root_long (G.dot v v) (dot_fits v v) least false l rooted.y_is

  len_most : 2 ^ 50 * l ≤ U * U
  len_most =
      let k = held len len_fits (subst T (sym len-finite) tt) in
      far_below l (subst (λ (z : ℕ). z < 2 ^ 2098) (one_number len k.s false k.v l k.is rooted.y_is).1 k.small)

  -- ---- one over it
  abbrev recip : Float
  recip = div binary64 one len

  rr : RoundedTo recip (U * U * U) (U * l)
  rr =
      let e : recip ≡ round binary64 false (U * U) (U * l) = div_is one len false false U l one_is rooted.y_is (le_trans (pow_pos 1024) len_least) in
      subst (λ (z : Float). RoundedTo z (U * U * U) (U * l)) (sym e)
      (round_relative (U * U) (U * l) (mul-pos U_pos (le_trans (pow_pos 1024) len_least)) (subst (λ (z : Float). T (finite z)) e (over_finite len false l rooted.y_is len_least)))

  r_near : Relative rr.v (U * U) l
  r_near = relative_scale rr.v (U * U) l U U_pos (subst (λ (z : ℕ). Relative rr.v (U * U * U) z) (turned U l) rr.near)

  r_high : 2 ^ 24 * (rr.v * l) ≤ (2 ^ 24 + 1) * (U * U)
  r_high = recip_high (rr.v * l) (U * U) l r_near.high len_most

  r_low : 2 ^ 24 * (U * U) ≤ (2 ^ 24 + 1) * (rr.v * l)
  r_low = recip_low (rr.v * l) (U * U) l r_near.low len_most

  -- ---- each number
  part : (x : Float) (a : Small 1024 x) → 16 * (a.v * a.v) ≤ 17 * (l * l) → Part x recip a.v rr.v
  part x a k =
      let z = part_product a.v l rr.v (U * U) (part_most a.v l k) r_high in
      let p = mul_rounded x recip a.s false a.v rr.v 4 (lit≤ tt) a.is rr.is (part_room (a.v * rr.v) W U U-is U_pos z) in
      let n = part_size (a.v * rr.v) p.v W U U-is U_pos z p.near.0 in
      record {
        size = record { s = unlike a.s false; v = p.v; is = p.is; most = n };
        high = close (p.v * U) (a.v * rr.v) (16 * W * U) (U * U) p.near.0 (twice (a.v * rr.v) (U * U) z) (error_few W U U-is);
        low = close (a.v * rr.v) (p.v * U) (16 * W * U) (U * U) p.near.1 (raised p.v U n) (error_few W U U-is);
      }
    where
      twice : (z b : ℕ) → 16 * z ≤ 17 * b → z ≤ 2 * b
      twice z b h = omega arith

      raised : (v u : ℕ) → v ≤ 2 * u → v * u ≤ 2 * (u * u)
      raised v u h = go (mul-le-mul_right u h)
        where
          go : v * u ≤ 2 * u * u → v * u ≤ 2 * (u * u)
          go x = omega arith

  most : (16 * (h.0.v * h.0.v) ≤ 17 * (l * l)) × (16 * (h.1.v * h.1.v) ≤ 17 * (l * l)) × (16 * (h.2.v * h.2.v) ≤ 17 * (l * l))
  most = sixteenth (h.0.v * h.0.v) (h.1.v * h.1.v) (h.2.v * h.2.v) (l * l) l_low

  px : Part v.x recip h.0.v rr.v
  px = part v.x h.0 most.0

  py : Part v.y recip h.1.v rr.v
  py = part v.y h.1 most.1

  pz : Part v.z recip h.2.v rr.v
  pz = part v.z h.2 most.2

  scaled_sized : UnitSized (G.scale v (G.over one len))
  unfolding G.scale
  scaled_sized = record {
    small = (px.size, py.size, pz.size);
    long =
        cancel_low px.size.v py.size.v pz.size.v U U_pos
        (summed_low (m * (rr.v * rr.v)) (U * U * (U * U)) _ _ _ _ _ _ (parted h.0.v h.1.v h.2.v rr.v) (scaled_low m (l * l) rr.v (U * U) l_high (squared_low rr.v l (U * U) r_low)) px.low py.low pz.low);
    short =
        cancel_high px.size.v py.size.v pz.size.v U U_pos
        (summed_high (m * (rr.v * rr.v)) (U * U * (U * U)) _ _ _ _ _ _ (parted h.0.v h.1.v h.2.v rr.v) (scaled_high m (l * l) rr.v (U * U) l_low (squared_high rr.v l (U * U) r_high)) px.high py.high pz.high);
  }

-- ---- the law
abbrev SizedDirection : Option Vec3 → Type 0
SizedDirection (Some u) = UnitSized u
SizedDirection None = Unit {0}

direction_sized : (v : Vec3) → FitVec v → SizedDirection (unit_direction v)
unfolding unit_direction with_length
direction_sized v fit = go (all_finite v) (tiny v) (finite (root (G.dot v v))) (eq (root (G.dot v v)) nought) refl refl refl
  where
    go : (a b c d : Bool) → all_finite v ≡ a → tiny v ≡ b → finite (root (G.dot v v)) ≡ c
        → SizedDirection (cond (not a) None (cond b None (cond (not c) None (cond d None (Some (G.scale v (G.over one (root (G.dot v v)))))))))
    go false b c d e f g = tt
    go true true c d e f g = tt
    go true false false d e f g = tt
    go true false true true e f g = tt
    go true false true false e f g = scaled_sized v fit e f g

pub unit_size : (v u : Vec3) → FitVec v → unit_direction v ≡ Some u → UnitSized u
unit_size v u fit e = subst SizedDirection e (direction_sized v fit)

pub unit_small : (v u : Vec3) → FitVec v → unit_direction v ≡ Some u → SmallVec 1 u
unit_small v u fit e = (unit_size v u fit e).small
