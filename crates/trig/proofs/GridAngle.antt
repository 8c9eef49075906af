-- An angle i * 2 ^ -53 whose tangent is t, found by bisection, or by a check of the residual in floats. Assumes nothing.
use Rattle.std.proofs.Common.{◌≡◌, ℕ, ◌+◌, ◌-◌, ◌*◌, ◌/◌, ◌^◌, ◌<◌, ◌≤◌, min, Bool, true, false, cond, not, T, pos, negsuc, sym, refl, ap, subst, true≢false, le_trans, le_of_eq, lt_of_lt_of_le, lt_of_le_of_lt, le_of_lt, mul-le-mul_right, div-lt_iff_lt-mul, le-div_iff_mul-le, mul-le-mul, mul-le-mul_left, mul-lt-mul_of_pos_right, mul-pos, le_of_mul-le-mul_right, arith, lit<, lit≤, ltb→lt, nltb→le, ltb, pow_pos}
use lib.Ieee.{Float, nan, inf, fin, binary64, up, down, add, mul, of_int, of_bits, to_unsigned, le, lt}
use lib.Ieee.Fits.{down_pos}
use Rattle.float.proofs.Rounding.{Within}
use Rattle.float.specs.Units.{U, Is}
use Rattle.float.proofs.Rounding.{W, U-is, U_pos, W-pos, Rounded, mul_rounded, add_rounded}
use Rattle.trig.proofs.HornerForm.{num, den, num_le, den_pos}
use Rattle.trig.proofs.SumError.{int_is, t_le}
use Rattle.trig.specs.Kernel.{sine_kernel, cosine_kernel}
use Rattle.trig.proofs.KernelError.{sin_near, cos_near}
use Rattle.trig.proofs.Slope.{cos_step, sin_step}
use Rattle.trig.proofs.ResidualBound.{half_up, half_down, residual_within}
use Rattle.trig.proofs.WaveError.{le_cross, not_le_cross}
use Rattle.trig.proofs.Choices.{is_true, not_true, both_true}
use Rattle.trig.specs.Arctangent.{grid_float, slack, passes, steep, start_float, cut, guess}

-- 2 ^ 53
unfoldable pub vv : ℕ
vv = 2 ^ 53

vv_pos : 0 < vv
unfolding vv
vv_pos = pow_pos 53

-- C(i / vv) is cn i / cd and S(i / vv) is sn i / sd, in Horner's form
unfoldable pub cn : ℕ → ℕ
unfolding num
cn i = num (i * i) (vv * vv) 12 1

unfoldable pub cd : ℕ
unfolding den
cd = den (vv * vv) 12 1

unfoldable pub sn : ℕ → ℕ
unfolding num
sn i = i * num (i * i) (vv * vv) 12 2

unfoldable pub sd : ℕ
unfolding den
sd = vv * den (vv * vv) 12 2

-- S(i / vv) ≤ t * C(i / vv) + e, and t * C(i / vv) ≤ S(i / vv) + e, for t and e in units
pub record Upper (t i e : ℕ) : Type 0 where
  pub up : sn i * U * cd ≤ t * cn i * sd + e * (cd * sd)

pub record Lower (t i e : ℕ) : Type 0 where
  pub low : t * cn i * sd ≤ sn i * U * cd + e * (cd * sd)

-- 2 ^ -53 in units
unfoldable Y53 : ℕ
Y53 = 2 ^ 1021

Y53-is : U ≡ 2 ^ 53 * Y53
unfolding U Y53
Y53-is = refl

tiny_is : Is (fin false 1 (negsuc 52)) false Y53
tiny_is = (refl, go U Y53 Y53-is)
  where
    go : (u y : ℕ) → u ≡ 2 ^ 53 * y → 1 * 1 * u ≡ y * 2 ^ 53
    go u y e = omega arith

module _ (i : ℕ) (small : i ≤ 7074237752028440) where
  i_fits : i < 2 ^ 53
  i_fits = lt_of_le_of_lt small (lit< tt)

  prod_fits : i * U * Y53 < 2 ^ 57 * W * U
  prod_fits = go U W Y53 U-is Y53-is U_pos (mul-lt-mul_of_pos_right (times i_fits) U_pos)
    where
      times : i < 2 ^ 53 → i * Y53 < 2 ^ 53 * Y53
      times h = mul-lt-mul_of_pos_right h (unfold Y53 in pow_pos 1021)

      go : (u w y : ℕ) → u ≡ 2 ^ 57 * w → u ≡ 2 ^ 53 * y → 0 < u → i * y * u < 2 ^ 53 * y * u → i * u * y < 2 ^ 57 * w * u
      go u w y e f p h = sums (ap (λ (z : ℕ). z * u) e) (ap (λ (z : ℕ). z * u) f)
        where
          sums : u * u ≡ 2 ^ 57 * w * u → u * u ≡ 2 ^ 53 * y * u → i * u * y < 2 ^ 57 * w * u
          sums a b = omega arith

  r : Rounded (grid_float i) false (i * U * Y53) U (8 * W)
  r = unfold grid_float in mul_rounded (of_int binary64 (pos i)) (fin false 1 (negsuc 52)) false false (i * U) Y53 3 (lit≤ tt) (int_is i i_fits) tiny_is prod_fits

  r_near : Within r.v (i * U) vv (24 * W)
  r_near = unfold vv in go r.v U W Y53 Y53-is U_pos r.near
    where
      go : (f u w y : ℕ) → u ≡ 2 ^ 53 * y → 0 < u → Within f (i * u * y) u (8 * w) → Within f (i * u) (2 ^ 53) (24 * w)
      go f u w y e p h = (le_of_mul-le-mul_right {k = u} (one (ap (λ (z : ℕ). i * u * z) e) h.0) p, le_of_mul-le-mul_right {k = u} (two (ap (λ (z : ℕ). i * u * z) e) h.1) p)
        where
          one : i * u * u ≡ i * u * (2 ^ 53 * y) → f * u ≤ i * u * y + 8 * w * u → f * 2 ^ 53 * u ≤ (i * u + 24 * w * 2 ^ 53) * u
          one a b = omega arith

          two : i * u * u ≡ i * u * (2 ^ 53 * y) → i * u * y ≤ f * u + 8 * w * u → i * u * u ≤ (f * 2 ^ 53 + 24 * w * 2 ^ 53) * u
          two a b = omega arith

  hundred : 100 * i ≤ 79 * vv
  hundred = unfold vv in go i small
    where
      go : (i : ℕ) → i ≤ 7074237752028440 → 100 * i ≤ 79 * 2 ^ 53
      go i h = omega arith

  cos_at : Rounded (cosine_kernel (grid_float i)) false (cn i * U) cd (128 * W)
  cos_at = unfold cn cd in cos_near (grid_float i) r.v i vv vv_pos hundred r.is r_near

  sin_at : Rounded (sine_kernel (grid_float i)) false (sn i * U) sd (128 * W)
  sin_at = unfold sn sd in sin_near (grid_float i) r.v i vv vv_pos hundred r.is r_near

cd_pos : 0 < cd
unfolding cd
cd_pos = den_pos (vv * vv) 12 1 (mul-pos vv_pos vv_pos) (lit≤ tt)

cn_le : (i : ℕ) → cn i ≤ cd
unfolding cn cd
cn_le i = num_le (i * i) (vv * vv) 12 1

-- x / de is a / u, y / dd is b / u: a ≤ b
cross : (x y a b de dd u : ℕ) → 0 < de * dd → x * u ≡ a * de → y * u ≡ b * dd → x * dd ≤ y * de → a ≤ b
cross x y a b de dd u P p q h = le_of_mul-le-mul_right {k = de * dd} (go (mul-le-mul_right u h) (ap (λ (z : ℕ). z * dd) p) (ap (λ (z : ℕ). z * de) q)) P
  where
    go : x * dd * u ≤ y * de * u → x * u * dd ≡ a * de * dd → y * u * de ≡ b * dd * de → a * (de * dd) ≤ b * (de * dd)
    go l m n = omega arith

-- ---- a float's units
abbrev pub val : Float → ℕ
val nan = 0
val (inf s) = 0
val (fin s m e) = m * up e * U / down e

-- t is from 0 to 1
pub record Tangent (t : Float) : Type 0 where
  pub is : Is t false (val t)
  pub most : val t ≤ U

pub le_units : (x y : Float) (a b : ℕ) → Is x false a → Is y false b → T (le x y) → a ≤ b
le_units nan y a b p q t = absurd p
le_units (inf s) y a b p q t = absurd p
le_units (fin true m e) y a b p q t = absurd (true≢false p.0)
le_units (fin false m e) nan a b p q t = absurd q
le_units (fin false m e) (inf s) a b p q t = absurd q
le_units (fin false m e) (fin true n d) a b p q t = absurd (true≢false q.0)
le_units (fin false m e) (fin false n d) a b p q t = cross (m * up e) (n * up d) a b (down e) (down d) U (mul-pos (down_pos e) (down_pos d)) p.1 q.1 (le_cross m e n d t)

pub lt_units : (x y : Float) (a b : ℕ) → Is x false a → Is y false b → T (not (le x y)) → b ≤ a
lt_units nan y a b p q t = absurd p
lt_units (inf s) y a b p q t = absurd p
lt_units (fin true m e) y a b p q t = absurd (true≢false p.0)
lt_units (fin false m e) nan a b p q t = absurd q
lt_units (fin false m e) (inf s) a b p q t = absurd q
lt_units (fin false m e) (fin true n d) a b p q t = absurd (true≢false q.0)
lt_units (fin false m e) (fin false n d) a b p q t = cross (n * up d) (m * up e) b a (down d) (down e) U (mul-pos (down_pos d) (down_pos e)) q.1 p.1 (le_of_lt (not_le_cross m e n d t))

-- ---- one test
module _ (t : Float) (g : Tangent t) (i : ℕ) (small : i ≤ 7074237752028440) where
  c_le : (cos_at i small).v ≤ U + 128 * W
  c_le = t_le U (128 * W) (cn i) cd (cos_at i small).v cd_pos (cn_le i) (cos_at i small).near

  p_fits : val t * (cos_at i small).v < 2 ^ 58 * W * U
  p_fits = go (val t * (cos_at i small).v) U W U-is U_pos (mul-le-mul g.most c_le)
    where
      go : (x u w : ℕ) → u ≡ 2 ^ 57 * w → 0 < u → x ≤ u * (u + 128 * w) → x < 2 ^ 58 * w * u
      go x u w e p h =
          let a : u * u ≡ 2 ^ 57 * w * u = ap (λ (z : ℕ). z * u) e in
          let b : 0 < u * u = mul-pos p p in
          omega arith

  p : Rounded (mul binary64 t (cosine_kernel (grid_float i))) false (val t * (cos_at i small).v) U (16 * W)
  p = mul_rounded t (cosine_kernel (grid_float i)) false false (val t) (cos_at i small).v 4 (lit≤ tt) g.is (cos_at i small).is p_fits

  weaken : (x y d w : ℕ) → x ≤ y + (128 * w + 128 * w + 16 * w + 0) * d → x ≤ y + 280 * w * d
  weaken x y d w h = omega arith

  pub test_yes : T (le (sine_kernel (grid_float i)) (mul binary64 t (cosine_kernel (grid_float i)))) → Upper (val t) i (280 * W)
  test_yes h = record { up = weaken (sn i * U * cd) (val t * cn i * sd) (cd * sd) W (half_down U (val t) (cos_at i small).v (sin_at i small).v p.v (cn i) cd (sn i) sd (128 * W) (16 * W) U_pos g.most (cos_at i small).near (sin_at i small).near p.near (le_units (sine_kernel (grid_float i)) (mul binary64 t (cosine_kernel (grid_float i))) (sin_at i small).v p.v (sin_at i small).is p.is h)) }

  pub test_no : T (not (le (sine_kernel (grid_float i)) (mul binary64 t (cosine_kernel (grid_float i))))) → Lower (val t) i (280 * W)
  test_no h = record { low = weaken (val t * cn i * sd) (sn i * U * cd) (cd * sd) W (half_up U (val t) (cos_at i small).v (sin_at i small).v p.v (cn i) cd (sn i) sd (128 * W) (16 * W) U_pos g.most (cos_at i small).near (sin_at i small).near p.near (lt_units (sine_kernel (grid_float i)) (mul binary64 t (cosine_kernel (grid_float i))) (sin_at i small).v p.v (sin_at i small).is p.is h)) }

-- ---- two neighbours: t C(i) ≤ t C(i + 1) + 2 / vv ≤ S(i + 1) + e + 2 / vv ≤ S(i) + e + 5 / vv
neighbours : (u w v t N N' M M' D F e : ℕ) → u ≡ 2 ^ 57 * w → v ≡ 2 ^ 53 → t ≤ u → N * v ≤ N' * v + 2 * D → M' ≤ M + 3 * F → t * N' * (v * F) ≤ M' * u * D + e * (D * (v * F)) → t * N * (v * F) ≤ M * u * D + (e + 80 * w) * (D * (v * F))
neighbours u w v t N N' M M' D F e k j l c s h =
    le_trans (last (t * N * (v * F)) (t * N' * (v * F)) (M' * u * D) (M * u * D) (u * (D * F)) (w * (D * F)) (w * (D * (v * F))) (e * (D * (v * F)))
    (first (mul-le-mul_right (t * F) c) (mul-le-mul_right (2 * (D * F)) l)) (second (mul-le-mul_right (u * D) s)) (unit u w (D * F) k) (shift v j) h) (le_of_eq (spread (D * (v * F))))
  where
    first : N * v * (t * F) ≤ (N' * v + 2 * D) * (t * F) → t * (2 * (D * F)) ≤ u * (2 * (D * F)) → t * N * (v * F) ≤ t * N' * (v * F) + 2 * (u * (D * F))
    first a b = omega arith

    second : M' * (u * D) ≤ (M + 3 * F) * (u * D) → M' * u * D ≤ M * u * D + 3 * (u * (D * F))
    second a = omega arith

    unit : (u w x : ℕ) → u ≡ 2 ^ 57 * w → u * x ≡ 2 ^ 57 * (w * x)
    unit u w x e =
        let a : u * x ≡ 2 ^ 57 * w * x = ap (λ (z : ℕ). z * x) e in
        omega arith

    shift : (v : ℕ) → v ≡ 2 ^ 53 → w * (D * (v * F)) ≡ 2 ^ 53 * (w * (D * F))
    shift v e =
        let a : w * (D * (v * F)) ≡ w * (D * (2 ^ 53 * F)) = ap (λ (z : ℕ). w * (D * (z * F))) e in
        omega arith

    last : (a b c d x y z f : ℕ) → a ≤ b + 2 * x → c ≤ d + 3 * x → x ≡ 2 ^ 57 * y → z ≡ 2 ^ 53 * y → b ≤ c + f → a ≤ d + (f + 80 * z)
    last a b c d x y z f p q r s h = omega arith

    spread : (x : ℕ) → M * u * D + (e * x + 80 * (w * x)) ≡ M * u * D + (e + 80 * w) * x
    spread x = omega arith

pub neighbour : (t i e : ℕ) → t ≤ U → i + 1 ≤ 7074237752028440 → Lower t (i + 1) e → Lower t i (e + 80 * W)
unfolding cn cd sn sd
neighbour t i e l h r =
    record { low = neighbours U W vv t (num (i * i) (vv * vv) 12 1) (num ((i + 1) * (i + 1)) (vv * vv) 12 1) (i * num (i * i) (vv * vv) 12 2) ((i + 1) * num ((i + 1) * (i + 1)) (vv * vv) 12 2) (den (vv * vv) 12 1) (den (vv * vv) 12 2) e U-is vv_is l (cos_step i vv vv_pos below).0 (sin_step i vv vv_pos below).1 r.low }
  where
    vv_is : vv ≡ 2 ^ 53
    vv_is = unfold vv in refl

    below : i + 1 ≤ vv
    below = unfold vv in le_trans h (lit≤ tt)

-- ---- the ends
pub at_start : (t : ℕ) → Upper t 0 (280 * W)
unfolding sn
at_start t = record { up = go (num (0 * 0) (vv * vv) 12 2) U cd (t * cn 0 * sd + 280 * W * (cd * sd)) }
  where
    go : (n u d y : ℕ) → 0 * n * u * d ≤ y
    go n u d y = omega arith

last_fact : cn 7074237752028440 * sd * 2 ^ 57 ≤ sn 7074237752028440 * cd * 2 ^ 57 + 280 * (cd * sd)
unfolding cn cd sn sd vv
last_fact = lit≤ tt

pub at_end : (t : ℕ) → t ≤ U → Lower t 7074237752028440 (280 * W)
at_end t l = record { low = go (cn 7074237752028440) cd (sn 7074237752028440) sd U W U-is l last_fact }
  where
    go : (N D M F u w : ℕ) → u ≡ 2 ^ 57 * w → t ≤ u → N * F * 2 ^ 57 ≤ M * D * 2 ^ 57 + 280 * (D * F) → t * N * F ≤ M * u * D + 280 * w * (D * F)
    go N D M F u w e l h = sum (mul-le-mul_right (N * F) l) (mul-le-mul_left w h) (ap (λ (z : ℕ). z * (N * F)) e) (ap (λ (z : ℕ). z * (M * D)) e)
      where
        sum : t * (N * F) ≤ u * (N * F) → w * (N * F * 2 ^ 57) ≤ w * (M * D * 2 ^ 57 + 280 * (D * F)) → u * (N * F) ≡ 2 ^ 57 * w * (N * F) → u * (M * D) ≡ 2 ^ 57 * w * (M * D) → t * N * F ≤ M * u * D + 280 * w * (D * F)
        sum a b c d = omega arith

-- ---- the words of `bisect`'s contract
pub record Bracket (t : Float) (lo hi : ℕ) : Type 0 where
  pub good : Tangent t
  pub order : lo < hi
  pub small : hi ≤ 7074237752028440
  pub up : Upper (val t) lo (280 * W)
  pub low : Lower (val t) hi (280 * W)

-- |t * C(i / 2 ^ 53) - S(i / 2 ^ 53)| ≤ 448 * 2 ^ -57, less than 2 ^ -48
pub record Angle (t : Float) (i : ℕ) : Type 0 where
  pub small : i ≤ 7074237752028440
  pub up : Upper (val t) i (448 * W)
  pub low : Lower (val t) i (448 * W)

pub done : (t : Float) (lo hi : ℕ) → Bracket t lo hi → hi - lo ≡ 1 → Angle t lo
done t lo hi b e =
    let n = neighbour (val t) lo (280 * W) b.good.most (subst (λ (z : ℕ). z ≤ 7074237752028440) (next b.order e) b.small) (subst (λ (z : ℕ). Lower (val t) z (280 * W)) (next b.order e) b.low) in
    record {
      small = le_of_lt (lt_of_lt_of_le b.order b.small);
      up = record { up = weaken (sn lo * U * cd) (val t * cn lo * sd) W (cd * sd) b.up.up };
      low = record { low = weaken' (val t * cn lo * sd) (sn lo * U * cd) W (cd * sd) n.low };
    }
  where
    next : lo < hi → hi - lo ≡ 1 → hi ≡ lo + 1
    next l e = omega arith

    weaken : (x y w d : ℕ) → x ≤ y + 280 * w * d → x ≤ y + 448 * w * d
    weaken x y w d h = omega arith

    weaken' : (x y w d : ℕ) → x ≤ y + (280 * w + 80 * w) * d → x ≤ y + 448 * w * d
    weaken' x y w d h = omega arith

pub right_half : (t : Float) (lo mid hi : ℕ) → Bracket t lo hi → lo < mid → mid < hi → steep t mid ≡ true → Bracket t mid hi
right_half t lo mid hi b l h e = record { good = b.good; order = h; small = b.small; up = test_yes t b.good mid (le_of_lt (lt_of_lt_of_le h b.small)) (is_true (le (sine_kernel (grid_float mid)) (mul binary64 t (cosine_kernel (grid_float mid)))) (unfold steep in e)); low = b.low }

pub left_half : (t : Float) (lo mid hi : ℕ) → Bracket t lo hi → lo < mid → mid < hi → steep t mid ≡ false → Bracket t lo mid
left_half t lo mid hi b l h e = record { good = b.good; order = l; small = le_of_lt (lt_of_lt_of_le h b.small); up = b.up; low = test_no t b.good mid (le_of_lt (lt_of_lt_of_le h b.small)) (not_true (le (sine_kernel (grid_float mid)) (mul binary64 t (cosine_kernel (grid_float mid)))) (unfold steep in e)) }

pub whole_bracket : (t : Float) → Tangent t → Bracket t 0 7074237752028440
whole_bracket t g = record { good = g; order = lit< tt; small = lit≤ tt; up = at_start (val t); low = at_end (val t) g.most }

-- ---- the check of a candidate
slack_is : Is slack false (128 * W)
unfolding of_bits
slack_is = (refl, go U W U-is)
  where
    go : (u w : ℕ) → u ≡ 2 ^ 57 * w → 1 * 1 * u ≡ 128 * w * 2 ^ 50
    go u w e = omega arith

sn_le : (i : ℕ) → i ≤ 7074237752028440 → sn i ≤ sd
unfolding sn sd
sn_le i h = mul-le-mul (unfold vv in le_trans h (lit≤ tt)) (num_le (i * i) (vv * vv) 12 2)

sd_pos : 0 < sd
unfolding sd
sd_pos = mul-pos vv_pos (den_pos (vv * vv) 12 2 (mul-pos vv_pos vv_pos) (lit≤ tt))

-- v + 2 ^ -50, rounded, for a v up to 1 + 144 W
plus : (x : Float) (v : ℕ) → Is x false v → v ≤ U + 144 * W → Rounded (add binary64 x slack) false (v + 128 * W) 1 (16 * W)
plus x v p l = add_rounded x slack false v (128 * W) 4 (lit≤ tt) p slack_is (go U W U-is W-pos l)
  where
    go : (u w : ℕ) → u ≡ 2 ^ 57 * w → 0 < w → v ≤ u + 144 * w → v + 128 * w < 2 ^ 58 * w
    go u w e h l = omega arith

-- y ≤ fl (x + 2 ^ -50)
pub within : (x y : Float) (a b : ℕ) → Is x false a → Is y false b → a ≤ U + 144 * W → T (le y (add binary64 x slack)) → b ≤ a + 144 * W
within x y a b p q l t = let s = plus x a p l in go s.v W s.near.0 (le_units y (add binary64 x slack) b s.v q s.is t)
  where
    go : (v w : ℕ) → v * 1 ≤ a + 128 * w + 16 * w * 1 → b ≤ v → b ≤ a + 144 * w
    go v w h k = omega arith

module _ (t : Float) (g : Tangent t) (i : ℕ) (small : i ≤ 7074237752028440) where
  p_le : (p t g i small).v ≤ U + 144 * W
  p_le = le_of_mul-le-mul_right {k = U} (go (p t g i small).v (val t * (cos_at i small).v) U W (mul-le-mul g.most (c_le t g i small)) (p t g i small).near.0) U_pos
    where
      go : (v x u w : ℕ) → x ≤ u * (u + 128 * w) → v * u ≤ x + 16 * w * u → v * u ≤ (u + 144 * w) * u
      go v x u w h k = omega arith

  s_le : (sin_at i small).v ≤ U + 144 * W
  s_le = le_trans (t_le U (128 * W) (sn i) sd (sin_at i small).v sd_pos (sn_le i small) (sin_at i small).near) (go U W)
    where
      go : (u w : ℕ) → u + 128 * w ≤ u + 144 * w
      go u w = omega arith

  pub checked : T (le (sine_kernel (grid_float i)) (add binary64 (mul binary64 t (cosine_kernel (grid_float i))) slack)) → T (le (mul binary64 t (cosine_kernel (grid_float i))) (add binary64 (sine_kernel (grid_float i)) slack)) → Angle t i
  checked a b =
      let q = p t g i small in
      let c = residual_within U (val t) (cos_at i small).v (sin_at i small).v q.v (cn i) cd (sn i) sd (128 * W) (16 * W) (144 * W) U_pos g.most (cos_at i small).near (sin_at i small).near q.near
      (within (sine_kernel (grid_float i)) (mul binary64 t (cosine_kernel (grid_float i))) (sin_at i small).v q.v (sin_at i small).is q.is s_le b)
      (within (mul binary64 t (cosine_kernel (grid_float i))) (sine_kernel (grid_float i)) q.v (sin_at i small).v q.is (sin_at i small).is p_le a) in
      record { small = small; up = record { up = weaken (sn i * U * cd) (val t * cn i * sd) W (cd * sd) c.1 }; low = record { low = weaken (val t * cn i * sd) (sn i * U * cd) W (cd * sd) c.0 } }
    where
      weaken : (x y w d : ℕ) → x ≤ y + (128 * w + 128 * w + 16 * w + 144 * w) * d → x ≤ y + 448 * w * d
      weaken x y w d h = omega arith

-- the two tests of `passes`
pub passes_both : (t r : Float) → passes t r ≡ true → T (le (sine_kernel r) (add binary64 (mul binary64 t (cosine_kernel r)) slack)) × T (le (mul binary64 t (cosine_kernel r)) (add binary64 (sine_kernel r) slack))
unfolding passes
passes_both t r h =
    let b = both_true (le (sine_kernel r) (add binary64 (mul binary64 t (cosine_kernel r)) slack)) (le (mul binary64 t (cosine_kernel r)) (add binary64 (sine_kernel r) slack)) h in
    (is_true (le (sine_kernel r) (add binary64 (mul binary64 t (cosine_kernel r)) slack)) b.0, is_true (le (mul binary64 t (cosine_kernel r)) (add binary64 (sine_kernel r) slack)) b.1)

pub passed : (t : Float) (i : ℕ) → Tangent t → i ≤ 7074237752028440 → passes t (grid_float i) ≡ true → Angle t i
passed t i g small h = let b = passes_both t (grid_float i) h in checked t g i small b.0 b.1

-- ---- a guess: any float, cut to a whole number from 0 up to 7074237752028440
-- `cut` is the library's cast and the smaller of two
pub cut_is : (f : Float) → cut f ≡ min (to_unsigned 64 f) 7074237752028440
unfolding cut to_unsigned lt of_bits
cut_is nan = refl
cut_is (inf true) = refl
cut_is (inf false) = refl
cut_is (fin true n d) = refl
cut_is (fin false n d) =
    go (n * up d / down d) (ltb (0 * 1 * down d) (n * up d * 1)) (ltb (n * up d * 1) (884279719003555 * 2 ^ 3 * down d))
    (λ t. zeros (n * up d) (down d) (down_pos d) (nltb→le (0 * 1 * down d) (n * up d * 1) t))
    (λ t. (div-lt_iff_lt-mul (down_pos d)).1 (below (n * up d) (down d) (ltb→lt (n * up d * 1) (884279719003555 * 2 ^ 3 * down d) t)))
    (λ t. (le-div_iff_mul-le (down_pos d)).1 (above (n * up d) (down d) (nltb→le (n * up d * 1) (884279719003555 * 2 ^ 3 * down d) t)))
  where
    none : (a d : ℕ) → a * 1 ≤ 0 * 1 * d → 0 < d → a < 1 * d
    none a d h k = omega arith

    zeros : (a d : ℕ) → 0 < d → a * 1 ≤ 0 * 1 * d → a / d < 1
    zeros a d k h = (div-lt_iff_lt-mul k).1 (none a d h k)

    below : (a d : ℕ) → a * 1 < 884279719003555 * 2 ^ 3 * d → a < 7074237752028440 * d
    below a d h = omega arith

    above : (a d : ℕ) → 884279719003555 * 2 ^ 3 * d ≤ a * 1 → 7074237752028440 * d ≤ a
    above a d h = omega arith

    nought : (q : ℕ) → q < 1 → 0 ≡ min (min q (2 ^ 64 - 1)) 7074237752028440
    nought q h = omega arith

    inside : (q : ℕ) → q < 7074237752028440 → min q (2 ^ 64 - 1) ≡ min (min q (2 ^ 64 - 1)) 7074237752028440
    inside q h = omega arith

    outside : (q : ℕ) → 7074237752028440 ≤ q → 7074237752028440 ≡ min (min q (2 ^ 64 - 1)) 7074237752028440
    outside q h = omega arith

    go : (q : ℕ) (a b : Bool) → (T (not a) → q < 1) → (T b → q < 7074237752028440) → (T (not b) → 7074237752028440 ≤ q)
        → cond a (cond b (min q (2 ^ 64 - 1)) 7074237752028440) 0 ≡ min (min q (2 ^ 64 - 1)) 7074237752028440
    go q true true z i o = inside q (i tt)
    go q true false z i o = outside q (o tt)
    go q false b z i o = nought q (z tt)

abbrev scaled : Float → Float
scaled t = add binary64 (mul binary64 (start_float t) (of_bits binary64 0x4340_0000_0000_0000)) (of_bits binary64 0x3fe0_0000_0000_0000)

pub guess_small : (t : Float) → guess t ≤ 7074237752028440
unfolding guess
guess_small t = subst (λ (n : ℕ). n ≤ 7074237752028440) (sym (cut_is (scaled t))) (least (to_unsigned 64 (scaled t)))
  where
    least : (n : ℕ) → min n 7074237752028440 ≤ 7074237752028440
    least n = omega arith
