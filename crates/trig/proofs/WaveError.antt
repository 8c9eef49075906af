-- The sine and the cosine are right: within 2 ^ -50 of the Taylor sums, and at most 1 + 2 ^ -50 in size. Assumes nothing.
use Rattle.std.proofs.Common.{◌≡◌, ℕ, zero, suc, ◌+◌, ◌-◌, ◌*◌, ◌/◌, ◌%◌, ◌^◌, ◌<◌, ◌≤◌, Bool, true, false, cond, not, ◌&&◌, ◌||◌, T, eqb, ltb, leb, ◌⊎◌, ℤ, pos, negsuc, sym, refl, ap, ◌∙◌, subst, inl, inr, true≢false, le_of_eq, lt_of_le_of_lt, le_of_lt, mul-le-mul_right, mod-lt, eq-zero-or-pos, mul-le-mul, mul-lt-mul_of_pos_right, mul-pos, le_of_mul-le-mul_right, arith, lit<, lit≤, eqb→eq, ltb→lt, nltb→le, T_not, pow_mono}
use native.Mathlib.Nat.{div-eq_of_lt}
use lib.Ieee.{Float, nan, inf, fin, binary64, up, down, neg, mul, to_unsigned, of_bits, le, lt, eq, fits}
use lib.Ieee.Fits.{down_pos, up_pos, and_l, neg-fits}
use lib.Ieee.Order.{le_of_values}
use lib.Ieee.Positive.{num as top, den as bot, den_pos as bot-pos}
use lib.Ieee.Exact.{HasValue}
use Rattle.float.proofs.Rounding.{Within}
use Rattle.float.specs.Units.{U, Is}
use Rattle.float.proofs.Rounding.{W, U-is, U_pos, Rounded}
use Rattle.trig.proofs.HornerForm.{num, den, num_le, den_pos, sin_is, cos_is}
use Rattle.float.proofs.Units.{le_or_lt}
use Rattle.trig.specs.Kernel.{sine_kernel, cosine_kernel, plus_zero, one}
use Rattle.trig.proofs.KernelError.{sin_near, cos_near}
use Rattle.trig.specs.Angle.{pi_num, pi_den, nearest_k, gap, place, under, wave, sine, cosine}
use Rattle.trig.specs.Reduction.{turns, base, part, rest, rest_float, Tame, quarter_pi, count, turn_k, turn_below, turn_rest}
use Rattle.trig.proofs.NearestTurn.{pi_den_pos, Side, side_is, rest_right, Nearest, turns_nearest, nearest_is, base_near, part_lt}
use Rattle.trig.proofs.Scaling.{small_near, times53, counted, whole_is, whole_low, whole_high, units_of, digits_fit}
use Rattle.trig.specs.Fraction.{Frac, negated, Near}
use Rattle.trig.specs.Taylor.{sin_sum, cos_sum}
use Rattle.trig.specs.Waves.{placed, wave_float, sine_float, cosine_float, most, served, Sized}
use Rattle.trig.proofs.Choices.{not_true, is_true, chosen, both_true}
use Rattle.trig.proofs.SumError.{t_le}

-- ---- from units and Horner's form to a fraction
-- 128 W is 2 ^ -50
close_of : (x d v u w P M N D : ℕ) → u ≡ 2 ^ 57 * w → 0 < u → x * u ≡ v * d → P ≡ N + M → Within v (N * u) D (128 * w)
    → (2 ^ 50 * (x * D + M * d) ≤ 2 ^ 50 * (P * d) + D * d) × (2 ^ 50 * (P * d) ≤ 2 ^ 50 * (x * D + M * d) + D * d)
close_of x d v u w P M N D e p h s r = (
  le_of_mul-le-mul_right {k = u} (up' (mul-le-mul_right d r.0) (ap (λ (z : ℕ). z * D) h) (ap (λ (z : ℕ). z * (d * u)) s) (ap (λ (z : ℕ). z * (D * d)) e)) p,
  le_of_mul-le-mul_right {k = u} (down' (mul-le-mul_right d r.1) (ap (λ (z : ℕ). z * D) h) (ap (λ (z : ℕ). z * (d * u)) s) (ap (λ (z : ℕ). z * (D * d)) e)) p,
)
  where
    up' : v * D * d ≤ (N * u + 128 * w * D) * d → x * u * D ≡ v * d * D → P * (d * u) ≡ (N + M) * (d * u) → u * (D * d) ≡ 2 ^ 57 * w * (D * d) → 2 ^ 50 * (x * D + M * d) * u ≤ (2 ^ 50 * (P * d) + D * d) * u
    up' a b c f = omega arith

    down' : N * u * d ≤ (v * D + 128 * w * D) * d → x * u * D ≡ v * d * D → P * (d * u) ≡ (N + M) * (d * u) → u * (D * d) ≡ 2 ^ 57 * w * (D * d) → 2 ^ 50 * (P * d) * u ≤ (2 ^ 50 * (x * D + M * d) + D * d) * u
    down' a b c f = omega arith

near_of : (y : Float) (f : Frac) (N D : ℕ) → f.plus ≡ N + f.minus → D ≡ f.over → Rounded y false (N * U) D (128 * W) → Near 50 y f
near_of nan f N D p q r = absurd r.is
near_of (inf s) f N D p q r = absurd r.is
near_of (fin true m e) f N D p q r = absurd (true≢false r.is.0)
near_of (fin false m e) f N D p q r =
    let c = close_of (m * up e) (down e) r.v U W f.plus f.minus N f.over U-is U_pos r.is.1 p (subst (λ (z : ℕ). Within r.v (N * U) z (128 * W)) q r.near) in
    record { below = c.0; above = c.1 }

-- ---- the two sums at rn / rd
module _ (r : Float) (rv rn rd : ℕ) (P : 0 < rd) (small : 100 * rn ≤ 79 * rd) (r-is : Is r false rv) (near : Within rv (rn * U) rd (24 * W)) where
  low : rn ≤ rd
  low = omega arith

  pub sin_right : Near 50 (sine_kernel r) (sin_sum rn rd)
  sin_right =
      near_of (sine_kernel r) (sin_sum rn rd) (rn * num (rn * rn) (rd * rd) 12 2) (rd * den (rd * rd) 12 2) (sin_is rn rd low).0 (sin_is rn rd low).1
      (sin_near r rv rn rd P small r-is near)

  pub cos_right : Near 50 (cosine_kernel r) (cos_sum rn rd)
  cos_right =
      near_of (cosine_kernel r) (cos_sum rn rd) (num (rn * rn) (rd * rd) 12 1) (den (rd * rd) 12 1) (cos_is rn rd low).0 (cos_is rn rd low).1
      (cos_near r rv rn rd P small r-is near)

-- ---- a sign
pub near_neg : (h : ℕ) (y : Float) (f : Frac) → Near h y f → Near h (neg y) (negated f)
unfolding neg
near_neg h nan f n = n
near_neg h (inf s) f n = n
near_neg h (fin true m e) f n = n
near_neg h (fin false m e) f n = n

pub put_near : (h q : ℕ) (b : Bool) (s c : Float) (f g : Frac) → Near h s f → Near h c g → Near h (placed q b s c) (place q b f g)
put_near h zero true s c f g n o = near_neg h s f n
put_near h zero false s c f g n o = n
put_near h (suc zero) b s c f g n o = o
put_near h (suc (suc zero)) true s c f g n o = n
put_near h (suc (suc zero)) false s c f g n o = near_neg h s f n
put_near h (suc (suc (suc q))) b s c f g n o = near_neg h c g o

-- ---- what `turned` answers for a: a is k * Pi / 2, less r where b is true, and plus r otherwise, r within 24 * 2 ^ -57
pub record Turned (a : Float) (k : ℕ) (b : Bool) (r : Float) : Type 0 where
  pub k_is : nearest_k (top a) (bot a) ≡ k
  pub few : k ≤ 510
  pub side : Side b (top a) (bot a) k
  pub small : 100 * gap b (top a) (bot a) k ≤ 79 * (2 * bot a * pi_den)
  pub near : Rounded r false (gap b (top a) (bot a) k * U) (2 * bot a * pi_den) (24 * W)

pub wave_near : (j : ℕ) (a : Float) (k : ℕ) (b : Bool) (r : Float) → Turned a k b r → Near 50 (placed ((k + j) % 4) b (sine_kernel r) (cosine_kernel r)) (wave false j (top a) (bot a))
unfolding wave
wave_near j a k b r t =
    subst (λ (z : ℕ). Near 50 (placed ((k + j) % 4) b (sine_kernel r) (cosine_kernel r)) (at z (under (top a) (bot a) z))) (sym t.k_is)
    (subst (λ (z : Bool). Near 50 (placed ((k + j) % 4) b (sine_kernel r) (cosine_kernel r)) (at k z)) (sym (side_is b (top a) (bot a) k t.side))
    (put_near 50 ((k + j) % 4) b (sine_kernel r) (cosine_kernel r) (sin_sum (gap b (top a) (bot a) k) (2 * bot a * pi_den)) (cos_sum (gap b (top a) (bot a) k) (2 * bot a * pi_den))
    (sin_right r t.near.v (gap b (top a) (bot a) k) (2 * bot a * pi_den) o t.small t.near.is t.near.near)
    (cos_right r t.near.v (gap b (top a) (bot a) k) (2 * bot a * pi_den) o t.small t.near.is t.near.near)))
  where
    at : ℕ → Bool → Frac
    at z c = place ((z + j) % 4) c (sin_sum (gap c (top a) (bot a) z) (2 * bot a * pi_den)) (cos_sum (gap c (top a) (bot a) z) (2 * bot a * pi_den))

    o : 0 < 2 * bot a * pi_den
    o = mul-pos (mul-pos (lit< tt) (bot-pos a)) pi_den_pos

-- ---- the two ways to turn
-- 0x3fe921fb54442d18, the largest float below Pi / 4
abbrev pub quarter_value : Float
quarter_value = fin false 884279719003555 (negsuc 49)

pub le_cross : (m : ℕ) (e : ℤ) (n : ℕ) (d : ℤ) → T (le (fin false m e) (fin false n d)) → m * up e * down d ≤ n * up d * down e
unfolding le
le_cross m e n d t = go (ltb (m * up e * down d) (n * up d * down e)) (eqb (m * up e * down d) (n * up d * down e)) (ltb→lt (m * up e * down d) (n * up d * down e)) (eqb→eq (m * up e * down d) (n * up d * down e)) t
  where
    go : (a b : Bool) → (T a → m * up e * down d < n * up d * down e) → (T b → m * up e * down d ≡ n * up d * down e) → T (a || (b && true)) → m * up e * down d ≤ n * up d * down e
    go true b f g u = le_of_lt (f tt)
    go false true f g u = le_of_eq (g tt)
    go false false f g u = absurd u

pub not_le_cross : (m : ℕ) (e : ℤ) (n : ℕ) (d : ℤ) → T (not (le (fin false m e) (fin false n d))) → n * up d * down e < m * up e * down d
not_le_cross m e n d t = elim (le_or_lt (m * up e * down d) (n * up d * down e)) [
  | inl h ↦ absurd (T_not (le (fin false m e) (fin false n d)) t (le_of_values (fin false m e) (fin false n d) (m * up e) (down e) (n * up d) (down d) (down_pos e) (down_pos d) (refl, refl) (refl, refl) h))
  | inr h ↦ h
]

-- a * 2 ^ 50 ≤ 884279719003555 * d: less than Pi / 4
below_quarter : 4 * 884279719003555 * pi_den < pi_num * 2 ^ 50
unfolding pi_num pi_den
below_quarter = lit< tt

pub turned_small : (a : Float) → Tame a → T (fits binary64 a) → T (le a quarter_value) → Turned a 0 false a
turned_small nan h f t = absurd h
turned_small (inf s) h f t = absurd h
turned_small (fin true m e) h f t = absurd h
turned_small (fin false m e) h f t =
    let c : m * up e * 2 ^ 50 ≤ 884279719003555 * 1 * down e = le_cross m e 884279719003555 (negsuc 49) t in
    let u = units_of false m e f in
    record {
      k_is = unfold nearest_k in div_eq_zero (less (m * up e) (down e) pi_num pi_den (down_pos e) c below_quarter);
      few = lit≤ tt;
      side = nothing (pi_num * down e) (2 * (m * up e) * pi_den) (regroup pi_num (down e));
      small = size (m * up e) (down e) (0 * pi_num * down e) pi_den c;
      near = record { v = u.0; is = u.1; near = exact u.0 (m * up e) (down e) (0 * pi_num * down e) U pi_den W (none pi_num (down e)) u.2 };
    }
  where
    less : (a d p q : ℕ) → 0 < d → a * 2 ^ 50 ≤ 884279719003555 * 1 * d → 4 * 884279719003555 * q < p * 2 ^ 50 → 4 * a * q + p * d < 2 * p * d
    less a d p q D h l = go (mul-le-mul_right q h) (mul-lt-mul_of_pos_right l D)
      where
        go : a * 2 ^ 50 * q ≤ 884279719003555 * 1 * d * q → 4 * 884279719003555 * q * d < p * 2 ^ 50 * d → 4 * a * q + p * d < 2 * p * d
        go x y = omega arith

    div_eq_zero : {n b : ℕ} → n < b → n / b ≡ 0
    div_eq_zero h = div-eq_of_lt h

    regroup : (p d : ℕ) → 0 * p * d ≡ 0
    regroup p d = omega arith

    none : (p d : ℕ) → 0 * p * d ≡ 0
    none p d = omega arith

    nothing : (x y : ℕ) {z : ℕ} → z ≡ 0 → z ≤ y
    nothing x y e = omega arith

    size : (a d z q : ℕ) → a * 2 ^ 50 ≤ 884279719003555 * 1 * d → 100 * (2 * a * q - z) ≤ 79 * (2 * d * q)
    size a d z q h = go (mul-le-mul_right q h) (2 * a * q - z) (less' (2 * a * q) z)
      where
        less' : (x y : ℕ) → x - y ≤ x
        less' x y = omega arith

        go : a * 2 ^ 50 * q ≤ 884279719003555 * 1 * d * q → (g : ℕ) → g ≤ 2 * a * q → 100 * g ≤ 79 * (2 * d * q)
        go x g y = omega arith

    exact : (v a d z u q w : ℕ) → z ≡ 0 → v * d ≡ a * u → Within v ((2 * a * q - z) * u) (2 * d * q) (24 * w)
    exact v a d z u q w e h = go (2 * a * q - z) (still (2 * a * q) e) (ap (λ (x : ℕ). x * (2 * q)) h)
      where
        still : (x : ℕ) → z ≡ 0 → x - z ≡ x
        still x e = omega arith

        go : (g : ℕ) → g ≡ 2 * a * q → v * d * (2 * q) ≡ a * u * (2 * q) → Within v (g * u) (2 * d * q) (24 * w)
        go g f k =
            let l : g * u ≡ 2 * a * q * u = ap (λ (x : ℕ). x * u) f in
            (omega arith, omega arith)

pub turned_large : (a : Float) → Tame a → T (fits binary64 a) → T (not (le a quarter_value))
    → Turned a (turns (to_unsigned 64 (times53 a))) (leb (to_unsigned 64 (times53 a)) (base (turns (to_unsigned 64 (times53 a))))) (rest_float (rest (to_unsigned 64 (times53 a)) (turns (to_unsigned 64 (times53 a)))))
turned_large nan h f t = absurd h
turned_large (inf s) h f t = absurd h
turned_large (fin true m e) h f t = absurd h
turned_large (fin false m e) h f t =
    let g : 884279719003555 * 1 * down e < m * up e * 2 ^ 50 = not_le_cross m e 884279719003555 (negsuc 49) t in
    let c = counted m e (digits_fit false m e f) (half (m * up e) (down e) g) h in
    let w : to_unsigned 64 (times53 (fin false m e)) ≡ c.x = whole_is (times53 (fin false m e)) c.x c.value (lt_of_le_of_lt c.most (lit< tt)) in
    subst (λ (x : ℕ). Turned (fin false m e) (turns x) (leb x (base (turns x))) (rest_float (rest x (turns x)))) (sym w)
    (go c.x c.exact (turns_nearest c.x c.most) (positive c.x (m * up e) (down e) g c.exact))
  where
    half : (a d : ℕ) → 884279719003555 * 1 * d < a * 2 ^ 50 → d ≤ a * 2
    half a d g = omega arith

    positive : (x a d : ℕ) → 884279719003555 * 1 * d < a * 2 ^ 50 → x * d ≡ a * 2 ^ 53 → 0 < x
    positive zero a d g e = omega arith
    positive (suc x) a d g e = omega arith

    go : (x : ℕ) → x * down e ≡ m * up e * 2 ^ 53 → Nearest x (turns x) → 0 < x → Turned (fin false m e) (turns x) (leb x (base (turns x))) (rest_float (rest x (turns x)))
    go x e' n X =
        let r = rest_right x (down e) (m * up e) (turns x) X (down_pos e) e' n in
        record {
          k_is = nearest_is (m * up e) (down e) x (turns x) (down_pos e) e' n;
          few = n.few;
          side = r.side;
          small = r.small;
          near = small_near (rest x (turns x)) (gap (leb x (base (turns x))) (m * up e) (down e) (turns x)) (2 * down e * pi_den) (mul-pos (mul-pos (lit< tt) (down_pos e)) pi_den_pos) r.near r.small;
        }

-- ---- for the code of `turned`
pub record Big (a : Float) : Type 0 where
  pub x : ℕ
  pub value : HasValue (times53 a) false x 1
  pub most : x ≤ 800 * 2 ^ 53
  pub is : to_unsigned 64 (times53 a) ≡ x

big : (a : Float) → Tame a → T (fits binary64 a) → T (not (le a quarter_value)) → Big a
big nan h f t = absurd h
big (inf s) h f t = absurd h
big (fin true m e) h f t = absurd h
big (fin false m e) h f t =
    let g : 884279719003555 * 1 * down e < m * up e * 2 ^ 50 = not_le_cross m e 884279719003555 (negsuc 49) t in
    let c = counted m e (digits_fit false m e f) (half (m * up e) (down e) g) h in
    record { x = c.x; value = c.value; most = c.most; is = whole_is (times53 (fin false m e)) c.x c.value (lt_of_le_of_lt c.most (lit< tt)) }
  where
    half : (a d : ℕ) → 884279719003555 * 1 * d < a * 2 ^ 50 → d ≤ a * 2
    half a d g = omega arith

-- 2 ^ 53 and the largest float below Pi / 4, as MIR has them
abbrev two53 : Float
two53 = of_bits binary64 0x4340_0000_0000_0000

times_is : (a : Float) → mul binary64 a two53 ≡ times53 a
unfolding of_bits times53
times_is a = refl

quarter_is : quarter_pi ≡ quarter_value
unfolding of_bits
quarter_is = refl

module _ (a : Float) (h : Tame a) (f : T (fits binary64 a)) where
  pub in_small : le a quarter_pi ≡ true → Turned a 0 false a
  in_small t = turned_small a h f (subst (λ (q : Float). T (le a q)) quarter_is (is_true (le a quarter_pi) t))

  module _ (t : le a quarter_pi ≡ false) where
    far : T (not (le a quarter_value))
    far = subst (λ (q : Float). T (not (le a q))) quarter_is (not_true (le a quarter_pi) t)

    pub in_range : T (lt (fin true 1 (pos 0)) (mul binary64 a two53)) × T (lt (mul binary64 a two53) (fin false 1 (pos 64)))
    in_range =
        let g = big a h f far in
        subst (λ (y : Float). T (lt (fin true 1 (pos 0)) y) × T (lt y (fin false 1 (pos 64)))) (sym (times_is a))
        (whole_low (times53 a) g.x g.value, whole_high (times53 a) g.x g.value (lt_of_le_of_lt g.most (lit< tt)))

    module _ (x : ℕ) (x-is : x ≡ to_unsigned 64 (mul binary64 a two53)) where
      same : x ≡ to_unsigned 64 (times53 a)
      same = x-is ∙ ap (λ (y : Float). to_unsigned 64 y) (times_is a)

      pub at_most : x ≤ 800 * 2 ^ 53
      at_most = let g = big a h f far in subst (λ (z : ℕ). z ≤ 800 * 2 ^ 53) (sym (same ∙ g.is)) g.most

      module _ (k : ℕ) (k_is : k ≡ turns x) where
        nearest : Nearest x k
        nearest = subst (λ (z : ℕ). Nearest x z) (sym k_is) (turns_nearest x at_most)

        pub k_few : k ≤ 510
        k_few = nearest.few

        module _ (b p : ℕ) (b_is : b ≡ base k) (p-is : p ≡ part k) where
          pub lengths : (b ≤ x + 2 ^ 53) × (x ≤ b + 2 ^ 53) × (p < 512)
          lengths =
              let n = base_near x k nearest in
              (subst (λ (z : ℕ). z ≤ x + 2 ^ 53) (sym b_is) n.0, subst (λ (z : ℕ). x ≤ z + 2 ^ 53) (sym b_is) n.1, subst (λ (z : ℕ). z < 512) (sym p-is) (part_lt k))

  pub turned_right : Turned a (turn_k a) (turn_below a) (turn_rest a)
  unfolding turn_k turn_below turn_rest
  turned_right = go (le a quarter_pi) in_small large
    where
      large : le a quarter_pi ≡ false → Turned a (turns (count a)) (leb (count a) (base (turns (count a)))) (rest_float (rest (count a) (turns (count a))))
      large t =
          subst (λ (y : Float). Turned a (turns (to_unsigned 64 y)) (leb (to_unsigned 64 y) (base (turns (to_unsigned 64 y)))) (rest_float (rest (to_unsigned 64 y) (turns (to_unsigned 64 y))))) (sym (times_is a))
          (turned_large a h f (far t))

      go : (b : Bool) → (b ≡ true → Turned a 0 false a) → (b ≡ false → Turned a (turns (count a)) (leb (count a) (base (turns (count a)))) (rest_float (rest (count a) (turns (count a)))))
          → Turned a (cond b 0 (turns (count a))) (cond b false (leb (count a) (base (turns (count a))))) (cond b a (rest_float (rest (count a) (turns (count a)))))
      go true x y = x refl
      go false x y = y refl

abbrev upper : Float
upper = fin false 25 (pos 5)

abbrev lower : Float
lower = fin true 25 (pos 5)

abbrev pub Zero : Float → Type 0
Zero nan = ⊥
Zero (inf s) = ⊥
Zero (fin s m e) = m ≡ 0

pub is_zero : (x : Float) → eq x plus_zero ≡ true → Zero x
unfolding of_bits eq
is_zero nan e = absurd (true≢false (sym e))
is_zero (inf s) e = absurd (true≢false (sym e))
is_zero (fin s m d) e = go m d (eqb→eq (m * up d * 1) (0 * 1 * down d) (and_l (eqb (m * up d * 1) (0 * 1 * down d)) _ (is_true _ e)))
  where
    go : (m : ℕ) (d : ℤ) → m * up d * 1 ≡ 0 * 1 * down d → m ≡ 0
    go m d e = elim (eq-zero-or-pos m) [ inl z ↦ z | inr p ↦ absurd (clash (m * up d) (down d) (mul-pos p (up_pos d)) e) ]
      where
        clash : (a b : ℕ) → 0 < a → a * 1 ≡ 0 * 1 * b → ⊥
        clash a b h e = omega arith

neg_cross : (m : ℕ) (e : ℤ) → T (le lower (fin true m e)) → m * up e ≤ 800 * down e
unfolding le
neg_cross m e t = go (ltb (m * up e * 1) (25 * 2 ^ 5 * down e)) (eqb (25 * 2 ^ 5 * down e) (m * up e * 1)) (ltb→lt (m * up e * 1) (25 * 2 ^ 5 * down e)) (eqb→eq (25 * 2 ^ 5 * down e) (m * up e * 1)) t
  where
    go : (a b : Bool) → (T a → m * up e * 1 < 25 * 2 ^ 5 * down e) → (T b → 25 * 2 ^ 5 * down e ≡ m * up e * 1) → T (a || (b && true)) → m * up e ≤ 800 * down e
    go true b f g u = lo (m * up e) (down e) (f tt)
      where
        lo : (a d : ℕ) → a * 1 < 25 * 2 ^ 5 * d → a ≤ 800 * d
        lo a d h = omega arith
    go false true f g u = lo (m * up e) (down e) (g tt)
      where
        lo : (a d : ℕ) → 25 * 2 ^ 5 * d ≡ a * 1 → a ≤ 800 * d
        lo a d h = omega arith
    go false false f g u = absurd u

no_less : (a d : ℕ) → a * 1 < 0 * 1 * d → ⊥
no_less a d h = omega arith

pub tame_neg : (x : Float) → T (le lower x) → lt x plus_zero ≡ true → Tame (neg x)
unfolding of_bits neg le lt
tame_neg nan t l = absurd (true≢false (sym l))
tame_neg (inf true) t l = absurd t
tame_neg (inf false) t l = absurd (true≢false (sym l))
tame_neg (fin true m e) t l = neg_cross m e t
tame_neg (fin false m e) t l = absurd (no_less (m * up e) (down e) (ltb→lt (m * up e * 1) (0 * 1 * down e) (is_true _ l)))

pub tame_pos : (x : Float) → T (le x upper) → eq x plus_zero ≡ false → lt x plus_zero ≡ false → Tame x
unfolding of_bits le lt eq
tame_pos nan t z l = absurd t
tame_pos (inf true) t z l = absurd (true≢false l)
tame_pos (inf false) t z l = absurd t
tame_pos (fin true m e) t z l = absurd (clash (m * up e * 1) (0 * 1 * down e) (not_true _ z) (nltb→le 0 (m * up e * 1 + 0 * 1 * down e) (not_true _ l)))
  where
    none : (a b : ℕ) → a + b ≤ 0 → (0 ≡ a) × (0 ≡ b)
    none a b h = omega arith

    clash : (a b : ℕ) → T (not (eqb a b && (false || eqb a 0))) → a + b ≤ 0 → ⊥
    clash a b u h = subst (λ (y : ℕ). T (not (eqb 0 y && (false || eqb 0 0))) → ⊥) (none a b h).1 (λ w. w) (subst (λ (y : ℕ). T (not (eqb y b && (false || eqb y 0)))) (sym (none a b h).0) u)
tame_pos (fin false m e) t z l = go (m * up e) (down e) (le_cross m e 25 (pos 5) t)
  where
    go : (a d : ℕ) → a * 1 ≤ 25 * 2 ^ 5 * d → a ≤ 800 * d
    go a d h = omega arith

-- ---- the sign may stand outside: sin (-x) = -sin x, and cos (-x) = cos x
pub quarters : (k : ℕ) → (k % 4 ≡ 0) ⊎ (k % 4 ≡ 1) ⊎ (k % 4 ≡ 2) ⊎ (k % 4 ≡ 3)
quarters k = go (k % 4) (mod-lt k (lit< tt))
  where
    go : (r : ℕ) → r < 4 → (r ≡ 0) ⊎ (r ≡ 1) ⊎ (r ≡ 2) ⊎ (r ≡ 3)
    go zero h = inl refl
    go (suc zero) h = inr (inl refl)
    go (suc (suc zero)) h = inr (inr (inl refl))
    go (suc (suc (suc zero))) h = inr (inr (inr refl))
    go (suc (suc (suc (suc r)))) h = absurd (none r h)
      where
        none : (r : ℕ) → suc (suc (suc (suc r))) < 4 → ⊥
        none r h = omega arith

same_rest : (k j : ℕ) → (k + j) % 4 ≡ (k % 4 + j) % 4
same_rest k j = omega arith

place_odd : (k : ℕ) (b : Bool) (s c : Frac) → place ((4 - k % 4 + 0) % 4) (not b) s c ≡ negated (place ((k + 0) % 4) b s c)
place_odd k b s c = subst (λ (q : ℕ). place ((4 - k % 4 + 0) % 4) (not b) s c ≡ negated (place q b s c)) (sym (same_rest k 0)) (go (k % 4) b (quarters k))
  where
    by : (q : ℕ) (b : Bool) → Type 0
    by q b = place ((4 - q + 0) % 4) (not b) s c ≡ negated (place ((q + 0) % 4) b s c)

    go : (q : ℕ) (b : Bool) → (q ≡ 0) ⊎ (q ≡ 1) ⊎ (q ≡ 2) ⊎ (q ≡ 3) → place ((4 - q + 0) % 4) (not b) s c ≡ negated (place ((q + 0) % 4) b s c)
    go q true (inl e) = subst (λ (q : ℕ). place ((4 - q + 0) % 4) false s c ≡ negated (place ((q + 0) % 4) true s c)) (sym e) refl
    go q false (inl e) = subst (λ (q : ℕ). place ((4 - q + 0) % 4) true s c ≡ negated (place ((q + 0) % 4) false s c)) (sym e) refl
    go q b (inr (inl e)) = subst (λ (q : ℕ). place ((4 - q + 0) % 4) (not b) s c ≡ negated (place ((q + 0) % 4) b s c)) (sym e) refl
    go q true (inr (inr (inl e))) = subst (λ (q : ℕ). place ((4 - q + 0) % 4) false s c ≡ negated (place ((q + 0) % 4) true s c)) (sym e) refl
    go q false (inr (inr (inl e))) = subst (λ (q : ℕ). place ((4 - q + 0) % 4) true s c ≡ negated (place ((q + 0) % 4) false s c)) (sym e) refl
    go q b (inr (inr (inr e))) = subst (λ (q : ℕ). place ((4 - q + 0) % 4) (not b) s c ≡ negated (place ((q + 0) % 4) b s c)) (sym e) refl

place_even : (k : ℕ) (b : Bool) (s c : Frac) → place ((4 - k % 4 + 1) % 4) (not b) s c ≡ place ((k + 1) % 4) b s c
place_even k b s c = subst (λ (q : ℕ). place ((4 - k % 4 + 1) % 4) (not b) s c ≡ place q b s c) (sym (same_rest k 1)) (go (k % 4) b (quarters k))
  where
    go : (q : ℕ) (b : Bool) → (q ≡ 0) ⊎ (q ≡ 1) ⊎ (q ≡ 2) ⊎ (q ≡ 3) → place ((4 - q + 1) % 4) (not b) s c ≡ place ((q + 1) % 4) b s c
    go q b (inl e) = subst (λ (q : ℕ). place ((4 - q + 1) % 4) (not b) s c ≡ place ((q + 1) % 4) b s c) (sym e) refl
    go q true (inr (inl e)) = subst (λ (q : ℕ). place ((4 - q + 1) % 4) false s c ≡ place ((q + 1) % 4) true s c) (sym e) refl
    go q false (inr (inl e)) = subst (λ (q : ℕ). place ((4 - q + 1) % 4) true s c ≡ place ((q + 1) % 4) false s c) (sym e) refl
    go q b (inr (inr (inl e))) = subst (λ (q : ℕ). place ((4 - q + 1) % 4) (not b) s c ≡ place ((q + 1) % 4) b s c) (sym e) refl
    go q true (inr (inr (inr e))) = subst (λ (q : ℕ). place ((4 - q + 1) % 4) false s c ≡ place ((q + 1) % 4) true s c) (sym e) refl
    go q false (inr (inr (inr e))) = subst (λ (q : ℕ). place ((4 - q + 1) % 4) true s c ≡ place ((q + 1) % 4) false s c) (sym e) refl

pub wave_odd : (a d : ℕ) → wave true 0 a d ≡ negated (wave false 0 a d)
unfolding wave
wave_odd a d = place_odd (nearest_k a d) (under a d (nearest_k a d)) _ _

pub wave_even : (a d : ℕ) → wave true 1 a d ≡ wave false 1 a d
unfolding wave
wave_even a d = place_even (nearest_k a d) (under a d (nearest_k a d)) _ _

at_zero : Turned (fin false 0 (pos 0)) 0 false (fin false 0 (pos 0))
at_zero = turned_small (fin false 0 (pos 0)) (lit≤ tt) (unfold fits in tt) (unfold le in tt)

sin_of_zero : sine_kernel (fin false 0 (pos 0)) ≡ fin false 0 (pos 0)
unfolding sine_kernel of_bits mul lib.Ieee.sub lib.Ieee.div lib.Ieee.of_int
sin_of_zero = refl

cos_of_zero : cosine_kernel (fin false 0 (pos 0)) ≡ of_bits binary64 0x3ff0_0000_0000_0000
unfolding cosine_kernel of_bits lib.Ieee.sub mul lib.Ieee.div lib.Ieee.of_int
cos_of_zero = refl

no_power : (k : ℕ) → 2 ^ suc k ≡ 1 → ⊥
no_power k e = go (2 ^ suc k) (pow_mono {i = 1} (one k)) e
  where
    one : (k : ℕ) → 1 ≤ suc k
    one k = omega arith

    go : (p : ℕ) → 2 ≤ p → p ≡ 1 → ⊥
    go p h e = omega arith

shape : (s : Bool) (e : ℤ) → T (fits binary64 (fin s 0 e)) → e ≡ pos 0
unfolding fits
shape s (pos zero) t = refl
shape s (pos (suc k)) t = absurd (no_power k (go (2 ^ suc k) (eqb→eq (2 ^ suc k * 1) 1 t)))
  where
    go : (p : ℕ) → p * 1 ≡ 1 → p ≡ 1
    go p e = omega arith
shape s (negsuc k) t = absurd (no_power k (go (2 ^ suc k) (eqb→eq (1 * 2 ^ suc k) 1 t)))
  where
    go : (p : ℕ) → 1 * p ≡ 1 → p ≡ 1
    go p e = omega arith

pub zero_of : (s : Bool) (m : ℕ) (e : ℤ) → m ≡ 0 → T (fits binary64 (fin s m e)) → fin s 0 (pos 0) ≡ fin s m e
zero_of s m e z t =
    let f : T (fits binary64 (fin s 0 e)) = subst (λ (n : ℕ). T (fits binary64 (fin s n e))) z t in
    ap (λ (d : ℤ). fin s 0 d) (sym (shape s e f)) ∙ ap (λ (n : ℕ). fin s n e) (sym z)

-- ---- above zero
wave_float_near : (j : ℕ) (a : Float) → Tame a → T (fits binary64 a) → Near 50 (wave_float j a) (wave false j (top a) (bot a))
unfolding wave_float
wave_float_near j a h f = wave_near j a (turn_k a) (turn_below a) (turn_rest a) (turned_right a h f)

sine_plain : Near 50 (fin false 0 (pos 0)) (wave false 0 0 1)
sine_plain = subst (λ (y : Float). Near 50 y (wave false 0 0 1)) sin_of_zero (wave_near 0 (fin false 0 (pos 0)) 0 false (fin false 0 (pos 0)) at_zero)

cosine_plain : Near 50 one (wave false 1 0 1)
cosine_plain = subst (λ (y : Float). Near 50 y (wave false 1 0 1)) cos_of_zero (wave_near 1 (fin false 0 (pos 0)) 0 false (fin false 0 (pos 0)) at_zero)

-- ---- the sine and the cosine of each x
sine_flipped : (y : Float) (a d : ℕ) → Near 50 y (wave false 0 a d) → Near 50 (neg y) (wave true 0 a d)
sine_flipped y a d n = subst (λ (f : Frac). Near 50 (neg y) f) (sym (wave_odd a d)) (near_neg 50 y (wave false 0 a d) n)

cosine_kept : (s : Bool) (y : Float) (a d : ℕ) → Near 50 y (wave false 1 a d) → Near 50 y (wave s 1 a d)
cosine_kept true y a d n = subst (λ (f : Frac). Near 50 y f) (sym (wave_even a d)) n
cosine_kept false y a d n = n

sine_zero : (s : Bool) → Near 50 (fin s 0 (pos 0)) (sine (fin s 0 (pos 0)))
sine_zero false = sine_plain
sine_zero true = unfold neg in sine_flipped (fin false 0 (pos 0)) 0 1 sine_plain

at_sine_zero : (x : Float) → eq x plus_zero ≡ true → T (fits binary64 x) → Near 50 x (sine x)
at_sine_zero nan e f = absurd (is_zero nan e)
at_sine_zero (inf s) e f = absurd (is_zero (inf s) e)
at_sine_zero (fin s m d) e f = subst (λ (y : Float). Near 50 y (sine y)) (zero_of s m d (is_zero (fin s m d) e) f) (sine_zero s)

at_cosine_zero : (x : Float) → eq x plus_zero ≡ true → T (fits binary64 x) → Near 50 one (cosine x)
at_cosine_zero nan e f = absurd (is_zero nan e)
at_cosine_zero (inf s) e f = absurd (is_zero (inf s) e)
at_cosine_zero (fin s m d) e f = subst (λ (y : Float). Near 50 one (cosine y)) (zero_of s m d (is_zero (fin s m d) e) f) (cosine_kept s one 0 1 cosine_plain)

module _ (x : Float) (f : T (fits binary64 x)) (h : served x ≡ true) where
  lower_true : le (neg most) x ≡ true
  lower_true = (both_true (le x most) (le (neg most) x) (unfold served in h)).1

  upper_true : le x most ≡ true
  upper_true = (both_true (le x most) (le (neg most) x) (unfold served in h)).0

  pub tame_below : lt x plus_zero ≡ true → Tame (neg x)
  unfolding of_bits neg
  tame_below l = tame_neg x (is_true (le lower x) lower_true) l

  pub tame_above : eq x plus_zero ≡ false → lt x plus_zero ≡ false → Tame x
  unfolding of_bits
  tame_above z l = tame_pos x (is_true (le x upper) upper_true) z l

  pub tame_size : (a : Float) → eq x plus_zero ≡ false → a ≡ cond (lt x plus_zero) (neg x) x → Tame a
  tame_size a z e = subst Tame (sym e) (chosen Tame (lt x plus_zero) (neg x) x tame_below (tame_above z))

below_sine : (x : Float) → Tame (neg x) → T (fits binary64 x) → Near 50 (neg (wave_float 0 (neg x))) (sine x)
unfolding neg
below_sine nan h f = absurd h
below_sine (inf s) h f = absurd h
below_sine (fin false m e) h f = absurd h
below_sine (fin true m e) h f = sine_flipped (wave_float 0 (fin false m e)) (m * up e) (down e) (wave_float_near 0 (fin false m e) h (neg-fits binary64 (fin true m e) f))

below_cosine : (x : Float) → Tame (neg x) → T (fits binary64 x) → Near 50 (wave_float 1 (neg x)) (cosine x)
unfolding neg
below_cosine nan h f = absurd h
below_cosine (inf s) h f = absurd h
below_cosine (fin false m e) h f = absurd h
below_cosine (fin true m e) h f = cosine_kept true (wave_float 1 (fin false m e)) (m * up e) (down e) (wave_float_near 1 (fin false m e) h (neg-fits binary64 (fin true m e) f))

above_sine : (x : Float) → Tame x → T (fits binary64 x) → Near 50 (wave_float 0 x) (sine x)
above_sine nan h f = absurd h
above_sine (inf s) h f = absurd h
above_sine (fin true m e) h f = absurd h
above_sine (fin false m e) h f = wave_float_near 0 (fin false m e) h f

above_cosine : (x : Float) → Tame x → T (fits binary64 x) → Near 50 (wave_float 1 x) (cosine x)
above_cosine nan h f = absurd h
above_cosine (inf s) h f = absurd h
above_cosine (fin true m e) h f = absurd h
above_cosine (fin false m e) h f = wave_float_near 1 (fin false m e) h f

pub sine_near : (x : Float) → T (fits binary64 x) → served x ≡ true → Near 50 (sine_float x) (sine x)
unfolding sine_float
sine_near x f h =
    chosen (λ (y : Float). Near 50 y (sine x)) (eq x plus_zero) _ _ (λ z. at_sine_zero x z f)
    (λ z. chosen (λ (y : Float). Near 50 y (sine x)) (lt x plus_zero) _ _ (λ l. below_sine x (tame_below x f h l) f) (λ l. above_sine x (tame_above x f h z l) f))

pub cosine_near : (x : Float) → T (fits binary64 x) → served x ≡ true → Near 50 (cosine_float x) (cosine x)
unfolding cosine_float
cosine_near x f h =
    chosen (λ (y : Float). Near 50 y (cosine x)) (eq x plus_zero) _ _ (λ z. at_cosine_zero x z f)
    (λ z. chosen (λ (y : Float). Near 50 y (cosine x)) (lt x plus_zero) _ _ (λ l. below_cosine x (tame_below x f h l) f) (λ l. above_cosine x (tame_above x f h z l) f))

-- ---- the size of both: at most 1 + 2 ^ -50
pub sized_of : (y : Float) (N D : ℕ) → 0 < D → N ≤ D → Rounded y false (N * U) D (128 * W) → Sized y
sized_of nan N D P l r = absurd r.is
sized_of (inf s) N D P l r = absurd r.is
sized_of (fin s m e) N D P l r = le_of_mul-le-mul_right {k = U} (go (m * up e) (down e) r.v U W U-is r.is.1 (mul-le-mul_right (down e) (t_le U (128 * W) N D r.v P l r.near))) U_pos
  where
    go : (a d v u w : ℕ) → u ≡ 2 ^ 57 * w → a * u ≡ v * d → v * d ≤ (u + 128 * w) * d → 2 ^ 50 * a * u ≤ (2 ^ 50 + 1) * d * u
    go a d v u w e p q = sum (ap (λ (z : ℕ). z * d) e)
      where
        sum : u * d ≡ 2 ^ 57 * w * d → 2 ^ 50 * a * u ≤ (2 ^ 50 + 1) * d * u
        sum x = omega arith

sized_neg : (y : Float) → Sized y → Sized (neg y)
unfolding neg
sized_neg nan h = h
sized_neg (inf s) h = h
sized_neg (fin true m e) h = h
sized_neg (fin false m e) h = h

placed_sized : (q : ℕ) (b : Bool) (s c : Float) → Sized s → Sized c → Sized (placed q b s c)
placed_sized zero true s c S C = sized_neg s S
placed_sized zero false s c S C = S
placed_sized (suc zero) b s c S C = C
placed_sized (suc (suc zero)) true s c S C = S
placed_sized (suc (suc zero)) false s c S C = sized_neg s S
placed_sized (suc (suc (suc q))) b s c S C = sized_neg c C

wave_sized : (j : ℕ) (a : Float) → Tame a → T (fits binary64 a) → Sized (wave_float j a)
unfolding wave_float
wave_sized j a h f =
    let t = turned_right a h f in
    let n = gap (turn_below a) (top a) (bot a) (turn_k a) in
    let d = 2 * bot a * pi_den in
    let D : 0 < d = mul-pos (mul-pos (lit< tt) (bot-pos a)) pi_den_pos in
    placed_sized ((turn_k a + j) % 4) (turn_below a) (sine_kernel (turn_rest a)) (cosine_kernel (turn_rest a))
    (sized_of (sine_kernel (turn_rest a)) (n * num (n * n) (d * d) 12 2) (d * den (d * d) 12 2) (mul-pos D (den_pos (d * d) 12 2 (mul-pos D D) (lit≤ tt))) (mul-le-mul (low n d t.small) (num_le (n * n) (d * d) 12 2))
    (sin_near (turn_rest a) t.near.v n d D t.small t.near.is t.near.near))
    (sized_of (cosine_kernel (turn_rest a)) (num (n * n) (d * d) 12 1) (den (d * d) 12 1) (den_pos (d * d) 12 1 (mul-pos D D) (lit≤ tt)) (num_le (n * n) (d * d) 12 1)
    (cos_near (turn_rest a) t.near.v n d D t.small t.near.is t.near.near))
  where
    low : (n d : ℕ) → 100 * n ≤ 79 * d → n ≤ d
    low n d h = omega arith

pub one_sized : Sized one
unfolding of_bits
one_sized = lit≤ tt

zero_sized : (x : Float) → Zero x → Sized x
zero_sized nan z = absurd z
zero_sized (inf s) z = absurd z
zero_sized (fin s m e) z = go m (up e) (down e) z
  where
    go : (m a d : ℕ) → m ≡ 0 → 2 ^ 50 * (m * a) ≤ (2 ^ 50 + 1) * d
    go m a d z = subst (λ (n : ℕ). 2 ^ 50 * (n * a) ≤ (2 ^ 50 + 1) * d) (sym z) (none a d)
      where
        none : (a d : ℕ) → 2 ^ 50 * (0 * a) ≤ (2 ^ 50 + 1) * d
        none a d = omega arith

pub sine_sized : (x : Float) → T (fits binary64 x) → served x ≡ true → Sized (sine_float x)
unfolding sine_float
sine_sized x f h =
    chosen Sized (eq x plus_zero) _ _ (λ z. zero_sized x (is_zero x z))
    (λ z. chosen Sized (lt x plus_zero) _ _ (λ l. sized_neg (wave_float 0 (neg x)) (wave_sized 0 (neg x) (tame_below x f h l) (neg-fits binary64 x f))) (λ l. wave_sized 0 x (tame_above x f h z l) f))

pub cosine_sized : (x : Float) → T (fits binary64 x) → served x ≡ true → Sized (cosine_float x)
unfolding cosine_float
cosine_sized x f h =
    chosen Sized (eq x plus_zero) _ _ (λ z. one_sized)
    (λ z. chosen Sized (lt x plus_zero) _ _ (λ l. wave_sized 1 (neg x) (tame_below x f h l) (neg-fits binary64 x f)) (λ l. wave_sized 1 x (tame_above x f h z l) f))
