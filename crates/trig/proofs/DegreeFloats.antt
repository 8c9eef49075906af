-- From a float to a whole number of 2 ^ -47 degrees, and back; and what the steps of the code come to. Assumes nothing.
use Rattle.std.proofs.Common.{◌≡◌, ℕ, suc, ◌+◌, ◌-◌, ◌*◌, ◌%◌, ◌^◌, ◌<◌, ◌≤◌, Bool, true, false, cond, T, ltb, ◌⊎◌, ℤ, pos, negsuc, sym, refl, ap, ◌∙◌, subst, inl, inr, true≢false, le_trans, le_of_eq, lt_of_le_of_lt, le_of_lt, mul-le-mul_right, mul_assoc, mul-lt-mul_of_pos_right, mul-pos, arith, lit<, ltb→lt, nltb→le, pow_mono, pow-add}
use lib.Ieee.{Float, nan, inf, fin, binary64, up, down, mul, of_int, of_bits, lt, fits}
use lib.Ieee.Fits.{down_pos}
use lib.Ieee.Exact.{HasValue, round_exact}
use lib.Ieee.Scale.{round_same}
use Rattle.float.specs.Units.{U, Is}
use Rattle.float.specs.Helpers.{to_radians}
use Rattle.float.proofs.Units.{le_or_lt, exact_is}
use Rattle.float.proofs.Rounding.{U_pos, mul_is}
use Rattle.trig.specs.Fraction.{Near}
use Rattle.trig.specs.Kernel.{sine_kernel, cosine_kernel}
use Rattle.trig.specs.Waves.{placed}
use Rattle.trig.specs.Degrees.{degree_wave}
use Rattle.trig.specs.DegreeSteps.{quarter_turns, quarter_turn, in_units, forty_five, radians_of, beside, degree_k, degree_below, degree_rest, degree_float, UpToWidest}
use Rattle.trig.proofs.Choices.{not_true, is_true}
use Rattle.trig.proofs.SumError.{int_is}
use Rattle.trig.proofs.Scaling.{whole_is, digits_fit, units_of}
use Rattle.trig.proofs.DegreeError.{NearestQuarter, nearest_of, Left, left_of, Beside, apart, degree_near}

-- ---- a * 2 ^ 47 is a whole number, for a float a from 45 up to 45,000
unfoldable pub times47 : Float → Float
unfolding mul
times47 a = mul binary64 a (fin false 1 (pos 47))

scale_exact : (m : ℕ) (e : ℤ) (t j : ℕ) → m < 2 ^ 53 → down e * t ≡ 2 ^ 47 → up e * t ≡ 2 ^ j → m * 2 ^ j * 2 ^ 1074 < 2 ^ 2098 → HasValue (times47 (fin false m e)) false (m * up e * t) 1
unfolding times47
scale_exact m e t j M d u b =
    subst (λ (z : Float). HasValue z false (m * up e * t) 1) (sym (round_same binary64 false (m * up e * (1 * 2 ^ 47)) (down e * 1) (m * up e * t) 1 (mul-pos (down_pos e) (lit< tt)) (lit< tt) (cross (m * up e) (down e) (2 ^ 47) d)))
    (round_exact binary64 false (m * up e * t) 1 m (j + 1074) (lit< tt) M (subst (λ (z : ℕ). z < 2 ^ 2098) (mul_assoc m (2 ^ j) (2 ^ 1074) ∙ ap (λ (z : ℕ). m * z) (sym (pow-add 2 j 1074))) b)
    (ap (λ (z : ℕ). z * 2 ^ 1074) (mul_assoc m (up e) t ∙ ap (λ (z : ℕ). m * z) u) ∙ mul_assoc m (2 ^ j) (2 ^ 1074) ∙ ap (λ (z : ℕ). m * z) (sym (pow-add 2 j 1074)) ∙ last (m * 2 ^ (j + 1074))))
  where
    cross : (a d p : ℕ) → d * t ≡ p → a * (1 * p) * 1 ≡ a * t * (d * 1)
    cross a d p e =
        let f : a * (d * t) ≡ a * p = ap (λ (z : ℕ). a * z) e in
        omega arith

    last : (a : ℕ) → a ≡ a * 1
    last a = omega arith

pub record Counted (m : ℕ) (e : ℤ) : Type 0 where
  pub x : ℕ
  pub value : HasValue (times47 (fin false m e)) false x 1
  pub exact : x * down e ≡ m * up e * 2 ^ 47
  pub most : x ≤ 45000 * 2 ^ 47

counted_at : (m : ℕ) (e : ℤ) (t j : ℕ) → m < 2 ^ 53 → down e * t ≡ 2 ^ 47 → up e * t ≡ 2 ^ j → m * up e ≤ 45000 * down e → Counted m e
counted_at m e t j M d u b =
    let l : m * up e * t ≤ 45000 * 2 ^ 47 = subst (λ (z : ℕ). m * up e * t ≤ 45000 * z) d (le_trans (mul-le-mul_right t b) (le_of_eq (mul_assoc 45000 (down e) t))) in
    let i : m * 2 ^ j ≤ 45000 * 2 ^ 47 = subst (λ (z : ℕ). z ≤ 45000 * 2 ^ 47) (mul_assoc m (up e) t ∙ ap (λ (z : ℕ). m * z) u) l in
    record {
      x = m * up e * t;
      value = scale_exact m e t j M d u (lt_of_le_of_lt (mul-le-mul_right (2 ^ 1074) i) (lit< tt));
      exact = cross (m * up e) (down e) (2 ^ 47) d;
      most = l;
    }
  where
    cross : (a d p : ℕ) → d * t ≡ p → a * t * d ≡ a * p
    cross a d p e =
        let f : a * (d * t) ≡ a * p = ap (λ (z : ℕ). a * z) e in
        omega arith

pub counted : (m : ℕ) (e : ℤ) → m < 2 ^ 53 → 45 * down e ≤ m * up e → m * up e ≤ 45000 * down e → Counted m e
counted m (pos k) M h b = counted_at m (pos k) (2 ^ 47) (k + 47) M (one (2 ^ 47)) (sym (pow-add 2 k 47)) b
  where
    one : (a : ℕ) → 1 * a ≡ a
    one a = omega arith
counted m (negsuc k) M h b =
    let s : suc k ≤ 47 = small (le_or_lt (suc k) 47) in
    counted_at m (negsuc k) (2 ^ (47 - suc k)) (47 - suc k) M (sym (pow-add 2 (suc k) (47 - suc k)) ∙ ap (λ (z : ℕ). 2 ^ z) (join k s)) (one (2 ^ (47 - suc k))) b
  where
    one : (a : ℕ) → 1 * a ≡ a
    one a = omega arith

    join : (k : ℕ) → suc k ≤ 47 → suc k + (47 - suc k) ≡ 47
    join k s = omega arith

    clash : (p : ℕ) → 2 ^ 48 ≤ p → 45 * p ≤ m * 1 → m < 2 ^ 53 → ⊥
    clash p a b c = omega arith

    small : (suc k ≤ 47) ⊎ (47 < suc k) → suc k ≤ 47
    small (inl h) = h
    small (inr g) = absurd (clash (2 ^ suc k) (pow_mono g) h M)

-- ---- r * 2 ^ -47, for r up to 2 ^ 53
unfoldable pub Y : ℕ
Y = 2 ^ 1027

pub Y-is : U ≡ 2 ^ 47 * Y
unfolding U Y
Y-is = refl

abbrev tiny : Float
tiny = of_bits binary64 0x3d00_0000_0000_0000

tiny_is : Is tiny false Y
unfolding of_bits U Y
tiny_is = (refl, refl)

pub units_is : (r : ℕ) → r < 2 ^ 53 → Is (mul binary64 (of_int binary64 (pos r)) tiny) false (r * Y)
units_is r h =
    subst (λ (z : Float). Is z false (r * Y)) (sym (mul_is (of_int binary64 (pos r)) tiny false false (r * U) Y (int_is r h) tiny_is ∙ round_same binary64 false (r * U * Y) (U * U) (r * Y) U (mul-pos U_pos U_pos) U_pos (turn r U Y)))
    (exact_is false (r * Y) r 1027 (unfold Y in refl) h (top r h))
  where
    turn : (r u y : ℕ) → r * u * y * u ≡ r * y * (u * u)
    turn r u y = omega arith

    top : (r : ℕ) → r < 2 ^ 53 → r * Y < 2 ^ 2098
    top r h = unfold Y in lt_of_le_of_lt (mul-le-mul_right (2 ^ 1027) (le_of_lt h)) (lit< tt)

-- ---- the two ways to turn. M = m * up e and D = down e
pub lt_cross : (m : ℕ) (e : ℤ) → lt (fin false m e) (fin false 45 (pos 0)) ≡ true → m * up e < 45 * down e
unfolding lt
lt_cross m e h = go (m * up e) (down e) (ltb→lt (m * up e * 1) (45 * 1 * down e) (is_true _ h))
  where
    go : (a d : ℕ) → a * 1 < 45 * 1 * d → a < 45 * d
    go a d h = omega arith

not_lt_cross : (m : ℕ) (e : ℤ) → lt (fin false m e) (fin false 45 (pos 0)) ≡ false → 45 * down e ≤ m * up e
unfolding lt
not_lt_cross m e h = go (m * up e) (down e) (nltb→le (m * up e * 1) (45 * 1 * down e) (not_true _ h))
  where
    go : (a d : ℕ) → 45 * 1 * d ≤ a * 1 → 45 * d ≤ a
    go a d h = omega arith

pub forty_five_is : forty_five ≡ fin false 45 (pos 0)
unfolding of_bits
forty_five_is = refl

-- the distance of M / D from 90 k is that of what is left from 90 l
module _ (M D k : ℕ) (P : 0 < D) (s : NearestQuarter M D k) where
  L : Left M D k
  L = left_of M D k P s

  pub at_side : (b : Bool) → (b ≡ true → M < 90 * (k * D)) → (b ≡ false → 90 * (k * D) ≤ M) → Beside (M % (360 * D)) D (left_of M D k P s).l P (left_of M D k P s).near b
  at_side true f g = go (left_of M D k P s).l (left_of M D k P s).q (M % (360 * D)) (left_of M D k P s).k_is (left_of M D k P s).whole (f refl)
    where
      go : (l q N : ℕ) → k ≡ l + 4 * q → M ≡ q * (360 * D) + N → M < 90 * (k * D) → N < 90 * (l * D)
      go l q N e w h = sum (ap (λ (z : ℕ). z * D) e)
        where
          sum : k * D ≡ (l + 4 * q) * D → N < 90 * (l * D)
          sum x = omega arith
  at_side false f g = go (left_of M D k P s).l (left_of M D k P s).q (M % (360 * D)) (left_of M D k P s).k_is (left_of M D k P s).whole (g refl)
    where
      go : (l q N : ℕ) → k ≡ l + 4 * q → M ≡ q * (360 * D) + N → 90 * (k * D) ≤ M → 90 * (l * D) ≤ N
      go l q N e w h = sum (ap (λ (z : ℕ). z * D) e)
        where
          sum : k * D ≡ (l + 4 * q) * D → 90 * (l * D) ≤ N
          sum x = omega arith

  -- |M - 90 k D|
  abbrev pub away : Bool → ℕ
  away true = 90 * (k * D) - M
  away false = M - 90 * (k * D)

  pub same_away : (b : Bool) → away b ≡ apart (M % (360 * D)) D (left_of M D k P s).l P (left_of M D k P s).near b
  same_away true = go (left_of M D k P s).l (left_of M D k P s).q (M % (360 * D)) (left_of M D k P s).k_is (left_of M D k P s).whole
    where
      go : (l q N : ℕ) → k ≡ l + 4 * q → M ≡ q * (360 * D) + N → 90 * (k * D) - M ≡ 90 * (l * D) - N
      go l q N e w = sum (ap (λ (z : ℕ). z * D) e)
        where
          sum : k * D ≡ (l + 4 * q) * D → 90 * (k * D) - M ≡ 90 * (l * D) - N
          sum x = omega arith
  same_away false = go (left_of M D k P s).l (left_of M D k P s).q (M % (360 * D)) (left_of M D k P s).k_is (left_of M D k P s).whole
    where
      go : (l q N : ℕ) → k ≡ l + 4 * q → M ≡ q * (360 * D) + N → M - 90 * (k * D) ≡ N - 90 * (l * D)
      go l q N e w = sum (ap (λ (z : ℕ). z * D) e)
        where
          sum : k * D ≡ (l + 4 * q) * D → M - 90 * (k * D) ≡ N - 90 * (l * D)
          sum x = omega arith

-- x units of 2 ^ -47 are M / D degrees
side_true : (x k M D : ℕ) → 0 < D → x * D ≡ M * 2 ^ 47 → x < k * quarter_turn → M < 90 * (k * D)
side_true x k M D P e h = go (mul-lt-mul_of_pos_right h P)
  where
    go : x * D < k * quarter_turn * D → M < 90 * (k * D)
    go l = omega arith

side_false : (x k M D : ℕ) → x * D ≡ M * 2 ^ 47 → k * quarter_turn ≤ x → 90 * (k * D) ≤ M
side_false x k M D e h = go (mul-le-mul_right D h)
  where
    go : k * quarter_turn * D ≤ x * D → 90 * (k * D) ≤ M
    go l = omega arith

split_of : (x y : ℕ) → y ≤ x → x ≡ y + (x - y)
split_of x y h = omega arith

unit_true : (x k M D u y : ℕ) → x * D ≡ M * 2 ^ 47 → u ≡ 2 ^ 47 * y → x ≤ k * quarter_turn → M ≤ 90 * (k * D) → (k * quarter_turn - x) * y * D ≡ (90 * (k * D) - M) * u
unit_true x k M D u y e f h l = go (k * quarter_turn - x) (90 * (k * D) - M) (split_of (k * quarter_turn) x h) (split_of (90 * (k * D)) M l)
  where
    go : (t g : ℕ) → k * quarter_turn ≡ x + t → 90 * (k * D) ≡ M + g → t * y * D ≡ g * u
    go t g a b = sum (whole (ap (λ (z : ℕ). z * D) a)) (ap (λ (z : ℕ). g * z) f)
      where
        whole : k * quarter_turn * D ≡ (x + t) * D → t * D ≡ 2 ^ 47 * g
        whole c = omega arith

        sum : t * D ≡ 2 ^ 47 * g → g * u ≡ g * (2 ^ 47 * y) → t * y * D ≡ g * u
        sum c d = last (ap (λ (z : ℕ). z * y) c)
          where
            last : t * D * y ≡ 2 ^ 47 * g * y → t * y * D ≡ g * u
            last i = omega arith

unit_false : (x k M D u y : ℕ) → x * D ≡ M * 2 ^ 47 → u ≡ 2 ^ 47 * y → k * quarter_turn ≤ x → 90 * (k * D) ≤ M → (x - k * quarter_turn) * y * D ≡ (M - 90 * (k * D)) * u
unit_false x k M D u y e f h l = go (x - k * quarter_turn) (M - 90 * (k * D)) (split_of x (k * quarter_turn) h) (split_of M (90 * (k * D)) l)
  where
    go : (t g : ℕ) → x ≡ k * quarter_turn + t → M ≡ 90 * (k * D) + g → t * y * D ≡ g * u
    go t g a b = sum (whole (ap (λ (z : ℕ). z * D) a)) (ap (λ (z : ℕ). g * z) f)
      where
        whole : x * D ≡ (k * quarter_turn + t) * D → t * D ≡ 2 ^ 47 * g
        whole c = omega arith

        sum : t * D ≡ 2 ^ 47 * g → g * u ≡ g * (2 ^ 47 * y) → t * y * D ≡ g * u
        sum c d = last (ap (λ (z : ℕ). z * y) c)
          where
            last : t * D * y ≡ 2 ^ 47 * g * y → t * y * D ≡ g * u
            last i = omega arith

-- at most eighth_turn of 90 degrees beside it
pub beside_few : (x : ℕ) (b : Bool) → beside b x (quarter_turns x * quarter_turn) < 2 ^ 53
unfolding quarter_turns
beside_few x true = omega arith
beside_few x false = omega arith

-- below 45 degrees
module _ (j m : ℕ) (e : ℤ) (f : T (fits binary64 (fin false m e))) where
  pub small_near : lt (fin false m e) forty_five ≡ true → Near 50 (placed ((0 + j) % 4) false (sine_kernel (to_radians (fin false m e))) (cosine_kernel (to_radians (fin false m e)))) (degree_wave false j (m * up e) (down e))
  small_near h =
      let u = units_of false m e f in
      let s : NearestQuarter (m * up e) (down e) 0 = least (m * up e) (down e) (lt_cross m e (subst (λ (z : Float). lt (fin false m e) z ≡ true) forty_five_is h)) in
      degree_near j (m * up e) (down e) 0 false (fin false m e) u.0 (down_pos e) s (left_of (m * up e) (down e) 0 (down_pos e) s) u.1
      (at_side (m * up e) (down e) 0 (down_pos e) s false (λ z. absurd (true≢false (sym z))) (λ z. none (down e) (m * up e)))
      (subst (λ (z : ℕ). u.0 * down e ≡ z * U) (same_away (m * up e) (down e) 0 (down_pos e) s false) (subst (λ (z : ℕ). u.0 * down e ≡ z * U) (all (m * up e) (down e)) u.2))
    where
      least : (M D : ℕ) → M < 45 * D → NearestQuarter M D 0
      least M D h = record { low = omega arith; high = omega arith }

      none : (D M : ℕ) → 90 * (0 * D) ≤ M
      none D M = omega arith

      all : (M D : ℕ) → M ≡ M - 90 * (0 * D)
      all M D = omega arith

  -- from 45 degrees on
  module _ (b : m * up e ≤ 45000 * down e) (h : lt (fin false m e) forty_five ≡ false) where
    pub count : Counted m e
    count = counted m e (digits_fit false m e f) (not_lt_cross m e (subst (λ (z : Float). lt (fin false m e) z ≡ false) forty_five_is h)) b

    pub count_is : in_units (fin false m e) ≡ count.x
    unfolding times47 of_bits
    count_is = whole_is (times47 (fin false m e)) count.x count.value (lt_of_le_of_lt count.most (lit< tt))

    s : NearestQuarter (m * up e) (down e) (quarter_turns count.x)
    s = nearest_of count.x (m * up e) (down e) (down_pos e) count.exact

    at : (b : Bool) → (b ≡ true → count.x < quarter_turns count.x * quarter_turn) → (b ≡ false → quarter_turns count.x * quarter_turn ≤ count.x)
        → Near 50 (placed ((quarter_turns count.x + j) % 4) b (sine_kernel (radians_of (beside b count.x (quarter_turns count.x * quarter_turn)))) (cosine_kernel (radians_of (beside b count.x (quarter_turns count.x * quarter_turn))))) (degree_wave false j (m * up e) (down e))
    unfolding radians_of
    at b p q =
        degree_near j (m * up e) (down e) (quarter_turns count.x) b (mul binary64 (of_int binary64 (pos (beside b count.x (quarter_turns count.x * quarter_turn)))) tiny) (beside b count.x (quarter_turns count.x * quarter_turn) * Y) (down_pos e) s
        (left_of (m * up e) (down e) (quarter_turns count.x) (down_pos e) s) (units_is (beside b count.x (quarter_turns count.x * quarter_turn)) (beside_few count.x b))
        (at_side (m * up e) (down e) (quarter_turns count.x) (down_pos e) s b (λ z. side_true count.x (quarter_turns count.x) (m * up e) (down e) (down_pos e) count.exact (p z)) (λ z. side_false count.x (quarter_turns count.x) (m * up e) (down e) count.exact (q z)))
        (subst (λ (z : ℕ). beside b count.x (quarter_turns count.x * quarter_turn) * Y * down e ≡ z * U) (same_away (m * up e) (down e) (quarter_turns count.x) (down_pos e) s b) (exactly b p q))
      where
        exactly : (b : Bool) → (b ≡ true → count.x < quarter_turns count.x * quarter_turn) → (b ≡ false → quarter_turns count.x * quarter_turn ≤ count.x)
            → beside b count.x (quarter_turns count.x * quarter_turn) * Y * down e ≡ away (m * up e) (down e) (quarter_turns count.x) (down_pos e) s b * U
        exactly true p q = unit_true count.x (quarter_turns count.x) (m * up e) (down e) U Y count.exact Y-is (le_of_lt (p refl)) (le_of_lt (side_true count.x (quarter_turns count.x) (m * up e) (down e) (down_pos e) count.exact (p refl)))
        exactly false p q = unit_false count.x (quarter_turns count.x) (m * up e) (down e) U Y count.exact Y-is (q refl) (side_false count.x (quarter_turns count.x) (m * up e) (down e) count.exact (q refl))

    pub large_near : Near 50 (placed ((quarter_turns (in_units (fin false m e)) + j) % 4) (ltb (in_units (fin false m e)) (quarter_turns (in_units (fin false m e)) * quarter_turn))
        (sine_kernel (radians_of (beside (ltb (in_units (fin false m e)) (quarter_turns (in_units (fin false m e)) * quarter_turn)) (in_units (fin false m e)) (quarter_turns (in_units (fin false m e)) * quarter_turn))))
        (cosine_kernel (radians_of (beside (ltb (in_units (fin false m e)) (quarter_turns (in_units (fin false m e)) * quarter_turn)) (in_units (fin false m e)) (quarter_turns (in_units (fin false m e)) * quarter_turn)))))
        (degree_wave false j (m * up e) (down e))
    large_near =
        subst
        (λ (x : ℕ). Near 50 (placed ((quarter_turns x + j) % 4) (ltb x (quarter_turns x * quarter_turn)) (sine_kernel (radians_of (beside (ltb x (quarter_turns x * quarter_turn)) x (quarter_turns x * quarter_turn)))) (cosine_kernel (radians_of (beside (ltb x (quarter_turns x * quarter_turn)) x (quarter_turns x * quarter_turn))))) (degree_wave false j (m * up e) (down e)))
        (sym count_is)
        (at (ltb count.x (quarter_turns count.x * quarter_turn)) (λ z. ltb→lt count.x (quarter_turns count.x * quarter_turn) (is_true _ z)) (λ z. nltb→le count.x (quarter_turns count.x * quarter_turn) (not_true _ z)))

-- ---- above zero
pub degree_float_near : (j : ℕ) (a : Float) → UpToWidest a → T (fits binary64 a) → Near 50 (degree_float j a) (degree_wave false j (lib.Ieee.Positive.num a) (lib.Ieee.Positive.den a))
unfolding degree_float degree_k degree_below degree_rest
degree_float_near j nan h f = absurd h
degree_float_near j (inf s) h f = absurd h
degree_float_near j (fin true m e) h f = absurd h
degree_float_near j (fin false m e) h f = go (lt (fin false m e) forty_five) (quarter_turns (in_units (fin false m e))) (ltb (in_units (fin false m e)) (quarter_turns (in_units (fin false m e)) * quarter_turn)) _ (small_near j m e f) (large_near j m e f h)
  where
    go : (c : Bool) (k : ℕ) (b : Bool) (r : Float) → (c ≡ true → Near 50 (placed ((0 + j) % 4) false (sine_kernel (to_radians (fin false m e))) (cosine_kernel (to_radians (fin false m e)))) (degree_wave false j (m * up e) (down e)))
        → (c ≡ false → Near 50 (placed ((k + j) % 4) b (sine_kernel r) (cosine_kernel r)) (degree_wave false j (m * up e) (down e)))
        → Near 50 (placed ((cond c 0 k + j) % 4) (cond c false b) (sine_kernel (cond c (to_radians (fin false m e)) r)) (cosine_kernel (cond c (to_radians (fin false m e)) r))) (degree_wave false j (m * up e) (down e))
    go true k b r p q = p refl
    go false k b r p q = q refl
