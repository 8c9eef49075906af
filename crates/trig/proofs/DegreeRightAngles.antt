-- At every multiple of 90 degrees, above or below zero, the sine and the cosine are exactly +0.0, 1 or -1
-- (`right_angles`). Assumes nothing.
use Rattle.std.proofs.Common.{◌≡◌, ℕ, zero, suc, ◌+◌, ◌-◌, ◌*◌, ◌/◌, ◌%◌, ◌^◌, ◌<◌, Bool, true, false, cond, ◌&&◌, ◌||◌, T, eqb, ltb, ◌⊎◌, ℤ, pos, sym, refl, ap, ◌∙◌, subst, inl, inr, true≢false, le_of_eq, arith, lit<, ltb→lt}
use lib.Ieee.{Float, nan, inf, fin, binary64, up, down, neg, mul, add, sub, of_int, of_bits, lt, eq, fits}
use lib.Ieee.Fits.{down_pos, neg-fits}
use lib.Ieee.Positive.{num as top, den as bot}
use Rattle.float.specs.Helpers.{to_radians, negative}
use Rattle.trig.specs.Angle.{quarter}
use lib.Ieee.Scale.{finite}
use Rattle.trig.specs.Kernel.{plus_zero, one, sine_kernel, cosine_kernel}
use Rattle.trig.specs.Waves.{placed}
use Rattle.trig.specs.declared.Pair.{Pair}
use Rattle.trig.specs.Degrees.{plain, turnable, square_pair}
use Rattle.trig.specs.DegreeSteps.{degree_k, degree_below, degree_rest, degree_float, sine_degrees, cosine_degrees, UpToWidest, forty_five, in_units, quarter_turn, eighth_turn, quarter_turns, radians_of, beside}
use Rattle.trig.proofs.Choices.{split}
use Rattle.trig.proofs.WaveError.{is_zero}
use Rattle.trig.proofs.DegreeFloats.{count, count_is}
use Rattle.trig.proofs.DegreeNear.{widest_above, widest_below, high, low}
use Rattle.trig.proofs.DegreeBack.{zero_sine, zero_cosine, above_is, cosine_above, neg_false, sine_back, cosine_back}

-- ---- at a rest of zero the two sums are exact
sine_still : sine_kernel (fin false 0 (pos 0)) ≡ fin false 0 (pos 0)
unfolding sine_kernel of_bits mul lib.Ieee.sub lib.Ieee.div lib.Ieee.of_int
sine_still = refl

cosine_still : cosine_kernel (fin false 0 (pos 0)) ≡ one
unfolding cosine_kernel of_bits mul lib.Ieee.sub lib.Ieee.div lib.Ieee.of_int
cosine_still = refl

-- ---- right angles: n quarter turns
module _ (m : ℕ) (e : ℤ) (f : T (fits binary64 (fin false m e))) (h : UpToWidest (fin false m e)) (n : ℕ) (n_is : m * up e ≡ 90 * suc n * down e) where
  far : lt (fin false m e) forty_five ≡ false
  unfolding lt of_bits
  far = go (ltb (m * up e * 1) (45 * 1 * down e)) (ltb→lt (m * up e * 1) (45 * 1 * down e))
    where
      none : (a d : ℕ) → 0 < d → a ≡ 90 * suc n * d → a * 1 < 45 * 1 * d → ⊥
      none a d P e l = omega arith

      go : (b : Bool) → (T b → m * up e * 1 < 45 * 1 * down e) → b ≡ false
      go true g = absurd (none (m * up e) (down e) (down_pos e) n_is (g tt))
      go false g = refl

  units_quarters : in_units (fin false m e) ≡ suc n * quarter_turn
  units_quarters = count_is 0 m e f h far ∙ cancel (count 0 m e f h far).x (suc n * quarter_turn) (down e) (down_pos e) ((count 0 m e f h far).exact ∙ ap (λ (z : ℕ). z * 2 ^ 47) n_is ∙ turn n (down e))
    where
      cancel : (a b d : ℕ) → 0 < d → a * d ≡ b * d → a ≡ b
      cancel a b d P e = native.Mathlib.Nat.le_antisymm (native.Mathlib.Nat.le_of_mul-le-mul_right {k = d} (le_of_eq e) P) (native.Mathlib.Nat.le_of_mul-le-mul_right {k = d} (le_of_eq (sym e)) P)

      turn : (n d : ℕ) → 90 * suc n * d * 2 ^ 47 ≡ suc n * quarter_turn * d
      turn n d = omega arith

  quarters_n : quarter_turns (suc n * quarter_turn) ≡ suc n
  unfolding quarter_turns
  quarters_n = go n
    where
      go : (n : ℕ) → (suc n * quarter_turn + eighth_turn) / quarter_turn ≡ suc n
      go n = omega arith

  pub degree_quarters : (j : ℕ) → degree_float j (fin false m e) ≡ placed ((suc n + j) % 4) false (fin false 0 (pos 0)) one
  unfolding degree_float degree_k degree_below degree_rest
  degree_quarters j = subst (λ (c : Bool). placed ((cond c 0 k + j) % 4) (cond c false b) (sine_kernel (cond c (to_radians (fin false m e)) r)) (cosine_kernel (cond c (to_radians (fin false m e)) r)) ≡ placed ((suc n + j) % 4) false (fin false 0 (pos 0)) one) (sym far) there
    where
      k : ℕ
      k = quarter_turns (in_units (fin false m e))

      b : Bool
      b = ltb (in_units (fin false m e)) (k * quarter_turn)

      r : Float
      r = radians_of (beside b (in_units (fin false m e)) (k * quarter_turn))

      same : (x : ℕ) → ltb x x ≡ false
      same x = go (ltb x x) (ltb→lt x x)
        where
          none : (x : ℕ) → x < x → ⊥
          none x h = omega arith

          go : (c : Bool) → (T c → x < x) → c ≡ false
          go true g = absurd (none x (g tt))
          go false g = refl

      nothing : (x : ℕ) → 0 ≡ x - x
      nothing x = omega arith

      still : radians_of 0 ≡ fin false 0 (pos 0)
      still = unfold radians_of to_radians mul of_int of_bits in refl

      there : placed ((k + j) % 4) b (sine_kernel r) (cosine_kernel r) ≡ placed ((suc n + j) % 4) false (fin false 0 (pos 0)) one
      there =
          ap (λ (x : ℕ). placed ((quarter_turns x + j) % 4) (ltb x (quarter_turns x * quarter_turn)) (sine_kernel (radians_of (beside (ltb x (quarter_turns x * quarter_turn)) x (quarter_turns x * quarter_turn)))) (cosine_kernel (radians_of (beside (ltb x (quarter_turns x * quarter_turn)) x (quarter_turns x * quarter_turn))))) units_quarters
          ∙ ap (λ (q : ℕ). placed ((q + j) % 4) (ltb (suc n * quarter_turn) (q * quarter_turn)) (sine_kernel (radians_of (beside (ltb (suc n * quarter_turn) (q * quarter_turn)) (suc n * quarter_turn) (q * quarter_turn)))) (cosine_kernel (radians_of (beside (ltb (suc n * quarter_turn) (q * quarter_turn)) (suc n * quarter_turn) (q * quarter_turn))))) quarters_n
          ∙ ap (λ (c : Bool). placed ((suc n + j) % 4) c (sine_kernel (radians_of (beside c (suc n * quarter_turn) (suc n * quarter_turn)))) (cosine_kernel (radians_of (beside c (suc n * quarter_turn) (suc n * quarter_turn))))) (same (suc n * quarter_turn))
          ∙ ap (λ (z : ℕ). placed ((suc n + j) % 4) false (sine_kernel (radians_of z)) (cosine_kernel (radians_of z))) (sym (nothing (suc n * quarter_turn)))
          ∙ ap (λ (y : Float). placed ((suc n + j) % 4) false (sine_kernel y) (cosine_kernel y)) still
          ∙ ap (λ (y : Float). placed ((suc n + j) % 4) false y (cosine_kernel (fin false 0 (pos 0)))) sine_still
          ∙ ap (λ (y : Float). placed ((suc n + j) % 4) false (fin false 0 (pos 0)) y) cosine_still

  nonzero : eq (fin false m e) plus_zero ≡ false
  nonzero = go (split (eq (fin false m e) plus_zero))
    where
      clash : (a d : ℕ) → 0 < d → a ≡ 90 * suc n * d → a ≡ 0 → ⊥
      clash a d P e z = omega arith

      none : (u : ℕ) (k : ℕ) → k ≡ 0 → k * u ≡ 0
      none u k z = subst (λ (w : ℕ). w * u ≡ 0) (sym z) (zeros u)
        where
          zeros : (u : ℕ) → 0 * u ≡ 0
          zeros u = omega arith

      go : (eq (fin false m e) plus_zero ≡ true) ⊎ (eq (fin false m e) plus_zero ≡ false) → eq (fin false m e) plus_zero ≡ false
      go (inl z) = absurd (clash (m * up e) (down e) (down_pos e) n_is (none (up e) m (is_zero (fin false m e) z)))
      go (inr z) = z

  -- exactly +0.0, 1 or -1
  pub sine_quarters : sine_degrees (fin false m e) ≡ plain (placed (suc n % 4) false (fin false 0 (pos 0)) one)
  sine_quarters = above_is m e nonzero ∙ ap plain (degree_quarters 0 ∙ ap (λ (z : ℕ). placed (z % 4) false (fin false 0 (pos 0)) one) (none n))
    where
      none : (n : ℕ) → suc n + 0 ≡ suc n
      none n = omega arith

  pub cosine_quarters : cosine_degrees (fin false m e) ≡ plain (placed ((suc n + 1) % 4) false (fin false 0 (pos 0)) one)
  cosine_quarters = cosine_above m e nonzero ∙ ap plain (degree_quarters 1)

-- the four of them: +0.0, 1, +0.0, -1
pub quarters_plain : (plain (placed 0 false (fin false 0 (pos 0)) one) ≡ plus_zero) × (plain (placed 1 false (fin false 0 (pos 0)) one) ≡ one) × (plain (placed 2 false (fin false 0 (pos 0)) one) ≡ plus_zero) × (plain (placed 3 false (fin false 0 (pos 0)) one) ≡ neg one)
unfolding add neg of_bits
quarters_plain = (refl, refl, refl, refl)

-- ---- right angles, of every sign
pair_of : (q : ℕ) → q < 4 → (plain (placed q false (fin false 0 (pos 0)) one) ≡ (square_pair q).sine) × (plain (placed ((q + 1) % 4) false (fin false 0 (pos 0)) one) ≡ (square_pair q).cosine)
pair_of zero h = (quarters_plain.0, quarters_plain.1)
pair_of (suc zero) h = (quarters_plain.1, quarters_plain.2)
pair_of (suc (suc zero)) h = (quarters_plain.2, quarters_plain.3)
pair_of (suc (suc (suc zero))) h = (quarters_plain.3, quarters_plain.0)
pair_of (suc (suc (suc (suc q)))) h = absurd (none q h)
  where
    none : (q : ℕ) → suc (suc (suc (suc q))) < 4 → ⊥
    none q h = omega arith

pub right_pair : (m : ℕ) (e : ℤ) → T (fits binary64 (fin false m e)) → UpToWidest (fin false m e) → (n : ℕ) → m * up e ≡ 90 * suc n * down e
    → (sine_degrees (fin false m e) ≡ (square_pair (suc n % 4)).sine) × (cosine_degrees (fin false m e) ≡ (square_pair (suc n % 4)).cosine)
right_pair m e f h n k =
    let p = pair_of (suc n % 4) (native.Mathlib.Nat.mod-lt (suc n) (lit< tt)) in
    (sine_quarters m e f h n k ∙ p.0, cosine_quarters m e f h n k ∙ ap (λ (z : ℕ). plain (placed z false (fin false 0 (pos 0)) one)) (next n) ∙ p.1)
  where
    next : (n : ℕ) → (suc n + 1) % 4 ≡ (suc n % 4 + 1) % 4
    next n = omega arith

pair_is : (p q : Pair) → p.sine ≡ q.sine → p.cosine ≡ q.cosine → p ≡ q
pair_is p q a b = ap (λ (y : Float). record { sine = y; cosine = p.cosine }) a ∙ ap (λ (y : Float). record { sine = q.sine; cosine = y }) b

turned_pair : (q : ℕ) → q < 4 → (plain (neg (square_pair q).sine) ≡ (square_pair ((4 - q) % 4)).sine) × ((square_pair q).cosine ≡ (square_pair ((4 - q) % 4)).cosine)
unfolding add neg of_bits
turned_pair zero h = (refl, refl)
turned_pair (suc zero) h = (refl, refl)
turned_pair (suc (suc zero)) h = (refl, refl)
turned_pair (suc (suc (suc zero))) h = (refl, refl)
turned_pair (suc (suc (suc (suc q)))) h = absurd (none q h)
  where
    none : (q : ℕ) → suc (suc (suc (suc q))) < 4 → ⊥
    none q h = omega arith

zero_pair : (s : Bool) (m : ℕ) (d : ℤ) → m * up d ≡ 90 * 0 * down d → eq (fin s m d) plus_zero ≡ true
unfolding eq of_bits
zero_pair s m d e = go s (m * up d * 1) (0 * 1 * down d) (none (m * up d) (down d) e) (noned (down d))
  where
    none : (a d : ℕ) → a ≡ 90 * 0 * d → 0 ≡ a * 1
    none a d e = omega arith

    noned : (d : ℕ) → 0 ≡ 0 * 1 * d
    noned d = omega arith

    go : (s : Bool) (a b : ℕ) → 0 ≡ a → 0 ≡ b → (eqb a b && (mathlib.Core.Bool.beq s false || eqb a 0)) ≡ true
    go true a b p q = subst (λ (x : ℕ). (eqb x b && (false || eqb x 0)) ≡ true) p (subst (λ (y : ℕ). (eqb 0 y && (false || eqb 0 0)) ≡ true) q refl)
    go false a b p q = subst (λ (x : ℕ). (eqb x b && (true || eqb x 0)) ≡ true) p (subst (λ (y : ℕ). (eqb 0 y && (true || eqb 0 0)) ≡ true) q refl)

none_quarter : (s : Bool) → quarter s 0 % 4 ≡ 0
none_quarter true = refl
none_quarter false = refl

pub right_angles : (x : Float) → T (fits binary64 x) → turnable x ≡ true → (n : ℕ) → finite x ≡ true → top x ≡ 90 * n * bot x → record { sine = sine_degrees x; cosine = cosine_degrees x } ≡ square_pair (quarter (negative x) n % 4)
right_angles nan f h n F e = absurd (true≢false (sym F))
right_angles (inf s) f h n F e = absurd (true≢false (sym F))
right_angles (fin s m d) f h zero F e =
    pair_is _ _ (zero_sine (fin s m d) (zero_pair s m d e)) (zero_cosine (fin s m d) (zero_pair s m d e)) ∙ ap square_pair (sym (none_quarter s))
right_angles (fin false m d) f h (suc n) F e = let r = right_pair m d f (widest_above m d (high (fin false m d) f h)) n e in pair_is _ _ r.0 r.1
right_angles (fin true m d) f h (suc n) F e =
    let r = right_pair m d (unfold neg in neg-fits binary64 (fin true m d) f) (widest_below m d (low (fin true m d) f h)) n e in
    let t = turned_pair (suc n % 4) (native.Mathlib.Nat.mod-lt (suc n) (lit< tt)) in
    pair_is _ _
    (ap sine_degrees (sym (neg_false m d)) ∙ sine_back false m d ∙ ap (λ (y : Float). plain (neg y)) r.0 ∙ t.0)
    (ap cosine_degrees (sym (neg_false m d)) ∙ cosine_back false m d ∙ r.1 ∙ t.1)
