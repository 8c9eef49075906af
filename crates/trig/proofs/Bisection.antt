-- The bisection finds an angle of the tangent t, and so does the guess that passes the check: `grid_right`. And the same steps as the code has them. Assumes nothing.
use Rattle.std.proofs.Common.{◌≡◌, ℕ, zero, suc, ◌+◌, ◌-◌, ◌/◌, ◌<◌, ◌≤◌, min, Bool, true, false, cond, T, eqb, sym, refl, ap, ◌∙◌, true≢false, arith, lit≤, eqb→eq}
use lib.Ieee.{Float, binary64, add, mul, of_bits, to_unsigned, le, lt}
use Rattle.trig.specs.Kernel.{plus_zero, sine_kernel, cosine_kernel}
use Rattle.trig.specs.Reduction.{quarter_pi}
use Rattle.trig.specs.Arctangent.{start_float, cut, guess, grid_float, slack, passes, steep, halve, Halved, many_turns, grid_angle, flat_float}
use Rattle.trig.proofs.Choices.{is_true, pick, drop, chosen}
use Rattle.trig.proofs.GridAngle.{Tangent, Bracket, Angle, done, right_half, left_half, whole_bracket, passed, cut_is, guess_small}

-- ---- for `bisect`
is_one : (a : ℕ) → a ≡ 1 → eqb a 1 ≡ true
is_one a e = ap (λ (z : ℕ). eqb z 1) e

not_one : (a : ℕ) → ((a ≡ 1) → ⊥) → eqb a 1 ≡ false
not_one a h = go (eqb a 1) (eqb→eq a 1)
  where
    go : (b : Bool) → (T b → a ≡ 1) → b ≡ false
    go true f = absurd (h (f tt))
    go false f = refl

some : (lo hi : ℕ) → lo < hi → hi - lo ≤ 0 → ⊥
some lo hi h l = omega arith

pub middle : (lo hi : ℕ) → lo < hi → ((hi - lo ≡ 1) → ⊥) → (lo < lo + (hi - lo) / 2) × (lo + (hi - lo) / 2 < hi)
middle lo hi l n = omega arith

shorter : (lo mid hi n : ℕ) → lo < mid → mid < hi → hi - lo ≤ suc n → (hi - mid ≤ n) × (mid - lo ≤ n)
shorter lo mid hi n a b h = (omega arith, omega arith)

pub halved_one : (t : Float) (lo hi : ℕ) → lo < hi → hi - lo ≡ 1 → Halved t lo hi lo
unfolding halve
halved_one t lo hi o e zero h = absurd (some lo hi o h)
halved_one t lo hi o e (suc n) h = ap (λ (b : Bool). cond b lo (cond (steep t (lo + (hi - lo) / 2)) (halve n t (lo + (hi - lo) / 2) hi) (halve n t lo (lo + (hi - lo) / 2)))) (sym (is_one (hi - lo) e))

pub halved_right : (t : Float) (lo hi i : ℕ) → lo < hi → ((hi - lo ≡ 1) → ⊥) → steep t (lo + (hi - lo) / 2) ≡ true → Halved t (lo + (hi - lo) / 2) hi i → Halved t lo hi i
unfolding halve
halved_right t lo hi i o e s f zero h = absurd (some lo hi o h)
halved_right t lo hi i o e s f (suc n) h =
    f n (less lo hi n o e h)
    ∙ ap (λ (b : Bool). cond b (halve n t (lo + (hi - lo) / 2) hi) (halve n t lo (lo + (hi - lo) / 2))) (sym s)
    ∙ ap (λ (b : Bool). cond b lo (cond (steep t (lo + (hi - lo) / 2)) (halve n t (lo + (hi - lo) / 2) hi) (halve n t lo (lo + (hi - lo) / 2)))) (sym (not_one (hi - lo) e))
  where
    less : (lo hi n : ℕ) → lo < hi → ((hi - lo ≡ 1) → ⊥) → hi - lo ≤ suc n → hi - (lo + (hi - lo) / 2) ≤ n
    less lo hi n o e h = omega arith

pub halved_left : (t : Float) (lo hi i : ℕ) → lo < hi → ((hi - lo ≡ 1) → ⊥) → steep t (lo + (hi - lo) / 2) ≡ false → Halved t lo (lo + (hi - lo) / 2) i → Halved t lo hi i
unfolding halve
halved_left t lo hi i o e s f zero h = absurd (some lo hi o h)
halved_left t lo hi i o e s f (suc n) h =
    f n (less lo hi n o e h)
    ∙ ap (λ (b : Bool). cond b (halve n t (lo + (hi - lo) / 2) hi) (halve n t lo (lo + (hi - lo) / 2))) (sym s)
    ∙ ap (λ (b : Bool). cond b lo (cond (steep t (lo + (hi - lo) / 2)) (halve n t (lo + (hi - lo) / 2) hi) (halve n t lo (lo + (hi - lo) / 2)))) (sym (not_one (hi - lo) e))
  where
    less : (lo hi n : ℕ) → lo < hi → ((hi - lo ≡ 1) → ⊥) → hi - lo ≤ suc n → lo + (hi - lo) / 2 - lo ≤ n
    less lo hi n o e h = omega arith

-- ---- what it finds
module _ (n : ℕ) (t : Float) (lo hi : ℕ) (b : Bracket t lo hi) (h : hi - lo ≤ suc n) (below : (lo hi : ℕ) → Bracket t lo hi → hi - lo ≤ n → Angle t (halve n t lo hi)) where
  halve_far : ((hi - lo ≡ 1) → ⊥) → Angle t (cond (steep t (lo + (hi - lo) / 2)) (halve n t (lo + (hi - lo) / 2) hi) (halve n t lo (lo + (hi - lo) / 2)))
  halve_far far =
      let m = middle lo hi b.order far in
      let l = shorter lo (lo + (hi - lo) / 2) hi n m.0 m.1 h in
      chosen (Angle t) (steep t (lo + (hi - lo) / 2)) _ _ (λ s. below (lo + (hi - lo) / 2) hi (right_half t lo (lo + (hi - lo) / 2) hi b m.0 m.1 s) l.0)
      (λ s. below lo (lo + (hi - lo) / 2) (left_half t lo (lo + (hi - lo) / 2) hi b m.0 m.1 s) l.1)

  halve_more : Angle t (halve (suc n) t lo hi)
  unfolding halve
  halve_more =
      chosen (Angle t) (eqb (hi - lo) 1) _ _ (λ e. done t lo hi b (eqb→eq (hi - lo) 1 (is_true (eqb (hi - lo) 1) e)))
      (λ e. halve_far (λ p. true≢false (sym (is_one (hi - lo) p) ∙ e)))

halve_right : (n : ℕ) (t : Float) (lo hi : ℕ) → Bracket t lo hi → hi - lo ≤ n → Angle t (halve n t lo hi)
halve_right zero t lo hi b h = absurd (some lo hi b.order h)
halve_right (suc n) t lo hi b h = halve_more n t lo hi b h (λ l r c k. halve_right n t l r c k)

pub grid_right : (t : Float) → Tangent t → Angle t (grid_angle t)
unfolding grid_angle
grid_right t g =
    chosen (Angle t) (passes t (grid_float (guess t))) _ _ (λ h. passed t (guess t) g (guess_small t) h)
    (λ h. halve_right many_turns t 0 7074237752028440 (whole_bracket t g) (unfold many_turns in lit≤ tt))

-- ---- for `guess`
abbrev scaled : Float → Float
scaled r = add binary64 (mul binary64 r (of_bits binary64 0x4340_0000_0000_0000)) (of_bits binary64 0x3fe0_0000_0000_0000)

pub guess_is : (t r : Float) → r ≡ start_float t → min (to_unsigned 64 (scaled r)) 7074237752028440 ≡ guess t
unfolding guess
guess_is t r e = sym (cut_is (scaled r)) ∙ ap (λ (x : Float). cut (scaled x)) e

-- ---- for `passes`, `steep`, `grid_angle` and `flat`
pub passes_is : (t r s q : Float) → s ≡ sine_kernel r → q ≡ cosine_kernel r → cond (le s (add binary64 (mul binary64 t q) slack)) (le (mul binary64 t q) (add binary64 s slack)) false ≡ passes t r
unfolding passes
passes_is t r s q S C =
    ap (λ (x : Float). cond (le x (add binary64 (mul binary64 t q) slack)) (le (mul binary64 t q) (add binary64 x slack)) false) S
    ∙ ap (λ (x : Float). cond (le (sine_kernel r) (add binary64 (mul binary64 t x) slack)) (le (mul binary64 t x) (add binary64 (sine_kernel r) slack)) false) C

pub steep_is : (t : Float) (i : ℕ) (r s q : Float) → r ≡ grid_float i → s ≡ sine_kernel r → q ≡ cosine_kernel r → le s (mul binary64 t q) ≡ steep t i
unfolding steep
steep_is t i r s q R S C =
    ap (λ (x : Float). le x (mul binary64 t q)) S ∙ ap (λ (x : Float). le (sine_kernel r) (mul binary64 t x)) C ∙ ap (λ (x : Float). le (sine_kernel x) (mul binary64 t (cosine_kernel x))) R

module _ (t : Float) (i : ℕ) (r : Float) (b : Bool) (I : i ≡ guess t) (R : r ≡ grid_float i) (B : b ≡ passes t r) where
  test_is : passes t (grid_float (guess t)) ≡ b
  test_is = ap (λ (j : ℕ). passes t (grid_float j)) (sym I) ∙ ap (passes t) (sym R) ∙ sym B

  pub grid_kept : b ≡ true → i ≡ grid_angle t
  unfolding grid_angle
  grid_kept h = I ∙ pick (passes t (grid_float (guess t))) _ _ (test_is ∙ h)

  pub grid_halved : (j : ℕ) → b ≡ false → Halved t 0 7074237752028440 j → j ≡ grid_angle t
  unfolding grid_angle
  grid_halved j h k = k many_turns (unfold many_turns in lit≤ tt) ∙ drop (passes t (grid_float (guess t))) _ _ (test_is ∙ h)

pub flat_is : (t r : Float) (b : Bool) (o : Float) → r ≡ start_float t → b ≡ passes t r → o ≡ grid_float (grid_angle t) → cond (lt plus_zero r) (cond (le r quarter_pi) (cond b r o) o) o ≡ flat_float t
unfolding flat_float
flat_is t r b o R B O =
    ap (λ (x : Bool). cond (lt plus_zero r) (cond (le r quarter_pi) (cond x r o) o) o) B
    ∙ ap (λ (x : Float). cond (lt plus_zero r) (cond (le r quarter_pi) (cond (passes t r) r x) x) x) O
    ∙ ap (λ (x : Float). cond (lt plus_zero x) (cond (le x quarter_pi) (cond (passes t x) x (grid_float (grid_angle t))) (grid_float (grid_angle t))) (grid_float (grid_angle t))) R
