-- The steps of `sine` and `cosine` in the code's order, and their symmetry: the sine is odd and the cosine is even, in every bit. Assumes nothing.
use Rattle.std.proofs.Common.{◌≡◌, ℕ, ◌+◌, ◌-◌, ◌*◌, ◌%◌, ◌<◌, ◌≤◌, Bool, true, false, cond, not, ◌&&◌, ◌||◌, T, eqb, ltb, leb, ◌⊎◌, ℤ, sym, refl, ap, ◌∙◌, subst, inl, inr, true≢false, not-le_of_lt, arith, ltb→lt, leb→le, nltb→le}
use lib.Dec.{nleb→lt}
use lib.Ieee.{Float, nan, inf, fin, up, down, neg, of_bits, le, lt, eq}
use Rattle.float.specs.Helpers.{size_of}
use Rattle.float.proofs.Order.{neg_neg}
use Rattle.trig.specs.Kernel.{plus_zero, one, sine_kernel, cosine_kernel}
use Rattle.trig.specs.Reduction.{turns, base, part, rest, rest_float, quarter_pi, count, turn_k, turn_below, turn_rest}
use Rattle.trig.specs.Waves.{placed, wave_float, sine_float, cosine_float}
use Rattle.trig.proofs.Choices.{split, pick, drop}
use Rattle.trig.proofs.WaveError.{quarters}

-- ---- x and -x are zero together, and of others one is below zero
pub swap : (s : Bool) (m : ℕ) (e : ℤ) → eq (neg (fin s m e)) plus_zero ≡ eq (fin s m e) plus_zero
unfolding neg eq of_bits
swap true m e = go (eqb (m * up e * 1) (0 * 1 * down e)) (eqb (m * up e * 1) 0) (same m e)
  where
    go : (a b : Bool) → (T a → T b) → (a && (true || b)) ≡ (a && (false || b))
    go true true h = refl
    go true false h = absurd (h tt)
    go false b h = refl

    same : (m : ℕ) (e : ℤ) → T (eqb (m * up e * 1) (0 * 1 * down e)) → T (eqb (m * up e * 1) 0)
    same m e t = subst (λ (z : ℕ). T (eqb (m * up e * 1) z)) (none (down e)) t
      where
        none : (d : ℕ) → 0 * 1 * d ≡ 0
        none d = omega arith
swap false m e = go (eqb (m * up e * 1) (0 * 1 * down e)) (eqb (m * up e * 1) 0) (same m e)
  where
    go : (a b : Bool) → (T a → T b) → (a && (false || b)) ≡ (a && (true || b))
    go true true h = refl
    go true false h = absurd (h tt)
    go false b h = refl

    same : (m : ℕ) (e : ℤ) → T (eqb (m * up e * 1) (0 * 1 * down e)) → T (eqb (m * up e * 1) 0)
    same m e t = subst (λ (z : ℕ). T (eqb (m * up e * 1) z)) (none (down e)) t
      where
        none : (d : ℕ) → 0 * 1 * d ≡ 0
        none d = omega arith

pub lt_pos : (m : ℕ) (e : ℤ) → lt (fin false m e) plus_zero ≡ false
unfolding lt of_bits
lt_pos m e = go (ltb (m * up e * 1) (0 * 1 * down e)) (ltb→lt (m * up e * 1) (0 * 1 * down e))
  where
    none : (a d : ℕ) → a < 0 * 1 * d → ⊥
    none a d h = omega arith

    go : (t : Bool) → (T t → m * up e * 1 < 0 * 1 * down e) → t ≡ false
    go true h = absurd (none (m * up e * 1) (down e) (h tt))
    go false h = refl

pub lt_neg : (m : ℕ) (e : ℤ) → eq (fin true m e) plus_zero ≡ false → lt (fin true m e) plus_zero ≡ true
unfolding lt eq of_bits
lt_neg m e h = go (ltb 0 (m * up e * 1 + 0 * 1 * down e)) (nltb→le 0 (m * up e * 1 + 0 * 1 * down e))
  where
    zeros : (a b : ℕ) → a + b ≤ 0 → (a ≡ 0) × (b ≡ 0)
    zeros a b l = omega arith

    clash : (a b : ℕ) → a ≡ 0 → b ≡ 0 → (eqb a b && (false || eqb a 0)) ≡ false → ⊥
    clash a b p q k = true≢false (subst (λ (y : ℕ). (eqb 0 y && (false || eqb 0 0)) ≡ false) q (subst (λ (x : ℕ). (eqb x b && (false || eqb x 0)) ≡ false) p k))

    go : (t : Bool) → (T (not t) → m * up e * 1 + 0 * 1 * down e ≤ 0) → t ≡ true
    go true k = refl
    go false k = absurd (clash (m * up e * 1) (0 * 1 * down e) (zeros (m * up e * 1) (0 * 1 * down e) (k tt)).0 (zeros (m * up e * 1) (0 * 1 * down e) (k tt)).1 h)

-- the size is the one of x and -x that is not below zero
pub size_chosen : (x : Float) → eq x plus_zero ≡ false → size_of x ≡ cond (lt x plus_zero) (neg x) x
unfolding size_of neg lt of_bits
size_chosen nan z = refl
size_chosen (inf true) z = refl
size_chosen (inf false) z = refl
size_chosen (fin true m e) z = pick (lt (fin true m e) plus_zero) (fin false m e) (fin true m e) (lt_neg m e z)
size_chosen (fin false m e) z = drop (lt (fin false m e) plus_zero) (fin true m e) (fin false m e) (lt_pos m e)

-- ---- for `turned`
abbrev IsTurn : Float → ℕ → Bool → Float → Type 0
IsTurn a k b r = (k ≡ turn_k a) × (b ≡ turn_below a) × (r ≡ turn_rest a)

pub turn_small : (a : Float) → le a quarter_pi ≡ true → IsTurn a 0 false a
unfolding turn_k turn_below turn_rest
turn_small a t = (pick (le a quarter_pi) _ _ t, pick (le a quarter_pi) _ _ t, pick (le a quarter_pi) _ _ t)

module _ (a : Float) (t : le a quarter_pi ≡ false) (x k b p : ℕ) (x-is : x ≡ count a) (k_is : k ≡ turns x) (b_is : b ≡ base k) (p-is : p ≡ part k) where
  k_all : k ≡ turns (count a)
  k_all = k_is ∙ ap turns x-is

  b_all : b ≡ base (turns (count a))
  b_all = b_is ∙ ap base k_all

  p_all : p ≡ part (turns (count a))
  p_all = p-is ∙ ap part k_all

  k_model : k ≡ turn_k a
  unfolding turn_k
  k_model = k_all ∙ drop (le a quarter_pi) _ _ t

  side_true : x ≤ b → leb (count a) (base (turns (count a))) ≡ true
  side_true l = go (leb (count a) (base (turns (count a)))) (nleb→lt (count a) (base (turns (count a))))
    where
      go : (s : Bool) → (T (not s) → base (turns (count a)) < count a) → s ≡ true
      go true h = refl
      go false h = absurd (not-le_of_lt (subst (λ (z : ℕ). base (turns (count a)) < z) (sym x-is) (h tt)) (subst (λ (z : ℕ). x ≤ z) b_all l))

  side_false : b < x → leb (count a) (base (turns (count a))) ≡ false
  side_false l = go (leb (count a) (base (turns (count a)))) (leb→le (count a) (base (turns (count a))))
    where
      go : (s : Bool) → (T s → count a ≤ base (turns (count a))) → s ≡ false
      go true h = absurd (not-le_of_lt l (subst (λ (z : ℕ). x ≤ z) (sym b_all) (subst (λ (z : ℕ). z ≤ base (turns (count a))) (sym x-is) (h tt))))
      go false h = refl

  pub turn_under : (r : Float) → x ≤ b → r ≡ rest_float ((b - x) * 512 + p) → IsTurn a k true r
  unfolding turn_below turn_rest rest
  turn_under r l e = (
    k_model,
    sym (side_true l) ∙ drop (le a quarter_pi) _ _ t,
    e ∙ ap (λ (z : ℕ). rest_float ((z - x) * 512 + p)) b_all ∙ ap (λ (z : ℕ). rest_float ((base (turns (count a)) - z) * 512 + p)) x-is ∙ ap (λ (z : ℕ). rest_float ((base (turns (count a)) - count a) * 512 + z)) p_all
        ∙ ap rest_float (pick (leb (count a) (base (turns (count a)))) _ _ (side_true l)) ∙ drop (le a quarter_pi) _ _ t,
  )

  pub turn_over : (r : Float) → b < x → r ≡ rest_float ((x - b) * 512 - p) → IsTurn a k false r
  unfolding turn_below turn_rest rest
  turn_over r l e = (
    k_model,
    sym (side_false l) ∙ drop (le a quarter_pi) _ _ t,
    e ∙ ap (λ (z : ℕ). rest_float ((x - z) * 512 - p)) b_all ∙ ap (λ (z : ℕ). rest_float ((z - base (turns (count a))) * 512 - p)) x-is ∙ ap (λ (z : ℕ). rest_float ((count a - base (turns (count a))) * 512 - z)) p_all
        ∙ ap rest_float (drop (leb (count a) (base (turns (count a)))) _ _ (side_false l)) ∙ drop (le a quarter_pi) _ _ t,
  )

-- ---- for what is made of a turn
pub wave_is : (j : ℕ) (a : Float) (k : ℕ) (b : Bool) (r y : Float) → k ≡ turn_k a → b ≡ turn_below a → r ≡ turn_rest a → y ≡ placed ((k + j) % 4) b (sine_kernel r) (cosine_kernel r) → y ≡ wave_float j a
unfolding wave_float
wave_is j a k b r y K B R e =
    e
    ∙ ap (λ (z : ℕ). placed ((z + j) % 4) b (sine_kernel r) (cosine_kernel r)) K
    ∙ ap (λ (z : Bool). placed ((turn_k a + j) % 4) z (sine_kernel r) (cosine_kernel r)) B
    ∙ ap (λ (z : Float). placed ((turn_k a + j) % 4) (turn_below a) (sine_kernel z) (cosine_kernel z)) R

pub wave_is_first : (a : Float) (k : ℕ) (b : Bool) (r y : Float) → k ≡ turn_k a → b ≡ turn_below a → r ≡ turn_rest a → y ≡ placed (k % 4) b (sine_kernel r) (cosine_kernel r) → y ≡ wave_float 0 a
wave_is_first a k b r y K B R e = wave_is 0 a k b r y K B R (e ∙ ap (λ (z : ℕ). placed (z % 4) b (sine_kernel r) (cosine_kernel r)) (none k))
  where
    none : (k : ℕ) → k ≡ k + 0
    none k = omega arith

-- an even k places the sine, and an odd k the cosine
pub placed_even : (k : ℕ) (b : Bool) (s c d : Float) → k % 2 ≡ 0 → placed (k % 4) b s c ≡ placed (k % 4) b s d
placed_even k b s c d h = elim (quarters k) [
  | inl e ↦ subst (λ (q : ℕ). placed q b s c ≡ placed q b s d) (sym e) refl
  | inr u ↦ elim u [
    | inl e ↦ absurd (clash k h e)
    | inr v ↦ elim v [
      | inl e ↦ subst (λ (q : ℕ). placed q b s c ≡ placed q b s d) (sym e) refl
      | inr e ↦ absurd (clash' k h e)
    ]
  ]
]
  where
    clash : (k : ℕ) → k % 2 ≡ 0 → k % 4 ≡ 1 → ⊥
    clash k h e = omega arith

    clash' : (k : ℕ) → k % 2 ≡ 0 → k % 4 ≡ 3 → ⊥
    clash' k h e = omega arith

pub placed_odd : (k : ℕ) (b : Bool) (s t c : Float) → ((k % 2 ≡ 0) → ⊥) → placed (k % 4) b s c ≡ placed (k % 4) b t c
placed_odd k b s t c h = elim (quarters k) [
  | inl e ↦ absurd (h (even k e))
  | inr u ↦ elim u [
    | inl e ↦ subst (λ (q : ℕ). placed q b s c ≡ placed q b t c) (sym e) refl
    | inr v ↦ elim v [
      | inl e ↦ absurd (h (even' k e))
      | inr e ↦ subst (λ (q : ℕ). placed q b s c ≡ placed q b t c) (sym e) refl
    ]
  ]
]
  where
    even : (k : ℕ) → k % 4 ≡ 0 → k % 2 ≡ 0
    even k e = omega arith

    even' : (k : ℕ) → k % 4 ≡ 2 → k % 2 ≡ 0
    even' k e = omega arith

-- the sign of each quarter, as `place` has it
pub sign_even : (k : ℕ) (b : Bool) (s c y : Float) → k % 2 ≡ 0 → y ≡ cond b (neg s) s → cond (eqb (k % 4) 2) (neg y) y ≡ placed (k % 4) b s c
sign_even k b s c y h e = elim (quarters k) [
  | inl q ↦ subst (λ (q : ℕ). cond (eqb q 2) (neg y) y ≡ placed q b s c) (sym q) e
  | inr u ↦ elim u [
    | inl q ↦ absurd (clash k h q)
    | inr v ↦ elim v [
      | inl q ↦ subst (λ (q : ℕ). cond (eqb q 2) (neg y) y ≡ placed q b s c) (sym q) (ap neg e ∙ go b)
      | inr q ↦ absurd (clash' k h q)
    ]
  ]
]
  where
    clash : (k : ℕ) → k % 2 ≡ 0 → k % 4 ≡ 1 → ⊥
    clash k h e = omega arith

    clash' : (k : ℕ) → k % 2 ≡ 0 → k % 4 ≡ 3 → ⊥
    clash' k h e = omega arith

    go : (b : Bool) → neg (cond b (neg s) s) ≡ cond b s (neg s)
    go true = neg_neg s
    go false = refl

pub sign_odd : (k : ℕ) (b : Bool) (s c : Float) → ((k % 2 ≡ 0) → ⊥) → cond (eqb (k % 4) 3) (neg c) c ≡ placed (k % 4) b s c
sign_odd k b s c h = elim (quarters k) [
  | inl q ↦ absurd (h (even k q))
  | inr u ↦ elim u [
    | inl q ↦ subst (λ (q : ℕ). cond (eqb q 3) (neg c) c ≡ placed q b s c) (sym q) refl
    | inr v ↦ elim v [
      | inl q ↦ absurd (h (even' k q))
      | inr q ↦ subst (λ (q : ℕ). cond (eqb q 3) (neg c) c ≡ placed q b s c) (sym q) refl
    ]
  ]
]
  where
    even : (k : ℕ) → k % 4 ≡ 0 → k % 2 ≡ 0
    even k e = omega arith

    even' : (k : ℕ) → k % 4 ≡ 2 → k % 2 ≡ 0
    even' k e = omega arith

-- ---- for the tests of x
module _ (x : Float) where
  pub sine_is_zero : eq x plus_zero ≡ true → x ≡ sine_float x
  unfolding sine_float
  sine_is_zero h = pick (eq x plus_zero) _ _ h

  pub cosine_is_zero : eq x plus_zero ≡ true → one ≡ cosine_float x
  unfolding cosine_float
  cosine_is_zero h = pick (eq x plus_zero) _ _ h

  module _ (n : eq x plus_zero ≡ false) where
    pub sine_is : (a y : Float) → a ≡ cond (lt x plus_zero) (neg x) x → y ≡ wave_float 0 a → cond (lt x plus_zero) (neg y) y ≡ sine_float x
    unfolding sine_float
    sine_is a y A e = ap (λ (z : Float). cond (lt x plus_zero) (neg z) z) (e ∙ ap (wave_float 0) A) ∙ go (lt x plus_zero) ∙ drop (eq x plus_zero) x (cond (lt x plus_zero) (neg (wave_float 0 (neg x))) (wave_float 0 x)) n
      where
        go : (b : Bool) → cond b (neg (wave_float 0 (cond b (neg x) x))) (wave_float 0 (cond b (neg x) x)) ≡ cond b (neg (wave_float 0 (neg x))) (wave_float 0 x)
        go true = refl
        go false = refl

    pub cosine_is : (a y : Float) → a ≡ cond (lt x plus_zero) (neg x) x → y ≡ wave_float 1 a → y ≡ cosine_float x
    unfolding cosine_float
    cosine_is a y A e = e ∙ ap (wave_float 1) A ∙ go (lt x plus_zero) ∙ drop (eq x plus_zero) one (cond (lt x plus_zero) (wave_float 1 (neg x)) (wave_float 1 x)) n
      where
        go : (b : Bool) → wave_float 1 (cond b (neg x) x) ≡ cond b (wave_float 1 (neg x)) (wave_float 1 x)
        go true = refl
        go false = refl

-- ---- symmetry, for every finite x
module _ (m : ℕ) (e : ℤ) where
  sine_above : eq (fin false m e) plus_zero ≡ false → wave_float 0 (fin false m e) ≡ sine_float (fin false m e)
  unfolding sine_float
  sine_above h = drop (lt (fin false m e) plus_zero) _ _ (lt_pos m e) ∙ drop (eq (fin false m e) plus_zero) _ _ h

  cosine_above : eq (fin false m e) plus_zero ≡ false → wave_float 1 (fin false m e) ≡ cosine_float (fin false m e)
  unfolding cosine_float
  cosine_above h = drop (lt (fin false m e) plus_zero) _ _ (lt_pos m e) ∙ drop (eq (fin false m e) plus_zero) _ _ h

  sine_below : eq (fin true m e) plus_zero ≡ false → neg (wave_float 0 (neg (fin true m e))) ≡ sine_float (fin true m e)
  unfolding sine_float
  sine_below h = pick (lt (fin true m e) plus_zero) _ _ (lt_neg m e h) ∙ drop (eq (fin true m e) plus_zero) _ _ h

  cosine_below : eq (fin true m e) plus_zero ≡ false → wave_float 1 (neg (fin true m e)) ≡ cosine_float (fin true m e)
  unfolding cosine_float
  cosine_below h = pick (lt (fin true m e) plus_zero) _ _ (lt_neg m e h) ∙ drop (eq (fin true m e) plus_zero) _ _ h

pub sine_odd_finite : (s : Bool) (m : ℕ) (e : ℤ) → sine_float (neg (fin s m e)) ≡ neg (sine_float (fin s m e))
unfolding neg
sine_odd_finite s m e = go s (split (eq (fin s m e) plus_zero))
  where
    go : (s : Bool) → (eq (fin s m e) plus_zero ≡ true) ⊎ (eq (fin s m e) plus_zero ≡ false) → sine_float (neg (fin s m e)) ≡ neg (sine_float (fin s m e))
    go true (inl z) = sym (sine_is_zero (fin false m e) (swap true m e ∙ z)) ∙ ap neg (sine_is_zero (fin true m e) z)
    go true (inr z) = sym (sine_above m e (swap true m e ∙ z)) ∙ sym (neg_neg (wave_float 0 (fin false m e))) ∙ ap neg (sine_below m e z)
    go false (inl z) = sym (sine_is_zero (fin true m e) (swap false m e ∙ z)) ∙ ap neg (sine_is_zero (fin false m e) z)
    go false (inr z) = sym (sine_below m e (swap false m e ∙ z)) ∙ ap neg (sine_above m e z)

pub cosine_even_finite : (s : Bool) (m : ℕ) (e : ℤ) → cosine_float (neg (fin s m e)) ≡ cosine_float (fin s m e)
unfolding neg
cosine_even_finite s m e = go s (split (eq (fin s m e) plus_zero))
  where
    go : (s : Bool) → (eq (fin s m e) plus_zero ≡ true) ⊎ (eq (fin s m e) plus_zero ≡ false) → cosine_float (neg (fin s m e)) ≡ cosine_float (fin s m e)
    go true (inl z) = sym (cosine_is_zero (fin false m e) (swap true m e ∙ z)) ∙ cosine_is_zero (fin true m e) z
    go true (inr z) = sym (cosine_above m e (swap true m e ∙ z)) ∙ cosine_below m e z
    go false (inl z) = sym (cosine_is_zero (fin true m e) (swap false m e ∙ z)) ∙ cosine_is_zero (fin false m e) z
    go false (inr z) = sym (cosine_below m e (swap false m e ∙ z)) ∙ cosine_above m e z
