-- The steps of the code in degrees, in its order: what the proofs of `degrees.rt` cite. Assumes nothing.
use Rattle.std.proofs.Common.{◌≡◌, ℕ, ◌+◌, ◌-◌, ◌*◌, ◌/◌, ◌%◌, ◌^◌, ◌<◌, ◌≤◌, Bool, true, false, cond, T, ltb, pos, sym, refl, ap, ◌∙◌, subst, lt_of_le_of_lt, le_of_lt, arith, lit<, le-ltb, lt-ltb}
use lib.Ieee.{Float, nan, inf, fin, binary64, mul, neg, of_bits, lt, eq, fits}
use Rattle.trig.specs.Kernel.{plus_zero, one, sine_kernel, cosine_kernel}
use Rattle.trig.specs.Waves.{placed}
use Rattle.float.specs.Helpers.{to_radians}
use Rattle.trig.specs.Degrees.{plain}
use Rattle.trig.specs.DegreeSteps.{quarter_turns, quarter_turn, eighth_turn, in_units, forty_five, radians_of, beside, degree_k, degree_below, degree_rest, UpToWidest, degree_float, sine_degrees, cosine_degrees}
use Rattle.trig.proofs.Choices.{pick, drop}
use Rattle.trig.proofs.Scaling.{whole_low, whole_high}
use Rattle.trig.proofs.DegreeFloats.{times47, count, count_is, beside_few}

abbrev two47 : Float
two47 = of_bits binary64 0x42e0_0000_0000_0000

times_is : (a : Float) → mul binary64 a two47 ≡ times47 a
unfolding of_bits times47
times_is a = refl

pub in_range : (a : Float) → UpToWidest a → T (fits binary64 a) → lt a forty_five ≡ false → T (lt (fin true 1 (pos 0)) (mul binary64 a two47)) × T (lt (mul binary64 a two47) (fin false 1 (pos 64)))
in_range nan h f t = absurd h
in_range (inf s) h f t = absurd h
in_range (fin true m e) h f t = absurd h
in_range (fin false m e) h f t =
    let g = count 0 m e f h t in
    subst (λ (y : Float). T (lt (fin true 1 (pos 0)) y) × T (lt y (fin false 1 (pos 64)))) (sym (times_is (fin false m e)))
    (whole_low (times47 (fin false m e)) g.x g.value, whole_high (times47 (fin false m e)) g.x g.value (lt_of_le_of_lt g.most (lit< tt)))

pub at_most : (a : Float) → UpToWidest a → T (fits binary64 a) → lt a forty_five ≡ false → (x : ℕ) → x ≡ in_units a → x ≤ 45000 * 2 ^ 47
at_most nan h f t x e = absurd h
at_most (inf s) h f t x e = absurd h
at_most (fin true m e') h f t x e = absurd h
at_most (fin false m e') h f t x e = subst (λ (z : ℕ). z ≤ 45000 * 2 ^ 47) (sym (e ∙ count_is 0 m e' f h t)) (count 0 m e' f h t).most

pub k_few : (x k : ℕ) → x ≤ 45000 * 2 ^ 47 → k ≡ quarter_turns x → k ≤ 510
unfolding quarter_turns
k_few x k h e = subst (λ (z : ℕ). z ≤ 510) (sym e) (go x h)
  where
    go : (x : ℕ) → x ≤ 45000 * 2 ^ 47 → (x + eighth_turn) / quarter_turn ≤ 510
    go x h = omega arith

abbrev IsTurn : Float → ℕ → Bool → Float → Type 0
IsTurn a k b r = (k ≡ degree_k a) × (b ≡ degree_below a) × (r ≡ degree_rest a)

pub turn_small : (a r : Float) → lt a forty_five ≡ true → r ≡ to_radians a → IsTurn a 0 false r
unfolding degree_k degree_below degree_rest
turn_small a r t e = (pick (lt a forty_five) _ _ t, pick (lt a forty_five) _ _ t, e ∙ pick (lt a forty_five) _ _ t)

module _ (a : Float) (t : lt a forty_five ≡ false) (x k : ℕ) (x-is : x ≡ in_units a) (k_is : k ≡ quarter_turns x) where
  k_all : k ≡ quarter_turns (in_units a)
  k_all = k_is ∙ ap quarter_turns x-is

  turned : (b : Bool) (r : Float) → ltb x (k * quarter_turn) ≡ b → r ≡ radians_of (beside b x (k * quarter_turn)) → IsTurn a k b r
  unfolding degree_k degree_below degree_rest
  turned b r p q =
      let c : ltb (in_units a) (quarter_turns (in_units a) * quarter_turn) ≡ b = sym (ap (λ (z : ℕ). ltb z (k * quarter_turn)) x-is ∙ ap (λ (z : ℕ). ltb (in_units a) (z * quarter_turn)) k_all) ∙ p in (
        k_all ∙ drop (lt a forty_five) _ _ t,
        sym c ∙ drop (lt a forty_five) _ _ t,
        q ∙ ap (λ (z : ℕ). radians_of (beside b z (k * quarter_turn))) x-is ∙ ap (λ (z : ℕ). radians_of (beside b (in_units a) (z * quarter_turn))) k_all ∙ ap (λ (z : Bool). radians_of (beside z (in_units a) (quarter_turns (in_units a) * quarter_turn))) (sym c) ∙ drop (lt a forty_five) _ _ t,
      )

  pub turn_under : (r : Float) → x < k * quarter_turn → r ≡ radians_of (k * quarter_turn - x) → IsTurn a k true r
  turn_under r h e = turned true r (lt-ltb x (k * quarter_turn) h) e

  pub turn_over : (r : Float) → k * quarter_turn ≤ x → r ≡ radians_of (x - k * quarter_turn) → IsTurn a k false r
  turn_over r h e = turned false r (le-ltb x (k * quarter_turn) h) e

pub beside_most : (x k : ℕ) (b : Bool) → k ≡ quarter_turns x → beside b x (k * quarter_turn) ≤ 2 ^ 53
beside_most x k b e = subst (λ (z : ℕ). beside b x (z * quarter_turn) ≤ 2 ^ 53) (sym e) (le_of_lt (beside_few x b))

-- ---- for what is made of a turn
pub degree_is : (j : ℕ) (a : Float) (k : ℕ) (b : Bool) (r y : Float) → k ≡ degree_k a → b ≡ degree_below a → r ≡ degree_rest a → y ≡ placed ((k + j) % 4) b (sine_kernel r) (cosine_kernel r) → y ≡ degree_float j a
unfolding degree_float
degree_is j a k b r y K B R e =
    e
    ∙ ap (λ (z : ℕ). placed ((z + j) % 4) b (sine_kernel r) (cosine_kernel r)) K
    ∙ ap (λ (z : Bool). placed ((degree_k a + j) % 4) z (sine_kernel r) (cosine_kernel r)) B
    ∙ ap (λ (z : Float). placed ((degree_k a + j) % 4) (degree_below a) (sine_kernel z) (cosine_kernel z)) R

pub degree_first : (a : Float) (k : ℕ) (b : Bool) (r y : Float) → k ≡ degree_k a → b ≡ degree_below a → r ≡ degree_rest a → y ≡ placed (k % 4) b (sine_kernel r) (cosine_kernel r) → y ≡ degree_float 0 a
degree_first a k b r y K B R e = degree_is 0 a k b r y K B R (e ∙ ap (λ (z : ℕ). placed (z % 4) b (sine_kernel r) (cosine_kernel r)) (none k))
  where
    none : (k : ℕ) → k ≡ k + 0
    none k = omega arith

module _ (x : Float) where
  pub sine_zero : eq x plus_zero ≡ true → plus_zero ≡ sine_degrees x
  unfolding sine_degrees
  sine_zero h = pick (eq x plus_zero) _ _ h

  pub cosine_zero : eq x plus_zero ≡ true → one ≡ cosine_degrees x
  unfolding cosine_degrees
  cosine_zero h = pick (eq x plus_zero) _ _ h

  module _ (n : eq x plus_zero ≡ false) where
    pub sine_is : (a y z : Float) → a ≡ cond (lt x plus_zero) (neg x) x → y ≡ degree_float 0 a → z ≡ cond (lt x plus_zero) (neg y) y → plain z ≡ sine_degrees x
    unfolding sine_degrees
    sine_is a y z A e g = ap plain (g ∙ ap (λ (w : Float). cond (lt x plus_zero) (neg w) w) (e ∙ ap (degree_float 0) A) ∙ go (lt x plus_zero)) ∙ drop (eq x plus_zero) plus_zero (plain (cond (lt x plus_zero) (neg (degree_float 0 (neg x))) (degree_float 0 x))) n
      where
        go : (b : Bool) → cond b (neg (degree_float 0 (cond b (neg x) x))) (degree_float 0 (cond b (neg x) x)) ≡ cond b (neg (degree_float 0 (neg x))) (degree_float 0 x)
        go true = refl
        go false = refl

    pub cosine_is : (a y : Float) → a ≡ cond (lt x plus_zero) (neg x) x → y ≡ degree_float 1 a → plain y ≡ cosine_degrees x
    unfolding cosine_degrees
    cosine_is a y A e = ap plain (e ∙ ap (degree_float 1) A ∙ go (lt x plus_zero)) ∙ drop (eq x plus_zero) one (plain (cond (lt x plus_zero) (degree_float 1 (neg x)) (degree_float 1 x))) n
      where
        go : (b : Bool) → degree_float 1 (cond b (neg x) x) ≡ cond b (degree_float 1 (neg x)) (degree_float 1 x)
        go true = refl
        go false = refl
