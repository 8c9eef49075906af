-- The two zeros: which values compare equal to them or below them, and what adding one does. Every law on signs and sizes leans on these.
use Rattle.std.proofs.Common.{◌≡◌, ℕ, zero, suc, ◌+◌, ◌-◌, ◌*◌, ◌<◌, ◌≤◌, Bool, true, false, cond, ◌&&◌, ◌||◌, T, eqb, ltb, ℤ, sym, refl, ap, ◌∙◌, subst, mul-pos, arith, lit<, pow_pos, le-ltb, lt-ltb, eq-eqb, eqb-true}
use mathlib.Core.Bool.{beq}
use native.Mathlib.Nat.{eq_of_mul-eq-mul_right}
use lib.Ieee.{Float, nan, inf, fin, binary64, up, down, round, sum, add, sub, neg, lt, eq, fits, of_bits}
use lib.Ieee.Fits.{up_pos, down_pos, neg-fits}
use lib.Ieee.Bits.{of_bits-fits}
use lib.Ieee.Scale.{round_same}
use Rattle.float.proofs.Rounding.{U_pos}
use Rattle.float.proofs.Units.{held, round_self, one_float}
use Rattle.float.specs.Units.{U, Is}
use Rattle.float.specs.Helpers.{nought}

pub split_and : (x y : Bool) → (x && y) ≡ true → x ≡ true
split_and true y e = refl
split_and false y e = e

pub neg_below : (m : ℕ) (e : ℤ) → lt (fin true (suc m) e) nought ≡ true
unfolding lt of_bits
neg_below m e = lt-ltb 0 (suc m * up e * 1 + 0 * 1 * down e) (go (suc m * up e * 1) (0 * 1 * down e) (mul-pos (mul-pos (above m) (up_pos e)) (lit< tt)))
  where
    above : (m : ℕ) → 0 < suc m
    above m = omega arith

    go : (a b : ℕ) → 0 < a → 0 < a + b
    go a b h = omega arith

pub zero_eq : (s : Bool) (e : ℤ) → eq (fin s zero e) nought ≡ true
unfolding eq of_bits
zero_eq s e = both (eqb (0 * up e * 1) (0 * 1 * down e)) (beq s false) (eqb (0 * up e * 1) 0) (eq-eqb (0 * up e * 1) (0 * 1 * down e) (none (up e) (down e))) (eq-eqb (0 * up e * 1) 0 (none' (up e)))
  where
    none : (u d : ℕ) → 0 * u * 1 ≡ 0 * 1 * d
    none u d = omega arith

    none' : (u : ℕ) → 0 * u * 1 ≡ 0
    none' u = omega arith

    both : (a b c : Bool) → a ≡ true → c ≡ true → (a && (b || c)) ≡ true
    both true true c p q = refl
    both true false c p q = q
    both false b c p q = p

pub below_inf : lt (inf true) nought ≡ true
unfolding lt of_bits
below_inf = refl

pub nought_is : Is nought false 0
unfolding of_bits
nought_is = (refl, go U)
  where
    go : (u : ℕ) → 0 * 1 * u ≡ 0 * 1
    go u = omega arith

pub not_zero : (s : Bool) (m : ℕ) (e : ℤ) → eq (fin s (suc m) e) nought ≡ true → ⊥
unfolding eq of_bits
not_zero s m e h = go (eqb-true (suc m * up e * 1) (0 * 1 * down e) (split_and (eqb (suc m * up e * 1) (0 * 1 * down e)) _ h)) (mul-pos (mul-pos (pos_suc m) (up_pos e)) (pow_pos 0))
  where
    pos_suc : (m : ℕ) → 0 < suc m
    pos_suc m = omega arith

    go : suc m * up e * 1 ≡ 0 * 1 * down e → 0 < suc m * up e * 1 → ⊥
    go p q = last (suc m * up e * 1) (down e) p q
      where
        last : (a d : ℕ) → a ≡ 0 * 1 * d → 0 < a → ⊥
        last a d p q = omega arith

pub nan_eq : false ≡ eq nan nought
unfolding eq
nan_eq = refl

pub inf_eq : (s : Bool) → false ≡ eq (inf s) nought
unfolding eq of_bits
inf_eq s = refl

-- ---- adding a zero
whole : (x : Float) (f : T (fits binary64 x)) (s : Bool) (m : ℕ) (e : ℤ) → x ≡ fin s m e → (A C : ℕ) → 0 < C → A * down e ≡ m * up e * C → round binary64 s A C ≡ x
whole x f s m e i A C P h = subst (λ (z : Float). round binary64 s A C ≡ z) (sym i) (same (subst (λ (z : Float). T (fits binary64 z)) i f))
  where
    same : T (fits binary64 (fin s m e)) → round binary64 s A C ≡ fin s m e
    same t =
        let X = held (fin s m e) t tt in
        round_same binary64 s A C X.v U P U_pos (cross A C (m * up e) (down e) X.v U (down_pos e) h X.is.1)
        ∙ ap (λ (z : Bool). round binary64 z X.v U) X.is.0
        ∙ sym (round_self (fin s m e) t X)
      where
        cross : (A C M d v u : ℕ) → 0 < d → A * d ≡ M * C → M * u ≡ v * d → A * u ≡ v * C
        cross A C M d v u D e f = eq_of_mul-eq-mul_right d D (A * u) (v * C) (go (ap (λ (z : ℕ). z * u) e) (ap (λ (z : ℕ). z * C) f))
          where
            go : A * d * u ≡ M * C * u → M * u * C ≡ v * d * C → A * u * d ≡ v * C * d
            go a b = omega arith

over : (e : ℤ) → 0 < down e * 1
over e = mul-pos (down_pos e) (lit< tt)

least : (a d : ℕ) → 0 * 1 * d ≤ a * 1
least a d = omega arith

sum_flat : (a d : ℕ) → (a * 1 + 0 * 1 * d) * d ≡ a * (d * 1)
sum_flat a d = omega arith

difference_flat : (a d : ℕ) → (a * 1 - 0 * 1 * d) * d ≡ a * (d * 1)
difference_flat a d = ap (λ (z : ℕ). z * d) (left a d) ∙ one_more a d
  where
    left : (a d : ℕ) → a * 1 - 0 * 1 * d ≡ a
    left a d = omega arith

    one_more : (a d : ℕ) → a * d ≡ a * (d * 1)
    one_more a d = omega arith

-- x + -0.0 is x, whatever x is
pub add_minus_zero : (x : Float) → T (fits binary64 x) → add binary64 x (neg nought) ≡ x
add_minus_zero nan t = unfold add in refl
add_minus_zero (inf s) t = unfold add in unfold of_bits in unfold neg in refl
add_minus_zero (fin true m e) t = opened ∙ whole (fin true m e) t true m e refl (m * up e * 1 + 0 * 1 * down e) (down e * 1) (over e) (sum_flat (m * up e) (down e))
  where
    opened : add binary64 (fin true m e) (neg nought) ≡ round binary64 true (m * up e * 1 + 0 * 1 * down e) (down e * 1)
    opened = unfold add in unfold sum in unfold of_bits in unfold neg in refl
add_minus_zero (fin false m e) t =
    opened ∙ ap (λ (b : Bool). cond b (round binary64 true (0 * 1 * down e - m * up e * 1) (down e * 1)) (round binary64 false (m * up e * 1 - 0 * 1 * down e) (down e * 1))) (le-ltb (m * up e * 1) (0 * 1 * down e) (least (m * up e) (down e)))
    ∙ whole (fin false m e) t false m e refl (m * up e * 1 - 0 * 1 * down e) (down e * 1) (over e) (difference_flat (m * up e) (down e))
  where
    opened : add binary64 (fin false m e) (neg nought) ≡ cond (ltb (m * up e * 1) (0 * 1 * down e)) (round binary64 true (0 * 1 * down e - m * up e * 1) (down e * 1)) (round binary64 false (m * up e * 1 - 0 * 1 * down e) (down e * 1))
    opened = unfold add in unfold sum in unfold of_bits in unfold neg in refl

-- x - 0.0 is x, whatever x is
pub sub_zero : (x : Float) → T (fits binary64 x) → sub binary64 x nought ≡ x
unfolding sub
sub_zero x t = add_minus_zero x t

-- x + 0.0 is x, but for x = -0.0, where it is +0.0
pub minus_zero_add : add binary64 (neg nought) nought ≡ nought
unfolding add sum round neg of_bits
minus_zero_add = refl

pub add_zero : (x : Float) → T (fits binary64 x) → (x ≡ neg nought → ⊥) → add binary64 x nought ≡ x
add_zero nan t h = unfold add in refl
add_zero (inf s) t h = unfold add in unfold of_bits in refl
add_zero (fin false m e) t h = opened ∙ whole (fin false m e) t false m e refl (m * up e * 1 + 0 * 1 * down e) (down e * 1) (over e) (sum_flat (m * up e) (down e))
  where
    opened : add binary64 (fin false m e) nought ≡ round binary64 false (m * up e * 1 + 0 * 1 * down e) (down e * 1)
    opened = unfold add in unfold sum in unfold of_bits in refl
add_zero (fin true zero e) t h = absurd (h (one_float (fin true zero e) (neg nought) true 0 t (neg-fits binary64 nought (of_bits-fits binary64 0)) (refl, flat (up e) U (down e)) minus_zero_is))
  where
    flat : (a u d : ℕ) → 0 * a * u ≡ 0 * d
    flat a u d = omega arith

    minus_zero_is : Is (neg nought) true 0
    minus_zero_is = unfold of_bits in unfold neg in (refl, last U)
      where
        last : (u : ℕ) → 0 * 1 * u ≡ 0 * 1
        last u = omega arith
add_zero (fin true (suc m) e) t h =
    opened
    ∙ ap (λ (b : Bool). cond b (round binary64 false (0 * 1 * down e - suc m * up e * 1) (down e * 1)) (round binary64 (ltb (0 * 1 * down e) (suc m * up e * 1)) (suc m * up e * 1 - 0 * 1 * down e) (down e * 1))) (le-ltb (suc m * up e * 1) (0 * 1 * down e) (least (suc m * up e) (down e)))
    ∙ ap (λ (b : Bool). round binary64 b (suc m * up e * 1 - 0 * 1 * down e) (down e * 1)) (lt-ltb (0 * 1 * down e) (suc m * up e * 1) (more (suc m * up e) (down e) (mul-pos (suc_pos m) (up_pos e))))
    ∙ whole (fin true (suc m) e) t true (suc m) e refl (suc m * up e * 1 - 0 * 1 * down e) (down e * 1) (over e) (difference_flat (suc m * up e) (down e))
  where
    suc_pos : (m : ℕ) → 0 < suc m
    suc_pos m = omega arith

    more : (a d : ℕ) → 0 < a → 0 * 1 * d < a * 1
    more a d h = omega arith

    opened : add binary64 (fin true (suc m) e) nought ≡ cond (ltb (suc m * up e * 1) (0 * 1 * down e)) (round binary64 false (0 * 1 * down e - suc m * up e * 1) (down e * 1)) (round binary64 (ltb (0 * 1 * down e) (suc m * up e * 1)) (suc m * up e * 1 - 0 * 1 * down e) (down e * 1))
    opened = unfold add in unfold sum in unfold of_bits in refl
