-- Two angles of at most 36,000 degrees differ, in floats, by at most 72,000: of every two floats, doubles or not. So
-- every wind of a path that passes the checks is counted.
use Rattle.std.proofs.Common.{◌≡◌, ℕ, zero, suc, ◌+◌, ◌-◌, ◌*◌, ◌^◌, ◌<◌, ◌≤◌, Bool, true, false, cond, not, ◌&&◌, ltb, ℤ, pos, sym, refl, ap, ◌∙◌, mul-pos, arith}
use mathlib.Core.Bool.{beq, false≢true}
use lib.Ieee.{Float, nan, inf, fin, binary64, up, down, odd, units, round, neg, sum, add, sub, le, of_bits}
use lib.Ieee.Bits.{is_true}
use lib.Ieee.Fits.{down_pos, round_is}
use lib.Ieee.Order.{round_mono}
use Rattle.float.specs.Helpers.{size_of}
use Rattle.float.proofs.Signed.{round_neg}
use Rattle.float.proofs.Sizes.{size_neg}
use Rattle.chain.specs.Check.{within, most_turned}
use Rattle.job.specs.Cable.{most_wound}
use Rattle.job.proofs.Turns.{at_most, no_nan, no_inf}

-- ---- the size of what is rounded
odd_size : (d q k l : ℕ) → size_of (odd d false q k l) ≡ odd d false q k l
unfolding odd size_of
odd_size d zero k l = refl
odd_size d (suc q) k l = refl

units_size : (q k : ℕ) → size_of (units binary64 false q k) ≡ units binary64 false q k
unfolding units
units_size q k = go (ltb (q * 2 ^ k) (2 ^ 2098))
  where
    go : (b : Bool) → size_of (cond b (odd 54 false q k 1074) (inf false)) ≡ cond b (odd 54 false q k 1074) (inf false)
    go true = odd_size 54 q k 1074
    go false = unfold size_of in refl

plain_size : (x c : ℕ) → size_of (round binary64 false x c) ≡ round binary64 false x c
plain_size x c = ap size_of (round_is binary64 false x c) ∙ units_size _ _ ∙ sym (round_is binary64 false x c)

size_round : (s : Bool) (x c : ℕ) → size_of (round binary64 s x c) ≡ round binary64 false x c
size_round false x c = plain_size x c
size_round true x c = ap size_of (round_neg x c) ∙ size_neg (round binary64 false x c) ∙ plain_size x c

rounded : (s : Bool) (x c : ℕ) → 0 < c → x ≤ 72000 * c → le (size_of (round binary64 s x c)) most_wound ≡ true
rounded s x c p h = ap (λ (z : Float). le z most_wound) (size_round s x c) ∙ ap (le (round binary64 false x c)) (sym whole) ∙ is_true _ (round_mono binary64 x c 72000 1 p (omega arith) (omega (arith, h)))
  where
    whole : round binary64 false 72000 1 ≡ most_wound
    whole = unfold round in unfold of_bits in refl

summed : (s t : Bool) (a b c : ℕ) → 0 < c → a ≤ 36000 * c → b ≤ 36000 * c → le (size_of (sum binary64 s a t b c)) most_wound ≡ true
unfolding sum
summed s t a b c p h l = go (beq s t) (ltb a b)
  where
    go : (x y : Bool) → le (size_of (cond x (round binary64 s (a + b) c) (cond y (round binary64 t (b - a) c) (round binary64 (s && ltb b a) (a - b) c)))) most_wound ≡ true
    go true y = rounded s (a + b) c p (omega (arith, h, l))
    go false true = rounded t (b - a) c p (omega (arith, l))
    go false false = rounded (s && ltb b a) (a - b) c p (omega (arith, h))

-- ---- an angle of at most 36,000 degrees
turned : most_turned ≡ fin false 1125 (pos 5)
turned = unfold of_bits in refl

turned_most : (m : ℕ) (e : ℤ) → le (fin false m e) most_turned ≡ true → m * up e ≤ 36000 * down e
turned_most m e h = at_most 1125 5 m e (rw turned at h)

cross : (u v d : ℕ) → u ≤ 36000 * v → u * d ≤ 36000 * (v * d)
cross u v d h = native.Mathlib.Nat.le_trans (native.Mathlib.Nat.mul-le-mul_right d h) (omega arith)

cross' : (u v d : ℕ) → u ≤ 36000 * v → u * d ≤ 36000 * (d * v)
cross' u v d h = native.Mathlib.Nat.le_trans (native.Mathlib.Nat.mul-le-mul_right d h) (omega arith)

pub wind_within : (a r : Float) → within a most_turned ≡ true → within r most_turned ≡ true → within (sub binary64 a r) most_wound ≡ true
unfolding within size_of
wind_within nan r h l = absurd (false≢true (sym (no_nan most_turned) ∙ h))
wind_within (inf s) r h l = absurd (false≢true (sym (no_inf 1125 5) ∙ rw turned at h))
wind_within (fin s m e) nan h l = absurd (false≢true (sym (no_nan most_turned) ∙ l))
wind_within (fin s m e) (inf t) h l = absurd (false≢true (sym (no_inf 1125 5) ∙ rw turned at l))
wind_within (fin s m e) (fin t n d) h l =
    ap (λ (z : Float). le (size_of z) most_wound) opened
    ∙ summed s (not t) (m * up e * down d) (n * up d * down e) (down e * down d) (mul-pos (down_pos e) (down_pos d)) (cross (m * up e) (down e) (down d) (turned_most m e h)) (cross' (n * up d) (down d) (down e) (turned_most n d l))
  where
    opened : sub binary64 (fin s m e) (fin t n d) ≡ sum binary64 s (m * up e * down d) (not t) (n * up d * down e) (down e * down d)
    opened = unfold sub in unfold add in unfold neg in refl
