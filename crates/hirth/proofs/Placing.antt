-- The table's pair, placed by the quarter turn, is right at every number of half degrees: within 2 ^ -53 of the sine and the
-- cosine that turning is defined by. Tests over the 720 half degrees of a turn, 40 in each: one test of all meets the checker's
-- bound of steps.
use Rattle.std.proofs.Common.{◌≡◌, ℕ, zero, suc, ◌+◌, ◌-◌, ◌*◌, ◌%◌, ◌^◌, ◌<◌, Bool, true, false, cond, ◌&&◌, T, ltb, leb, ◌⊎◌, sym, subst, inl, inr, le_of_suc-le-suc, not-suc-le-zero, mod-lt, eq-or-lt_of_le, arith, lit<, leb→le, ltb-false, ltb-true}
use Rattle.trig.proofs.Choices.{split}
use lib.Ieee.{Float, nan, inf, fin, up, down, mul, neg, of_int, of_bits, round}
use lib.Ieee.Fits.{and_l, and_r}
use Rattle.trig.specs.Fraction.{Frac, negated, Near, Close}
use Rattle.trig.specs.Angle.{pi_num, pi_den, nearest_k, wave}
use Rattle.trig.specs.Degrees.{degree_wave}
use Rattle.hirth.specs.Teeth.{teeth, tooth_at, entries}
use Rattle.hirth.specs.Turning.{unscaled, quartered, part_turn, half_turns}

-- the test of one value
unfoldable test : ℕ → ℕ → Frac → Bool
test a d f =
    leb (2 ^ 53 * (a * f.over + f.minus * d)) (2 ^ 53 * (f.plus * d) + f.over * d)
    && leb (2 ^ 53 * (f.plus * d)) (2 ^ 53 * (a * f.over + f.minus * d) + f.over * d)

test_close : (a d : ℕ) (f : Frac) → T (test a d f) → Close 53 a d f
unfolding test
test_close a d f h =
    let x = leb (2 ^ 53 * (a * f.over + f.minus * d)) (2 ^ 53 * (f.plus * d) + f.over * d) in
    let y = leb (2 ^ 53 * (f.plus * d)) (2 ^ 53 * (a * f.over + f.minus * d) + f.over * d) in
    record { below = leb→le _ _ (and_l x y h); above = leb→le _ _ (and_r x y h) }

abbrev close : Float → Frac → Bool
close nan f = false
close (inf s) f = false
close (fin s m e) f = test (m * up e) (down e) (cond s (negated f) f)

close_near : (y : Float) (f : Frac) → T (close y f) → Near 53 y f
close_near nan f h = absurd h
close_near (inf s) f h = absurd h
close_near (fin s m e) f h = test_close (m * up e) (down e) (cond s (negated f) f) h

abbrev angle : ℕ → ℕ → Frac
angle j n = wave false j (n * pi_num) (2 * (180 * pi_den))

-- one number of half degrees
abbrev right : ℕ → Bool
right n = close (part_turn n).sine (angle 0 n) && close (part_turn n).cosine (angle 1 n)

-- m of them from n on
abbrev run : ℕ → ℕ → Bool
run n zero = true
run n (suc m) = right (n + m) && run n m

right_0 : T (run 0 40)
unfolding test part_turn quartered unscaled entries teeth tooth_at wave nearest_k pi_num pi_den mul neg of_int of_bits round
right_0 = tt

right_1 : T (run 40 40)
unfolding test part_turn quartered unscaled entries teeth tooth_at wave nearest_k pi_num pi_den mul neg of_int of_bits round
right_1 = tt

right_2 : T (run 80 40)
unfolding test part_turn quartered unscaled entries teeth tooth_at wave nearest_k pi_num pi_den mul neg of_int of_bits round
right_2 = tt

right_3 : T (run 120 40)
unfolding test part_turn quartered unscaled entries teeth tooth_at wave nearest_k pi_num pi_den mul neg of_int of_bits round
right_3 = tt

right_4 : T (run 160 40)
unfolding test part_turn quartered unscaled entries teeth tooth_at wave nearest_k pi_num pi_den mul neg of_int of_bits round
right_4 = tt

right_5 : T (run 200 40)
unfolding test part_turn quartered unscaled entries teeth tooth_at wave nearest_k pi_num pi_den mul neg of_int of_bits round
right_5 = tt

right_6 : T (run 240 40)
unfolding test part_turn quartered unscaled entries teeth tooth_at wave nearest_k pi_num pi_den mul neg of_int of_bits round
right_6 = tt

right_7 : T (run 280 40)
unfolding test part_turn quartered unscaled entries teeth tooth_at wave nearest_k pi_num pi_den mul neg of_int of_bits round
right_7 = tt

right_8 : T (run 320 40)
unfolding test part_turn quartered unscaled entries teeth tooth_at wave nearest_k pi_num pi_den mul neg of_int of_bits round
right_8 = tt

right_9 : T (run 360 40)
unfolding test part_turn quartered unscaled entries teeth tooth_at wave nearest_k pi_num pi_den mul neg of_int of_bits round
right_9 = tt

right_10 : T (run 400 40)
unfolding test part_turn quartered unscaled entries teeth tooth_at wave nearest_k pi_num pi_den mul neg of_int of_bits round
right_10 = tt

right_11 : T (run 440 40)
unfolding test part_turn quartered unscaled entries teeth tooth_at wave nearest_k pi_num pi_den mul neg of_int of_bits round
right_11 = tt

right_12 : T (run 480 40)
unfolding test part_turn quartered unscaled entries teeth tooth_at wave nearest_k pi_num pi_den mul neg of_int of_bits round
right_12 = tt

right_13 : T (run 520 40)
unfolding test part_turn quartered unscaled entries teeth tooth_at wave nearest_k pi_num pi_den mul neg of_int of_bits round
right_13 = tt

right_14 : T (run 560 40)
unfolding test part_turn quartered unscaled entries teeth tooth_at wave nearest_k pi_num pi_den mul neg of_int of_bits round
right_14 = tt

right_15 : T (run 600 40)
unfolding test part_turn quartered unscaled entries teeth tooth_at wave nearest_k pi_num pi_den mul neg of_int of_bits round
right_15 = tt

right_16 : T (run 640 40)
unfolding test part_turn quartered unscaled entries teeth tooth_at wave nearest_k pi_num pi_den mul neg of_int of_bits round
right_16 = tt

right_17 : T (run 680 40)
unfolding test part_turn quartered unscaled entries teeth tooth_at wave nearest_k pi_num pi_den mul neg of_int of_bits round
right_17 = tt

in_run : (n m : ℕ) → T (run n m) → (i : ℕ) → i < m → T (right (n + i))
in_run n zero h i l = absurd (not-suc-le-zero l)
in_run n (suc m) h i l = go (λ q. in_run n m (and_r (right (n + m)) (run n m) h) i q) (eq-or-lt_of_le (le_of_suc-le-suc l))
  where
    go : (i < m → T (right (n + i))) → (i ≡ m) ⊎ (i < m) → T (right (n + i))
    go f (inl e) = subst (λ (j : ℕ). T (right (n + j))) (sym e) (and_l (right (n + m)) (run n m) h)
    go f (inr q) = f q

upto : (n m : ℕ) → ((i : ℕ) → i < n → T (right i)) → T (run n m) → (i : ℕ) → i < n + m → T (right i)
upto n m f h i l = go (split (ltb i n))
  where
    go : (ltb i n ≡ true) ⊎ (ltb i n ≡ false) → T (right i)
    go (inl e) = f i (ltb-true i n e)
    go (inr e) =
        let q = ltb-false i n e in
        let k : n + (i - n) ≡ i = omega arith in
        subst (λ (j : ℕ). T (right j)) k (in_run n m h (i - n) (omega arith))

all_right : (i : ℕ) → i < 720 → T (right i)
all_right = (upto 680 40 (upto 640 40 (upto 600 40 (upto 560 40 (upto 520 40 (upto 480 40 (upto 440 40 (upto 400 40 (upto 360 40 (upto 320 40 (upto 280 40 (upto 240 40 (upto 200 40 (upto 160 40 (upto 120 40 (upto 80 40 (upto 40 40 (upto 0 40 (λ i h. absurd (not-suc-le-zero h)) right_0) right_1) right_2) right_3) right_4) right_5) right_6) right_7) right_8) right_9) right_10) right_11) right_12) right_13) right_14) right_15) right_16) right_17)

part_near : (n : ℕ) → n < 720 → Near 53 (part_turn n).sine (angle 0 n) × Near 53 (part_turn n).cosine (angle 1 n)
part_near n l =
    let h = all_right n l in
    let x = close (part_turn n).sine (angle 0 n) in
    let y = close (part_turn n).cosine (angle 1 n) in
    (close_near (part_turn n).sine (angle 0 n) (and_l x y h), close_near (part_turn n).cosine (angle 1 n) (and_r x y h))

-- R-5's definition at h / 2 degrees
pub half_turns_near : (h : ℕ) → Near 53 (half_turns h).sine (degree_wave false 0 h 2) × Near 53 (half_turns h).cosine (degree_wave false 1 h 2)
unfolding half_turns degree_wave
half_turns_near h = part_near (h % 720) (mod-lt h (lit< tt))
