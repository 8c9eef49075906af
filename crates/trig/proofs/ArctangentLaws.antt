-- What `arctangent` answers is right, for every y and x: each step of specs/Arctangent.antt in turn. And it is odd in y, in every bit. Assumes nothing.
use Rattle.std.proofs.Common.{◌≡◌, ℕ, ◌+◌, ◌-◌, ◌/◌, ◌≤◌, Bool, true, false, cond, not, ◌&&◌, T, ltb, ◌⊎◌, ℤ, sym, refl, ap, ◌∙◌, inl, inr, true≢false, ltb→lt, nltb→le}
use lib.Ieee.{Float, fin, binary64, div, neg, of_bits, le, lt, eq, fits}
use lib.Ieee.Fits.{add-fits, mul-fits, neg-fits}
use Rattle.std.specs.Prelude.{None, Some}
use Rattle.float.proofs.Order.{neg_neg}
use Rattle.trig.specs.Kernel.{plus_zero, one}
use Rattle.trig.specs.Reduction.{quarter_pi}
use lib.Ieee.Scale.{finite}
use Rattle.float.specs.Helpers.{negative}
use Rattle.trig.specs.Direction.{Direction}
use Rattle.trig.specs.Arctangent.{arc, start_float, grid_float, passes, grid_angle, rise_float, lean_float, back_float, flat_float, ratio_float, right_float, left_float, pi_float, upper_float, level_float, angle_float, arctangent_of, ArctangentAnswer}
use Rattle.trig.proofs.Choices.{not_true, is_true, split, pick, drop, chosen}
use Rattle.trig.proofs.WaveError.{is_zero, Zero}
use Rattle.trig.proofs.WaveSteps.{swap, lt_pos, lt_neg}
use Rattle.trig.proofs.GridAngle.{Tangent, val}
use Rattle.trig.proofs.Bisection.{grid_right}
use Rattle.trig.proofs.Cells.{Lands, rise_least, rise_most, lean_least, lean_most, back_least, back_most, lands_steps}
use Rattle.trig.proofs.Quadrants.{Aimed}
use Rattle.trig.proofs.CandidateCheck.{flat_passed}
use Rattle.trig.proofs.DirectionLaws.{Up, Proper, Ratio, Upward, ratio_below, ratio_one, aimed, proper_le, proper_gt, by_flat, by_rise, by_lean, by_back, by_half, by_left, up_neg, up_above, direction_up, direction_down, direction_still, level_minus, level_plus}

-- ---- the steps
ratio_right : (a b : Float) → Proper a b → Ratio a b (ratio_float a b)
unfolding ratio_float
ratio_right a b p = chosen (Ratio a b) (le (div binary64 a b) one) _ _ (ratio_below a b p) (ratio_one a b p)

module _ (i : ℕ) (small : i ≤ 7074237752028440) where
  rise_right : Lands 1 true i (rise_float i)
  unfolding rise_float
  rise_right =
      chosen (Lands 1 true i) (ltb ((14148475504056880 - i) / 4) 1768559438007111) _ _ (λ h. rise_least i small (ltb→lt _ _ (is_true (ltb ((14148475504056880 - i) / 4) 1768559438007111) h)))
      (λ h. rise_most i small (nltb→le _ _ (not_true (ltb ((14148475504056880 - i) / 4) 1768559438007111) h)))

  lean_right : Lands 1 false i (lean_float i)
  unfolding lean_float
  lean_right =
      chosen (Lands 1 false i) (ltb 5305678314021330 ((14148475504056880 + i) / 4 + 1)) _ _ (λ h. lean_most i small (ltb→lt _ _ (is_true (ltb 5305678314021330 ((14148475504056880 + i) / 4 + 1)) h)))
      (λ h. lean_least i small (nltb→le _ _ (not_true (ltb 5305678314021330 ((14148475504056880 + i) / 4 + 1)) h)))

  back_right : Lands 2 true i (back_float i)
  unfolding back_float
  back_right =
      chosen (Lands 2 true i) (ltb ((28296951008113761 - i) / 4) 5305678314021331) _ _ (λ h. back_least i small (ltb→lt _ _ (is_true (ltb ((28296951008113761 - i) / 4) 5305678314021331) h)))
      (λ h. back_most i small (nltb→le _ _ (not_true (ltb ((28296951008113761 - i) / 4) 5305678314021331) h)))

pub start_fits : (t : Float) → T (fits binary64 (start_float t))
unfolding start_float arc
start_fits t = chosen (λ (y : Float). T (fits binary64 y)) (lt (of_bits binary64 0x3fda_8279_99fc_ef32) t) _ _ (λ h. add-fits binary64 _ _) (λ h. mul-fits binary64 _ _)

module _ (t : Float) (g : Tangent t) where
  coarse_right : Aimed (val t) 0 false (grid_float (grid_angle t))
  coarse_right = let a = grid_right t g in aimed t 0 (grid_angle t) false (grid_float (grid_angle t)) g a (lands_steps (grid_angle t) a.small)

  flat_right : Aimed (val t) 0 false (flat_float t)
  unfolding flat_float
  flat_right =
      chosen (Aimed (val t) 0 false) (lt plus_zero (start_float t)) _ _
      (λ p. chosen (Aimed (val t) 0 false) (le (start_float t) quarter_pi) _ _
      (λ q. chosen (Aimed (val t) 0 false) (passes t (start_float t)) _ _ (λ h. flat_passed t (start_float t) g (start_fits t) p q h) (λ h. coarse_right))
      (λ q. coarse_right))
      (λ p. coarse_right)

  cell_right : (k : ℕ) (b : Bool) (r : Float) → ((small : grid_angle t ≤ 7074237752028440) → Lands k b (grid_angle t) r) → Aimed (val t) k b r
  cell_right k b r l = let a = grid_right t g in aimed t k (grid_angle t) b r g a (l a.small)

-- ---- y above zero
module _ (y x : Float) (Y : Up y) (X : Up x) (f : T (fits binary64 y)) (g : T (fits binary64 x)) where
  right_right : Upward y x (right_float y x)
  unfolding right_float
  right_right =
      chosen (Upward y x) (le y x) _ _
      (λ h. let p = proper_le y x Y X f g h in let q = ratio_right y x p in by_flat y x (ratio_float y x) (flat_float (ratio_float y x)) Y X p q (flat_right (ratio_float y x) q.good))
      (λ h. let p = proper_gt y x Y X f g h in let q = ratio_right x y p in by_rise y x (ratio_float x y) (rise_float (grid_angle (ratio_float x y))) Y X p q (cell_right (ratio_float x y) q.good 1 true (rise_float (grid_angle (ratio_float x y))) (rise_right (grid_angle (ratio_float x y)))))

  left_right : Upward y (neg x) (left_float y x)
  unfolding left_float
  left_right =
      chosen (Upward y (neg x)) (le x y) _ _
      (λ h. let p = proper_le x y X Y g f h in let q = ratio_right x y p in by_lean y x (ratio_float x y) (lean_float (grid_angle (ratio_float x y))) Y X p q (cell_right (ratio_float x y) q.good 1 false (lean_float (grid_angle (ratio_float x y))) (lean_right (grid_angle (ratio_float x y)))))
      (λ h. let p = proper_gt x y X Y g f h in let q = ratio_right y x p in by_back y x (ratio_float y x) (back_float (grid_angle (ratio_float y x))) Y X p q (cell_right (ratio_float y x) q.good 2 true (back_float (grid_angle (ratio_float y x))) (back_right (grid_angle (ratio_float y x)))))

upper_right : (y x : Float) → Up y → finite x ≡ true → T (fits binary64 y) → T (fits binary64 x) → Upward y x (upper_float y x)
unfolding upper_float
upper_right y x Y F f g =
    chosen (Upward y x) (eq x plus_zero) _ _ (λ z. by_half y x Y f (is_zero x z))
    (λ z. chosen (Upward y x) (lt x plus_zero) _ _ (λ l. by_left y x (left_float y (neg x)) (left_right y (neg x) Y (up_neg x F l) f (neg-fits binary64 x g))) (λ l. right_right y x Y (up_above x F z l) f g))

level_right : (y x : Float) → Zero y → finite x ≡ true → T (fits binary64 y) → T (fits binary64 x) → Direction y x (level_float y x)
unfolding level_float
level_right y x z F f g =
    chosen (Direction y x) (negative x) _ _ (λ n. chosen (Direction y x) (negative y) _ _ (λ m. level_minus y x z g F n m) (λ m. level_plus y x z g F n m))
    (λ n. direction_still y x z f g F n)

pub angle_right : (y x : Float) → finite y ≡ true → finite x ≡ true → T (fits binary64 y) → T (fits binary64 x) → Direction y x (angle_float y x)
unfolding angle_float
angle_right y x E F f g =
    chosen (Direction y x) (eq y plus_zero) _ _ (λ z. level_right y x (is_zero y z) F f g)
    (λ z. chosen (Direction y x) (lt y plus_zero) _ _
    (λ l. direction_down y x (upper_float (neg y) x) (up_neg y E l) (upper_right (neg y) x (up_neg y E l) F (neg-fits binary64 y f) g))
    (λ l. direction_up y x (upper_float y x) (up_above y E z l) (upper_right y x (up_above y E z l) F f g)))

-- ---- the answer
not_not : (b : Bool) → not b ≡ false → b ≡ true
not_not true e = refl
not_not false e = absurd (true≢false e)

not_so : (b : Bool) → not b ≡ true → b ≡ false
not_so true e = absurd (true≢false (sym e))
not_so false e = refl

and_false : (b : Bool) → (b && false) ≡ false
and_false true = refl
and_false false = refl

pub arctangent_answer : (y x : Float) → T (fits binary64 y) → T (fits binary64 x) → ArctangentAnswer y x (arctangent_of y x)
unfolding arctangent_of
arctangent_answer y x f g =
    chosen (ArctangentAnswer y x) (not (finite y)) _ _ (λ n. ap (λ (b : Bool). b && finite x) (not_so (finite y) n))
    (λ e. chosen (ArctangentAnswer y x) (not (finite x)) _ _ (λ n. ap (λ (b : Bool). finite y && b) (not_so (finite x) n) ∙ and_false (finite y))
    (λ h. let E = not_not (finite y) e in let F = not_not (finite x) h in (ap (λ (b : Bool). b && finite x) E ∙ F, angle_right y x E F f g)))

-- ---- odd in y
level_odd : (s : Bool) (m : ℕ) (e : ℤ) (x : Float) → level_float (neg (fin s m e)) x ≡ neg (level_float (fin s m e) x)
unfolding level_float neg
level_odd s m e x = go (negative x) s
  where
    go : (b s : Bool) → cond b (cond (not s) (neg pi_float) pi_float) (fin (not s) m e) ≡ neg (cond b (cond s (neg pi_float) pi_float) (fin s m e))
    go true true = sym (neg_neg pi_float)
    go true false = refl
    go false s = refl

at_zero : (y x : Float) → eq y plus_zero ≡ true → angle_float y x ≡ level_float y x
unfolding angle_float
at_zero y x z = sym (pick (eq y plus_zero) (level_float y x) _ z)

at_minus : (m : ℕ) (e : ℤ) (x : Float) → eq (fin true m e) plus_zero ≡ false → angle_float (fin true m e) x ≡ neg (upper_float (neg (fin true m e)) x)
unfolding angle_float
at_minus m e x z = sym (pick (lt (fin true m e) plus_zero) (neg (upper_float (neg (fin true m e)) x)) (upper_float (fin true m e) x) (lt_neg m e z) ∙ drop (eq (fin true m e) plus_zero) (level_float (fin true m e) x) _ z)

at_plus : (m : ℕ) (e : ℤ) (x : Float) → eq (fin false m e) plus_zero ≡ false → angle_float (fin false m e) x ≡ upper_float (fin false m e) x
unfolding angle_float
at_plus m e x z = sym (drop (lt (fin false m e) plus_zero) (neg (upper_float (neg (fin false m e)) x)) (upper_float (fin false m e) x) (lt_pos m e) ∙ drop (eq (fin false m e) plus_zero) (level_float (fin false m e) x) _ z)

pub angle_odd : (s : Bool) (m : ℕ) (e : ℤ) (x : Float) → angle_float (neg (fin s m e)) x ≡ neg (angle_float (fin s m e) x)
unfolding neg
angle_odd s m e x = go s (split (eq (fin s m e) plus_zero))
  where
    go : (s : Bool) → (eq (fin s m e) plus_zero ≡ true) ⊎ (eq (fin s m e) plus_zero ≡ false) → angle_float (neg (fin s m e)) x ≡ neg (angle_float (fin s m e) x)
    go s (inl z) = at_zero (neg (fin s m e)) x (swap s m e ∙ z) ∙ level_odd s m e x ∙ ap neg (sym (at_zero (fin s m e) x z))
    go true (inr z) = at_plus m e x (swap true m e ∙ z) ∙ sym (neg_neg (upper_float (fin false m e) x)) ∙ ap neg (sym (at_minus m e x z))
    go false (inr z) = at_minus m e x (swap false m e ∙ z) ∙ ap neg (sym (at_plus m e x z))

-- ---- for the code of `arctangent`: where both are finite, with what it found of each; and where they are not
pub arctangent_both : (y x r : Float) {b d : Bool} → finite y ≡ b → not b ≡ false → finite x ≡ d → not d ≡ false → r ≡ angle_float y x → Some r ≡ arctangent_of y x
unfolding arctangent_of
arctangent_both y x r B k D l e = ap Some e ∙ drop (not (finite x)) _ _ (ap not D ∙ l) ∙ drop (not (finite y)) _ _ (ap not B ∙ k)

pub arctangent_refused : (y x : Float) → (finite y && finite x) ≡ false → None ≡ arctangent_of y x
unfolding arctangent_of
arctangent_refused y x = go (finite y) refl
  where
    go : (b : Bool) → finite y ≡ b → (b && finite x) ≡ false → None ≡ cond (not (finite y)) None (cond (not (finite x)) None (Some (angle_float y x)))
    go true B f = pick (not (finite x)) _ _ (ap not f) ∙ drop (not (finite y)) _ _ (ap not B)
    go false B f = pick (not (finite y)) _ _ (ap not B)
