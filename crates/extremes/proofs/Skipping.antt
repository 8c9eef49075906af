-- That a group that is skipped cannot change the answer, whatever its joint sets hold; and that of a summary that is
-- theirs nothing is missed.
use Prim.Native.Nat.{ℕ, zero, suc, ◌+◌, ◌*◌, ◌/◌, ◌%◌, ◌≤◌, ◌<◌}
use native.Mathlib.Nat.{le_of_suc-le-suc}
use native.Mathlib.Omega.{arith}
use mathlib.Core.Path.{◌≡◌, refl, sym, ap, ◌∙◌}
use mathlib.Core.Bool.{Bool, true, false, cond, ◌&&◌, ◌||◌, and-eq-true_iff}
use mathlib.Core.List.{List, [], ◌∷◌}
use lib.Dec.{eqb}
use lib.ListN.{length, take, drop, get_or}
use lib.Seq.{drop-drop}
use lib.Ieee.{Float, lt, is_nan}
use lib.Ieee.Scale.{finite}
use Rattle.lists.specs.Fold.{fold}
use Rattle.lists.specs.Search.{any, all}
use Rattle.lists.specs.Rows.{rows}
use Rattle.lists.proofs.Rows.{length_rows, get_or_rows}
use Rattle.geometry.specs.Direction.{all_finite}
use Rattle.chain.specs.declared.Joints.{Joints}
use Rattle.chain.specs.Check.{joints_finite}
use Rattle.turn.specs.Items.{joints_from, joints_in}
use Rattle.extremes.specs.declared.Extremes.{Extremes}
use Rattle.extremes.specs.Summary.{upper, upper_set, level, widened, extremes_of, group_count, summary_of, group_at}
use Rattle.chain.specs.Angles.{angle_of}
use Rattle.extremes.specs.Asking.{above, opened, above_at, hit, first_index, first_above, full_reading}
use Rattle.extremes.proofs.Comparing.{or_right, above_upper, finite_number, upper_number}
use Rattle.extremes.proofs.Groups.{summary_at, in_group, group_has}

-- ---- two tests that agree on the indices that are searched
pub same_index : (f g : ℕ → Bool) (k n : ℕ) → ((i : ℕ) → k ≤ i → i < k + n → f i ≡ g i) → first_index f k n ≡ first_index g k n
unfolding first_index
same_index f g k zero h = refl
same_index f g k (suc n) h =
    rw (h k (omega arith) (omega arith))
    (ap (λ (m : ℕ). cond (g k) k m) (same_index f g (suc k) n (λ i p q. h i (omega arith) (omega arith))))

-- ---- "whose joints then cannot change its answer": for every summary and all joints, also those that are not finite
and_same : (a b c : Bool) → (a ≡ true → b ≡ c) → (a && b) ≡ (a && c)
and_same true b c h = h refl
and_same false b c h = refl

pub skipped : (rotary : ℕ) (angle : Float) (summary p q : List Float) (n : ℕ)
    → ((i : ℕ) → i < n → opened rotary angle summary (i / 64) ≡ true → joints_in p (i * 5) ≡ joints_in q (i * 5))
    → first_above rotary angle summary p n ≡ first_above rotary angle summary q n
unfolding first_above hit above_at
skipped rotary angle summary p q n h =
    same_index _ _ 0 n (λ i a b. and_same _ _ _ (λ o. ap (above rotary angle) (h i (omega arith) o)))

-- ---- the largest angle of a group
module _ (rotary : ℕ) (a : Float) where
  angle_upper : (x y : Joints) → angle_of rotary (upper_set x y) ≡ upper (angle_of rotary x) (angle_of rotary y)
  unfolding angle_of upper_set
  angle_upper x y = go (eqb rotary 0)
    where
      go : (t : Bool) → cond t (upper x.a0 y.a0) (upper x.a1 y.a1) ≡ upper (cond t x.a0 x.a1) (cond t y.a0 y.a1)
      go true = refl
      go false = refl

  angle_number : (j : Joints) → joints_finite j ≡ true → is_nan (angle_of rotary j) ≡ false
  unfolding angle_of joints_finite
  angle_number j e = go (eqb rotary 0)
    where
      both : (all_finite j.xyz && finite j.a0 ≡ true) × (finite j.a1 ≡ true)
      both = (and-eq-true_iff (all_finite j.xyz && finite j.a0) (finite j.a1)).0 e

      go : (t : Bool) → is_nan (cond t j.a0 j.a1) ≡ false
      go true = finite_number j.a0 ((and-eq-true_iff (all_finite j.xyz) (finite j.a0)).0 both.0).1
      go false = finite_number j.a1 both.1

  or_assoc : (x y z : Bool) → ((x || y) || z) ≡ (x || (y || z))
  or_assoc true y z = refl
  or_assoc false y z = refl

  fold_above : (e : Extremes) (l : List Joints) → is_nan (angle_of rotary e.high) ≡ false → all joints_finite l ≡ true
      → above rotary a (fold widened e l).high ≡ (above rotary a e.high || any (above rotary a) l)
  unfolding fold widened above any all
  fold_above e [] m h = go (lt a (angle_of rotary e.high))
    where
      go : (t : Bool) → t ≡ (t || false)
      go true = refl
      go false = refl
  fold_above e (j ∷ l) m h =
      let p = (and-eq-true_iff (joints_finite j) (all joints_finite l)).0 h in
      let n = angle_number j p.0 in
      let q : is_nan (angle_of rotary (upper_set e.high j)) ≡ false = rw (angle_upper e.high j) (upper_number _ _ m n) in
      fold_above (widened e j) l q p.1
      ∙ ap (λ (t : Bool). t || any (above rotary a) l) (ap (lt a) (angle_upper e.high j) ∙ above_upper a _ _ m n)
      ∙ or_assoc (lt a (angle_of rotary e.high)) (lt a (angle_of rotary j)) (any (above rotary a) l)

  group_above : (l : List Joints) → 0 < length l → all joints_finite l ≡ true → above rotary a (extremes_of l).high ≡ any (above rotary a) l
  unfolding extremes_of any all
  group_above [] p h = absurd (omega arith)
  group_above (j ∷ l) p h =
      let q = (and-eq-true_iff (joints_finite j) (all joints_finite l)).0 h in
      fold_above (level j) l (angle_number j q.0) q.1

opened_is : (rotary : ℕ) (a : Float) (l : List Joints) (g : ℕ) → g < group_count (length l) → opened rotary a (summary_of l) g ≡ above rotary a (extremes_of (group_at l g)).high
unfolding opened joints_in
opened_is rotary a l g h =
    ap (λ (s : List Float). above rotary a (joints_from s)) (sym (drop-drop 5 (g * 10) (summary_of l)))
    ∙ ap (λ (e : Extremes). above rotary a e.high) (summary_at l g h)

-- ---- "must answer as a full reading where the joints are finite and the summary is theirs"
any_at : {A : Type 0} (test : A → Bool) (l : List A) (i : ℕ) (d : A) → i < length l → test (get_or l i d) ≡ true → any test l ≡ true
unfolding any
any_at test [] i d h e = absurd (omega arith)
any_at test (x ∷ l) zero d h e = rw e
any_at test (x ∷ l) (suc i) d h e = rw (any_at test l i d (le_of_suc-le-suc h) e) (or_right (test x))

all_take : {A : Type 0} (test : A → Bool) (n : ℕ) (l : List A) → all test l ≡ true → all test (take n l) ≡ true
unfolding all
all_take test zero l e = refl
all_take test (suc n) [] e = refl
all_take test (suc n) (x ∷ l) e =
    let p = (and-eq-true_iff (test x) (all test l)).0 e in
    rw (p.0, all_take test n l p.1)

all_drop : {A : Type 0} (test : A → Bool) (n : ℕ) (l : List A) → all test l ≡ true → all test (drop n l) ≡ true
unfolding all
all_drop test zero l e = e
all_drop test (suc n) [] e = refl
all_drop test (suc n) (x ∷ l) e = all_drop test n l ((and-eq-true_iff (test x) (all test l)).0 e).1

module _ (rotary : ℕ) (a : Float) (l : List Joints) (finite-all : all joints_finite l ≡ true) where
  none_missed : (i : ℕ) (d : Joints) → i < length l → above rotary a (get_or l i d) ≡ true → opened rotary a (summary_of l) (i / 64) ≡ true
  none_missed i d h e =
      let q = group_has l i d h in
      let g = group_at l (i / 64) in
      let f : all joints_finite (group_at l (i / 64)) ≡ true = unfold group_at in all_take joints_finite 64 (drop (i / 64 * 64) l) (all_drop joints_finite (i / 64 * 64) l finite-all) in
      let s : 0 < length (group_at l (i / 64)) = omega (arith, q.0) in
      opened_is rotary a l (i / 64) (in_group i (length l) h)
      ∙ group_above rotary a (group_at l (i / 64)) s f
      ∙ any_at (above rotary a) (group_at l (i / 64)) (i % 64) d q.0 (ap (above rotary a) q.1 ∙ e)

and_left : (a b : Bool) → (b ≡ true → a ≡ true) → (a && b) ≡ b
and_left true b h = refl
and_left false true h = h refl
and_left false false h = refl

pub as_read : (rotary : ℕ) (a : Float) (joints : List Float) (n : ℕ) → all joints_finite (rows 5 joints_from n joints) ≡ true
    → first_above rotary a (summary_of (rows 5 joints_from n joints)) joints n ≡ full_reading rotary a joints n
unfolding first_above hit full_reading above_at
as_read rotary a joints n f =
    same_index _ _ 0 n
    (λ i p q.
    and_left (opened rotary a (summary_of (rows 5 joints_from n joints)) (i / 64)) (above rotary a (joints_in joints (i * 5)))
    (λ e. none_missed rotary a (rows 5 joints_from n joints) f i (joints_from joints) (rw length_rows (omega arith)) (ap (above rotary a) (read i (omega arith)) ∙ e)))
  where
    read : (i : ℕ) → i < n → get_or (rows 5 joints_from n joints) i (joints_from joints) ≡ joints_in joints (i * 5)
    read i h = unfold joints_in in get_or_rows 5 joints_from n joints i (joints_from joints) h
