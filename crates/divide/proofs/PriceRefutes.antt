-- The price list's statement against wrong programs: each that document 01 names for a division, and what `Price`,
-- which both calls promise, says where a program answers so. Either it cannot be, or the answer is right after all.
-- Then two theorems that guard the statement itself: `one_answer`, that it leaves one answer and one content of the
-- outputs, and `demand_3`, in which every field of `Price` and of `Result` stands written out.
use Prim.Native.Nat.{ℕ, suc, ◌+◌, ◌-◌, ◌*◌, ◌≤◌, ◌<◌}
use native.Mathlib.Omega.{arith}
use mathlib.Core.Path.{◌≡◌, refl, sym, ap, ◌∙◌, subst}
use mathlib.Core.Logic.{◌⊎◌, inl, inr, ◌↔◌}
use mathlib.Core.Bool.{true, false, false≢true}
use mathlib.Core.Option.{none}
use mathlib.Core.List.{List, ◌∷◌, ◌++◌, append_assoc, Sublistᴰ, Memᴰ}
use lib.Ieee.{Float}
use lib.ListN.{length, drop, replicate}
use Rattle.std.specs.Prelude.{Ok, Option, Err}
use Rattle.float.specs.Helpers.{nought}
use Rattle.lists.specs.Rows.{flat}
use Rattle.refusal.specs.declared.Refusal.{Refusal}
use Rattle.chain.specs.declared.Joints.{Joints}
use Rattle.chain.specs.declared.Kinematics.{Kinematics}
use Rattle.chain.specs.Check.{joints_within}
use Rattle.chain.specs.Prepared.{prepared}
use Rattle.path.specs.Posing.{bounds_of}
use Rattle.path.specs.Solving.{Along, joint_numbers}
use Rattle.path.specs.Unwinding.{inside}
use Rattle.halving.specs.Halving.{step, Steps, here, Needs}
use Rattle.halving.proofs.Step.{some_none}
use Rattle.halving.proofs.Steps.{Kept, none_kept, kept_none, steps_one, steps_last, needs_less}
use Rattle.middle.specs.declared.Item.{Item}
use Rattle.middle.specs.declared.Tolerances.{Tolerances}
use Rattle.middle.specs.Testing.{midpoint, segment_within, divides}
use Rattle.turn.specs.declared.Stop.{Stop}
use Rattle.turn.specs.Items.{items_in}
use Rattle.divide.specs.declared.DivisionError.{DivisionError}
use Rattle.divide.specs.Checking.{division_check}
use Rattle.divide.specs.Subdividing.{solved_path, Division}
use Rattle.divide.specs.Price.{AllClose, Insertions, Result, AllZero, Checks, Price, IfSolved, SolvedAndDivided}
use Rattle.divide.proofs.Idle.{less_or_not}
use Rattle.divide.proofs.PricePath.{divided_one}
use Rattle.divide.proofs.PriceLent.{is_done, count_in}

-- ---- wrong programs
module _ (k : Kinematics) (tol : Tolerances) (space : ℕ) (g : List Item) (poses joints : List Float) where
  -- what the call promises where it answers so
  abbrev Says : Division → Type 0
  Says answer = Price k tol space g answer poses joints

  -- no two neighbours of a list are to be divided
  abbrev Finished : List Item → Type 0
  Finished l = step (divides (prepared k) tol) (midpoint (prepared k)) l ≡ none

  -- halving the given poses needs an n-th insertion
  abbrev Needed : ℕ → Type 0
  Needed n = Needs (divides (prepared k) tol) (midpoint (prepared k)) n g

  -- the given poses passed through undivided: then no two of them were to be divided
  pub passed_through : (n : ℕ) → Says (Ok n) → items_in (length g + n) poses joints ≡ g → Finished g
  passed_through n p e = subst Finished e (p.divided n refl).ended

  -- the first pair divided and the others copied: then no two of the others were to be divided
  pub first_pair_only : (n : ℕ) (x y : Item) (between others : List Item) → Says (Ok n)
      → items_in (length g + n) poses joints ≡ x ∷ (between ++ y ∷ others) → Finished (y ∷ others)
  first_pair_only n x y between others p e =
      let d = divides (prepared k) tol in
      let m = midpoint (prepared k) in
      let whole : Kept d m (x ∷ (between ++ y ∷ others)) = none_kept d m _ (subst Finished e (p.divided n refl).ended) in
      kept_none d m (y ∷ others)
      (λ front a b back w.
      whole (x ∷ (between ++ front)) a b back
      (ap (λ (z : List Item). x ∷ (between ++ z)) w ∙ ap (λ (z : List Item). x ∷ z) (sym (append_assoc between front (a ∷ b ∷ back)))))

  -- a count of 0: then no two given poses were to be divided
  pub count_zero : Says (Ok 0) → Finished g
  count_zero p =
      let r = p.divided 0 refl in
      subst Finished (steps_one (divides (prepared k) tol) (midpoint (prepared k)) r.halved here) r.ended

  -- a count is what the halving makes, and it makes no more
  pub count_needed : (n : ℕ) → Says (Ok n) → Needed n
  count_needed n p = (items_in (length g + n) poses joints, (p.divided n refl).halved)

  -- a count of the space: not where there is a pose
  pub count_of_space : 0 < length g → Says (Ok space) → ⊥
  count_of_space some p = by_space (less_or_not space (length g)) (less_or_not space (length g + 10000))
    where
      need : (n : ℕ) → n ≤ space → Needed n
      need n h = needs_less (divides (prepared k) tol) (midpoint (prepared k)) h (count_needed space p)

      by_space : (space < length g) ⊎ (length g ≤ space) → (space < length g + 10000) ⊎ (length g + 10000 ≤ space) → ⊥
      by_space (inl h) b = false≢true (sym (ap is_done (p.fewer tt h)))
      by_space (inr h) (inl i) = let (c, e) = (p.full tt h i).1 (need (suc (space - length g)) (omega (arith, some, h))) in false≢true (sym (ap is_done e))
      by_space (inr h) (inr i) = let (c, e) = (p.many tt i).1 (need 10001 (omega (arith, some, i))) in false≢true (sym (ap is_done e))

  -- 27: then there is space for 10,000 more, and the halving needs a 10,001st
  pub many_needed : (c : ℕ) → Says (Err (DivisionError.Stopped (Stop.TooMany c))) → (length g + 10000 ≤ space) × Needed 10001
  many_needed c p = by_space (less_or_not space (length g + 10000))
    where
      by_space : (space < length g + 10000) ⊎ (length g + 10000 ≤ space) → (length g + 10000 ≤ space) × Needed 10001
      by_space (inl h) = absurd (p.never_many h c refl)
      by_space (inr h) = (h, (p.many tt h).0 (c, refl))

  -- 28: then there is space for the given poses, and the halving needs more than there is
  pub full_needed : (c : ℕ) → length g ≤ space → Says (Err (DivisionError.Stopped (Stop.NoSpace c))) → (space < length g + 10000) × Needed (suc (space - length g))
  full_needed c room p = by_space (less_or_not space (length g + 10000))
    where
      by_space : (space < length g + 10000) ⊎ (length g + 10000 ≤ space) → (space < length g + 10000) × Needed (suc (space - length g))
      by_space (inl h) = (h, (p.full tt room h).0 (c, refl))
      by_space (inr h) = absurd (p.never_full h c refl)

  not_needed : (n : ℕ) → Finished g → Needed (suc n) → ⊥
  not_needed n f w =
      let d = divides (prepared k) tol in
      let m = midpoint (prepared k) in
      let (r, s) = needs_less d m {i = 1} {j = suc n} (omega arith) w in
      let (l, t) = steps_last d m 0 s in
      some_none (step d m l) r t.1 (subst Finished (sym (steps_one d m t.0 here)) f)

  -- 27 or 28 before any halving: not where no two given poses were to be divided
  pub many_at_once : (c : ℕ) → Finished g → Says (Err (DivisionError.Stopped (Stop.TooMany c))) → ⊥
  many_at_once c f p = not_needed 10000 f (many_needed c p).1

  pub full_at_once : (c : ℕ) → Finished g → length g ≤ space → Says (Err (DivisionError.Stopped (Stop.NoSpace c))) → ⊥
  full_at_once c f room p = not_needed (space - length g) f (full_needed c room p).1

  -- nor with another count than the 10,000, or than the poses that the space had room for
  pub many_counted : (c : ℕ) → Says (Err (DivisionError.Stopped (Stop.TooMany c))) → c ≡ 10000
  many_counted c p = p.many_count c refl

  pub full_counted : (c : ℕ) → length g ≤ space → Says (Err (DivisionError.Stopped (Stop.NoSpace c))) → c ≡ space - length g
  full_counted c room p = p.full_count room c refl

-- a refusal of everything: not where the checks before the first test pass
pub refused_all : {k : Kinematics} {tol : Tolerances} {lent solved : List Float} {a b : ℕ} {r : Refusal} {poses joints : List Float}
    → IfSolved k tol lent solved a b (Err (DivisionError.Refused r)) poses joints → division_check k tol lent solved a b ≡ Ok tt → ⊥
refused_all p e = p.begun e

module _ {k : Kinematics} {lent : List Float} {start : Option Joints} {cone : Float} {tol : Tolerances} {r : Refusal} {poses₀ joints₀ poses joints : List Float} (l : List Joints)
    (solved : solved_path k lent start cone (length poses₀) (length joints₀) ≡ Along l)
    (passed : division_check k tol lent (flat joint_numbers l) (length poses₀) (length joints₀) ≡ Ok tt) where
  pub both_refused_all : SolvedAndDivided k lent start cone tol (Err (DivisionError.Refused r)) poses₀ joints₀ poses joints → ⊥
  both_refused_all p = p.begun l solved passed

  pub both_refused_pose : SolvedAndDivided k lent start cone tol (Err (DivisionError.AtPose r)) poses₀ joints₀ poses joints → ⊥
  both_refused_pose p = p.begun l solved passed

-- ---- one answer
-- two answers are one, and so are the outputs: after success the items at their front and the numbers behind these,
-- else all
pub record Alike (g : List Item) (answer answer' : Division) (poses joints poses' joints' : List Float) : Type 0 where
  pub answers : answer ≡ answer'
  pub front : (n : ℕ) → answer ≡ Ok n → items_in (length g + n) poses joints ≡ items_in (length g + n) poses' joints'
  pub behind_poses : (n : ℕ) → answer ≡ Ok n → drop ((length g + n) * 6) poses ≡ drop ((length g + n) * 6) poses'
  pub behind_joints : (n : ℕ) → answer ≡ Ok n → drop ((length g + n) * 5) joints ≡ drop ((length g + n) * 5) joints'
  pub refused : ((n : ℕ) → answer ≡ Ok n → ⊥) → (poses ≡ poses') × (joints ≡ joints')

zeros_alike : (l m : List Float) → length l ≡ length m → l ≡ replicate (length l) nought → m ≡ replicate (length m) nought → l ≡ m
zeros_alike l m e u v = u ∙ ap (λ (n : ℕ). replicate n nought) e ∙ sym v

behind_alike : (n : ℕ) (l m : List Float) → length l ≡ length m → drop n l ≡ replicate (length l - n) nought → drop n m ≡ replicate (length m - n) nought → drop n l ≡ drop n m
behind_alike n l m e u v = u ∙ ap (λ (i : ℕ). replicate (i - n) nought) e ∙ sym v

module _ (k : Kinematics) (tol : Tolerances) (space : ℕ) (g : List Item) (poses joints poses' joints' : List Float) (as_many : length poses ≡ length poses') (as-many' : length joints ≡ length joints') where
  both_zero : AllZero poses joints → AllZero poses' joints' → (poses ≡ poses') × (joints ≡ joints')
  both_zero u v = (zeros_alike poses poses' as_many u.0 v.0, zeros_alike joints joints' as-many' u.1 v.1)

  module _ (answer : Division) (p : Price k tol space g answer poses joints) (begun : Checks answer) where
    -- 27 is the only answer where one is 27
    many_alike : (c : ℕ) → Price k tol space g (Err (DivisionError.Stopped (Stop.TooMany c))) poses' joints' → answer ≡ Err (DivisionError.Stopped (Stop.TooMany c))
    many_alike c q =
        let (room, need) = many_needed k tol space g poses' joints' c q in
        let (d, e) = (p.many begun room).1 need in
        e ∙ ap (λ (n : ℕ). Err (DivisionError.Stopped (Stop.TooMany n))) (p.many_count d e ∙ sym (q.many_count c refl))

    full_alike : (c : ℕ) → Price k tol space g (Err (DivisionError.Stopped (Stop.NoSpace c))) poses' joints' → answer ≡ Err (DivisionError.Stopped (Stop.NoSpace c))
    full_alike c q = by_space (less_or_not space (length g))
      where
        by_space : (space < length g) ⊎ (length g ≤ space) → answer ≡ Err (DivisionError.Stopped (Stop.NoSpace c))
        by_space (inl h) = p.fewer begun h ∙ sym (q.fewer tt h)
        by_space (inr h) =
            let (less, need) = full_needed k tol space g poses' joints' c h q in
            let (d, e) = (p.full begun h less).1 need in
            e ∙ ap (λ (n : ℕ). Err (DivisionError.Stopped (Stop.NoSpace n))) (p.full_count h d e ∙ sym (q.full_count h c refl))

    many_so : (c : ℕ) → Price k tol space g (Err (DivisionError.Stopped (Stop.TooMany c))) poses' joints' → Alike g answer (Err (DivisionError.Stopped (Stop.TooMany c))) poses joints poses' joints'
    many_so c q =
        let e = many_alike c q in
        record {
          answers = e;
          front = λ n w. absurd (false≢true (ap is_done (sym e ∙ w)));
          behind_poses = λ n w. absurd (false≢true (ap is_done (sym e ∙ w)));
          behind_joints = λ n w. absurd (false≢true (ap is_done (sym e ∙ w)));
          refused = λ w. both_zero (p.many_zero c e) (q.many_zero c refl);
        }

    full_so : (c : ℕ) → Price k tol space g (Err (DivisionError.Stopped (Stop.NoSpace c))) poses' joints' → Alike g answer (Err (DivisionError.Stopped (Stop.NoSpace c))) poses joints poses' joints'
    full_so c q =
        let e = full_alike c q in
        record {
          answers = e;
          front = λ n w. absurd (false≢true (ap is_done (sym e ∙ w)));
          behind_poses = λ n w. absurd (false≢true (ap is_done (sym e ∙ w)));
          behind_joints = λ n w. absurd (false≢true (ap is_done (sym e ∙ w)));
          refused = λ w. both_zero (p.full_zero c e) (q.full_zero c refl);
        }

  done_so : (n m : ℕ) → Price k tol space g (Ok n) poses joints → Price k tol space g (Ok m) poses' joints' → Alike g (Ok n) (Ok m) poses joints poses' joints'
  done_so n m p q =
      let (e, f) = divided_one (p.divided n refl) (q.divided m refl) in
      let same : (i : ℕ) → Ok n ≡ Ok i → n ≡ i = λ i w. ap count_in w in
      record {
        answers = ap (λ (i : ℕ). Ok i) e;
        front = λ i w.
            let u = same i w in
            subst (λ (z : ℕ). items_in (length g + z) poses joints ≡ items_in (length g + z) poses' joints') u (f ∙ ap (λ (z : ℕ). items_in (length g + z) poses' joints') (sym e));
        behind_poses = λ i w. behind_alike ((length g + i) * 6) poses poses' as_many (p.unused i w).0 (q.unused i (ap (λ (z : ℕ). Ok z) (sym e) ∙ w)).0;
        behind_joints = λ i w. behind_alike ((length g + i) * 5) joints joints' as-many' (p.unused i w).1 (q.unused i (ap (λ (z : ℕ). Ok z) (sym e) ∙ w)).1;
        refused = λ w. absurd (w n refl);
      }

alike_back : {g : List Item} {a b : Division} {p j p' j' : List Float} → Alike g a b p j p' j' → Alike g b a p' j' p j
alike_back {g = g} {p = p} {j = j} {p' = p'} {j' = j'} w = record {
  answers = sym w.answers;
  front = λ n e. sym (w.front n (w.answers ∙ e));
  behind_poses = λ n e. sym (w.behind_poses n (w.answers ∙ e));
  behind_joints = λ n e. sym (w.behind_joints n (w.answers ∙ e));
  refused = λ e. let (a, b) = w.refused (λ n f. e n (sym w.answers ∙ f)) in (sym a, sym b);
}

pub one_answer : (k : Kinematics) (tol : Tolerances) (space : ℕ) (g : List Item) (answer answer' : Division) (poses joints poses' joints' : List Float)
    → length poses ≡ length poses' → length joints ≡ length joints' → Checks answer → Checks answer'
    → Price k tol space g answer poses joints → Price k tol space g answer' poses' joints' → Alike g answer answer' poses joints poses' joints'
one_answer k tol space g (Err (DivisionError.Refused r)) b po jo po' jo' e f c d p q = absurd c
one_answer k tol space g (Err (DivisionError.AtPose r)) b po jo po' jo' e f c d p q = absurd c
one_answer k tol space g (Ok n) (Err (DivisionError.Refused r)) po jo po' jo' e f c d p q = absurd d
one_answer k tol space g (Ok n) (Err (DivisionError.AtPose r)) po jo po' jo' e f c d p q = absurd d
one_answer k tol space g (Ok n) (Err (DivisionError.Stopped (Stop.TooMany m))) po jo po' jo' e f c d p q = many_so k tol space g po jo po' jo' e f (Ok n) p tt m q
one_answer k tol space g (Ok n) (Err (DivisionError.Stopped (Stop.NoSpace m))) po jo po' jo' e f c d p q = full_so k tol space g po jo po' jo' e f (Ok n) p tt m q
one_answer k tol space g (Err (DivisionError.Stopped s)) (Err (DivisionError.Refused r)) po jo po' jo' e f c d p q = absurd d
one_answer k tol space g (Err (DivisionError.Stopped s)) (Err (DivisionError.AtPose r)) po jo po' jo' e f c d p q = absurd d
one_answer k tol space g (Err (DivisionError.Stopped s)) (Err (DivisionError.Stopped (Stop.TooMany m))) po jo po' jo' e f c d p q = many_so k tol space g po jo po' jo' e f (Err (DivisionError.Stopped s)) p tt m q
one_answer k tol space g (Err (DivisionError.Stopped s)) (Err (DivisionError.Stopped (Stop.NoSpace m))) po jo po' jo' e f c d p q = full_so k tol space g po jo po' jo' e f (Err (DivisionError.Stopped s)) p tt m q
one_answer k tol space g (Ok n) (Ok m) po jo po' jo' e f c d p q = done_so k tol space g po jo po' jo' e f n m p q
one_answer k tol space g (Err (DivisionError.Stopped (Stop.TooMany n))) (Ok m) po jo po' jo' e f c d p q = alike_back (many_so k tol space g po' jo' po jo (sym e) (sym f) (Ok m) q tt n p)
one_answer k tol space g (Err (DivisionError.Stopped (Stop.NoSpace n))) (Ok m) po jo po' jo' e f c d p q = alike_back (full_so k tol space g po' jo' po jo (sym e) (sym f) (Ok m) q tt n p)

-- ---- every field, written out: a field that is dropped or says less makes these fail
pub result_says : {k : Kinematics} {tol : Tolerances} {g r : List Item} {n : ℕ} → Result k (prepared k) tol g n r
    → Steps (divides (prepared k) tol) (midpoint (prepared k)) g n r
    × (step (divides (prepared k) tol) (midpoint (prepared k)) r ≡ none)
    × Sublistᴰ g r
    × ((i : Item) → Memᴰ i r → inside (bounds_of k) i.joints ≡ true)
    × Insertions (prepared k) tol g n r
    × ((front : List Item) (x y : Item) (back : List Item) → r ≡ front ++ x ∷ y ∷ back → segment_within (prepared k) tol x y ≡ false
    → AllClose (midpoint (prepared k) x y).joints x.joints ⊎ AllClose (midpoint (prepared k) x y).joints y.joints)
    × (length r ≡ length g + n)
    × ((i : Item) → Memᴰ i r → joints_within i.joints ≡ true)
result_says a = (a.halved, a.ended, a.in_order, a.limits, a.inserted, a.close, a.counted, a.sizes)

pub demand_3 : {k : Kinematics} {tol : Tolerances} {space : ℕ} {g : List Item} {answer : Division} {poses joints : List Float} → Price k tol space g answer poses joints
    → ((n : ℕ) → answer ≡ Ok n
    → Result k (prepared k) tol g n (items_in (length g + n) poses joints)
    × (drop ((length g + n) * 6) poses ≡ replicate (length poses - (length g + n) * 6) nought)
    × (drop ((length g + n) * 5) joints ≡ replicate (length joints - (length g + n) * 5) nought))
    × (Checks answer → length g + 10000 ≤ space
    → (((c : ℕ) × (answer ≡ Err (DivisionError.Stopped (Stop.TooMany c)))) ↔ Needs (divides (prepared k) tol) (midpoint (prepared k)) 10001 g) × ((c : ℕ) → answer ≡ Err (DivisionError.Stopped (Stop.NoSpace c)) → ⊥))
    × (Checks answer → length g ≤ space → space < length g + 10000
    → (((c : ℕ) × (answer ≡ Err (DivisionError.Stopped (Stop.NoSpace c)))) ↔ Needs (divides (prepared k) tol) (midpoint (prepared k)) (suc (space - length g)) g) × ((c : ℕ) → answer ≡ Err (DivisionError.Stopped (Stop.TooMany c)) → ⊥))
    × (Checks answer → space < length g → answer ≡ Err (DivisionError.Stopped (Stop.NoSpace 0)))
    × ((c : ℕ) → answer ≡ Err (DivisionError.Stopped (Stop.TooMany c)) → (c ≡ 10000) × AllZero poses joints)
    × ((c : ℕ) → answer ≡ Err (DivisionError.Stopped (Stop.NoSpace c)) → (length g ≤ space → c ≡ space - length g) × AllZero poses joints)
demand_3 p = (
  λ n e. (p.divided n e, (p.unused n e).0, (p.unused n e).1),
  λ c h. (p.many c h, p.never_full h),
  λ c r h. (p.full c r h, p.never_many h),
  p.fewer,
  λ c e. (p.many_count c e, p.many_zero c e),
  λ c e. (λ r. p.full_count r c e, p.full_zero c e),
)
