-- After any row of calls on joints and their own summary the extremes are those worked out afresh.
use Prim.Native.Nat.{ℕ, zero, suc, ◌+◌, ◌-◌, ◌*◌, ◌/◌, ◌≤◌, ◌<◌}
use native.Mathlib.Omega.{arith}
use mathlib.Core.Path.{◌≡◌, refl, sym, ap, ◌∙◌}
use mathlib.Core.Bool.{Bool, true, false}
use mathlib.Core.Logic.{◌⊎◌, inl, inr}
use mathlib.Core.List.{List, [], ◌∷◌, map}
use borrow.Author.Tests.{eqb-true, eqb-false}
use lib.Dec.{eqb}
use lib.ListN.{length, take, drop, get_or, set, length-set}
use lib.Seq.{sets, length-sets, take_all, drop-set-lt, drop-set-add, take-set-le, ext_get_or, get_or-set_same, get_or-set_other}
use lib.Ieee.{Float}
use Rattle.std.specs.Prelude.{Err, Ok}
use Rattle.lists.specs.Fold.{fold}
use Rattle.lists.specs.Rows.{rows, flat, Codec}
use Rattle.lists.proofs.Rows.{set_rows, rows_flat, flat_rows, length_flat}
use Rattle.float.proofs.Units.{le_or_lt}
use Rattle.chain.specs.Checked.{Checked}
use Rattle.chain.specs.declared.Joints.{Joints}
use Rattle.path.specs.Solving.{joints_over}
use Rattle.path.proofs.Walking.{joints_sets}
use Rattle.turn.specs.Items.{joints_from, joints_in}
use Rattle.turn.proofs.Stored.{joints_codec}
use Rattle.extremes.specs.Summary.{sets_in, extremes_of, group_count, groups, extremes_numbers, extremes_over, summary_of, group_at, resummed}
use Rattle.extremes.specs.Checking.{build_check, replace_check}
use Rattle.extremes.specs.Entries.{unless_refused, summary_built, joints_after, summary_after, joints_replaced, summary_replaced, StaysOwn}
use Rattle.extremes.specs.Calls.{Beside, Call, Build, Replace, Ask, after, own}
use Rattle.extremes.proofs.Checks.{replace_lengths}
use Rattle.extremes.proofs.Groups.{extremes_codec, sets_length, group_length, group_is, extremes_length}

-- ---- a record stored in a flat list
flat_set : {A B : Type 0} {w : ℕ} {get : List B → A} {put : A → List B} (k : Codec w get put) (l : List A) (i : ℕ) (x : A) → i < length l → flat put (set l i x) ≡ sets (flat put l) (i * w) (put x)
flat_set {w} {get} {put} k l i x h =
    let n = length_flat k l in
    let m : length (sets (flat put l) (i * w) (put x)) ≡ length l * w = length-sets (flat put l) (i * w) (put x) ∙ n in
    ap (λ (r : List _). flat put (set r i x)) (sym (rows_flat k l))
    ∙ ap (flat put) (sym (set_rows k (length l) (flat put l) i x h (omega (arith, n))))
    ∙ flat_rows k (length l) (sets (flat put l) (i * w) (put x)) (omega (arith, m))
    ∙ take_all (length l * w) (sets (flat put l) (i * w) (put x)) (omega (arith, m))

map_set : {A B : Type 0} (f : A → B) (l : List A) (i : ℕ) (x : A) → map f (set l i x) ≡ set (map f l) i (f x)
map_set f [] i x = refl
map_set f (y ∷ l) zero x = refl
map_set f (y ∷ l) (suc i) x = ap (λ (t : List _). f y ∷ t) (map_set f l i x)

-- ---- the groups, one joint set replaced
other_group : (l : List Joints) (i : ℕ) (x : Joints) (g : ℕ) → (g ≡ i / 64 → ⊥) → group_at (set l i x) g ≡ group_at l g
unfolding group_at
other_group l i x g n = by_place (le_or_lt (g * 64) i)
  where
    by_place : (g * 64 ≤ i) ⊎ (i < g * 64) → take 64 (drop (g * 64) (set l i x)) ≡ take 64 (drop (g * 64) l)
    by_place (inr h) = ap (take 64) (drop-set-lt (g * 64) l i x h)
    by_place (inl h) =
        let e : g * 64 + (i - g * 64) ≡ i = omega (arith, h) in
        let k : 64 ≤ i - g * 64 = omega (arith, h, n) in
        ap (λ (m : ℕ). take 64 (drop (g * 64) (set l m x))) (sym e)
        ∙ ap (take 64) (drop-set-add (g * 64) l (i - g * 64) x)
        ∙ take-set-le 64 (drop (g * 64) l) (i - g * 64) x k

groups_set : (l : List Joints) (i : ℕ) (x : Joints) → i < length l → groups (set l i x) ≡ set (groups l) (i / 64) (group_at (set l i x) (i / 64))
groups_set l i x h = ext_get_or [] (groups (set l i x)) (set (groups l) (i / 64) (group_at (set l i x) (i / 64))) long each
  where
    count : length (groups (set l i x)) ≡ group_count (length l)
    count = group_length (set l i x) ∙ ap group_count (length-set l i x)

    long : length (groups (set l i x)) ≡ length (set (groups l) (i / 64) (group_at (set l i x) (i / 64)))
    long = count ∙ sym (length-set (groups l) (i / 64) (group_at (set l i x) (i / 64)) ∙ group_length l)

    there : i / 64 < length (groups l)
    there = rw (group_length l) (unfold group_count in omega (arith, h))

    read : (g : ℕ) → g < length (groups (set l i x)) → get_or (groups (set l i x)) g [] ≡ group_at (set l i x) g
    read g p = group_is (set l i x) g (rw (group_length (set l i x)) at p)

    by_test : (g : ℕ) → g < length (groups (set l i x)) → (t : Bool) → eqb g (i / 64) ≡ t → get_or (groups (set l i x)) g [] ≡ get_or (set (groups l) (i / 64) (group_at (set l i x) (i / 64))) g []
    by_test g p true e =
        let q : g ≡ i / 64 = eqb-true g (i / 64) e in
        read g p ∙ ap (group_at (set l i x)) q ∙ sym (get_or-set_same (groups l) (i / 64) (group_at (set l i x) (i / 64)) [] there) ∙ ap (λ (k : ℕ). get_or (set (groups l) (i / 64) (group_at (set l i x) (i / 64))) k []) (sym q)
    by_test g p false e =
        let q = eqb-false g (i / 64) e in
        let r : g < group_count (length l) = rw count at p in
        read g p ∙ other_group l i x g q ∙ sym (get_or-set_other (groups l) (i / 64) g (group_at (set l i x) (i / 64)) [] q ∙ group_is l g r)

    each : (g : ℕ) → g < length (groups (set l i x)) → get_or (groups (set l i x)) g [] ≡ get_or (set (groups l) (i / 64) (group_at (set l i x) (i / 64))) g []
    each g p = by_test g p (eqb g (i / 64)) refl

-- ---- "update them when one joint set is replaced": the group of that joint set alone is to be summed
pub summary_set : (l : List Joints) (i : ℕ) (x : Joints) → i < length l → summary_of (set l i x) ≡ resummed (summary_of l) (set l i x) (i / 64)
unfolding summary_of resummed extremes_over
summary_set l i x h =
    let m = extremes_length l in
    let p : i / 64 < length (map extremes_of (groups l)) = rw m (unfold group_count in omega (arith, h)) in
    ap (λ (g : List (List Joints)). flat extremes_numbers (map extremes_of g)) (groups_set l i x h)
    ∙ ap (flat extremes_numbers) (map_set extremes_of (groups l) (i / 64) (group_at (set l i x) (i / 64)))
    ∙ flat_set extremes_codec (map extremes_of (groups l)) (i / 64) (extremes_of (group_at (set l i x) (i / 64))) p

-- ---- in lent numbers
pub joints_long : (joints : List Float) (index : ℕ) (fresh : List Float) → length (joints_after joints index fresh) ≡ length joints
unfolding joints_after joints_over
joints_long joints index fresh = simp length-set

pub sets_after : (joints : List Float) (index : ℕ) (fresh : List Float) → index < length joints / 5 → sets_in (joints_after joints index fresh) ≡ set (sets_in joints) index (joints_from fresh)
unfolding sets_in joints_after
sets_after joints index fresh h =
    ap (λ (n : ℕ). rows 5 joints_from (n / 5) (joints_over (joints_from fresh) joints (index * 5))) (unfold joints_after in joints_long joints index fresh)
    ∙ ap (rows 5 joints_from (length joints / 5)) (joints_sets (joints_from fresh) joints (index * 5))
    ∙ set_rows joints_codec (length joints / 5) joints index (joints_from fresh) h (omega arith)

after_own : (joints : List Float) (index : ℕ) (fresh : List Float) → index < length joints / 5
    → summary_after joints (summary_of (sets_in joints)) index fresh ≡ summary_of (sets_in (joints_after joints index fresh))
unfolding summary_after
after_own joints index fresh h =
    let e = sets_after joints index fresh h in
    rw e (sym (summary_set (sets_in joints) index (joints_from fresh) (rw (sets_length joints) h)))

-- ---- one call: a summary that was the joints' own still is
pub stays_own : (joints summary : List Float) (index : ℕ) (fresh : List Float)
    → StaysOwn joints summary (joints_replaced joints summary index fresh) (summary_replaced joints summary index fresh)
unfolding joints_replaced summary_replaced
stays_own joints summary index fresh e = go (replace_check (length joints) (length summary) index fresh) refl
  where
    go : (t : Checked) → replace_check (length joints) (length summary) index fresh ≡ t
        → unless_refused t (summary_after joints summary index fresh) summary ≡ summary_of (sets_in (unless_refused t (joints_after joints index fresh) joints))
    go (Ok _) p =
        let h = (replace_lengths (length joints) (length summary) index fresh p).0 in
        rw e (after_own joints index fresh h)
    go (Err r) p = e

-- the same of what the code leaves, step by step
module _ (joints summary : List Float) (index : ℕ) (fresh : List Float) (e : replace_check (length joints) (length summary) index fresh ≡ Ok tt) where
  pub joints_left : {j : Joints} {left : List Float} → j ≡ joints_in fresh 0 → left ≡ joints_over j joints (index * 5) → left ≡ joints_replaced joints summary index fresh
  unfolding joints_replaced joints_after joints_in
  joints_left p q = rw e (q ∙ ap (λ (j : Joints). joints_over j joints (index * 5)) p)

  pub summary_left : {left sums : List Float} → left ≡ joints_replaced joints summary index fresh → sums ≡ resummed summary (sets_in left) (index / 64)
      → sums ≡ summary_replaced joints summary index fresh
  unfolding joints_replaced summary_replaced summary_after
  summary_left p q = rw e (q ∙ ap (λ (l : List Float). resummed summary (sets_in l) (index / 64)) (rw e at p))

pub left_own : (joints summary : List Float) (index : ℕ) (fresh : List Float) {left sums : List Float}
    → left ≡ joints_replaced joints summary index fresh → sums ≡ summary_replaced joints summary index fresh → StaysOwn joints summary left sums
left_own joints summary index fresh p q h = q ∙ stays_own joints summary index fresh h ∙ ap (λ (l : List Float). summary_of (sets_in l)) (sym p)

built_own : (joints summary : List Float) → summary ≡ summary_of (sets_in joints) → summary_built joints summary ≡ summary_of (sets_in joints)
unfolding summary_built
built_own joints summary e = go (build_check joints (length summary))
  where
    go : (t : Checked) → unless_refused t (summary_of (sets_in joints)) summary ≡ summary_of (sets_in joints)
    go (Ok _) = refl
    go (Err r) = e

call_own : (b : Beside) (c : Call) → b.summary ≡ summary_of (sets_in b.joints) → (after b c).summary ≡ summary_of (sets_in (after b c).joints)
unfolding after
call_own b Build e = built_own b.joints b.summary e
call_own b (Replace index fresh) e = stays_own b.joints b.summary index fresh e
call_own b (Ask rotary angle) e = e

row_own : (b : Beside) (row : List Call) → b.summary ≡ summary_of (sets_in b.joints) → (fold after b row).summary ≡ summary_of (sets_in (fold after b row).joints)
unfolding fold
row_own b [] e = e
row_own b (c ∷ row) e = row_own (after b c) row (call_own b c e)

-- "After any row of replacements in joints and their own summary the extremes are those worked out afresh."
pub afresh : (joints : List Float) (row : List Call) → (fold after (own joints) row).summary ≡ summary_of (sets_in (fold after (own joints) row).joints)
afresh joints row = row_own (own joints) row refl

-- and so from the first building on, whatever stood in the summary before
pub built_afresh : (joints summary : List Float) (row : List Call) → build_check joints (length summary) ≡ Ok tt
    → (fold after (record { joints = joints; summary = summary }) (Build ∷ row)).summary
    ≡ summary_of (sets_in (fold after (record { joints = joints; summary = summary }) (Build ∷ row)).joints)
unfolding fold after
built_afresh joints summary row e =
    row_own (record { joints = joints; summary = summary_built joints summary }) row (built joints summary e)
  where
    built : (joints summary : List Float) → build_check joints (length summary) ≡ Ok tt → summary_built joints summary ≡ summary_of (sets_in joints)
    built joints summary e = unfold summary_built in rw e
