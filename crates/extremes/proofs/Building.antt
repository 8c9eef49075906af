-- What builds a summary: the fold over the joint sets of a group, and the loop through the groups.
use Prim.Native.Nat.{ℕ, zero, suc, ◌+◌, ◌-◌, ◌*◌, ◌/◌, ◌≤◌, ◌<◌}
use native.Mathlib.Numerals.{add-one, towards_suc}
use native.Mathlib.Omega.{arith}
use mathlib.Core.Path.{◌≡◌, refl, sym, ap, ◌∙◌}
use mathlib.Core.List.{List, [], ◌∷◌, ◌++◌, map}
use lib.ListN.{length, take, drop, get_or, set, length-drop, take-append-drop}
use lib.Seq.{length-sets, length-take-le, take_all, take-suc, drop-cons}
use lib.Ieee.{Float}
use Rattle.std.specs.List as Std
use Rattle.std.specs.Simd.{first_chunks}
use Rattle.lists.specs.Fold.{fold}
use Rattle.lists.specs.Rows.{rows, flat}
use Rattle.lists.proofs.Fold.{pushed}
use Rattle.lists.proofs.Rows.{length_rows, take_rows, drop_rows, rows_append_le, set_rows, flat_rows}
use Rattle.chain.specs.declared.Joints.{Joints}
use Rattle.path.specs.Solving.{joints_over}
use Rattle.turn.specs.Items.{joints_from, joints_in}
use Rattle.turn.proofs.Chunks as Chunks
use Rattle.turn.proofs.Stored.{joints_codec}
use Rattle.extremes.specs.declared.Extremes.{Extremes}
use Rattle.extremes.specs.Summary.{sets_in, level, widened, extremes_of, group_count, groups, extremes_numbers, extremes_from, extremes_over, summary_of, group_at, resummed}
use Rattle.extremes.specs.AskingSteps.{group_end}
use Rattle.extremes.proofs.Groups.{extremes_codec, sets_length, set_is, extremes_length, extremes_is, starts_before, group_taken}

-- ---- the joint sets from an index up to an end
front : {A : Type 0} (l : List A) (i end : ℕ) (d : A) → i < end → end ≤ length l → take (end - i) (drop i l) ≡ get_or l i d ∷ take (end - (i + 1)) (drop (i + 1) l)
front l i end d h k =
    let e : end - i ≡ suc (end - (i + 1)) = omega arith in
    let m : i < length l = omega arith in
    rw (e, add-one, drop-cons l i d m)

chunks_widened : (n : ℕ) (e : Extremes) (l : List Float) → Std.fold (λ e c. widened e (joints_in c 0)) e (first_chunks 5 n l) ≡ fold widened e (rows 5 joints_from n l)
unfolding rows fold joints_in
chunks_widened zero e l = refl
chunks_widened (suc n) e l =
    ap (λ (j : Joints). Std.fold (λ e c. widened e (joints_in c 0)) (widened e j) (first_chunks 5 n (drop 5 l))) (Chunks.front l)
    ∙ chunks_widened n (widened e (joints_from l)) (drop 5 l)

-- the numbers from an offset up to another are the joint sets from an index up to another
span : (joints : List Float) (i end : ℕ) → i ≤ end → end ≤ length joints / 5
    → rows 5 joints_from (end - i) (take (end * 5 - i * 5) (drop (i * 5) joints)) ≡ take (end - i) (drop i (sets_in joints))
unfolding sets_in
span joints i end h k =
    let m = drop (i * 5) joints in
    let w = end * 5 - i * 5 in
    let n : length m ≡ length joints - i * 5 = length-drop (i * 5) joints in
    let r : w ≤ length m = omega (arith, n) in
    let t : length (take w m) ≡ w = length-take-le w m r in
    let s : rows 5 joints_from (end - i) m ≡ rows 5 joints_from (end - i) (take w m) =
    rw (take-append-drop w m) at (rows_append_le joints_codec (end - i) (take w m) (drop w m) (omega (arith, t))) in
    sym s ∙ sym (rw (drop_rows 5 joints_from i (length joints / 5) joints) (take_rows 5 joints_from (end - i) (length joints / 5 - i) m (omega arith)))

pub span_widened : (joints : List Float) {from end : ℕ} {first : Joints} → from < end → end ≤ length joints / 5 → first ≡ joints_in joints (from * 5)
    → (m : List Float) → m ≡ take (end * 5 - (from * 5 + 5)) (drop (from * 5 + 5) joints)
    → Std.fold (λ e c. widened e (joints_in c 0)) (level first) (first_chunks 5 (length m / 5) m) ≡ extremes_of (take (end - from) (drop from (sets_in joints)))
unfolding extremes_of
span_widened joints {from} {end} {first} h k e m p =
    let a : from * 5 + 5 ≡ (from + 1) * 5 = omega arith in
    let n : length (drop (from * 5 + 5) joints) ≡ length joints - (from * 5 + 5) = length-drop (from * 5 + 5) joints in
    let t : length m ≡ end * 5 - (from * 5 + 5) = rw p (length-take-le _ _ (omega (arith, n))) in
    let c : length m / 5 ≡ end - (from + 1) = omega (arith, t) in
    let z = sets_length joints in
    let s : get_or (sets_in joints) from (joints_from joints) ≡ first = set_is joints from (omega arith) ∙ sym e in
    let r : rows 5 joints_from (end - (from + 1)) m ≡ take (end - (from + 1)) (drop (from + 1) (sets_in joints)) = rw (p, a) (span joints (from + 1) end (omega arith) k) in
    chunks_widened (length m / 5) (level first) m
    ∙ rw (c, r, front (sets_in joints) from end (joints_from joints) h (omega (arith, z)), s)

-- ---- one group
pub stored : (e : Extremes) (s : List Float) (g : ℕ) → joints_over e.high (joints_over e.low s (g * 10)) (g * 10 + 5) ≡ extremes_over e s g
unfolding joints_over extremes_over
stored e s g = simp towards_suc

pub group_summed : (joints s : List Float) (g end : ℕ) (e : Extremes) → g * 64 ≤ length joints / 5 → end ≡ group_end (g * 64) (length joints / 5)
    → e ≡ extremes_of (take (end - g * 64) (drop (g * 64) (sets_in joints))) → extremes_over e s g ≡ resummed s (sets_in joints) g
unfolding resummed
group_summed joints s g end e h p q =
    let n = sets_length joints in
    let t : take (end - g * 64) (drop (g * 64) (sets_in joints)) ≡ group_at (sets_in joints) g =
    rw (p, ← n) (group_taken (sets_in joints) g (omega arith)) in
    ap (λ (x : Extremes). extremes_over x s g) (q ∙ ap extremes_of t)

-- ---- the groups before g are summed, of n
pub record Built (l : List Joints) (n : ℕ) (s : List Float) (g : ℕ) : Type 0 where
  pub count : n ≡ group_count (length l)
  pub most : g ≤ n
  pub long : length s ≡ n * 10
  pub front : take g (rows 10 extremes_from n s) ≡ take g (map extremes_of (groups l))

module _ (joints : List Float) {n : ℕ} where
  pub built_start : {s : List Float} → n ≡ group_count (length joints / 5) → length s ≡ group_count (length joints / 5) * 10 → Built (sets_in joints) n s 0
  built_start p q = record { count = p ∙ sym (ap group_count (sets_length joints)); most = omega arith; long = rw p q; front = refl }

  pub built_room : {s : List Float} {g : ℕ} → g < n → Built (sets_in joints) n s g → (g * 64 < length joints / 5) × (g * 10 + 10 ≤ length s)
  built_room {s} {g} h b =
      let e : n ≡ group_count (length joints / 5) = b.count ∙ ap group_count (sets_length joints) in
      let k = b.long in
      (starts_before g (length joints / 5) (omega (arith, e)), omega (arith, k))

module _ {l : List Joints} {n : ℕ} where
  pub built_step : {s t : List Float} {g : ℕ} → g < n → Built l n s g → t ≡ resummed s l g → Built l n t (g + 1)
  unfolding resummed extremes_over
  built_step {s} {t} {g} h b e =
      let x = extremes_of (group_at l g) in
      let k = b.long in
      let c = b.count in
      let i : g < group_count (length l) = omega arith in
      let r : rows 10 extremes_from n t ≡ set (rows 10 extremes_from n s) g x =
      rw e (set_rows extremes_codec n s g x h (omega arith)) in
      let p : g < length (rows 10 extremes_from n s) = rw length_rows h in
      let q : g < length (map extremes_of (groups l)) = rw (extremes_length l) i in
      let one : take (g + 1) (map extremes_of (groups l)) ≡ take g (map extremes_of (groups l)) ++ (x ∷ []) =
      rw (add-one, take-suc (map extremes_of (groups l)) g (extremes_of []) q, extremes_is l g i) in
      record {
        count = c;
        most = omega arith;
        long = rw e (length-sets s (g * 10) (extremes_numbers x) ∙ k);
        front = ap (take (g + 1)) r ∙ pushed (rows 10 extremes_from n s) g x p ∙ ap (λ (v : List Extremes). v ++ (x ∷ [])) b.front ∙ sym one;
      }

  pub built_end : {s : List Float} {g : ℕ} → n ≤ g → Built l n s g → s ≡ summary_of l
  unfolding summary_of
  built_end {s} {g} h b =
      let k = b.long in
      let c = b.count in
      let i : length (rows 10 extremes_from n s) ≡ n = length_rows 10 extremes_from n s in
      let j = extremes_length l in
      let r : rows 10 extremes_from n s ≡ map extremes_of (groups l) =
      sym (take_all g (rows 10 extremes_from n s) (omega arith)) ∙ b.front ∙ take_all g (map extremes_of (groups l)) (omega arith) in
      sym (take_all (n * 10) s (omega arith)) ∙ sym (flat_rows extremes_codec n s (omega arith)) ∙ ap (flat extremes_numbers) r
