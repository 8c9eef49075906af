-- The two searches of the question: through the joint sets of a group, and from group to group.
use Prim.Native.Nat.{ℕ, zero, suc, min, ◌+◌, ◌-◌, ◌*◌, ◌/◌, ◌%◌, ◌≤◌, ◌<◌}
use native.Mathlib.Nat.{sub-zero}
use native.Mathlib.Omega.{arith}
use mathlib.Core.Path.{◌≡◌, refl, sym, ap, ◌∙◌}
use mathlib.Core.Bool.{Bool, true, false, cond, ◌&&◌, false≢true}
use mathlib.Core.List.{List}
use borrow.Author.Tests.{lt-ltb, le-ltb, ltb-true, ltb-false}
use Rattle.std.specs.Prelude.{Option, Some, None, is_some, MatchOption}
use Rattle.std.specs.List.{range_with_len}
use Rattle.std.proofs.lemmas.Bool.Decides.{nat_tests}
use lib.Dec.{ltb}
use lib.Ieee.{Float}
use Rattle.extremes.specs.Summary.{group_count}
use Rattle.extremes.specs.Asking.{opened, first_index, above_at, hit, first_above}
use Rattle.extremes.specs.AskingSteps.{group_end, in_group, found_in_group}
use Rattle.extremes.specs.Entries.{found_among}
use Rattle.extremes.proofs.Groups.{starts_before, end_is}
use Rattle.extremes.proofs.Skipping.{same_index}
use Rattle.extremes.proofs.FirstSome.{either, first_some}

-- ---- an index that is one of n
pub among : {n i : ℕ} → i < n → Some i ≡ found_among n i
unfolding found_among
among {n} {i} h = rw (lt-ltb i n h)

pub among_none : {n i : ℕ} → n ≤ i → None ≡ found_among n i
unfolding found_among
among_none {n} {i} h = rw (le-ltb i n h)

pub found_below : {n i : ℕ} {o : Option ℕ} → o ≡ found_among n i → is_some o ≡ true → i < n
unfolding found_among
found_below {n} {i} e s = go (ltb i n) refl (rw e at s)
  where
    go : (b : Bool) → ltb i n ≡ b → is_some (cond b (Some i) None) ≡ true → i < n
    go true t s = ltb-true i n t
    go false t s = absurd (false≢true s)

pub found_none : {n i : ℕ} {o : Option ℕ} → o ≡ found_among n i → is_some o ≡ false → n ≤ i
unfolding found_among
found_none {n} {i} e s = go (ltb i n) refl (rw e at s)
  where
    go : (b : Bool) → ltb i n ≡ b → is_some (cond b (Some i) None) ≡ false → n ≤ i
    go true t s = absurd (false≢true (sym s))
    go false t s = ltb-false i n t

pub found_further : {n m i : ℕ} → i < n → n ≤ m → found_among n i ≡ found_among m i
found_further {n} {m} {i} h l = sym (among h) ∙ among (omega (arith, h, l))

-- ---- the first index
none_first : (k n : ℕ) (t : ℕ → Bool) → ((i : ℕ) → k ≤ i → i < k + n → t i ≡ false) → first_index t k n ≡ k + n
unfolding first_index
none_first k zero t h = omega arith
none_first k (suc n) t h =
    let e = none_first (suc k) n t (λ i p q. h i (omega arith) (omega arith)) in
    rw (h k (omega arith) (omega arith)) (omega (arith, e))

first_most : (t : ℕ → Bool) (k n : ℕ) → (k ≤ first_index t k n) × (first_index t k n ≤ k + n)
unfolding first_index
first_most t k zero = (omega arith, omega arith)
first_most t k (suc n) = go (t k) (first_most t (suc k) n)
  where
    go : (b : Bool) → (suc k ≤ first_index t (suc k) n) × (first_index t (suc k) n ≤ suc k + n) → (k ≤ cond b k (first_index t (suc k) n)) × (cond b k (first_index t (suc k) n) ≤ k + suc n)
    go true p = (omega arith, omega arith)
    go false p = let a = p.0 in let c = p.1 in (omega (arith, a), omega (arith, c))

-- found among the first a, or to be looked for behind them
split : (t : ℕ → Bool) (k a b : ℕ) → first_index t k (a + b) ≡ cond (ltb (first_index t k a) (k + a)) (first_index t k a) (first_index t (k + a) b)
unfolding first_index
split t k zero b =
    let z : k + 0 ≡ k = omega arith in
    let y : 0 + b ≡ b = omega arith in
    rw (z, y, le-ltb k k (omega arith))
split t k (suc a) b = rw e (go (t k) (split t (suc k) a b))
  where
    e : suc a + b ≡ suc (a + b)
    e = omega arith

    f : suc k + a ≡ k + suc a
    f = omega arith

    go : (x : Bool) → first_index t (suc k) (a + b) ≡ cond (ltb (first_index t (suc k) a) (suc k + a)) (first_index t (suc k) a) (first_index t (suc k + a) b)
        → cond x k (first_index t (suc k) (a + b)) ≡ cond (ltb (cond x k (first_index t (suc k) a)) (k + suc a)) (cond x k (first_index t (suc k) a)) (first_index t (k + suc a) b)
    go true h = rw (lt-ltb k (k + suc a) (omega arith))
    go false h = rw (← f) h

-- ---- the library's search through a range
first_found : {t : ℕ → Bool} {from end i : ℕ} → from ≤ i → i < end → t i ≡ true → ((k : ℕ) → from ≤ k → k < i → t k ≡ false) → first_index t from (end - from) ≡ i
unfolding first_index
first_found {t} {from} {end} {i} l h e f =
    let s : end - from ≡ (i - from) + suc (end - (i + 1)) = omega (arith, l, h) in
    let d : from + (i - from) ≡ i = omega (arith, l) in
    let n : first_index t from (i - from) ≡ i = none_first from (i - from) t (λ k p q. f k p (omega (arith, q, d))) ∙ d in
    rw s (split t from (i - from) (suc (end - (i + 1))) ∙ rw (d, n, le-ltb i i (omega arith), e))

pub found_in : (t : ℕ → Bool) {from end : ℕ} (o : Option ℕ) → from ≤ end
    → MatchOption o ((k : ℕ) → from ≤ k → k < end → false ≡ t k) (λ i. (from ≤ i) × (i < end) × (true ≡ t i) × ((k : ℕ) → from ≤ k → k < i → false ≡ t k))
    → o ≡ found_among end (first_index t from (end - from))
found_in t {from} {end} None l h =
    let e = none_first from (end - from) t (λ k p q. sym (h k p (omega (arith, q, l)))) in
    among_none (omega (arith, e, l))
found_in t {from} {end} (Some i) l h =
    among h.1 ∙ ap (found_among end) (sym (first_found h.0 h.1 (sym h.2) (λ k p q. sym (h.3 k p q))))

-- ---- none from `from` up to i passes, of those before `end`
pub record Going (t : ℕ → Bool) (from end i : ℕ) : Type 0 where
  pub least : from ≤ i
  pub most : i ≤ end
  pub whole : first_index t i (end - i) ≡ first_index t from (end - from)

module _ {t : ℕ → Bool} {from end : ℕ} where
  pub going_start : from ≤ end → Going t from end from
  going_start h = record { least = omega arith; most = h; whole = refl }

  pub going_end : {i : ℕ} → end ≤ i → Going t from end i → i ≡ first_index t from (end - from)
  unfolding first_index
  going_end {i} h g =
      let z : end - i ≡ 0 = omega (arith, h) in
      rw z at g.whole

  -- a whole run at once
  pub going_run : {i to : ℕ} → i ≤ to → to ≤ end → first_index t i (to - i) ≡ to → Going t from end i → Going t from end to
  going_run {i} {to} h l e g =
      let m = g.least in
      let s : end - i ≡ (to - i) + (end - to) = omega (arith, h, l) in
      let d : i + (to - i) ≡ to = omega (arith, h) in
      let w : first_index t i ((to - i) + (end - to)) ≡ first_index t from (end - from) = rw s at g.whole in
      let p = split t i (to - i) (end - to) in
      let q : cond (ltb to to) to (first_index t to (end - to)) ≡ first_index t from (end - from) = sym (rw (d, e) at p) ∙ w in
      record { least = omega (arith, m, h); most = l; whole = rw (le-ltb to to (omega arith)) at q }

  pub going_stop : {i to r : ℕ} → i ≤ to → to ≤ end → r ≡ first_index t i (to - i) → r < to → Going t from end i → r ≡ first_index t from (end - from)
  going_stop {i} {to} {r} h l e b g =
      let s : end - i ≡ (to - i) + (end - to) = omega (arith, h, l) in
      let d : i + (to - i) ≡ to = omega (arith, h) in
      let w : first_index t i ((to - i) + (end - to)) ≡ first_index t from (end - from) = rw s at g.whole in
      let p = split t i (to - i) (end - to) in
      let q : cond (ltb r to) r (first_index t to (end - to)) ≡ first_index t from (end - from) = sym (rw (d, ← e) at p) ∙ w in
      rw (lt-ltb r to b) at q

-- ---- a group
module _ (rotary : ℕ) (angle : Float) (s joints : List Float) where
  pub group_searched : (k end : ℕ) → k ≤ end → ((i : ℕ) → k ≤ i → i < end → i / 64 ≡ k / 64) → in_group rotary angle s joints k end ≡ first_index (hit rotary angle s joints) k (end - k)
  unfolding in_group
  group_searched k end h f = go (opened rotary angle s (k / 64)) refl
    where
      within : (i : ℕ) → i < k + (end - k) → i < end
      within i p = omega (arith, p, h)

      tested : (b : Bool) → opened rotary angle s (k / 64) ≡ b → (i : ℕ) → k ≤ i → i < k + (end - k) → hit rotary angle s joints i ≡ (b && above_at rotary angle joints i)
      tested b e i p q = unfold hit in rw (f i p (within i q), e)

      go : (b : Bool) → opened rotary angle s (k / 64) ≡ b → cond b (first_index (above_at rotary angle joints) k (end - k)) end ≡ first_index (hit rotary angle s joints) k (end - k)
      go true e = same_index (above_at rotary angle joints) (hit rotary angle s joints) k (end - k) (λ i p q. sym (tested true e i p q))
      go false e = let d : end ≡ k + (end - k) = omega (arith, h) in d ∙ sym (none_first k (end - k) (hit rotary angle s joints) (tested false e))

-- its place in the summary
pub room_in : (k n : ℕ) → k < n → k / 64 * 10 + 10 ≤ group_count n * 10
unfolding group_count
room_in k n h = omega (arith, h)

-- where the next group starts
pub next_start : (g n : ℕ) → g * 64 < n → min ((g + 1) * 64) n ≡ group_end (g * 64) n
unfolding group_end
next_start g n h = grind (arith, nat_tests)

pub groups_over : (g n : ℕ) → group_count n ≤ g → min (g * 64) n ≡ n
unfolding group_count
groups_over g n h = omega arith

-- ---- from group to group
pub record Groups (rotary : ℕ) (angle : Float) (s joints : List Float) (n k : ℕ) : Type 0 where
  pub going : Going (hit rotary angle s joints) 0 n k
  pub starts : k < n → k % 64 ≡ 0

module _ {rotary : ℕ} {angle : Float} {s joints : List Float} {n : ℕ} where
  pub groups_start : Groups rotary angle s joints n (min 0 n)
  groups_start =
      let e : min 0 n ≡ 0 = omega arith in
      rw e (record { going = going_start (omega arith); starts = λ h. refl })

  searched : {k end i : ℕ} → k < n → Groups rotary angle s joints n k → end ≡ group_end k n → i ≡ in_group rotary angle s joints k end → i ≡ first_index (hit rotary angle s joints) k (end - k)
  searched {k} {end} {i} h g e f =
      let p = end_is k n h (g.starts h) in
      let q = p.0 in
      let w : (j : ℕ) → k ≤ j → j < end → j / 64 ≡ k / 64 = rw (← e) at p.1.1.0 in
      let l : k ≤ end = omega (arith, q, e) in
      f ∙ group_searched rotary angle s joints k end l w

  pub groups_found : {k end i : ℕ} → k < n → Groups rotary angle s joints n k → end ≡ group_end k n → i ≡ in_group rotary angle s joints k end → i < end → i ≡ first_above rotary angle s joints n
  unfolding first_above
  groups_found {k} {end} {i} h g e f b =
      let p = end_is k n h (g.starts h) in
      let q = p.0 in
      let r = p.1.0 in
      rw sub-zero at (going_stop {to = end} (omega (arith, q, e)) (omega (arith, r, e)) (searched h g e f) b g.going)

  pub groups_step : {k end i : ℕ} → k < n → Groups rotary angle s joints n k → end ≡ group_end k n → i ≡ in_group rotary angle s joints k end → end ≤ i → Groups rotary angle s joints n end
  groups_step {k} {end} {i} h g e f b =
      let p = end_is k n h (g.starts h) in
      let q = p.0 in
      let r = p.1.0 in
      let x = searched h g e f in
      let m = (first_most (hit rotary angle s joints) k (end - k)).1 in
      let y : first_index (hit rotary angle s joints) k (end - k) ≡ end = omega (arith, x, m, b, q, e) in
      record { going = going_run (omega (arith, q, e)) (omega (arith, r, e)) y g.going; starts = rw (← e) at p.1.1.1 }

  pub groups_end : Groups rotary angle s joints n n → n ≡ first_above rotary angle s joints n
  unfolding first_above
  groups_end g = rw sub-zero at (going_end (omega arith) g.going)

  -- at a group's start
  pub at_start : {g : ℕ} → g < group_count n → Groups rotary angle s joints n (min (g * 64) n) → Groups rotary angle s joints n (g * 64)
  at_start {g} h v =
      let p = starts_before g n h in
      let e : min (g * 64) n ≡ g * 64 = omega (arith, p) in
      rw e at v

-- from group g on, m groups are left
module _ (rotary : ℕ) (angle : Float) (s joints : List Float) (n : ℕ) where
  pub groups_left : (m g : ℕ) → g + m ≡ group_count n → Groups rotary angle s joints n (min (g * 64) n)
      → first_some (found_in_group rotary angle s joints n) (range_with_len g m) ≡ found_among n (first_above rotary angle s joints n)
  groups_left zero g e h =
      among_none (omega arith) ∙ ap (found_among n) (groups_end (rw (groups_over g n (omega (arith, e))) at h))
  groups_left (suc m) g e h = go (groups_left m (g + 1) (omega (arith, e))) (found_in_group rotary angle s joints n g) refl
    where
      this : g < group_count n
      this = omega (arith, e)

      at_g : Groups rotary angle s joints n (g * 64)
      at_g = at_start this h

      before : g * 64 < n
      before = starts_before g n this

      last : group_end (g * 64) n ≤ n
      last = (end_is (g * 64) n before (at_g.starts before)).1.0

      go : (Groups rotary angle s joints n (min ((g + 1) * 64) n) → first_some (found_in_group rotary angle s joints n) (range_with_len (g + 1) m) ≡ found_among n (first_above rotary angle s joints n))
          → (o : Option ℕ) → found_in_group rotary angle s joints n g ≡ o
          → either o (first_some (found_in_group rotary angle s joints n) (range_with_len (g + 1) m)) ≡ found_among n (first_above rotary angle s joints n)
      go later (Some i) f =
          let below = found_below {n = group_end (g * 64) n} (sym f) refl in
          sym f ∙ found_further below last ∙ ap (found_among n) (groups_found before at_g refl refl below)
      go later None f =
          let over = found_none {n = group_end (g * 64) n} (sym f) refl in
          later (rw (next_start g n before) (groups_step before at_g refl refl over))
