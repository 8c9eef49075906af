-- A summary, group by group: the ten numbers of a group, the joint sets that stand in it, and where it ends.
use Prim.Native.Nat.{ℕ, ◌+◌, ◌-◌, ◌*◌, ◌/◌, ◌%◌, ◌≤◌, ◌<◌}
use native.Mathlib.Omega.{arith}
use mathlib.Core.Path.{◌≡◌, refl, sym, ap, ◌∙◌}
use mathlib.Core.Bool.{Bool, true, false, cond}
use mathlib.Core.List.{List, [], ◌∷◌, ◌++◌, map}
use borrow.Author.Tests.{ltb-true, ltb-false}
use lib.Dec.{ltb}
use lib.ListN.{length, take, drop, get_or, length-drop, length-take, length-map, get_or-map}
use lib.Seq.{get_or-take, get_or-drop, take_all}
use lib.Ieee.{Float}
use Rattle.lists.specs.Rows.{flat, Codec}
use Rattle.lists.proofs.Rows.{length_rows, get_or_rows, rows_flat, length_flat}
use Rattle.chain.specs.declared.Joints.{Joints}
use Rattle.turn.specs.Items.{joints_from, joints_in}
use Rattle.extremes.specs.declared.Extremes.{Extremes}
use Rattle.extremes.specs.Summary.{sets_in, extremes_of, group_count, groups, extremes_numbers, extremes_from, summary_of, group_at}
use Rattle.extremes.specs.AskingSteps.{group_end}

-- ---- ten numbers
ten : (v l : List Float) → length v ≡ 10 → extremes_numbers (extremes_from (v ++ l)) ≡ v
ten (a ∷ b ∷ c ∷ d ∷ e ∷ f ∷ g ∷ h ∷ i ∷ j ∷ []) l p = refl
ten [] l p = absurd (omega arith)
ten (a ∷ []) l p = absurd (omega arith)
ten (a ∷ b ∷ []) l p = absurd (omega arith)
ten (a ∷ b ∷ c ∷ []) l p = absurd (omega arith)
ten (a ∷ b ∷ c ∷ d ∷ []) l p = absurd (omega arith)
ten (a ∷ b ∷ c ∷ d ∷ e ∷ []) l p = absurd (omega arith)
ten (a ∷ b ∷ c ∷ d ∷ e ∷ f ∷ []) l p = absurd (omega arith)
ten (a ∷ b ∷ c ∷ d ∷ e ∷ f ∷ g ∷ []) l p = absurd (omega arith)
ten (a ∷ b ∷ c ∷ d ∷ e ∷ f ∷ g ∷ h ∷ []) l p = absurd (omega arith)
ten (a ∷ b ∷ c ∷ d ∷ e ∷ f ∷ g ∷ h ∷ i ∷ []) l p = absurd (omega arith)
ten (a ∷ b ∷ c ∷ d ∷ e ∷ f ∷ g ∷ h ∷ i ∷ j ∷ k ∷ v) l p = absurd (omega arith)

pub extremes_codec : Codec 10 extremes_from extremes_numbers
extremes_codec = record { length_put = λ x. refl; get_put = λ x l. refl; put_get = ten }

-- ---- the joint sets, and the groups
pub sets_length : (l : List Float) → length (sets_in l) ≡ length l / 5
unfolding sets_in
sets_length l = length_rows 5 joints_from (length l / 5) l

pub set_is : (joints : List Float) (i : ℕ) → i < length joints / 5 → get_or (sets_in joints) i (joints_from joints) ≡ joints_in joints (i * 5)
unfolding sets_in joints_in
set_is joints i h = get_or_rows 5 joints_from (length joints / 5) joints i (joints_from joints) h

pub group_length : (l : List Joints) → length (groups l) ≡ group_count (length l)
unfolding groups
group_length l = length_rows 64 (take 64) (group_count (length l)) l

pub group_is : (l : List Joints) (g : ℕ) → g < group_count (length l) → get_or (groups l) g [] ≡ group_at l g
unfolding groups group_at
group_is l g h = get_or_rows 64 (take 64) (group_count (length l)) l g [] h

pub count_most : (n : ℕ) → group_count n * 64 ≤ n + 63
unfolding group_count
count_most n = omega arith

-- their extremes
pub extremes_length : (l : List Joints) → length (map extremes_of (groups l)) ≡ group_count (length l)
extremes_length l = length-map (groups l) extremes_of ∙ group_length l

pub extremes_is : (l : List Joints) (g : ℕ) → g < group_count (length l) → get_or (map extremes_of (groups l)) g (extremes_of []) ≡ extremes_of (group_at l g)
extremes_is l g h = get_or-map extremes_of (groups l) g [] ∙ ap extremes_of (group_is l g h)

-- their ten numbers
pub summary_length : (l : List Joints) → length (summary_of l) ≡ group_count (length l) * 10
unfolding summary_of
summary_length l = length_flat extremes_codec (map extremes_of (groups l)) ∙ ap (λ (n : ℕ). n * 10) (extremes_length l)

pub summary_at : (l : List Joints) (g : ℕ) → g < group_count (length l) → extremes_from (drop (g * 10) (summary_of l)) ≡ extremes_of (group_at l g)
unfolding summary_of
summary_at l g h =
    let m : List Extremes = map extremes_of (groups l) in
    let p : g < length (map extremes_of (groups l)) = rw (extremes_length l) h in
    sym (get_or_rows 10 extremes_from (length m) (flat extremes_numbers m) g (extremes_of []) p)
    ∙ ap (λ (r : List Extremes). get_or r g (extremes_of [])) (rows_flat extremes_codec m)
    ∙ extremes_is l g h

-- ---- the joint set with index i stands in group i / 64
place : (i : ℕ) → i / 64 * 64 + i % 64 ≡ i
place i = omega arith

pub in_group : (i n : ℕ) → i < n → i / 64 < group_count n
unfolding group_count
in_group i n h = omega arith

pub group_has : (l : List Joints) (i : ℕ) (d : Joints) → i < length l → (i % 64 < length (group_at l (i / 64))) × (get_or (group_at l (i / 64)) (i % 64) d ≡ get_or l i d)
unfolding group_at
group_has l i d h =
    let m : i % 64 < 64 = omega arith in
    let e : i / 64 * 64 + i % 64 ≡ i = place i in (
      rw (length-take, length-drop) (omega arith),
      get_or-take 64 (drop (i / 64 * 64) l) (i % 64) d m ∙ get_or-drop (i / 64 * 64) l (i % 64) d ∙ ap (λ (k : ℕ). get_or l k d) e,
    )

-- ---- group g goes from g * 64 to its end
pub starts_before : (g n : ℕ) → g < group_count n → g * 64 < n
unfolding group_count
starts_before g n h = omega arith

pub end_is : (k n : ℕ) → k < n → k % 64 ≡ 0 → (k < group_end k n) × ((group_end k n ≤ n) × (((i : ℕ) → k ≤ i → i < group_end k n → i / 64 ≡ k / 64) × (group_end k n < n → group_end k n % 64 ≡ 0)))
unfolding group_end
end_is k n h z = go (ltb (n - k) 64) refl
  where
    go : (b : Bool) → ltb (n - k) 64 ≡ b → (k < cond b n (k + 64)) × ((cond b n (k + 64) ≤ n) × (((i : ℕ) → k ≤ i → i < cond b n (k + 64) → i / 64 ≡ k / 64) × (cond b n (k + 64) < n → cond b n (k + 64) % 64 ≡ 0)))
    go true e = let l = ltb-true (n - k) 64 e in (h, (omega arith, (λ i p q. omega (arith, l, p, q, z), λ q. absurd (omega (arith, q)))))
    go false e = let l = ltb-false (n - k) 64 e in (omega arith, (omega (arith, l), (λ i p q. omega (arith, p, q, z), λ q. omega (arith, z))))

pub group_end_is : (g n : ℕ) → g * 64 < n → (g * 64 < group_end (g * 64) n) × (group_end (g * 64) n ≤ n)
group_end_is g n h = let e = end_is (g * 64) n h (omega arith) in (e.0, e.1.0)

pub group_taken : (l : List Joints) (g : ℕ) → g * 64 ≤ length l → take (group_end (g * 64) (length l) - g * 64) (drop (g * 64) l) ≡ group_at l g
unfolding group_end group_at
group_taken l g h = go (ltb (length l - g * 64) 64) refl
  where
    go : (b : Bool) → ltb (length l - g * 64) 64 ≡ b → take (cond b (length l) (g * 64 + 64) - g * 64) (drop (g * 64) l) ≡ take 64 (drop (g * 64) l)
    go true e =
        let short = ltb-true (length l - g * 64) 64 e in
        let m : length (drop (g * 64) l) ≡ length l - g * 64 = length-drop (g * 64) l in
        take_all (length l - g * 64) (drop (g * 64) l) (omega (arith, m)) ∙ sym (take_all 64 (drop (g * 64) l) (omega (arith, m, short)))
    go false e = let s : g * 64 + 64 - g * 64 ≡ 64 = omega arith in ap (λ (n : ℕ). take n (drop (g * 64) l)) s
