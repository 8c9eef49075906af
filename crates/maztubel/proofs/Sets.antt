-- Joint sets written over lent numbers: one over the whole of five, and a loop that writes up to fifty of them over a
-- list, with a record for its invariant and a law each for its start, its step and its end.
use Prim.Native.Nat.{ℕ, zero, suc, ◌+◌, ◌-◌, ◌*◌, ◌≤◌, ◌<◌}
use native.Mathlib.Numerals.{add-one}
use native.Mathlib.Omega.{arith}
use mathlib.Core.Path.{◌≡◌, refl, sym, ap, ◌∙◌}
use mathlib.Core.List.{List, [], ◌∷◌, ◌++◌, append-nil}
use lib.ListN.{length, take, get_or, replicate, length-append}
use lib.Seq.{sets, sets-eq, length-sets, take_all, take_at, take-suc, length-take-le}
use lib.Ieee.{Float}
use Rattle.float.specs.Helpers.{nought}
use Rattle.lists.specs.Padding.{padded}
use Rattle.lists.specs.Rows.{flat}
use Rattle.lists.proofs.Rows.{flat_append}
use Rattle.chain.specs.declared.Joints.{Joints}
use Rattle.inverse.specs.Solutions.{nowhere}
use Rattle.path.specs.Solving.{joints_over}
use Rattle.path.proofs.Walking.{joints_sets}
use Rattle.maztubel.specs.InverseEntries.{joint_numbers}

pub set_written : (j : Joints) (l : List Float) → length l ≡ 5 → joints_over j l 0 ≡ joint_numbers j
unfolding joints_over joint_numbers
set_written j [] e = absurd (omega arith)
set_written j (a ∷ []) e = absurd (omega arith)
set_written j (a ∷ b ∷ []) e = absurd (omega arith)
set_written j (a ∷ b ∷ c ∷ []) e = absurd (omega arith)
set_written j (a ∷ b ∷ c ∷ d ∷ []) e = absurd (omega arith)
set_written j (a ∷ b ∷ c ∷ d ∷ f ∷ []) e = refl
set_written j (a ∷ b ∷ c ∷ d ∷ f ∷ g ∷ l) e = absurd (omega arith)

set_sets : (j : Joints) (l : List Float) (i : ℕ) → joints_over j l i ≡ sets l i (joint_numbers j)
unfolding joint_numbers
set_sets j l i = joints_sets j l i

five : (j : Joints) → length (joint_numbers j) ≡ 5
unfolding joint_numbers
five j = refl

set_front : (j : Joints) (l : List Float) (i : ℕ) → i + 5 ≤ length l → take (i + 5) (joints_over j l i) ≡ take i l ++ joint_numbers j
set_front j l i h =
    let n = five j in
    let p : i + length (joint_numbers j) ≤ length l = rw n h in
    let t : length (take i l) ≡ i = length-take-le i l (omega arith) in
    let q : length (take i l ++ joint_numbers j) ≡ i + 5 = rw (length-append (take i l) (joint_numbers j), t, n) in
    rw (set_sets j l i, sets-eq (joint_numbers j) l i p) (take_at (take i l ++ joint_numbers j) _ (i + 5) q)

length_over : (j : Joints) (l : List Float) (i : ℕ) → length (joints_over j l i) ≡ length l
length_over j l i = rw (set_sets j l i) (length-sets l i (joint_numbers j))

flat_one : (j : Joints) → flat joint_numbers (j ∷ []) ≡ joint_numbers j
unfolding flat
flat_one j = append-nil (joint_numbers j)

-- the first k of the joint sets stand in the list of n numbers
pub record Placing (sets : List Joints) (n : ℕ) (out : List Float) (k : ℕ) : Type 0 where
  pub within : k ≤ length sets
  pub room : length sets * 5 ≤ n
  pub long : length out ≡ n
  pub front : take (k * 5) out ≡ flat joint_numbers (take k sets)

none_flat : (k : ℕ) → flat joint_numbers (replicate k nowhere) ≡ replicate (k * 5) nought
unfolding flat joint_numbers
none_flat zero = refl
none_flat (suc k) =
    let e : suc k * 5 ≡ suc (suc (suc (suc (suc (k * 5))))) = omega arith in
    rw (e, none_flat k)

module _ {sets : List Joints} {n : ℕ} where
  pub placing_start : {out : List Float} → length sets * 5 ≤ n → length out ≡ n → Placing sets n out 0
  unfolding flat
  placing_start p q = record { within = omega arith; room = p; long = q; front = refl }

  pub placing_step : {out : List Float} {k : ℕ} (d : Joints) → k < length sets → Placing sets n out k → Placing sets n (joints_over (get_or sets k d) out (k * 5)) (k + 1)
  placing_step {out} {k} d p g =
      let j = get_or sets k d in
      let e : (k + 1) * 5 ≡ k * 5 + 5 = omega arith in
      let r = g.room in
      let l = g.long in
      record {
        within = omega arith;
        room = g.room;
        long = length_over j out (k * 5) ∙ g.long;
        front =
            rw (e, set_front j out (k * 5) (omega arith), g.front, add-one, take-suc sets k d p, flat_append joint_numbers (take k sets) (j ∷ []), flat_one j);
      }

pub placing_end : {sets : List Joints} {out : List Float} {k : ℕ} → length sets ≤ 50 → length sets ≤ k → Placing sets 250 out k
    → padded (length out) nought (take (length sets * 5) out) ≡ flat joint_numbers (padded 50 nowhere sets)
unfolding padded
placing_end {sets} {out} {k} few p g =
    let w = g.within in
    let r = g.room in
    let l = g.long in
    let last : k ≡ length sets = omega arith in
    let done : take (length sets * 5) out ≡ flat joint_numbers sets = rw (take_all (length sets) sets (omega arith)) at (rw last at g.front) in
    let many : length (flat joint_numbers sets) ≡ length sets * 5 = ap (length {A = Float}) (sym done) ∙ length-take-le (length sets * 5) out (omega arith) in
    let left : 250 - length sets * 5 ≡ (50 - length sets) * 5 = omega arith in
    rw (done, l, many, left, flat_append joint_numbers sets (replicate (50 - length sets) nowhere), none_flat (50 - length sets))
