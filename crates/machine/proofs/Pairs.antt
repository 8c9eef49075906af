-- One pair divided after insertions elsewhere: the pair stored at the front of the outputs, a count past 10,000.
use Prim.Native.Nat.{ℕ, ◌-◌, ◌*◌, ◌≤◌}
use native.Mathlib.Omega.{arith}
use mathlib.Core.Path.{◌≡◌, refl, ap, ◌∙◌}
use mathlib.Core.Bool.{Bool, true, false}
use mathlib.Core.Option.{Option, none, some}
use mathlib.Core.List.{List, [], ◌∷◌}
use lib.Dec.{leb}
use lib.ListN.{length, set}
use lib.Ieee.{Float}
use borrow.Author.Tests.{leb-true, leb-false, le-ltb}
use Rattle.halving.specs.Halving.{step, Done, TooMany}
use Rattle.halving.proofs.Step.{halve_done, halve_many}
use Rattle.chain.specs.declared.Prepared.{Prepared}
use Rattle.turn.specs.Items.{items_in, poses_with, joints_with, space_in}
use Rattle.middle.specs.Testing.{divides, midpoint}
use Rattle.turn.specs.Turning.{most}
use Rattle.machine.specs.Dividing.{division_after, divided_in, poses_over, joints_over, Divided}
use Rattle.machine.specs.Filling.{pair_halved, filled, counted, recounted}
use Rattle.middle.specs.declared.Item.{Item}
use Rattle.middle.specs.declared.Tolerances.{Tolerances}
use Rattle.turn.proofs.Stored.{items_length, item_set, poses_with_long, joints_with_long}
use Rattle.machine.proofs.Copies.{poses_by_length, joints_by_length}

-- ---- the pair at the front
two_set : (l : List Item) (a b : Item) → length l ≡ 2 → set (set l 0 a) 1 b ≡ a ∷ b ∷ []
two_set [] a b h = absurd (omega arith)
two_set (x ∷ []) a b h = absurd (omega arith)
two_set (x ∷ y ∷ []) a b h = refl
two_set (x ∷ y ∷ z ∷ l) a b h = absurd (omega arith)

pair_stored : (poses joints : List Float) (left right : Item) → 2 * 6 ≤ length poses → 2 * 5 ≤ length joints
    → items_in 2 (poses_with right (poses_with left poses 0) 1) (joints_with right (joints_with left joints 0) 1) ≡ left ∷ right ∷ []
pair_stored poses joints left right a b =
    let c : 2 * 6 ≤ length (poses_with left poses 0) = rw poses_with_long a in
    let d : 2 * 5 ≤ length (joints_with left joints 0) = rw joints_with_long b in
    item_set 2 (poses_with left poses 0) (joints_with left joints 0) 1 right (omega arith) c d
    ∙ ap (λ (l : List Item). set l 1 right) (item_set 2 poses joints 0 left (omega arith) a b)
    ∙ two_set (items_in 2 poses joints) left right (items_length 2 poses joints)

-- ---- a count past 10,000: no more are inserted
by_most : (had : ℕ) (b : Bool) → leb had most ≡ b → counted had ≤ most
unfolding counted
by_most had true e = let h = leb-true had most e in rw e h
by_most had false e = rw e (omega arith)

pub counted_most : {c : ℕ} (had : ℕ) → c ≡ counted had → c ≤ most
counted_most had e = rw e (by_most had (leb had most) refl)

module _ (p : Prepared) (tol : Tolerances) (space : ℕ) (g : List Item) (had : ℕ) where
  abbrev Alike : Type 0
  Alike =
      (recounted had (divided_in (division_after (counted had) p tol space g)) ≡ divided_in (division_after had p tol space g))
      × (((o : List Float) → poses_over (division_after (counted had) p tol space g) o ≡ poses_over (division_after had p tol space g) o)
      × ((o : List Float) → joints_over (division_after (counted had) p tol space g) o ≡ joints_over (division_after had p tol space g) o))

  so_done : step (divides p tol) (midpoint p) g ≡ none → (n : ℕ) → division_after n p tol space g ≡ Done n g
  unfolding division_after
  so_done e n = halve_done (divides p tol) (midpoint p) space (most - n) n g e

  so_many : (m : List Item) → step (divides p tol) (midpoint p) g ≡ some m → (n : ℕ) → most ≤ n → division_after n p tol space g ≡ TooMany n
  unfolding division_after
  so_many m e n h =
      let z : most - n ≡ 0 = omega (arith, h) in
      rw z (halve_many (divides p tol) (midpoint p) space n g m e)

  past : (s : Option (List Item)) → step (divides p tol) (midpoint p) g ≡ s → leb had most ≡ false → Alike
  unfolding counted recounted
  past none e f = rw (f, so_done e most, so_done e had) (refl, (λ o. refl, λ o. refl))
  past (some m) e f =
      let h = leb-false had most f in
      rw (f, so_many m e most (omega arith), so_many m e had (omega (arith, h))) (refl, (λ o. refl, λ o. refl))

  by_count : (b : Bool) → leb had most ≡ b → Alike
  unfolding counted recounted
  by_count true e = rw e (refl, (λ o. refl, λ o. refl))
  by_count false e = past (step (divides p tol) (midpoint p) g) refl e

  pub alike : Alike
  alike = by_count (leb had most) refl

-- ---- the pair divided
pub pair_filled : (p : Prepared) (tol : Tolerances) (space had : ℕ) (left right : Item) (poses joints : List Float) {o₁ q₁ o₂ q₂ o₃ q₃ : List Float} {c : ℕ} {said r : Divided}
    → 2 * 6 ≤ length poses → 2 * 5 ≤ length joints
    → o₁ ≡ poses_with left poses 0 → q₁ ≡ joints_with left joints 0 → o₂ ≡ poses_with right o₁ 1 → q₂ ≡ joints_with right q₁ 1 → c ≡ counted had
    → (said ≡ divided_in (division_after c p tol space (items_in 2 o₂ q₂)))
    × ((o₃ ≡ poses_over (division_after c p tol space (items_in 2 o₂ q₂)) o₂) × (q₃ ≡ joints_over (division_after c p tol space (items_in 2 o₂ q₂)) q₂))
    → r ≡ recounted had said
    → (r ≡ divided_in (pair_halved p tol space had left right))
    × ((o₃ ≡ poses_over (pair_halved p tol space had left right) poses) × (q₃ ≡ joints_over (pair_halved p tol space had left right) joints))
unfolding pair_halved
pair_filled p tol space had left right poses joints {o₂ = o₂} {q₂ = q₂} {said = said} a b e f g h i d j =
    let pair : List Item = left ∷ right ∷ [] in
    let s : items_in 2 o₂ q₂ ≡ pair = rw (g, h, e, f) (pair_stored poses joints left right a b) in
    let u : length o₂ ≡ length poses = rw (g, e, poses_with_long, poses_with_long) in
    let v : length q₂ ≡ length joints = rw (h, f, joints_with_long, joints_with_long) in
    let t = alike p tol space pair had in
    let w = rw (s, i) at d in (
      j ∙ ap (recounted had) w.0 ∙ t.0,
      (
        w.1.0 ∙ poses_by_length (division_after (counted had) p tol space pair) poses o₂ u ∙ t.1.0 poses,
        w.1.1 ∙ joints_by_length (division_after (counted had) p tol space pair) joints q₂ v ∙ t.1.1 joints,
      ),
    )

pub filled_is : (p : Prepared) (had : ℕ) (tol : Tolerances) (left right : Item) (poses joints : List Float) {space : ℕ} → space ≡ space_in (length poses) (length joints) → 2 ≤ space
    → filled p had tol left right poses joints ≡ pair_halved p tol space had left right
unfolding filled
filled_is p had tol left right poses joints e h = let f = le-ltb _ _ h in rw (← e, f)
