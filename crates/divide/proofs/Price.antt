-- Demand 3 holds of document 01's halving, for every list of poses with solved joints that pass division's checks:
-- `priced`.
use Prim.Native.Nat.{ℕ, suc, ◌+◌, ◌-◌, ◌≤◌, ◌<◌}
use native.Mathlib.Nat.{zero-add}
use mathlib.Core.Path.{◌≡◌, refl, sym, ◌∙◌}
use mathlib.Core.Logic.{◌⊎◌, inl, inr, ◌↔◌}
use mathlib.Core.Bool.{Bool, true, false, not, ◌&&◌, ◌||◌, true≢false}
use mathlib.Core.List.{List, Memᴰ}
use lib.ListN.{length}
use Rattle.chain.specs.declared.Joints.{Joints}
use Rattle.chain.specs.declared.Kinematics.{Kinematics}
use Rattle.chain.specs.declared.Prepared.{Prepared}
use Rattle.chain.proofs.ReadyLaws.{both}
use Rattle.halving.specs.Halving.{Answer, Done, TooMany, NoSpace, halve, Steps, here, more, Needs}
use Rattle.halving.proofs.Steps.{step_division, steps_all}
use Rattle.halving.proofs.Ends as Ends
use Rattle.middle.specs.declared.Item.{Item}
use Rattle.middle.specs.declared.Tolerances.{Tolerances}
use Rattle.middle.specs.Testing.{joints_unchanged, lerp_joints, midpoint, segment_within, near_an_end, divides}
use Rattle.divide.specs.Price.{AllClose, Insertions, no_more, one_more, Result}
use Rattle.divide.proofs.PriceGap.{unchanged_close}
use Rattle.divide.proofs.PriceSound.{Limited, limited_mid, Sized, sized_mid}

-- ---- what the price list states, of the halving's own answer
pub record Answered (k : Kinematics) (p : Prepared) (tol : Tolerances) (space : ℕ) (g : List Item) (answer : Answer Item) : Type 0 where
  pub divided : (n : ℕ) (r : List Item) → answer ≡ Done n r → Result k p tol g n r
  pub many : length g + 10000 ≤ space → ((c : ℕ) × (answer ≡ TooMany c)) ↔ Needs (divides p tol) (midpoint p) 10001 g
  pub never_full : length g + 10000 ≤ space → (c : ℕ) → answer ≡ NoSpace c → ⊥
  pub full : space < length g + 10000 → ((c : ℕ) × (answer ≡ NoSpace c)) ↔ Needs (divides p tol) (midpoint p) (suc (space - length g)) g
  pub never_many : space < length g + 10000 → (c : ℕ) → answer ≡ TooMany c → ⊥
  pub many_count : (c : ℕ) → answer ≡ TooMany c → c ≡ 10000
  pub full_count : (c : ℕ) → answer ≡ NoSpace c → c ≡ space - length g

-- ---- the rule, taken apart
denied : (b : Bool) → not b ≡ true → b ≡ false
denied true h = absurd (true≢false (sym h))
denied false h = refl

undivided : (w n : Bool) → (not w && not n) ≡ false → w ≡ false → n ≡ true
undivided true n h e = absurd (true≢false e)
undivided false true h e = refl
undivided false false h e = absurd (true≢false h)

either : (a b : Bool) → (a || b) ≡ true → (a ≡ true) ⊎ (b ≡ true)
either true b h = inl refl
either false b h = inr h

module _ (p : Prepared) (tol : Tolerances) where
  -- two that are divided fail the tolerance test
  pub divided_fails : (x y : Item) → divides p tol x y ≡ true → segment_within p tol x y ≡ false
  unfolding divides
  divided_fails x y h =
      denied (segment_within p tol x y) (both (not (segment_within p tol x y)) (not (near_an_end x y (midpoint p x y))) h).0

  abbrev CloseToOne : Item → Item → Type 0
  CloseToOne x y = AllClose (midpoint p x y).joints x.joints ⊎ AllClose (midpoint p x y).joints y.joints

  near_close : (x y : Item) → near_an_end x y (midpoint p x y) ≡ true → CloseToOne x y
  unfolding near_an_end
  near_close x y h = go (either (joints_unchanged m x.joints) (joints_unchanged m y.joints) h)
    where
      m : Joints
      m = (midpoint p x y).joints

      go : (joints_unchanged m x.joints ≡ true) ⊎ (joints_unchanged m y.joints ≡ true) → CloseToOne x y
      go (inl e) = inl (unchanged_close m x.joints e)
      go (inr e) = inr (unchanged_close m y.joints e)

  -- two that fail it and are not divided
  kept_close : (x y : Item) → divides p tol x y ≡ false → segment_within p tol x y ≡ false → CloseToOne x y
  unfolding divides
  kept_close x y h e = near_close x y (undivided (segment_within p tol x y) (near_an_end x y (midpoint p x y)) h e)

  insertions : {l r : List Item} {n : ℕ} → Steps (divides p tol) (midpoint p) l n r → Insertions p tol l n r
  insertions here = no_more
  insertions (more {l = l} {m = m} h s) =
      let d = step_division (divides p tol) (midpoint p) l m h in
      one_more
      (record {
        front = d.front;
        left = d.left;
        right = d.right;
        back = d.back;
        was = d.was;
        is = d.is;
        fails = divided_fails d.left d.right d.failed;
      })
      (insertions s)

  -- what holds of every given joint set, and of the midpoint of two of which it holds, holds of every joint set of the result
  all_hold : (P : Joints → Type 0) → ((a b : Joints) → P a → P b → P (lerp_joints a b)) → {g r : List Item} {n : ℕ} → Steps (divides p tol) (midpoint p) g n r
      → ((i : Item) → Memᴰ i g → P i.joints) → (i : Item) → Memᴰ i r → P i.joints
  unfolding midpoint
  all_hold P closed s given =
      steps_all (divides p tol) (midpoint p) (λ i. P i.joints) (λ x y. closed x.joints y.joints) s given

  module _ (k : Kinematics) (space : ℕ) (g : List Item) (room : length g ≤ space) (limits : (i : Item) → Memᴰ i g → Limited k i.joints)
      (sizes : (i : Item) → Memᴰ i g → Sized i.joints) where
    pub divided : (n : ℕ) (r : List Item) → halve (divides p tol) (midpoint p) space 10000 0 g ≡ Done n r → Result k p tol g n r
    divided n r e =
        let d = Ends.result (divides p tol) (midpoint p) space 10000 n g r room e in
        record {
          halved = d.steps;
          ended = d.ended;
          in_order = d.in_order;
          limits = λ i m. (all_hold (Limited k) (limited_mid k) d.steps limits i m).limits;
          inserted = insertions d.steps;
          close = λ front x y back w f. kept_close x y (d.kept front x y back w) f;
          counted = d.counted;
          sizes = λ i m. (all_hold Sized sized_mid d.steps sizes i m).sizes;
        }

    pub priced : Answered k p tol space g (halve (divides p tol) (midpoint p) space 10000 0 g)
    priced = record {
      divided = divided;
      many = λ h. Ends.many_exactly (divides p tol) (midpoint p) space 10000 0 g h;
      never_full = λ h c e. Ends.never_full (divides p tol) (midpoint p) space 10000 0 c g h e;
      full = λ h. Ends.full_exactly (divides p tol) (midpoint p) space 10000 0 g room h;
      never_many = λ h c e. Ends.never_many (divides p tol) (midpoint p) space 10000 0 c g room h e;
      many_count = λ c e. Ends.many_count (divides p tol) (midpoint p) space 10000 0 c g e;
      full_count = λ c e. Ends.full_count (divides p tol) (midpoint p) space 10000 0 c g room e ∙ zero-add (space - length g);
    }
