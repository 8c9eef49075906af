-- The two axes that the machine has at hand, and what it knows of the poses that wait: a law each for a given item placed, an inserted one placed, and a midpoint put before the first that waits.
use Prim.Native.Nat.{ℕ, ◌+◌, ◌-◌, ◌≤◌, ◌<◌}
use native.Mathlib.Nat.{eq-or-lt_of_le}
use native.Mathlib.Omega.{arith}
use mathlib.Core.Path.{◌≡◌, refl, sym, ap, ◌∙◌, subst}
use mathlib.Core.Logic.{◌⊎◌, inl, inr}
use mathlib.Core.List.{List}
use lib.ListN.{length, get_or, set}
use lib.Seq.{get_or-set_same, get_or-set_other}
use Rattle.geometry.specs.declared.Vec3.{Vec3}
use Rattle.chain.specs.declared.Prepared.{Prepared}
use Rattle.middle.specs.Testing.{pose_of, midpoint}
use Rattle.middle.specs.declared.Item.{Item}
use Rattle.turn.specs.Turning.{absent, reached, Cached}

module _ {p : Prepared} {space : ℕ} {o : List Item} {k s given : ℕ} {axis_left endAxis : Vec3} (c : Cached p space o k s given axis_left endAxis)
    (long : length o ≡ space) (apart : k ≤ s) where
  kept : (j i : ℕ) (t : Item) → j < i → get_or (set o j t) i absent ≡ get_or o i absent
  kept j i t h = get_or-set_other o j i t absent (λ e. absurd (omega arith))

  kept_pose : (j i : ℕ) (t : Item) → j < i → (get_or o i absent).pose ≡ pose_of p (get_or o i absent).joints
      → (get_or (set o j t) i absent).pose ≡ pose_of p (get_or (set o j t) i absent).joints
  kept_pose j i t h e = subst (λ (x : Item). x.pose ≡ pose_of p x.joints) (sym (kept j i t h)) e

  -- the axis of the first that waits
  pub right_given : s < space → space - s ≡ given → endAxis ≡ reached p (get_or o s absent)
  right_given h e =
      let z : space - given ≡ s = omega arith in
      c.at_end (omega arith) ∙ ap (λ (i : ℕ). reached p (get_or o i absent)) z

  pub right_inserted : s < space → (space - s ≡ given → ⊥) → (get_or o s absent).pose.axis ≡ reached p (get_or o s absent)
  right_inserted h e =
      let f = c.fewer in
      ap (λ x. x.axis) (c.own s (omega arith) (omega arith))

  placed_left : (y : Item) {axis : Vec3} → s < space → axis ≡ reached p y → axis ≡ reached p (get_or (set o k y) (k + 1 - 1) absent)
  placed_left y h e =
      let z : k + 1 - 1 ≡ k = omega arith in
      e ∙ ap (reached p) (sym (ap (λ (i : ℕ). get_or (set o k y) i absent) z ∙ get_or-set_same o k y absent (omega arith)))

  pub placed_given : (y : Item) {axis next : Vec3} → s < space → space - s ≡ given → axis ≡ reached p y
      → (1 < given → next ≡ reached p (get_or o (s + 1) absent)) → Cached p space (set o k y) (k + 1) (s + 1) (given - 1) axis next
  placed_given y h e a b =
      record {
        fewer = omega arith;
        at_left = placed_left y h a;
        own = λ i u v. absurd (omega arith);
        at_end = λ u.
            let z : s + 1 ≡ space - (given - 1) = omega arith in
            b (omega arith) ∙ ap (reached p) (sym (kept k (s + 1) y (omega arith)) ∙ ap (λ (i : ℕ). get_or (set o k y) i absent) z);
      }

  pub placed_inserted : (y : Item) {axis : Vec3} → s < space → (space - s ≡ given → ⊥) → axis ≡ reached p y → Cached p space (set o k y) (k + 1) (s + 1) given axis endAxis
  placed_inserted y h e a =
      let f = c.fewer in
      record {
        fewer = omega arith;
        at_left = placed_left y h a;
        own = λ i u v. kept_pose k i y (omega arith) (c.own i (omega arith) v);
        at_end = λ u. c.at_end u ∙ ap (reached p) (sym (kept k (space - given) y (omega arith)));
      }

  put_pose_at : (x y : Item) → s ≤ space → k < s → (i : ℕ) → i < space - given → (s - 1 ≡ i) ⊎ (s - 1 < i)
      → (get_or (set o (s - 1) (midpoint p x y)) i absent).pose ≡ pose_of p (get_or (set o (s - 1) (midpoint p x y)) i absent).joints
  unfolding midpoint
  put_pose_at x y w b i v (inl e) =
      let z : get_or (set o (s - 1) (midpoint p x y)) i absent ≡ midpoint p x y =
      ap (λ (j : ℕ). get_or (set o (s - 1) (midpoint p x y)) j absent) (sym e) ∙ get_or-set_same o (s - 1) (midpoint p x y) absent (omega arith) in
      subst (λ (t : Item). t.pose ≡ pose_of p t.joints) (sym z) refl
  put_pose_at x y w b i v (inr h) = kept_pose (s - 1) i (midpoint p x y) h (c.own i (omega arith) v)

  pub put_before : (x y : Item) → 0 < k → k < s → s ≤ space → Cached p space (set o (s - 1) (midpoint p x y)) k (s - 1) given axis_left endAxis
  put_before x y a b w =
      let f = c.fewer in
      let t = midpoint p x y in
      record {
        fewer = omega arith;
        at_left = c.at_left ∙ ap (reached p) (sym (get_or-set_other o (s - 1) (k - 1) t absent (λ e. absurd (omega arith))));
        own = λ i u v. put_pose_at x y w b i v (eq-or-lt_of_le u);
        at_end = λ u. c.at_end u ∙ ap (reached p) (sym (kept (s - 1) (space - given) t (omega arith)));
      }
