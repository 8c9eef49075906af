-- The items of two outputs brought from the front to the end of their space, all but the first: each output has its records moved at once.
use Prim.Native.Nat.{ℕ, zero, suc, ◌+◌, ◌-◌, ◌*◌, ◌≤◌, ◌<◌}
use native.Mathlib.Omega.{arith}
use mathlib.Core.Path.{◌≡◌, refl, sym, ap, ◌∙◌}
use mathlib.Core.List.{List, [], ◌∷◌, ◌++◌, append_assoc}
use lib.ListN.{length, take, drop, length-drop, take-append-drop}
use lib.Seq.{drop_at, length-take-le}
use lib.Ieee.{Float}
use Rattle.std.specs.List.{copy_within}
use Rattle.lists.specs.Rows.{rows, paired, Codec}
use Rattle.lists.proofs.Rows.{length_rows, rows_append, rows_append_le, take_table}
use Rattle.path.specs.Solving.{pose_from}
use Rattle.turn.specs.Items.{joints_from, item, items_in}
use Rattle.turn.proofs.Stored.{pose_codec, joints_codec}

module _ {A : Type 0} {w : ℕ} {get : List Float → A} {put : A → List Float} (k : Codec w get put) where
  -- records read their own numbers only
  of_front : (n m : ℕ) (l : List Float) → n * w ≤ m → m ≤ length l → rows w get n (take m l) ≡ rows w get n l
  of_front n m l h f =
      let c : length (take m l) ≡ m = length-take-le m l f in
      rw (take-append-drop m l) at (sym (rows_append_le k n (take m l) (drop m l) (omega (arith, c, h))))

  module _ (to n : ℕ) (l rest : List Float) (some : 1 * w ≤ to * w) (front : to * w ≤ length l) (moved : n * w ≤ length (drop w l)) where
    front_long : length (take (to * w) l) ≡ to * w
    front_long = length-take-le (to * w) l front

    moved_long : length (take (n * w) (drop w l)) ≡ n * w
    moved_long = length-take-le (n * w) (drop w l) moved

    pub brought_first : rows w get 1 (take (to * w) l ++ (take (n * w) (drop w l) ++ rest)) ≡ rows w get 1 l
    brought_first =
        let c = front_long in
        rows_append_le k 1 (take (to * w) l) (take (n * w) (drop w l) ++ rest) (omega (arith, c, some)) ∙ of_front 1 (to * w) l some front

    pub brought_rest : drop to (rows w get (to + n) (take (to * w) l ++ (take (n * w) (drop w l) ++ rest))) ≡ rows w get n (drop w l)
    brought_rest =
        let c = moved_long in
        ap (drop to) (rows_append k to n (take (to * w) l) (take (n * w) (drop w l) ++ rest) front_long)
        ∙ drop_at (rows w get to (take (to * w) l)) (rows w get n (take (n * w) (drop w l) ++ rest)) to (length_rows w get to (take (to * w) l))
        ∙ rows_append_le k n (take (n * w) (drop w l)) rest (omega (arith, c)) ∙ of_front n (n * w) (drop w l) (omega arith) moved

drop_paired : {A B C : Type 0} (both : A → B → C) (j : ℕ) (a : List A) (b : List B) → length a ≡ length b → drop j (paired both a b) ≡ paired both (drop j a) (drop j b)
unfolding paired
drop_paired both zero a b h = refl
drop_paired both (suc j) [] [] h = refl
drop_paired both (suc j) [] (y ∷ b) h = absurd (omega arith)
drop_paired both (suc j) (x ∷ a) [] h = absurd (omega arith)
drop_paired both (suc j) (x ∷ a) (y ∷ b) h = drop_paired both j a b (omega arith)

-- ---- one output: `to` records stay in front, and n, all but the first, are moved behind them
moved : (w to n : ℕ) (l : List Float) → copy_within l w (w + n * w) (to * w) ≡ take (to * w) l ++ (take (n * w) (drop w l) ++ drop (to * w + n * w) l)
moved w to n l =
    let e : w + n * w - w ≡ n * w = omega arith in
    rw e (append_assoc (take (to * w) l) (take (n * w) (drop w l)) (drop (to * w + n * w) l))

-- ---- both
module _ (to n : ℕ) (poses joints : List Float) (some : 0 < to) (poses_fit : (to + n) * 6 ≤ length poses) (joints_fit : (to + n) * 5 ≤ length joints) where
  poses_there : n * 6 ≤ length (drop 6 poses)
  poses_there = rw length-drop (omega arith)

  joints_there : n * 5 ≤ length (drop 5 joints)
  joints_there = rw length-drop (omega arith)

  pub both_first : take 1 (items_in (to + n) (copy_within poses 6 (6 + n * 6) (to * 6)) (copy_within joints 5 (5 + n * 5) (to * 5))) ≡ take 1 (items_in (suc n) poses joints)
  unfolding items_in
  both_first =
      rw (moved 6 to n poses, moved 5 to n joints)
      (take_table 6 pose_from 5 joints_from item 1 (to + n) _ _ (omega arith)
      ∙ rw (brought_first pose_codec to n poses _ (omega arith) (omega arith) poses_there, brought_first joints_codec to n joints _ (omega arith) (omega arith) joints_there)
      (sym (take_table 6 pose_from 5 joints_from item 1 (suc n) poses joints (omega arith))))

  pub both_rest : drop to (items_in (to + n) (copy_within poses 6 (6 + n * 6) (to * 6)) (copy_within joints 5 (5 + n * 5) (to * 5))) ≡ drop 1 (items_in (suc n) poses joints)
  unfolding items_in rows paired
  both_rest =
      rw (moved 6 to n poses, moved 5 to n joints)
      (drop_paired item to _ _ (length_rows 6 pose_from (to + n) _ ∙ sym (length_rows 5 joints_from (to + n) _))
      ∙ rw (brought_rest pose_codec to n poses _ (omega arith) (omega arith) poses_there, brought_rest joints_codec to n joints _ (omega arith) (omega arith) joints_there) refl)

pub brought : (space count : ℕ) (poses joints : List Float) {poses' joints' : List Float} → 0 < count → count ≤ space → space * 6 ≤ length poses → space * 5 ≤ length joints
    → poses' ≡ copy_within poses 6 (count * 6) ((space - count + 1) * 6) → joints' ≡ copy_within joints 5 (count * 5) ((space - count + 1) * 5)
    → (take 1 (items_in space poses' joints') ≡ take 1 (items_in count poses joints))
    × (drop (space - count + 1) (items_in space poses' joints') ≡ drop 1 (items_in count poses joints))
brought space zero poses joints a b c d e f = absurd (omega arith)
brought space (suc n) poses joints {poses'} {joints'} a b c d e f =
    let to = space - suc n + 1 in
    let z : space ≡ to + n = omega arith in
    let x : suc n * 6 ≡ 6 + n * 6 = omega arith in
    let y : suc n * 5 ≡ 5 + n * 5 = omega arith in
    let p : poses' ≡ copy_within poses 6 (6 + n * 6) (to * 6) = rw x at e in
    let q : joints' ≡ copy_within joints 5 (5 + n * 5) (to * 5) = rw y at f in
    let g : (to + n) * 6 ≤ length poses = omega arith in
    let h : (to + n) * 5 ≤ length joints = omega arith in
    let r : 0 < to = omega arith in (
      ap (λ (s : ℕ). take 1 (items_in s poses' joints')) z ∙ rw (p, q) (both_first to n poses joints r g h),
      ap (λ (s : ℕ). drop to (items_in s poses' joints')) z ∙ rw (p, q) (both_rest to n poses joints r g h),
    )
