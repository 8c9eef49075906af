-- The given items in the outputs that a path is admitted with; then the machine that begins there is ready, and what it
-- halves is the given path.
use Prim.Native.Nat.{ℕ, zero, suc, ◌+◌, ◌-◌, ◌*◌, ◌≤◌, ◌<◌}
use native.Mathlib.Omega.{arith}
use mathlib.Core.Path.{◌≡◌, refl, sym, ap, ◌∙◌, subst}
use mathlib.Core.Bool.{Bool, true, false, cond}
use mathlib.Core.List.{List, [], ◌∷◌}
use borrow.Author.Tests.{leb-false}
use lib.Dec.{leb}
use lib.ListN.{length, length-drop, get_or, take, drop, take-append-drop}
use lib.Seq.{take-take, take_all, get_or-take, get_or-drop, length-take-le}
use lib.Ieee.{Float}
use Rattle.lists.specs.Rows.{Codec, rows, paired}
use Rattle.lists.proofs.Rows.{take_rows, drop_rows, rows_append_le, take_paired}
use Rattle.chain.specs.declared.Prepared.{Prepared}
use Rattle.middle.specs.declared.Item.{Item}
use Rattle.turn.specs.Items.{items_in, item, joints_from}
use Rattle.path.specs.Solving.{pose_from}
use Rattle.turn.specs.Turning.{axis_at, end_at_start, begun, absent, reached}
use Rattle.turn.specs.declared.Machine.{Machine}
use Rattle.turn.proofs.Running.{axis_there}
use Rattle.turn.proofs.Stored.{pose_codec, joints_codec}
use Rattle.machine.specs.Dividing.{Ready, halved_from, division, division_after}
use Rattle.machine.proofs.Divides.{begun_ready, begun_same}
use Rattle.storing.specs.Storing.{stored_at}
use Rattle.storing.proofs.Parts.{Parts, parts}
use Rattle.cell.specs.Admitting.{second_axis, first_machine, placed_run, Begun}

pub some_count : (n : ℕ) → (n ≡ 0 → ⊥) → 0 < n
some_count zero f = absurd (f refl)
some_count (suc n) f = omega arith

-- ---- a run that is placed in two parts
module _ (from : List Float) (first : ℕ) (out : List Float) (at : ℕ) (some : first ≤ length from) (apart : first ≤ at) (room : at + (length from - first) ≤ length out) where
  first_long : length (take first from) ≡ first
  first_long = length-take-le first from some

  rest_long : length (drop first from) ≡ length from - first
  rest_long = length-drop first from

  front : Parts out (stored_at out 0 (take first from)) 0 (take first from)
  front = let a = first_long in parts out 0 (take first from) (omega arith)

  back : Parts (stored_at out 0 (take first from)) (placed_run from first out at) at (drop first from)
  unfolding placed_run
  back = let a = front.long in let b = rest_long in parts (stored_at out 0 (take first from)) at (drop first from) (omega arith)

  pub run_long : length (placed_run from first out at) ≡ length out
  run_long = back.long ∙ front.long

  pub run_front : take first (placed_run from first out at) ≡ take first from
  run_front =
      let p = placed_run from first out at in
      let q = stored_at out 0 (take first from) in
      sym (take-take first at p apart) ∙ ap (take first) back.before ∙ take-take first at q apart ∙ ap (λ (n : ℕ). take n q) (sym first_long) ∙ front.stored

  pub run_back : take (length from - first) (drop at (placed_run from first out at)) ≡ drop first from
  run_back = ap (λ (n : ℕ). take n (drop at (placed_run from first out at))) (sym rest_long) ∙ back.stored

-- ---- the items that stand there
drop_paired : {A B C : Type 0} (both : A → B → C) (j : ℕ) (a : List A) (b : List B) → drop j (paired both a b) ≡ paired both (drop j a) (drop j b)
unfolding paired
drop_paired both zero a b = refl
drop_paired both (suc j) [] b = refl
drop_paired both (suc j) (x ∷ a) [] = sym (no_second (drop j a))
  where
    no_second : (l : List _) → paired both l [] ≡ []
    no_second [] = refl
    no_second (y ∷ l) = refl
drop_paired both (suc j) (x ∷ a) (y ∷ b) = drop_paired both j a b

-- records are their numbers
rows_same : {A B : Type 0} {w : ℕ} {get : List B → A} {put : A → List B} → Codec w get put → (n : ℕ) (l m : List B) → n * w ≤ length l → n * w ≤ length m → take (n * w) l ≡ take (n * w) m
    → rows w get n l ≡ rows w get n m
rows_same {w = w} {get = get} k n l m a b e =
    let p = length-take-le (n * w) l a in
    let q = length-take-le (n * w) m b in
    ap (rows w get n) (sym (take-append-drop (n * w) l)) ∙ rows_append_le k n (take (n * w) l) (drop (n * w) l) (omega arith) ∙ ap (rows w get n) e
    ∙ sym (rows_append_le k n (take (n * w) m) (drop (n * w) m) (omega arith)) ∙ ap (rows w get n) (take-append-drop (n * w) m)

-- records of w numbers, the first at the front and the others from the place `at` on
module _ {A : Type 0} {w : ℕ} {get : List Float → A} {put : A → List Float} (k : Codec w get put) (from out : List Float) (space count at : ℕ) (some : 0 < count) (fits : count ≤ space)
    (one : 1 * w ≤ length from) (is_at : (space - count + 1) * w ≡ at) (after : 1 * w ≤ at) (rest : (count - 1) * w ≡ length from - 1 * w) (room : at + (length from - 1 * w) ≤ length out) where
  abbrev held : List Float
  held = placed_run from (1 * w) out at

  pub first_row : take 1 (rows w get space held) ≡ take 1 (rows w get count from)
  first_row =
      let l = run_long from (1 * w) out at one after room in
      take_rows w get 1 space held (omega arith) ∙ rows_same k 1 held from (omega arith) one (run_front from (1 * w) out at one after room) ∙ sym (take_rows w get 1 count from (omega arith))

  pub other_rows : drop (space - count + 1) (rows w get space held) ≡ drop 1 (rows w get count from)
  other_rows =
      let l = run_long from (1 * w) out at one after room in
      let z : space - (space - count + 1) ≡ count - 1 = omega arith in
      let d = length-drop at held in
      let g = length-drop (1 * w) from in
      drop_rows w get (space - count + 1) space held ∙ ap (λ (n : ℕ). rows w get n (drop ((space - count + 1) * w) held)) z ∙ ap (λ (n : ℕ). rows w get (count - 1) (drop n held)) is_at
      ∙ rows_same k (count - 1) (drop at held) (drop (1 * w) from) (omega arith) (omega arith)
      (ap (λ (n : ℕ). take n (drop at held)) rest ∙ run_back from (1 * w) out at one after room ∙ sym (take_all ((count - 1) * w) (drop (1 * w) from) (omega arith)))
      ∙ sym (drop_rows w get 1 count from)

-- ---- the machine that begins there
module _ (p : Prepared) (space count : ℕ) (given solved poses joints : List Float) (some : 0 < count) (fits : count ≤ space)
    (first : take 1 (items_in space poses joints) ≡ take 1 (items_in count given solved))
    (rest : drop (space - count + 1) (items_in space poses joints) ≡ drop 1 (items_in count given solved)) where
  abbrev o : List Item
  o = items_in space poses joints

  abbrev g : List Item
  g = items_in count given solved

  left_same : axis_at p joints 0 ≡ axis_at p solved 0
  left_same =
      let e : get_or o 0 absent ≡ get_or g 0 absent = sym (get_or-take 1 o 0 absent (omega arith)) ∙ ap (λ (l : List Item). get_or l 0 absent) first ∙ get_or-take 1 g 0 absent (omega arith) in
      axis_there p space poses joints 0 (omega arith) ∙ ap (reached p) e ∙ sym (axis_there p count given solved 0 some)

  end_same : 1 < count → axis_at p joints (space - count + 1) ≡ axis_at p solved 1
  end_same h =
      let z : space - count + 1 + 0 ≡ space - count + 1 = omega arith in
      let e : get_or o (space - count + 1) absent ≡ get_or g 1 absent =
      ap (λ (i : ℕ). get_or o i absent) (sym z) ∙ sym (get_or-drop (space - count + 1) o 0 absent) ∙ ap (λ (l : List Item). get_or l 0 absent) rest ∙ get_or-drop 1 g 0 absent in
      axis_there p space poses joints (space - count + 1) (omega arith) ∙ ap (reached p) e ∙ sym (axis_there p count given solved 1 h)

  ends : end_at_start p space count (axis_at p joints 0) joints ≡ second_axis p count (axis_at p solved 0) solved
  unfolding end_at_start second_axis
  ends = go (leb count 1) (leb-false count 1)
    where
      go : (t : Bool) → (t ≡ false → 1 < count) → cond t (axis_at p joints 0) (axis_at p joints (space - count + 1)) ≡ cond t (axis_at p solved 0) (axis_at p solved 1)
      go true f = left_same
      go false f = end_same (f refl)

  begun_is : begun p space count 0 joints ≡ first_machine p space count solved
  unfolding begun first_machine
  begun_is = rw (ends, left_same)

  pub begins : space * 6 ≤ length poses → space * 5 ≤ length joints → Begun p space count given solved (first_machine p space count solved) poses joints
  unfolding division division_after
  begins a b = record {
    ready = λ tol. subst (λ (z : Machine). Ready p tol space z poses joints) begun_is (begun_ready p tol space count 0 given solved poses joints (omega arith) some fits first rest a b);
    same = λ tol. ap (λ (z : Machine). halved_from p tol space z poses joints) (sym begun_is) ∙ sym (begun_same p tol space count 0 given solved poses joints (omega arith) some fits first rest);
  }

-- ---- what admission leaves in the outputs of a path with a pose
module _ (p : Prepared) (space count : ℕ) (given solved poses joints : List Float) (some : 0 < count) (fits : count ≤ space) (whole : length given ≡ count * 6) (as_many : length solved ≡ count * 5)
    (room-poses : space * 6 ≤ length poses) (room-joints : space * 5 ≤ length joints) where
  abbrev poses' : List Float
  poses' = placed_run given 6 poses ((space - count + 1) * 6)

  abbrev joints' : List Float
  joints' = placed_run solved 5 joints ((space - count + 1) * 5)

  items_first : take 1 (items_in space poses' joints') ≡ take 1 (items_in count given solved)
  unfolding items_in
  items_first =
      take_paired item 1 (rows 6 pose_from space poses') (rows 5 joints_from space joints')
      ∙ ap (λ (z : List _). paired item z (take 1 (rows 5 joints_from space joints'))) (first_row pose_codec given poses space count ((space - count + 1) * 6) some fits (omega arith) refl (omega arith) (omega arith) (omega arith))
      ∙ ap (λ (z : List _). paired item (take 1 (rows 6 pose_from count given)) z) (first_row joints_codec solved joints space count ((space - count + 1) * 5) some fits (omega arith) refl (omega arith) (omega arith) (omega arith))
      ∙ sym (take_paired item 1 (rows 6 pose_from count given) (rows 5 joints_from count solved))

  items_rest : drop (space - count + 1) (items_in space poses' joints') ≡ drop 1 (items_in count given solved)
  unfolding items_in
  items_rest =
      drop_paired item (space - count + 1) (rows 6 pose_from space poses') (rows 5 joints_from space joints')
      ∙ ap (λ (z : List _). paired item z (drop (space - count + 1) (rows 5 joints_from space joints'))) (other_rows pose_codec given poses space count ((space - count + 1) * 6) some fits (omega arith) refl (omega arith) (omega arith) (omega arith))
      ∙ ap (λ (z : List _). paired item (drop 1 (rows 6 pose_from count given)) z) (other_rows joints_codec solved joints space count ((space - count + 1) * 5) some fits (omega arith) refl (omega arith) (omega arith) (omega arith))
      ∙ sym (drop_paired item 1 (rows 6 pose_from count given) (rows 5 joints_from count solved))

  pub placed_begun : Begun p space count given solved (first_machine p space count solved) poses' joints'
  placed_begun =
      let a = run_long given 6 poses ((space - count + 1) * 6) (omega arith) (omega arith) (omega arith) in
      let b = run_long solved 5 joints ((space - count + 1) * 5) (omega arith) (omega arith) (omega arith) in
      begins p space count given solved poses' joints' some fits items_first items_rest (omega arith) (omega arith)
