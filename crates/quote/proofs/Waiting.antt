-- What waits: the joint sets on the stack, each with the pose that it reaches, then the given items. A law each for one
-- that is taken from either, and for one that is put.
use Prim.Native.Nat.{ℕ, suc, ◌+◌, ◌-◌, ◌*◌, ◌≤◌, ◌<◌}
use native.Mathlib.Numerals.{add-one}
use native.Mathlib.Omega.{arith}
use mathlib.Core.Path.{◌≡◌, sym, ap, ◌∙◌}
use mathlib.Core.List.{List, [], ◌∷◌, ◌++◌, map, head-eq_of_cons-eq}
use borrow.Author.Tests.{ne_eqb}
use lib.ListN.{length, drop, set, length-set, drop_of_length-le}
use lib.Seq.{drop-cons, get_or-set_same, drop-set-lt}
use lib.Ieee.{Float}
use Rattle.lists.specs.Rows.{rows}
use Rattle.lists.proofs.Rows.{length_rows, get_or_rows, set_rows}
use Rattle.chain.specs.declared.Joints.{Joints}
use Rattle.chain.specs.declared.Prepared.{Prepared}
use Rattle.path.specs.Solving.{joints_over}
use Rattle.path.proofs.Walking.{joints_sets}
use Rattle.middle.specs.declared.Item.{Item}
use Rattle.turn.specs.Items.{joints_from, joints_in, item_at, items_in}
use Rattle.turn.specs.Turning.{absent}
use Rattle.turn.proofs.Stored.{joints_codec, items_length, item_is}
use Rattle.quote.specs.QuotationSteps.{arrived, first_waiting}

unfoldable pub stacked : Prepared → ℕ → List Float → List Item
stacked p top stack = map (arrived p) (drop top (rows 5 joints_from 10000 stack))

unfoldable pub waits : Prepared → (count top next : ℕ) → (lent solved stack : List Float) → List Item
waits p count top next lent solved stack = stacked p top stack ++ drop next (items_in count lent solved)

none_stacked : (p : Prepared) (stack : List Float) → stacked p 10000 stack ≡ []
unfolding stacked
none_stacked p stack = ap (map (arrived p)) (drop_of_length-le (rows 5 joints_from 10000 stack) {i = 10000} (rw (length_rows 5 joints_from 10000 stack) (omega arith)))

one_stacked : (p : Prepared) (top : ℕ) (stack : List Float) → top < 10000 → stacked p top stack ≡ arrived p (joints_in stack (top * 5)) ∷ stacked p (top + 1) stack
unfolding stacked joints_in
one_stacked p top stack h =
    let l = rows 5 joints_from 10000 stack in
    let k : top < length l = rw (length_rows 5 joints_from 10000 stack) h in
    ap (map (arrived p)) (drop-cons l top (joints_from []) k ∙ ap (λ (x : Joints). x ∷ drop (suc top) l) (get_or_rows 5 joints_from 10000 stack top (joints_from []) h)
    ∙ ap (λ (j : ℕ). joints_from (drop (top * 5) stack) ∷ drop j l) (sym (add-one top)))

pub take_given : (p : Prepared) (count next : ℕ) (lent solved stack : List Float) → next < count
    → waits p count 10000 next lent solved stack ≡ item_at lent solved next ∷ waits p count 10000 (next + 1) lent solved stack
unfolding waits
take_given p count next lent solved stack h =
    let l = items_in count lent solved in
    let k : next < length l = rw (items_length count lent solved) h in
    ap (λ (a : List Item). a ++ drop next l) (none_stacked p stack)
    ∙ drop-cons l next absent k
    ∙ ap (λ (x : Item). x ∷ drop (suc next) l) (item_is count lent solved next h)
    ∙ ap (λ (j : ℕ). item_at lent solved next ∷ drop j l) (sym (add-one next))
    ∙ ap (λ (a : List Item). item_at lent solved next ∷ (a ++ drop (next + 1) l)) (sym (none_stacked p stack))

pub take_stacked : (p : Prepared) (count top next : ℕ) (lent solved stack : List Float) → top < 10000
    → waits p count top next lent solved stack ≡ arrived p (joints_in stack (top * 5)) ∷ waits p count (top + 1) next lent solved stack
unfolding waits
take_stacked p count top next lent solved stack h = ap (λ (a : List Item). a ++ drop next (items_in count lent solved)) (one_stacked p top stack h)

pub over_long : (j : Joints) (l : List Float) (b : ℕ) → length (joints_over j l b) ≡ length l
unfolding joints_over
over_long j l b = simp length-set

put_on : (l : List Joints) (k : ℕ) (j : Joints) → k < length l → drop k (set l k j) ≡ j ∷ drop (suc k) l
put_on l k j h =
    let b : k < length (set l k j) = rw length-set h in
    drop-cons (set l k j) k (joints_from []) b
    ∙ ap (λ (x : Joints). x ∷ drop (suc k) (set l k j)) (get_or-set_same l k j (joints_from []) h)
    ∙ ap (λ (r : List Joints). j ∷ r) (drop-set-lt (suc k) l k j (omega arith))

stack_put : (p : Prepared) (k : ℕ) (stack : List Float) (j : Joints) → k < 10000 → 50000 ≤ length stack
    → stacked p k (joints_over j stack (k * 5)) ≡ arrived p j ∷ stacked p (suc k) stack
unfolding stacked
stack_put p k stack j h b =
    let l = rows 5 joints_from 10000 stack in
    let q : k < length l = rw (length_rows 5 joints_from 10000 stack) h in
    ap (λ (z : List Float). map (arrived p) (drop k (rows 5 joints_from 10000 z))) (joints_sets j stack (k * 5))
    ∙ ap (λ (z : List Joints). map (arrived p) (drop k z)) (set_rows joints_codec 10000 stack k j h (omega arith))
    ∙ ap (map (arrived p)) (put_on l k j q)

pub put_waiting : (p : Prepared) (count top next : ℕ) (lent solved stack : List Float) (j : Joints) → 0 < top → top ≤ 10000 → 50000 ≤ length stack
    → waits p count (top - 1) next lent solved (joints_over j stack ((top - 1) * 5)) ≡ arrived p j ∷ waits p count top next lent solved stack
unfolding waits
put_waiting p count top next lent solved stack j a h b =
    let e : suc (top - 1) ≡ top = omega arith in
    ap (λ (z : List Item). z ++ drop next (items_in count lent solved)) (stack_put p (top - 1) stack j (omega arith) b
    ∙ ap (λ (i : ℕ). arrived p j ∷ stacked p i stack) e)

pub waits_first : (p : Prepared) (count : ℕ) (lent solved stack : List Float) → 0 < count → items_in count lent solved ≡ item_at lent solved 0 ∷ waits p count 10000 1 lent solved stack
unfolding waits
waits_first p count lent solved stack h =
    let l = items_in count lent solved in
    let k : 0 < length l = rw (items_length count lent solved) h in
    drop-cons l 0 absent k
    ∙ ap (λ (x : Item). x ∷ drop 1 l) (item_is count lent solved 0 h)
    ∙ ap (λ (a : List Item). item_at lent solved 0 ∷ (a ++ drop 1 l)) (sym (none_stacked p stack))

pub waits_none : (p : Prepared) (count top next : ℕ) (lent solved stack : List Float) → 10000 ≤ top → top ≤ 10000 → count ≤ next → waits p count top next lent solved stack ≡ []
unfolding waits
waits_none p count top next lent solved stack a b h =
    let e : top ≡ 10000 = omega arith in
    ap (λ (t : ℕ). stacked p t stack ++ drop next (items_in count lent solved)) e
    ∙ ap (λ (z : List Item). z ++ drop next (items_in count lent solved)) (none_stacked p stack)
    ∙ drop_of_length-le (items_in count lent solved) {i = next} (rw (items_length count lent solved) h)

-- what was put is the first that waits
read_back : (p : Prepared) (k : ℕ) (stack : List Float) (j : Joints) → k < 10000 → 50000 ≤ length stack → arrived p (joints_in (joints_over j stack (k * 5)) (k * 5)) ≡ arrived p j
read_back p k stack j h b = head-eq_of_cons-eq (sym (one_stacked p k (joints_over j stack (k * 5)) h) ∙ stack_put p k stack j h b)

pub first_put : (p : Prepared) (count top next : ℕ) (lent solved stack : List Float) (j : Joints) → 0 < top → top ≤ 10000 → 50000 ≤ length stack
    → first_waiting p count (top - 1) next lent solved (joints_over j stack ((top - 1) * 5)) ≡ arrived p j
unfolding first_waiting
first_put p count top next lent solved stack j a h b = rw (ne_eqb (top - 1) 10000 (λ e. absurd (omega arith))) (read_back p (top - 1) stack j (omega arith) b)
