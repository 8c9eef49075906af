-- What checks that passed say of the lengths and the index.
use Prim.Native.Nat.{ℕ, ◌*◌, ◌/◌, ◌%◌, ◌<◌}
use mathlib.Core.Path.{◌≡◌}
use mathlib.Core.Bool.{true, ◌&&◌, and-eq-true_iff}
use mathlib.Core.List.{List}
use borrow.Author.Tests.{ltb-true, eqb-true}
use lib.Dec.{ltb, eqb}
use lib.ListN.{length}
use lib.Ieee.{Float}
use Rattle.std.specs.Prelude.{Ok}
use Rattle.refusal.specs.declared.Cause.{Cause}
use Rattle.chain.specs.Check.{demand}
use Rattle.chain.proofs.Passing.{then_passed, demand_passed}
use Rattle.extremes.specs.Summary.{group_count}
use Rattle.extremes.specs.Checking.{lengths_good, replace_good, ask_good, build_check, replace_check, ask_check}

summary_good : (joints summary : ℕ) → lengths_good joints summary ≡ true → summary ≡ group_count (joints / 5) * 10
unfolding lengths_good
summary_good joints summary e =
    eqb-true summary (group_count (joints / 5) * 10) ((and-eq-true_iff (eqb (joints % 5) 0) (eqb summary (group_count (joints / 5) * 10))).0 e).1

pub build_lengths : (joints : List Float) (summary : ℕ) → build_check joints summary ≡ Ok tt → summary ≡ group_count (length joints / 5) * 10
unfolding build_check
build_lengths joints summary e =
    summary_good (length joints) summary (demand_passed _ _ _ (then_passed (demand (lengths_good (length joints) summary) Cause.LengthsDiffer 0) _ e).0)

-- the index, the new joint set, and the summary
pub good_lengths : (joints summary index fresh : ℕ) → replace_good joints summary index fresh ≡ true → (index < joints / 5) × ((fresh ≡ 5) × (summary ≡ group_count (joints / 5) * 10))
unfolding replace_good
good_lengths joints summary index fresh e =
    let p = (and-eq-true_iff (lengths_good joints summary && eqb fresh 5) (ltb index (joints / 5))).0 e in
    let q = (and-eq-true_iff (lengths_good joints summary) (eqb fresh 5)).0 p.0 in
    (ltb-true index (joints / 5) p.1, (eqb-true fresh 5 q.1, summary_good joints summary q.0))

pub replace_lengths : (joints summary index : ℕ) (fresh : List Float) → replace_check joints summary index fresh ≡ Ok tt
    → (index < joints / 5) × ((length fresh ≡ 5) × (summary ≡ group_count (joints / 5) * 10))
unfolding replace_check
replace_lengths joints summary index fresh e =
    good_lengths joints summary index (length fresh) (demand_passed _ _ _ (then_passed (demand (replace_good joints summary index (length fresh)) Cause.LengthsDiffer 0) _ e).0)

asked_lengths : (joints summary rotary : ℕ) → ask_good joints summary rotary ≡ true → summary ≡ group_count (joints / 5) * 10
unfolding ask_good
asked_lengths joints summary rotary e = summary_good joints summary ((and-eq-true_iff (lengths_good joints summary) (ltb rotary 2)).0 e).0

pub ask_lengths : (joints summary rotary : ℕ) (angle : Float) → ask_check joints summary rotary angle ≡ Ok tt → summary ≡ group_count (joints / 5) * 10
unfolding ask_check
ask_lengths joints summary rotary angle e =
    asked_lengths joints summary rotary (demand_passed _ _ _ (then_passed (demand (ask_good joints summary rotary) Cause.LengthsDiffer 0) _ e).0)
