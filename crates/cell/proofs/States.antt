-- What the tests of a state that pass say of it.
use Prim.Native.Nat.{ℕ, ◌≤◌, ◌<◌}
use mathlib.Core.Path.{◌≡◌}
use mathlib.Core.Bool.{true}
use mathlib.Core.List.{List}
use borrow.Author.Tests.{eqb-true, leb-true, ltb-true}
use lib.Dec.{eqb, leb, ltb}
use lib.ListN.{length}
use lib.Ieee.{Float}
use Rattle.std.specs.Prelude.{Ok}
use Rattle.refusal.specs.declared.Cause.{Cause}
use Rattle.chain.specs.Check.{demand}
use Rattle.chain.proofs.ReadyLaws.{both}
use Rattle.chain.proofs.Passing.{then_passed, demand_passed}
use Rattle.cell.specs.State.{count_in, state_long, state_good}
use Rattle.cell.specs.Admitting.{state_check}

pub long_parts : (words : List ℕ) (numbers : List Float) → state_long words numbers ≡ true → (length words ≡ 145) × (length numbers ≡ 368)
unfolding state_long
long_parts words numbers h =
    let p = both (eqb (length words) 145) (eqb (length numbers) 368) h in
    (eqb-true (length words) 145 p.0, eqb-true (length numbers) 368 p.1)

pub state_parts : (words : List ℕ) (numbers : List Float) → state_good words numbers ≡ true → (length words ≡ 145) × ((length numbers ≡ 368) × (count_in words ≤ 16))
unfolding state_good
state_parts words numbers h =
    let p = both (state_long words numbers) (leb (count_in words) 16) h in
    let q = long_parts words numbers p.0 in
    (q.0, (q.1, leb-true (count_in words) 16 p.1))

pub state_passed : (words : List ℕ) (numbers : List Float) → state_check words numbers ≡ Ok tt → (length words ≡ 145) × ((length numbers ≡ 368) × (count_in words < 16))
unfolding state_check
state_passed words numbers e =
    let a = then_passed (demand (state_long words numbers) Cause.LengthsDiffer 0) _ e in
    let q = long_parts words numbers (demand_passed (state_long words numbers) Cause.LengthsDiffer 0 a.0) in
    (q.0, (q.1, ltb-true (count_in words) 16 (demand_passed (ltb (count_in words) 16) Cause.QueueFull 0 a.1)))
