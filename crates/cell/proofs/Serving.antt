-- 64 tests: a path that fits has a machine that runs in its outputs, and what it leaves stays within them.
use Prim.Native.Nat.{ℕ, ◌-◌, ◌≤◌, ◌<◌}
use native.Mathlib.Omega.{arith}
use mathlib.Core.Path.{◌≡◌, refl, sym, subst}
use mathlib.Core.Bool.{Bool, true, false, ◌&&◌, ◌||◌}
use mathlib.Core.List.{List}
use borrow.Author.Tests.{leb-true, ltb-true}
use lib.Dec.{eqb, leb, ltb}
use lib.Ieee.{Float}
use Rattle.std.specs.Prelude.{Err, Ok}
use Rattle.chain.proofs.ReadyLaws.{both}
use Rattle.chain.specs.declared.Prepared.{Prepared}
use Rattle.middle.specs.declared.Tolerances.{Tolerances}
use Rattle.turn.specs.Items.{space_in}
use Rattle.turn.specs.Turning.{Turn, most}
use Rattle.turn.specs.declared.Machine.{Machine}
use Rattle.slice.specs.Slicing.{sliced, Counts}
use Rattle.slice.proofs.Slices.{CountsOf, sliced_counts}
use Rattle.machine.specs.Dividing.{staying}
use Rattle.cell.specs.Turning.{counts_in, fits_in}
use Rattle.cell.specs.declared.Entry.{Entry}

-- ---- the numbers
pub counts_so : (space : ℕ) (m : Machine) → counts_in space m ≡ true → Counts space m
unfolding counts_in
counts_so space m h =
    let p = both (leb m.placed m.waiting && leb m.waiting space && leb m.given (space - m.waiting) && leb m.inserted most) _ h in
    let q = both (leb m.placed m.waiting && leb m.waiting space && leb m.given (space - m.waiting)) _ p.0 in
    let r = both (leb m.placed m.waiting && leb m.waiting space) _ q.0 in
    let s = both (leb m.placed m.waiting) _ r.0 in
    record {
      some_placed = some (ltb 0 m.placed) (ltb-true 0 m.placed) p.1;
      apart = leb-true m.placed m.waiting s.0;
      waits = leb-true m.waiting space s.1;
      given_last = leb-true m.given (space - m.waiting) r.1;
      few = leb-true m.inserted most q.1;
    }
  where
    some : (t : Bool) → (t ≡ true → 0 < m.placed) → (t || leb space m.waiting) ≡ true → m.waiting < space → 0 < m.placed
    some true f e k = f refl
    some false f e k = let z = leb-true space m.waiting e in absurd (omega arith)

pub fits_counts : (e : Entry) (a b : ℕ) → fits_in e a b ≡ true → Counts (space_in a b) e.machine
unfolding fits_in
fits_counts e a b h =
    let p = both (eqb e.room_poses a && eqb e.room_joints b) _ h in
    counts_so (space_in a b) e.machine p.1

-- ---- what settling asks
staying_small : (space : ℕ) (t : Turn) → CountsOf space t → staying t ≤ space
staying_small space (Ok m) c = let p = c.apart in let q = c.waits in omega arith
staying_small space (Err s) c = omega arith

pub settles : (p : Prepared) (tol : Tolerances) (space n : ℕ) (m : Machine) (poses joints : List Float) (t : Turn) → Counts space m → t ≡ (sliced n p tol space m poses joints).turn → staying t ≤ space
settles p tol space n m poses joints t c is = staying_small space t (subst (CountsOf space) (sym is) (sliced_counts p tol space n m poses joints c))
