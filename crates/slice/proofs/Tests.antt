-- So many turns, and then the machine goes on: each of them placed an item or inserted one.
use Prim.Native.Nat.{ℕ, zero, suc, ◌+◌, ◌≤◌, ◌<◌}
use native.Mathlib.Omega.{arith}
use mathlib.Core.Path.{◌≡◌, refl, sym, ap, ◌∙◌}
use mathlib.Core.Bool.{Bool, true, false, cond, false≢true}
use mathlib.Core.List.{List}
use borrow.Author.Tests.{leb-true}
use lib.Dec.{eqb, leb}
use lib.Ieee.{Float}
use Rattle.std.specs.Prelude.{None, Option, Some, Err, Ok}
use Rattle.geometry.specs.declared.Vec3.{Vec3}
use Rattle.chain.specs.declared.Prepared.{Prepared}
use Rattle.middle.specs.declared.Item.{Item}
use Rattle.middle.specs.declared.Tolerances.{Tolerances}
use Rattle.turn.specs.declared.Machine.{Machine}
use Rattle.turn.specs.declared.Stop.{Stop}
use Rattle.turn.specs.Turning.{most, given_next, past_given, past_inserted, past, with_midpoint, inserting, Turn, turn_by, verdict_at, turn, poses_after, joints_after}
use Rattle.slice.specs.Slicing.{Slice, stopped, going_on, sliced}
use Rattle.slice.proofs.Slices.{is_on, on_in}

-- what the tests so far have placed and inserted
abbrev pub done : Machine → ℕ
done m = m.placed + m.inserted

module _ (p : Prepared) (tol : Tolerances) (space : ℕ) where
  past_one : (m : Machine) (axis : Vec3) (joints : List Float) → done (past p space m axis joints) ≡ done m + 1
  unfolding past past_given past_inserted
  past_one m axis joints = go (given_next space m)
    where
      go : (t : Bool) → done (cond t (past_given p m axis joints) (past_inserted m axis)) ≡ done m + 1
      go true = omega arith
      go false = omega arith

  inserting_one : (m next : Machine) → inserting m ≡ Ok next → done next ≡ done m + 1
  unfolding inserting with_midpoint
  inserting_one m next e = go (eqb m.inserted most) (eqb m.placed m.waiting) e
    where
      go : (s t : Bool) → cond s (Err (Stop.TooMany m.inserted)) (cond t (Err (Stop.NoSpace m.inserted)) (Ok (with_midpoint m))) ≡ Ok next → done next ≡ done m + 1
      go true t e = absurd (false≢true (ap is_on e))
      go false true e = absurd (false≢true (ap is_on e))
      go false false e = let h : done next ≡ m.placed + (m.inserted + 1) = sym (ap (λ (t : Turn). done (on_in m t)) e) in omega (arith, h)

  by_one : (m : Machine) (axis : Vec3) (joints : List Float) (v : Option Item) (next : Machine) → turn_by p space m axis joints v ≡ Ok next → done next ≡ done m + 1
  by_one m axis joints None next e = sym (ap (λ (t : Turn). done (on_in m t)) e) ∙ past_one m axis joints
  by_one m axis joints (Some middle) next e = inserting_one m next e

  turn_one : (m : Machine) (poses joints : List Float) (next : Machine) → turn p tol space m poses joints ≡ Ok next → done next ≡ done m + 1
  unfolding turn
  turn_one m poses joints next e = by_one m _ joints (verdict_at p tol space m poses joints) next e

  abbrev pub Tested : ℕ → ℕ → Slice → Type 0
  Tested n k s = (next : Machine) → s.turn ≡ Ok next → next.waiting < space → done next ≡ k + n

  -- a slice that goes on had all its tests
  pub tests_all : (n : ℕ) (m : Machine) (poses joints : List Float) → Tested n (done m) (sliced n p tol space m poses joints)
  unfolding sliced
  tests_all zero m poses joints = λ next e h. let z : done next ≡ done m = sym (ap (λ (t : Turn). done (on_in m t)) e) in omega (arith, z)
  tests_all (suc n) m poses joints = by_waiting (leb space m.waiting) (leb-true space m.waiting) (tests_all n)
    where
      ps : List Float
      ps = poses_after p tol space m poses joints

      js : List Float
      js = joints_after p tol space m poses joints

      by_turn : (t : Turn) → turn p tol space m poses joints ≡ t → ((k : Machine) (x y : List Float) → Tested n (done k) (sliced n p tol space k x y))
          → Tested (suc n) (done m) (going_on (sliced n p tol space) t ps js)
      by_turn (Ok k) is ih next e h = let a = turn_one m poses joints k is in let b = ih k ps js next e h in omega (arith, a, b)
      by_turn (Err s) is ih next e h = absurd (false≢true (ap is_on e))

      by_waiting : (t : Bool) → (t ≡ true → space ≤ m.waiting) → ((k : Machine) (x y : List Float) → Tested n (done k) (sliced n p tol space k x y))
          → Tested (suc n) (done m) (cond t (stopped (Ok m) poses joints) (going_on (sliced n p tol space) (turn p tol space m poses joints) ps js))
      by_waiting true f ih next e h = let a = f refl in let z : next.waiting ≡ m.waiting = sym (ap (λ (t : Turn). (on_in m t).waiting) e) in absurd (omega (arith, a, z, h))
      by_waiting false f ih next e h = by_turn (turn p tol space m poses joints) refl ih next e h
