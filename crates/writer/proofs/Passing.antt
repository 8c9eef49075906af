-- What a list of checks that passed says of the job.
use Prim.Native.Nat.{ℕ, ◌*◌, ◌/◌, ◌%◌, ◌≤◌}
use native.Mathlib.Omega.{arith}
use mathlib.Core.Path.{◌≡◌}
use mathlib.Core.Bool.{Bool, true, false, cond, ◌&&◌, and-eq-true_iff, false≢true}
use mathlib.Core.List.{List}
use borrow.Author.Tests.{eqb-true, leb-true}
use lib.Dec.{eqb, leb}
use lib.ListN.{length}
use lib.Ieee.{Float}
use lib.Ieee.Scale.{finite}
use Rattle.std.specs.Prelude.{None, Ok, Option, Some}
use Rattle.lists.specs.Search.{all}
use Rattle.refusal.specs.declared.Cause.{Cause}
use Rattle.chain.specs.declared.RotaryJoint.{RotaryJoint}
use Rattle.chain.specs.declared.Kinematics.{Kinematics}
use Rattle.chain.specs.Check.{demand, one_or_two, known_letter, rotary_check, second_check, chain_check, chain_within}
use Rattle.chain.proofs.Passing.{then_passed, demand_passed}
use Rattle.path.specs.Solving.{cone_good, poses_in}
use Rattle.middle.specs.declared.Tolerances.{Tolerances}
use Rattle.divide.specs.Checking.{tolerance_good, tip_within}
use Rattle.writer.specs.Checking.{length_of, write_sizes, in_order, write_check}

-- ---- the list
pub record Listed (k : Kinematics) (a f s r : Bool) : Type 0 where
  pub whole : a ≡ true
  pub chain : chain_check k ≡ Ok tt
  pub finite : f ≡ true
  pub sizes : s ≡ true
  pub space : r ≡ true

pub order_passed : (k : Kinematics) (whole cone chord axis finite sizes space : Bool) → in_order k whole cone chord axis finite sizes space ≡ Ok tt → Listed k whole finite sizes space
unfolding in_order
order_passed k whole cone chord axis finite sizes space e =
    let a = then_passed (demand whole Cause.LengthsDiffer 0) _ e in
    let b = then_passed (chain_check k) _ a.1 in
    let c = then_passed (demand cone Cause.Cone 0) _ b.1 in
    let d = then_passed (demand chord Cause.Tolerance 0) _ c.1 in
    let f = then_passed (demand axis Cause.Tolerance 0) _ d.1 in
    let g = then_passed (demand finite Cause.NotFinite 0) _ f.1 in
    let h = then_passed (demand sizes Cause.TooLarge 0) _ g.1 in
    record {
      whole = demand_passed whole Cause.LengthsDiffer 0 a.0;
      chain = b.0;
      finite = demand_passed finite Cause.NotFinite 0 g.0;
      sizes = demand_passed sizes Cause.TooLarge 0 h.0;
      space = demand_passed space Cause.NoSpace 0 h.1;
    }

-- ---- the chain
letter_known : (j : RotaryJoint) (earlier : Option ℕ) (i : ℕ) → rotary_check j earlier i ≡ Ok tt → known_letter j.letter ≡ true
unfolding rotary_check
letter_known j earlier i e = demand_passed _ _ _ (then_passed (demand (known_letter j.letter) Cause.RotaryLetter i) _ e).0

pub record Lettered (k : Kinematics) : Type 0 where
  pub counted : one_or_two k.count ≡ true
  pub first : known_letter k.first.letter ≡ true
  pub second : eqb k.count 2 ≡ true → known_letter k.second.letter ≡ true

pub letters : (k : Kinematics) → chain_check k ≡ Ok tt → Lettered k
unfolding chain_check second_check
letters k e =
    let a = then_passed (demand (one_or_two k.count) Cause.RotaryCount 0) _ e in
    let b = then_passed (rotary_check k.first None 0) _ a.1 in
    let c = then_passed (cond (eqb k.count 2) (rotary_check k.second (Some k.first.letter) 1) (Ok tt)) _ b.1 in
    record {
      counted = demand_passed _ _ _ a.0;
      first = letter_known k.first None 0 b.0;
      second = second (eqb k.count 2) c.0;
    }
  where
    second : (t : Bool) → cond t (rotary_check k.second (Some k.first.letter) 1) (Ok tt) ≡ Ok tt → t ≡ true → known_letter k.second.letter ≡ true
    second true e h = letter_known k.second (Some k.first.letter) 1 e
    second false e h = absurd (false≢true h)

-- ---- the job
pub record Accepted (k : Kinematics) (poses : List Float) (room : ℕ) : Type 0 where
  pub whole : length poses ≡ 6 * (length poses / 6)
  pub lettered : Lettered k
  pub short : length_of k poses ≤ 65536
  pub fits : length_of k poses ≤ room

pub accepted : (k : Kinematics) (poses : List Float) (cone : Float) (tol : Tolerances) (room : ℕ) → write_check k poses cone tol room ≡ Ok tt → Accepted k poses room
unfolding write_check write_sizes
accepted k poses cone tol room e =
    let l =
    order_passed k (eqb (length poses % 6) 0) (cone_good cone) (tolerance_good tol.chord) (tolerance_good tol.axis) (all finite poses)
    (chain_within k && all tip_within (poses_in poses) && leb (length_of k poses) 65536) (leb (length_of k poses) room) e
    in
    let s = (and-eq-true_iff (chain_within k && all tip_within (poses_in poses)) (leb (length_of k poses) 65536)).0 l.sizes in
    let r = eqb-true (length poses % 6) 0 l.whole in
    record {
      whole = omega (arith, r);
      lettered = letters k l.chain;
      short = leb-true _ _ s.1;
      fits = leb-true _ _ l.space;
    }
