-- A division that is accepted is accepted with looser tolerances, and inserts no other poses: `never_dearer`. With the
-- Rust's test in place of the strict one the same tolerances are looser: `plain_not_below`.
use Prim.Native.Nat.{ℕ}
use mathlib.Core.Path.{◌≡◌}
use mathlib.Core.Bool.{true, false≢true}
use mathlib.Core.List.{List}
use lib.Ieee as Ieee
use lib.Ieee.{Float}
use lib.Ieee.Scale.{finite}
use Rattle.float.specs.Helpers.{nought}
use Rattle.float.proofs.Order.{le_refl, le_right, lt_le, lt_le_trans}
use Rattle.chain.specs.declared.Kinematics.{Kinematics}
use Rattle.chain.specs.Prepared.{prepared}
use Rattle.chain.proofs.ReadyLaws.{both}
use Rattle.halving.specs.Halving.{Done}
use Rattle.halving.proofs.Looser.{looser_done}
use Rattle.middle.specs.declared.Item.{Item}
use Rattle.middle.specs.declared.Tolerances.{Tolerances}
use Rattle.middle.specs.Testing.{midpoint, divides, plain}
use Rattle.turn.specs.Items.{space_in}
use Rattle.turn.specs.Turning.{most}
use Rattle.looser.proofs.LooserTest.{divides_looser}
use Rattle.divide.specs.Checking.{tolerance_good}
use Rattle.divide.specs.Subdividing.{Halved, given, subdivide_path}
use Rattle.divide.specs.Looser.{NotBelow, NeverDearer}
use Rattle.divide.proofs.Accepted.{accepted_parts, accepted_of}

good_looser : (a b : Float) → finite b ≡ true → Ieee.le a b ≡ true → tolerance_good a ≡ true → tolerance_good b ≡ true
unfolding tolerance_good
good_looser a b f l g = rw (f, lt_le_trans nought a b (both (finite a) (Ieee.lt nought a) g).1 l)

good_self : (x : Float) → tolerance_good x ≡ true → (finite x ≡ true) × (Ieee.le x x ≡ true)
unfolding tolerance_good
good_self x g =
    let q = both (finite x) (Ieee.lt nought x) g in
    (q.0, le_refl x (le_right nought x (lt_le nought x q.1)))

-- the same tolerances with the Rust's test
pub plain_not_below : (tol : Tolerances) → tolerance_good tol.chord ≡ true → tolerance_good tol.axis ≡ true → NotBelow tol (plain tol)
plain_not_below tol g h =
    let chord = good_self tol.chord g in
    let axis = good_self tol.axis h in
    record { chord_finite = chord.0; axis_finite = axis.0; chord = chord.1; axis = axis.1; no_stricter = λ e. absurd (false≢true e) }

module _ (k : Kinematics) (tol wider : Tolerances) (h : NotBelow tol wider) (lent solved : List Float) (roomPoses roomJoints n : ℕ) (r : List Item) where
  pub never_dearer : subdivide_path k tol lent solved roomPoses roomJoints ≡ Halved (Done n r) → NeverDearer k tol wider lent solved roomPoses roomJoints n r
  never_dearer e =
      let p = prepared k in
      let a = accepted_parts k tol lent solved roomPoses roomJoints n r e in
      let f = looser_done (divides p tol) (divides p wider) (midpoint p) (divides_looser tol wider h.chord h.axis h.no_stricter p) (space_in roomPoses roomJoints) most 0 n (given lent solved) r a.room a.done in
      let c = a.checks in
      record {
        count = f.count;
        result = f.then.shorter;
        accepted = accepted_of k wider lent solved roomPoses roomJoints f.count f.then.shorter
            (record {
              checks = record {
                whole_is = c.whole_is;
                chord_is = good_looser tol.chord wider.chord h.chord_finite h.chord c.chord_is;
                axis_is = good_looser tol.axis wider.axis h.axis_finite h.axis c.axis_is;
                as_many_is = c.as_many_is;
                chain_is = c.chain_is;
                finite_is = c.finite_is;
                sizes_is = c.sizes_is;
              };
              room = a.room;
              done = f.accepted;
            });
        no_more = f.no_more;
        before = f.inserted;
        then = f.then.fewer;
        inserted_before = f.before;
        inserted_then = f.then.inserts;
        among = f.then.among;
      }
