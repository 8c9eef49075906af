use Rattle.std.proofs.Common.{◌≡◌, ℕ, Bool, true, false, cond, ltb, refl, arith, ltb-true, ltb-false}
use Prim.Native.Nat.{max}
use Rattle.chain.specs.Check.{joints_finite, joints_within}
use Rattle.job.specs.Cable.{surveyed, wind_of, also, larger}
use Rattle.job.proofs.winding.surveyed.Goals as goal
use Rattle.job.proofs.winding.surveyed.Goals.{then-s, else-s, then-s-2, else-s-2}

larger_is : (a b : ℕ) → max a b ≡ larger a b
unfolding larger
larger_is a b = by_test (ltb a b) refl
  where
    by_test : (t : Bool) → ltb a b ≡ t → max a b ≡ cond t b a
    by_test true e = omega (arith, ltb-true)
    by_test false e = omega (arith, ltb-false)

pub returns : goal.returns
unfolding surveyed wind_of also larger
returns c =
    let finite : c.if-s.result ≡ also c.args.s.finite (joints_finite c.args.j) = elim c.if-s.branch [
      | then-s w ↦ rw (w.result-is, w.joints_finite.ensures, w.if-s.true)
      | else-s w ↦ rw (w.result-is, w.if-s.false)
    ] in
    let within : c.if-s-2.result ≡ also c.args.s.within (joints_within c.args.j) = elim c.if-s-2.branch [
      | then-s-2 w ↦ rw (w.result-is, w.joints_within.ensures, w.if-s-2.true)
      | else-s-2 w ↦ rw (w.result-is, w.if-s-2.false)
    ] in
    rw (finite, within, c.max.ensures, c.turns_within.ensures, c.angle.ensures, larger_is)
