-- Where one solution is closer, reached and within the limits, it is the answer of both: the other's position is finite
-- (Positions.antt), and its limits are not asked.
use mathlib.Core.Path.{◌≡◌, refl, ap, ◌∙◌}
use mathlib.Core.Bool.{Bool, true, false, cond, ◌&&◌, false≢true, and-eq-true_iff}
use mathlib.Core.Logic.{◌⊎◌, inl, inr}
use Rattle.std.specs.Prelude.{None, Ok, Option, Some}
use Rattle.std.specs.Option.{ForSome}
use Rattle.float.specs.Helpers.{nought}
use Rattle.float.specs.TotalOrder.{before}
use Rattle.geometry.specs.declared.Vec3.{Vec3}
use Rattle.geometry.proofs.Bounded.{SmallVec}
use Rattle.geometry.specs.Doubles.{FitVec}
use Rattle.chain.specs.Doubles.{SpinFits, PreparedFits}
use Rattle.chain.specs.declared.Joints.{Joints}
use Rattle.chain.specs.declared.Prepared.{Prepared}
use Rattle.chain.specs.declared.Spin.{Spin}
use Rattle.chain.specs.Check.{within, all_within, longest}
use Rattle.chain.specs.Forward.{of_second}
use Rattle.inverse.specs.Wraps.{same_angles}
use Rattle.inverse.specs.Inverse.{pose_at, misses, joints_at}
use Rattle.inverse.specs.declared.Angles.{Angles}
use Rattle.path.specs.Unwinding.{unwind_angles, inside, has_second}
use Rattle.path.specs.Locking.{within_limits}
use Rattle.path.specs.Exact.{reached_by, angles_of, repeats, second_candidate, unwound, ranked, ranks_before, closest_or_other, of_ranked, alone, both, of_candidates, of_positions, of_raw}
use Rattle.path.specs.Closest.{bounded_spin, bounded, turned_to, kept_at, kept_of, kept, distance, closer, closest_alone}
use Rattle.path.specs.declared.Bounds.{Bounds}
use Rattle.path.specs.declared.Setup.{Setup}
use Rattle.path.proofs.Positions.{SmallOf, SmallSecond, SmallChain, within_small, candidate_finite}

vec_small : (v : Vec3) → FitVec v → all_within v longest ≡ true → SmallVec 17 v
unfolding all_within
vec_small v F h =
    let xyz = (and-eq-true_iff (within v.x longest && within v.y longest) (within v.z longest)).0 h in
    let xy = (and-eq-true_iff (within v.x longest) (within v.y longest)).0 xyz.0 in
    (within_small v.x F.0 xy.0, within_small v.y F.1 xy.1, within_small v.z F.2 xyz.1)

-- ---- what is bounded is small
spin_small : (s : Spin) → SpinFits s → bounded_spin s ≡ true → SmallOf s
spin_small s F h = let w = (and-eq-true_iff (all_within s.axis longest) (all_within s.pivot longest)).0 h in (vec_small s.axis F.0 w.0, vec_small s.pivot F.1 w.1)

second_small : (o : Option Spin) → ForSome o SpinFits → of_second o true bounded_spin ≡ true → SmallSecond o
second_small (Some s) F h = spin_small s (F s refl) h
second_small None F h = tt

chain_small : (p : Prepared) → PreparedFits p → bounded p ≡ true → SmallChain p
unfolding bounded
chain_small p F h =
    let first = bounded_spin p.first in
    let second = of_second p.second true bounded_spin in
    let all = (and-eq-true_iff (first && second) (all_within p.spindle longest)).0 h in
    let two = (and-eq-true_iff first second).0 all.0 in
    record {
      first = spin_small p.first F.0 two.0;
      second = second_small p.second F.1 two.1;
      spindle = vec_small p.spindle F.2 all.1;
    }

-- ---- a candidate has the angles that it was made from
abbrev Of : Angles → Option Joints → Type 0
Of angles (Some j) = angles_of j ≡ angles
Of angles None = Unit {0}

reached_of : (p : Prepared) (target tip : Vec3) (angles : Angles) → Of angles (reached_by p target tip angles)
unfolding reached_by joints_at
reached_of p target tip angles = go (misses (pose_at p angles nought).axis target)
  where
    go : (b : Bool) → Of angles (cond b None (Some (joints_at p angles tip (pose_at p angles nought).tip)))
    go true = tt
    go false = refl

not_repeated : (one two : Angles) (c : Option Joints) → Of one c → same_angles one two ≡ false → repeats c (Some two) ≡ false
not_repeated one two (Some j) o h = ap (λ (a : Angles). same_angles a two) o ∙ h
not_repeated one two None o h = refl

-- ---- what is kept is inside
abbrev is_at : Option Joints → Bool
is_at (Some j) = true
is_at None = false

nothing_kept : {u : Joints} → None ≡ Some u → ⊥
nothing_kept h = false≢true (ap is_at h)

kept_is : (b : Bounds) (j u : Joints) (angles : Angles) → kept_at b j angles ≡ Some u → (inside b (turned_to j angles) ≡ true) × (turned_to j angles ≡ u)
unfolding kept_at
kept_is b j u angles h = go (inside b (turned_to j angles)) h
  where
    joints_or : Joints → Option Joints → Joints
    joints_or d (Some j) = j
    joints_or d None = d

    go : (t : Bool) → cond t (Some (turned_to j angles)) None ≡ Some u → (t ≡ true) × (turned_to j angles ≡ u)
    go true h = (refl, ap (joints_or u) h)
    go false h = absurd (nothing_kept h)

alone_is : (b : Bounds) (previous : Angles) (j u : Joints) → kept_at b j (unwind_angles (has_second b) (angles_of j) previous) ≡ Some u → alone b previous j ≡ Ok u
unfolding alone unwound within_limits
alone_is b previous j u h = let k = kept_is b j u (unwind_angles (has_second b) (angles_of j) previous) h in rw (k.0, k.1)

-- the first of two is closer, and the second
both_first : (b : Bounds) (previous : Angles) (j k u : Joints) → before (distance (has_second b) previous (angles_of k)) (distance (has_second b) previous (angles_of j)) ≡ false → before (distance (has_second b) previous (angles_of j)) (distance (has_second b) previous (angles_of k)) ≡ true
    → kept_at b j (unwind_angles (has_second b) (angles_of j) previous) ≡ Some u → both b previous j k ≡ Ok u
unfolding both of_ranked ranked ranks_before unwound closest_or_other
both_first b previous j k u f n h = let i = kept_is b j u (unwind_angles (has_second b) (angles_of j) previous) h in rw (f, n, i.0, i.1)

both_second : (b : Bounds) (previous : Angles) (j k u : Joints) → before (distance (has_second b) previous (angles_of k)) (distance (has_second b) previous (angles_of j)) ≡ true
    → kept_at b k (unwind_angles (has_second b) (angles_of k) previous) ≡ Some u → both b previous j k ≡ Ok u
unfolding both of_ranked ranked ranks_before unwound closest_or_other
both_second b previous j k u f h = let i = kept_is b k u (unwind_angles (has_second b) (angles_of k) previous) h in rw (f, i.0, i.1)

-- ---- of any two candidates of these angles
module _ (b : Bounds) (previous one two : Angles) (u : Joints) where
  first_enough : (c d : Option Joints) → Of one c → Of two d → before (distance (has_second b) previous two) (distance (has_second b) previous one) ≡ false → before (distance (has_second b) previous one) (distance (has_second b) previous two) ≡ true
      → kept_of b (unwind_angles (has_second b) one previous) c ≡ Some u → of_candidates b previous c d ≡ Ok u
  first_enough (Some j) (Some k) o q f n h =
      both_first b previous j k u (ap (λ (a : Angles). before (distance (has_second b) previous a) (distance (has_second b) previous (angles_of j))) q ∙ ap (λ (a : Angles). before (distance (has_second b) previous two) (distance (has_second b) previous a)) o ∙ f)
      (ap (λ (a : Angles). before (distance (has_second b) previous a) (distance (has_second b) previous (angles_of k))) o ∙ ap (λ (a : Angles). before (distance (has_second b) previous one) (distance (has_second b) previous a)) q ∙ n)
      (ap (λ (a : Angles). kept_at b j (unwind_angles (has_second b) a previous)) o ∙ h)
  first_enough (Some j) None o q f n h = alone_is b previous j u (ap (λ (a : Angles). kept_at b j (unwind_angles (has_second b) a previous)) o ∙ h)
  first_enough None d o q f n h = absurd (nothing_kept h)

  second_enough : (c d : Option Joints) → Of one c → Of two d → before (distance (has_second b) previous two) (distance (has_second b) previous one) ≡ true
      → kept_of b (unwind_angles (has_second b) two previous) d ≡ Some u → of_candidates b previous c d ≡ Ok u
  second_enough (Some j) (Some k) o q f h =
      both_second b previous j k u (ap (λ (a : Angles). before (distance (has_second b) previous a) (distance (has_second b) previous (angles_of j))) q ∙ ap (λ (a : Angles). before (distance (has_second b) previous two) (distance (has_second b) previous a)) o ∙ f)
      (ap (λ (a : Angles). kept_at b k (unwind_angles (has_second b) a previous)) q ∙ h)
  second_enough None (Some k) o q f h = alone_is b previous k u (ap (λ (a : Angles). kept_at b k (unwind_angles (has_second b) a previous)) q ∙ h)
  second_enough (Some j) None o q f h = absurd (nothing_kept h)
  second_enough None None o q f h = absurd (nothing_kept h)

-- ---- the law
either : (t : Bool) (c d e : Option Joints) → cond t c d ≡ e → ((t ≡ true) × (c ≡ e)) ⊎ ((t ≡ false) × (d ≡ e))
either true c d e h = inl (refl, h)
either false c d e h = inr (refl, h)

module _ (s : Setup) (target tip : Vec3) (previous one two : Angles) (u : Joints) where
  closer_enough : closer s target tip previous one two ≡ Some u → of_candidates s.bounds previous (reached_by s.chain target tip one) (reached_by s.chain target tip two) ≡ Ok u
  unfolding closer kept
  closer_enough h = go (either (before (distance (has_second s.bounds) previous two) (distance (has_second s.bounds) previous one)) _ _ _ h)
    where
      go :
          ((before (distance (has_second s.bounds) previous two) (distance (has_second s.bounds) previous one) ≡ true) × (kept s target tip two (unwind_angles (has_second s.bounds) two previous) ≡ Some u))
          ⊎ ((before (distance (has_second s.bounds) previous two) (distance (has_second s.bounds) previous one) ≡ false)
          × (cond (before (distance (has_second s.bounds) previous one) (distance (has_second s.bounds) previous two)) (kept s target tip one (unwind_angles (has_second s.bounds) one previous)) None ≡ Some u))
          → of_candidates s.bounds previous (reached_by s.chain target tip one) (reached_by s.chain target tip two) ≡ Ok u
      go (inl (f, k)) = second_enough s.bounds previous one two u (reached_by s.chain target tip one) (reached_by s.chain target tip two) (reached_of s.chain target tip one) (reached_of s.chain target tip two) f k
      go (inr (f, k)) = on (either (before (distance (has_second s.bounds) previous one) (distance (has_second s.bounds) previous two)) _ _ _ k)
        where
          on :
              ((before (distance (has_second s.bounds) previous one) (distance (has_second s.bounds) previous two) ≡ true) × (kept s target tip one (unwind_angles (has_second s.bounds) one previous) ≡ Some u))
              ⊎ ((before (distance (has_second s.bounds) previous one) (distance (has_second s.bounds) previous two) ≡ false) × (None ≡ Some u))
              → of_candidates s.bounds previous (reached_by s.chain target tip one) (reached_by s.chain target tip two) ≡ Ok u
          on (inl (n, k)) = first_enough s.bounds previous one two u (reached_by s.chain target tip one) (reached_by s.chain target tip two) (reached_of s.chain target tip one) (reached_of s.chain target tip two) f n k
          on (inr (n, k)) = absurd (nothing_kept k)

  pair_enough : SmallChain s.chain → SmallVec 17 tip → closest_alone s target tip previous (Some one) (Some two) ≡ Some u → of_raw s target tip previous (Some one) (Some two) ≡ Ok u
  unfolding of_raw of_positions second_candidate
  pair_enough P A h = unlike (either (same_angles one two) _ _ _ h)
    where
      unlike : ((same_angles one two ≡ true) × (None ≡ Some u)) ⊎ ((same_angles one two ≡ false) × (closer s target tip previous one two ≡ Some u)) → of_raw s target tip previous (Some one) (Some two) ≡ Ok u
      unlike (inl (e, k)) = absurd (nothing_kept k)
      unlike (inr (e, k)) =
          rw (not_repeated one two (reached_by s.chain target tip one) (reached_of s.chain target tip one) e, candidate_finite s.chain target tip P A (Some one), candidate_finite s.chain target tip P A (Some two))
          (closer_enough k)

of_small : (s : Setup) (target tip : Vec3) (previous : Angles) (one two : Option Angles) (u : Joints) → SmallChain s.chain → SmallVec 17 tip → closest_alone s target tip previous one two ≡ Some u → of_raw s target tip previous one two ≡ Ok u
of_small s target tip previous (Some one) (Some two) u P A h = pair_enough s target tip previous one two u P A h
of_small s target tip previous (Some one) None u P A h = absurd (nothing_kept h)
of_small s target tip previous None two u P A h = absurd (nothing_kept h)

pub one_enough : (s : Setup) (target tip : Vec3) (previous : Angles) (one two : Option Angles) (u : Joints) → PreparedFits s.chain → bounded s.chain ≡ true → FitVec tip → all_within tip longest ≡ true
    → closest_alone s target tip previous one two ≡ Some u → of_raw s target tip previous one two ≡ Ok u
one_enough s target tip previous one two u F b G w h = of_small s target tip previous one two u (chain_small s.chain F b) (vec_small tip G w) h
