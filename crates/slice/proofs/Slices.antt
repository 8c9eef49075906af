-- Turn after turn: the machine's numbers stay within the space whatever the outputs hold, and the loop's law.
use Prim.Native.Nat.{ℕ, zero, suc, ◌+◌, ◌-◌, ◌≤◌, ◌<◌}
use native.Mathlib.Nat.{sub-zero}
use native.Mathlib.Omega.{arith}
use mathlib.Core.Path.{◌≡◌, refl, sym, ap, ◌∙◌, subst}
use mathlib.Core.Bool.{Bool, true, false, cond, false≢true}
use mathlib.Core.List.{List}
use borrow.Author.Tests.{eqb-true, eqb-false, leb-false, le-leb, lt-leb}
use lib.Arith.{lt_of_le-ne}
use lib.Dec.{eqb, leb}
use lib.ListN.{length}
use lib.Ieee.{Float}
use Rattle.std.specs.Prelude.{None, Option, Some, Err, Ok}
use Rattle.geometry.specs.declared.Vec3.{Vec3}
use Rattle.chain.specs.declared.Prepared.{Prepared}
use Rattle.middle.specs.declared.Item.{Item}
use Rattle.middle.specs.declared.Tolerances.{Tolerances}
use Rattle.turn.specs.declared.Machine.{Machine}
use Rattle.turn.specs.declared.Stop.{Stop}
use Rattle.turn.specs.declared.outputs.Outputs.{Outputs}
use Rattle.turn.specs.Lent.{Same, Left}
use Rattle.turn.specs.Turning.{most, given_next, past_given, past_inserted, past, before, with_midpoint, inserting, Turn, turn_by, verdict_at, turn, poses_after, joints_after, Runs}
use Rattle.turn.proofs.Lent.{same_alone, same_then, left_same}
use Rattle.turn.proofs.Running.{poses_after_long, joints_after_long}
use Rattle.slice.specs.Slicing.{Slice, stopped, going_on, sliced, Counts}

-- ---- the numbers
abbrev pub is_on : Turn → Bool
is_on (Ok m) = true
is_on (Err s) = false

abbrev pub on_in : Machine → Turn → Machine
on_in d (Ok m) = m
on_in d (Err s) = d

module _ {space : ℕ} (p : Prepared) (tol : Tolerances) (m : Machine) (c : Counts space m) (more : m.waiting < space) where
  past_counts : (axis : Vec3) (joints : List Float) → Counts space (past p space m axis joints)
  unfolding past past_given past_inserted given_next
  past_counts axis joints = go (eqb (space - m.waiting) m.given) (eqb-true (space - m.waiting) m.given) (eqb-false (space - m.waiting) m.given)
    where
      go : (t : Bool) → (t ≡ true → space - m.waiting ≡ m.given) → (t ≡ false → space - m.waiting ≡ m.given → ⊥) → Counts space (cond t (past_given p m axis joints) (past_inserted m axis))
      go true u v =
          let e = u refl in
          record { some_placed = λ h. omega arith; apart = omega (arith, c.apart); waits = omega (arith, more); given_last = omega (arith, e); few = c.few }
      go false u v =
          let e = lt_of_le-ne c.given_last (λ z. v refl (sym z)) in
          record { some_placed = λ h. omega arith; apart = omega (arith, c.apart); waits = omega (arith, more); given_last = omega (arith, e); few = c.few }

  inserting_counts : (next : Machine) → inserting m ≡ Ok next → Counts space next
  unfolding inserting with_midpoint before
  inserting_counts next e = go (eqb m.inserted most) (eqb m.placed m.waiting) (eqb-false m.inserted most) (eqb-false m.placed m.waiting) e
    where
      go : (s t : Bool) → (s ≡ false → m.inserted ≡ most → ⊥) → (t ≡ false → m.placed ≡ m.waiting → ⊥)
          → cond s (Err (Stop.TooMany m.inserted)) (cond t (Err (Stop.NoSpace m.inserted)) (Ok (with_midpoint m))) ≡ Ok next → Counts space next
      go true t u v e = absurd (false≢true (ap is_on e))
      go false true u v e = absurd (false≢true (ap is_on e))
      go false false u v e =
          let f = lt_of_le-ne c.few (u refl) in
          let g = lt_of_le-ne c.apart (v refl) in
          let h : Counts space (with_midpoint m) =
          record { some_placed = λ h. c.some_placed more; apart = omega (arith, g); waits = omega (arith, c.waits); given_last = omega (arith, c.given_last); few = omega (arith, f) } in
          subst (λ (z : Machine). Counts space z) (ap (on_in m) e) h

  by_counts : (axis : Vec3) (joints : List Float) (v : Option Item) (next : Machine) → turn_by p space m axis joints v ≡ Ok next → Counts space next
  by_counts axis joints None next e = subst (λ (z : Machine). Counts space z) (ap (on_in m) e) (past_counts axis joints)
  by_counts axis joints (Some middle) next e = inserting_counts next e

  pub turn_counts : (poses joints : List Float) (next : Machine) → turn p tol space m poses joints ≡ Ok next → Counts space next
  unfolding turn
  turn_counts poses joints next e = by_counts _ joints (verdict_at p tol space m poses joints) next e

-- ---- so many turns keep the numbers within the space
abbrev pub CountsOf : ℕ → Turn → Type 0
CountsOf space (Ok m) = Counts space m
CountsOf space (Err s) = Unit {0}

module _ (p : Prepared) (tol : Tolerances) (space : ℕ) where
  abbrev CountsBy : Slice → Type 0
  CountsBy s = CountsOf space s.turn

  pub sliced_counts : (n : ℕ) (m : Machine) (poses joints : List Float) → Counts space m → CountsBy (sliced n p tol space m poses joints)
  unfolding sliced
  sliced_counts zero m poses joints c = c
  sliced_counts (suc n) m poses joints c = by_waiting (leb space m.waiting) (leb-false space m.waiting) (sliced_counts n)
    where
      ps : List Float
      ps = poses_after p tol space m poses joints

      js : List Float
      js = joints_after p tol space m poses joints

      by_turn : (t : Turn) → turn p tol space m poses joints ≡ t → m.waiting < space → ((k : Machine) (a b : List Float) → Counts space k → CountsBy (sliced n p tol space k a b))
          → CountsBy (going_on (sliced n p tol space) t ps js)
      by_turn (Ok next) e h ih = ih next ps js (turn_counts p tol m c h poses joints next e)
      by_turn (Err s) e h ih = tt

      by_waiting : (t : Bool) → (t ≡ false → m.waiting < space) → ((k : Machine) (a b : List Float) → Counts space k → CountsBy (sliced n p tol space k a b))
          → CountsBy (cond t (stopped (Ok m) poses joints) (going_on (sliced n p tol space) (turn p tol space m poses joints) ps js))
      by_waiting true f ih = c
      by_waiting false f ih = by_turn (turn p tol space m poses joints) refl (f refl) ih

-- ---- where nothing waits, none is made
pub nothing_waits : (n : ℕ) (p : Prepared) (tol : Tolerances) (space : ℕ) (m : Machine) (poses joints : List Float) → space ≤ m.waiting → sliced n p tol space m poses joints ≡ stopped (Ok m) poses joints
unfolding sliced
nothing_waits zero p tol space m poses joints h = refl
nothing_waits (suc n) p tol space m poses joints h = rw (le-leb space m.waiting h)

-- ---- so many turns keep both lengths
module _ (p : Prepared) (tol : Tolerances) (space : ℕ) where
  abbrev Long : ℕ → ℕ → Slice → Type 0
  Long a b s = (length s.poses ≡ a) × (length s.joints ≡ b)

  pub sliced_long : (n : ℕ) (m : Machine) (poses joints : List Float) → Long (length poses) (length joints) (sliced n p tol space m poses joints)
  unfolding sliced
  sliced_long zero m poses joints = (refl, refl)
  sliced_long (suc n) m poses joints = by_waiting (leb space m.waiting) (sliced_long n)
    where
      ps : List Float
      ps = poses_after p tol space m poses joints

      js : List Float
      js = joints_after p tol space m poses joints

      here : (length ps ≡ length poses) × (length js ≡ length joints)
      here = (poses_after_long p tol space m poses joints, joints_after_long p tol space m poses joints)

      by_turn : (t : Turn) → ((k : Machine) (a b : List Float) → Long (length a) (length b) (sliced n p tol space k a b))
          → Long (length poses) (length joints) (going_on (sliced n p tol space) t ps js)
      by_turn (Ok next) ih = let h = ih next ps js in (h.0 ∙ here.0, h.1 ∙ here.1)
      by_turn (Err s) ih = here

      by_waiting : (t : Bool) → ((k : Machine) (a b : List Float) → Long (length a) (length b) (sliced n p tol space k a b))
          → Long (length poses) (length joints) (cond t (stopped (Ok m) poses joints) (going_on (sliced n p tol space) (turn p tol space m poses joints) ps js))
      by_waiting true ih = (refl, refl)
      by_waiting false ih = by_turn (turn p tol space m poses joints) ih

-- ---- the loop: the outputs as they were lent and as they are, the machine that began and the one that goes on
module _ (p : Prepared) (tol : Tolerances) (tests : ℕ) (o : Outputs) (m₀ : Machine) where
  abbrev all : Slice
  all = sliced tests p tol o.space m₀ o.poses.now o.joints.now

  pub record Slicing (now : Outputs) (m : Machine) (i : ℕ) : Type 0 where
    pub counts : Counts now.space m
    pub within : i ≤ tests
    pub alike : all ≡ sliced (tests - i) p tol o.space m now.poses.now now.joints.now
    pub same : Same o now

  pub slicing_start : Counts o.space m₀ → Slicing o m₀ 0
  slicing_start c = record { counts = c; within = omega arith; alike = ap (λ (k : ℕ). sliced k p tol o.space m₀ o.poses.now o.joints.now) (sym (sub-zero tests)); same = same_alone o }

  -- what the call hands back
  pub record Handed (now : Outputs) (r : Turn) : Type 0 where
    pub turn_is : r ≡ all.turn
    pub lent : Left o all.poses all.joints now

  handed : {now : Outputs} {r : Turn} → Same o now → all ≡ stopped r now.poses.now now.joints.now → Handed now r
  handed s e = record {
    turn_is = ap (λ (s : Slice). s.turn) (sym e);
    lent = record {
      same_poses = s.same_poses;
      same_joints = s.same_joints;
      as_much = s.as_much;
      in_poses = ap (λ (s : Slice). s.poses) (sym e);
      in_joints = ap (λ (s : Slice). s.joints) (sym e);
    };
  }

  none_left : (n : ℕ) (m : Machine) (poses joints : List Float) → n ≡ 0 → sliced n p tol o.space m poses joints ≡ stopped (Ok m) poses joints
  unfolding sliced
  none_left n m poses joints e = ap (λ (k : ℕ). sliced k p tol o.space m poses joints) e

  module _ {now : Outputs} {m : Machine} {i : ℕ} (s : Slicing now m i) where
    pub slicing_out : tests ≤ i → Handed now (Ok m)
    slicing_out h = let w = s.within in handed s.same (s.alike ∙ none_left (tests - i) m now.poses.now now.joints.now (omega arith))

    pub slicing_done : now.space ≤ m.waiting → Handed now (Ok m)
    slicing_done h = let e = s.same.as_much in handed s.same (s.alike ∙ nothing_waits (tests - i) p tol o.space m now.poses.now now.joints.now (omega (arith, e, h)))

    pub slicing_runs : m.waiting < now.space → Runs now.space m (length now.poses.now) (length now.joints.now)
    slicing_runs h =
        let c = s.counts in
        ((c.some_placed h, c.apart), ((h, c.given_last), (c.few, (now.poses_long, now.joints_long))))

    module _ {r : Turn} {next : Outputs} (left : i < tests) (more : m.waiting < now.space) (is : r ≡ turn p tol now.space m now.poses.now now.joints.now)
        (lent : Left now (poses_after p tol now.space m now.poses.now now.joints.now) (joints_after p tol now.space m now.poses.now now.joints.now) next) where
      abbrev poses' : List Float
      poses' = poses_after p tol o.space m now.poses.now now.joints.now

      abbrev joints' : List Float
      joints' = joints_after p tol o.space m now.poses.now now.joints.now

      one_more : tests - i ≡ suc (tests - (i + 1))
      one_more = omega arith

      more_there : m.waiting < o.space
      more_there = let e = s.same.as_much in omega (arith, e, more)

      opened : sliced (suc (tests - (i + 1))) p tol o.space m now.poses.now now.joints.now
          ≡ going_on (sliced (tests - (i + 1)) p tol o.space) (turn p tol o.space m now.poses.now now.joints.now) poses' joints'
      unfolding sliced
      opened = rw (lt-leb o.space m.waiting more_there)

      from_here : all ≡ going_on (sliced (tests - (i + 1)) p tol o.space) r next.poses.now next.joints.now
      from_here =
          s.alike ∙ ap (λ (k : ℕ). sliced k p tol o.space m now.poses.now now.joints.now) one_more ∙ opened
          ∙ rw (is, lent.in_poses, lent.in_joints, s.same.as_much) refl

      same_next : Same o next
      same_next = same_then s.same (left_same lent (poses_after_long p tol now.space m now.poses.now now.joints.now) (joints_after_long p tol now.space m now.poses.now now.joints.now))

      pub slicing_on : {after : Machine} → r ≡ Ok after → Slicing next after (i + 1)
      slicing_on {after} e =
          let c = turn_counts p tol m s.counts more now.poses.now now.joints.now after (sym is ∙ e) in
          record {
            counts = rw lent.as_much c;
            within = omega arith;
            alike = from_here ∙ ap (λ (t : Turn). going_on (sliced (tests - (i + 1)) p tol o.space) t next.poses.now next.joints.now) e;
            same = same_next;
          }

      pub slicing_stopped : (t : Stop) → r ≡ Err t → Handed next r
      slicing_stopped t e = rw e (handed same_next (from_here ∙ ap (λ (t : Turn). going_on (sliced (tests - (i + 1)) p tol o.space) t next.poses.now next.joints.now) e))
