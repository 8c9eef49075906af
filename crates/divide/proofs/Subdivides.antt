-- The two calls that divide: what the checks and the division leave is what the definition says, and demand 3 and R-12
-- hold of it.
use Prim.Native.Nat.{ℕ, ◌*◌, ◌/◌, ◌≤◌, ◌<◌}
use mathlib.Core.Path.{◌≡◌, refl, sym, ap, ◌∙◌, subst}
use mathlib.Core.Logic.{◌⊎◌, inl, inr}
use mathlib.Core.List.{List, Memᴰ}
use lib.Ieee.{Float}
use lib.ListN.{replicate, length, take, drop, take-append-drop}
use lib.Seq.{length-take-le}
use Rattle.std.specs.Prelude.{Err, Ok, Option}
use Rattle.float.specs.Helpers.{nought}
use Rattle.lists.specs.Rows.{rows, paired, flat}
use Rattle.lists.proofs.Rows.{rows_flat}
use Rattle.refusal.specs.declared.Refusal.{Refusal}
use Rattle.chain.specs.declared.Joints.{Joints}
use Rattle.chain.specs.declared.Kinematics.{Kinematics}
use Rattle.chain.specs.Prepared.{prepared}
use Rattle.chain.proofs.Passing.{refused_passed}
use Rattle.lists.specs.Each.{Each}
use Rattle.path.specs.Solving.{Along, pose_from, joint_numbers, solve_path}
use Rattle.path.proofs.Along.{along_long}
use Rattle.geometry.specs.Doubles.{FitVec}
use Rattle.middle.specs.declared.Item.{Item}
use Rattle.middle.specs.declared.Tolerances.{Tolerances}
use Rattle.turn.specs.Items.{joints_from, item, items_in, space_in}
use Rattle.divide.specs.declared.DivisionError.{DivisionError}
use Rattle.divide.specs.Checking.{FitUpTo, division_check}
use Rattle.machine.specs.Dividing.{division, divided_in, poses_over, joints_over, Divided}
use Rattle.divide.specs.Subdividing.{division_in, poses_left, joints_left, given, division_within, subdivide_path, found_in, Division, ended}
use Rattle.divide.specs.Looser.{Later}
use Rattle.divide.specs.Price.{Price, IfSolved, Checks}
use Rattle.turn.proofs.Stored.{joints_codec}
use Rattle.machine.proofs.Copies.{joints_front}
use Rattle.divide.proofs.Idle.{less_or_not, busy_within, full_within}
use Rattle.divide.proofs.Price.{Answered, priced}
use Rattle.divide.proofs.PriceSound.{Limited, Sized}
use Rattle.divide.proofs.PricePath.{paired_given, path_limited, given_sets_sized, given_sized}
use Rattle.divide.proofs.PriceLent.{begun_price, none_price, refused_price, checks_ended}
use Rattle.divide.proofs.Later.{refused_later, ended_later}

-- ---- every joint set that was solved is within its limits, and within the sizes that were checked
module _ (k : Kinematics) (tol : Tolerances) (lent solved : List Float) (roomPoses roomJoints : ℕ)
    (passed : division_check k tol lent solved roomPoses roomJoints ≡ Ok tt) (fit : FitUpTo (length solved) solved) (start : Option Joints) (cone : Float) (room : ℕ)
    (l : List Joints) (along : solve_path k lent start cone room ≡ Along l) (is : solved ≡ flat joint_numbers l) where
  rows_solved : rows 5 joints_from (length lent / 6) solved ≡ l
  rows_solved =
      ap (λ (n : ℕ). rows 5 joints_from n solved) (sym (along_long k lent start cone room l along))
      ∙ ap (λ (z : List Float). rows 5 joints_from (length l) z) is
      ∙ rows_flat joints_codec l

  sizes : Each Sized l
  sizes = subst (Each Sized) rows_solved (given_sets_sized k tol lent solved roomPoses roomJoints passed fit)

  given_limited : (i : Item) → Memᴰ i (given lent solved) → Limited k i.joints
  unfolding items_in
  given_limited i m =
      paired_given item (λ q j. refl) (Limited k) (rows 6 pose_from (length lent / 6) lent) l (path_limited k lent start cone room l along sizes) i
      (subst (λ (z : List Joints). Memᴰ i (paired item (rows 6 pose_from (length lent / 6) lent) z)) rows_solved m)

  answered : (space : ℕ) → length (given lent solved) ≤ space → Answered k (prepared k) tol space (given lent solved) (division (prepared k) tol space (given lent solved))
  unfolding division
  answered space h = priced (prepared k) tol k space (given lent solved) h given_limited (given_sized k tol lent solved roomPoses roomJoints passed fit)

  ended_price : (space : ℕ) {said : Division} {poses joints : List Float} (p₀ j₀ : List Float) → said ≡ ended (divided_in (division_within (prepared k) tol space (given lent solved)))
      → poses ≡ poses_over (division_within (prepared k) tol space (given lent solved)) p₀ → joints ≡ joints_over (division_within (prepared k) tol space (given lent solved)) j₀
      → Price k tol space (given lent solved) said poses joints
  ended_price space {said} {poses} {joints} p₀ j₀ e u v = go (less_or_not space (length (given lent solved)))
    where
      go : (space < length (given lent solved)) ⊎ (length (given lent solved) ≤ space) → Price k tol space (given lent solved) said poses joints
      go (inl h) =
          let w = full_within (prepared k) tol space (given lent solved) h in
          none_price p₀ j₀ h (rw w at e) (rw w at u) (rw w at v)
      go (inr h) =
          let w = busy_within (prepared k) tol space (given lent solved) h in
          begun_price (division (prepared k) tol space (given lent solved)) p₀ j₀ (answered space h) (rw w at e) (rw w at u) (rw w at v) h

-- ---- subdivide_path
module _ (k : Kinematics) (tol : Tolerances) (lent solved p₀ j₀ : List Float) where
  pub subdivide_refused : {said : Division} {r : Refusal} → division_check k tol lent solved (length p₀) (length j₀) ≡ Err r → said ≡ Err (DivisionError.Refused r)
      → (said ≡ division_in (subdivide_path k tol lent solved (length p₀) (length j₀)))
      × ((p₀ ≡ poses_left (subdivide_path k tol lent solved (length p₀) (length j₀)) p₀)
      × ((j₀ ≡ joints_left (subdivide_path k tol lent solved (length p₀) (length j₀)) j₀) × (IfSolved k tol lent solved (length p₀) (length j₀) said p₀ j₀ × Later k tol lent solved (length p₀) (length j₀) said p₀ j₀)))
  unfolding subdivide_path poses_left joints_left
  subdivide_refused e s =
      (rw e s, (rw e, (rw e, (record { begun = λ w. absurd (refused_passed (sym e ∙ w)); price = λ start cone room l a i. refused_price s }, refused_later s))))

  pub subdivide_ended : {said : Division} {how : Divided} {poses joints : List Float} → division_check k tol lent solved (length p₀) (length j₀) ≡ Ok tt → FitUpTo (length solved) solved → FitVec k.spindle_axis
      → how ≡ divided_in (division_within (prepared k) tol (space_in (length p₀) (length j₀)) (given lent solved))
      → poses ≡ poses_over (division_within (prepared k) tol (space_in (length p₀) (length j₀)) (given lent solved)) p₀
      → joints ≡ joints_over (division_within (prepared k) tol (space_in (length p₀) (length j₀)) (given lent solved)) j₀
      → said ≡ ended how
      → (said ≡ division_in (subdivide_path k tol lent solved (length p₀) (length j₀)))
      × ((poses ≡ poses_left (subdivide_path k tol lent solved (length p₀) (length j₀)) p₀)
      × ((joints ≡ joints_left (subdivide_path k tol lent solved (length p₀) (length j₀)) j₀) × (IfSolved k tol lent solved (length p₀) (length j₀) said poses joints
      × Later k tol lent solved (length p₀) (length j₀) said poses joints)))
  unfolding subdivide_path poses_left joints_left
  subdivide_ended {how = how} e f spindle s u v q = (
    rw e (q ∙ ap ended s),
    (
      rw e u,
      (
        rw e v,
        (
          record {
            begun = λ w. subst Checks (sym q) (checks_ended how);
            price = λ start cone room l a i.
                ended_price k tol lent solved (length p₀) (length j₀) e f start cone room l a i (space_in (length p₀) (length j₀)) p₀ j₀ (q ∙ ap ended s) u v;
          },
          ended_later k tol lent solved p₀ j₀ f spindle e u v (q ∙ ap ended s),
        ),
      ),
    ),
  )

-- ---- the call of both, after solving: division's refusals leave +0.0 here
module _ (k : Kinematics) (tol : Tolerances) (lent p₀ j₀ : List Float) where
  abbrev found : List Float
  found = take (length lent / 6 * 5) j₀

  pub found_refused : {said : Division} {r : Refusal} {poses joints : List Float} → division_check k tol lent found (length p₀) (length j₀) ≡ Err r → said ≡ Err (DivisionError.Refused r)
      → poses ≡ replicate (length p₀) nought → joints ≡ replicate (length j₀) nought
      → (said ≡ division_in (found_in k tol lent (length p₀) j₀))
      × ((poses ≡ poses_left (found_in k tol lent (length p₀) j₀) p₀)
      × ((joints ≡ joints_left (found_in k tol lent (length p₀) j₀) j₀) × (IfSolved k tol lent found (length p₀) (length j₀) said poses joints × Later k tol lent found (length p₀) (length j₀) said poses joints)))
  unfolding found_in subdivide_path poses_left joints_left
  found_refused e s u v = (
    rw e s,
    (
      rw e u,
      (
        rw e v,
        (record { begun = λ w. absurd (refused_passed (sym e ∙ w)); price = λ start cone room l a i. refused_price s }, refused_later s),
      ),
    ),
  )

  front_found : length lent / 6 * 5 ≤ length j₀ → given lent j₀ ≡ given lent found
  front_found h =
      ap (given lent) (sym (take-append-drop (length lent / 6 * 5) j₀))
      ∙ joints_front (length lent / 6) lent found (drop (length lent / 6 * 5) j₀) (length-take-le (length lent / 6 * 5) j₀ h)

  pub found_ended : {said : Division} {how : Divided} {poses joints : List Float} → length lent / 6 * 5 ≤ length j₀ → division_check k tol lent found (length p₀) (length j₀) ≡ Ok tt
      → FitUpTo (length found) found → FitVec k.spindle_axis
      → how ≡ divided_in (division_within (prepared k) tol (space_in (length p₀) (length j₀)) (given lent j₀))
      → poses ≡ poses_over (division_within (prepared k) tol (space_in (length p₀) (length j₀)) (given lent j₀)) p₀
      → joints ≡ joints_over (division_within (prepared k) tol (space_in (length p₀) (length j₀)) (given lent j₀)) j₀
      → said ≡ ended how
      → (said ≡ division_in (found_in k tol lent (length p₀) j₀))
      × ((poses ≡ poses_left (found_in k tol lent (length p₀) j₀) p₀)
      × ((joints ≡ joints_left (found_in k tol lent (length p₀) j₀) j₀) × (IfSolved k tol lent found (length p₀) (length j₀) said poses joints
      × Later k tol lent found (length p₀) (length j₀) said poses joints)))
  unfolding found_in subdivide_path poses_left joints_left
  found_ended {how = how} h e f spindle s u v q =
      let g = front_found h in
      let s' = rw g at s in
      let u' = rw g at u in
      let v' = rw g at v in (
        rw e (q ∙ ap ended s'),
        (
          rw e u',
          (
            rw e v',
            (
              record {
                begun = λ w. subst Checks (sym q) (checks_ended how);
                price = λ start cone room l a i.
                    ended_price k tol lent found (length p₀) (length j₀) e f start cone room l a i (space_in (length p₀) (length j₀)) p₀ j₀ (q ∙ ap ended s') u' v';
              },
              ended_later k tol lent found p₀ j₀ f spindle e u' v' (q ∙ ap ended s'),
            ),
          ),
        ),
      )
