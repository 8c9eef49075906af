-- The two entries that divide, behind the bytes of their chain: each way out is what the definition says, and keeps the promise.
use Prim.Native.Nat.{ℕ}
use mathlib.Core.Path.{◌≡◌, refl, sym, ◌∙◌, subst}
use mathlib.Core.Bool.{Bool, true, false, false≢true}
use mathlib.Core.List.{List}
use lib.ListN.{length}
use lib.Ieee.{Float}
use Rattle.std.specs.Prelude.{Err, Ok, Result}
use Rattle.refusal.specs.declared.Refusal.{Refusal}
use Rattle.chain.specs.declared.Kinematics.{Kinematics}
use Rattle.chain.specs.ChainBytes.{read_chain}
use Rattle.middle.specs.declared.Tolerances.{Tolerances}
use Rattle.divide.specs.declared.DivisionError.{DivisionError}
use Rattle.divide.specs.Checking.{four_whole}
use Rattle.divide.specs.Subdividing.{DivisionAnswer, division_in, poses_left, joints_left, subdivide_path, solve_and_divide, Division}
use Rattle.divide.specs.Looser.{Later}
use Rattle.divide.specs.Price.{IfSolved, SolvedAndDivided}
use Rattle.divide.proofs.Lengths.{all_pass}
use Rattle.divide.proofs.PriceLent.{refused_price}
use Rattle.divide.proofs.Later.{refused_later}
use Rattle.maztubel.specs.PathEntries.{start_in}
use Rattle.maztubel.specs.DivideEntries.{lengths_refused, subdivide_of, SubdividePromise, both_lengths, both_of, BothPromise}

abbrev pub refused_by : Refusal → Division
refused_by r = Err (DivisionError.Refused r)

-- ---- division
-- records that are not whole are refused by division's own first check, so nothing was begun
refused_promise : (read : Result Kinematics Refusal) (tol : Tolerances) (lent solved : List Float) (a b : ℕ) (poses joints : List Float) {answer : Division} {r : Refusal}
    → four_whole (length lent) (length solved) a b ≡ false → answer ≡ Err (DivisionError.Refused r) → SubdividePromise read tol lent solved a b answer poses joints
refused_promise (Err s) tol lent solved a b poses joints w e = tt
refused_promise (Ok k) tol lent solved a b poses joints w e = (
  record {
    begun = λ c. absurd (false≢true (sym w ∙ (all_pass k tol lent solved a b c).whole_is));
    price = λ start cone room l h i. refused_price e;
  },
  refused_later e,
)

module _ (chain : List ℕ) (tol : Tolerances) (lent solved p₀ j₀ : List Float) where
  abbrev whole : DivisionAnswer
  whole = subdivide_of chain tol lent solved (length p₀) (length j₀)

  abbrev So : Division → List Float → List Float → Type 0
  So said poses joints =
      (said ≡ division_in whole)
      × ((poses ≡ poses_left whole p₀)
      × ((joints ≡ joints_left whole j₀) × SubdividePromise (read_chain chain) tol lent solved (length p₀) (length j₀) (division_in whole) poses joints))

  abbrev Both : Kinematics → Division → List Float → List Float → Type 0
  Both k said poses joints = IfSolved k tol lent solved (length p₀) (length j₀) said poses joints × Later k tol lent solved (length p₀) (length j₀) said poses joints

  pub subdivide_lengths : {said : Division} → four_whole (length lent) (length solved) (length p₀) (length j₀) ≡ false → said ≡ lengths_refused → So said p₀ j₀
  unfolding subdivide_of poses_left joints_left
  subdivide_lengths e s =
      (rw e s, (rw e, (rw e, rw e (refused_promise (read_chain chain) tol lent solved (length p₀) (length j₀) p₀ j₀ e refl))))

  pub subdivide_bytes : {r : Refusal} → four_whole (length lent) (length solved) (length p₀) (length j₀) ≡ true → read_chain chain ≡ Err r → So (Err (DivisionError.Refused r)) p₀ j₀
  unfolding subdivide_of poses_left joints_left
  subdivide_bytes e f = (rw (e, f), (rw (e, f), (rw (e, f), rw (e, f) tt)))

  pub subdivide_chain : {k : Kinematics} {said : Division} {poses joints : List Float} → four_whole (length lent) (length solved) (length p₀) (length j₀) ≡ true
      → read_chain chain ≡ Ok k
      → (said ≡ division_in (subdivide_path k tol lent solved (length p₀) (length j₀)))
      × ((poses ≡ poses_left (subdivide_path k tol lent solved (length p₀) (length j₀)) p₀)
      × ((joints ≡ joints_left (subdivide_path k tol lent solved (length p₀) (length j₀)) j₀) × Both k said poses joints))
      → So said poses joints
  unfolding subdivide_of
  subdivide_chain {k} {said} {poses} {joints} e f h = (
    rw (e, f) h.0,
    (rw (e, f) h.1.0, (rw (e, f) h.1.1.0, rw (e, f) (subst (λ (z : Division). Both k z poses joints) h.0 h.1.1.1))),
  )

-- ---- the call of both
module _ (chain : List ℕ) (lent start : List Float) (cone : Float) (tol : Tolerances) (p₀ j₀ : List Float) where
  abbrev both : DivisionAnswer
  both = both_of chain lent start cone tol (length p₀) (length j₀)

  abbrev good : Bool
  good = both_lengths (length lent) (length start) (length p₀) (length j₀)

  abbrev BothSo : Division → List Float → List Float → Type 0
  BothSo said poses joints =
      (said ≡ division_in both)
      × ((poses ≡ poses_left both p₀)
      × ((joints ≡ joints_left both j₀) × BothPromise good (read_chain chain) lent (start_in start) cone tol (division_in both) p₀ j₀ poses joints))

  pub both_lengths_bad : {said : Division} → good ≡ false → said ≡ lengths_refused → BothSo said p₀ j₀
  unfolding both_of poses_left joints_left
  both_lengths_bad e s = (rw e s, (rw e, (rw e, rw e tt)))

  pub both_bytes : {r : Refusal} → good ≡ true → read_chain chain ≡ Err r → BothSo (Err (DivisionError.Refused r)) p₀ j₀
  unfolding both_of poses_left joints_left
  both_bytes e f = (rw (e, f), (rw (e, f), (rw (e, f), rw (e, f) tt)))

  pub both_chain : {k : Kinematics} {said : Division} {poses joints : List Float} → good ≡ true → read_chain chain ≡ Ok k
      → (said ≡ division_in (solve_and_divide k lent (start_in start) cone tol (length p₀) (length j₀)))
      × ((poses ≡ poses_left (solve_and_divide k lent (start_in start) cone tol (length p₀) (length j₀)) p₀)
      × ((joints ≡ joints_left (solve_and_divide k lent (start_in start) cone tol (length p₀) (length j₀)) j₀)
      × SolvedAndDivided k lent (start_in start) cone tol said p₀ j₀ poses joints))
      → BothSo said poses joints
  unfolding both_of
  both_chain {k} {said} {poses} {joints} e f h = (
    rw (e, f) h.0,
    (rw (e, f) h.1.0, (rw (e, f) h.1.1.0, rw (e, f) (subst (λ (z : Division). SolvedAndDivided k lent (start_in start) cone tol z p₀ j₀ poses joints) h.0 h.1.1.1))),
  )
