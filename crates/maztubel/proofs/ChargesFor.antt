-- The charged division behind the bytes of its chain: it keeps the plain entry's promise, and what its number says.
use Prim.Native.Nat.{ℕ, ◌≤◌, ◌<◌}
use native.Mathlib.Omega.{arith}
use mathlib.Core.Path.{◌≡◌, refl, sym, ap, ◌∙◌}
use mathlib.Core.Bool.{Bool, true, false, cond, false≢true}
use mathlib.Core.List.{List}
use borrow.Author.Tests.{ltb-true, ltb-false, leb-true, leb-false, eqb-false}
use lib.Dec.{eqb, leb, ltb}
use lib.Ieee.{Float}
use lib.ListN.{length}
use Rattle.std.specs.Prelude.{Err, Ok, Result}
use Rattle.refusal.specs.declared.Refusal.{Refusal}
use Rattle.refusal.specs.Numbers as Numbers
use Rattle.refusal.specs.Numbers.{number_of}
use Rattle.refusal.specs.declared.Cause.{Cause}
use Rattle.chain.specs.declared.Kinematics.{Kinematics}
use Rattle.chain.specs.Checked.{Checked}
use Rattle.chain.specs.ChainBytes.{read_chain}
use Rattle.chain.specs.Check.{demand, then}
use Rattle.halving.specs.Halving as Halving
use Rattle.middle.specs.declared.Tolerances.{Tolerances}
use Rattle.divide.specs.declared.DivisionError.{DivisionError}
use Rattle.divide.specs.Subdividing.{DivisionAnswer, Kept, AtPose, Cleared, Halved, division_in, poses_left, joints_left, unless_kept, Division}
use Rattle.quota.specs.Quota.{shops, balance_of, shop_check, charge, settled, charged_division}
use Rattle.quota.specs.Calls.{Divide, after}
use Rattle.quota.specs.QuotaSteps.{settled_said, settled_over, settled_balances}
use Rattle.divide.proofs.PriceLent.{is_ended}
use Rattle.quota.proofs.Checks.{shop_known}
use Rattle.quota.proofs.Settling.{kept_answer, kept_poses, kept_joints, kept_balances, settled_answer, settled_poses, settled_joints, settled_balances_after, shop_promise, settled_promise}
use Rattle.maztubel.specs.DivideEntries.{division_number, subdivide_of, SubdividePromise, Says}
use Rattle.maztubel.specs.QuotaEntries.{ChargedPromise, ChargedSays}
use Rattle.maztubel.proofs.Causes.{AnswerCause, other, Plain, unlike, says}

-- ---- the promise
module _ (b : List ℕ) (shop : ℕ) (plain : DivisionAnswer) (tol : Tolerances) (lent solved : List Float) (roomPoses roomJoints : ℕ) where
  pub unknown_promise : (read : Result Kinematics Refusal) (poses joints : List Float) {s r : Refusal} {answer : Division} → shop_check (length b) shop ≡ Err s → answer ≡ Err (DivisionError.Refused r)
      → ChargedPromise read b shop plain tol lent solved roomPoses roomJoints answer poses joints
  unknown_promise (Err t) poses joints e f = tt
  unknown_promise (Ok k) poses joints e f = shop_promise b shop plain k tol lent solved roomPoses roomJoints e f

  pub charged_promise : (read : Result Kinematics Refusal) (p j : List Float) → shop_check (length b) shop ≡ Ok tt → {said answer : Division} {poses joints : List Float} → said ≡ division_in plain
      → SubdividePromise read tol lent solved roomPoses roomJoints said p j → answer ≡ settled_said (balance_of b shop) said → poses ≡ settled_over (balance_of b shop) said p
      → joints ≡ settled_over (balance_of b shop) said j → ChargedPromise read b shop plain tol lent solved roomPoses roomJoints answer poses joints
  charged_promise (Err t) p j known same promise e f g = tt
  charged_promise (Ok k) p j known same promise e f g =
      settled_promise b shop plain k tol lent solved roomPoses roomJoints known same promise.0 promise.1 e f g

-- ---- the whole of it, in its two ways out
module _ (b : List ℕ) (shop : ℕ) (chain : List ℕ) (tol : Tolerances) (lent solved p₀ j₀ : List Float) where
  abbrev whole : DivisionAnswer
  whole = subdivide_of chain tol lent solved (length p₀) (length j₀)

  abbrev So : Division → (poses joints : List Float) → List ℕ → Type 0
  So said poses joints left =
      (said ≡ division_in (charged_division b shop whole))
      × ((poses ≡ poses_left (charged_division b shop whole) p₀)
      × ((joints ≡ joints_left (charged_division b shop whole) j₀)
      × ((left ≡ after b (Divide shop whole))
      × ChargedPromise (read_chain chain) b shop whole tol lent solved (length p₀) (length j₀) (division_in (charged_division b shop whole)) poses joints)))

  pub charged_kept : {r : Refusal} → shop_check (length b) shop ≡ Err r → So (Err (DivisionError.Refused r)) p₀ j₀ b
  charged_kept e = (
    kept_answer b shop whole e,
    (
      kept_poses b shop whole e p₀,
      (
        kept_joints b shop whole e j₀,
        (kept_balances b shop whole e, unknown_promise b shop whole tol lent solved (length p₀) (length j₀) (read_chain chain) p₀ j₀ e (sym (kept_answer b shop whole e))),
      ),
    ),
  )

  pub charged_settled : {said answer : Division} {p j poses joints : List Float} {left : List ℕ} → shop_check (length b) shop ≡ Ok tt → length p ≡ length p₀ → length j ≡ length j₀
      → (said ≡ division_in whole)
      × ((p ≡ poses_left whole p₀)
      × ((j ≡ joints_left whole j₀) × SubdividePromise (read_chain chain) tol lent solved (length p₀) (length j₀) (division_in whole) p j))
      → (answer ≡ settled_said (balance_of b shop) said)
      × ((poses ≡ settled_over (balance_of b shop) said p)
      × ((joints ≡ settled_over (balance_of b shop) said j) × (left ≡ settled_balances b shop said)))
      → So answer poses joints left
  charged_settled {said} {answer} {p} {j} passed long wide plain settles =
      let same = plain.0 in
      let u = settles.1.0 ∙ ap (λ (d : Division). settled_over (balance_of b shop) d p) same in
      let v = settles.1.1.0 ∙ ap (λ (d : Division). settled_over (balance_of b shop) d j) same in (
        settles.0 ∙ ap (settled_said (balance_of b shop)) same ∙ settled_answer b shop whole passed,
        (
          u ∙ settled_poses b shop whole passed p p₀ long plain.1.0,
          (
            v ∙ settled_joints b shop whole passed j j₀ wide plain.1.1.0,
            (
              settles.1.1.1 ∙ ap (settled_balances b shop) same ∙ settled_balances_after b shop whole passed,
              charged_promise b shop whole tol lent solved (length p₀) (length j₀) (read_chain chain) p j passed refl plain.1.1.1 (sym (settled_answer b shop whole passed)) u v,
            ),
          ),
        ),
      )

-- ---- what the number says
-- a number of the plain division is none of quotas
not_quota : (r : Refusal) → Plain r → (n : ℕ) → other n ≡ false → number_of r.cause ≡ n → ⊥
not_quota r h n f e = false≢true (sym f ∙ ap other (sym e) ∙ h)

plain_number : (plain : DivisionAnswer) → AnswerCause plain → (n : ℕ) → other n ≡ false → eqb n Numbers.served ≡ false → eqb n (number_of Cause.TooManyInsertions) ≡ false → eqb n (number_of Cause.NoSpace) ≡ false
    → division_number (division_in plain) ≡ n → ⊥
plain_number (Kept r) h n o x y z e = not_quota r h n o e
plain_number (AtPose r) h n o x y z e = not_quota r h n o e
plain_number (Cleared r) h n o x y z e = not_quota r h n o e
plain_number (Halved (Halving.Done m l)) h n o x y z e = unlike n Numbers.served x (sym e) refl
plain_number (Halved (Halving.TooMany m)) h n o x y z e = unlike n (number_of Cause.TooManyInsertions) y (sym e) refl
plain_number (Halved (Halving.NoSpace m)) h n o x y z e = unlike n (number_of Cause.NoSpace) z (sym e) refl

-- a refusal with a number of its own
refused_says : (m : Cause) (number : ℕ) → eqb (number_of m) Numbers.served ≡ false → eqb (number_of m) (number_of Cause.TooManyInsertions) ≡ false → number ≡ number_of m → Says number (Err (DivisionError.Refused (Numbers.refusal m 0)))
refused_says m number x y e = record {
  done = (λ f. absurd (unlike (number_of m) Numbers.served x (sym e ∙ f) refl), λ w. absurd (false≢true (ap is_ended w.1)));
  many = (λ f. absurd (unlike (number_of m) (number_of Cause.TooManyInsertions) y (sym e ∙ f) refl), λ w. absurd (false≢true (ap is_ended w.1)));
}

module _ (b : List ℕ) (shop : ℕ) (plain : DivisionAnswer) (cause : AnswerCause plain) (number : ℕ) where
  unknown_says : shops ≤ shop → number ≡ number_of Cause.UnknownShop → ChargedSays number b shop plain (Err (DivisionError.Refused (Numbers.refusal Cause.UnknownShop 0)))
  unknown_says h e = record {
    as_plain = refused_says Cause.UnknownShop number refl refl e;
    unknown = (λ f. h, λ f. e);
    short = (
      λ f. absurd (unlike (number_of Cause.UnknownShop) (number_of Cause.BalanceShort) refl (sym e ∙ f) refl),
      λ w.
          let k = (shop_known (length b) shop w.0).0 in
          absurd (omega (arith, k, h)),
    );
  }

  lengths_says : shop < shops → (length b ≡ shops → ⊥) → number ≡ number_of Cause.LengthsDiffer → ChargedSays number b shop plain (Err (DivisionError.Refused (Numbers.refusal Cause.LengthsDiffer 0)))
  lengths_says h n e = record {
    as_plain = refused_says Cause.LengthsDiffer number refl refl e;
    unknown = (λ f. absurd (unlike (number_of Cause.LengthsDiffer) (number_of Cause.UnknownShop) refl (sym e ∙ f) refl), λ f. absurd (omega (arith, f, h)));
    short = (λ f. absurd (unlike (number_of Cause.LengthsDiffer) (number_of Cause.BalanceShort) refl (sym e ∙ f) refl), λ w. absurd (n (shop_known (length b) shop w.0).1));
  }

  module _ (passed : shop_check (length b) shop ≡ Ok tt) where
    known : shop < shops
    known = (shop_known (length b) shop passed).0

    paid_says : charge plain ≤ balance_of b shop → number ≡ division_number (division_in plain) → ChargedSays number b shop plain (division_in plain)
    paid_says h e = record {
      as_plain = says plain cause number e;
      unknown = (
        λ f. absurd (plain_number plain cause (number_of Cause.UnknownShop) refl refl refl refl (sym e ∙ f)),
        λ f.
            let k = known in
            absurd (omega (arith, f, k)),
      );
      short = (
        λ f. absurd (plain_number plain cause (number_of Cause.BalanceShort) refl refl refl refl (sym e ∙ f)),
        λ w.
            let l = w.1 in
            absurd (omega (arith, l, h)),
      );
    }

    short_says : balance_of b shop < charge plain → number ≡ number_of Cause.BalanceShort → ChargedSays number b shop plain (Err (DivisionError.Refused (Numbers.refusal Cause.BalanceShort 0)))
    short_says h e = record {
      as_plain = refused_says Cause.BalanceShort number refl refl e;
      unknown = (
        λ f. absurd (unlike (number_of Cause.BalanceShort) (number_of Cause.UnknownShop) refl (sym e ∙ f) refl),
        λ f.
            let k = known in
            absurd (omega (arith, f, k)),
      );
      short = (λ f. (passed, h), λ w. e);
    }

    settled_says : (t : Bool) → leb (charge plain) (balance_of b shop) ≡ t
        → number ≡ division_number (division_in (cond t plain (Cleared (Numbers.refusal Cause.BalanceShort 0))))
        → ChargedSays number b shop plain (division_in (cond t plain (Cleared (Numbers.refusal Cause.BalanceShort 0))))
    settled_says true f e = paid_says (leb-true (charge plain) (balance_of b shop) f) e
    settled_says false f e = short_says (leb-false (charge plain) (balance_of b shop) f) e

  abbrev checked : Bool → Bool → Checked
  checked known counted = then (demand known Cause.UnknownShop 0) (demand counted Cause.LengthsDiffer 0)

  checked_says : (known counted : Bool) → ltb shop shops ≡ known → eqb (length b) shops ≡ counted → shop_check (length b) shop ≡ checked known counted
      → number ≡ division_number (division_in (unless_kept (checked known counted) (settled (balance_of b shop) plain)))
      → ChargedSays number b shop plain (division_in (unless_kept (checked known counted) (settled (balance_of b shop) plain)))
  checked_says false counted f g c e = unknown_says (ltb-false shop shops f) e
  checked_says true false f g c e = lengths_says (ltb-true shop shops f) (eqb-false (length b) shops g) e
  checked_says true true f g c e = unfold settled in settled_says c (leb (charge plain) (balance_of b shop)) refl (unfold settled in e)

  pub charged_says : number ≡ division_number (division_in (charged_division b shop plain)) → ChargedSays number b shop plain (division_in (charged_division b shop plain))
  unfolding charged_division shop_check
  charged_says e = checked_says (ltb shop shops) (eqb (length b) shops) refl refl (unfold shop_check in refl) e
