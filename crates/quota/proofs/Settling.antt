-- The charge that the program takes from an answer and outputs is that of the definition, and a charged division keeps
-- what the plain one promises.
use Prim.Native.Nat.{ℕ, ◌+◌, ◌-◌, ◌≤◌, ◌<◌}
use native.Mathlib.Omega.{arith}
use mathlib.Core.Path.{◌≡◌, refl, sym, ap, ◌∙◌, subst}
use mathlib.Core.Bool.{Bool, true, false, cond, false≢true}
use mathlib.Core.Logic.{inl, inr}
use mathlib.Core.List.{List}
use borrow.Author.Tests.{leb-true, leb-false, le-leb, lt-leb}
use lib.Dec.{leb}
use lib.Ieee.{Float}
use lib.ListN.{length, set, replicate}
use lib.Seq.{set-get_or}
use Rattle.std.specs.Prelude.{Err, Ok}
use Rattle.float.specs.Helpers.{nought}
use Rattle.refusal.specs.declared.Refusal.{Refusal}
use Rattle.refusal.specs.Numbers.{refusal}
use Rattle.refusal.specs.declared.Cause.{Cause}
use Rattle.chain.specs.declared.Kinematics.{Kinematics}
use Rattle.chain.proofs.Passing.{refused_passed}
use Rattle.halving.specs.Halving as Halving
use Rattle.middle.specs.declared.Item.{Item}
use Rattle.middle.specs.declared.Tolerances.{Tolerances}
use Rattle.divide.specs.declared.DivisionError.{DivisionError}
use Rattle.divide.specs.Subdividing.{DivisionAnswer, Kept, AtPose, Cleared, Halved, division_in, poses_left, joints_left, subdivide_path, Division}
use Rattle.divide.specs.Looser.{NotBelow, Later}
use Rattle.divide.specs.Price.{IfSolved}
use Rattle.divide.proofs.PriceLent.{is_ended, zero_all, refused_price}
use Rattle.divide.proofs.Later.{refused_later}
use Rattle.quota.specs.Quota.{balance_of, shop_check, charge, settled, charged_division}
use Rattle.quota.specs.Calls.{Divide, grant_in, charge_in, after}
use Rattle.quota.specs.Charged.{PaidToo, Charged}
use Rattle.quota.proofs.Accounts.{unchanged}
use Rattle.quota.specs.QuotaSteps.{charge_of, covers, settled_said, settled_over, settled_balances}

-- ---- the two ways out of a settlement
module _ (b : List ℕ) (shop : ℕ) (said : Division) (p j : List Float) {n : ℕ} (counted : n ≡ charge_of said) where
  pub paid_for : n ≤ balance_of b shop
      → (said ≡ settled_said (balance_of b shop) said)
      × ((p ≡ settled_over (balance_of b shop) said p)
      × ((j ≡ settled_over (balance_of b shop) said j) × (set b shop (balance_of b shop - n) ≡ settled_balances b shop said)))
  unfolding settled_said settled_over settled_balances covers
  paid_for h =
      let c : leb (charge_of said) (balance_of b shop) ≡ true = le-leb (charge_of said) (balance_of b shop) (omega (arith, counted, h)) in
      (rw c, (rw c, (rw c, rw c (ap (λ (m : ℕ). set b shop (balance_of b shop - m)) counted))))

  pub not_paid_for : {poses joints : List Float} → balance_of b shop < n → poses ≡ replicate (length p) nought → joints ≡ replicate (length j) nought
      → (Err (DivisionError.Refused (refusal Cause.BalanceShort 0)) ≡ settled_said (balance_of b shop) said)
      × ((poses ≡ settled_over (balance_of b shop) said p)
      × ((joints ≡ settled_over (balance_of b shop) said j) × (b ≡ settled_balances b shop said)))
  unfolding settled_said settled_over settled_balances covers
  not_paid_for h u v =
      let c : leb (charge_of said) (balance_of b shop) ≡ false = lt-leb (charge_of said) (balance_of b shop) (omega (arith, counted, h)) in
      (rw c, (rw c u, (rw c v, rw c)))

-- ---- the program's charge is the definition's
charge_said : (plain : DivisionAnswer) → charge_of (division_in plain) ≡ charge plain
unfolding charge
charge_said (Kept r) = refl
charge_said (AtPose r) = refl
charge_said (Cleared r) = refl
charge_said (Halved (Halving.Done n l)) = refl
charge_said (Halved (Halving.TooMany n)) = refl
charge_said (Halved (Halving.NoSpace n)) = refl

covers_said : (balance : ℕ) (plain : DivisionAnswer) → covers balance (division_in plain) ≡ leb (charge plain) balance
unfolding covers
covers_said balance plain = ap (λ (n : ℕ). leb n balance) (charge_said plain)

said_settled : (t : Bool) (plain : DivisionAnswer) → cond t (division_in plain) (Err (DivisionError.Refused (refusal Cause.BalanceShort 0))) ≡ division_in (cond t plain (Cleared (refusal Cause.BalanceShort 0)))
said_settled true plain = refl
said_settled false plain = refl

poses_settled : (t : Bool) (plain : DivisionAnswer) (p p₀ : List Float) → length p ≡ length p₀ → p ≡ poses_left plain p₀
    → cond t p (replicate (length p) nought) ≡ poses_left (cond t plain (Cleared (refusal Cause.BalanceShort 0))) p₀
unfolding poses_left
poses_settled true plain p p₀ long e = e
poses_settled false plain p p₀ long e = ap (λ (n : ℕ). replicate n nought) long

joints_settled : (t : Bool) (plain : DivisionAnswer) (j j₀ : List Float) → length j ≡ length j₀ → j ≡ joints_left plain j₀
    → cond t j (replicate (length j) nought) ≡ joints_left (cond t plain (Cleared (refusal Cause.BalanceShort 0))) j₀
unfolding joints_left
joints_settled true plain j j₀ long e = e
joints_settled false plain j j₀ long e = ap (λ (n : ℕ). replicate n nought) long

-- the count taken from the balance, or the balances kept
after_charged : (b : List ℕ) (shop : ℕ) (plain : DivisionAnswer) → after b (Divide shop plain) ≡ set b shop (balance_of b shop - charge (charged_division b shop plain))
unfolding after grant_in charge_in
after_charged b shop plain =
    let same : balance_of b shop + 0 - charge (charged_division b shop plain) ≡ balance_of b shop - charge (charged_division b shop plain) = omega arith in
    ap (set b shop) same

paid_or_kept : (t : Bool) (b : List ℕ) (shop : ℕ) (plain : DivisionAnswer)
    → cond t (set b shop (balance_of b shop - charge plain)) b ≡ set b shop (balance_of b shop - charge (cond t plain (Cleared (refusal Cause.BalanceShort 0))))
paid_or_kept true b shop plain = refl
paid_or_kept false b shop plain =
    let same : balance_of b shop ≡ balance_of b shop - charge (Cleared (refusal Cause.BalanceShort 0)) = unfold charge in omega arith in
    sym (set-get_or b shop 0) ∙ ap (set b shop) same

-- ---- a shop that is unknown, or other than 32 balances: everything is kept
module _ (b : List ℕ) (shop : ℕ) (plain : DivisionAnswer) {r : Refusal} (refused : shop_check (length b) shop ≡ Err r) where
  stays_kept : charged_division b shop plain ≡ Kept r
  unfolding charged_division
  stays_kept = rw refused

  pub kept_answer : Err (DivisionError.Refused r) ≡ division_in (charged_division b shop plain)
  kept_answer = rw stays_kept

  pub kept_poses : (p₀ : List Float) → p₀ ≡ poses_left (charged_division b shop plain) p₀
  unfolding poses_left
  kept_poses p₀ = rw stays_kept

  pub kept_joints : (j₀ : List Float) → j₀ ≡ joints_left (charged_division b shop plain) j₀
  unfolding joints_left
  kept_joints j₀ = rw stays_kept

  pub kept_balances : b ≡ after b (Divide shop plain)
  kept_balances = sym (unchanged b (Divide shop plain) (unfold grant_in in refl) (unfold charge_in in unfold charge in rw stays_kept))

-- ---- a known shop
-- a balance that covers the count of a division that is accepted
pays : (b : List ℕ) (shop : ℕ) → shop_check (length b) shop ≡ Ok tt → {plain : DivisionAnswer} (n : ℕ) (l : List Item) → plain ≡ Halved (Halving.Done n l) → n ≤ balance_of b shop
    → charged_division b shop plain ≡ Halved (Halving.Done n l)
unfolding charged_division settled charge
pays b shop passed n l e h = rw (passed, e, le-leb n (balance_of b shop) h)

module _ (b : List ℕ) (shop : ℕ) (plain : DivisionAnswer) (passed : shop_check (length b) shop ≡ Ok tt) where
  is_settled : charged_division b shop plain ≡ settled (balance_of b shop) plain
  unfolding charged_division
  is_settled = rw passed

  pub settled_answer : settled_said (balance_of b shop) (division_in plain) ≡ division_in (charged_division b shop plain)
  unfolding settled_said settled
  settled_answer = rw (covers_said (balance_of b shop) plain, is_settled) (said_settled (leb (charge plain) (balance_of b shop)) plain)

  pub settled_poses : (p p₀ : List Float) → length p ≡ length p₀ → p ≡ poses_left plain p₀ → settled_over (balance_of b shop) (division_in plain) p ≡ poses_left (charged_division b shop plain) p₀
  unfolding settled_over settled
  settled_poses p p₀ long e = rw (covers_said (balance_of b shop) plain, is_settled) (poses_settled (leb (charge plain) (balance_of b shop)) plain p p₀ long e)

  pub settled_joints : (j j₀ : List Float) → length j ≡ length j₀ → j ≡ joints_left plain j₀ → settled_over (balance_of b shop) (division_in plain) j ≡ joints_left (charged_division b shop plain) j₀
  unfolding settled_over settled
  settled_joints j j₀ long e = rw (covers_said (balance_of b shop) plain, is_settled) (joints_settled (leb (charge plain) (balance_of b shop)) plain j j₀ long e)

  pub settled_balances_after : settled_balances b shop (division_in plain) ≡ after b (Divide shop plain)
  unfolding settled_balances settled
  settled_balances_after = rw (covers_said (balance_of b shop) plain, charge_said plain, after_charged b shop plain, is_settled) (paid_or_kept (leb (charge plain) (balance_of b shop)) b shop plain)

-- ---- what the plain division promises
-- a count above the balance is that of a division that succeeds
short_by : (balance : ℕ) (plain : DivisionAnswer) → balance < charge plain → (n : ℕ) × (l : List Item) × (plain ≡ Halved (Halving.Done n l)) × (balance < n)
unfolding charge
short_by balance (Kept r) h = absurd (omega (arith, h))
short_by balance (AtPose r) h = absurd (omega (arith, h))
short_by balance (Cleared r) h = absurd (omega (arith, h))
short_by balance (Halved (Halving.Done n l)) h = (n, l, refl, h)
short_by balance (Halved (Halving.TooMany n)) h = absurd (omega (arith, h))
short_by balance (Halved (Halving.NoSpace n)) h = absurd (omega (arith, h))

not_ended : {r : Refusal} {answer : Division} {n : ℕ} → answer ≡ Err (DivisionError.Refused r) → answer ≡ Ok n → ⊥
not_ended e w = false≢true (ap is_ended (sym e ∙ w))

module _ (b : List ℕ) (shop : ℕ) (plain : DivisionAnswer) (k : Kinematics) (tol : Tolerances) (lent solved : List Float) (roomPoses roomJoints : ℕ) where
  -- ---- a shop that is unknown, or other than 32 balances
  pub shop_promise : {s r : Refusal} {answer : Division} {poses joints : List Float} → shop_check (length b) shop ≡ Err s → answer ≡ Err (DivisionError.Refused r)
      → Charged b shop plain k tol lent solved roomPoses roomJoints answer poses joints
  shop_promise e f = record {
    begun = λ passed check. absurd (refused_passed (sym e ∙ passed));
    paid = λ n w. absurd (not_ended f w);
    price = λ start cone room l a i. refused_price f;
    later = refused_later f;
    looser = λ n w wider h. absurd (not_ended f w);
  }

  -- ---- a known shop: the plain division's answer `said`, with p and j in the outputs
  module _ (passed : shop_check (length b) shop ≡ Ok tt) {said : Division} {p j : List Float} (same : said ≡ division_in plain)
      (promise : IfSolved k tol lent solved roomPoses roomJoints said p j) (rest : Later k tol lent solved roomPoses roomJoints said p j) where
    -- with wider tolerances the count is no larger, so the same balance pays for it
    paid_too : (n : ℕ) → said ≡ Ok n → n ≤ balance_of b shop → (wider : Tolerances) → NotBelow tol wider → PaidToo b shop n (subdivide_path k wider lent solved roomPoses roomJoints)
    paid_too n w enough wider h =
        let d = rest.looser n w wider h in
        let m = d.no_more in
        record {
          count = d.count;
          path = d.result;
          accepted = pays b shop passed d.count d.result d.accepted (omega (arith, m, enough));
          no_more = m;
        }

    paid_promise : charge_of said ≤ balance_of b shop → Charged b shop plain k tol lent solved roomPoses roomJoints said p j
    paid_promise enough = record {
      begun = λ known check. inl (promise.begun check);
      paid = λ n w. covered n w;
      price = promise.price;
      later = rest;
      looser = λ n w wider h. paid_too n w (covered n w) wider h;
    }
      where
        covered : (n : ℕ) → said ≡ Ok n → n ≤ balance_of b shop
        covered n w = let e = ap charge_of w in omega (arith, e, enough)

    short_promise : balance_of b shop < charge_of said → {answer : Division} {poses joints : List Float} → answer ≡ Err (DivisionError.Refused (refusal Cause.BalanceShort 0)) → poses ≡ replicate (length p) nought
        → joints ≡ replicate (length j) nought → Charged b shop plain k tol lent solved roomPoses roomJoints answer poses joints
    short_promise less {answer} {poses} {joints} e f g = record {
      begun = λ known check.
          let (n, l, d, h) = short_by (balance_of b shop) plain (subst (λ (m : ℕ). balance_of b shop < m) (ap charge_of same ∙ charge_said plain) less) in
          inr (record {
            count = n;
            path = l;
            divided = d;
            below = h;
            refused = e;
            cleared = (zero_all (length p) poses f, zero_all (length j) joints g);
          });
      paid = λ n w. absurd (not_ended e w);
      price = λ start cone room l a i. refused_price e;
      later = refused_later e;
      looser = λ n w wider h. absurd (not_ended e w);
    }

    pub settled_promise : {answer : Division} {poses joints : List Float} → answer ≡ settled_said (balance_of b shop) said → poses ≡ settled_over (balance_of b shop) said p
        → joints ≡ settled_over (balance_of b shop) said j → Charged b shop plain k tol lent solved roomPoses roomJoints answer poses joints
    unfolding settled_said settled_over covers
    settled_promise {answer} {poses} {joints} e f g = go (leb (charge_of said) (balance_of b shop)) refl e f g
      where
        go : (t : Bool) → leb (charge_of said) (balance_of b shop) ≡ t → answer ≡ cond t said (Err (DivisionError.Refused (refusal Cause.BalanceShort 0))) → poses ≡ cond t p (replicate (length p) nought)
            → joints ≡ cond t j (replicate (length j) nought) → Charged b shop plain k tol lent solved roomPoses roomJoints answer poses joints
        go true h e f g = rw (e, f, g) (paid_promise (leb-true (charge_of said) (balance_of b shop) h))
        go false h e f g = short_promise (leb-false (charge_of said) (balance_of b shop) h) e f g

-- ---- the whole of a charged division, in its two ways out
module _ (b : List ℕ) (shop : ℕ) (k : Kinematics) (tol : Tolerances) (lent solved p₀ j₀ : List Float) where
  abbrev whole : DivisionAnswer
  whole = subdivide_path k tol lent solved (length p₀) (length j₀)

  abbrev So : Division → (poses joints : List Float) → List ℕ → Type 0
  So answer poses joints left =
      (answer ≡ division_in (charged_division b shop whole))
      × ((poses ≡ poses_left (charged_division b shop whole) p₀)
      × ((joints ≡ joints_left (charged_division b shop whole) j₀)
      × ((left ≡ after b (Divide shop whole)) × Charged b shop whole k tol lent solved (length p₀) (length j₀) answer poses joints)))

  pub charged_kept : {r : Refusal} → shop_check (length b) shop ≡ Err r → So (Err (DivisionError.Refused r)) p₀ j₀ b
  charged_kept e = (
    kept_answer b shop whole e,
    (kept_poses b shop whole e p₀, (kept_joints b shop whole e j₀, (kept_balances b shop whole e, shop_promise b shop whole k tol lent solved (length p₀) (length j₀) e refl))),
  )

  pub charged_settled : {said answer : Division} {p j poses joints : List Float} {left : List ℕ} → shop_check (length b) shop ≡ Ok tt → length p ≡ length p₀ → length j ≡ length j₀
      → (said ≡ division_in whole)
      × ((p ≡ poses_left whole p₀)
      × ((j ≡ joints_left whole j₀)
      × (IfSolved k tol lent solved (length p₀) (length j₀) said p j × Later k tol lent solved (length p₀) (length j₀) said p j)))
      → (answer ≡ settled_said (balance_of b shop) said)
      × ((poses ≡ settled_over (balance_of b shop) said p)
      × ((joints ≡ settled_over (balance_of b shop) said j) × (left ≡ settled_balances b shop said)))
      → So answer poses joints left
  charged_settled {said} {answer} {p} {j} passed long wide plain settles =
      let same = plain.0 in (
        settles.0 ∙ ap (settled_said (balance_of b shop)) same ∙ settled_answer b shop whole passed,
        (
          settles.1.0 ∙ ap (λ (d : Division). settled_over (balance_of b shop) d p) same ∙ settled_poses b shop whole passed p p₀ long plain.1.0,
          (
            settles.1.1.0 ∙ ap (λ (d : Division). settled_over (balance_of b shop) d j) same ∙ settled_joints b shop whole passed j j₀ wide plain.1.1.0,
            (
              settles.1.1.1 ∙ ap (settled_balances b shop) same ∙ settled_balances_after b shop whole passed,
              settled_promise b shop whole k tol lent solved (length p₀) (length j₀) passed same plain.1.1.1.0 plain.1.1.1.1 settles.0 settles.1.0 settles.1.1.0,
            ),
          ),
        ),
      )
