-- What the call answers and leaves, from what its parts do.
use Prim.Native.Nat.{ℕ, ◌+◌, ◌/◌, ◌≤◌}
use native.Mathlib.Omega.{arith}
use mathlib.Core.Path.{◌≡◌, refl, sym, ap, ◌∙◌}
use mathlib.Core.Bool.{Bool, true, false, cond}
use mathlib.Core.List.{List, [], ◌∷◌}
use lib.ListN.{length}
use lib.Ieee.{Float}
use Rattle.std.specs.Prelude.{Err, Ok}
use Rattle.halving.specs.Halving.{Answer, Done, TooMany, NoSpace}
use Rattle.halving.proofs.Step.{halve_empty}
use Rattle.quoting.proofs.Quotes.{none_costs}
use Rattle.refusal.specs.declared.Refusal.{Refusal}
use Rattle.chain.specs.declared.Kinematics.{Kinematics}
use Rattle.chain.specs.declared.Prepared.{Prepared}
use Rattle.chain.specs.Prepared.{prepared}
use Rattle.middle.specs.declared.Item.{Item}
use Rattle.middle.specs.declared.Tolerances.{Tolerances}
use Rattle.middle.specs.Testing.{midpoint, divides}
use Rattle.turn.specs.Turning.{most}
use Rattle.turn.proofs.Stored.{items_length}
use Rattle.machine.specs.Dividing.{division}
use Rattle.divide.specs.Subdividing.{given}
use Rattle.turn.specs.declared.Stop.{Stop}
use Rattle.quote.specs.declared.QuoteError.{QuoteError}
use Rattle.quote.specs.Quotation.{Quote, cost_of, evaluations_of, figures, quote_in, quotation, scratch_enough, quote_check, quote_checked, quote_path, cleared, scratch_left}
use Rattle.quote.specs.AsDivided.{AsDivided}
use Rattle.quote.proofs.Checks.{short, enough}
use Rattle.quote.proofs.Tied.{as_divided}

-- ---- no pose
none_quoted : (p : Prepared) (tol : Tolerances) (g : List Item) → length g ≡ 0 → Ok (figures 0 0 0) ≡ quotation p tol g
unfolding quotation evaluations_of division
none_quoted p tol [] e =
    sym (ap (λ (n : ℕ). quote_in n (division p tol (0 + most) [])) (none_costs (divides p tol) (midpoint p) (cost_of tol) most)
    ∙ ap (quote_in 0) (halve_empty (divides p tol) (midpoint p) (0 + most) most 0 [] refl))
none_quoted p tol (x ∷ g) e = absurd (omega arith)

pub no_pose : (k : Kinematics) (tol : Tolerances) (poses joints : List Float) → length poses / 6 ≡ 0 → Ok (figures 0 0 0) ≡ quotation (prepared k) tol (given poses joints)
no_pose k tol poses joints e = none_quoted (prepared k) tol (given poses joints) (items_length (length poses / 6) poses joints ∙ e)

-- ---- behind the checks every answer clears the scratch
in_clears : (e : ℕ) (a : Answer Item) (l : List Float) → scratch_left (quote_in e a) l ≡ cleared l
unfolding scratch_left
in_clears e (Done n r) l = refl
in_clears e (TooMany n) l = refl
in_clears e (NoSpace n) l = refl

by_scratch : (b : Bool) (p : Prepared) (tol : Tolerances) (g : List Item) (l : List Float) → scratch_left (cond b (quotation p tol g) (Err (QuoteError.Stopped (Stop.NoSpace 0)))) l ≡ cleared l
unfolding scratch_left quotation
by_scratch true p tol g l = in_clears (evaluations_of p tol g) (division p tol (length g + most) g) l
by_scratch false p tol g l = refl

-- ---- with too little scratch, and with enough
module _ (k : Kinematics) (tol : Tolerances) (poses joints : List Float) (roomJoints roomTips : ℕ) where
  pub short_so : (50000 ≤ roomJoints → 30000 ≤ roomTips → ⊥) → Err (QuoteError.Stopped (Stop.NoSpace 0)) ≡ quote_checked k tol poses joints roomJoints roomTips
  unfolding quote_checked
  short_so f = rw (short roomJoints roomTips f)

  pub enough_so : {r : Quote} → 50000 ≤ roomJoints → 30000 ≤ roomTips → r ≡ quotation (prepared k) tol (given poses joints) → r ≡ quote_checked k tol poses joints roomJoints roomTips
  unfolding quote_checked
  enough_so a b f = rw (enough roomJoints roomTips a b) f

module _ (k : Kinematics) (tol : Tolerances) (poses joints j₀ t₀ : List Float) where
  abbrev answer : Quote
  answer = quote_path k tol poses joints (length j₀) (length t₀)

  abbrev So : Quote → (scratchJoints scratchTips : List Float) → Type 0
  So r scratchJoints scratchTips =
      (r ≡ answer) × ((scratchJoints ≡ scratch_left answer j₀) × ((scratchTips ≡ scratch_left answer t₀) × AsDivided k tol poses joints (length j₀) (length t₀) r))

  refused_said : {r : Refusal} → quote_check k tol poses joints (length j₀) (length t₀) ≡ Err r → Err (QuoteError.Refused r) ≡ answer
  unfolding quote_path
  refused_said e = rw e

  refused_keeps : {r : Refusal} → quote_check k tol poses joints (length j₀) (length t₀) ≡ Err r → (l : List Float) → l ≡ scratch_left answer l
  unfolding quote_path scratch_left
  refused_keeps e l = rw e

  pub refused_so : {r : Refusal} {said : Quote} → quote_check k tol poses joints (length j₀) (length t₀) ≡ Err r → said ≡ Err (QuoteError.Refused r) → So said j₀ t₀
  refused_so e f =
      let said = f ∙ refused_said e in
      (said, (refused_keeps e j₀, (refused_keeps e t₀, as_divided k tol poses joints (length j₀) (length t₀) said)))

  checked_said : {r : Quote} → quote_check k tol poses joints (length j₀) (length t₀) ≡ Ok tt → r ≡ quote_checked k tol poses joints (length j₀) (length t₀) → r ≡ answer
  unfolding quote_path
  checked_said e f = rw e f

  checked_clears : quote_check k tol poses joints (length j₀) (length t₀) ≡ Ok tt → (l : List Float) → scratch_left answer l ≡ cleared l
  unfolding quote_path quote_checked
  checked_clears e l = rw e (by_scratch (scratch_enough (length j₀) (length t₀)) (prepared k) tol (given poses joints) l)

  pub checked_so : {r : Quote} {scratchJoints scratchTips : List Float} → quote_check k tol poses joints (length j₀) (length t₀) ≡ Ok tt
      → r ≡ quote_checked k tol poses joints (length j₀) (length t₀) → scratchJoints ≡ cleared j₀ → scratchTips ≡ cleared t₀ → So r scratchJoints scratchTips
  checked_so e f u v =
      let said = checked_said e f in
      (said, (u ∙ sym (checked_clears e j₀), (v ∙ sym (checked_clears e t₀), as_divided k tol poses joints (length j₀) (length t₀) said)))
