-- The entry that quotes, behind the bytes of its chain: broken records are refused as the quotation itself refuses them,
-- so its promise holds of every answer.
use Prim.Native.Nat.{ℕ}
use mathlib.Core.Path.{◌≡◌, refl, sym, ap, ◌∙◌}
use mathlib.Core.Bool.{Bool, true, false, not, cond, ◌&&◌}
use mathlib.Core.List.{List}
use lib.ListN.{length}
use lib.Ieee.{Float}
use Rattle.std.specs.Prelude.{Err, Ok, Result}
use Rattle.refusal.specs.Numbers.{refusal}
use Rattle.refusal.specs.declared.Cause.{Cause}
use Rattle.refusal.specs.declared.Refusal.{Refusal}
use Rattle.chain.specs.declared.Kinematics.{Kinematics}
use Rattle.chain.specs.ChainBytes.{read_chain}
use Rattle.path.specs.Solving.{whole_records}
use Rattle.middle.specs.declared.Tolerances.{Tolerances}
use Rattle.divide.specs.Checking.{four_whole, checks_in_order, division_check}
use Rattle.quote.specs.declared.QuoteError.{QuoteError}
use Rattle.quote.specs.Quotation.{Quote, scratch_whole, quote_check, quote_path, scratch_left}
use Rattle.quote.proofs.Tied.{as_divided}
use Rattle.maztubel.specs.QuoteEntries.{quote_whole, quote_read, quote_of, QuotePromise}

module _ (tol : Tolerances) (poses joints : List Float) (roomJoints roomTips : ℕ) where
  by_records : (k : Kinematics) (a b : Bool) → whole_records (length poses) (length joints) ≡ a → scratch_whole roomJoints roomTips ≡ b
      → cond (not (a && b)) (Err (QuoteError.Refused (refusal Cause.LengthsDiffer 0))) (quote_path k tol poses joints roomJoints roomTips) ≡ quote_path k tol poses joints roomJoints roomTips
  unfolding quote_path quote_check division_check checks_in_order four_whole
  by_records k true true e f = refl
  by_records k true false e f = rw f
  by_records k false true e f = rw (e, f)
  by_records k false false e f = rw f

  refused_alike : (k : Kinematics)
      → cond (not (quote_whole (length poses) (length joints) roomJoints roomTips)) (Err (QuoteError.Refused (refusal Cause.LengthsDiffer 0))) (quote_path k tol poses joints roomJoints roomTips)
      ≡ quote_path k tol poses joints roomJoints roomTips
  unfolding quote_whole
  refused_alike k = by_records k (whole_records (length poses) (length joints)) (scratch_whole roomJoints roomTips) refl refl

  by_read : (read : Result Kinematics Refusal)
      → QuotePromise read tol poses joints roomJoints roomTips
      (cond (not (quote_whole (length poses) (length joints) roomJoints roomTips)) (Err (QuoteError.Refused (refusal Cause.LengthsDiffer 0))) (quote_read read tol poses joints roomJoints roomTips))
  by_read (Err r) = tt
  by_read (Ok k) = as_divided k tol poses joints roomJoints roomTips (refused_alike k)

  pub quote_promised : (chain : List ℕ) → QuotePromise (read_chain chain) tol poses joints roomJoints roomTips (quote_of chain tol poses joints roomJoints roomTips)
  unfolding quote_of
  quote_promised chain = by_read (read_chain chain)

-- ---- each way out is what the definition says
abbrev pub refused_by : Refusal → Quote
refused_by r = Err (QuoteError.Refused r)

module _ (chain : List ℕ) (tol : Tolerances) (poses joints j₀ t₀ : List Float) where
  abbrev whole : Bool
  whole = quote_whole (length poses) (length joints) (length j₀) (length t₀)

  abbrev So : Quote → (scratchJoints scratchTips : List Float) → Type 0
  So said scratchJoints scratchTips =
      (said ≡ quote_of chain tol poses joints (length j₀) (length t₀)) × ((scratchJoints ≡ scratch_left said j₀) × (scratchTips ≡ scratch_left said t₀))

  pub quote_lengths : {said : Quote} → whole ≡ false → said ≡ Err (QuoteError.Refused (refusal Cause.LengthsDiffer 0)) → So said j₀ t₀
  unfolding quote_of scratch_left
  quote_lengths e s = rw s (rw e, (refl, refl))

  pub quote_bytes : {r : Refusal} {said : Quote} → whole ≡ true → read_chain chain ≡ Err r → said ≡ Err (QuoteError.Refused r) → So said j₀ t₀
  unfolding quote_of scratch_left
  quote_bytes e f s = rw s (rw (e, f), (refl, refl))

  pub quote_chain : {k : Kinematics} {said : Quote} {scratchJoints scratchTips : List Float} → whole ≡ true → read_chain chain ≡ Ok k
      → said ≡ quote_path k tol poses joints (length j₀) (length t₀) → scratchJoints ≡ scratch_left (quote_path k tol poses joints (length j₀) (length t₀)) j₀
      → scratchTips ≡ scratch_left (quote_path k tol poses joints (length j₀) (length t₀)) t₀ → So said scratchJoints scratchTips
  unfolding quote_of
  quote_chain e f s u v = (rw (e, f) s, (u ∙ ap (λ (q : Quote). scratch_left q j₀) (sym s), v ∙ ap (λ (q : Quote). scratch_left q t₀) (sym s)))
