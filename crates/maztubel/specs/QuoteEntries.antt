-- What the entry that quotes a division answers, from the bytes and numbers that it is lent: first 20, then 29, then
-- the checks of `quote`, which are division's.
use Rattle.std.specs.Prelude.{ℕ, ◌≡◌, Bool, not, cond, ◌&&◌, List, length, Float, Err, Ok, Result}
use Rattle.refusal.specs.declared.Refusal.{Refusal}
use Rattle.refusal.specs.Numbers.{refusal}
use Rattle.refusal.specs.declared.Cause.{Cause}
use Rattle.chain.specs.declared.Kinematics.{Kinematics}
use Rattle.chain.specs.Checked.{Checked}
use Rattle.chain.specs.ChainBytes.{read_chain}
use Rattle.path.specs.Solving.{whole_records}
use Rattle.middle.specs.declared.Tolerances.{Tolerances}
use Rattle.turn.specs.Stops.{cause_of, inserted_before}
use Rattle.quote.specs.declared.Figures.{Figures}
use Rattle.quote.specs.declared.QuoteError.{QuoteError}
use Rattle.quote.specs.Quotation.{Quote, figures, scratch_whole, quote_path}
use Rattle.quote.specs.AsDivided.{AsDivided}
use Rattle.maztubel.specs.Lent.{number_in, place_in, letter_in}

-- ---- an answer's number, its place and letter: 27 and 28 have neither
abbrev pub refused_by : Cause → Checked
refused_by cause = Err (refusal cause 0)

abbrev pub refusal_in : Quote → Checked
refusal_in (Err (QuoteError.Refused r)) = Err r
refusal_in (Err (QuoteError.Stopped s)) = refused_by (cause_of s)
refusal_in (Ok f) = Ok tt

-- its figures: with a refusal 0, but for the count so far at 27 (at 28 it is 0, by `AsDivided`)
abbrev pub count_alone : ℕ → Figures
count_alone inserted = figures inserted 0 0

abbrev pub figures_in : Quote → Figures
figures_in (Err (QuoteError.Refused r)) = count_alone 0
figures_in (Err (QuoteError.Stopped s)) = count_alone (inserted_before s)
figures_in (Ok f) = f

-- what is returned, and what stands in the lent figures, place and letter
pub record Told (answer : Quote) (number inserted poses evaluations at letter : ℕ) : Type 0 where
  pub number_is : number ≡ number_in (refusal_in answer)
  pub inserted_is : inserted ≡ (figures_in answer).inserted
  pub poses_is : poses ≡ (figures_in answer).poses
  pub evaluations_is : evaluations ≡ (figures_in answer).evaluations
  pub place_is : at ≡ place_in (refusal_in answer)
  pub letter_is : letter ≡ letter_in (refusal_in answer)

-- ---- the answer; `roomJoints` and `roomTips` are how many numbers the lent scratches have
unfoldable pub quote_whole : (poses joints roomJoints roomTips : ℕ) → Bool
quote_whole poses joints roomJoints roomTips = whole_records poses joints && scratch_whole roomJoints roomTips

abbrev pub quote_read : Result Kinematics Refusal → Tolerances → (poses joints : List Float) → (roomJoints roomTips : ℕ) → Quote
quote_read (Err r) tol poses joints roomJoints roomTips = Err (QuoteError.Refused r)
quote_read (Ok k) tol poses joints roomJoints roomTips = quote_path k tol poses joints roomJoints roomTips

unfoldable pub quote_of : List ℕ → Tolerances → (poses joints : List Float) → (roomJoints roomTips : ℕ) → Quote
quote_of chain tol poses joints roomJoints roomTips =
    cond (not (quote_whole (length poses) (length joints) roomJoints roomTips)) (Err (QuoteError.Refused (refusal Cause.LengthsDiffer 0)))
    (quote_read (read_chain chain) tol poses joints roomJoints roomTips)

-- ---- the figures are those of a division of the same input, and 27 comes for the same inputs
abbrev pub QuotePromise : Result Kinematics Refusal → Tolerances → (poses joints : List Float) → (roomJoints roomTips : ℕ) → Quote → Type 0
QuotePromise (Err r) tol poses joints roomJoints roomTips answer = Unit {0}
QuotePromise (Ok k) tol poses joints roomJoints roomTips answer = AsDivided k tol poses joints roomJoints roomTips answer
