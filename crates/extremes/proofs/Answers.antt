-- What holds of every answer to the question: it is that of a full reading, and skipped groups cannot change it.
use Prim.Native.Nat.{ℕ, ◌/◌}
use mathlib.Core.Path.{◌≡◌, ap, ◌∙◌}
use mathlib.Core.List.{List}
use lib.ListN.{length}
use lib.Ieee.{Float}
use Rattle.std.specs.Prelude.{Ok}
use Rattle.extremes.specs.Summary.{sets_in}
use Rattle.extremes.specs.Asking.{first_above}
use Rattle.extremes.specs.Checking.{ask_check}
use Rattle.extremes.specs.Entries.{Asked, unless_asked, found_among, ask_of, reading_of, AsRead, Skips}
use Rattle.extremes.proofs.Skipping.{skipped, as_read}

module _ (joints summary : List Float) (rotary : ℕ) (angle : Float) where
  answered_as_read : AsRead joints summary rotary angle (ask_of joints summary rotary angle)
  unfolding ask_of reading_of sets_in
  answered_as_read f e =
      ap (λ (i : ℕ). unless_asked (ask_check (length joints) (length summary) rotary angle) (Ok (found_among (length joints / 5) i)))
      (ap (λ (s : List Float). first_above rotary angle s joints (length joints / 5)) e ∙ as_read rotary angle joints (length joints / 5) f)

  answered_with_skips : Skips joints summary rotary angle (ask_of joints summary rotary angle)
  unfolding ask_of
  answered_with_skips other m h =
      rw m
      (ap (λ (i : ℕ). unless_asked (ask_check (length joints) (length summary) rotary angle) (Ok (found_among (length joints / 5) i)))
      (skipped rotary angle summary joints other (length joints / 5) h))

  pub promised : {answer : Asked} → answer ≡ ask_of joints summary rotary angle
      → (answer ≡ ask_of joints summary rotary angle) × (AsRead joints summary rotary angle answer × Skips joints summary rotary angle answer)
  promised e = (e, (λ f h. e ∙ answered_as_read f h, λ other m h. e ∙ answered_with_skips other m h))
