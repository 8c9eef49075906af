-- What the three calls answer, and what is lent afterwards. A refusal changes nothing.
use Rattle.std.specs.Prelude.{true, cond, List, ◌≡◌, ℕ, ◌*◌, ◌/◌, ◌<◌, ltb, length, Float, Err, None, Ok, Option, Result, Some}
use Rattle.lists.specs.Search.{all}
use Rattle.refusal.specs.declared.Refusal.{Refusal}
use Rattle.chain.specs.Checked.{Checked}
use Rattle.chain.specs.Check.{joints_finite}
use Rattle.path.specs.Solving.{joints_over}
use Rattle.turn.specs.Items.{joints_from, joints_in}
use Rattle.extremes.specs.Summary.{sets_in, summary_of, resummed}
use Rattle.extremes.specs.Asking.{opened, first_above, full_reading}
use Rattle.extremes.specs.Checking.{build_check, replace_check, ask_check}

abbrev pub unless_refused : {A : Type 0} → Checked → A → A → A
unless_refused (Ok _) changed kept = changed
unless_refused (Err r) changed kept = kept

-- ---- building: the summary afterwards
unfoldable pub summary_built : (joints summary : List Float) → List Float
summary_built joints summary = unless_refused (build_check joints (length summary)) (summary_of (sets_in joints)) summary

-- ---- replacing: the joints afterwards, and the summary with that group worked out afresh from them
unfoldable pub joints_after : (joints : List Float) → ℕ → (fresh : List Float) → List Float
joints_after joints index fresh = joints_over (joints_from fresh) joints (index * 5)

unfoldable pub summary_after : (joints summary : List Float) → ℕ → (fresh : List Float) → List Float
summary_after joints summary index fresh = resummed summary (sets_in (joints_after joints index fresh)) (index / 64)

unfoldable pub joints_replaced : (joints summary : List Float) → ℕ → (fresh : List Float) → List Float
joints_replaced joints summary index fresh = unless_refused (replace_check (length joints) (length summary) index fresh) (joints_after joints index fresh) joints

unfoldable pub summary_replaced : (joints summary : List Float) → ℕ → (fresh : List Float) → List Float
summary_replaced joints summary index fresh =
    unless_refused (replace_check (length joints) (length summary) index fresh) (summary_after joints summary index fresh) summary

-- a summary that was the joints' own still is
abbrev pub StaysOwn : (joints summary joints_left summaryLeft : List Float) → Type 0
StaysOwn joints summary joints_left summaryLeft = summary ≡ summary_of (sets_in joints) → summaryLeft ≡ summary_of (sets_in joints_left)

-- ---- asking
-- the index of the first joint set above, `None` where none is, or a refusal
abbrev pub Asked : Type 0
Asked = Result (Option ℕ) Refusal

abbrev pub unless_asked : Checked → Asked → Asked
unless_asked (Ok _) answer = answer
unless_asked (Err r) answer = Err r

-- an index among n; n itself where there is none
unfoldable pub found_among : (n i : ℕ) → Option ℕ
found_among n i = cond (ltb i n) (Some i) None

unfoldable pub ask_of : (joints summary : List Float) → ℕ → Float → Asked
ask_of joints summary rotary angle =
    unless_asked (ask_check (length joints) (length summary) rotary angle)
    (Ok (found_among (length joints / 5) (first_above rotary angle summary joints (length joints / 5))))

-- what a full reading answers: of the summary it takes the length alone
unfoldable pub reading_of : (joints summary : List Float) → ℕ → Float → Asked
reading_of joints summary rotary angle =
    unless_asked (ask_check (length joints) (length summary) rotary angle) (Ok (found_among (length joints / 5) (full_reading rotary angle joints (length joints / 5))))

-- "must answer as a full reading where the joints are finite and the summary is theirs"
abbrev pub AsRead : (joints summary : List Float) → ℕ → Float → Asked → Type 0
AsRead joints summary rotary angle answer =
    all joints_finite (sets_in joints) ≡ true → summary ≡ summary_of (sets_in joints) → answer ≡ reading_of joints summary rotary angle

-- "skips groups whose largest is not above, whose joints then cannot change its answer": for every summary and all
-- joints, also those that are not finite
abbrev pub SameOpened : (joints other summary : List Float) → ℕ → Float → Type 0
SameOpened joints other summary rotary angle =
    (i : ℕ) → i < length joints / 5 → opened rotary angle summary (i / 64) ≡ true → joints_in joints (i * 5) ≡ joints_in other (i * 5)

abbrev pub Skips : (joints summary : List Float) → ℕ → Float → Asked → Type 0
Skips joints summary rotary angle answer =
    (other : List Float) → length other ≡ length joints → SameOpened joints other summary rotary angle → answer ≡ ask_of other summary rotary angle
