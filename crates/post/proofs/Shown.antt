-- What a text leaves at the front of its buffer, and that a path of 700 poses has room in 65,536 bytes.
use Prim.Native.Nat.{ℕ, zero, suc, ◌+◌, ◌*◌, ◌/◌, ◌^◌, ◌≤◌, ◌<◌}
use native.Mathlib.Omega.{arith}
use mathlib.Core.Path.{◌≡◌, refl, sym, ap, ◌∙◌}
use mathlib.Core.Bool.{Bool, true, false}
use mathlib.Core.List.{List, [], ◌∷◌, ◌++◌, append-nil, append_assoc}
use mir.Val.{Val}
use denote.Laws.{Is}
use denote.RattleType.{RattleType}
use borrow.Author.Rules.{rules}
use borrow.Author.Tests.{ltb-true, ltb-false, le-leb}
use lib.Dec.{ltb}
use lib.Ieee.{Float}
use lib.ListN.{length, take, drop, set, length-set, length-append, take-append-drop}
use Rattle.lists.proofs.Fold.{pushed}
use Rattle.std.specs.contracts.result.Result as ResultRow
use Rattle.std.specs.Prelude.{Err, Ok}
use Rattle.std.specs.Result.{result_unwrap_or}
use Rattle.refusal.specs.Numbers.{number_of}
use Rattle.refusal.specs.declared.Cause.{Cause}
use Rattle.refusal.specs.declared.Refusal.{Refusal}
use Rattle.chain.specs.declared.Joints.{Joints}
use Rattle.job.specs.declared.JobError.{JobError}
use Rattle.job.specs.declared.Figures.{Figures}
use Rattle.job.specs.Cable.{joint_sets}
use Rattle.job.specs.Spelling.{written, width}
use Rattle.job.specs.Telling.{Ended, lines_length, head_length, path_text, refusal_text, pose_text, text_of, told, told_over}
use Rattle.job.specs.contracts.Figures as FiguresRow
use Rattle.job.specs.contracts.JobError as ErrorRow
use Rattle.job.proofs.Written.{width_small, width_more, width_word, length_labelled, length_paired}
use Rattle.job.proofs.Texts.{length_path, length_sets}

-- ---- the front of a buffer
take_behind : (l : List ℕ) (at : ℕ) (t : List ℕ) → at + length t ≤ length l → take (at + length t) (written l at t) ≡ take at l ++ t
unfolding written
take_behind l at [] h = rw (add_zero at) (sym (append-nil (take at l)))
  where
    add_zero : (n : ℕ) → n + 0 ≡ n
    add_zero n = omega arith
take_behind l at (b ∷ t) h =
    let k : at + suc (length t) ≤ length l = h in
    let e : at + suc (length t) ≡ at + 1 + length t = omega arith in
    let s = length-set l at b in
    rw e (take_behind (set l at b) (at + 1) t (omega (arith, k, s)) ∙ rw (pushed l at b (omega (arith, k))) (append_assoc (take at l) (b ∷ []) t))

take_written : (l t : List ℕ) → length t ≤ length l → take (length t) (written l 0 t) ≡ t
take_written l t h =
    let e : 0 + length t ≡ length t = omega arith in
    rw e at (take_behind l 0 t (omega (arith, h)))

-- what is taken whole lies within
pub lies_within : (end : ℕ) (l t : List ℕ) → (end ≡ length t) × (take end l ≡ t) → end ≤ length l
lies_within end l t h =
    let p = h.0 in
    let q : length (take end l) ≡ length t = ap length h.1 in
    let r : length (take end l) + length (drop end l) ≡ length l = sym (length-append (take end l) (drop end l)) ∙ ap length (take-append-drop end l) in
    omega (arith, p, q, r)

-- a text that has room is told whole
told_whole : (t out out' : List ℕ) (end : ℕ) → length t ≤ length out → end ≡ result_unwrap_or (told t (length out)) 0 → out' ≡ told_over t out → (end ≡ length t) × (take end out' ≡ t)
unfolding told told_over
told_whole t out out' end h e f =
    let r = le-leb (length t) (length out) h in
    let n : end ≡ length t = rw r at e in
    let w : out' ≡ written out 0 t = rw r at f in
    (n, rw (n, w) (take_written out t h))

-- ---- how long a text is
three_digits : (i : ℕ) → i < 1000 → width i ≤ 3
three_digits i h = by_size (ltb i 10) (ltb i 100) refl refl
  where
    by_size : (s t : Bool) → ltb i 10 ≡ s → ltb i 100 ≡ t → width i ≤ 3
    by_size true t p q =
        let e = width_small i (ltb-true i 10 p) in
        omega (arith, e)
    by_size false true p q =
        let e = width_more i (ltb-false i 10 p) in
        let b = ltb-true i 100 q in
        let f = width_small (i / 10) (omega (arith, b)) in
        omega (arith, e, f)
    by_size false false p q =
        let e = width_more i (ltb-false i 10 p) in
        let b = ltb-false i 100 q in
        let f = width_more (i / 10) (omega (arith, b)) in
        let g = width_small (i / 10 / 10) (omega (arith, h)) in
        omega (arith, e, f, g)

lines_short : (n : ℕ) → n ≤ 700 → lines_length n ≤ 89 * n
unfolding lines_length
lines_short zero h = omega arith
lines_short (suc n) h =
    let f = lines_short n (omega (arith, h)) in
    let g = three_digits n (omega (arith, h)) in
    omega (arith, f, g)

-- every cause has a small number
small_number : (cause : Cause) → number_of cause < 2 ^ 64
small_number Cause.NameEmpty = omega arith
small_number Cause.NameTooLong = omega arith
small_number Cause.RotaryCount = omega arith
small_number Cause.RotaryLetter = omega arith
small_number Cause.LetterTwice = omega arith
small_number Cause.ChainNotFinite = omega arith
small_number Cause.RotaryAxisZero = omega arith
small_number Cause.LimitsRefused = omega arith
small_number Cause.SpindleZero = omega arith
small_number Cause.TooManyLinks = omega arith
small_number Cause.LinkNameTwice = omega arith
small_number Cause.CarrierUnknown = omega arith
small_number Cause.SolidBad = omega arith
small_number Cause.ToolLength = omega arith
small_number Cause.ToolAxisZero = omega arith
small_number Cause.NotFinite = omega arith
small_number Cause.TooLarge = omega arith
small_number Cause.Cone = omega arith
small_number Cause.Tolerance = omega arith
small_number Cause.LengthsDiffer = omega arith
small_number Cause.NotReachable = omega arith
small_number Cause.OutsideLimits = omega arith
small_number Cause.BranchFlips = omega arith
small_number Cause.LeavesAxis = omega arith
small_number Cause.PoseUnreachable = omega arith
small_number Cause.AngleTooLarge = omega arith
small_number Cause.TooManyInsertions = omega arith
small_number Cause.NoSpace = omega arith
small_number Cause.Malformed = omega arith
small_number Cause.ParallelRotaries = omega arith
small_number Cause.ToothMisses = omega arith
small_number Cause.QueueFull = omega arith
small_number Cause.NotAdmitted = omega arith
small_number Cause.UnknownShop = omega arith
small_number Cause.BalanceShort = omega arith

-- every number of an answer has 64 bits
abbrev Row : RattleType
Row = ResultRow.the_row FiguresRow.the_row ErrorRow.the_row

abbrev Small : Ended → Type 0
Small (Ok f) = (f.inserted < 2 ^ 64) × ((f.first < 2 ^ 64) × (f.second < 2 ^ 64))
Small (Err (JobError.Refused r)) = Unit {0}
Small (Err (JobError.AtPose r)) = r.at < 2 ^ 64

-- which its type says
small : (e : Ended) (vs : List Val) → Is Row e vs → Small e
small (Ok f) vs g = search (rules, g)
small (Err (JobError.Refused r)) vs g = tt
small (Err (JobError.AtPose r)) vs g = search (rules, g)

path_short : (f : Figures) (l : List Joints) → length l ≤ 700 → f.inserted < 2 ^ 64 → f.first < 2 ^ 64 → f.second < 2 ^ 64 → length (path_text f l) ≤ 65536
unfolding head_length
path_short f l h a b c =
    let e = length_path f l in
    let s = lines_short (length l) h in
    let n = three_digits (length l) (omega (arith, h)) in
    let i = width_word f.inserted a in
    let j = width_word f.first b in
    let k = width_word f.second c in
    omega (arith, e, s, n, i, j, k, h)

refusal_short : (r : Refusal) → length (refusal_text r) ≤ 65536
unfolding refusal_text
refusal_short r =
    let n = width_word (number_of r.cause) (small_number r.cause) in
    rw (length-append, length_labelled) (omega (arith, n))

pose_short : (r : Refusal) → r.at < 2 ^ 64 → length (pose_text r) ≤ 65536
unfolding pose_text
pose_short r b =
    let n = width_word (number_of r.cause) (small_number r.cause) in
    let m = width_word r.at b in
    rw (length-append, length_paired) (omega (arith, n, m))

text_short : (ended : Ended) (l : List Joints) → Small ended → length l ≤ 700 → length (text_of ended l) ≤ 65536
text_short (Ok f) l s h = path_short f l h s.0 s.1.0 s.1.1
text_short (Err (JobError.Refused r)) l s h = refusal_short r
text_short (Err (JobError.AtPose r)) l s h = pose_short r s

-- so that a path of at most 700 joint sets is told whole
pub told_path : (ended : Ended) (vs : List Val) (path : List Float) (out out' : List ℕ) (end : ℕ) → Is Row ended vs → length path / 5 ≤ 700 → 65536 ≤ length out
    → end ≡ result_unwrap_or (told (text_of ended (joint_sets path)) (length out)) 0 → out' ≡ told_over (text_of ended (joint_sets path)) out
    → (end ≡ length (text_of ended (joint_sets path))) × (take end out' ≡ text_of ended (joint_sets path))
told_path ended vs path out out' end g few room e f =
    let n = length_sets path in
    let s = text_short ended (joint_sets path) (small ended vs g) (omega (arith, n, few)) in
    told_whole (text_of ended (joint_sets path)) out out' end (omega (arith, s, room)) e f
