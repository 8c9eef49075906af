-- The text of an answer. A path: `poses`, how many; `inserted`, how many of them; `turns`, the cable numbers of the two
-- rotaries; then a line for each joint set, its index and its five numbers by their bits.
-- A refusal: `refused`, its number, and where it is of a pose, `pose` and the index. Each line ends with a newline.
use Rattle.std.specs.Prelude.{ℕ, zero, suc, ◌+◌, Bool, cond, List, [], ◌∷◌, ◌++◌, length, nat_le, None, Option, Some, Err, Ok, Result}
use Rattle.refusal.specs.Numbers as Numbers
use Rattle.refusal.specs.declared.Cause.{Cause}
use Rattle.chain.specs.declared.Joints.{Joints}
use Rattle.job.specs.Spelling.{written, width, decimal, labelled, paired, number}
use Rattle.job.specs.declared.Figures.{Figures}
use Rattle.job.specs.declared.JobError.{JobError}
use Rattle.refusal.specs.declared.Refusal.{Refusal}

abbrev pub newline : List ℕ
newline = 10 ∷ []

-- ---- words, each with the spaces about it
abbrev pub poses_word : List ℕ
poses_word = 112 ∷ 111 ∷ 115 ∷ 101 ∷ 115 ∷ 32 ∷ []

abbrev pub inserted_word : List ℕ
inserted_word = 32 ∷ 105 ∷ 110 ∷ 115 ∷ 101 ∷ 114 ∷ 116 ∷ 101 ∷ 100 ∷ 32 ∷ []

abbrev pub turns_word : List ℕ
turns_word = 32 ∷ 116 ∷ 117 ∷ 114 ∷ 110 ∷ 115 ∷ 32 ∷ []

abbrev pub space : List ℕ
space = 32 ∷ []

abbrev pub refused_word : List ℕ
refused_word = 114 ∷ 101 ∷ 102 ∷ 117 ∷ 115 ∷ 101 ∷ 100 ∷ 32 ∷ []

abbrev pub pose_word : List ℕ
pose_word = 32 ∷ 112 ∷ 111 ∷ 115 ∷ 101 ∷ 32 ∷ []

-- ---- a line of the path
unfoldable pub numbers : Joints → List ℕ
numbers j = number j.xyz.x ++ (number j.xyz.y ++ (number j.xyz.z ++ (number j.a0 ++ (number j.a1 ++ newline))))

unfoldable pub line : ℕ → Joints → List ℕ
line i j = decimal i ++ numbers j

-- indices from i on
unfoldable pub lines : ℕ → List Joints → List ℕ
lines i [] = []
lines i (j ∷ l) = line i j ++ lines (suc i) l

-- how long the first n lines are
unfoldable pub lines_length : ℕ → ℕ
lines_length zero = 0
lines_length (suc n) = lines_length n + (width n + 86)

unfoldable pub lines_fit : ℕ → ℕ → ℕ → Bool
lines_fit n used room = nat_le (used + lines_length n) room

-- ---- the first line
unfoldable pub head : Figures → ℕ → List ℕ
head f n = paired poses_word n inserted_word f.inserted ++ (paired turns_word f.first space f.second ++ newline)

unfoldable pub head_length : Figures → ℕ → ℕ
head_length f n = 25 + (width n + width f.inserted + width f.first + width f.second)

-- ---- the texts
unfoldable pub path_text : Figures → List Joints → List ℕ
path_text f l = head f (length l) ++ lines 0 l

unfoldable pub refusal_text : Refusal → List ℕ
refusal_text r = labelled refused_word (Numbers.number_of r.cause) ++ newline

unfoldable pub pose_text : Refusal → List ℕ
pose_text r = paired refused_word (Numbers.number_of r.cause) pose_word r.at ++ newline

-- the two in one, by the pose that a refusal names; and what only the second has
unfoldable pub refused_text : Cause → Option ℕ → List ℕ
refused_text cause None = labelled refused_word (Numbers.number_of cause) ++ newline
refused_text cause (Some at) = paired refused_word (Numbers.number_of cause) pose_word at ++ newline

unfoldable pub pose_part : Option ℕ → List ℕ
pose_part None = []
pose_part (Some at) = labelled pose_word at

-- how a job ended: with a divided path, or without one; which refusals name a pose is said by the answer itself
abbrev pub Ended : Type 0
Ended = Result Figures JobError

abbrev pub text_of : Ended → List Joints → List ℕ
text_of (Ok f) l = path_text f l
text_of (Err (JobError.Refused r)) l = refusal_text r
text_of (Err (JobError.AtPose r)) l = pose_text r

-- ---- the entry: 28 with count 0 where the text is longer than the buffer, which is then kept
abbrev pub no_space : Result ℕ Refusal
no_space = Err (Numbers.refusal Cause.NoSpace 0)

unfoldable pub told : List ℕ → ℕ → Result ℕ Refusal
told text room = cond (nat_le (length text) room) (Ok (length text)) no_space

unfoldable pub told_over : List ℕ → List ℕ → List ℕ
told_over text out = cond (nat_le (length text) (length out)) (written out 0 text) out
