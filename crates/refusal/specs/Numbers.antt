-- The numbers of the causes of a refusal, and a refusal by its cause and place.
use Rattle.std.specs.Prelude.{ℕ}
use Rattle.refusal.specs.declared.Cause.{Cause}
use Rattle.refusal.specs.declared.Refusal.{Refusal}

-- no refusal
abbrev pub served : ℕ
served = 0

-- what stands for a cause in C and in the text of an answer
abbrev pub number_of : Cause → ℕ
number_of Cause.NameEmpty = 1
number_of Cause.NameTooLong = 2
number_of Cause.RotaryCount = 3
number_of Cause.RotaryLetter = 4
number_of Cause.LetterTwice = 5
number_of Cause.ChainNotFinite = 6
number_of Cause.RotaryAxisZero = 7
number_of Cause.LimitsRefused = 8
number_of Cause.SpindleZero = 9
number_of Cause.TooManyLinks = 10
number_of Cause.LinkNameTwice = 11
number_of Cause.CarrierUnknown = 12
number_of Cause.SolidBad = 13
number_of Cause.ToolLength = 14
number_of Cause.ToolAxisZero = 15
number_of Cause.NotFinite = 16
number_of Cause.TooLarge = 17
number_of Cause.Cone = 18
number_of Cause.Tolerance = 19
number_of Cause.LengthsDiffer = 20
number_of Cause.NotReachable = 21
number_of Cause.OutsideLimits = 22
number_of Cause.BranchFlips = 23
number_of Cause.LeavesAxis = 24
number_of Cause.PoseUnreachable = 25
number_of Cause.AngleTooLarge = 26
number_of Cause.TooManyInsertions = 27
number_of Cause.NoSpace = 28
number_of Cause.Malformed = 29
number_of Cause.ParallelRotaries = 30
number_of Cause.ToothMisses = 31
number_of Cause.QueueFull = 32
number_of Cause.NotAdmitted = 33
number_of Cause.UnknownShop = 34
number_of Cause.BalanceShort = 35

-- ---- what a refusal hands back
-- of a rotary, a link, a pose, a count so far or an offset
abbrev pub refusal : Cause → ℕ → Refusal
refusal cause at = record { cause = cause; at = at; letter = 0 }

-- where no single one is at fault
abbrev pub refusal_of_all : Cause → Refusal
refusal_of_all cause = refusal cause 0

-- the pose that leaves the limits of the rotary with this letter
abbrev pub leaves_axis_of : ℕ → ℕ → Refusal
leaves_axis_of pose letter = record { cause = Cause.LeavesAxis; at = pose; letter = letter }
