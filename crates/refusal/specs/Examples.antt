-- Worked examples that the checker computes: the number of each cause, as C's header and the price list have it,
-- written out a second time. Two numbers that changed places in the code and in `number_of` alike are refused here.
use Rattle.std.specs.Prelude.{◌≡◌, refl}
use Rattle.refusal.specs.declared.Cause.{Cause}
use Rattle.refusal.specs.Numbers.{number_of}

numbers : (number_of Cause.NameEmpty ≡ 1)
    × (number_of Cause.NameTooLong ≡ 2)
    × (number_of Cause.RotaryCount ≡ 3)
    × (number_of Cause.RotaryLetter ≡ 4)
    × (number_of Cause.LetterTwice ≡ 5)
    × (number_of Cause.ChainNotFinite ≡ 6)
    × (number_of Cause.RotaryAxisZero ≡ 7)
    × (number_of Cause.LimitsRefused ≡ 8)
    × (number_of Cause.SpindleZero ≡ 9)
    × (number_of Cause.TooManyLinks ≡ 10)
    × (number_of Cause.LinkNameTwice ≡ 11)
    × (number_of Cause.CarrierUnknown ≡ 12)
    × (number_of Cause.SolidBad ≡ 13)
    × (number_of Cause.ToolLength ≡ 14)
    × (number_of Cause.ToolAxisZero ≡ 15)
    × (number_of Cause.NotFinite ≡ 16)
    × (number_of Cause.TooLarge ≡ 17)
    × (number_of Cause.Cone ≡ 18)
    × (number_of Cause.Tolerance ≡ 19)
    × (number_of Cause.LengthsDiffer ≡ 20)
    × (number_of Cause.NotReachable ≡ 21)
    × (number_of Cause.OutsideLimits ≡ 22)
    × (number_of Cause.BranchFlips ≡ 23)
    × (number_of Cause.LeavesAxis ≡ 24)
    × (number_of Cause.PoseUnreachable ≡ 25)
    × (number_of Cause.AngleTooLarge ≡ 26)
    × (number_of Cause.TooManyInsertions ≡ 27)
    × (number_of Cause.NoSpace ≡ 28)
    × (number_of Cause.Malformed ≡ 29)
    × (number_of Cause.ParallelRotaries ≡ 30)
    × (number_of Cause.ToothMisses ≡ 31)
    × (number_of Cause.QueueFull ≡ 32)
    × (number_of Cause.NotAdmitted ≡ 33)
    × (number_of Cause.UnknownShop ≡ 34)
    × (number_of Cause.BalanceShort ≡ 35)
numbers = (
  refl,
  refl,
  refl,
  refl,
  refl,
  refl,
  refl,
  refl,
  refl,
  refl,
  refl,
  refl,
  refl,
  refl,
  refl,
  refl,
  refl,
  refl,
  refl,
  refl,
  refl,
  refl,
  refl,
  refl,
  refl,
  refl,
  refl,
  refl,
  refl,
  refl,
  refl,
  refl,
  refl,
  refl,
  refl,
)
