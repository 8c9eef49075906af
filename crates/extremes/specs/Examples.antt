-- Worked examples that the checker computes: how many groups there are, zeros of both signs, a summary with its
-- smallest five first, a tie, and an empty path.
use Rattle.std.specs.Prelude.{◌≡◌, refl, false, List, [], ◌∷◌, Float, Err, None, Ok, Some}
use Rattle.std.specs.Float.Ieee as Ieee
use Rattle.std.specs.Float.{binary64}
use Rattle.std.specs.Float.Ieee.{of_bits, is_nan}
use Rattle.lists.specs.Fold.{fold}
use Rattle.lists.specs.Rows.{rows, flat}
use Rattle.float.specs.Helpers.{nought, size_of}
use Rattle.float.specs.TotalOrder.{before}
use Rattle.refusal.specs.Numbers.{number_of, refusal}
use Rattle.refusal.specs.declared.Cause.{Cause}
use Rattle.geometry.specs.Vector.{vector}
use Rattle.chain.specs.declared.Joints.{Joints}
use Rattle.chain.specs.Check.{within}
use Rattle.turn.specs.Items.{joints_in}
use Rattle.extremes.specs.Summary.{sets_in, lower, upper, lower_set, upper_set, widened, extremes_of, group_count, groups, summary_of}
use Rattle.chain.specs.Angles.{angle_of}
use Rattle.extremes.specs.Asking.{above, opened, above_at, hit, first_index, first_above}
use Rattle.extremes.specs.Checking.{lengths_good, ask_good, ask_check}
use Rattle.extremes.specs.Entries.{found_among, ask_of}

counts : (group_count 0 ≡ 0) × (group_count 1 ≡ 1) × (group_count 64 ≡ 1) × (group_count 65 ≡ 2)
unfolding group_count
counts = (refl, refl, refl, refl)

minus_nought : Float
minus_nought = of_bits binary64 0x8000_0000_0000_0000

-- ---- by totalOrder -0.0 stands before +0.0, in whichever order the two come
smallest_zero : (lower nought minus_nought ≡ minus_nought) × (lower minus_nought nought ≡ minus_nought)
unfolding minus_nought lower before of_bits Ieee.lt Ieee.eq is_nan
smallest_zero = (refl, refl)

largest_zero : (upper nought minus_nought ≡ nought) × (upper minus_nought nought ≡ nought)
unfolding minus_nought upper before of_bits Ieee.lt Ieee.eq is_nan
largest_zero = (refl, refl)

-- compared as floats neither is above the other, nor is an angle above itself
at : Float → Joints
at x = record { xyz = vector nought nought nought; a0 = x; a1 = nought }

no_zero_above : (above 0 minus_nought (at nought) ≡ false) × (above 0 nought (at minus_nought) ≡ false)
unfolding at minus_nought above angle_of of_bits Ieee.lt
no_zero_above = (refl, refl)

-- ---- three joint sets: 1, 2 and -1 in x, zeros of both signs in y and z, 90, 45 and 90 degrees of the first rotary
one : Float
one = of_bits binary64 0x3ff0_0000_0000_0000

two : Float
two = of_bits binary64 0x4000_0000_0000_0000

minus_one : Float
minus_one = of_bits binary64 0xbff0_0000_0000_0000

forty_five : Float
forty_five = of_bits binary64 0x4046_8000_0000_0000

ninety : Float
ninety = of_bits binary64 0x4056_8000_0000_0000

path : List Float
path =
    one ∷ nought ∷ minus_nought ∷ forty_five ∷ nought
    ∷ two ∷ minus_nought ∷ nought ∷ ninety ∷ one
    ∷ minus_one ∷ nought ∷ nought ∷ ninety ∷ minus_one
    ∷ []

-- the smallest five first; of the zeros -0.0 is the smallest and +0.0 the largest
summary : List Float
summary =
    minus_one ∷ minus_nought ∷ minus_nought ∷ forty_five ∷ minus_one
    ∷ two ∷ nought ∷ nought ∷ ninety ∷ one
    ∷ []

summed : summary_of (sets_in path) ≡ summary
unfolding path summary one two minus_one forty_five ninety minus_nought summary_of sets_in rows flat groups group_count extremes_of fold widened lower_set upper_set lower upper before of_bits Ieee.lt Ieee.eq is_nan
summed = refl

-- ---- a tie: two joint sets have 90 degrees. Above 45 the first of them is found, and nothing is above 90 itself
tie : (ask_of path summary 0 forty_five ≡ Ok (Some 1)) × (ask_of path summary 0 ninety ≡ Ok None)
unfolding path summary one two minus_one forty_five ninety minus_nought ask_of ask_check ask_good lengths_good group_count within found_among first_above first_index hit opened above_at above angle_of joints_in of_bits Ieee.lt Ieee.le Ieee.eq size_of
tie = (refl, refl)

-- ---- signed zeros: the largest of the second rotary is 1, and of both zeros it is the first above; nothing is above 1
zeros : (ask_of path summary 1 nought ≡ Ok (Some 1)) × (ask_of path summary 1 minus_nought ≡ Ok (Some 1)) × (ask_of path summary 1 one ≡ Ok None)
unfolding path summary one two minus_one forty_five ninety minus_nought ask_of ask_check ask_good lengths_good group_count within found_among first_above first_index hit opened above_at above angle_of joints_in of_bits Ieee.lt Ieee.le Ieee.eq size_of
zeros = (refl, refl, refl)

-- ---- an empty path has no groups, and nothing above any angle; a rotary that is none is refused all the same
no_sets : (summary_of (sets_in []) ≡ []) × (ask_of [] [] 0 ninety ≡ Ok None) × (ask_of [] [] 2 ninety ≡ Err (refusal Cause.LengthsDiffer 0))
    × (number_of Cause.LengthsDiffer ≡ 20)
unfolding ninety summary_of sets_in rows flat groups group_count ask_of ask_check ask_good lengths_good within found_among first_above first_index of_bits Ieee.lt Ieee.le Ieee.eq size_of
no_sets = (refl, refl, refl, refl)
