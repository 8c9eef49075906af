-- Worked examples: halves away from zero, zeros as +0.0, the angle just below a half, and the turns at right angles.
use Rattle.std.specs.Prelude.{◌≡◌, refl, Float}
use Rattle.std.specs.Float.{binary64}
use Rattle.std.specs.Float.Ieee.{round, add, mul, neg, eq, lt, le, of_bits, of_int, to_unsigned}
use Rattle.float.specs.Helpers.{nought, one, size_of, round_half_away}
use Rattle.geometry.specs.declared.Turn.{Turn}
use Rattle.chain.specs.Check.{within}
use Rattle.hirth.specs.Teeth.{teeth, tooth_at, entries}
use Rattle.hirth.specs.Snapping.{half, snapped}
use Rattle.hirth.specs.Turning.{unscaled, quartered, part_turn, half_turns, toward, halves, tooth_turn}

-- 0.25, the double below it, 0.2, 36,900 and 36,899.75
quarter : Float
quarter = of_bits binary64 0x3fd0_0000_0000_0000

below_quarter : Float
below_quarter = of_bits binary64 0x3fcf_ffff_ffff_ffff

fifth : Float
fifth = of_bits binary64 0x3fc9_9999_9999_999a

farthest : Float
farthest = of_bits binary64 0x40e2_0480_0000_0000

below_farthest : Float
below_farthest = of_bits binary64 0x40e2_0478_0000_0000

-- a half goes away from zero, and what is less than a half does not
halves_away : (snapped quarter ≡ half) × (snapped (neg quarter) ≡ neg half) × (snapped below_quarter ≡ nought)
unfolding quarter below_quarter snapped round_half_away round add mul neg of_bits
halves_away = (refl, refl, refl)

-- zero is +0.0: from -0.2, and from -0.0
zero_plain : (snapped (neg fifth) ≡ nought) × (snapped (neg nought) ≡ nought)
unfolding fifth snapped round_half_away round add mul neg of_bits
zero_plain = (refl, refl)

-- as far as `choose` goes
farthest_tooth : (snapped farthest ≡ farthest) × (snapped below_farthest ≡ farthest)
unfolding farthest below_farthest snapped round_half_away round add mul neg of_bits
farthest_tooth = (refl, refl)

-- 90, 180, 270 and -90 degrees: exactly +0.0, 1 and -1
turn : Float → Float → Turn
turn s c = record { sine = s; cosine = c }

right_angles :
    (tooth_turn (of_bits binary64 0x4056_8000_0000_0000) ≡ turn one nought)
    × (tooth_turn (of_bits binary64 0x4066_8000_0000_0000) ≡ turn nought (neg one))
    × (tooth_turn (of_bits binary64 0x4070_e000_0000_0000) ≡ turn (neg one) nought)
    × (tooth_turn (neg (of_bits binary64 0x4056_8000_0000_0000)) ≡ turn (neg one) nought)
unfolding turn tooth_turn toward half_turns part_turn quartered unscaled entries teeth tooth_at halves within size_of to_unsigned round add mul neg eq lt le of_int of_bits
right_angles = (refl, refl, refl, refl)
