-- `reciprocal` reads the double nearest to 1 / ((p + 1) (p + 2)): each entry of the table is computed. Assumes nothing.
use Rattle.std.proofs.Common.{◌≡◌, ℕ, ◌+◌, ◌*◌, List, [], ◌∷◌, refl, rules}
use lib.Ieee.{Float, nan, binary64, round, of_bits}
use Rattle.trig.specs.Kernel.{reciprocal as the-reciprocal}
use Rattle.trig.proofs.Table.{at}
use Rattle.trig.proofs.series.reciprocal.Goals as goal

table : List Float
table =
    of_bits binary64 0x3fe0_0000_0000_0000 ∷
    of_bits binary64 0x3fc5_5555_5555_5555 ∷
    of_bits binary64 0x3fb5_5555_5555_5555 ∷
    of_bits binary64 0x3fa9_9999_9999_999a ∷
    of_bits binary64 0x3fa1_1111_1111_1111 ∷
    of_bits binary64 0x3f98_6186_1861_8618 ∷
    of_bits binary64 0x3f92_4924_9249_2492 ∷
    of_bits binary64 0x3f8c_71c7_1c71_c71c ∷
    of_bits binary64 0x3f86_c16c_16c1_6c17 ∷
    of_bits binary64 0x3f82_9e41_29e4_129e ∷
    of_bits binary64 0x3f7f_07c1_f07c_1f08 ∷
    of_bits binary64 0x3f7a_41a4_1a41_a41a ∷
    of_bits binary64 0x3f76_8168_1681_6817 ∷
    of_bits binary64 0x3f73_8138_1381_3814 ∷
    of_bits binary64 0x3f71_1111_1111_1111 ∷
    of_bits binary64 0x3f6e_1e1e_1e1e_1e1e ∷
    of_bits binary64 0x3f6a_c570_1ac5_701b ∷
    of_bits binary64 0x3f67_f405_fd01_7f40 ∷
    of_bits binary64 0x3f65_8ed2_3081_58ed ∷
    of_bits binary64 0x3f63_8138_1381_3814 ∷
    of_bits binary64 0x3f61_bb4a_4046_ed29 ∷
    of_bits binary64 0x3f60_3091_b51f_5e1a ∷
    of_bits binary64 0x3f5d_ae60_76b9_81db ∷
    of_bits binary64 0x3f5b_4e81_b4e8_1b4f ∷ []

pub returns : goal.returns
unfolding table the-reciprocal round of_bits
returns c =
    at (λ (p : ℕ) (x : Float). x ≡ the-reciprocal ((p + 1) * (p + 2))) table nan
    (refl, (refl, (refl, (refl, (refl, (refl, (refl, (refl, (refl, (refl, (refl, (refl, (refl, (refl, (refl, (refl, (refl, (refl, (refl, (refl, (refl, (refl, (refl, (refl, tt))))))))))))))))))))))))
    c.args.p (search rules)
