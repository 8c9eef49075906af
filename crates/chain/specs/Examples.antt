-- Worked examples of a chain's bytes: what is refused and where, and what is handed on.
use Rattle.std.specs.Prelude.{◌≡◌, refl, List, [], ◌∷◌, ◌++◌, ℕ, ◌-◌, replicate, Ok}
use Rattle.chain.specs.Bytes.{little_endian, spare}
use Rattle.chain.specs.Check.{one_or_two}
use Rattle.chain.specs.ChainBytes.{zeros, flag, rotary_fields, second_fields, chain_fields, no_chain, malformed, read_count, read_chain, read_counted, record_length}

-- the bytes of a chain of one, all zero but the count, and one that stands at an offset
marked : ℕ → ℕ → List ℕ
marked at byte = 1 ∷ replicate (at - 1) 0 ++ byte ∷ replicate (103 - at) 0

-- no count; a length that is not the count's; a count that is none of the chain's
lengths : (read_chain [] ≡ malformed 0) × (read_chain (1 ∷ []) ≡ malformed 0) × (read_chain (3 ∷ []) ≡ Ok (no_chain 3))
unfolding read_chain read_counted record_length read_count one_or_two
lengths = (refl, refl, refl)

-- a zero byte, the carrier, the flag of the limits, a zero byte of the record, and both limits where there are none
fields : (read_chain (marked 5 1) ≡ malformed 5)
    × (read_chain (marked 9 2) ≡ malformed 9)
    × (read_chain (marked 10 2) ≡ malformed 10)
    × (read_chain (marked 15 1) ≡ malformed 15)
    × (read_chain (marked 71 128) ≡ malformed 64)
    × (read_chain (marked 79 128) ≡ malformed 72)
unfolding marked read_chain read_counted record_length read_count one_or_two chain_fields second_fields rotary_fields zeros flag spare little_endian
fields = (refl, refl, refl, refl, refl, refl)
