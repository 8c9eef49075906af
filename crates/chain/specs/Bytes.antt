-- Numbers in bytes: a whole number is the sum of its bytes, each times 256 to the power of its place; a float is that
-- number's bit pattern, and every nan's pattern is the one nan.
use Rattle.std.specs.Prelude.{Bool, ◌||◌, List, ℕ, zero, suc, ◌+◌, ◌*◌, ◌^◌, eqb, get_or, Float}
use Rattle.std.specs.Float.{binary64}
use Rattle.std.specs.Float.Ieee.{of_bits}
use Rattle.geometry.specs.declared.Vec3.{Vec3}
use Rattle.geometry.specs.Vector.{vector}

-- 0 past the end
abbrev pub byte_at : List ℕ → ℕ → ℕ
byte_at bytes at = get_or bytes at 0

-- of n bytes from an offset on
unfoldable pub little_endian : ℕ → List ℕ → ℕ → ℕ
little_endian zero bytes at = 0
little_endian (suc n) bytes at = little_endian n bytes at + byte_at bytes (at + n) * 256 ^ n

-- the same of eight bytes, written out
abbrev pub word : ℕ → ℕ → ℕ → ℕ → ℕ → ℕ → ℕ → ℕ → ℕ
word a b c d e f g h =
    a + b * 256 ^ 1 + c * 256 ^ 2 + d * 256 ^ 3 + e * 256 ^ 4 + f * 256 ^ 5 + g * 256 ^ 6 + h * 256 ^ 7

unfoldable pub number_at : List ℕ → ℕ → Float
number_at bytes at = of_bits binary64 (little_endian 8 bytes at)

unfoldable pub vector_at : List ℕ → ℕ → Vec3
vector_at bytes at = vector (number_at bytes at) (number_at bytes (at + 8)) (number_at bytes (at + 16))

-- a number that is used only where the byte at `switch` is 1 is else +0.0, bit for bit
unfoldable pub spare : List ℕ → ℕ → ℕ → Bool
spare bytes switch at = eqb (byte_at bytes switch) 1 || eqb (little_endian 8 bytes at) 0
