-- Numbers as bytes of a text: decimal, and the bit pattern of a float in hexadecimal.
use Rattle.std.specs.Prelude.{◌≡◌, ◌≤◌, ℕ, zero, suc, ◌+◌, ◌/◌, ◌%◌, cond, List, [], ◌∷◌, ◌++◌, length, nat_lt, slice_set, to_bits, Float}
use Rattle.std.specs.Float.Ieee as Ieee
use Rattle.std.specs.Float.{binary64}
use Rattle.job.specs.declared.spelling.Page.{Page}

-- a text over the bytes from an offset on
unfoldable pub written : List ℕ → ℕ → List ℕ → List ℕ
written out at [] = out
written out at (b ∷ text) = written (slice_set out at b) (at + 1) text

-- a text has room on a page
pub record Fits (page : Page) (text : List ℕ) : Type 0 where
  pub room : page.at + length text ≤ length page.out.now

-- it is put there, over the same bytes, and the next goes behind it
pub record Put (old : Page) (text : List ℕ) (new : Page) : Type 0 where
  pub same : new.out.ghost_name ≡ old.out.ghost_name
  pub whole : new.out.now ≡ written old.out.now old.at text
  pub behind : new.at ≡ old.at + length text

-- 0 to 9, then A to F
unfoldable pub digit : ℕ → ℕ
digit d = cond (nat_lt d 10) (48 + d) (55 + d)

-- the last n digits of x to a base
unfoldable pub digits : ℕ → ℕ → ℕ → List ℕ
digits base zero x = []
digits base (suc n) x = digits base n (x / base) ++ (digit (x % base) ∷ [])

-- how many decimal digits x has, if it has at most n + 1
unfoldable pub width_within : ℕ → ℕ → ℕ
width_within zero x = 1
width_within (suc n) x = cond (nat_lt x 10) 1 (suc (width_within n (x / 10)))

-- no number has more digits than one more than itself (`width_small` and `width_more`, in proofs, do not know the
-- bound)
unfoldable pub width : ℕ → ℕ
width x = width_within x x

unfoldable pub decimal : ℕ → List ℕ
decimal x = digits 10 (width x) x

unfoldable pub labelled : List ℕ → ℕ → List ℕ
labelled label x = label ++ decimal x

unfoldable pub paired : List ℕ → ℕ → List ℕ → ℕ → List ℕ
paired label x word y = labelled label x ++ labelled word y

-- a nan prints as the one nan, 7FF8000000000000
unfoldable pub bits_of : Float → ℕ
bits_of x = cond (Ieee.ne x x) 0x7ff8_0000_0000_0000 (to_bits binary64 x)

-- a space and 16 digits
unfoldable pub number : Float → List ℕ
number x = 32 ∷ digits 16 16 (bits_of x)
