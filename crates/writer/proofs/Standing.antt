-- A text that stands in bytes at an offset, and what is read there.
use Prim.Native.Nat.{ℕ, zero, suc, ◌+◌, ◌*◌, ◌/◌, ◌%◌, ◌^◌, ◌<◌}
use native.Mathlib.Nat.{pow-succ', mod-add-div, div-lt_iff_lt-mul}
use native.Mathlib.Omega.{arith}
use mathlib.Core.Path.{◌≡◌, refl, sym, ap, ◌∙◌}
use mathlib.Core.Bool.{Bool, true, false, cond}
use mathlib.Core.List.{List, [], ◌∷◌, ◌++◌}
use lib.Dec.{T}
use lib.ListN.{length, replicate, length-append, get_or-append}
use lib.Seq.{get_or-append-add}
use lib.Ieee.{Float, nan, inf, fin, is_nan, binary64, fits, of_bits, to_bits}
use lib.Ieee as Ieee
use lib.Ieee.Bits.{of_bits-to_bits, to_bits-lt}
use Rattle.std.specs.Prelude.{Ok}
use Rattle.chain.specs.Bytes.{byte_at, little_endian, number_at, vector_at}
use Rattle.chain.specs.ChainBytes.{zeros}
use Rattle.geometry.specs.declared.Vec3.{Vec3}
use Rattle.float.proofs.Choices.{nan_of}
use Rattle.job.specs.Spelling.{bits_of}
use Rattle.geometry.specs.Doubles.{FitVec}
use Rattle.writer.specs.Writing.{bytes_of, number_bytes, vector_bytes}

-- ---- a text at an offset
pub record Stands (bytes : List ℕ) (at : ℕ) (text : List ℕ) : Type 0 where
  pub byte : (i : ℕ) → i < length text → byte_at bytes (at + i) ≡ byte_at text i

module _ {bytes : List ℕ} where
  pub stands_left : {at : ℕ} (t u : List ℕ) → Stands bytes at (t ++ u) → Stands bytes at t
  stands_left {at} t u s = record { byte = λ i h. s.byte i (rw length-append (omega (arith, h))) ∙ get_or-append t u 0 i h }

  pub stands_right : {at : ℕ} (t u : List ℕ) (n to : ℕ) → length t ≡ n → at + n ≡ to → Stands bytes at (t ++ u) → Stands bytes to u
  stands_right {at} t u n to e f s = record {
    byte = λ i h.
        let g : at + (length t + i) ≡ to + i = omega (arith, e, f) in
        ap (byte_at bytes) (sym g) ∙ s.byte (length t + i) (rw length-append (omega (arith, h))) ∙ get_or-append-add t u i 0;
  }

pub stands_whole : (bytes : List ℕ) → Stands bytes 0 bytes
stands_whole bytes = record { byte = λ i h. ap (byte_at bytes) (omega arith) }

-- ---- whole numbers
le_head : (n : ℕ) (bytes : List ℕ) (at : ℕ) → little_endian (suc n) bytes at ≡ byte_at bytes at + 256 * little_endian n bytes (at + 1)
unfolding little_endian
le_head zero bytes at = let e : at + 0 ≡ at = omega arith in rw e (omega arith)
le_head (suc n) bytes at =
    let p = pow-succ' 256 n in
    let e : at + suc n ≡ at + 1 + n = omega arith in
    let h = le_head n bytes at in
    joined (little_endian (suc n) bytes at) (byte_at bytes at) (little_endian n bytes (at + 1)) (byte_at bytes (at + suc n)) (byte_at bytes (at + 1 + n)) (256 ^ n) (256 ^ suc n) h (ap (byte_at bytes) e) p
  where
    joined : (l b r c d p q : ℕ) → l ≡ b + 256 * r → c ≡ d → q ≡ 256 * p → l + c * q ≡ b + 256 * (r + d * p)
    joined l b r c d p q h e f = rw (h, e, f) (omega arith)

pub length_bytes : (n x : ℕ) → length (bytes_of n x) ≡ n
unfolding bytes_of
length_bytes zero x = refl
length_bytes (suc n) x = ap suc (length_bytes n (x / 256))

pub whole_read : (n x : ℕ) (bytes : List ℕ) (at : ℕ) → x < 256 ^ n → Stands bytes at (bytes_of n x) → little_endian n bytes at ≡ x
unfolding bytes_of
whole_read zero x bytes at h s = unfold little_endian in omega (arith, h)
whole_read (suc n) x bytes at h s =
    let p = pow-succ' 256 n in
    let b : byte_at bytes (at + 0) ≡ x % 256 = s.byte 0 (omega arith) in
    let z : at + 0 ≡ at = omega arith in
    let d : x / 256 < 256 ^ n = (div-lt_iff_lt-mul {k = 256} {x = x} {y = 256 ^ n} (omega arith)).1 (omega (arith, h, p)) in
    let t = stands_right (x % 256 ∷ []) (bytes_of n (x / 256)) 1 (at + 1) refl refl s in
    let r = whole_read n (x / 256) bytes (at + 1) d t in
    le_head n bytes at ∙ rw (r, rw z at b) (mod-add-div x 256)

-- ---- floats
bits_of_nan : of_bits binary64 0x7ff8_0000_0000_0000 ≡ nan
unfolding of_bits
bits_of_nan = refl

the_nan : (x : Float) → is_nan x ≡ true → x ≡ nan
unfolding is_nan
the_nan nan e = refl
the_nan (inf s) e = cc
the_nan (fin s m d) e = cc

pub bits_there : (x : Float) → T (fits binary64 x) → of_bits binary64 (bits_of x) ≡ x
unfolding bits_of
bits_there x t = go (Ieee.ne x x) refl
  where
    go : (b : Bool) → Ieee.ne x x ≡ b → of_bits binary64 (cond b 0x7ff8_0000_0000_0000 (to_bits binary64 x)) ≡ x
    go true e = bits_of_nan ∙ sym (the_nan x (nan_of x e))
    go false e = of_bits-to_bits binary64 x t

pub bits_few : (x : Float) → T (fits binary64 x) → bits_of x < 256 ^ 8
unfolding bits_of
bits_few x t = go (Ieee.ne x x)
  where
    go : (b : Bool) → cond b 0x7ff8_0000_0000_0000 (to_bits binary64 x) < 256 ^ 8
    go true = omega arith
    go false = to_bits-lt binary64 x t

pub number_read : (x : Float) (bytes : List ℕ) (at : ℕ) → T (fits binary64 x) → Stands bytes at (number_bytes x) → number_at bytes at ≡ x
unfolding number_at number_bytes
number_read x bytes at t s = ap (of_bits binary64) (whole_read 8 (bits_of x) bytes at (bits_few x t) s) ∙ bits_there x t

pub length_number : (x : Float) → length (number_bytes x) ≡ 8
unfolding number_bytes
length_number x = length_bytes 8 (bits_of x)

-- ---- vectors
pub length_vector : (v : Vec3) → length (vector_bytes v) ≡ 24
unfolding vector_bytes
length_vector v = rw (length-append, length-append, length_number, length_number, length_number)

pub vector_read : (v : Vec3) (bytes : List ℕ) (at : ℕ) → FitVec v → Stands bytes at (vector_bytes v) → vector_at bytes at ≡ v
unfolding vector_at vector_bytes
vector_read v bytes at f s =
    let yz = stands_right (number_bytes v.x) (number_bytes v.y ++ number_bytes v.z) 8 (at + 8) (length_number v.x) refl s in
    let z = stands_right (number_bytes v.y) (number_bytes v.z) 8 (at + 16) (length_number v.y) (omega arith) yz in
    rw (
      number_read v.x bytes at f.0 (stands_left (number_bytes v.x) (number_bytes v.y ++ number_bytes v.z) s),
      number_read v.y bytes (at + 8) f.1 (stands_left (number_bytes v.y) (number_bytes v.z) yz),
      number_read v.z bytes (at + 16) f.2 z,
    )

-- ---- zero bytes
pub zeros_read : (n : ℕ) (bytes : List ℕ) (at : ℕ) → Stands bytes at (replicate n 0) → zeros bytes at n ≡ Ok tt
unfolding zeros
zeros_read zero bytes at s = refl
zeros_read (suc n) bytes at s =
    let b : byte_at bytes (at + 0) ≡ 0 = s.byte 0 (omega arith) in
    let z : at + 0 ≡ at = omega arith in
    rw (rw z at b) (zeros_read n bytes (at + 1) (stands_right (0 ∷ []) (replicate n 0) 1 (at + 1) refl refl s))
