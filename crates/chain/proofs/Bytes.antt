-- Laws of the definitions of bytes: what stands past the end, a word written out, the patterns of a nan, and a run of zero bytes seen from any byte of it.
use Prim.Native.Nat.{ℕ, zero, suc, ◌+◌, ◌-◌, ◌*◌, ◌≤◌, ◌<◌}
use native.Mathlib.Nat.{le_of_suc-le-suc}
use native.Mathlib.Omega.{arith}
use mathlib.Core.Path.{◌≡◌, refl, sym, ◌∙◌}
use mathlib.Core.Bool.{true, false, not, true≢false, and-eq-true_iff}
use mathlib.Core.List.{List, [], ◌∷◌}
use lib.Dec.{ltb, eqb}
use lib.ListN.{length, get_or}
use borrow.Author.Tests.{ltb-false, not-true, ne_eqb}
use Rattle.std.specs.Prelude.{Err, Ok}
use Rattle.std.proofs.Common.{cond, add-zero, ◌≢◌, Some, None, slice_range, drop, take, nat_lt, w64}
use Rattle.std.specs.Int.{from_le_bytes}
use Rattle.std.specs.List.{position, position_or_len}
use Rattle.std.proofs.lemmas.List.{get_or-take, get_or-drop, length-take-le, length-drop}
use Rattle.std.proofs.lemmas.Bool.Decides.{nat_tests}
use Rattle.std.proofs.lemmas.List.Sums.{fails_before_first}
use Rattle.std.proofs.lemmas.List.Quantifiers.{position-Some}
use Rattle.chain.specs.Bytes.{little_endian, word}
use Rattle.refusal.specs.Numbers.{refusal}
use Rattle.refusal.specs.declared.Cause.{Cause}
use Rattle.chain.specs.Check.{one_or_two}
use Rattle.chain.specs.ChainBytes.{zeros}

pub byte_past : (l : List ℕ) (i : ℕ) → length l ≤ i → get_or l i 0 ≡ 0
byte_past [] i h = refl
byte_past (x ∷ l) zero h = absurd (omega arith)
byte_past (x ∷ l) (suc i) h = byte_past l i (le_of_suc-le-suc h)

pub word_is : (l : List ℕ) (at : ℕ)
    → word (get_or l at 0) (get_or l (at + 1) 0) (get_or l (at + 2) 0) (get_or l (at + 3) 0) (get_or l (at + 4) 0) (get_or l (at + 5) 0) (get_or l (at + 6) 0) (get_or l (at + 7) 0)
    ≡ little_endian 8 l at
unfolding little_endian
word_is l at =
    let e : at + 0 ≡ at = omega arith in
    rw e (omega arith)

-- a byte of the n from `at` on, and the eight of them as a word
pub chunk_byte : (l : List ℕ) (at n i : ℕ) → i < n → get_or (take n (slice_range l at (at + n))) i 0 ≡ get_or l (at + i) 0
chunk_byte l at n i lt =
    get_or-take n (slice_range l at (at + n)) i 0 lt ∙ get_or-take (at + n - at) (drop at l) i 0 (omega arith) ∙ get_or-drop at l i 0

pub chunk_word : (l ys : List ℕ) (at : ℕ) → ys ≡ take 8 (slice_range l at (at + 8)) → from_le_bytes w64 ys ≡ little_endian 8 l at
unfolding little_endian
chunk_word l ys at e =
    let b : (i : ℕ) → i < 8 → get_or ys i 0 ≡ get_or l (at + i) 0 = λ i lt. rw e (chunk_byte l at 8 i lt) in
    omega
    (arith, b 0 (omega arith), b 1 (omega arith), b 2 (omega arith), b 3 (omega arith), b 4 (omega arith), b 5 (omega arith), b 6 (omega arith), b 7 (omega arith))

pub two_is : (l : List ℕ) (at : ℕ) → get_or l at 0 + get_or l (at + 1) 0 * 256 ≡ little_endian 2 l at
unfolding little_endian
two_is l at =
    let e : at + 0 ≡ at = omega arith in
    rw e (omega arith)

pub two_past : (l : List ℕ) (at : ℕ) → length l ≤ at → 0 ≡ little_endian 2 l at
two_past l at h =
    let h' : length l ≤ at + 1 = omega arith in
    rw (byte_past l at h, byte_past l (at + 1) h') at (two_is l at)

-- a count that is served
pub at_least_one : (count : ℕ) → one_or_two count ≡ true → 1 ≤ count
unfolding one_or_two
at_least_one count e = ltb-false count 1 (not-true _ ((and-eq-true_iff (not (ltb count 1)) (ltb count 3)).0 e).0)

-- ---- a run of n zero bytes, and the first of them that is none
zeros_all : (l : List ℕ) (at n : ℕ) → ((k : ℕ) → k < n → get_or l (at + k) 0 ≡ 0) → zeros l at n ≡ Ok tt
unfolding zeros
zeros_all l at zero h = refl
zeros_all l at (suc n) h =
    let first : get_or l at 0 ≡ 0 = rw add-zero at (h 0 (omega arith)) in
    rw first (zeros_all l (at + 1) n (λ k lt. let e : at + 1 + k ≡ at + suc k = omega arith in rw e (h (suc k) (omega arith))))

zeros_until : (l : List ℕ) (at n i : ℕ) → i < n → ((k : ℕ) → k < i → get_or l (at + k) 0 ≡ 0) → get_or l (at + i) 0 ≢ 0
    → zeros l at n ≡ Err (refusal Cause.Malformed (at + i))
unfolding zeros
zeros_until l at zero i lt before here = absurd (omega arith)
zeros_until l at (suc n) zero lt before here =
    let e : at + 0 ≡ at = omega arith in
    let ne : get_or l at 0 ≢ 0 = rw e at here in
    rw (e, ne_eqb _ _ ne)
zeros_until l at (suc n) (suc i) lt before here =
    let first : get_or l at 0 ≡ 0 = rw add-zero at (before 0 (omega arith)) in
    let e : at + suc i ≡ at + 1 + i = omega arith in
    rw (first, e) (zeros_until l (at + 1) n i (omega arith) (λ k below. let e : at + 1 + k ≡ at + suc k = omega arith in rw e (before (suc k) (omega arith))) (rw e at here))

zero_byte : (byte : ℕ) → not (eqb byte 0) ≡ false → byte ≡ 0
zero_byte byte e = grind (arith, nat_tests)

some_byte : (byte : ℕ) → byte ≡ 0 → not (eqb byte 0) ≡ false
some_byte byte e = rw e

nowhere : (m n : ℕ) → cond (nat_lt m n) (Some m) None ≡ None → n ≤ m
nowhere m n e = grind (arith, nat_tests)

-- the same by the place of that byte within the run
module _ (l : List ℕ) (at n : ℕ) (room : at + n ≤ length l) where
  run : List ℕ
  run = slice_range l at (at + n)

  run_length : length run ≡ n
  unfolding run
  run_length =
      let e : at + n - at ≡ n = omega arith in
      length-take-le (at + n - at) (drop at l) (omega (arith, length-drop {A = ℕ})) ∙ e

  run_at : (k : ℕ) → k < n → get_or run k 0 ≡ get_or l (at + k) 0
  unfolding run
  run_at k lt = get_or-take (at + n - at) (drop at l) k 0 (omega arith) ∙ get_or-drop at l k 0

  pub zeros_none : position (λ byte. not (eqb byte 0)) (slice_range l at (at + n)) ≡ None → zeros l at n ≡ Ok tt
  unfolding run
  zeros_none e =
      let past : n ≤ position_or_len (λ byte. not (eqb byte 0)) run = let first : length run ≤ position_or_len (λ byte. not (eqb byte 0)) run = nowhere _ _ e in omega (arith, first, run_length) in
      zeros_all l at n
      (λ k lt. sym (run_at k lt) ∙ zero_byte _ (fails_before_first (λ byte. not (eqb byte 0)) run k 0 (omega (arith, past))))

  pub zeros_some : (i : ℕ) → position (λ byte. not (eqb byte 0)) (slice_range l at (at + n)) ≡ Some i
      → zeros l at n ≡ Err (refusal Cause.Malformed (at + i))
  unfolding run
  zeros_some i e =
      let found = position-Some (λ byte. not (eqb byte 0)) run i 0 e in
      let lt : i < n = omega (arith, found.0, run_length) in
      zeros_until l at n i lt
      (λ k below. sym (run_at k (omega arith)) ∙ zero_byte _ (found.2 k below))
      (λ z. true≢false (sym found.1 ∙ some_byte _ (run_at i lt ∙ z)))

-- ---- records of w bytes in a chain
pub room_two : (w c n : ℕ) → c ≡ 2 → 32 + w * c ≤ n → 32 + w + w ≤ n
room_two w c n e h =
    let g : 32 + w * 2 ≤ n = rw e at h in
    omega (arith, g)

pub room_one : (w c n : ℕ) → 1 ≤ c → 32 + w * c ≤ n → 32 + w ≤ n
room_one w zero n l h = absurd (omega arith)
room_one w (suc c) n l h =
    let e : w * suc c ≡ w * c + w = omega arith in
    omega (arith, h, e)

pub product_most : (w c : ℕ) → w ≤ 80 → c ≤ 255 → w * c ≤ 20400
product_most w c h l = native.Mathlib.Nat.mul-le-mul h l
