-- What `{:016X}` writes, the number's own digits behind zeros, is its 16 digits.
use Rattle.std.proofs.Common.{◌≡◌, ℕ, zero, suc, ◌+◌, ◌-◌, ◌*◌, ◌/◌, ◌%◌, ◌^◌, ◌<◌, ◌≤◌, Bool, true, false, List, [], ◌∷◌, ◌++◌, length, refl, ap, ◌∙◌, arith, append_assoc, add-one, cond}
use Rattle.std.proofs.Math.ListN.{replicate}
use Rattle.std.proofs.lemmas.List.{append-nil, replicate-append-replicate}
use Rattle.std.specs.Prelude.{◌==◌}
use Rattle.std.specs.Fmt.{digits_onto, format_spec, padded_integral, char_count}
use Rattle.std.specs.Fmt as Fmt
use Rattle.std.proofs.lemmas.Bool.{eqb-true, eqb-false}
use Rattle.std.proofs.Math.Nat.{pow-suc}
use native.Mathlib.Nat.{sub-zero}
use Rattle.text.specs.Hexadecimal.{digit, digits}

digits_of_zero : (k : ℕ) → digits k 0 ≡ replicate k 48
unfolding digits
digits_of_zero zero = refl
digits_of_zero (suc k) = rw (digits_of_zero k) (replicate-append-replicate {A = ℕ} k 1 48 ∙ ap (λ (j : ℕ). replicate {A = ℕ} j 48) (add-one k))

-- n behind zeros, k digits in all, where `shown` stand already
abbrev Spelled : ℕ → ℕ → List ℕ → List ℕ → Type 0
Spelled k n shown text = replicate (k + length shown - length text) 48 ++ text ≡ digits k n ++ shown

spelled_digit : (k n : ℕ) (shown text : List ℕ) (t : Bool) → (n / 16 == 0) ≡ t
    → ((n / 16 == 0) ≡ false → Spelled k (n / 16) (digit (n % 16) ∷ shown) text)
    → Spelled (suc k) n shown (cond t (digit (n % 16) ∷ shown) text)
unfolding digits
spelled_digit k n shown text true e rest =
    let z : n / 16 ≡ 0 = eqb-true (n / 16) 0 e in
    let left : suc k + length shown - suc (length shown) ≡ k = omega arith in
    rw (z, left, digits_of_zero k, append_assoc (replicate {A = ℕ} k 48) (digit (n % 16) ∷ []) shown)
spelled_digit k n shown text false e rest =
    let next : suc k + length shown ≡ k + suc (length shown) = omega arith in
    rw (next, rest e, append_assoc (digits k (n / 16)) (digit (n % 16) ∷ []) shown)

-- where digits are left, there is place for one
fewer : (k n : ℕ) → n < 16 ^ suc k → (n / 16 == 0) ≡ false → (0 < k) × (n / 16 < 16 ^ k)
fewer zero n small e = absurd (eqb-false (n / 16) 0 e (omega (arith, small)))
fewer (suc k) n small e = let p : 16 ^ suc (suc k) ≡ 16 ^ suc k * 16 = pow-suc 16 (suc k) in (omega arith, omega (arith, small, p))

spelled : (fuel k n : ℕ) (shown : List ℕ) → k ≤ fuel → 0 < k → n < 16 ^ k → Spelled k n shown (digits_onto fuel 16 true n shown)
spelled zero k n shown h p small = absurd (omega arith)
spelled (suc fuel) zero n shown h p small = absurd (omega arith)
spelled (suc fuel) (suc k) n shown h p small =
    spelled_digit k n shown (digits_onto fuel 16 true (n / 16) (digit (n % 16) ∷ shown)) (n / 16 == 0) refl
    (λ e. let rest = fewer k n small e in spelled fuel k (n / 16) (digit (n % 16) ∷ shown) (omega arith) rest.0 rest.1)

padded_zeros : (l : List ℕ) → padded_integral (format_spec 32 0 4 16 (2 ^ 64 - 1)) false [] l ≡ replicate (16 - length l) 48 ++ l
unfolding padded_integral char_count
padded_zeros l = simp (sub-zero, append-nil)

pub padded_hex : (n : ℕ) → n < 2 ^ 64 → padded_integral (format_spec 32 0 4 16 (2 ^ 64 - 1)) false [] (Fmt.digits 16 true n) ≡ digits 16 n
padded_hex n h = padded_zeros (Fmt.digits 16 true n) ∙ unfold Fmt.digits in (spelled 64 16 n [] (omega arith) (omega arith) (omega arith) ∙ append-nil (digits 16 n))
