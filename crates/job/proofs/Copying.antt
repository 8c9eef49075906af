-- The loop that copies numbers out of bytes: one record for its invariant, and a law each for its start, its step and its end.
use Rattle.std.proofs.Common.{◌≡◌, ℕ, zero, suc, ◌+◌, ◌*◌, ◌<◌, ◌≤◌, List, [], ◌∷◌, ◌++◌, length, take, drop, set, sym, refl, ap, ◌∙◌, add-one, arith, length-append, length-drop, length-set, length-take-le, take-append-drop, drop-drop, take_at, drop-set-lt}
use lib.Ieee.{Float}
use Rattle.lists.specs.Padding.{padded}
use Rattle.lists.proofs.Fold.{pushed}
use Rattle.float.specs.Helpers.{nought}
use Rattle.chain.specs.Bytes.{number_at}
use Rattle.job.specs.JobPoses.{numbers_at}

pub length_numbers : (n : ℕ) (bytes : List ℕ) (at : ℕ) → length (numbers_at n bytes at) ≡ n
unfolding numbers_at
length_numbers zero bytes at = refl
length_numbers (suc n) bytes at = ap suc (length_numbers n bytes (at + 8))

numbers_more : (n : ℕ) (bytes : List ℕ) (at : ℕ) → numbers_at (suc n) bytes at ≡ numbers_at n bytes at ++ (number_at bytes (at + 8 * n) ∷ [])
unfolding numbers_at
numbers_more zero bytes at = ap (λ (i : ℕ). number_at bytes i ∷ []) (omega arith)
numbers_more (suc n) bytes at =
    let e : at + 8 + 8 * n ≡ at + 8 * suc n = omega arith in
    ap (λ (l : List Float). number_at bytes at ∷ l) (numbers_more n bytes (at + 8) ∙ ap (λ (i : ℕ). numbers_at n bytes (at + 8) ++ (number_at bytes i ∷ [])) e)

-- the first i numbers are copied, and nothing else is touched
pub record Copying (bytes : List ℕ) (at n : ℕ) (o l : List Float) (i : ℕ) : Type 0 where
  pub within : i ≤ n
  pub room : n ≤ length o
  pub as_long : length l ≡ length o
  pub front : take i l ≡ numbers_at i bytes at
  pub back : drop i l ≡ drop i o

module _ {bytes : List ℕ} {at n : ℕ} {o : List Float} where
  pub copying_start : n ≤ length o → Copying bytes at n o o 0
  unfolding numbers_at
  copying_start h = record { within = omega arith; room = h; as_long = refl; front = refl; back = refl }

  pub copying_step : {l : List Float} {i : ℕ} {x : Float} → i < n → Copying bytes at n o l i → x ≡ number_at bytes (at + 8 * i) → Copying bytes at n o (set l i x) (i + 1)
  copying_step {l} {i} {x} h f e =
      let a = f.as_long in
      let r = f.room in
      let p : i < length l = omega (arith, a, r, h) in
      record {
        within = omega (arith, h);
        room = r;
        as_long = length-set l i x ∙ a;
        front = pushed l i x p ∙ rw (f.front, e, add-one) (sym (numbers_more i bytes at));
        back = drop-set-lt (i + 1) l i x (omega arith) ∙ sym (drop-drop 1 i l) ∙ ap (drop 1) f.back ∙ drop-drop 1 i o;
      }

  pub copying_end : {l : List Float} {i : ℕ} → n ≤ i → Copying bytes at n o l i → l ≡ numbers_at n bytes at ++ drop n o
  copying_end {l} {i} h f =
      let w = f.within in
      let z : i ≡ n = omega (arith, w, h) in
      let front : take n l ≡ numbers_at n bytes at = rw z at f.front in
      let back : drop n l ≡ drop n o = rw z at f.back in
      sym (take-append-drop n l) ∙ rw (front, back)

-- the first n numbers of an output, then +0.0 to its end
pub copied_cleared : (n : ℕ) (bytes : List ℕ) (at : ℕ) (o front l : List Float) → n ≤ length o → front ≡ numbers_at (length (take n o)) bytes at
    → l ≡ padded (length (front ++ drop n o)) nought (take n (front ++ drop n o)) → l ≡ padded (length o) nought (numbers_at n bytes at)
copied_cleared n bytes at o front l h e f =
    let k = length_numbers n bytes at in
    let m = length-take-le n o h in
    let g : front ≡ numbers_at n bytes at = rw m at e in
    let t : take n (front ++ drop n o) ≡ numbers_at n bytes at = rw g (take_at (numbers_at n bytes at) (drop n o) n k) in
    let s : length (front ++ drop n o) ≡ length o = rw (g, length-append, length-drop, k) (omega arith) in
    f ∙ rw (t, s)
