-- Laws of the texts of a job: one at the front of what was there, numbers as the library writes them, what a part is made
-- of, and the loop that puts the poses.
use Prim.Native.Nat.{ℕ, suc, ◌+◌, ◌/◌, ◌≤◌, ◌<◌}
use native.Mathlib.Nat.{div-div-eq-div-mul}
use native.Mathlib.Numerals.{add-one}
use native.Mathlib.Omega.{arith}
use mathlib.Core.Path.{◌≡◌, refl, ap, ◌∙◌}
use mathlib.Core.Bool.{Bool, true, false, cond, ◌&&◌}
use mathlib.Core.Logic.{inl, inr}
use mathlib.Core.List.{List, [], ◌∷◌, ◌++◌}
use Rattle.std.specs.Int.{w64, to_le_bytes}
use lib.ListN.{take, length, get_or, drop, set, drop_of_length-le}
use lib.Seq.{drop-cons}
use lib.Ieee.{Float, nan}
use Rattle.std.proofs.Common.{append_assoc}
use Rattle.lists.specs.Rows.{flat}
use Rattle.chain.specs.declared.RotaryJoint.{RotaryJoint}
use Rattle.chain.specs.declared.Kinematics.{Kinematics}
use Rattle.chain.specs.Check.{one_or_two}
use Rattle.chain.specs.ChainBytes.{length_of_chain}
use Rattle.middle.specs.declared.Tolerances.{Tolerances}
use Rattle.job.specs.Spelling.{bits_of, written, Fits, Put}
use Rattle.job.specs.declared.spelling.Page.{Page}
use Rattle.job.specs.declared.RecordKind.{RecordKind}
use Rattle.job.specs.declared.RecordKind.TheVariants.{NoRest, WithRest}
use Rattle.job.specs.JobBytes.{bytes_in, word_in, word_length}
use Rattle.job.proofs.Written.{fits_first, fits_next, put_none, put_then}
use Rattle.writer.specs.Writing.{bytes_of, number_bytes, vector_bytes, head_bytes, carrier_byte, limits_byte, lower, upper, rest_bytes, rotary_bytes, rest_nought, second_nought, word_of, record_of, Width, chain_bytes, poses_bytes, trailer_bytes, job_bytes}
use Rattle.writer.specs.Checking.{job_length, length_of}
use Rattle.writer.proofs.Parts.{rotary_parts, record_width}
use Rattle.writer.proofs.Reading.{chain_length, length_of_job}

behind : (x : ℕ) (l : List ℕ) (at : ℕ) (t : List ℕ) → written (x ∷ l) (suc at) t ≡ x ∷ written l at t
unfolding written
behind x l at [] = refl
behind x l at (b ∷ t) =
    let e : suc at + 1 ≡ suc (at + 1) = omega arith in
    ap (λ (k : ℕ). written (x ∷ set l at b) k t) e ∙ behind x (set l at b) (at + 1) t

-- a text at the front
pub front : (t out : List ℕ) → length t ≤ length out → written out 0 t ≡ t ++ drop (length t) out
unfolding written
front [] out h = refl
front (b ∷ t) [] h = absurd (omega (arith, h))
front (b ∷ t) (x ∷ out) h =
    let k : suc (length t) ≤ suc (length out) = h in
    behind b out 0 t ∙ ap (λ (l : List ℕ). b ∷ l) (front t out (omega (arith, k)))

-- ---- a whole number, as the library writes it
pub eight_low : (x : ℕ) → to_le_bytes w64 x ≡ bytes_of 8 x
unfolding bytes_of
eight_low x = simp div-div-eq-div-mul

pub four_low : (x : ℕ) → take 4 (to_le_bytes w64 x) ≡ bytes_of 4 x
unfolding bytes_of
four_low x = simp div-div-eq-div-mul

-- a number by its bits
pub number_low : (x : Float) (bits : ℕ) → bits ≡ bits_of x → to_le_bytes w64 bits ≡ number_bytes x
unfolding number_bytes
number_low x bits e = eight_low bits ∙ ap (bytes_of 8) e

-- ---- a rotary
pub kind_width : (kind : RecordKind) → Width (bytes_in kind)
unfolding bytes_in
kind_width NoRest = inl refl
kind_width WithRest = inr refl

-- the trailer's word is that of the records
pub kind_word : (kind : RecordKind) (k : Kinematics) → bytes_in kind ≡ record_of k → word_in kind ≡ word_of k
unfolding record_of word_of word_length bytes_in word_in
kind_word kind k e = by_rests kind (rest_nought k.first.rest && second_nought k) e
  where
    by_rests : (kind : RecordKind) (b : Bool) → bytes_in kind ≡ word_length (cond b 0 1) → word_in kind ≡ cond b 0 1
    by_rests NoRest true e = refl
    by_rests NoRest false e = let f : 72 ≡ 80 = e in omega (arith, f)
    by_rests WithRest true e = let f : 80 ≡ 72 = e in omega (arith, f)
    by_rests WithRest false e = refl

-- its texts, one behind the other, with its bytes and numbers as the code has them
pub rotary_texts : (kind : RecordKind) (j : RotaryJoint) (b c : ℕ) (x y : Float) → b ≡ carrier_byte j.carrier → c ≡ limits_byte j.limits → x ≡ lower j.limits → y ≡ upper j.limits
    → rotary_bytes (bytes_in kind) j
    ≡ head_bytes j.letter b c ++ (vector_bytes j.axis ++ (vector_bytes j.pivot ++ (number_bytes x ++ (number_bytes y ++ rest_bytes (bytes_in kind) j.rest))))
rotary_texts kind j b c x y eb ec ex ey =
    rw (eb, ec, ex, ey)
    (rotary_parts (bytes_in kind) (kind_width kind) j
    ∙ ap
    (λ (t : List ℕ). head_bytes j.letter (carrier_byte j.carrier) (limits_byte j.limits) ++ (vector_bytes j.axis ++ (vector_bytes j.pivot ++ t)))
    (append_assoc (number_bytes (lower j.limits)) (number_bytes (upper j.limits)) (rest_bytes (bytes_in kind) j.rest)))

-- ---- the poses
-- what is left has room, and the whole is put once it is
pub record Posing (poses : List Float) (first : Page) (p : Page) (i : ℕ) : Type 0 where
  pub fits : Fits p (poses_bytes (drop i poses))
  pub whole : {last : Page} → Put p (poses_bytes (drop i poses)) last → Put first (poses_bytes poses) last

module _ {poses : List Float} {first : Page} where
  pub posing_start : Fits first (poses_bytes poses) → Posing poses first first 0
  posing_start h = record { fits = h; whole = λ p. p }

  module _ {i : ℕ} {p : Page} (h : i < length poses) (f : Posing poses first p i) where
    this_number : poses_bytes (drop i poses) ≡ number_bytes (get_or poses i nan) ++ poses_bytes (drop (i + 1) poses)
    unfolding poses_bytes flat
    this_number = rw (drop-cons poses i nan h, add-one) refl

    pub posing_room : Fits p (number_bytes (get_or poses i nan))
    posing_room = fits_first _ (rw this_number at f.fits)

    pub posing_step : {q : Page} → Put p (number_bytes (get_or poses i nan)) q → Posing poses first q (i + 1)
    posing_step g = record { fits = fits_next g (rw this_number at f.fits); whole = λ r. f.whole (rw this_number (put_then g r)) }

  pub posing_end : {i : ℕ} {p : Page} → length poses ≤ i → Posing poses first p i → Put first (poses_bytes poses) p
  unfolding poses_bytes flat
  posing_end {i} {p} h f = f.whole (rw (drop_of_length-le poses h) (put_none p))

-- ---- the job
-- with the records' length, the chain's and the word as the code has them
module _ (k : Kinematics) (poses : List Float) (cone : Float) (tol : Tolerances) (counted : one_or_two k.count ≡ true) {w chain word : ℕ}
    (e : w ≡ record_of k) (f : chain ≡ 0 + length (chain_bytes w k)) (g : word ≡ word_of k) where
  abbrev AsPut : List ℕ
  AsPut = chain_bytes w k ++ (poses_bytes poses ++ trailer_bytes chain (length poses / 6) word cone tol)

  job_texts : job_bytes k poses cone tol ≡ AsPut
  unfolding job_bytes
  job_texts =
      let l = chain_length (record_of k) (record_width k) k counted in
      let a : chain ≡ 0 + length (chain_bytes (record_of k) k) = rw e at f in
      let b : chain ≡ length_of_chain (record_of k) k.count = omega (arith, a, l) in
      rw (b, e, g) refl

  pub job_fits : {p : Page} → p.at ≡ 0 → length_of k poses ≤ length p.out.now → Fits p AsPut
  unfolding job_length
  job_fits {p} z h =
      let l = length_of_job k poses cone tol counted in
      let w : Fits p (job_bytes k poses cone tol) = record { room = omega (arith, z, h, l) } in
      rw job_texts at w

  pub job_put : {p q : Page} → p.at ≡ 0 → Put p AsPut q → (q.at ≡ length_of k poses) × (q.out.now ≡ written p.out.now 0 (job_bytes k poses cone tol))
  unfolding job_length
  job_put {p} {q} z d =
      let l = length_of_job k poses cone tol counted in
      let whole : Put p (job_bytes k poses cone tol) q = rw job_texts d in
      let b = whole.behind in
      (omega (arith, z, b, l), rw z at whole.whole)
