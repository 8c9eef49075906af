-- Laws of the lines of a path's text: their lengths, what is put one behind the other, and the loops over them.
use Rattle.std.proofs.Common.{◌≡◌, ℕ, zero, suc, ◌+◌, ◌-◌, ◌*◌, ◌/◌, ◌<◌, ◌≤◌, true, false, List, [], ◌∷◌, ◌++◌, length, drop, sym, refl, ap, ◌∙◌, add-zero, add-suc, add-one, arith, length-append, drop-drop, le-leb}
use native.Mathlib.Nat.{sub-zero}
use borrow.Author.Tests.{lt-leb}
use lib.Ieee.{Float}
use Rattle.std.specs.Prelude.{None, Option, Some, SomeIff}
use Rattle.lists.specs.Rows.{rows}
use Rattle.chain.specs.declared.Joints.{Joints}
use Rattle.turn.specs.Items.{joints_from, joints_in}
use Rattle.job.specs.Cable.{joint_sets}
use Rattle.job.specs.declared.spelling.Page.{Page}
use Rattle.job.specs.Spelling.{Fits, Put, width}
use Rattle.job.specs.Telling.{numbers, line, lines, lines_length, lines_fit}
use Rattle.job.proofs.Written.{fits_first, fits_next, put_none, put_then, length_decimal, length_number}

-- ---- a line
pub length_numbers : (j : Joints) → length (numbers j) ≡ 86
unfolding numbers
length_numbers j = simp (length-append, length_number)

pub length_line : (i : ℕ) (j : Joints) → length (line i j) ≡ width i + 86
unfolding line
length_line i j = rw (length-append, length_decimal, length_numbers)

-- ---- the lengths of the lines
pub lines_more : (n : ℕ) → lines_length (n + 1) ≡ lines_length n + (width n + 86)
unfolding lines_length
lines_more n = rw add-one

fewer : (d i : ℕ) → lines_length i ≤ lines_length (i + d)
unfolding lines_length
fewer zero i = rw add-zero (omega arith)
fewer (suc d) i =
    let h = fewer d i in
    let e : lines_length (i + suc d) ≡ lines_length (i + d) + (width (i + d) + 86) = rw add-suc in
    omega (arith, h, e)

pub lines_mono : (i n : ℕ) → i ≤ n → lines_length i ≤ lines_length n
lines_mono i n h =
    let e : i + (n - i) ≡ n = omega (arith, h) in
    rw e at (fewer (n - i) i)

length_from : (i : ℕ) (l : List Joints) → lines_length i + length (lines i l) ≡ lines_length (i + length l)
unfolding lines
length_from i [] = rw (add-zero, add-zero)
length_from i (j ∷ l) =
    let h = length_from (suc i) l in
    let e : lines_length (suc i) ≡ lines_length i + (width i + 86) = rw add-one at (lines_more i) in
    let f : suc i + length l ≡ i + suc (length l) = omega arith in
    let k : length (line i j ++ lines (suc i) l) ≡ width i + 86 + length (lines (suc i) l) = rw (length-append, length_line) in
    rw (k, ← f) (omega (arith, h, e))

pub length_lines : (l : List Joints) → length (lines 0 l) ≡ lines_length (length l)
unfolding lines_length
length_lines l =
    let h = length_from 0 l in
    let e : 0 + length l ≡ length l = omega arith in
    rw (← e) (omega (arith, h))

-- ---- the loop that puts them
next_set : (l : List Float) (n i : ℕ) → i < n → rows 5 joints_from (n - i) (drop (i * 5) l) ≡ joints_in l (i * 5) ∷ rows 5 joints_from (n - (i + 1)) (drop ((i + 1) * 5) l)
unfolding rows joints_in
next_set l n i p =
    let e : n - i ≡ suc (n - (i + 1)) = omega (arith, p) in
    let f : i * 5 + 5 ≡ (i + 1) * 5 = omega arith in
    rw (e, drop-drop, f)

-- what is left has room, and the whole is put once it is
pub record Lining (l : List Float) (first : Page) (n : ℕ) (p : Page) (i : ℕ) : Type 0 where
  pub fits : Fits p (lines i (rows 5 joints_from (n - i) (drop (i * 5) l)))
  pub whole : {last : Page} → Put p (lines i (rows 5 joints_from (n - i) (drop (i * 5) l))) last → Put first (lines 0 (joint_sets l)) last

module _ {l : List Float} {first : Page} where
  pub lining_start : Fits first (lines 0 (joint_sets l)) → Lining l first (length l / 5) first 0
  unfolding joint_sets
  lining_start h = record { fits = rw sub-zero h; whole = λ p. rw sub-zero at p }

  module _ {n i : ℕ} {p : Page} (h : i < n) (f : Lining l first n p i) where
    this_line : lines i (rows 5 joints_from (n - i) (drop (i * 5) l)) ≡ line i (joints_in l (i * 5)) ++ lines (i + 1) (rows 5 joints_from (n - (i + 1)) (drop ((i + 1) * 5) l))
    unfolding lines
    this_line = rw (next_set l n i h, add-one) refl

    pub lining_room : Fits p (line i (joints_in l (i * 5)))
    lining_room = fits_first _ (rw this_line at f.fits)

    pub lining_step : {q : Page} → Put p (line i (joints_in l (i * 5))) q → Lining l first n q (i + 1)
    lining_step g = record { fits = fits_next g (rw this_line at f.fits); whole = λ r. f.whole (rw this_line (put_then g r)) }

  pub lining_end : {n i : ℕ} {p : Page} → n ≤ i → Lining l first n p i → Put first (lines 0 (joint_sets l)) p
  unfolding lines rows
  lining_end {n} {i} {p} h f =
      let s : n - i ≡ 0 = omega (arith, h) in
      f.whole (rw s (put_none p))

-- ---- the loop that looks for room
-- what the library's difference says by being there, and by not being there
pub some_left : {a b k : ℕ} {left : Option ℕ} → SomeIff left (b ≤ a) (a - b) → left ≡ Some k → (b ≤ a) × (k ≡ a - b)
some_left {left = None} h e = cc
some_left {k = k} {left = Some j} h e =
    let i : j ≡ k = cc in
    (h.0, sym i ∙ h.1)

pub none_left : {a b : ℕ} {left : Option ℕ} → SomeIff left (b ≤ a) (a - b) → left ≡ None → a < b
none_left {left = None} h e = omega (arith, h)
none_left {left = Some k} h e = cc

pub record Fitting (n used room left i : ℕ) : Type 0 where
  pub within : i ≤ n
  pub whole : used + lines_length i + left ≡ room

pub fitting_start : (n used room : ℕ) → used ≤ room → Fitting n used room (room - used) 0
unfolding lines_length
fitting_start n used room h = record { within = omega arith; whole = omega (arith, h) }

module _ {n used room left i : ℕ} (f : Fitting n used room left i) where
  pub fitting_step : {k : ℕ} → i < n → k ≡ width i → k + 86 ≤ left → Fitting n used room (left - (k + 86)) (i + 1)
  fitting_step {k} h e g =
      let w = f.whole in
      let m = lines_more i in
      record { within = omega (arith, h); whole = omega (arith, w, m, e, g) }

  pub fitting_none : {k : ℕ} → i < n → k ≡ width i → left < k + 86 → lines_fit n used room ≡ false
  unfolding lines_fit
  fitting_none {k} h e g =
      let w = f.whole in
      let m = lines_more i in
      let b = lines_mono (i + 1) n (omega (arith, h)) in
      lt-leb (used + lines_length n) room (omega (arith, w, m, e, g, b))

  pub fitting_end : n ≤ i → lines_fit n used room ≡ true
  unfolding lines_fit
  fitting_end h =
      let w = f.whole in
      let b = f.within in
      let z : lines_length i ≡ lines_length n = ap lines_length (omega (arith, h, b)) in
      le-leb (used + lines_length n) room (omega (arith, w, z))

pub no_room : (n used room : ℕ) → room < used → lines_fit n used room ≡ false
unfolding lines_fit
no_room n used room h = lt-leb (used + lines_length n) room (omega (arith, h))
