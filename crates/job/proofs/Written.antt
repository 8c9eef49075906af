-- Laws of texts: one behind another, a digit before the rest, and the widths of numbers.
use Rattle.std.proofs.Common.{◌≡◌, ℕ, zero, suc, ◌+◌, ◌-◌, ◌*◌, ◌/◌, ◌%◌, ◌^◌, ◌<◌, ◌≤◌, Bool, true, false, not, ◌&&◌, cond, ltb, List, [], ◌∷◌, ◌++◌, length, take, drop, set, sym, refl, ap, ◌∙◌, add-zero, div-lt_iff_lt-mul, add-one, arith, eq-eqb, take_all, append_assoc, length-append, length-set, take-append-drop, drop-set-lt, ltb-false, ltb-true, le-ltb, lt-ltb}
use native.Mathlib.Nat.{pow-succ', div-div-eq-div-mul}
use Rattle.std.specs.Prelude.{IfNone, IfSome, None, Option, Some, unwrap_or}
use Rattle.std.specs.Fmt as Fmt
use Rattle.std.proofs.lemmas.Fmt.{decimal_by_steps}
use Rattle.lists.proofs.Fold.{pushed}
use lib.Ieee.{Float, nan, inf, fin, binary64, to_bits, is_nan, ne, eq, up, down}
use Rattle.job.specs.declared.spelling.Page.{Page}
use Rattle.job.specs.Spelling.{Fits, Put, written, digit, digits, width_within, width, decimal, labelled, paired, bits_of, number}

-- ---- texts
pub length_written : (l : List ℕ) (at : ℕ) (t : List ℕ) → length (written l at t) ≡ length l
unfolding written
length_written l at [] = refl
length_written l at (b ∷ t) = length_written (set l at b) (at + 1) t ∙ length-set l at b

pub length_put : (l' l : List ℕ) (at : ℕ) (t : List ℕ) → l' ≡ written l at t → length l' ≡ length l
length_put l' l at t e = ap length e ∙ length_written l at t

pub written_append : (l : List ℕ) (at : ℕ) (t u : List ℕ) → written l at (t ++ u) ≡ written (written l at t) (at + length t) u
unfolding written
written_append l at [] u = ap (λ (k : ℕ). written l k u) (sym (add-zero at))
written_append l at (b ∷ t) u =
    let e : at + 1 + length t ≡ at + suc (length t) = omega arith in
    written_append (set l at b) (at + 1) t u ∙ ap (λ (k : ℕ). written (written (set l at b) (at + 1) t) k u) e

-- ---- a text behind another
pub fits_first : {p : Page} {t : List ℕ} (u : List ℕ) → Fits p (t ++ u) → Fits p t
fits_first {p} {t} u h =
    let r = h.room in
    let k = length-append t u in
    record { room = omega (arith, r, k) }

pub fits_next : {p q : Page} {t u : List ℕ} → Put p t q → Fits p (t ++ u) → Fits q u
fits_next {p} {q} {t} {u} f h =
    let r = h.room in
    let k = length-append t u in
    let m = length_put q.out.now p.out.now p.at t f.whole in
    let e = f.behind in
    record { room = omega (arith, r, k, m, e) }

pub put_none : (p : Page) → Put p [] p
unfolding written
put_none p = record { same = refl; whole = refl; behind = omega arith }

pub put_then : {p q r : Page} {t u : List ℕ} → Put p t q → Put q u r → Put p (t ++ u) r
put_then {p} {q} {r} {t} {u} f g =
    let k = length-append t u in
    let e = f.behind in
    let d = g.behind in
    record {
      same = g.same ∙ f.same;
      whole = g.whole ∙ rw (e, f.whole) (sym (written_append p.out.now p.at t u));
      behind = omega (arith, k, e, d);
    }

-- ---- a text in the middle of what was there
pub written_between : (l : List ℕ) (at : ℕ) (t : List ℕ) → at + length t ≤ length l → take at l ++ (t ++ drop (at + length t) l) ≡ written l at t
unfolding written
written_between l at [] h = rw add-zero (take-append-drop at l)
written_between l at (b ∷ t) h =
    let m : length (set l at b) ≡ length l = length-set l at b in
    let k : at + suc (length t) ≤ length l = h in
    let n : at + 1 + length t ≡ at + suc (length t) = omega arith in
    let f : take (at + 1) (set l at b) ≡ take at l ++ (b ∷ []) = pushed l at b (omega (arith, k)) in
    let r : drop (at + suc (length t)) (set l at b) ≡ drop (at + suc (length t)) l = drop-set-lt (at + suc (length t)) l at b (omega arith) in
    let rest = written_between (set l at b) (at + 1) t (omega (arith, k, m, n)) in
    rw (f, n, r, append_assoc (take at l) (b ∷ []) (t ++ drop (at + suc (length t)) l)) at rest

-- ---- digits
pub length_digits : (base n x : ℕ) → length (digits base n x) ≡ n
unfolding digits
length_digits base zero x = refl
length_digits base (suc n) x = rw (length-append, length_digits base n (x / base)) (add-one n)

-- the loop that puts 16 of them in hexadecimal: the first i are those of x without its last 64 - 4 * i bits
pub record Digits (x : ℕ) (l : List ℕ) (i : ℕ) : Type 0 where
  pub within : i ≤ 16
  pub as_long : length l ≡ 16
  pub front : take i l ≡ digits 16 i (x / 2 ^ (64 - 4 * i))

four_bits : (k : ℕ) → 2 ^ suc (suc (suc (suc k))) ≡ 2 ^ k * 16
four_bits k =
    let a = pow-succ' 2 (suc (suc (suc k))) in
    let b = pow-succ' 2 (suc (suc k)) in
    let c = pow-succ' 2 (suc k) in
    let d = pow-succ' 2 k in
    omega (arith, a, b, c, d)

module _ {x : ℕ} where
  pub digits_start : {l : List ℕ} → length l ≡ 16 → Digits x l 0
  unfolding digits
  digits_start e = record { within = omega arith; as_long = e; front = refl }

  pub digits_step : {l : List ℕ} {i d : ℕ} → i < 16 → Digits x l i → d ≡ digit (x / 2 ^ (60 - 4 * i) % 16) → Digits x (set l i d) (i + 1)
  unfolding digits
  digits_step {l} {i} {d} h f e =
      let a = f.as_long in
      let k : 64 - 4 * (i + 1) ≡ 60 - 4 * i = omega arith in
      let m : 64 - 4 * i ≡ suc (suc (suc (suc (60 - 4 * i)))) = omega (arith, h) in
      let q : x / 2 ^ (60 - 4 * i) / 16 ≡ x / 2 ^ (64 - 4 * i) = rw (m, four_bits) (div-div-eq-div-mul x (2 ^ (60 - 4 * i)) 16) in
      let last : digits 16 (i + 1) (x / 2 ^ (64 - 4 * (i + 1))) ≡ digits 16 i (x / 2 ^ (64 - 4 * i)) ++ (digit (x / 2 ^ (60 - 4 * i) % 16) ∷ []) = rw (k, add-one, q) refl in
      record {
        within = omega (arith, h);
        as_long = length-set l i d ∙ a;
        front = pushed l i d (omega (arith, h, a)) ∙ rw (f.front, e) (sym last);
      }

  pub digits_end : {l : List ℕ} {i : ℕ} → 16 ≤ i → Digits x l i → l ≡ digits 16 16 x
  digits_end {l} {i} h f =
      let w = f.within in
      let z : i ≡ 16 = omega (arith, h, w) in
      let g : take 16 l ≡ digits 16 16 (x / 1) = rw z at f.front in
      let o : x / 1 ≡ x = omega arith in
      sym (take_all 16 l (omega (arith, f.as_long))) ∙ g ∙ ap (digits 16 16) o

-- ---- widths
enough : (n m x : ℕ) → x ≤ n → x ≤ m → width_within n x ≡ width_within m x
unfolding width_within
enough zero zero x p q = refl
enough zero (suc m) x p q =
    let h : x < 10 = omega (arith, p) in
    rw (lt-ltb x 10 h)
enough (suc n) zero x p q =
    let h : x < 10 = omega (arith, q) in
    rw (lt-ltb x 10 h)
enough (suc n) (suc m) x p q = ap (λ (w : ℕ). cond (ltb x 10) 1 (suc w)) (enough n m (x / 10) (omega (arith, p)) (omega (arith, q)))

pub width_small : (x : ℕ) → x < 10 → width x ≡ 1
unfolding width width_within
width_small zero h = refl
width_small (suc x) h = rw (lt-ltb (suc x) 10 h)

pub width_more : (x : ℕ) → 10 ≤ x → width x ≡ suc (width (x / 10))
unfolding width width_within
width_more zero h = absurd (omega (arith, h))
width_more (suc x) h = rw (le-ltb (suc x) 10 h) (ap suc (enough x (suc x / 10) (suc x / 10) (omega arith) (omega arith)))

within_few : (n x : ℕ) → width_within n x ≤ n + 1
unfolding width_within
within_few zero x = omega arith
within_few (suc n) x = by_test (ltb x 10) (within_few n (x / 10))
  where
    by_test : (t : Bool) → width_within n (x / 10) ≤ n + 1 → cond t 1 (suc (width_within n (x / 10))) ≤ suc n + 1
    by_test true h = omega arith
    by_test false h = omega (arith, h)

pub width_few : (x : ℕ) → width x ≤ x + 1
unfolding width
width_few x = within_few x x

-- a number below 10 ^ k has at most k digits
under : (k x : ℕ) → x < 10 ^ suc k → width x ≤ suc k
under zero x h =
    let e = width_small x h in
    omega (arith, e)
under (suc k) x h = by_size (ltb x 10) refl (λ d. under k (x / 10) d)
  where
    by_size : (t : Bool) → ltb x 10 ≡ t → (x / 10 < 10 ^ suc k → width (x / 10) ≤ suc k) → width x ≤ suc (suc k)
    by_size true q f =
        let e = width_small x (ltb-true x 10 q) in
        omega (arith, e)
    by_size false q f =
        let e = width_more x (ltb-false x 10 q) in
        let n = pow-succ' 10 (suc k) in
        let p : x < 10 ^ suc k * 10 = omega (arith, h, n) in
        let g = f ((div-lt_iff_lt-mul {k = 10} {x = x} {y = 10 ^ suc k} (omega arith)).1 p) in
        omega (arith, e, g)

pub width_word : (x : ℕ) → x < 2 ^ 64 → width x ≤ 20
width_word x h = under 19 x (omega (arith, h))

pub length_decimal : (x : ℕ) → length (decimal x) ≡ width x
unfolding decimal
length_decimal x = length_digits 10 (width x) x

power_some : (k : ℕ) → 1 ≤ 10 ^ k
power_some zero = omega arith
power_some (suc k) =
    let p : 10 ^ suc k ≡ 10 * 10 ^ k = pow-succ' 10 k in
    let h = power_some k in
    omega (arith, p, h)

width_is : (k x : ℕ) → 10 ^ k ≤ x → x < 10 * 10 ^ k → width x ≡ suc k
width_is zero x h l = width_small x (omega (arith, l))
width_is (suc k) x h l =
    let p : 10 ^ suc k ≡ 10 * 10 ^ k = pow-succ' 10 k in
    let some = power_some k in
    width_more x (omega (arith, h, p, some)) ∙ ap suc (width_is k (x / 10) (omega (arith, h, p)) (omega (arith, l, p)))

-- by the library's logarithm, of which 0 has none
pub width_digits : (x : ℕ) (k : Option ℕ) → IfNone k (x ≡ 0) → IfSome k (λ k. 10 ^ k ≤ x) → IfSome k (λ k. x < 10 * 10 ^ k) → unwrap_or k 0 + 1 ≡ width x
width_digits x None z h l = rw z (sym (width_small 0 (omega arith)))
width_digits x (Some k) z h l = add-one k ∙ sym (width_is k x h l)

low_digit : (d : ℕ) → d < 10 → digit d ≡ 48 + d
unfolding digit
low_digit d h = rw (lt-ltb d 10 h)

-- std's decimals are the same
pub decimal_is : (x : ℕ) → x < 2 ^ 64 → decimal x ≡ Fmt.decimal x
unfolding decimal digits
decimal_is = decimal_by_steps (λ n ds. decimal n ≡ ds) one more
  where
    one : (n : ℕ) → n < 10 → decimal n ≡ (48 + n) ∷ []
    one n h =
        let small : n % 10 ≡ n = omega (arith, h) in
        rw (width_small n h, small, low_digit n h)

    more : (n : ℕ) (ds : List ℕ) → 10 ≤ n → decimal (n / 10) ≡ ds → decimal n ≡ ds ++ ((48 + n % 10) ∷ [])
    more n ds h e = rw (width_more n h, low_digit (n % 10) (omega arith), e)

-- ---- words and numbers
pub length_labelled : (label : List ℕ) (x : ℕ) → length (labelled label x) ≡ length label + width x
unfolding labelled
length_labelled label x = rw (length-append, length_decimal)

pub length_number : (x : Float) → length (number x) ≡ 17
unfolding number
length_number x = ap suc (length_digits 16 16 (bits_of x))

-- ---- two words with their numbers
pub length_paired : (label : List ℕ) (x : ℕ) (word : List ℕ) (y : ℕ) → length (paired label x word y) ≡ length label + width x + (length word + width y)
unfolding paired
length_paired label x word y = rw (length-append, length_labelled, length_labelled)

-- ---- bits
differs : (x : Float) → ne x x ≡ is_nan x
unfolding ne eq is_nan
differs nan = refl
differs (inf true) = refl
differs (inf false) = refl
differs (fin true m e) = ap (λ (b : Bool). not (b && true)) (eq-eqb (m * up e * down e) _ refl)
differs (fin false m e) = ap (λ (b : Bool). not (b && true)) (eq-eqb (m * up e * down e) _ refl)

-- `to_bits` has the one pattern for the nan
pub bits_are : (x : Float) → bits_of x ≡ to_bits binary64 x
unfolding bits_of is_nan
bits_are x = rw (differs x) (by_kind x)
  where
    by_kind : (x : Float) → cond (is_nan x) 0x7ff8_0000_0000_0000 (to_bits binary64 x) ≡ to_bits binary64 x
    by_kind nan = unfold to_bits in refl
    by_kind (inf s) = refl
    by_kind (fin s m e) = refl
