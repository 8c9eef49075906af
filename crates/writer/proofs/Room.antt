-- Room in a page for so many bytes. It is of lengths alone, so that the needs of the calls that write the trailer hold
-- whichever numbers they are handed: a number in another's place is refused where the trailer's text is joined.
use Prim.Native.Nat.{ℕ, ◌+◌, ◌≤◌}
use native.Mathlib.Omega.{arith}
use mathlib.Core.Path.{◌≡◌, refl}
use lib.ListN.{length}
use lib.Ieee.{Float}
use Rattle.middle.specs.declared.Tolerances.{Tolerances}
use Rattle.job.specs.Spelling.{Fits, Put, written}
use Rattle.job.specs.declared.spelling.Page.{Page}
use Rattle.job.proofs.Written.{length_put}
use Rattle.writer.specs.Writing.{bytes_of, number_bytes, trailer_bytes}
use Rattle.writer.proofs.Standing.{length_bytes, length_number}

pub record Room (n : ℕ) (p : Page) : Type 0 where
  pub there : p.at + n ≤ length p.out.now

-- ---- for a number
pub four_fits : {p : Page} (n x : ℕ) → Room (4 + n) p → Fits p (bytes_of 4 x)
four_fits n x h = let r = h.there in let k = length_bytes 4 x in record { room = omega (arith, r, k) }

pub number_fits : {p : Page} (n : ℕ) (x : Float) → Room (8 + n) p → Fits p (number_bytes x)
number_fits n x h = let r = h.there in let k = length_number x in record { room = omega (arith, r, k) }

-- ---- behind one
pub behind_four : {p q : Page} (n x : ℕ) → Room (4 + n) p → Put p (bytes_of 4 x) q → Room n q
behind_four {p} {q} n x h f =
    let r = h.there in
    let k = length_bytes 4 x in
    let m = length_put q.out.now p.out.now p.at (bytes_of 4 x) f.whole in
    let e = f.behind in
    record { there = omega (arith, r, k, m, e) }

pub behind_number : {p q : Page} (n : ℕ) (x : Float) → Room (8 + n) p → Put p (number_bytes x) q → Room n q
behind_number {p} {q} n x h f =
    let r = h.there in
    let k = length_number x in
    let m = length_put q.out.now p.out.now p.at (number_bytes x) f.whole in
    let e = f.behind in
    record { there = omega (arith, r, k, m, e) }

-- ---- the trailer
trailer_long : (chain count word : ℕ) (cone : Float) (tol : Tolerances) → length (trailer_bytes chain count word cone tol) ≡ 40
unfolding trailer_bytes number_bytes bytes_of written
trailer_long chain count word cone tol = refl

pub trailer_room : {p : Page} (chain count word : ℕ) (cone : Float) (tol : Tolerances) → Fits p (trailer_bytes chain count word cone tol) → Room 40 p
trailer_room chain count word cone tol h = let r = h.room in let k = trailer_long chain count word cone tol in record { there = omega (arith, r, k) }
