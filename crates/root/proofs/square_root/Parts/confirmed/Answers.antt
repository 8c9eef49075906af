use Rattle.std.proofs.Common.{◌≡◌, ℕ, ◌+◌, ◌-◌, ◌*◌, ◌%◌, ◌^◌, ◌<◌, ◌≤◌, Bool, true, Option, Some, None, is_some, IfSome, sym, arith, rules}
use Rattle.std.proofs.lemmas.Bool.{leb-true, ltb-true}
use Rattle.root.specs.RootSteps.{Nearby, Confirmed}
use Rattle.root.proofs.RootNearby.{small_halves, small_m, right_q, right_more, right_less}
use Rattle.root.proofs.square_root.Parts.confirmed.Goals as goal

odd_two : (f : ℕ) → (f + 1) % 2 < 2
odd_two f = omega arith

fits-square : (x : ℕ) → x ≤ 2 ^ 54 → x < 2 ^ 64
fits-square x h = omega arith

fits-product : (x : ℕ) → x ≤ 2 ^ 53 → x < 2 ^ 64
fits-product x h = omega arith

sums : (x q : ℕ) → x ≤ 2 ^ 52 → q ≤ 9007199254740992 → (x < 2 ^ 64) × (x + 36028797018963968 < 2 ^ 64) × (x + 36028797018963968 + q < 2 ^ 64) × (x + 36028797018963968 + 2 < 2 ^ 64)
sums x q h l = omega arith

eight : (x : ℕ) → x ≤ 2 ^ 54 → (x < 2 ^ 64) × (x + 8 < 2 ^ 64)
eight x h = omega arith

pub overflow_mul-h : goal.overflow_mul-h
overflow_mul-h c = record { fits = (eight _ (small_m _ _ c.args.self.normal.1 (odd_two c.args.self.f))).0 }

pub overflow_add-h-2 : goal.overflow_add-h-2
overflow_add-h-2 c = record { fits = (eight _ (small_m _ _ c.args.self.normal.1 (odd_two c.args.self.f))).1 }

pub overflow_mul-k : goal.overflow_mul-k
overflow_mul-k c = record { fits = fits-square _ (small_halves _ c.if-q-gt9007199254740992.false).0 }

pub overflow_mul-w : goal.overflow_mul-w
overflow_mul-w c = record { fits = fits-product _ (small_halves _ c.if-q-gt9007199254740992.false).1 }

pub overflow_mul-p : goal.overflow_mul-p
overflow_mul-p c = record { fits = (sums _ _ (small_halves _ c.if-q-gt9007199254740992.false).2 c.if-q-gt9007199254740992.false).0 }

pub overflow_add-p : goal.overflow_add-p
overflow_add-p c = record { fits = (sums _ _ (small_halves _ c.if-q-gt9007199254740992.false).2 c.if-q-gt9007199254740992.false).1 }

pub overflow_add-p-2 : goal.overflow_add-p-2
overflow_add-p-2 c = record { fits = (sums _ _ (small_halves _ c.if-q-gt9007199254740992.false).2 c.if-q-gt9007199254740992.false).2 }

-- `then`: a test that lets a number through, which is then the nearest
by_test : (m o q : ℕ) (r : Option ℕ) (b : Bool) → is_some r ≡ b → IfSome r (λ y. y ≡ q) → (b ≡ true → Nearby (m * (1 + o) * 2 ^ 52) q) → Confirmed m o r
by_test m o q (Some y) b e p f = rw p (f (sym e))
by_test m o q None b e p f = tt

pub returns-then-p-q : goal.returns-then-p-q
returns-then-p-q c = by_test _ _ (c.args.q + 1) c.then.result _ c.then.ensures.variant (search rules) (λ t. right_more _ _ _ c.if-h-k.false c.if-t-w.false c.if-p-q.true (leb-true _ _ t))

pub returns-then-p-l : goal.returns-then-p-l
returns-then-p-l c = right_q _ _ _ c.if-h-k.false c.if-t-w.false c.if-p-q.false c.if-p-l.true

pub returns-else-p-l : goal.returns-else-p-l
returns-else-p-l c = by_test _ _ (c.args.q - 1) c.then-else-p-l.result _ c.then-else-p-l.ensures.variant (search rules) (λ t. right_less _ _ _ c.if-h-k.false c.if-t-w.false c.if-p-l.false (ltb-true _ _ t))
