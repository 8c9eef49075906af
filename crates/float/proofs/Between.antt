-- A point on the way from l to r, l + t * (r - l) in f64 arithmetic for a t from 0 to 0.75, lies between l and r. Subnormals and zeros of either sign are among them.
use Rattle.std.proofs.Common.{◌≡◌, ℕ, zero, suc, ◌+◌, ◌-◌, ◌*◌, ◌^◌, ◌<◌, ◌≤◌, Bool, true, false, T, ◌⊎◌, sym, refl, ap, ◌∙◌, subst, inl, inr, true≢false, le_trans, le_of_eq, lt_of_lt_of_le, lt_of_le_of_lt, mul-le-mul_right, mul-pos, not-le_of_lt, le_of_mul-le-mul_right, arith, lit<, lit≤, pow_pos, pow_mono, pow-add}
use mathlib.Core.Bool.{false≢true}
use lib.Ieee.{Float, nan, inf, fin, binary64, unlike, size, round, add, sub, mul, neg, lt, eq, le, fits, is_nan, of_bits}
use lib.Ieee.Fits.{add-fits}
use lib.Ieee.Digits.{size-lt, size-le, size_reaches}
use lib.Ieee.Scale.{finite, round_same}
use Rattle.float.proofs.Rounding.{round_near}
use Rattle.float.proofs.Rounding.{U_pos, Rounded, mul_is, within_scale}
use Rattle.float.proofs.Order as order
use Rattle.float.proofs.Units.{Held, held, exact_is, le_or_lt}
use Rattle.float.proofs.Signed.{pl, mi, negative_is, Below, val_le, Rnd, rnd_mono1, rnd_self, rnd_add, rnd_sub, neg_is}
use Rattle.float.proofs.Sizes.{size_le_parts, parts_size_le}
use Rattle.float.specs.Units.{U, Is}
use Rattle.float.specs.Helpers.{size_of, negative}

-- ---- t * fl(D) for a whole number D of units and a t up to 0.75 is at most D
record Part (z : Float) (s : Bool) (D : ℕ) : Type 0 where
  v : ℕ
  is : Is z s v
  most : v ≤ D

like : (s : Bool) → unlike s false ≡ s
like true = refl
like false = refl

zero_part : (s : Bool) → Is (round binary64 s 0 (U * U)) s 0
zero_part s = subst (λ (z : Float). Is z s 0) (round_same binary64 s 0 U 0 (U * U) U_pos (mul-pos U_pos U_pos) (none (U * U) U)) (exact_is s 0 0 0 refl (lit< tt) (lit< tt))
  where
    none : (a b : ℕ) → 0 * a ≡ 0 * b
    none a b = omega arith

-- dv * tv units, in units of H
fits_in : (D dv tv H u : ℕ) → 0 < H → 0 < u → dv ≤ D + H → D < 2 ^ 54 * H → 4 * tv ≤ 3 * u → dv * tv * u < 2 ^ 54 * H * (u * u)
fits_in D dv tv H u P Q a b c = go (mul-le-mul_right (u * dv) c) (mul-le-mul_right (u * u) x)
  where
    x : 4 * suc (3 * dv) ≤ 4 * (4 * (2 ^ 54 * H))
    x = omega arith

    uu : 0 < u * u
    uu = mul-pos Q Q

    go : 4 * tv * (u * dv) ≤ 3 * u * (u * dv) → 4 * suc (3 * dv) * (u * u) ≤ 4 * (4 * (2 ^ 54 * H)) * (u * u) → dv * tv * u < 2 ^ 54 * H * (u * u)
    go d e = omega (arith, uu)

shrinks : (hv dv tv H u : ℕ) → 0 < u → hv * u ≤ dv * tv + H * u → 4 * tv ≤ 3 * u → 4 * hv ≤ 3 * dv + 4 * H
shrinks hv dv tv H u P a b = le_of_mul-le-mul_right {k = u} (go (mul-le-mul_right dv b)) P
  where
    go : 4 * tv * dv ≤ 3 * u * dv → 4 * hv * u ≤ (3 * dv + 4 * H) * u
    go c = omega arith

module _ (t : Float) (tv : ℕ) (t_is : Is t false tv) (t_most : 4 * tv ≤ 3 * U) where
  product : (z : Float) (s : Bool) (D dv h : ℕ) → Is z s dv → h ≤ 2040 → dv ≤ D + 2 ^ h → D < 2 ^ 54 * 2 ^ h → (v : ℕ) × Is (mul binary64 z t) s v × (4 * v ≤ 3 * dv + 4 * 2 ^ h)
  product z s D dv h i H a b =
      let l : dv * tv * U < 2 ^ (54 + h) * (U * U) = subst (λ (x : ℕ). dv * tv * U < x * (U * U)) (sym (pow-add 2 54 h)) (fits_in D dv tv (2 ^ h) U (pow_pos h) U_pos a b t_most) in
      let r : Rounded (round binary64 (unlike s false) (dv * tv) (U * U)) (unlike s false) (dv * tv * U) (U * U) (2 ^ h) = round_near (unlike s false) (dv * tv) (U * U) h (mul-pos U_pos U_pos) H l in (
        r.v,
        subst (λ (x : Bool). Is (mul binary64 z t) x r.v) (like s) (subst (λ (x : Float). Is x (unlike s false) r.v) (sym (mul_is z t s false dv tv i t_is)) r.is),
        shrinks r.v dv tv (2 ^ h) U U_pos (within_scale r.v (dv * tv) U (2 ^ h) U U_pos r.near).0 t_most,
      )

  small_part : (s : Bool) (D : ℕ) → D < 2 ^ 53 → Part (mul binary64 (round binary64 s D U) t) s D
  small_part s zero b = record {
    v = 0;
    is = subst (λ (x : Bool). Is (mul binary64 (round binary64 s 0 U) t) x 0) (like s)
        (subst (λ (x : Float). Is x (unlike s false) 0) (sym (mul_is (round binary64 s 0 U) t s false 0 tv (exact_is s 0 0 0 refl (lit< tt) (lit< tt)) t_is))
        (subst (λ (x : ℕ). Is (round binary64 (unlike s false) x (U * U)) (unlike s false) 0) (none tv) (zero_part (unlike s false))));
    most = omega arith;
  }
    where
      none : (a : ℕ) → 0 ≡ 0 * a
      none a = omega arith
  small_part s (suc k) b =
      let i : Is (round binary64 s (suc k) U) s (suc k) = exact_is s (suc k) (suc k) 0 (one (suc k)) b (lt_of_lt_of_le b (lit≤ tt)) in
      let p = product (round binary64 s (suc k) U) s (suc k) (suc k) 0 i (lit≤ tt) (more k) (room k b) in
      record { v = p.0; is = p.1; most = go p.0 p.2 }
    where
      one : (a : ℕ) → a ≡ a * 2 ^ 0
      one a = omega arith

      more : (a : ℕ) → suc a ≤ suc a + 1
      more a = omega arith

      room : (a : ℕ) → suc a < 2 ^ 53 → suc a < 2 ^ 54 * 1
      room a h = omega arith

      go : (v : ℕ) → 4 * v ≤ 3 * suc k + 4 * 1 → v ≤ suc k
      go v h = omega arith

  large_part : (s : Bool) (D h : ℕ) → h ≤ 2040 → 2 ^ 53 * 2 ^ h ≤ D → D < 2 ^ 54 * 2 ^ h → Part (mul binary64 (round binary64 s D U) t) s D
  large_part s D h H a b =
      let r : Rounded (round binary64 s D U) s (D * U) U (2 ^ h) = round_near s D U h U_pos H (native.Mathlib.Nat.mul-lt-mul_of_pos_right (subst (λ (x : ℕ). D < x) (sym (pow-add 2 54 h)) b) U_pos) in
      let d : r.v ≤ D + 2 ^ h = le_of_mul-le-mul_right {k = U} (le_trans r.near.0 (le_of_eq (joined D (2 ^ h) U))) U_pos in
      let p = product (round binary64 s D U) s D r.v h r.is H d b in
      record { v = p.0; is = p.1; most = go p.0 r.v (2 ^ h) d p.2 a }
    where
      joined : (x y u : ℕ) → x * u + y * u ≡ (x + y) * u
      joined x y u = omega arith

      go : (v w e : ℕ) → w ≤ D + e → 4 * v ≤ 3 * w + 4 * e → 2 ^ 53 * e ≤ D → v ≤ D
      go v w e k l m = omega arith

  part : (s : Bool) (D : ℕ) → D < 2 ^ 2094 → Part (mul binary64 (round binary64 s D U) t) s D
  part s D b = go (le_or_lt (2 ^ 53) D)
    where
      many : 2 ^ 53 ≤ D → 54 ≤ size D
      many h = at_least (le_or_lt 54 (size D))
        where
          at_least : (54 ≤ size D) ⊎ (size D < 54) → 54 ≤ size D
          at_least (inl g) = g
          at_least (inr g) = absurd (not-le_of_lt (lt_of_lt_of_le (size-lt D) (pow_mono {j = 53} (less g))) h)
            where
              less : size D < 54 → size D ≤ 53
              less g = omega arith

      split : (z : ℕ) → 54 ≤ z → z ≡ 54 + (z - 54)
      split z h = omega arith

      below_it : (z : ℕ) → 54 ≤ z → 53 + (z - 54) < z
      below_it z h = omega arith

      few : (z : ℕ) → z ≤ 2094 → z - 54 ≤ 2040
      few z h = omega arith

      go : (2 ^ 53 ≤ D) ⊎ (D < 2 ^ 53) → Part (mul binary64 (round binary64 s D U) t) s D
      go (inr h) = small_part s D h
      go (inl h) =
          let z = size D in
          let k = many h in
          large_part s D (z - 54) (few z (size-le D 2094 b)) (le_trans (le_of_eq (sym (pow-add 2 53 (z - 54)))) (size_reaches D (53 + (z - 54)) (below_it z k)))
          (lt_of_lt_of_le (size-lt D) (le_of_eq (ap (λ (x : ℕ). 2 ^ x) (split z k) ∙ pow-add 2 54 (z - 54))))

-- ---- a rounded difference, by its negative and size
record Diff (z : Float) (D : ℕ) : Type 0 where
  s : Bool
  is : z ≡ round binary64 s D U

abbrev Up : {z : Float} {D : ℕ} → Diff z D → Type 0
Up {D = D} d = mi d.s D ≡ 0

abbrev Down : {z : Float} {D : ℕ} → Diff z D → Type 0
Down {D = D} d = pl d.s D ≡ 0

zero_of : (a b : ℕ) → 0 < b → a * b ≤ 0 → a ≡ 0
zero_of a b B g = last (le_of_mul-le-mul_right {m = a} {n = 0} {k = b} (none g) B)
  where
    none : a * b ≤ 0 → a * b ≤ 0 * b
    none g = omega arith

    last : a ≤ 0 → a ≡ 0
    last h = omega arith

diff_up : (z : Float) (p n D : ℕ) → Rnd z p n U → p ≡ n + D → (d : Diff z D) × Up d
diff_up z p n D r e = go r.s r.v r.k r.k_pos r.is r.same
  where
    go : (s : Bool) (v k : ℕ) → 0 < k → z ≡ round binary64 s v k → pl s v * U + n * k ≡ p * k + mi s v * U → (d : Diff z D) × Up d
    go false v k K i q = (record { s = false; is = i ∙ round_same binary64 false v k D U K U_pos (cross U (ap (λ (x : ℕ). x * k) e) q) }, refl)
      where
        cross : (u : ℕ) → p * k ≡ (n + D) * k → v * u + n * k ≡ p * k + 0 * u → v * u ≡ D * k
        cross u a b = omega arith
    go true v k K i q =
        let y : D * k ≤ 0 = none U (ap (λ (x : ℕ). x * k) e) q in
        let w : v * U ≤ 0 = none' U (ap (λ (x : ℕ). x * k) e) q in
        let D0 : D ≡ 0 = zero_of D k K y in
        let v0 : v ≡ 0 = zero_of v U U_pos w in
        (record { s = true; is = i ∙ round_same binary64 true v k D U K U_pos (ap (λ (x : ℕ). x * U) v0 ∙ flat U k ∙ ap (λ (x : ℕ). x * k) (sym D0)) }, D0)
      where
        none : (u : ℕ) → p * k ≡ (n + D) * k → 0 * u + n * k ≡ p * k + v * u → D * k ≤ 0
        none u a b = omega arith

        none' : (u : ℕ) → p * k ≡ (n + D) * k → 0 * u + n * k ≡ p * k + v * u → v * u ≤ 0
        none' u a b = omega arith

        flat : (a b : ℕ) → 0 * a ≡ 0 * b
        flat a b = omega arith

diff_down : (z : Float) (p n D : ℕ) → Rnd z p n U → n ≡ p + D → (d : Diff z D) × Down d
diff_down z p n D r e = go r.s r.v r.k r.k_pos r.is r.same
  where
    go : (s : Bool) (v k : ℕ) → 0 < k → z ≡ round binary64 s v k → pl s v * U + n * k ≡ p * k + mi s v * U → (d : Diff z D) × Down d
    go true v k K i q = (record { s = true; is = i ∙ round_same binary64 true v k D U K U_pos (cross U (ap (λ (x : ℕ). x * k) e) q) }, refl)
      where
        cross : (u : ℕ) → n * k ≡ (p + D) * k → 0 * u + n * k ≡ p * k + v * u → v * u ≡ D * k
        cross u a b = omega arith
    go false v k K i q =
        let y : D * k ≤ 0 = none U (ap (λ (x : ℕ). x * k) e) q in
        let w : v * U ≤ 0 = none' U (ap (λ (x : ℕ). x * k) e) q in
        let D0 : D ≡ 0 = zero_of D k K y in
        let v0 : v ≡ 0 = zero_of v U U_pos w in
        (record { s = false; is = i ∙ round_same binary64 false v k D U K U_pos (ap (λ (x : ℕ). x * U) v0 ∙ flat U k ∙ ap (λ (x : ℕ). x * k) (sym D0)) }, D0)
      where
        none : (u : ℕ) → n * k ≡ (p + D) * k → v * u + n * k ≡ p * k + 0 * u → D * k ≤ 0
        none u a b = omega arith

        none' : (u : ℕ) → n * k ≡ (p + D) * k → v * u + n * k ≡ p * k + 0 * u → v * u ≤ 0
        none' u a b = omega arith

        flat : (a b : ℕ) → 0 * a ≡ 0 * b
        flat a b = omega arith

-- ---- what is used of a tame value: at most 2 ^ 1000 in size
unfoldable pub big : Float
big = of_bits binary64 0x7e70_0000_0000_0000

abbrev pub Tame : Float → Type 0
Tame x = (le (neg big) x ≡ true) × (le x big ≡ true)

unfoldable B : ℕ
B = 2 ^ 2074

big_is : Is big false B
unfolding big of_bits U B
big_is = (refl, refl)

room : (D : ℕ) → D ≤ B + B → D < 2 ^ 2094
unfolding B
room D h = lt_of_le_of_lt h (lit< tt)

pub tame_finite : (x : Float) → Tame x → T (finite x)
unfolding big of_bits neg le lt eq
tame_finite nan h = absurd (false≢true h.0)
tame_finite (inf true) h = absurd (false≢true h.0)
tame_finite (inf false) h = absurd (false≢true h.1)
tame_finite (fin s m e) h = tt

tame_size : (x : Float) (s : Bool) (v : ℕ) → Is x s v → Tame x → v ≤ B
tame_size x s v i h = go s B (val_le (neg big) x true s B v (neg_is big false B big_is) i h.0) (val_le x big s false v B i big_is h.1)
  where
    go : (s : Bool) (b : ℕ) → Below true b s v → Below s v false b → v ≤ b
    go true b k l = omega arith
    go false b k l = omega arith

-- what is tame within smaller bounds
pub tame_of : (c x : Float) → le c big ≡ true → le (neg c) x ≡ true → le x c ≡ true → Tame x
tame_of c x h k l = (order.le_trans (neg big) (neg c) x (order.neg_le c big ∙ h) k, order.le_trans x c big l h)

-- ---- the law
abbrev pub three_quarters : Float
three_quarters = of_bits binary64 0x3fe8_0000_0000_0000

unfoldable Q : ℕ
Q = 3 * 2 ^ 1072

three_quarters_is : Is three_quarters false Q
unfolding of_bits U Q
three_quarters_is = (refl, refl)

Q-is : 4 * Q ≡ 3 * U
unfolding Q U
Q-is = refl

-- t is from +0 to 0.75
abbrev pub Portion : Float → Type 0
Portion t = (negative t ≡ false) × (le t three_quarters ≡ true)

portion_finite : (t : Float) → Portion t → T (finite t)
unfolding of_bits le lt eq
portion_finite nan h = absurd (false≢true h.1)
portion_finite (inf true) h = absurd (true≢false h.0)
portion_finite (inf false) h = absurd (false≢true h.1)
portion_finite (fin s m e) h = tt

abbrev pub way : Float → Float → Float → Float
way l r t = add binary64 l (mul binary64 (sub binary64 r l) t)

module _ (l r t : Float) (fl : T (fits binary64 l)) (fr : T (fits binary64 r)) (ft : T (fits binary64 t)) (tl : Tame l) (tr : Tame r) (pt : Portion t) where
  L : Held l
  L = held l fl (tame_finite l tl)

  R : Held r
  R = held r fr (tame_finite r tr)

  H : Held t
  H = held t ft (portion_finite t pt)

  t_is : Is t false H.v
  t_is = subst (λ (z : Bool). Is t z H.v) (sym (negative_is t H.s H.v H.is) ∙ pt.0) H.is

  t_most : 4 * H.v ≤ 3 * U
  t_most = subst (λ (z : ℕ). 4 * H.v ≤ z) Q-is (go H.v Q (val_le t three_quarters false false H.v Q t_is three_quarters_is pt.1))
    where
      go : (a b : ℕ) → a + 0 ≤ b + 0 → 4 * a ≤ 4 * b
      go a b h = omega arith

  parted : (s : Bool) (v b : ℕ) → v ≤ b → (pl s v ≤ b) × (mi s v ≤ b)
  parted true v b h = (omega arith, h)
  parted false v b h = (h, omega arith)

  rb : (pl R.s R.v ≤ B) × (mi R.s R.v ≤ B)
  rb = parted R.s R.v B (tame_size r R.s R.v R.is tr)

  lb : (pl L.s L.v ≤ B) × (mi L.s L.v ≤ B)
  lb = parted L.s L.v B (tame_size l L.s L.v L.is tl)

  gap : Rnd (sub binary64 r l) (pl R.s R.v + mi L.s L.v) (mi R.s R.v + pl L.s L.v) U
  gap = rnd_sub r l R.s L.s R.v L.v R.is L.is

  -- the part of the way
  step : (D : ℕ) (d : Diff (sub binary64 r l) D) → D ≤ B + B → Part (mul binary64 (sub binary64 r l) t) d.s D
  step D d b = subst (λ (z : Float). Part (mul binary64 z t) d.s D) (sym d.is) (part t H.v t_is t_most d.s D (room D b))

  sides_up : (s : Bool) (v D : ℕ) → v ≤ D → mi s D ≡ 0 → (mi s v ≡ 0) × (pl s v ≤ D)
  sides_up true v D h e = (omega arith, omega arith)
  sides_up false v D h e = (refl, h)

  sides_down : (s : Bool) (v D : ℕ) → v ≤ D → pl s D ≡ 0 → (pl s v ≡ 0) × (mi s v ≤ D)
  sides_down true v D h e = (refl, h)
  sides_down false v D h e = (omega arith, omega arith)

  no_more : (a b c d e : ℕ) → a ≤ e → b ≤ e → a + b - (c + d) ≤ e + e
  no_more a b c d e h k = omega arith

  there : (a b : ℕ) → a ≤ b → b ≡ a + (b - a)
  there a b h = omega arith

  pub way_up : le l r ≡ true → (le l (way l r t) ≡ true) × (le (way l r t) r ≡ true)
  way_up h =
      let P = pl R.s R.v + mi L.s L.v in
      let N = mi R.s R.v + pl L.s L.v in
      let k : P ≡ N + (P - N) = there N P (order_of (val_le l r L.s R.s L.v R.v L.is R.is h)) in
      let d = diff_up (sub binary64 r l) P N (P - N) gap k in
      let p = step (P - N) d.0 (no_more (pl R.s R.v) (mi L.s L.v) (mi R.s R.v) (pl L.s L.v) B rb.0 lb.1) in
      let q = sides_up d.0.s p.v (P - N) p.most d.1 in
      let m = rnd_add l (mul binary64 (sub binary64 r l) t) L.s d.0.s L.v p.v L.is p.is in (
        rnd_mono1 l (way l r t) _ _ _ _ U U_pos (rnd_self l fl L) m (low (pl L.s L.v) (mi L.s L.v) (pl d.0.s p.v) (mi d.0.s p.v) q.0),
        rnd_mono1 (way l r t) r _ _ _ _ U U_pos m (rnd_self r fr R) (high (pl L.s L.v) (mi L.s L.v) (pl R.s R.v) (mi R.s R.v) (pl d.0.s p.v) (mi d.0.s p.v) (P - N) k q.1),
      )
    where
      order_of : pl L.s L.v + mi R.s R.v ≤ pl R.s R.v + mi L.s L.v → mi R.s R.v + pl L.s L.v ≤ pl R.s R.v + mi L.s L.v
      order_of h = omega arith

      low : (a b c d : ℕ) → d ≡ 0 → a + (b + d) ≤ a + c + b
      low a b c d e = omega arith

      high : (a b x y c d D : ℕ) → x + b ≡ y + a + D → c ≤ D → a + c + y ≤ x + (b + d)
      high a b x y c d D e h = omega arith

  pub way_down : le r l ≡ true → (le r (way l r t) ≡ true) × (le (way l r t) l ≡ true)
  way_down h =
      let P = pl R.s R.v + mi L.s L.v in
      let N = mi R.s R.v + pl L.s L.v in
      let k : N ≡ P + (N - P) = there P N (order_of (val_le r l R.s L.s R.v L.v R.is L.is h)) in
      let d = diff_down (sub binary64 r l) P N (N - P) gap k in
      let p = step (N - P) d.0 (no_more (mi R.s R.v) (pl L.s L.v) (pl R.s R.v) (mi L.s L.v) B rb.1 lb.0) in
      let q = sides_down d.0.s p.v (N - P) p.most d.1 in
      let m = rnd_add l (mul binary64 (sub binary64 r l) t) L.s d.0.s L.v p.v L.is p.is in (
        rnd_mono1 r (way l r t) _ _ _ _ U U_pos (rnd_self r fr R) m (high (pl L.s L.v) (mi L.s L.v) (pl R.s R.v) (mi R.s R.v) (pl d.0.s p.v) (mi d.0.s p.v) (N - P) k q.1),
        rnd_mono1 (way l r t) l _ _ _ _ U U_pos m (rnd_self l fl L) (low (pl L.s L.v) (mi L.s L.v) (pl d.0.s p.v) (mi d.0.s p.v) q.0),
      )
    where
      order_of : pl R.s R.v + mi L.s L.v ≤ pl L.s L.v + mi R.s R.v → pl R.s R.v + mi L.s L.v ≤ mi R.s R.v + pl L.s L.v
      order_of h = omega arith

      low : (a b c d : ℕ) → c ≡ 0 → a + c + b ≤ a + (b + d)
      low a b c d e = omega arith

      high : (a b x y c d D : ℕ) → y + a ≡ x + b + D → d ≤ D → x + (b + d) ≤ a + c + y
      high a b x y c d D e h = omega arith

  number : (x : Float) → T (finite x) → is_nan x ≡ false
  number nan h = absurd h
  number (inf s) h = absurd h
  number (fin s m e) h = unfold is_nan in refl

  -- between any bounds of l and r
  pub way_between : (lo hi : Float) → le lo l ≡ true → le lo r ≡ true → le l hi ≡ true → le r hi ≡ true → (le lo (way l r t) ≡ true) × (le (way l r t) hi ≡ true)
  way_between lo hi a b c d = go (le l r) refl
    where
      go : (x : Bool) → le l r ≡ x → (le lo (way l r t) ≡ true) × (le (way l r t) hi ≡ true)
      go true e = (order.le_trans lo l (way l r t) a (way_up e).0, order.le_trans (way l r t) r hi (way_up e).1 d)
      go false e =
          let f = order.le_total r l (number r (tame_finite r tr)) (number l (tame_finite l tl)) e in
          (order.le_trans lo r (way l r t) b (way_down f).0, order.le_trans (way l r t) l hi (way_down f).1 c)

  pub way_tame : Tame (way l r t)
  way_tame = way_between (neg big) big tl.0 tr.0 tl.1 tr.1

  pub way_finite : T (finite (way l r t))
  way_finite = tame_finite (way l r t) way_tame

  pub way_fits : T (fits binary64 (way l r t))
  way_fits = add-fits binary64 l (mul binary64 (sub binary64 r l) t)

pub way_size : (l r t c : Float) → T (fits binary64 l) → T (fits binary64 r) → T (fits binary64 t) → le c big ≡ true → Portion t → le (size_of l) c ≡ true → le (size_of r) c ≡ true → le (size_of (way l r t)) c ≡ true
way_size l r t c fl fr ft b pt x y =
    let p = size_le_parts l c x in
    let q = size_le_parts r c y in
    let w = way_between l r t fl fr ft (tame_of c l b p.0 p.1) (tame_of c r b q.0 q.1) pt (neg c) c p.0 q.0 p.1 q.1 in
    parts_size_le (way l r t) c w.0 w.1

-- ---- the factors and bounds that are used
abbrev pub half : Float
half = of_bits binary64 0x3fe0_0000_0000_0000

abbrev pub quarter : Float
quarter = of_bits binary64 0x3fd0_0000_0000_0000

pub half_portion : Portion half
unfolding of_bits le lt eq
half_portion = (refl, refl)

pub quarter_portion : Portion quarter
unfolding of_bits le lt eq
quarter_portion = (refl, refl)

pub three_quarters_portion : Portion three_quarters
unfolding of_bits le lt eq
three_quarters_portion = (refl, refl)

-- 1e7
abbrev pub ten_million : Float
ten_million = of_bits binary64 0x4163_12d0_0000_0000

pub ten_million_big : le ten_million big ≡ true
unfolding big of_bits le lt eq
ten_million_big = refl

pub mid_size : (l r : Float) → T (fits binary64 l) → T (fits binary64 r) → le (size_of l) ten_million ≡ true → le (size_of r) ten_million ≡ true → le (size_of (way l r half)) ten_million ≡ true
mid_size l r fl fr x y = way_size l r half ten_million fl fr (unfold of_bits in unfold fits in tt) ten_million_big half_portion x y
