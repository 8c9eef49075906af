-- A turn does not make a vector small. Where every number that Rodrigues' formula gives is at most δ, the axis is not
-- shorter than 0.86, one of sine and cosine is at least 0.6 and every rounded step is within δ, the vector's numbers
-- are at most 41616 δ. All by dot and cross products with the axis k, linear in the vector v: k · w gives k · v, then k
-- × w and w give v. Nothing is said of v's length.
use mathlib.Core.Path.{◌≡◌, refl, ap}
use mathlib.Core.Bool.{Bool, true, false}
use mathlib.Core.Logic.{◌⊎◌, inl, inr}
use Prim.Native.Nat.{ℕ, ◌+◌, ◌-◌, ◌*◌, ◌≤◌, ◌<◌}
use native.Mathlib.Nat.{mul-le-mul, mul-le-mul_right, mul-le-mul_left, mul-pos}
use native.Mathlib.Omega.{arith}
use Rattle.float.proofs.Units.{le_or_lt}
use Rattle.geometry.proofs.Differences.{Z, nat, sg, plus, minus, times, Same, Most, triple, double, across_one, along_one, gathered, left, whole, rest, turned, last, spread, gather, collect, around, trans, sum_same, keep, same_times, square, most_plus, most_minus, most_from, most_back, most_drop, most_same, most_raise, most_nat, most_sg, most_times, most_over}

abbrev pub sum3 : Z → Z → Z → Z
sum3 a b c = plus (plus a b) c

abbrev pub cross : Z → Z → Z → Z → Z
cross a b c d = minus (times a b) (times c d)

most_sum : (a b c : Z) (e : ℕ) → Most a e → Most b e → Most c e → Most (sum3 a b c) (e + e + e)
most_sum a b c e x y z = most_plus (plus a b) c (e + e) e (most_plus a b e e x y) z

-- ---- the divisors
-- u² c + (u - c) a is at least u³ / 4
first_divisor : (o : Bool) (m u a : ℕ) → 64 * m ≤ 65 * u → 3 * (u * u) ≤ 4 * a → a ≤ 12 * (u * u)
    → u * u * u + 4 * (plus (times (nat (u * u)) (sg o m)) (times (minus (nat u) (sg o m)) (nat a))).n ≤ 4 * (plus (times (nat (u * u)) (sg o m)) (times (minus (nat u) (sg o m)) (nat a))).p
first_divisor true m u a h l k = go (mul-le-mul_right (u * u) h) (mul-le-mul_right u l) (mul-le-mul_right m l)
  where
    go : 64 * m * (u * u) ≤ 65 * u * (u * u) → 3 * (u * u) * u ≤ 4 * a * u → 3 * (u * u) * m ≤ 4 * a * m → u * u * u + 4 * (u * u * m + 0 * 0 + ((u + m) * 0 + (0 + 0) * a)) ≤ 4 * (u * u * 0 + 0 * m + ((u + m) * a + (0 + 0) * 0))
    go x y z = omega arith
first_divisor false m u a h l k = at (le_or_lt m u)
  where
    at : (m ≤ u) ⊎ (u < m) → u * u * u + 4 * (u * u * 0 + 0 * m + ((u + 0) * 0 + (0 + m) * a)) ≤ 4 * (u * u * m + 0 * 0 + ((u + 0) * a + (0 + m) * 0))
    at (inl g) = go (u - m) (split u m g)
      where
        split : (a b : ℕ) → b ≤ a → a ≡ b + (a - b)
        split a b h = omega arith

        go : (r : ℕ) → u ≡ m + r → u * u * u + 4 * (u * u * 0 + 0 * m + ((u + 0) * 0 + (0 + m) * a)) ≤ 4 * (u * u * m + 0 * 0 + ((u + 0) * a + (0 + m) * 0))
        go r e = sum (ap (λ (z : ℕ). u * u * z) e) (ap (λ (z : ℕ). a * z) e) (mul-le-mul_right r l)
          where
            sum : u * u * u ≡ u * u * (m + r) → a * u ≡ a * (m + r) → 3 * (u * u) * r ≤ 4 * a * r → u * u * u + 4 * (u * u * 0 + 0 * m + ((u + 0) * 0 + (0 + m) * a)) ≤ 4 * (u * u * m + 0 * 0 + ((u + 0) * a + (0 + m) * 0))
            sum x y z = omega arith
    at (inr g) = go (m - u) (split m u g)
      where
        split : (a b : ℕ) → b < a → a ≡ b + (a - b)
        split a b h = omega arith

        go : (r : ℕ) → m ≡ u + r → u * u * u + 4 * (u * u * 0 + 0 * m + ((u + 0) * 0 + (0 + m) * a)) ≤ 4 * (u * u * m + 0 * 0 + ((u + 0) * a + (0 + m) * 0))
        go r e = sum (few h e) (ap (λ (z : ℕ). u * u * z) e) (ap (λ (z : ℕ). a * z) e) (mul-le-mul_right r k)
          where
            few : 64 * m ≤ 65 * u → m ≡ u + r → 64 * r ≤ u
            few h e = omega arith

            sum : 64 * r ≤ u → u * u * m ≡ u * u * (u + r) → a * m ≡ a * (u + r) → a * r ≤ 12 * (u * u) * r → u * u * u + 4 * (u * u * 0 + 0 * m + ((u + 0) * 0 + (0 + m) * a)) ≤ 4 * (u * u * m + 0 * 0 + ((u + 0) * a + (0 + m) * 0))
            sum w x y z = done (mul-le-mul_right (u * u) w)
              where
                done : 64 * r * (u * u) ≤ u * (u * u) → u * u * u + 4 * (u * u * 0 + 0 * m + ((u + 0) * 0 + (0 + m) * a)) ≤ 4 * (u * u * m + 0 * 0 + ((u + 0) * a + (0 + m) * 0))
                done v = omega arith

-- (u c)² + s² a is at least u⁴ / 4
second_divisor : (sm cm u a : ℕ) → 9 * (u * u) ≤ 25 * (sm * sm + cm * cm) → 3 * (u * u) ≤ 4 * a → u * u * (u * u) ≤ 4 * (u * cm * (u * cm) + sm * sm * a)
second_divisor sm cm u a h l = go (mul-le-mul_right (u * u) h) (mul-le-mul_right (sm * sm) l)
  where
    go : 9 * (u * u) * (u * u) ≤ 25 * (sm * sm + cm * cm) * (u * u) → 3 * (u * u) * (sm * sm) ≤ 4 * a * (sm * sm) → u * u * (u * u) ≤ 4 * (u * cm * (u * cm) + sm * sm * a)
    go x y = omega arith

-- ---- a turn with its rounded steps: axis k, sine s, cosine c, vector v; n = k × v, d = k · v, f = d (1 - c),
-- w = v c + n s + k f. u is the number 1
pub record Steps (u δ : ℕ) (k1o k2o k3o so co : Bool) (k1m k2m k3m sm cm : ℕ) (v1 v2 v3 n1 n2 n3 w1 w2 w3 d f : Z) : Type 0 where
  pub n1_near : Most (minus (times (nat u) n1) (cross (sg k2o k2m) v3 (sg k3o k3m) v2)) (δ * u)
  pub n2_near : Most (minus (times (nat u) n2) (cross (sg k3o k3m) v1 (sg k1o k1m) v3)) (δ * u)
  pub n3_near : Most (minus (times (nat u) n3) (cross (sg k1o k1m) v2 (sg k2o k2m) v1)) (δ * u)
  pub d_near : Most (minus (times (nat u) d) (sum3 (times (sg k1o k1m) v1) (times (sg k2o k2m) v2) (times (sg k3o k3m) v3))) (δ * u)
  pub f_near : Most (minus (times (nat u) f) (times d (minus (nat u) (sg co cm)))) (δ * u)
  pub w1_near : Most (minus (times (nat u) w1) (sum3 (times v1 (sg co cm)) (times n1 (sg so sm)) (times (sg k1o k1m) f))) (δ * u)
  pub w2_near : Most (minus (times (nat u) w2) (sum3 (times v2 (sg co cm)) (times n2 (sg so sm)) (times (sg k2o k2m) f))) (δ * u)
  pub w3_near : Most (minus (times (nat u) w3) (sum3 (times v3 (sg co cm)) (times n3 (sg so sm)) (times (sg k3o k3m) f))) (δ * u)
  pub k1_most : k1m ≤ 2 * u
  pub k2_most : k2m ≤ 2 * u
  pub k3_most : k3m ≤ 2 * u
  pub s_most : 64 * sm ≤ 65 * u
  pub c_most : 64 * cm ≤ 65 * u
  pub long : 3 * (u * u) ≤ 4 * (k1m * k1m + k2m * k2m + k3m * k3m)
  pub wide : 9 * (u * u) ≤ 25 * (sm * sm + cm * cm)

-- ---- one number of v, from q v + s (k × v) with its two neighbours
component : (u δ a : ℕ) → 0 < u → (k1o k2o k3o so qo : Bool) (k1m k2m k3m sm qm : ℕ) (v1 v2 v3 : Z)
    → Most (sg k1o k1m) (2 * u) → Most (sg k2o k2m) (2 * u) → Most (sg k3o k3m) (2 * u) → Most (sg so sm) (2 * u) → Most (sg qo qm) (2 * (u * u))
    → u * u * (u * u) ≤ 4 * (qm * qm + sm * sm * a)
    → Most (sum3 (times (sg k1o k1m) v1) (times (sg k2o k2m) v2) (times (sg k3o k3m) v3)) (153 * (δ * u))
    → Same (sum3 (times (sg k1o k1m) (sg k1o k1m)) (times (sg k2o k2m) (sg k2o k2m)) (times (sg k3o k3m) (sg k3o k3m))) (nat a)
    → Most (plus (times (sg qo qm) v1) (times (sg so sm) (cross (sg k2o k2m) v3 (sg k3o k3m) v2))) (918 * (δ * u * u))
    → Most (plus (times (sg qo qm) v2) (times (sg so sm) (cross (sg k3o k3m) v1 (sg k1o k1m) v3))) (918 * (δ * u * u))
    → Most (plus (times (sg qo qm) v3) (times (sg so sm) (cross (sg k1o k1m) v2 (sg k2o k2m) v1))) (918 * (δ * u * u))
    → Most v1 (41616 * δ)
component u δ a P k1o k2o k3o so qo k1m k2m k3m sm qm v1 v2 v3 K1 K2 K3 S Q G kv kk p1 p2 p3 =
    most_over v1 (nat (qm * qm + sm * sm * a)) (u * u * (u * u)) (2 * (u * u) * (918 * (δ * u * u)) + 2 * u * (4284 * (δ * u * u * u))) (41616 * δ) (mul-pos (mul-pos P P) (mul-pos P P))
    (zero_more (u * u * (u * u)) (4 * (qm * qm + sm * sm * a)) G) (bound δ u)
    (most_same _ (minus (times q (plus (times q v1) (times s N1))) (times s (minus (times q N1) (times s (times v1 (nat a)))))) _ (last so qo sm qm a v1 N1)
    (most_minus (times q (plus (times q v1) (times s N1))) (times s (minus (times q N1) (times s (times v1 (nat a))))) (2 * (u * u) * (918 * (δ * u * u))) (2 * u * (4284 * (δ * u * u * u)))
    (most_times q (plus (times q v1) (times s N1)) (2 * (u * u)) (918 * (δ * u * u)) Q p1)
    (most_times s (minus (times q N1) (times s (times v1 (nat a)))) (2 * u) (4284 * (δ * u * u * u)) S kept)))
  where
    zero_more : (x y : ℕ) → x ≤ y → x + 4 * 0 ≤ y
    zero_more x y h = omega arith

    bound : (δ u : ℕ) → 4 * (2 * (u * u) * (918 * (δ * u * u)) + 2 * u * (4284 * (δ * u * u * u))) ≤ 41616 * δ * (u * u * (u * u))
    bound δ u = omega arith

    k1 : Z
    k1 = sg k1o k1m

    k2 : Z
    k2 = sg k2o k2m

    k3 : Z
    k3 = sg k3o k3m

    s : Z
    s = sg so sm

    q : Z
    q = sg qo qm

    N1 : Z
    N1 = cross k2 v3 k3 v2

    N2 : Z
    N2 = cross k3 v1 k1 v3

    N3 : Z
    N3 = cross k1 v2 k2 v1

    t : Z
    t = minus (times k2 (plus (times q v3) (times s N3))) (times k3 (plus (times q v2) (times s N2)))

    dot : Z
    dot = sum3 (times k1 v1) (times k2 v2) (times k3 v3)

    square' : Z
    square' = sum3 (times k1 k1) (times k2 k2) (times k3 k3)

    kept : Most (minus (times q N1) (times s (times v1 (nat a)))) (4284 * (δ * u * u * u))
    kept =
        most_raise _ (2 * u * (918 * (δ * u * u)) + 2 * u * (918 * (δ * u * u)) + 2 * u * (2 * u * (153 * (δ * u)))) (4284 * (δ * u * u * u)) (omega arith)
        (most_same (minus (times q N1) (times s (times v1 (nat a)))) (minus t (times s (times k1 dot))) _
        (keep t (times q N1) (times s (cross k2 N3 k3 N2)) (times s (minus (times k1 dot) (times v1 square'))) (times s (times k1 dot)) (times s (times v1 square')) (times s (times v1 (nat a)))
        (turned k2o k3o so qo k2m k3m sm qm v2 v3 N2 N3)
        (same_times s (cross k2 N3 k3 N2) (minus (times k1 dot) (times v1 square')) (double k1o k2o k3o k1m k2m k3m v1 v2 v3))
        (spread so sm (times k1 dot) (times v1 square'))
        (same_times s (times v1 square') (times v1 (nat a)) (same_times v1 square' (nat a) kk)))
        (most_minus t (times s (times k1 dot)) (2 * u * (918 * (δ * u * u)) + 2 * u * (918 * (δ * u * u))) (2 * u * (2 * u * (153 * (δ * u))))
        (most_minus (times k2 (plus (times q v3) (times s N3))) (times k3 (plus (times q v2) (times s N2))) (2 * u * (918 * (δ * u * u))) (2 * u * (918 * (δ * u * u)))
        (most_times k2 (plus (times q v3) (times s N3)) (2 * u) (918 * (δ * u * u)) K2 p3) (most_times k3 (plus (times q v2) (times s N2)) (2 * u) (918 * (δ * u * u)) K3 p2))
        (most_times s (times k1 dot) (2 * u) (2 * u * (153 * (δ * u))) S (most_times k1 dot (2 * u) (153 * (δ * u)) K1 kv))))

double_most : (m u : ℕ) → 64 * m ≤ 65 * u → m ≤ 2 * u
double_most m u h = omega arith

module _ (u δ : ℕ) (P : 0 < u) (k1o k2o k3o so co : Bool) (k1m k2m k3m sm cm : ℕ) (v1 v2 v3 n1 n2 n3 w1 w2 w3 d f : Z)
    (t : Steps u δ k1o k2o k3o so co k1m k2m k3m sm cm v1 v2 v3 n1 n2 n3 w1 w2 w3 d f) (w1-small : Most w1 δ) (w2-small : Most w2 δ) (w3-small : Most w3 δ) where
  abbrev k1 : Z
  k1 = sg k1o k1m

  abbrev k2 : Z
  k2 = sg k2o k2m

  abbrev k3 : Z
  k3 = sg k3o k3m

  abbrev s : Z
  s = sg so sm

  abbrev c : Z
  c = sg co cm

  abbrev a : ℕ
  a = k1m * k1m + k2m * k2m + k3m * k3m

  abbrev kv : Z
  kv = sum3 (times k1 v1) (times k2 v2) (times k3 v3)

  abbrev kn : Z
  kn = sum3 (times k1 n1) (times k2 n2) (times k3 n3)

  abbrev kk : Z
  kk = sum3 (times k1 k1) (times k2 k2) (times k3 k3)

  k1_size : Most k1 (2 * u)
  k1_size = most_sg k1o k1m (2 * u) t.k1_most

  k2_size : Most k2 (2 * u)
  k2_size = most_sg k2o k2m (2 * u) t.k2_most

  k3_size : Most k3 (2 * u)
  k3_size = most_sg k3o k3m (2 * u) t.k3_most

  s_size : Most s (2 * u)
  s_size = most_sg so sm (2 * u) (double_most sm u t.s_most)

  c_size : Most c (2 * u)
  c_size = most_sg co cm (2 * u) (double_most cm u t.c_most)

  kk_is : Same kk (nat a)
  kk_is = sum_same (times k1 k1) (times k2 k2) (times k3 k3) (nat (k1m * k1m)) (nat (k2m * k2m)) (nat (k3m * k3m)) (square k1o k1m) (square k2o k2m) (square k3o k3m)

  a_most : a ≤ 12 * (u * u)
  a_most = go (mul-le-mul t.k1_most t.k1_most) (mul-le-mul t.k2_most t.k2_most) (mul-le-mul t.k3_most t.k3_most)
    where
      go : k1m * k1m ≤ 2 * u * (2 * u) → k2m * k2m ≤ 2 * u * (2 * u) → k3m * k3m ≤ 2 * u * (2 * u) → k1m * k1m + k2m * k2m + k3m * k3m ≤ 12 * (u * u)
      go x y z = omega arith

  -- ---- the sum before its rounding is small too
  sum_small : (w r : Z) → Most (minus (times (nat u) w) r) (δ * u) → Most w δ → Most r (2 * (δ * u))
  sum_small w r h k = most_raise r (δ * u + u * δ) (2 * (δ * u)) (omega arith) (most_from (times (nat u) w) r (δ * u) (u * δ) h (most_times (nat u) w u δ (most_nat u) k))

  r1 : Most (sum3 (times v1 c) (times n1 s) (times k1 f)) (2 * (δ * u))
  r1 = sum_small w1 _ t.w1_near w1-small

  r2 : Most (sum3 (times v2 c) (times n2 s) (times k2 f)) (2 * (δ * u))
  r2 = sum_small w2 _ t.w2_near w2-small

  r3 : Most (sum3 (times v3 c) (times n3 s) (times k3 f)) (2 * (δ * u))
  r3 = sum_small w3 _ t.w3_near w3-small

  -- ---- k · n is small
  abbrev N1 : Z
  N1 = cross k2 v3 k3 v2

  abbrev N2 : Z
  N2 = cross k3 v1 k1 v3

  abbrev N3 : Z
  N3 = cross k1 v2 k2 v1

  abbrev q1 : Z
  q1 = minus (times (nat u) n1) N1

  abbrev q2 : Z
  q2 = minus (times (nat u) n2) N2

  abbrev q3 : Z
  q3 = minus (times (nat u) n3) N3

  over_unit : (x : Z) (e g : ℕ) → e ≤ g * u → Most (times (nat u) x) e → Most x g
  over_unit x e g h k = most_over x (nat u) (4 * u) e g (omega arith) (omega arith) (bound e (g * u) g h) (most_same (times x (nat u)) (times (nat u) x) e (swapped x.p x.n) k)
    where
      swapped : (p n : ℕ) → p * u + n * 0 + (u * n + 0 * p) ≡ u * p + 0 * n + (p * 0 + n * u)
      swapped p n = omega arith

      bound : (e z g : ℕ) → e ≤ g * u → 4 * e ≤ g * (4 * u)
      bound e z g h = omega arith

  kn_small : Most kn (6 * (δ * u))
  kn_small =
      over_unit kn (2 * u * (δ * u) + 2 * u * (δ * u) + 2 * u * (δ * u)) (6 * (δ * u)) (omega arith)
      (most_same (times (nat u) kn) (sum3 (times k1 q1) (times k2 q2) (times k3 q3)) _
      (gather (times (nat u) kn) (times (nat u) (times k1 n1)) (times (nat u) (times k2 n2)) (times (nat u) (times k3 n3)) (times k1 q1) (times k2 q2) (times k3 q3) (times k1 N1) (times k2 N2) (times k3 N3)
      (gathered (times k1 n1) (times k2 n2) (times k3 n3) (nat u)) (across_one k1o k1m u n1 N1) (across_one k2o k2m u n2 N2) (across_one k3o k3m u n3 N3) (triple k1o k2o k3o k1m k2m k3m v1 v2 v3))
      (most_sum (times k1 q1) (times k2 q2) (times k3 q3) (2 * u * (δ * u)) (most_times k1 q1 (2 * u) (δ * u) k1_size t.n1_near) (most_times k2 q2 (2 * u) (δ * u) k2_size t.n2_near) (most_times k3 q3 (2 * u) (δ * u) k3_size t.n3_near)))

  -- ---- k · w, and from it k · v
  abbrev f1 : Z
  f1 = sum3 (times v1 c) (times n1 s) (times k1 f)

  abbrev f2 : Z
  f2 = sum3 (times v2 c) (times n2 s) (times k2 f)

  abbrev f3 : Z
  f3 = sum3 (times v3 c) (times n3 s) (times k3 f)

  along : Most (sum3 (times c kv) (times s kn) (times f (nat a))) (12 * (δ * u * u))
  along =
      most_raise _ (2 * u * (2 * (δ * u)) + 2 * u * (2 * (δ * u)) + 2 * u * (2 * (δ * u))) (12 * (δ * u * u)) (omega arith)
      (most_same (sum3 (times c kv) (times s kn) (times f (nat a))) (sum3 (times k1 f1) (times k2 f2) (times k3 f3)) _
      (collect (times k1 f1) (times k2 f2) (times k3 f3) (times c (times k1 v1)) (times c (times k2 v2)) (times c (times k3 v3)) (times s (times k1 n1)) (times s (times k2 n2)) (times s (times k3 n3)) (times f (times k1 k1)) (times f (times k2 k2)) (times f (times k3 k3)) (times c kv) (times s kn) (times f (nat a))
      (along_one k1o so co k1m sm cm v1 n1 f) (along_one k2o so co k2m sm cm v2 n2 f) (along_one k3o so co k3m sm cm v3 n3 f)
      (gathered (times k1 v1) (times k2 v2) (times k3 v3) c) (gathered (times k1 n1) (times k2 n2) (times k3 n3) s)
      (trans (sum3 (times f (times k1 k1)) (times f (times k2 k2)) (times f (times k3 k3))) (times f kk) (times f (nat a)) (gathered (times k1 k1) (times k2 k2) (times k3 k3) f) (same_times f kk (nat a) kk_is)))
      (most_sum (times k1 f1) (times k2 f2) (times k3 f3) (2 * u * (2 * (δ * u))) (most_times k1 f1 (2 * u) (2 * (δ * u)) k1_size r1) (most_times k2 f2 (2 * u) (2 * (δ * u)) k2_size r2) (most_times k3 f3 (2 * u) (2 * (δ * u)) k3_size r3)))

  left_small : Most (plus (times c (times (nat u) d)) (times f (nat a))) (26 * (δ * u * u))
  left_small =
      most_raise _ (12 * (δ * u * u) + 2 * u * (6 * (δ * u)) + 2 * u * (δ * u)) (26 * (δ * u * u)) (omega arith)
      (most_same _ (plus (minus (sum3 (times c kv) (times s kn) (times f (nat a))) (times s kn)) (times c (minus (times (nat u) d) kv))) _ (left so co sm cm u a kv kn f d)
      (most_plus (minus (sum3 (times c kv) (times s kn) (times f (nat a))) (times s kn)) (times c (minus (times (nat u) d) kv)) (12 * (δ * u * u) + 2 * u * (6 * (δ * u))) (2 * u * (δ * u))
      (most_minus (sum3 (times c kv) (times s kn) (times f (nat a))) (times s kn) (12 * (δ * u * u)) (2 * u * (6 * (δ * u))) along (most_times s kn (2 * u) (6 * (δ * u)) s_size kn_small))
      (most_times c (minus (times (nat u) d) kv) (2 * u) (δ * u) c_size t.d_near)))

  d_small : Most d (152 * δ)
  d_small =
      most_over d (plus (times (nat (u * u)) c) (times (minus (nat u) c) (nat a))) (u * u * u) (u * (26 * (δ * u * u)) + δ * u * (12 * (u * u))) (152 * δ) (mul-pos (mul-pos P P) P)
      (first_divisor co cm u a t.c_most t.long a_most) (omega arith)
      (most_same _ (minus (times (nat u) (plus (times c (times (nat u) d)) (times f (nat a)))) (times (minus (times (nat u) f) (times d (minus (nat u) c))) (nat a))) _ (whole co cm u a d f)
      (most_minus (times (nat u) (plus (times c (times (nat u) d)) (times f (nat a)))) (times (minus (times (nat u) f) (times d (minus (nat u) c))) (nat a)) (u * (26 * (δ * u * u))) (δ * u * (12 * (u * u)))
      (most_times (nat u) (plus (times c (times (nat u) d)) (times f (nat a))) u (26 * (δ * u * u)) (most_nat u) left_small)
      (most_times (minus (times (nat u) f) (times d (minus (nat u) c))) (nat a) (δ * u) (12 * (u * u)) t.f_near (most_raise (nat a) a (12 * (u * u)) a_most (most_nat a)))))

  kv_small : Most kv (153 * (δ * u))
  kv_small = most_raise kv (δ * u + u * (152 * δ)) (153 * (δ * u)) (omega arith) (most_from (times (nat u) d) kv (δ * u) (u * (152 * δ)) t.d_near (most_times (nat u) d u (152 * δ) (most_nat u) d_small))

  f_small : Most f (457 * δ)
  f_small =
      over_unit f (δ * u + 152 * δ * (u + 2 * u)) (457 * δ) (omega arith)
      (most_back (times (nat u) f) (times d (minus (nat u) c)) (δ * u) (152 * δ * (u + 2 * u)) t.f_near
      (most_times d (minus (nat u) c) (152 * δ) (u + 2 * u) d_small (most_minus (nat u) c u (2 * u) (most_nat u) c_size)))

  -- ---- v c + n s, and with the exact n
  beside : (k v n : Z) → Most k (2 * u) → Most (sum3 (times v c) (times n s) (times k f)) (2 * (δ * u)) → Most (plus (times v c) (times n s)) (916 * (δ * u))
  beside k v n h r =
      most_raise _ (2 * (δ * u) + 2 * u * (457 * δ)) (916 * (δ * u)) (omega arith)
      (most_drop (plus (times v c) (times n s)) (times k f) (2 * (δ * u)) (2 * u * (457 * δ)) r (most_times k f (2 * u) (457 * δ) h f_small))

  abbrev q : Z
  q = sg co (u * cm)

  exactly : (v n N : Z) → Most (minus (times (nat u) n) N) (δ * u) → Most (plus (times v c) (times n s)) (916 * (δ * u)) → Most (plus (times q v) (times s N)) (918 * (δ * u * u))
  exactly v n N h r =
      most_raise _ (u * (916 * (δ * u)) + 2 * u * (δ * u)) (918 * (δ * u * u)) (omega arith)
      (most_same _ (minus (times (nat u) (plus (times v c) (times n s))) (times s (minus (times (nat u) n) N))) _ (rest so co sm cm u v n N)
      (most_minus (times (nat u) (plus (times v c) (times n s))) (times s (minus (times (nat u) n) N)) (u * (916 * (δ * u))) (2 * u * (δ * u))
      (most_times (nat u) (plus (times v c) (times n s)) u (916 * (δ * u)) (most_nat u) r)
      (most_times s (minus (times (nat u) n) N) (2 * u) (δ * u) s_size h)))

  p1 : Most (plus (times q v1) (times s N1)) (918 * (δ * u * u))
  p1 = exactly v1 n1 N1 t.n1_near (beside k1 v1 n1 k1_size r1)

  p2 : Most (plus (times q v2) (times s N2)) (918 * (δ * u * u))
  p2 = exactly v2 n2 N2 t.n2_near (beside k2 v2 n2 k2_size r2)

  p3 : Most (plus (times q v3) (times s N3)) (918 * (δ * u * u))
  p3 = exactly v3 n3 N3 t.n3_near (beside k3 v3 n3 k3_size r3)

  q_size : Most q (2 * (u * u))
  q_size = most_sg co (u * cm) (2 * (u * u)) (go (mul-le-mul_left u (double_most cm u t.c_most)))
    where
      go : u * cm ≤ u * (2 * u) → u * cm ≤ 2 * (u * u)
      go h = omega arith

  pub first : Most v1 (41616 * δ)
  first = component u δ a P k1o k2o k3o so co k1m k2m k3m sm (u * cm) v1 v2 v3 k1_size k2_size k3_size s_size q_size (second_divisor sm cm u a t.wide t.long) kv_small kk_is p1 p2 p3

  pub second : Most v2 (41616 * δ)
  second =
      component u δ a P k2o k3o k1o so co k2m k3m k1m sm (u * cm) v2 v3 v1 k2_size k3_size k1_size s_size q_size (second_divisor sm cm u a t.wide t.long)
      (most_same _ kv _ (around (times k1 v1) (times k2 v2) (times k3 v3) kv refl) kv_small) (around (times k1 k1) (times k2 k2) (times k3 k3) (nat a) kk_is) p2 p3 p1

  pub third : Most v3 (41616 * δ)
  third =
      component u δ a P k3o k1o k2o so co k3m k1m k2m sm (u * cm) v3 v1 v2 k3_size k1_size k2_size s_size q_size (second_divisor sm cm u a t.wide t.long)
      (most_same _ kv _ (around (times k2 v2) (times k3 v3) (times k1 v1) kv (around (times k1 v1) (times k2 v2) (times k3 v3) kv refl)) kv_small)
      (around (times k2 k2) (times k3 k3) (times k1 k1) (nat a) (around (times k1 k1) (times k2 k2) (times k3 k3) (nat a) kk_is)) p3 p1 p2
