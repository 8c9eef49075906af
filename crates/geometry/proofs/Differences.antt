-- Whole numbers with a sign, as differences of two natural numbers, and what Rodrigues' formula comes to in them. Each
-- identity is one of natural numbers, which `omega` multiplies out: first over the parts (`..-parts`), a clause for
-- each sign, then over the numbers.
use mathlib.Core.Path.{◌≡◌, refl, ap}
use mathlib.Core.Bool.{Bool, true, false}
use mathlib.Core.Logic.{◌⊎◌, inl, inr}
use Prim.Native.Nat.{ℕ, ◌+◌, ◌-◌, ◌*◌, ◌≤◌, ◌<◌}
use native.Mathlib.Nat.{le_trans, mul-le-mul, mul-le-mul_left, le_of_mul-le-mul_right}
use native.Mathlib.Omega.{arith}
use Rattle.float.proofs.Units.{le_or_lt}
use Rattle.float.proofs.Signed.{pl, mi}

-- p - n
pub record Z : Type 0 where
  pub p : ℕ
  pub n : ℕ

abbrev pub nat : ℕ → Z
nat a = record { p = a; n = 0 }

-- v, or -v where s is true
abbrev pub sg : Bool → ℕ → Z
sg s v = record { p = pl s v; n = mi s v }

abbrev pub plus : Z → Z → Z
plus a b = record { p = a.p + b.p; n = a.n + b.n }

abbrev pub minus : Z → Z → Z
minus a b = record { p = a.p + b.n; n = a.n + b.p }

abbrev pub times : Z → Z → Z
times a b = record { p = a.p * b.p + a.n * b.n; n = a.p * b.n + a.n * b.p }

-- a = b
abbrev pub Same : Z → Z → Type 0
Same a b = a.p + b.n ≡ b.p + a.n

-- |a| ≤ e
abbrev pub Most : Z → ℕ → Type 0
Most a e = (a.p ≤ a.n + e) × (a.n ≤ a.p + e)

-- ---- identities
-- k · (k × v) = 0
triple_parts : (k1o k2o k3o : Bool) (k1m k2m k3m v1p v1n v2p v2n v3p v3n : ℕ) → ((((pl k1o k1m) * (((pl k2o k2m) * v3p + (mi k2o k2m) * v3n) + ((pl k3o k3m) * v2n + (mi k3o k3m) * v2p)) + (mi k1o k1m) * (((pl k2o k2m) * v3n + (mi k2o k2m) * v3p) + ((pl k3o k3m) * v2p + (mi k3o k3m) * v2n))) + ((pl k2o k2m) * (((pl k3o k3m) * v1p + (mi k3o k3m) * v1n) + ((pl k1o k1m) * v3n + (mi k1o k1m) * v3p)) + (mi k2o k2m) * (((pl k3o k3m) * v1n + (mi k3o k3m) * v1p) + ((pl k1o k1m) * v3p + (mi k1o k1m) * v3n)))) + ((pl k3o k3m) * (((pl k1o k1m) * v2p + (mi k1o k1m) * v2n) + ((pl k2o k2m) * v1n + (mi k2o k2m) * v1p)) + (mi k3o k3m) * (((pl k1o k1m) * v2n + (mi k1o k1m) * v2p) + ((pl k2o k2m) * v1p + (mi k2o k2m) * v1n)))) + 0 ≡ 0 + ((((pl k1o k1m) * (((pl k2o k2m) * v3n + (mi k2o k2m) * v3p) + ((pl k3o k3m) * v2p + (mi k3o k3m) * v2n)) + (mi k1o k1m) * (((pl k2o k2m) * v3p + (mi k2o k2m) * v3n) + ((pl k3o k3m) * v2n + (mi k3o k3m) * v2p))) + ((pl k2o k2m) * (((pl k3o k3m) * v1n + (mi k3o k3m) * v1p) + ((pl k1o k1m) * v3p + (mi k1o k1m) * v3n)) + (mi k2o k2m) * (((pl k3o k3m) * v1p + (mi k3o k3m) * v1n) + ((pl k1o k1m) * v3n + (mi k1o k1m) * v3p)))) + ((pl k3o k3m) * (((pl k1o k1m) * v2n + (mi k1o k1m) * v2p) + ((pl k2o k2m) * v1p + (mi k2o k2m) * v1n)) + (mi k3o k3m) * (((pl k1o k1m) * v2p + (mi k1o k1m) * v2n) + ((pl k2o k2m) * v1n + (mi k2o k2m) * v1p))))
triple_parts true true true k1m k2m k3m v1p v1n v2p v2n v3p v3n = omega arith
triple_parts true true false k1m k2m k3m v1p v1n v2p v2n v3p v3n = omega arith
triple_parts true false true k1m k2m k3m v1p v1n v2p v2n v3p v3n = omega arith
triple_parts true false false k1m k2m k3m v1p v1n v2p v2n v3p v3n = omega arith
triple_parts false true true k1m k2m k3m v1p v1n v2p v2n v3p v3n = omega arith
triple_parts false true false k1m k2m k3m v1p v1n v2p v2n v3p v3n = omega arith
triple_parts false false true k1m k2m k3m v1p v1n v2p v2n v3p v3n = omega arith
triple_parts false false false k1m k2m k3m v1p v1n v2p v2n v3p v3n = omega arith

pub triple : (k1o k2o k3o : Bool) (k1m k2m k3m : ℕ) (v1 v2 v3 : Z) → Same (plus (plus (times (sg k1o k1m) (minus (times (sg k2o k2m) v3) (times (sg k3o k3m) v2))) (times (sg k2o k2m) (minus (times (sg k3o k3m) v1) (times (sg k1o k1m) v3)))) (times (sg k3o k3m) (minus (times (sg k1o k1m) v2) (times (sg k2o k2m) v1)))) (nat 0)
triple k1o k2o k3o k1m k2m k3m v1 v2 v3 = triple_parts k1o k2o k3o k1m k2m k3m v1.p v1.n v2.p v2.n v3.p v3.n

-- k × (k × v) = k (k · v) - v (k · k), its first number
double_parts : (k1o k2o k3o : Bool) (k1m k2m k3m v1p v1n v2p v2n v3p v3n : ℕ) → (((pl k2o k2m) * (((pl k1o k1m) * v2p + (mi k1o k1m) * v2n) + ((pl k2o k2m) * v1n + (mi k2o k2m) * v1p)) + (mi k2o k2m) * (((pl k1o k1m) * v2n + (mi k1o k1m) * v2p) + ((pl k2o k2m) * v1p + (mi k2o k2m) * v1n))) + ((pl k3o k3m) * (((pl k3o k3m) * v1n + (mi k3o k3m) * v1p) + ((pl k1o k1m) * v3p + (mi k1o k1m) * v3n)) + (mi k3o k3m) * (((pl k3o k3m) * v1p + (mi k3o k3m) * v1n) + ((pl k1o k1m) * v3n + (mi k1o k1m) * v3p)))) + (((pl k1o k1m) * ((((pl k1o k1m) * v1n + (mi k1o k1m) * v1p) + ((pl k2o k2m) * v2n + (mi k2o k2m) * v2p)) + ((pl k3o k3m) * v3n + (mi k3o k3m) * v3p)) + (mi k1o k1m) * ((((pl k1o k1m) * v1p + (mi k1o k1m) * v1n) + ((pl k2o k2m) * v2p + (mi k2o k2m) * v2n)) + ((pl k3o k3m) * v3p + (mi k3o k3m) * v3n))) + (v1p * ((((pl k1o k1m) * (pl k1o k1m) + (mi k1o k1m) * (mi k1o k1m)) + ((pl k2o k2m) * (pl k2o k2m) + (mi k2o k2m) * (mi k2o k2m))) + ((pl k3o k3m) * (pl k3o k3m) + (mi k3o k3m) * (mi k3o k3m))) + v1n * ((((pl k1o k1m) * (mi k1o k1m) + (mi k1o k1m) * (pl k1o k1m)) + ((pl k2o k2m) * (mi k2o k2m) + (mi k2o k2m) * (pl k2o k2m))) + ((pl k3o k3m) * (mi k3o k3m) + (mi k3o k3m) * (pl k3o k3m))))) ≡ (((pl k1o k1m) * ((((pl k1o k1m) * v1p + (mi k1o k1m) * v1n) + ((pl k2o k2m) * v2p + (mi k2o k2m) * v2n)) + ((pl k3o k3m) * v3p + (mi k3o k3m) * v3n)) + (mi k1o k1m) * ((((pl k1o k1m) * v1n + (mi k1o k1m) * v1p) + ((pl k2o k2m) * v2n + (mi k2o k2m) * v2p)) + ((pl k3o k3m) * v3n + (mi k3o k3m) * v3p))) + (v1p * ((((pl k1o k1m) * (mi k1o k1m) + (mi k1o k1m) * (pl k1o k1m)) + ((pl k2o k2m) * (mi k2o k2m) + (mi k2o k2m) * (pl k2o k2m))) + ((pl k3o k3m) * (mi k3o k3m) + (mi k3o k3m) * (pl k3o k3m))) + v1n * ((((pl k1o k1m) * (pl k1o k1m) + (mi k1o k1m) * (mi k1o k1m)) + ((pl k2o k2m) * (pl k2o k2m) + (mi k2o k2m) * (mi k2o k2m))) + ((pl k3o k3m) * (pl k3o k3m) + (mi k3o k3m) * (mi k3o k3m))))) + (((pl k2o k2m) * (((pl k1o k1m) * v2n + (mi k1o k1m) * v2p) + ((pl k2o k2m) * v1p + (mi k2o k2m) * v1n)) + (mi k2o k2m) * (((pl k1o k1m) * v2p + (mi k1o k1m) * v2n) + ((pl k2o k2m) * v1n + (mi k2o k2m) * v1p))) + ((pl k3o k3m) * (((pl k3o k3m) * v1p + (mi k3o k3m) * v1n) + ((pl k1o k1m) * v3n + (mi k1o k1m) * v3p)) + (mi k3o k3m) * (((pl k3o k3m) * v1n + (mi k3o k3m) * v1p) + ((pl k1o k1m) * v3p + (mi k1o k1m) * v3n))))
double_parts true true true k1m k2m k3m v1p v1n v2p v2n v3p v3n = omega arith
double_parts true true false k1m k2m k3m v1p v1n v2p v2n v3p v3n = omega arith
double_parts true false true k1m k2m k3m v1p v1n v2p v2n v3p v3n = omega arith
double_parts true false false k1m k2m k3m v1p v1n v2p v2n v3p v3n = omega arith
double_parts false true true k1m k2m k3m v1p v1n v2p v2n v3p v3n = omega arith
double_parts false true false k1m k2m k3m v1p v1n v2p v2n v3p v3n = omega arith
double_parts false false true k1m k2m k3m v1p v1n v2p v2n v3p v3n = omega arith
double_parts false false false k1m k2m k3m v1p v1n v2p v2n v3p v3n = omega arith

pub double : (k1o k2o k3o : Bool) (k1m k2m k3m : ℕ) (v1 v2 v3 : Z) → Same (minus (times (sg k2o k2m) (minus (times (sg k1o k1m) v2) (times (sg k2o k2m) v1))) (times (sg k3o k3m) (minus (times (sg k3o k3m) v1) (times (sg k1o k1m) v3)))) (minus (times (sg k1o k1m) (plus (plus (times (sg k1o k1m) v1) (times (sg k2o k2m) v2)) (times (sg k3o k3m) v3))) (times v1 (plus (plus (times (sg k1o k1m) (sg k1o k1m)) (times (sg k2o k2m) (sg k2o k2m))) (times (sg k3o k3m) (sg k3o k3m)))))
double k1o k2o k3o k1m k2m k3m v1 v2 v3 = double_parts k1o k2o k3o k1m k2m k3m v1.p v1.n v2.p v2.n v3.p v3.n

-- k n, from the error of n beside N: u (k n) = k (u n - N) + k N
across_one_parts : (ko : Bool) (km np nn Np Nn u : ℕ) → (u * ((pl ko km) * np + (mi ko km) * nn) + 0 * ((pl ko km) * nn + (mi ko km) * np)) + (((pl ko km) * ((u * nn + 0 * np) + Np) + (mi ko km) * ((u * np + 0 * nn) + Nn)) + ((pl ko km) * Nn + (mi ko km) * Np)) ≡ (((pl ko km) * ((u * np + 0 * nn) + Nn) + (mi ko km) * ((u * nn + 0 * np) + Np)) + ((pl ko km) * Np + (mi ko km) * Nn)) + (u * ((pl ko km) * nn + (mi ko km) * np) + 0 * ((pl ko km) * np + (mi ko km) * nn))
across_one_parts true km np nn Np Nn u = omega arith
across_one_parts false km np nn Np Nn u = omega arith

pub across_one : (ko : Bool) (km u : ℕ) (n N : Z) → Same (times (nat u) (times (sg ko km) n)) (plus (times (sg ko km) (minus (times (nat u) n) N)) (times (sg ko km) N))
across_one ko km u n N = across_one_parts ko km n.p n.n N.p N.n u

-- one number of k · w, for w = v c + n s + k f
along_one_parts : (ko so co : Bool) (km sm cm vp vn np nn fp fn : ℕ) → ((pl ko km) * (((vp * (pl co cm) + vn * (mi co cm)) + (np * (pl so sm) + nn * (mi so sm))) + ((pl ko km) * fp + (mi ko km) * fn)) + (mi ko km) * (((vp * (mi co cm) + vn * (pl co cm)) + (np * (mi so sm) + nn * (pl so sm))) + ((pl ko km) * fn + (mi ko km) * fp))) + ((((pl co cm) * ((pl ko km) * vn + (mi ko km) * vp) + (mi co cm) * ((pl ko km) * vp + (mi ko km) * vn)) + ((pl so sm) * ((pl ko km) * nn + (mi ko km) * np) + (mi so sm) * ((pl ko km) * np + (mi ko km) * nn))) + (fp * ((pl ko km) * (mi ko km) + (mi ko km) * (pl ko km)) + fn * ((pl ko km) * (pl ko km) + (mi ko km) * (mi ko km)))) ≡ ((((pl co cm) * ((pl ko km) * vp + (mi ko km) * vn) + (mi co cm) * ((pl ko km) * vn + (mi ko km) * vp)) + ((pl so sm) * ((pl ko km) * np + (mi ko km) * nn) + (mi so sm) * ((pl ko km) * nn + (mi ko km) * np))) + (fp * ((pl ko km) * (pl ko km) + (mi ko km) * (mi ko km)) + fn * ((pl ko km) * (mi ko km) + (mi ko km) * (pl ko km)))) + ((pl ko km) * (((vp * (mi co cm) + vn * (pl co cm)) + (np * (mi so sm) + nn * (pl so sm))) + ((pl ko km) * fn + (mi ko km) * fp)) + (mi ko km) * (((vp * (pl co cm) + vn * (mi co cm)) + (np * (pl so sm) + nn * (mi so sm))) + ((pl ko km) * fp + (mi ko km) * fn)))
along_one_parts true true true km sm cm vp vn np nn fp fn = omega arith
along_one_parts true true false km sm cm vp vn np nn fp fn = omega arith
along_one_parts true false true km sm cm vp vn np nn fp fn = omega arith
along_one_parts true false false km sm cm vp vn np nn fp fn = omega arith
along_one_parts false true true km sm cm vp vn np nn fp fn = omega arith
along_one_parts false true false km sm cm vp vn np nn fp fn = omega arith
along_one_parts false false true km sm cm vp vn np nn fp fn = omega arith
along_one_parts false false false km sm cm vp vn np nn fp fn = omega arith

pub along_one : (ko so co : Bool) (km sm cm : ℕ) (v n f : Z) → Same (times (sg ko km) (plus (plus (times v (sg co cm)) (times n (sg so sm))) (times (sg ko km) f))) (plus (plus (times (sg co cm) (times (sg ko km) v)) (times (sg so sm) (times (sg ko km) n))) (times f (times (sg ko km) (sg ko km))))
along_one ko so co km sm cm v n f = along_one_parts ko so co km sm cm v.p v.n n.p n.n f.p f.n

-- a common factor, three times
gathered_parts : (a1p a1n a2p a2n a3p a3n fp fn : ℕ) → (((fp * a1p + fn * a1n) + (fp * a2p + fn * a2n)) + (fp * a3p + fn * a3n)) + (fp * ((a1n + a2n) + a3n) + fn * ((a1p + a2p) + a3p)) ≡ (fp * ((a1p + a2p) + a3p) + fn * ((a1n + a2n) + a3n)) + (((fp * a1n + fn * a1p) + (fp * a2n + fn * a2p)) + (fp * a3n + fn * a3p))
gathered_parts a1p a1n a2p a2n a3p a3n fp fn = omega arith

pub gathered : (a1 a2 a3 f : Z) → Same (plus (plus (times f a1) (times f a2)) (times f a3)) (times f (plus (plus a1 a2) a3))
gathered a1 a2 a3 f = gathered_parts a1.p a1.n a2.p a2.n a3.p a3.n f.p f.n

-- what is left of k · w: c (u d) + f a, without the errors of k · n and of d
left_parts : (so co : Bool) (sm cm kvp kvn knp knn fp fn dp dn u a : ℕ) → (((pl co cm) * (u * dp + 0 * dn) + (mi co cm) * (u * dn + 0 * dp)) + (fp * a + fn * 0)) + ((((((pl co cm) * kvn + (mi co cm) * kvp) + ((pl so sm) * knn + (mi so sm) * knp)) + (fp * 0 + fn * a)) + ((pl so sm) * knp + (mi so sm) * knn)) + ((pl co cm) * ((u * dn + 0 * dp) + kvp) + (mi co cm) * ((u * dp + 0 * dn) + kvn))) ≡ ((((((pl co cm) * kvp + (mi co cm) * kvn) + ((pl so sm) * knp + (mi so sm) * knn)) + (fp * a + fn * 0)) + ((pl so sm) * knn + (mi so sm) * knp)) + ((pl co cm) * ((u * dp + 0 * dn) + kvn) + (mi co cm) * ((u * dn + 0 * dp) + kvp))) + (((pl co cm) * (u * dn + 0 * dp) + (mi co cm) * (u * dp + 0 * dn)) + (fp * 0 + fn * a))
left_parts true true sm cm kvp kvn knp knn fp fn dp dn u a = omega arith
left_parts true false sm cm kvp kvn knp knn fp fn dp dn u a = omega arith
left_parts false true sm cm kvp kvn knp knn fp fn dp dn u a = omega arith
left_parts false false sm cm kvp kvn knp knn fp fn dp dn u a = omega arith

pub left : (so co : Bool) (sm cm u a : ℕ) (kv kn f d : Z) → Same (plus (times (sg co cm) (times (nat u) d)) (times f (nat a))) (plus (minus (plus (plus (times (sg co cm) kv) (times (sg so sm) kn)) (times f (nat a))) (times (sg so sm) kn)) (times (sg co cm) (minus (times (nat u) d) kv)))
left so co sm cm u a kv kn f d = left_parts so co sm cm kv.p kv.n kn.p kn.n f.p f.n d.p d.n u a

-- d times its divisor u² c + (u - c) a, from that and from the error of f
whole_parts : (co : Bool) (cm dp dn fp fn u a : ℕ) → (dp * ((((u * u)) * (pl co cm) + 0 * (mi co cm)) + ((u + (mi co cm)) * a + (0 + (pl co cm)) * 0)) + dn * ((((u * u)) * (mi co cm) + 0 * (pl co cm)) + ((u + (mi co cm)) * 0 + (0 + (pl co cm)) * a))) + ((u * (((pl co cm) * (u * dn + 0 * dp) + (mi co cm) * (u * dp + 0 * dn)) + (fp * 0 + fn * a)) + 0 * (((pl co cm) * (u * dp + 0 * dn) + (mi co cm) * (u * dn + 0 * dp)) + (fp * a + fn * 0))) + (((u * fp + 0 * fn) + (dp * (0 + (pl co cm)) + dn * (u + (mi co cm)))) * a + ((u * fn + 0 * fp) + (dp * (u + (mi co cm)) + dn * (0 + (pl co cm)))) * 0)) ≡ ((u * (((pl co cm) * (u * dp + 0 * dn) + (mi co cm) * (u * dn + 0 * dp)) + (fp * a + fn * 0)) + 0 * (((pl co cm) * (u * dn + 0 * dp) + (mi co cm) * (u * dp + 0 * dn)) + (fp * 0 + fn * a))) + (((u * fp + 0 * fn) + (dp * (0 + (pl co cm)) + dn * (u + (mi co cm)))) * 0 + ((u * fn + 0 * fp) + (dp * (u + (mi co cm)) + dn * (0 + (pl co cm)))) * a)) + (dp * ((((u * u)) * (mi co cm) + 0 * (pl co cm)) + ((u + (mi co cm)) * 0 + (0 + (pl co cm)) * a)) + dn * ((((u * u)) * (pl co cm) + 0 * (mi co cm)) + ((u + (mi co cm)) * a + (0 + (pl co cm)) * 0)))
whole_parts true cm dp dn fp fn u a = omega arith
whole_parts false cm dp dn fp fn u a = omega arith

pub whole : (co : Bool) (cm u a : ℕ) (d f : Z) → Same (times d (plus (times (nat (u * u)) (sg co cm)) (times (minus (nat u) (sg co cm)) (nat a)))) (minus (times (nat u) (plus (times (sg co cm) (times (nat u) d)) (times f (nat a)))) (times (minus (times (nat u) f) (times d (minus (nat u) (sg co cm)))) (nat a)))
whole co cm u a d f = whole_parts co cm d.p d.n f.p f.n u a

-- q v + s N for q = u c, from v c + n s and from the error of n
rest_parts : (so co : Bool) (sm cm vp vn np nn Np Nn u : ℕ) → (((pl co (u * cm)) * vp + (mi co (u * cm)) * vn) + ((pl so sm) * Np + (mi so sm) * Nn)) + ((u * ((vp * (mi co cm) + vn * (pl co cm)) + (np * (mi so sm) + nn * (pl so sm))) + 0 * ((vp * (pl co cm) + vn * (mi co cm)) + (np * (pl so sm) + nn * (mi so sm)))) + ((pl so sm) * ((u * np + 0 * nn) + Nn) + (mi so sm) * ((u * nn + 0 * np) + Np))) ≡ ((u * ((vp * (pl co cm) + vn * (mi co cm)) + (np * (pl so sm) + nn * (mi so sm))) + 0 * ((vp * (mi co cm) + vn * (pl co cm)) + (np * (mi so sm) + nn * (pl so sm)))) + ((pl so sm) * ((u * nn + 0 * np) + Np) + (mi so sm) * ((u * np + 0 * nn) + Nn))) + (((pl co (u * cm)) * vn + (mi co (u * cm)) * vp) + ((pl so sm) * Nn + (mi so sm) * Np))
rest_parts true true sm cm vp vn np nn Np Nn u = omega arith
rest_parts true false sm cm vp vn np nn Np Nn u = omega arith
rest_parts false true sm cm vp vn np nn Np Nn u = omega arith
rest_parts false false sm cm vp vn np nn Np Nn u = omega arith

pub rest : (so co : Bool) (sm cm u : ℕ) (v n N : Z) → Same (plus (times (sg co (u * cm)) v) (times (sg so sm) N)) (minus (times (nat u) (plus (times v (sg co cm)) (times n (sg so sm)))) (times (sg so sm) (minus (times (nat u) n) N)))
rest so co sm cm u v n N = rest_parts so co sm cm v.p v.n n.p n.n N.p N.n u

-- k × (q v + s N), its first number
turned_parts : (k2o k3o so qo : Bool) (k2m k3m sm qm v2p v2n v3p v3n N2p N2n N3p N3n : ℕ) → (((pl k2o k2m) * (((pl qo qm) * v3p + (mi qo qm) * v3n) + ((pl so sm) * N3p + (mi so sm) * N3n)) + (mi k2o k2m) * (((pl qo qm) * v3n + (mi qo qm) * v3p) + ((pl so sm) * N3n + (mi so sm) * N3p))) + ((pl k3o k3m) * (((pl qo qm) * v2n + (mi qo qm) * v2p) + ((pl so sm) * N2n + (mi so sm) * N2p)) + (mi k3o k3m) * (((pl qo qm) * v2p + (mi qo qm) * v2n) + ((pl so sm) * N2p + (mi so sm) * N2n)))) + (((pl qo qm) * (((pl k2o k2m) * v3n + (mi k2o k2m) * v3p) + ((pl k3o k3m) * v2p + (mi k3o k3m) * v2n)) + (mi qo qm) * (((pl k2o k2m) * v3p + (mi k2o k2m) * v3n) + ((pl k3o k3m) * v2n + (mi k3o k3m) * v2p))) + ((pl so sm) * (((pl k2o k2m) * N3n + (mi k2o k2m) * N3p) + ((pl k3o k3m) * N2p + (mi k3o k3m) * N2n)) + (mi so sm) * (((pl k2o k2m) * N3p + (mi k2o k2m) * N3n) + ((pl k3o k3m) * N2n + (mi k3o k3m) * N2p)))) ≡ (((pl qo qm) * (((pl k2o k2m) * v3p + (mi k2o k2m) * v3n) + ((pl k3o k3m) * v2n + (mi k3o k3m) * v2p)) + (mi qo qm) * (((pl k2o k2m) * v3n + (mi k2o k2m) * v3p) + ((pl k3o k3m) * v2p + (mi k3o k3m) * v2n))) + ((pl so sm) * (((pl k2o k2m) * N3p + (mi k2o k2m) * N3n) + ((pl k3o k3m) * N2n + (mi k3o k3m) * N2p)) + (mi so sm) * (((pl k2o k2m) * N3n + (mi k2o k2m) * N3p) + ((pl k3o k3m) * N2p + (mi k3o k3m) * N2n)))) + (((pl k2o k2m) * (((pl qo qm) * v3n + (mi qo qm) * v3p) + ((pl so sm) * N3n + (mi so sm) * N3p)) + (mi k2o k2m) * (((pl qo qm) * v3p + (mi qo qm) * v3n) + ((pl so sm) * N3p + (mi so sm) * N3n))) + ((pl k3o k3m) * (((pl qo qm) * v2p + (mi qo qm) * v2n) + ((pl so sm) * N2p + (mi so sm) * N2n)) + (mi k3o k3m) * (((pl qo qm) * v2n + (mi qo qm) * v2p) + ((pl so sm) * N2n + (mi so sm) * N2p))))
turned_parts true true true true k2m k3m sm qm v2p v2n v3p v3n N2p N2n N3p N3n = omega arith
turned_parts true true true false k2m k3m sm qm v2p v2n v3p v3n N2p N2n N3p N3n = omega arith
turned_parts true true false true k2m k3m sm qm v2p v2n v3p v3n N2p N2n N3p N3n = omega arith
turned_parts true true false false k2m k3m sm qm v2p v2n v3p v3n N2p N2n N3p N3n = omega arith
turned_parts true false true true k2m k3m sm qm v2p v2n v3p v3n N2p N2n N3p N3n = omega arith
turned_parts true false true false k2m k3m sm qm v2p v2n v3p v3n N2p N2n N3p N3n = omega arith
turned_parts true false false true k2m k3m sm qm v2p v2n v3p v3n N2p N2n N3p N3n = omega arith
turned_parts true false false false k2m k3m sm qm v2p v2n v3p v3n N2p N2n N3p N3n = omega arith
turned_parts false true true true k2m k3m sm qm v2p v2n v3p v3n N2p N2n N3p N3n = omega arith
turned_parts false true true false k2m k3m sm qm v2p v2n v3p v3n N2p N2n N3p N3n = omega arith
turned_parts false true false true k2m k3m sm qm v2p v2n v3p v3n N2p N2n N3p N3n = omega arith
turned_parts false true false false k2m k3m sm qm v2p v2n v3p v3n N2p N2n N3p N3n = omega arith
turned_parts false false true true k2m k3m sm qm v2p v2n v3p v3n N2p N2n N3p N3n = omega arith
turned_parts false false true false k2m k3m sm qm v2p v2n v3p v3n N2p N2n N3p N3n = omega arith
turned_parts false false false true k2m k3m sm qm v2p v2n v3p v3n N2p N2n N3p N3n = omega arith
turned_parts false false false false k2m k3m sm qm v2p v2n v3p v3n N2p N2n N3p N3n = omega arith

pub turned : (k2o k3o so qo : Bool) (k2m k3m sm qm : ℕ) (v2 v3 N2 N3 : Z) → Same (minus (times (sg k2o k2m) (plus (times (sg qo qm) v3) (times (sg so sm) N3))) (times (sg k3o k3m) (plus (times (sg qo qm) v2) (times (sg so sm) N2)))) (plus (times (sg qo qm) (minus (times (sg k2o k2m) v3) (times (sg k3o k3m) v2))) (times (sg so sm) (minus (times (sg k2o k2m) N3) (times (sg k3o k3m) N2))))
turned k2o k3o so qo k2m k3m sm qm v2 v3 N2 N3 = turned_parts k2o k3o so qo k2m k3m sm qm v2.p v2.n v3.p v3.n N2.p N2.n N3.p N3.n

-- v times its divisor q² + s² a, from q v + s N and q N - s (v a)
last_parts : (so qo : Bool) (sm qm vp vn Np Nn a : ℕ) → (vp * ((qm * qm + sm * sm * a)) + vn * 0) + (((pl qo qm) * (((pl qo qm) * vn + (mi qo qm) * vp) + ((pl so sm) * Nn + (mi so sm) * Np)) + (mi qo qm) * (((pl qo qm) * vp + (mi qo qm) * vn) + ((pl so sm) * Np + (mi so sm) * Nn))) + ((pl so sm) * (((pl qo qm) * Np + (mi qo qm) * Nn) + ((pl so sm) * (vp * 0 + vn * a) + (mi so sm) * (vp * a + vn * 0))) + (mi so sm) * (((pl qo qm) * Nn + (mi qo qm) * Np) + ((pl so sm) * (vp * a + vn * 0) + (mi so sm) * (vp * 0 + vn * a))))) ≡ (((pl qo qm) * (((pl qo qm) * vp + (mi qo qm) * vn) + ((pl so sm) * Np + (mi so sm) * Nn)) + (mi qo qm) * (((pl qo qm) * vn + (mi qo qm) * vp) + ((pl so sm) * Nn + (mi so sm) * Np))) + ((pl so sm) * (((pl qo qm) * Nn + (mi qo qm) * Np) + ((pl so sm) * (vp * a + vn * 0) + (mi so sm) * (vp * 0 + vn * a))) + (mi so sm) * (((pl qo qm) * Np + (mi qo qm) * Nn) + ((pl so sm) * (vp * 0 + vn * a) + (mi so sm) * (vp * a + vn * 0))))) + (vp * 0 + vn * ((qm * qm + sm * sm * a)))
last_parts true true sm qm vp vn Np Nn a = omega arith
last_parts true false sm qm vp vn Np Nn a = omega arith
last_parts false true sm qm vp vn Np Nn a = omega arith
last_parts false false sm qm vp vn Np Nn a = omega arith

pub last : (so qo : Bool) (sm qm a : ℕ) (v N : Z) → Same (times v (nat (qm * qm + sm * sm * a))) (minus (times (sg qo qm) (plus (times (sg qo qm) v) (times (sg so sm) N))) (times (sg so sm) (minus (times (sg qo qm) N) (times (sg so sm) (times v (nat a))))))
last so qo sm qm a v N = last_parts so qo sm qm v.p v.n N.p N.n a

-- a factor over a difference
spread_parts : (so : Bool) (sm a1p a1n a2p a2n : ℕ) → ((pl so sm) * (a1p + a2n) + (mi so sm) * (a1n + a2p)) + (((pl so sm) * a1n + (mi so sm) * a1p) + ((pl so sm) * a2p + (mi so sm) * a2n)) ≡ (((pl so sm) * a1p + (mi so sm) * a1n) + ((pl so sm) * a2n + (mi so sm) * a2p)) + ((pl so sm) * (a1n + a2p) + (mi so sm) * (a1p + a2n))
spread_parts true sm a1p a1n a2p a2n = omega arith
spread_parts false sm a1p a1n a2p a2n = omega arith

pub spread : (so : Bool) (sm : ℕ) (a1 a2 : Z) → Same (times (sg so sm) (minus a1 a2)) (minus (times (sg so sm) a1) (times (sg so sm) a2))
spread so sm a1 a2 = spread_parts so sm a1.p a1.n a2.p a2.n

-- ---- sums
-- three equations, added up
gather_parts : (gp gn x1p x1n x2p x2n x3p x3n a1p a1n a2p a2n a3p a3n b1p b1n b2p b2n b3p b3n : ℕ) → ((x1p + x2p) + x3p) + gn ≡ gp + ((x1n + x2n) + x3n) → x1p + (a1n + b1n) ≡ (a1p + b1p) + x1n → x2p + (a2n + b2n) ≡ (a2p + b2p) + x2n → x3p + (a3n + b3n) ≡ (a3p + b3p) + x3n → ((b1p + b2p) + b3p) + 0 ≡ 0 + ((b1n + b2n) + b3n) → gp + ((a1n + a2n) + a3n) ≡ ((a1p + a2p) + a3p) + gn
gather_parts gp gn x1p x1n x2p x2n x3p x3n a1p a1n a2p a2n a3p a3n b1p b1n b2p b2n b3p b3n h0 h1 h2 h3 h4 = omega arith

pub gather : (g x1 x2 x3 a1 a2 a3 b1 b2 b3 : Z) → Same (plus (plus x1 x2) x3) g → Same x1 (plus a1 b1) → Same x2 (plus a2 b2) → Same x3 (plus a3 b3) → Same (plus (plus b1 b2) b3) (nat 0) → Same g (plus (plus a1 a2) a3)
gather g x1 x2 x3 a1 a2 a3 b1 b2 b3 h0 h1 h2 h3 h4 = gather_parts g.p g.n x1.p x1.n x2.p x2.n x3.p x3.n a1.p a1.n a2.p a2.n a3.p a3.n b1.p b1.n b2.p b2.n b3.p b3.n h0 h1 h2 h3 h4

collect_parts : (x1p x1n x2p x2n x3p x3n a1p a1n a2p a2n a3p a3n b1p b1n b2p b2n b3p b3n e1p e1n e2p e2n e3p e3n ap an bp bn ep en : ℕ) → x1p + ((a1n + b1n) + e1n) ≡ ((a1p + b1p) + e1p) + x1n → x2p + ((a2n + b2n) + e2n) ≡ ((a2p + b2p) + e2p) + x2n → x3p + ((a3n + b3n) + e3n) ≡ ((a3p + b3p) + e3p) + x3n → ((a1p + a2p) + a3p) + an ≡ ap + ((a1n + a2n) + a3n) → ((b1p + b2p) + b3p) + bn ≡ bp + ((b1n + b2n) + b3n) → ((e1p + e2p) + e3p) + en ≡ ep + ((e1n + e2n) + e3n) → ((ap + bp) + ep) + ((x1n + x2n) + x3n) ≡ ((x1p + x2p) + x3p) + ((an + bn) + en)
collect_parts x1p x1n x2p x2n x3p x3n a1p a1n a2p a2n a3p a3n b1p b1n b2p b2n b3p b3n e1p e1n e2p e2n e3p e3n ap an bp bn ep en h0 h1 h2 h3 h4 h5 = omega arith

pub collect : (x1 x2 x3 a1 a2 a3 b1 b2 b3 e1 e2 e3 a b e : Z) → Same x1 (plus (plus a1 b1) e1) → Same x2 (plus (plus a2 b2) e2) → Same x3 (plus (plus a3 b3) e3) → Same (plus (plus a1 a2) a3) a → Same (plus (plus b1 b2) b3) b → Same (plus (plus e1 e2) e3) e → Same (plus (plus a b) e) (plus (plus x1 x2) x3)
collect x1 x2 x3 a1 a2 a3 b1 b2 b3 e1 e2 e3 a b e h0 h1 h2 h3 h4 h5 = collect_parts x1.p x1.n x2.p x2.n x3.p x3.n a1.p a1.n a2.p a2.n a3.p a3.n b1.p b1.n b2.p b2.n b3.p b3.n e1.p e1.n e2.p e2.n e3.p e3.n a.p a.n b.p b.n e.p e.n h0 h1 h2 h3 h4 h5

-- a sum of three, turned round
around_parts : (ap an bp bn cp cn dp dn : ℕ) → ((ap + bp) + cp) + dn ≡ dp + ((an + bn) + cn) → ((bp + cp) + ap) + dn ≡ dp + ((bn + cn) + an)
around_parts ap an bp bn cp cn dp dn h0 = omega arith

pub around : (a b c d : Z) → Same (plus (plus a b) c) d → Same (plus (plus b c) a) d
around a b c d h0 = around_parts a.p a.n b.p b.n c.p c.n d.p d.n h0

trans_parts : (ap an bp bn cp cn : ℕ) → ap + bn ≡ bp + an → bp + cn ≡ cp + bn → ap + cn ≡ cp + an
trans_parts ap an bp bn cp cn h0 h1 = omega arith

pub trans : (a b c : Z) → Same a b → Same b c → Same a c
trans a b c h0 h1 = trans_parts a.p a.n b.p b.n c.p c.n h0 h1

back_parts : (ap an bp bn : ℕ) → ap + bn ≡ bp + an → bp + an ≡ ap + bn
back_parts ap an bp bn h0 = omega arith

pub back : (a b : Z) → Same a b → Same b a
back a b h0 = back_parts a.p a.n b.p b.n h0

sum_same_parts : (ap an bp bn cp cn xp xn yp yn zp zn : ℕ) → ap + xn ≡ xp + an → bp + yn ≡ yp + bn → cp + zn ≡ zp + cn → ((ap + bp) + cp) + ((xn + yn) + zn) ≡ ((xp + yp) + zp) + ((an + bn) + cn)
sum_same_parts ap an bp bn cp cn xp xn yp yn zp zn h0 h1 h2 = omega arith

pub sum_same : (a b c x y z : Z) → Same a x → Same b y → Same c z → Same (plus (plus a b) c) (plus (plus x y) z)
sum_same a b c x y z h0 h1 h2 = sum_same_parts a.p a.n b.p b.n c.p c.n x.p x.n y.p y.n z.p z.n h0 h1 h2

-- four equations, one after another
keep_parts : (tp tn qp qn mp mn kp kn xp xn zp zn yp yn : ℕ) → tp + (qn + mn) ≡ (qp + mp) + tn → mp + kn ≡ kp + mn → kp + (xn + zp) ≡ (xp + zn) + kn → zp + yn ≡ yp + zn → (qp + yn) + (tn + xp) ≡ (tp + xn) + (qn + yp)
keep_parts tp tn qp qn mp mn kp kn xp xn zp zn yp yn h0 h1 h2 h3 = omega arith

pub keep : (t q m k x z y : Z) → Same t (plus q m) → Same m k → Same k (minus x z) → Same z y → Same (minus q y) (minus t x)
keep t q m k x z y h0 h1 h2 h3 = keep_parts t.p t.n q.p q.n m.p m.n k.p k.n x.p x.n z.p z.n y.p y.n h0 h1 h2 h3

-- ---- equal numbers
pub same_times : (a b c : Z) → Same b c → Same (times a b) (times a c)
same_times a b c h = go a.p a.n b.p b.n c.p c.n (ap (λ (z : ℕ). a.p * z) h) (ap (λ (z : ℕ). a.n * z) h)
  where
    go : (ap an bp bn cp cn : ℕ) → ap * (bp + cn) ≡ ap * (cp + bn) → an * (bp + cn) ≡ an * (cp + bn) → ap * bp + an * bn + (ap * cn + an * cp) ≡ ap * cp + an * cn + (ap * bn + an * bp)
    go ap an bp bn cp cn x y = omega arith

pub square : (o : Bool) (m : ℕ) → Same (times (sg o m) (sg o m)) (nat (m * m))
square true m = omega arith
square false m = omega arith

-- ---- sizes
pub most_plus : (a b : Z) (e f : ℕ) → Most a e → Most b f → Most (plus a b) (e + f)
most_plus a b e f h k = go a.p a.n b.p b.n h.0 h.1 k.0 k.1
  where
    go : (ap an bp bn : ℕ) → ap ≤ an + e → an ≤ ap + e → bp ≤ bn + f → bn ≤ bp + f → (ap + bp ≤ an + bn + (e + f)) × (an + bn ≤ ap + bp + (e + f))
    go ap an bp bn x y z w = (omega arith, omega arith)

pub most_minus : (a b : Z) (e f : ℕ) → Most a e → Most b f → Most (minus a b) (e + f)
most_minus a b e f h k = go a.p a.n b.p b.n h.0 h.1 k.0 k.1
  where
    go : (ap an bp bn : ℕ) → ap ≤ an + e → an ≤ ap + e → bp ≤ bn + f → bn ≤ bp + f → (ap + bn ≤ an + bp + (e + f)) × (an + bp ≤ ap + bn + (e + f))
    go ap an bp bn x y z w = (omega arith, omega arith)

pub most_from : (x r : Z) (e f : ℕ) → Most (minus x r) e → Most x f → Most r (e + f)
most_from x r e f h k = go x.p x.n r.p r.n h.0 h.1 k.0 k.1
  where
    go : (xp xn rp rn : ℕ) → xp + rn ≤ xn + rp + e → xn + rp ≤ xp + rn + e → xp ≤ xn + f → xn ≤ xp + f → (rp ≤ rn + (e + f)) × (rn ≤ rp + (e + f))
    go xp xn rp rn x y z w = (omega arith, omega arith)

pub most_back : (x r : Z) (e f : ℕ) → Most (minus x r) e → Most r f → Most x (e + f)
most_back x r e f h k = go x.p x.n r.p r.n h.0 h.1 k.0 k.1
  where
    go : (xp xn rp rn : ℕ) → xp + rn ≤ xn + rp + e → xn + rp ≤ xp + rn + e → rp ≤ rn + f → rn ≤ rp + f → (xp ≤ xn + (e + f)) × (xn ≤ xp + (e + f))
    go xp xn rp rn x y z w = (omega arith, omega arith)

pub most_drop : (a b : Z) (e f : ℕ) → Most (plus a b) e → Most b f → Most a (e + f)
most_drop a b e f h k = go a.p a.n b.p b.n h.0 h.1 k.0 k.1
  where
    go : (ap an bp bn : ℕ) → ap + bp ≤ an + bn + e → an + bn ≤ ap + bp + e → bp ≤ bn + f → bn ≤ bp + f → (ap ≤ an + (e + f)) × (an ≤ ap + (e + f))
    go ap an bp bn x y z w = (omega arith, omega arith)

pub most_same : (a b : Z) (e : ℕ) → Same a b → Most b e → Most a e
most_same a b e h k = go a.p a.n b.p b.n h k.0 k.1
  where
    go : (ap an bp bn : ℕ) → ap + bn ≡ bp + an → bp ≤ bn + e → bn ≤ bp + e → (ap ≤ an + e) × (an ≤ ap + e)
    go ap an bp bn h x y = (omega arith, omega arith)

pub most_raise : (a : Z) (e f : ℕ) → e ≤ f → Most a e → Most a f
most_raise a e f h k = go a.p a.n k.0 k.1
  where
    go : (ap an : ℕ) → ap ≤ an + e → an ≤ ap + e → (ap ≤ an + f) × (an ≤ ap + f)
    go ap an x y = (omega arith, omega arith)

pub most_nat : (a : ℕ) → Most (nat a) a
most_nat a = (omega arith, omega arith)

pub most_sg : (o : Bool) (m e : ℕ) → m ≤ e → Most (sg o m) e
most_sg true m e h = (omega arith, omega arith)
most_sg false m e h = (omega arith, omega arith)

-- a as a size with a sign
record Signed (a : Z) : Type 0 where
  o : Bool
  m : ℕ
  is : Same a (sg o m)

signed_of : (a : Z) → Signed a
signed_of a = go (le_or_lt a.p a.n)
  where
    up : (p n : ℕ) → p ≤ n → p + (n - p) ≡ 0 + n
    up p n h = omega arith

    down : (p n : ℕ) → n < p → p + 0 ≡ p - n + n
    down p n h = omega arith

    go : (a.p ≤ a.n) ⊎ (a.n < a.p) → Signed a
    go (inl h) = record { o = true; m = a.n - a.p; is = up a.p a.n h }
    go (inr h) = record { o = false; m = a.p - a.n; is = down a.p a.n h }

pub size_most : (o : Bool) (m e : ℕ) → Most (sg o m) e → m ≤ e
size_most true m e h = go h.1
  where
    go : m ≤ 0 + e → m ≤ e
    go x = omega arith
size_most false m e h = go h.0
  where
    go : m ≤ 0 + e → m ≤ e
    go x = omega arith

times_size : (o r : Bool) (m l e : ℕ) → m * l ≤ e → Most (times (sg o m) (sg r l)) e
times_size true true m l e h = (omega arith, omega arith)
times_size true false m l e h = (omega arith, omega arith)
times_size false true m l e h = (omega arith, omega arith)
times_size false false m l e h = (omega arith, omega arith)

same_both : (a b c d : Z) → Same a c → Same b d → Same (times a b) (times c d)
same_both a b c d h k = trans (times a b) (times a d) (times c d) (same_times a b d k) (go a.p a.n c.p c.n d.p d.n (ap (λ (z : ℕ). z * d.p) h) (ap (λ (z : ℕ). z * d.n) h))
  where
    go : (ap an bp bn cp cn : ℕ) → (ap + bn) * cp ≡ (bp + an) * cp → (ap + bn) * cn ≡ (bp + an) * cn → ap * cp + an * cn + (bp * cn + bn * cp) ≡ bp * cp + bn * cn + (ap * cn + an * cp)
    go ap an bp bn cp cn x y = omega arith

pub most_times : (a b : Z) (e f : ℕ) → Most a e → Most b f → Most (times a b) (e * f)
most_times a b e f h k =
    let A = signed_of a in
    let B = signed_of b in
    most_same (times a b) (times (sg A.o A.m) (sg B.o B.m)) (e * f) (same_both a b _ _ A.is B.is)
    (times_size A.o B.o A.m B.m (e * f) (mul-le-mul (size_most A.o A.m e (most_same _ a e (back a _ A.is) h)) (size_most B.o B.m f (most_same _ b f (back b _ B.is) k))))

-- a divisor that is at least c / 4
pub most_over : (a q : Z) (c e f : ℕ) → 0 < c → c + 4 * q.n ≤ 4 * q.p → 4 * e ≤ f * c → Most (times a q) e → Most a f
most_over a q c e f P h l k =
    let A = signed_of a in
    most_same a (sg A.o A.m) f A.is
    (most_sg A.o A.m f
    (le_of_mul-le-mul_right {k = c} (le_trans (at A.o A.m q.p q.n c e h (most_same _ (times a q) e (back (times a q) _ (same_both a q _ q A.is refl)) k)) l) P))
  where
    hint : (m qp qn c : ℕ) → c + 4 * qn ≤ 4 * qp → m * (c + 4 * qn) ≤ m * (4 * qp)
    hint m qp qn c h = mul-le-mul_left m h

    at : (o : Bool) (m qp qn c e : ℕ) → c + 4 * qn ≤ 4 * qp → Most (times (sg o m) (record { p = qp; n = qn })) e → m * c ≤ 4 * e
    at true m qp qn c e h k = go (hint m qp qn c h) k.1
      where
        go : m * (c + 4 * qn) ≤ m * (4 * qp) → 0 * qn + m * qp ≤ 0 * qp + m * qn + e → m * c ≤ 4 * e
        go x y = omega arith
    at false m qp qn c e h k = go (hint m qp qn c h) k.0
      where
        go : m * (c + 4 * qn) ≤ m * (4 * qp) → m * qp + 0 * qn ≤ m * qn + 0 * qp + e → m * c ≤ 4 * e
        go x y = omega arith
