-- The rounded steps of a turn: each within 8 ω of the exact one, for a vector of numbers up to 200. ω is 2 ^ -40. So
-- what a turn makes small was small before (`before`), and what it makes is bounded (`turned`).
use mathlib.Core.Path.{◌≡◌, refl, sym, ap, ◌∙◌, subst}
use mathlib.Core.Bool.{Bool, true, false}
use mathlib.Core.Logic.{◌⊎◌, inl, inr}
use Prim.Native.Nat.{ℕ, ◌+◌, ◌*◌, ◌^◌, ◌≤◌, ◌<◌}
use native.Mathlib.Nat.{le_of_eq, mul-le-mul, mul-le-mul_right, mul-pos, le_of_mul-le-mul_right, mul-lt-mul_of_pos_right}
use native.Mathlib.Omega.{arith}
use lib.Dec.{lit≤}
use lib.Ieee.{Float, binary64, add, sub, mul, unlike}
use Rattle.float.specs.Units.{U}
use Rattle.float.specs.Helpers.{one}
use Rattle.float.proofs.UpTo.{UpTo, one_is}
use Rattle.float.proofs.Rounding.{W, U-is, U_pos, mul_rounded}
use Rattle.float.proofs.Signed.{pl, mi}
use Rattle.float.proofs.SignedError.{add_near, sub_near}
use Rattle.geometry.specs.declared.Vec3.{Vec3}
use Rattle.geometry.specs.declared.Turn.{Turn}
use Rattle.geometry.specs.Vector as G
use Rattle.geometry.specs.Turn.{rotate_vector}
use Rattle.geometry.proofs.Differences.{Z, nat, sg, plus, minus, times, Same, Most, most_plus, most_minus, most_same, most_raise, most_nat, most_sg, most_times, size_most}
use Rattle.geometry.proofs.TurnEstimate.{sum3, cross, Steps, first, second, third}
use Rattle.geometry.proofs.UnitSize.{UnitSized}
use Rattle.geometry.proofs.TurnPair.{TurnSized}

-- 2 ^ -40
unfoldable pub ω : ℕ
ω = 2 ^ 1034

ω_is : ω ≡ 2 ^ 17 * W
unfolding ω W
ω_is = refl

pub U-ω : U ≡ 2 ^ 40 * ω
unfolding ω U
U-ω = refl

abbrev pub value : {b : ℕ} {x : Float} → UpTo b x → Z
value X = sg X.s X.v

-- ---- products
product_room : (a b B C u w : ℕ) → u ≡ 2 ^ 57 * w → 0 < u → B * C < 2 ^ 14 → a ≤ B * u → b ≤ C * u → a * b < 2 ^ 71 * w * u
product_room a b B C u w e P h x y = go (mul-le-mul x y) (mul-lt-mul_of_pos_right h (mul-pos P P)) (ap (λ (z : ℕ). z * u) e)
  where
    go : a * b ≤ B * u * (C * u) → B * C * (u * u) < 2 ^ 14 * (u * u) → u * u ≡ 2 ^ 57 * w * u → a * b < 2 ^ 71 * w * u
    go p q r = at (B * C * (u * u)) (flat p) q r
      where
        flat : a * b ≤ B * u * (C * u) → a * b ≤ B * C * (u * u)
        flat p = omega arith

        at : (z : ℕ) → a * b ≤ z → z < 2 ^ 14 * (u * u) → u * u ≡ 2 ^ 57 * w * u → a * b < 2 ^ 71 * w * u
        at z p q r = omega arith

product_most : (a b v B C u o : ℕ) → 0 < u → o ≤ u → a ≤ B * u → b ≤ C * u → v * u ≤ a * b + o * u → v ≤ (B * C + 1) * u
product_most a b v B C u o P h x y n = le_of_mul-le-mul_right {k = u} (go (mul-le-mul x y) (mul-le-mul_right u h)) P
  where
    go : a * b ≤ B * u * (C * u) → o * u ≤ u * u → v * u ≤ (B * C + 1) * u * u
    go p q = omega arith

product_near : (s t : Bool) (a b v u e : ℕ) → v * u ≤ a * b + e * u → a * b ≤ v * u + e * u → Most (minus (times (nat u) (sg (unlike s t) v)) (times (sg s a) (sg t b))) (e * u)
product_near true true a b v u e h l = (omega arith, omega arith)
product_near true false a b v u e h l = (omega arith, omega arith)
product_near false true a b v u e h l = (omega arith, omega arith)
product_near false false a b v u e h l = (omega arith, omega arith)

ω_few : (u o : ℕ) → u ≡ 2 ^ 40 * o → o ≤ u
ω_few u o e = omega arith

record Product (B C : ℕ) (x y : Float) (X : UpTo B x) (Y : UpTo C y) : Type 0 where
  size : UpTo (B * C + 1) (mul binary64 x y)
  near : Most (minus (times (nat U) (value size)) (times (value X) (value Y))) (ω * U)

product : (B C : ℕ) (x y : Float) (X : UpTo B x) (Y : UpTo C y) → B * C < 2 ^ 14 → Product B C x y X Y
product B C x y X Y h =
    let r = mul_rounded x y X.s Y.s X.v Y.v 17 (lit≤ tt) X.is Y.is (product_room X.v Y.v B C U W U-is U_pos h X.most Y.most) in
    let hi : r.v * U ≤ X.v * Y.v + ω * U = subst (λ (z : ℕ). r.v * U ≤ X.v * Y.v + z * U) (sym ω_is) r.near.0 in
    let lo : X.v * Y.v ≤ r.v * U + ω * U = subst (λ (z : ℕ). X.v * Y.v ≤ r.v * U + z * U) (sym ω_is) r.near.1 in
    record {
      size = record { s = unlike X.s Y.s; v = r.v; is = r.is; most = product_most X.v Y.v r.v B C U ω U_pos (ω_few U ω U-ω) X.most Y.most hi };
      near = product_near X.s Y.s X.v Y.v r.v U ω hi lo;
    }

-- ---- sums and differences
sum_room : (s t : Bool) (a b B C u R : ℕ) → R ≡ 2 ^ 14 * u → 0 < u → B + C < 2 ^ 14 → a ≤ B * u → b ≤ C * u → (pl s a + pl t b < mi s a + mi t b + R) × (mi s a + mi t b < pl s a + pl t b + R)
sum_room s t a b B C u R e P h x y = go s t (room (mul-lt-mul_of_pos_right h P))
  where
    room : (B + C) * u < 2 ^ 14 * u → a + b < R
    room l = omega arith

    go : (s t : Bool) → a + b < R → (pl s a + pl t b < mi s a + mi t b + R) × (mi s a + mi t b < pl s a + pl t b + R)
    go true true l = (omega arith, omega arith)
    go true false l = (omega arith, omega arith)
    go false true l = (omega arith, omega arith)
    go false false l = (omega arith, omega arith)

size_of : (r : Bool) (v e B u : ℕ) (z : Z) → Most (minus (sg r v) z) e → Most z (B * u) → e ≤ u → v ≤ (B + 1) * u
size_of true v e B u z h k l = go z.p z.n h.1 k.1
  where
    go : (p n : ℕ) → v + p ≤ 0 + n + e → n ≤ p + B * u → v ≤ (B + 1) * u
    go p n a b = omega arith
size_of false v e B u z h k l = go z.p z.n h.0 k.0
  where
    go : (p n : ℕ) → v + n ≤ 0 + p + e → p ≤ n + B * u → v ≤ (B + 1) * u
    go p n a b = omega arith

ω_room : 2 ^ (54 + 1034) ≡ 2 ^ 14 * U
unfolding U
ω_room = refl

near_most : (p n q m e : ℕ) → p + m ≤ q + n + e → q + n ≤ p + m + e → (q + n ≤ m + p + e) × (m + p ≤ q + n + e)
near_most p n q m e a b = (omega arith, omega arith)

added : (a b c : ℕ) → (a + b) * c ≡ a * c + b * c
added a b c = omega arith

record Sum (B C : ℕ) (x y : Float) (X : UpTo B x) (Y : UpTo C y) : Type 0 where
  size : UpTo (B + C + 1) (add binary64 x y)
  near : Most (minus (value size) (plus (value X) (value Y))) ω

sum : (B C : ℕ) (x y : Float) (X : UpTo B x) (Y : UpTo C y) → B + C < 2 ^ 14 → Sum B C x y X Y
unfolding ω
sum B C x y X Y h =
    let R = sum_room X.s Y.s X.v Y.v B C U (2 ^ (54 + 1034)) ω_room U_pos h X.most Y.most in
    let r = add_near x y X.s Y.s X.v Y.v 1034 X.is Y.is (lit≤ tt) R.0 R.1 in
    let n : Most (minus (sg r.s r.v) (plus (value X) (value Y))) ω = near_most (pl X.s X.v + pl Y.s Y.v) (mi X.s X.v + mi Y.s Y.v) (pl r.s r.v) (mi r.s r.v) (2 ^ 1034) r.low r.high in
    record {
      size = record {
        s = r.s;
        v = r.v;
        is = r.is;
        most = size_of r.s r.v ω (B + C) U (plus (value X) (value Y)) n
            (most_raise _ (B * U + C * U) ((B + C) * U) (le_of_eq (sym (added B C U))) (most_plus (value X) (value Y) (B * U) (C * U) (most_sg X.s X.v (B * U) X.most) (most_sg Y.s Y.v (C * U) Y.most))) (ω_few U ω U-ω);
      };
      near = n;
    }

sub_room : (s t : Bool) (a b B C u R : ℕ) → R ≡ 2 ^ 14 * u → 0 < u → B + C < 2 ^ 14 → a ≤ B * u → b ≤ C * u → (pl s a + mi t b < mi s a + pl t b + R) × (mi s a + pl t b < pl s a + mi t b + R)
sub_room s t a b B C u R e P h x y = go s t (room (mul-lt-mul_of_pos_right h P))
  where
    room : (B + C) * u < 2 ^ 14 * u → a + b < R
    room l = omega arith

    go : (s t : Bool) → a + b < R → (pl s a + mi t b < mi s a + pl t b + R) × (mi s a + pl t b < pl s a + mi t b + R)
    go true true l = (omega arith, omega arith)
    go true false l = (omega arith, omega arith)
    go false true l = (omega arith, omega arith)
    go false false l = (omega arith, omega arith)

record Difference (B C : ℕ) (x y : Float) (X : UpTo B x) (Y : UpTo C y) : Type 0 where
  size : UpTo (B + C + 1) (sub binary64 x y)
  near : Most (minus (value size) (minus (value X) (value Y))) ω

difference : (B C : ℕ) (x y : Float) (X : UpTo B x) (Y : UpTo C y) → B + C < 2 ^ 14 → Difference B C x y X Y
unfolding ω
difference B C x y X Y h =
    let R = sub_room X.s Y.s X.v Y.v B C U (2 ^ (54 + 1034)) ω_room U_pos h X.most Y.most in
    let r = sub_near x y X.s Y.s X.v Y.v 1034 X.is Y.is (lit≤ tt) R.0 R.1 in
    let n : Most (minus (sg r.s r.v) (minus (value X) (value Y))) ω = near_most (pl X.s X.v + mi Y.s Y.v) (mi X.s X.v + pl Y.s Y.v) (pl r.s r.v) (mi r.s r.v) (2 ^ 1034) r.low r.high in
    record {
      size = record {
        s = r.s;
        v = r.v;
        is = r.is;
        most = size_of r.s r.v ω (B + C) U (minus (value X) (value Y)) n
            (most_raise _ (B * U + C * U) ((B + C) * U) (le_of_eq (sym (added B C U))) (most_minus (value X) (value Y) (B * U) (C * U) (most_sg X.s X.v (B * U) X.most) (most_sg Y.s Y.v (C * U) Y.most))) (ω_few U ω U-ω);
      };
      near = n;
    }

-- ---- how far off, exactly
difference_off_parts : (np nn pp pn qp qn Ap An Bp Bn u : ℕ) → ((u * np + 0 * nn) + (An + Bp)) + ((u * (nn + (pp + qn)) + 0 * (np + (pn + qp))) + (((u * pn + 0 * pp) + Ap) + ((u * qp + 0 * qn) + Bn))) ≡ ((u * (np + (pn + qp)) + 0 * (nn + (pp + qn))) + (((u * pp + 0 * pn) + An) + ((u * qn + 0 * qp) + Bp))) + ((u * nn + 0 * np) + (Ap + Bn))
difference_off_parts np nn pp pn qp qn Ap An Bp Bn u = omega arith

pub difference_off : (u : ℕ) (n p q A B : Z) → Same (minus (times (nat u) n) (minus A B)) (plus (times (nat u) (minus n (minus p q))) (minus (minus (times (nat u) p) A) (minus (times (nat u) q) B)))
difference_off u n p q A B = difference_off_parts n.p n.n p.p p.n q.p q.n A.p A.n B.p B.n u

sum_off_parts : (dp dn ep en pp pn qp qn rp rn Ap An Bp Bn Cp Cn u : ℕ) → ((u * dp + 0 * dn) + ((An + Bn) + Cn)) + (((u * (dn + (ep + rp)) + 0 * (dp + (en + rn))) + (u * (en + (pp + qp)) + 0 * (ep + (pn + qn)))) + ((((u * pn + 0 * pp) + Ap) + ((u * qn + 0 * qp) + Bp)) + ((u * rn + 0 * rp) + Cp))) ≡ (((u * (dp + (en + rn)) + 0 * (dn + (ep + rp))) + (u * (ep + (pn + qn)) + 0 * (en + (pp + qp)))) + ((((u * pp + 0 * pn) + An) + ((u * qp + 0 * qn) + Bn)) + ((u * rp + 0 * rn) + Cn))) + ((u * dn + 0 * dp) + ((Ap + Bp) + Cp))
sum_off_parts dp dn ep en pp pn qp qn rp rn Ap An Bp Bn Cp Cn u = omega arith

pub sum_off : (u : ℕ) (d e p q r A B C : Z) → Same (minus (times (nat u) d) (plus (plus A B) C)) (plus (plus (times (nat u) (minus d (plus e r))) (times (nat u) (minus e (plus p q)))) (plus (plus (minus (times (nat u) p) A) (minus (times (nat u) q) B)) (minus (times (nat u) r) C)))
sum_off u d e p q r A B C = sum_off_parts d.p d.n e.p e.n p.p p.n q.p q.n r.p r.n A.p A.n B.p B.n C.p C.n u

product_off_parts : (fp fn dp dn gp gn cp cn u : ℕ) → ((u * fp + 0 * fn) + (dp * (0 + cp) + dn * (u + cn))) + (((u * fn + 0 * fp) + (dp * gp + dn * gn)) + (dp * (gn + (u + cn)) + dn * (gp + (0 + cp)))) ≡ (((u * fp + 0 * fn) + (dp * gn + dn * gp)) + (dp * (gp + (0 + cp)) + dn * (gn + (u + cn)))) + ((u * fn + 0 * fp) + (dp * (u + cn) + dn * (0 + cp)))
product_off_parts fp fn dp dn gp gn cp cn u = omega arith

pub product_off : (u : ℕ) (f d g c : Z) → Same (minus (times (nat u) f) (times d (minus (nat u) c))) (plus (minus (times (nat u) f) (times d g)) (times d (minus g (minus (nat u) c))))
product_off u f d g c = product_off_parts f.p f.n d.p d.n g.p g.n c.p c.n u

-- ---- one less the cosine, to a finer error
unfoldable κ : ℕ
κ = 2 ^ 1022

κ_ω : 4096 * κ ≡ ω
unfolding κ ω
κ_ω = refl

κ_room : 2 ^ (54 + 1022) ≡ 4 * U
unfolding U
κ_room = refl

rest_room : (t : Bool) (b u R : ℕ) → R ≡ 4 * u → 0 < u → b ≤ 2 * u → (u + mi t b < 0 + pl t b + R) × (0 + pl t b < u + mi t b + R)
rest_room true b u R e P h = (omega arith, omega arith)
rest_room false b u R e P h = (omega arith, omega arith)

record Rest (c : Float) (C : UpTo 2 c) : Type 0 where
  size : UpTo 4 (sub binary64 one c)
  near : Most (minus (value size) (minus (nat U) (value C))) κ

κ_few : (u k : ℕ) → u ≡ 2 ^ 40 * (4096 * k) → k ≤ u
κ_few u k e = omega arith

rest : (c : Float) (C : UpTo 2 c) → Rest c C
unfolding κ
rest c C =
    let R = rest_room C.s C.v U (2 ^ (54 + 1022)) κ_room U_pos C.most in
    let r = sub_near one c false C.s U C.v 1022 one_is C.is (lit≤ tt) R.0 R.1 in
    let n : Most (minus (sg r.s r.v) (minus (nat U) (value C))) κ = near_most (U + mi C.s C.v) (0 + pl C.s C.v) (pl r.s r.v) (mi r.s r.v) (2 ^ 1022) r.low r.high in
    record {
      size = record {
        s = r.s;
        v = r.v;
        is = r.is;
        most = size_of r.s r.v κ 3 U (minus (nat U) (value C)) n (most_raise _ (U + 2 * U) (3 * U) (three U) (most_minus (nat U) (value C) U (2 * U) (most_nat U) (most_sg C.s C.v (2 * U) C.most))) (κ_few U κ (U-ω ∙ ap (λ (z : ℕ). 2 ^ 40 * z) (sym κ_ω)));
      };
      near = n;
    }
  where
    three : (u : ℕ) → u + 2 * u ≤ 3 * u
    three u = omega arith

-- ---- a difference and a sum of products
record Apart (B : ℕ) (a b c d : Float) (P : UpTo 2 a) (Q : UpTo B b) (R : UpTo 2 c) (S : UpTo B d) : Type 0 where
  size : UpTo (2 * B + 1 + (2 * B + 1) + 1) (sub binary64 (mul binary64 a b) (mul binary64 c d))
  near : Most (minus (times (nat U) (value size)) (cross (value P) (value Q) (value R) (value S))) (8 * ω * U)

apart : (B : ℕ) → B ≤ 200 → (a b c d : Float) (P : UpTo 2 a) (Q : UpTo B b) (R : UpTo 2 c) (S : UpTo B d) → Apart B a b c d P Q R S
apart B few a b c d P Q R S =
    let x = product 2 B a b P Q (omega arith) in
    let y = product 2 B c d R S (omega arith) in
    let n = difference (2 * B + 1) (2 * B + 1) _ _ x.size y.size (omega arith) in
    record {
      size = n.size;
      near =
          most_raise _ (U * ω + (ω * U + ω * U)) (8 * ω * U) (enough ω U)
          (most_same _ _ _ (difference_off U (value n.size) (value x.size) (value y.size) (times (value P) (value Q)) (times (value R) (value S)))
          (most_plus _ _ (U * ω) (ω * U + ω * U) (most_times (nat U) _ U ω (most_nat U) n.near) (most_minus _ _ (ω * U) (ω * U) x.near y.near)));
    }
  where
    enough : (o u : ℕ) → u * o + (o * u + o * u) ≤ 8 * o * u
    enough o u = omega arith

record Three (A B C D E F : ℕ) (a b c d e f : Float) (P : UpTo A a) (Q : UpTo B b) (R : UpTo C c) (S : UpTo D d) (T' : UpTo E e) (H : UpTo F f) : Type 0 where
  size : UpTo (A * B + 1 + (C * D + 1) + 1 + (E * F + 1) + 1) (add binary64 (add binary64 (mul binary64 a b) (mul binary64 c d)) (mul binary64 e f))
  near : Most (minus (times (nat U) (value size)) (sum3 (times (value P) (value Q)) (times (value R) (value S)) (times (value T') (value H)))) (8 * ω * U)

three : (A B C D E F : ℕ) (a b c d e f : Float) (P : UpTo A a) (Q : UpTo B b) (R : UpTo C c) (S : UpTo D d) (T' : UpTo E e) (H : UpTo F f)
    → A * B + 1 + (C * D + 1) + 1 + (E * F + 1) < 2 ^ 14 → Three A B C D E F a b c d e f P Q R S T' H
three A B C D E F a b c d e f P Q R S T' H few =
    let x = product A B a b P Q (one_of (A * B) (C * D) (E * F) few) in
    let y = product C D c d R S (two_of (A * B) (C * D) (E * F) few) in
    let z = product E F e f T' H (three_of (A * B) (C * D) (E * F) few) in
    let m = sum (A * B + 1) (C * D + 1) _ _ x.size y.size (sum_of (A * B) (C * D) (E * F) few) in
    let n = sum (A * B + 1 + (C * D + 1) + 1) (E * F + 1) _ _ m.size z.size few in
    record {
      size = n.size;
      near =
          most_raise _ (U * ω + U * ω + (ω * U + ω * U + ω * U)) (8 * ω * U) (enough ω U)
          (most_same _ _ _ (sum_off U (value n.size) (value m.size) (value x.size) (value y.size) (value z.size) (times (value P) (value Q)) (times (value R) (value S)) (times (value T') (value H)))
          (most_plus _ _ (U * ω + U * ω) (ω * U + ω * U + ω * U)
          (most_plus _ _ (U * ω) (U * ω) (most_times (nat U) _ U ω (most_nat U) n.near) (most_times (nat U) _ U ω (most_nat U) m.near))
          (most_plus _ _ (ω * U + ω * U) (ω * U) (most_plus _ _ (ω * U) (ω * U) x.near y.near) z.near)));
    }
  where
    enough : (o u : ℕ) → u * o + u * o + (o * u + o * u + o * u) ≤ 8 * o * u
    enough o u = omega arith

    one_of : (a b c : ℕ) → a + 1 + (b + 1) + 1 + (c + 1) < 2 ^ 14 → a < 2 ^ 14
    one_of a b c h = omega arith

    two_of : (a b c : ℕ) → a + 1 + (b + 1) + 1 + (c + 1) < 2 ^ 14 → b < 2 ^ 14
    two_of a b c h = omega arith

    three_of : (a b c : ℕ) → a + 1 + (b + 1) + 1 + (c + 1) < 2 ^ 14 → c < 2 ^ 14
    three_of a b c h = omega arith

    sum_of : (a b c : ℕ) → a + 1 + (b + 1) + 1 + (c + 1) < 2 ^ 14 → a + 1 + (b + 1) < 2 ^ 14
    sum_of a b c h = omega arith

-- ---- the product of the dot product and one less the cosine
off_bound : (D u k o : ℕ) → D ≤ 4096 → 4096 * k ≡ o → o * u + D * u * k ≤ 8 * o * u
off_bound D u k o h e = go (mul-le-mul_right (u * k) h) (ap (λ (z : ℕ). z * u) e)
  where
    go : D * (u * k) ≤ 4096 * (u * k) → 4096 * k * u ≡ o * u → o * u + D * u * k ≤ 8 * o * u
    go x y = omega arith

record Along (D : ℕ) (d c : Float) (P : UpTo D d) (C : UpTo 2 c) : Type 0 where
  size : UpTo (D * 4 + 1) (mul binary64 d (sub binary64 one c))
  near : Most (minus (times (nat U) (value size)) (times (value P) (minus (nat U) (value C)))) (8 * ω * U)

along : (D : ℕ) → D * 4 < 2 ^ 14 → (d c : Float) (P : UpTo D d) (C : UpTo 2 c) → Along D d c P C
along D few d c P C =
    let g = rest c C in
    let f = product D 4 d (sub binary64 one c) P g.size few in
    record {
      size = f.size;
      near =
          most_raise _ (ω * U + D * U * κ) (8 * ω * U) (off_bound D U κ ω (omega arith) κ_ω)
          (most_same _ _ _ (product_off U (value f.size) (value P) (value g.size) (value C))
          (most_plus _ _ (ω * U) (D * U * κ) f.near (most_times (value P) _ (D * U) κ (most_sg P.s P.v (D * U) P.most) g.near)));
    }

-- ---- the turn
three_quarters : (m b : ℕ) → 2 ^ 20 * b ≤ 2 ^ 20 * m + b → 3 * b ≤ 4 * m
three_quarters m b h = omega arith

fiftieth : (v u : ℕ) → 2 ^ 50 * v ≤ (2 ^ 50 + 1) * u → 64 * v ≤ 65 * u
fiftieth v u h = omega arith

twice : (v u : ℕ) → 64 * v ≤ 65 * u → v ≤ 2 * u
twice v u h = omega arith

wide_of : (s c u : ℕ) → (3 * u ≤ 5 * s) ⊎ (3 * u ≤ 5 * c) → 9 * (u * u) ≤ 25 * (s * s + c * c)
wide_of s c u (inl h) = go (mul-le-mul h h)
  where
    go : 3 * u * (3 * u) ≤ 5 * s * (5 * s) → 9 * (u * u) ≤ 25 * (s * s + c * c)
    go x = omega arith
wide_of s c u (inr h) = go (mul-le-mul h h)
  where
    go : 3 * u * (3 * u) ≤ 5 * c * (5 * c) → 9 * (u * u) ≤ 25 * (s * s + c * c)
    go x = omega arith

-- every number at most B
pub record VecUpTo (B : ℕ) (v : Vec3) : Type 0 where
  pub x : UpTo B v.x
  pub y : UpTo B v.y
  pub z : UpTo B v.z

-- every number at most δ in size
abbrev pub Within : (δ B : ℕ) (v : Vec3) → VecUpTo B v → Type 0
Within δ B v V' = (V'.x.v ≤ δ) × (V'.y.v ≤ δ) × (V'.z.v ≤ δ)

-- a bound of the turned vector
abbrev pub turned_bound : ℕ → ℕ
turned_bound B = B * 2 + 1 + ((2 * B + 1 + (2 * B + 1) + 1) * 2 + 1) + 1 + (2 * ((2 * B + 1 + (2 * B + 1) + 1 + (2 * B + 1) + 1) * 4 + 1) + 1) + 1

module _ (B : ℕ) (few : B ≤ 200) (axis v : Vec3) (t : Turn) (K : UnitSized axis) (X : VecUpTo B v) (R : TurnSized t) where
  abbrev k1 : UpTo 2 axis.x
  k1 = K.small.0

  abbrev k2 : UpTo 2 axis.y
  k2 = K.small.1

  abbrev k3 : UpTo 2 axis.z
  k3 = K.small.2

  abbrev s : UpTo 2 t.sine
  s = record { s = R.sine.s; v = R.sine.v; is = R.sine.is; most = twice R.sine.v U (fiftieth R.sine.v U R.sine_most) }

  abbrev c : UpTo 2 t.cosine
  c = record { s = R.cosine.s; v = R.cosine.v; is = R.cosine.is; most = twice R.cosine.v U (fiftieth R.cosine.v U R.cosine_most) }

  n1 : Apart B axis.y v.z axis.z v.y k2 X.z k3 X.y
  n1 = apart B few axis.y v.z axis.z v.y k2 X.z k3 X.y

  n2 : Apart B axis.z v.x axis.x v.z k3 X.x k1 X.z
  n2 = apart B few axis.z v.x axis.x v.z k3 X.x k1 X.z

  n3 : Apart B axis.x v.y axis.y v.x k1 X.y k2 X.x
  n3 = apart B few axis.x v.y axis.y v.x k1 X.y k2 X.x

  d : Three 2 B 2 B 2 B axis.x v.x axis.y v.y axis.z v.z k1 X.x k2 X.y k3 X.z
  d = three 2 B 2 B 2 B axis.x v.x axis.y v.y axis.z v.z k1 X.x k2 X.y k3 X.z (omega arith)

  abbrev db : ℕ
  db = 2 * B + 1 + (2 * B + 1) + 1 + (2 * B + 1) + 1

  f : Along db _ t.cosine d.size c
  f = along db (omega arith) _ t.cosine d.size c

  abbrev nb : ℕ
  nb = 2 * B + 1 + (2 * B + 1) + 1

  w1 : Three B 2 nb 2 2 (db * 4 + 1) v.x t.cosine _ t.sine axis.x _ X.x c n1.size s k1 f.size
  w1 = three B 2 nb 2 2 (db * 4 + 1) v.x t.cosine _ t.sine axis.x _ X.x c n1.size s k1 f.size (omega arith)

  w2 : Three B 2 nb 2 2 (db * 4 + 1) v.y t.cosine _ t.sine axis.y _ X.y c n2.size s k2 f.size
  w2 = three B 2 nb 2 2 (db * 4 + 1) v.y t.cosine _ t.sine axis.y _ X.y c n2.size s k2 f.size (omega arith)

  w3 : Three B 2 nb 2 2 (db * 4 + 1) v.z t.cosine _ t.sine axis.z _ X.z c n3.size s k3 f.size
  w3 = three B 2 nb 2 2 (db * 4 + 1) v.z t.cosine _ t.sine axis.z _ X.z c n3.size s k3 f.size (omega arith)

  pub turned : VecUpTo (turned_bound B) (rotate_vector axis v t)
  unfolding rotate_vector G.add G.scale G.cross G.dot
  turned = record { x = w1.size; y = w2.size; z = w3.size }

  raised : (δ : ℕ) (z : Z) → 8 * ω ≤ δ → Most z (8 * ω * U) → Most z (δ * U)
  raised δ z h k = most_raise z (8 * ω * U) (δ * U) (mul-le-mul_right U h) k

  steps : (δ : ℕ) → 8 * ω ≤ δ
      → Steps U δ k1.s k2.s k3.s s.s c.s k1.v k2.v k3.v s.v c.v (value X.x) (value X.y) (value X.z) (value n1.size) (value n2.size) (value n3.size) (value w1.size) (value w2.size) (value w3.size) (value d.size) (value f.size)
  steps δ h = record {
    n1_near = raised δ _ h n1.near;
    n2_near = raised δ _ h n2.near;
    n3_near = raised δ _ h n3.near;
    d_near = raised δ _ h d.near;
    f_near = raised δ _ h f.near;
    w1_near = raised δ _ h w1.near;
    w2_near = raised δ _ h w2.near;
    w3_near = raised δ _ h w3.near;
    k1_most = k1.most;
    k2_most = k2.most;
    k3_most = k3.most;
    s_most = fiftieth R.sine.v U R.sine_most;
    c_most = fiftieth R.cosine.v U R.cosine_most;
    long = three_quarters _ (U * U) K.long;
    wide = wide_of R.sine.v R.cosine.v U R.wide;
  }

  -- what a turn makes small was small
  pub before : (δ : ℕ) → 8 * ω ≤ δ → Within δ (turned_bound B) (rotate_vector axis v t) turned → Within (41616 * δ) B v X
  unfolding turned
  before δ h w =
      let S = steps δ h in
      let a = most_sg w1.size.s w1.size.v δ w.0 in
      let b = most_sg w2.size.s w2.size.v δ w.1 in
      let e = most_sg w3.size.s w3.size.v δ w.2 in (
        size_most X.x.s X.x.v (41616 * δ) (first U δ U_pos _ _ _ _ _ _ _ _ _ _ _ _ _ _ _ _ _ _ _ _ _ S a b e),
        size_most X.y.s X.y.v (41616 * δ) (second U δ U_pos _ _ _ _ _ _ _ _ _ _ _ _ _ _ _ _ _ _ _ _ _ S a b e),
        size_most X.z.s X.z.v (41616 * δ) (third U δ U_pos _ _ _ _ _ _ _ _ _ _ _ _ _ _ _ _ _ _ _ _ _ S a b e),
      )
