-- The gap law: a rounded norm of at most c has three parts of at most c each, in floats, for every tolerance c from 2 ^ -400 to 2 ^ 400. Below about 1e-160 it is false: squares vanish.
use Rattle.std.proofs.Common.{◌≡◌, ℕ, suc, ◌+◌, ◌-◌, ◌*◌, ◌^◌, ◌<◌, ◌≤◌, Bool, true, false, T, ◌⊎◌, sym, refl, ap, ◌∙◌, subst, inl, inr, le_trans, le_of_eq, lt_of_lt_of_le, lt_of_le_of_lt, mul-le-mul_right, mul_assoc, mul-le-mul, le_antisymm, lt_of_mul-lt-mul_right, mul-lt-mul_of_pos_right, mul-pos, not-le_of_lt, le_of_mul-le-mul_right, arith, lit<, lit≤, pow_pos, pow_mono, pow-add}
use mathlib.Core.Bool.{false≢true}
use lib.Ieee.{Float, nan, inf, fin, binary64, size, round, mul, lt, eq, le, fits, of_bits}
use lib.Ieee.Fits.{round-fits, mul-fits}
use lib.Ieee.Digits.{size-lt, size_reaches}
use lib.Ieee.Bits.{is_true, of_bits-fits}
use lib.Ieee.Nearest.{closest}
use lib.Ieee.Order.{round_mono}
use lib.Ieee.Scale.{finite, round_same}
use Rattle.float.proofs.Rounding.{closest_within, round_near}
use Rattle.float.proofs.Rounding.{U_pos, Rounded, mul_is}
use Rattle.float.proofs.Units.{Held, held, exact_is, le_or_lt}
use Rattle.float.proofs.Signed.{pl, mi, le_val, val_le}
use Rattle.float.specs.Helpers.{size_of}
use Rattle.float.proofs.Order as order
use Rattle.root.proofs.WholeRoot.{root_ge}
use Rattle.root.specs.Root.{root, root_units, whole_root}
use Rattle.root.proofs.RootParts.{round_halves}
use Rattle.root.proofs.RootOrder.{norm, gap_law_at, root_of_units, z_lo, z_hi, m_lo, m_hi}
use Rattle.float.specs.Units.{U, Is}
use Rattle.root.proofs.WholeRoot.{whole_root_right}

four-U : 2 ^ 1076 ≡ 4 * U
unfolding U
four-U = refl

-- x is v units, and v is within D / 4 units P of m * m * P
record Squared (x : Float) (m P : ℕ) : Type 0 where
  v : ℕ
  D : ℕ
  is : Is x false v
  less : D + 2 ≤ 4 * m
  near : 4 * (m * m * P) ≤ 4 * v + D * P

module _ (M k : ℕ) (M-lo : 2 ^ 52 ≤ M) (M-hi : M < 2 ^ 53) (k-lo : 622 ≤ k) (k-hi : k ≤ 1422) where
  small : suc M * 2 ^ k < 2 ^ 2098
  small = lt_of_le_of_lt (mul-le-mul {n₂ = 2 ^ 53} {m₂ = 2 ^ 1422} M-hi (pow_mono k-hi)) (lit< tt)

  full : 2 ^ 53 ≤ suc M → suc M ≡ 2 ^ 53
  full h = le_antisymm M-hi h

  pub n_is : Is (round binary64 false (suc M * 2 ^ k) U) false (suc M * 2 ^ k)
  n_is = go (le_or_lt (2 ^ 53) (suc M))
    where
      one : (a : ℕ) → a ≡ 1 * a
      one a = omega arith

      go : (2 ^ 53 ≤ suc M) ⊎ (suc M < 2 ^ 53) → Is (round binary64 false (suc M * 2 ^ k) U) false (suc M * 2 ^ k)
      go (inr h) = exact_is false (suc M * 2 ^ k) (suc M) k refl h small
      go (inl h) = exact_is false (suc M * 2 ^ k) 1 (53 + k) (ap (λ (z : ℕ). z * 2 ^ k) (full h) ∙ sym (pow-add 2 53 k) ∙ one (2 ^ (53 + k))) (lit< tt) small

  -- 2 ^ k * 2 ^ k units of units are 2 ^ e units
  GG : 2 ^ k * 2 ^ k ≡ 2 ^ (k + k - 1074) * U
  unfolding U
  GG = sym (pow-add 2 k k) ∙ ap (λ (z : ℕ). 2 ^ z) (split k k-lo) ∙ pow-add 2 (k + k - 1074) 1074
    where
      split : (k : ℕ) → 622 ≤ k → k + k ≡ k + k - 1074 + 1074
      split k h = omega arith

  e_hi : k + k - 1074 ≤ 1770
  e_hi = go k k-hi
    where
      go : (k : ℕ) → k ≤ 1422 → k + k - 1074 ≤ 1770
      go k h = omega arith

  NN : suc M * 2 ^ k * (suc M * 2 ^ k) * U ≡ suc M * suc M * 2 ^ (k + k - 1074) * (U * U)
  NN = regroup (suc M) (2 ^ k) U ∙ ap (λ (z : ℕ). suc M * suc M * z * U) GG ∙ regroup' (suc M) (2 ^ (k + k - 1074)) U
    where
      regroup : (m g u : ℕ) → m * g * (m * g) * u ≡ m * m * (g * g) * u
      regroup m g u = omega arith

      regroup' : (m p u : ℕ) → m * m * (p * u) * u ≡ m * m * p * (u * u)
      regroup' m p u = omega arith

  sq_is : mul binary64 (round binary64 false (suc M * 2 ^ k) U) (round binary64 false (suc M * 2 ^ k) U) ≡ round binary64 false (suc M * 2 ^ k * (suc M * 2 ^ k)) (U * U)
  sq_is = mul_is (round binary64 false (suc M * 2 ^ k) U) (round binary64 false (suc M * 2 ^ k) U) false false (suc M * 2 ^ k) (suc M * 2 ^ k) n_is n_is

  -- with 53 digits of the square below 2 ^ (54 + i)
  rounded : (i D : ℕ) → i ≤ 52 → suc M * suc M < 2 ^ (54 + i) → 4 * 2 ^ i ≡ D → D + 2 ≤ 4 * suc M → Squared (mul binary64 (round binary64 false (suc M * 2 ^ k) U) (round binary64 false (suc M * 2 ^ k) U)) (suc M) (2 ^ (k + k - 1074))
  rounded i D I l d less =
      let P = 2 ^ (k + k - 1074) in
      let h = i + (k + k - 1074) in
      let r : Rounded (round binary64 false (suc M * 2 ^ k * (suc M * 2 ^ k)) (U * U)) false (suc M * 2 ^ k * (suc M * 2 ^ k) * U) (U * U) (2 ^ h) =
      round_near false (suc M * 2 ^ k * (suc M * 2 ^ k)) (U * U) h (mul-pos U_pos U_pos) (far i (k + k - 1074) I e_hi)
      (lt_of_le_of_lt (le_of_eq NN) (mul-lt-mul_of_pos_right (lt_of_lt_of_le (mul-lt-mul_of_pos_right l (pow_pos (k + k - 1074))) (le_of_eq (sym (pow-add 2 (54 + i) (k + k - 1074)) ∙ ap (λ (z : ℕ). 2 ^ z) (assoc i (k + k - 1074))))) (mul-pos U_pos U_pos))) in
      let b : suc M * suc M * P ≤ r.v + 2 ^ h = le_of_mul-le-mul_right {k = U * U} (le_trans (le_of_eq (sym NN)) (le_trans r.near.1 (le_of_eq (joined r.v (2 ^ h) (U * U))))) (mul-pos U_pos U_pos) in
      record {
        v = r.v;
        D = D;
        is = subst (λ (z : Float). Is z false r.v) (sym sq_is) r.is;
        less = less;
        near = sum (suc M * suc M * P) r.v (2 ^ h) (2 ^ i) P b (pow-add 2 i (k + k - 1074)) (ap (λ (z : ℕ). z * P) (sym d));
      }
    where
      far : (i e : ℕ) → i ≤ 52 → e ≤ 1770 → i + e ≤ 2040
      far i e a b = omega arith

      assoc : (i e : ℕ) → 54 + i + e ≡ 54 + (i + e)
      assoc i e = omega arith

      joined : (a b c : ℕ) → a * c + b * c ≡ (a + b) * c
      joined a b c = omega arith

      sum : (x v h a p : ℕ) → x ≤ v + h → h ≡ a * p → D * p ≡ 4 * a * p → 4 * x ≤ 4 * v + D * p
      sum x v h a p b e f = omega arith

  squared : Squared (mul binary64 (round binary64 false (suc M * 2 ^ k) U) (round binary64 false (suc M * 2 ^ k) U)) (suc M) (2 ^ (k + k - 1074))
  squared = go (le_or_lt (suc M) 6369051672525772) (le_or_lt (2 ^ 53) (suc M))
    where
      go : (suc M ≤ 6369051672525772) ⊎ (6369051672525772 < suc M) → (2 ^ 53 ≤ suc M) ⊎ (suc M < 2 ^ 53) → Squared (mul binary64 (round binary64 false (suc M * 2 ^ k) U) (round binary64 false (suc M * 2 ^ k) U)) (suc M) (2 ^ (k + k - 1074))
      go (inl h) w = rounded 51 (2 ^ 53) (lit≤ tt) (lt_of_le_of_lt (mul-le-mul h h) (lit< tt)) refl (low M M-lo)
        where
          low : (M : ℕ) → 2 ^ 52 ≤ M → 2 ^ 53 + 2 ≤ 4 * suc M
          low M h = omega arith
      go (inr h) (inr l) = rounded 52 (2 ^ 54) (lit≤ tt) (lt_of_le_of_lt (mul-le-mul {n₂ = 9007199254740991} {m₂ = 9007199254740991} (less M l) (less M l)) (lit< tt)) refl (high M h)
        where
          less : (M : ℕ) → suc M < 9007199254740992 → suc M ≤ 9007199254740991
          less M h = omega arith

          high : (M : ℕ) → 6369051672525772 < suc M → 2 ^ 54 + 2 ≤ 4 * suc M
          high M h = omega arith
      go (inr h) (inl l) =
          let P = 2 ^ (k + k - 1074) in
          let m2 : suc M * suc M * P ≡ 1 * 2 ^ (106 + (k + k - 1074)) = ap (λ (z : ℕ). z * z * P) (full l) ∙ sym (pow-add 2 106 (k + k - 1074)) ∙ one (2 ^ (106 + (k + k - 1074))) in
          record {
            v = suc M * suc M * P;
            D = 0;
            is = subst (λ (z : Float). Is z false (suc M * suc M * P)) (sym (sq_is ∙ round_same binary64 false (suc M * 2 ^ k * (suc M * 2 ^ k)) (U * U) (suc M * suc M * P) U (mul-pos U_pos U_pos) U_pos NN))
                (exact_is false (suc M * suc M * P) 1 (106 + (k + k - 1074)) m2 (lit< tt) (lt_of_le_of_lt (le_of_eq (m2 ∙ sym (one (2 ^ (106 + (k + k - 1074)))))) (lib.Pow.pow-lt (far (k + k - 1074) e_hi))));
            less = two M;
            near = flat (suc M * suc M * P) P;
          }
        where
          one : (a : ℕ) → a ≡ 1 * a
          one a = omega arith

          far : (e : ℕ) → e ≤ 1770 → 106 + e < 2098
          far e h = omega arith

          two : (M : ℕ) → 0 + 2 ≤ 4 * suc M
          two M = omega arith

          flat : (x p : ℕ) → 4 * x ≤ 4 * x + 0 * p
          flat x p = omega arith

  -- so the root is above the middle
  wide : 2 * (2 * M + 1) + 1 ≤ 2 ^ k
  wide = le_trans (go M M-hi) (pow_mono {i = 56} (less k k-lo))
    where
      go : (M : ℕ) → M < 2 ^ 53 → 2 * (2 * M + 1) + 1 ≤ 2 ^ 56
      go M h = omega arith

      less : (k : ℕ) → 622 ≤ k → 56 ≤ k
      less k h = omega arith

  past : (v D : ℕ) → D + 2 ≤ 4 * suc M → 4 * (suc M * suc M * 2 ^ (k + k - 1074)) ≤ 4 * v + D * 2 ^ (k + k - 1074) → ((2 * M + 1) * 2 ^ k + 1) * ((2 * M + 1) * 2 ^ k + 1) ≤ v * 2 ^ 1076
  past v D d h =
      le_trans (room (2 * M + 1) (2 ^ k) (mul-le-mul_right (2 ^ k) wide) (pow_pos k))
      (le_trans (step (2 ^ (k + k - 1074)) U (2 ^ k * 2 ^ k) GG (mul-le-mul_right U h) (mul-le-mul_right (2 ^ k * 2 ^ k) d)) (le_of_eq (ap (λ (z : ℕ). v * z) (sym four-U))))
    where
      room : (w g : ℕ) → (2 * w + 1) * g ≤ g * g → 0 < g → (w * g + 1) * (w * g + 1) ≤ (w * w + 1) * (g * g)
      room w g a b = omega arith

      step : (p u G : ℕ) → G ≡ p * u → 4 * (suc M * suc M * p) * u ≤ (4 * v + D * p) * u → (D + 2) * G ≤ 4 * suc M * G → ((2 * M + 1) * (2 * M + 1) + 1) * G ≤ v * (4 * u)
      step p u G e a b = last (ap (λ (z : ℕ). suc M * suc M * z) e) (ap (λ (z : ℕ). D * z) e) a b
        where
          last : suc M * suc M * G ≡ suc M * suc M * (p * u) → D * G ≡ D * (p * u) → 4 * (suc M * suc M * p) * u ≤ (4 * v + D * p) * u → (D + 2) * G ≤ 4 * suc M * G → ((2 * M + 1) * (2 * M + 1) + 1) * G ≤ v * (4 * u)
          last x y a b = omega arith

  middle : Is (round binary64 false ((2 * M + 1) * 2 ^ k + 1) (2 ^ 1075)) false (suc M * 2 ^ k)
  middle =
      round_halves ((2 * M + 1) * 2 ^ k + 1) k (suc M)
      (le_trans (le_of_eq (pow-add 2 53 k)) (low (2 ^ k) (mul-le-mul_right (2 ^ k) M-lo)))
      (lt_of_lt_of_le (high (2 ^ k) (mul-le-mul_right (2 ^ k) M-hi) (lt_of_lt_of_le (lit< {m = 1} tt) (pow_mono {i = 1} (one k k-lo)))) (le_of_eq (sym (pow-add 2 54 k))))
      (near (2 ^ k) (pow_pos k) (closest ((2 * M + 1) * 2 ^ k + 1) (2 * 2 ^ k)) (closest_within ((2 * M + 1) * 2 ^ k + 1) (2 * 2 ^ k) (twice (2 ^ k) (pow_pos k))))
      small
    where
      one : (k : ℕ) → 622 ≤ k → 1 ≤ k
      one k h = omega arith

      twice : (g : ℕ) → 0 < g → 0 < 2 * g
      twice g h = omega arith

      low : (g : ℕ) → 2 ^ 52 * g ≤ M * g → 2 ^ 53 * g ≤ (2 * M + 1) * g + 1
      low g h = omega arith

      high : (g : ℕ) → suc M * g ≤ 2 ^ 53 * g → 1 < g → (2 * M + 1) * g + 1 < 2 ^ 54 * g
      high g h l = omega arith

      near : (g : ℕ) → 0 < g → (c : ℕ) → (2 * (c * (2 * g)) ≤ 2 * ((2 * M + 1) * g + 1) + 2 * g) × (2 * ((2 * M + 1) * g + 1) ≤ 2 * (c * (2 * g)) + 2 * g) → c ≡ suc M
      near g G c w =
          let a : M < c = lt_of_mul-lt-mul_right (2 * g) (lo w.1) in
          let b : c < suc (suc M) = lt_of_mul-lt-mul_right (2 * g) (hi w.0) in
          same a b
        where
          lo : 2 * ((2 * M + 1) * g + 1) ≤ 2 * (c * (2 * g)) + 2 * g → M * (2 * g) < c * (2 * g)
          lo h = omega arith

          hi : 2 * (c * (2 * g)) ≤ 2 * ((2 * M + 1) * g + 1) + 2 * g → c * (2 * g) < suc (suc M) * (2 * g)
          hi h = omega arith

          same : M < c → c < suc (suc M) → c ≡ suc M
          same a b = omega arith

  n_root : le (round binary64 false (suc M * 2 ^ k) U) (root (mul binary64 (round binary64 false (suc M * 2 ^ k) U) (round binary64 false (suc M * 2 ^ k) U))) ≡ true
  n_root =
      let x = mul binary64 (round binary64 false (suc M * 2 ^ k) U) (round binary64 false (suc M * 2 ^ k) U) in
      let S = squared in
      let y = round binary64 false ((2 * M + 1) * 2 ^ k + 1) (2 ^ 1075) in
      order.le_trans (round binary64 false (suc M * 2 ^ k) U) y (root x) (le_val (round binary64 false (suc M * 2 ^ k) U) y false false (suc M * 2 ^ k) (suc M * 2 ^ k) n_is middle (le_of_eq refl))
      (order.le_trans y (root_units S.v) (root x) (above S.v (root_ge (S.v * 2 ^ 1076) (whole_root (S.v * 2 ^ 1076)) ((2 * M + 1) * 2 ^ k + 1) (whole_root_right (S.v * 2 ^ 1076)) (past S.v S.D S.less S.near)))
      (root_of_units x S.v (mul-fits binary64 (round binary64 false (suc M * 2 ^ k) U) (round binary64 false (suc M * 2 ^ k) U)) S.is))
    where
      above : (v : ℕ) → (2 * M + 1) * 2 ^ k + 1 ≤ whole_root (v * 2 ^ 1076) → le (round binary64 false ((2 * M + 1) * 2 ^ k + 1) (2 ^ 1075)) (root_units v) ≡ true
      above v h = unfold root_units in is_true (le (round binary64 false ((2 * M + 1) * 2 ^ k + 1) (2 ^ 1075)) (round binary64 false (whole_root (v * 2 ^ 1076)) (2 ^ 1075))) (round_mono binary64 ((2 * M + 1) * 2 ^ k + 1) (2 ^ 1075) (whole_root (v * 2 ^ 1076)) (2 ^ 1075) (pow_pos 1075) (pow_pos 1075) (mul-le-mul_right (2 ^ 1075) h))

-- ---- every tolerance from 2 ^ -400 to 2 ^ 400
abbrev pub finest : Float
finest = of_bits binary64 0x26f0_0000_0000_0000

abbrev pub coarsest : Float
coarsest = of_bits binary64 0x58f0_0000_0000_0000

finest_is : Is finest false (2 ^ 674)
unfolding of_bits U
finest_is = (refl, refl)

coarsest_is : Is coarsest false (2 ^ 1474)
unfolding of_bits U
coarsest_is = (refl, refl)

finite_between : (c : Float) → le finest c ≡ true → le c coarsest ≡ true → T (finite c)
unfolding of_bits le lt eq
finite_between nan h l = absurd (false≢true h)
finite_between (inf true) h l = absurd (false≢true h)
finite_between (inf false) h l = absurd (false≢true l)
finite_between (fin s m e) h l = tt

pow_back : (a b : ℕ) → 2 ^ a < 2 ^ b → a < b
pow_back a b h = go (le_or_lt b a)
  where
    go : (b ≤ a) ⊎ (a < b) → a < b
    go (inr l) = l
    go (inl l) = absurd (not-le_of_lt h (pow_mono l))

pub gap_law_any : (c x y z : Float) → T (fits binary64 c) → T (fits binary64 x) → T (fits binary64 y) → T (fits binary64 z) → T (finite x) → T (finite y) → T (finite z)
    → le finest c ≡ true → le c coarsest ≡ true → le (norm x y z) c ≡ true → (le (size_of x) c ≡ true) × (le (size_of y) c ≡ true) × (le (size_of z) c ≡ true)
gap_law_any c x y z tc tx ty tz fx fy fz lo hi h =
    go H.s H.v H.q H.j H.is H.shape H.few H.small (val_le finest c false H.s (2 ^ 674) H.v finest_is H.is lo) (val_le c coarsest H.s false H.v (2 ^ 1474) H.is coarsest_is hi)
  where
    H : Held c
    H = held c tc (finite_between c lo hi)

    go : (s : Bool) (v q j : ℕ) → Is c s v → v ≡ q * 2 ^ j → q < 2 ^ 53 → v < 2 ^ 2098 → 2 ^ 674 + mi s v ≤ pl s v + 0 → pl s v + 0 ≤ 2 ^ 1474 + mi s v
        → (le (size_of x) c ≡ true) × (le (size_of y) c ≡ true) × (le (size_of z) c ≡ true)
    go true v q j i e f g a b = absurd (not-le_of_lt (pow_pos 674) (none (2 ^ 674) v a))
      where
        none : (p v : ℕ) → p + v ≤ 0 + 0 → p ≤ 0
        none p v h = omega arith
    go false v q j i e f g a b =
        let v-lo : 2 ^ 674 ≤ v = plain (2 ^ 674) v a in
        let v-hi : v ≤ 2 ^ 1474 = plain v (2 ^ 1474) b in
        let q-pos : 0 < q = lib.Ieee.Positive.first_pos q (2 ^ j) (lt_of_lt_of_le (pow_pos 674) (le_trans v-lo (le_of_eq e))) in
        let zl = z_lo v q j e f g q-pos in
        let zh = z_hi v q j e f g q-pos in
        let up : 674 < size q + j = pow_back 674 (size q + j) (lt_of_le_of_lt v-lo (lt_of_le_of_lt (le_of_eq e) (lt_of_lt_of_le (mul-lt-mul_of_pos_right (size-lt q) (pow_pos j)) (le_of_eq (sym (pow-add 2 (size q) j)))))) in
        let down : size q - 1 + j ≤ 1474 = no_more (size q - 1 + j) (le_trans (le_of_eq (pow-add 2 (size q - 1) j)) (le_trans (mul-le-mul_right (2 ^ j) (size_reaches q (size q - 1) (pred (size q) zl))) (le_trans (le_of_eq (sym e)) v-hi))) in
        let k = size q + j - 53 in
        let M = q * 2 ^ (53 - size q) in
        let c-is : Is c false (M * 2 ^ k) = subst (Is c false) (e ∙ ap (λ (w : ℕ). q * w) (ap (λ (w : ℕ). 2 ^ w) (exps (size q) j zh up) ∙ pow-add 2 (53 - size q) k) ∙ sym (mul_assoc q (2 ^ (53 - size q)) (2 ^ k))) i in
        let ml = m_lo v q j e f g q-pos in
        let mh = m_hi v q j e f g q-pos in
        let kl : 622 ≤ k = k_low (size q) j up in
        let kh : k ≤ 1422 = k_high (size q) j zl down in
        gap_law_at c (round binary64 false (suc M * 2 ^ k) U) M k c-is (n_is M k ml mh kl kh) (round-fits binary64 false (suc M * 2 ^ k) U) ml (n_root M k ml mh kl kh) x y z tx ty tz fx fy fz h
      where
        plain : (a b : ℕ) → a + 0 ≤ b + 0 → a ≤ b
        plain a b h = omega arith

        pred : (z : ℕ) → 0 < z → z - 1 < z
        pred z h = omega arith

        no_more : (a : ℕ) → 2 ^ a ≤ 2 ^ 1474 → a ≤ 1474
        no_more a l = test (le_or_lt a 1474)
          where
            test : (a ≤ 1474) ⊎ (1474 < a) → a ≤ 1474
            test (inl m) = m
            test (inr m) = absurd (not-le_of_lt (lib.Pow.pow-lt m) l)

        exps : (z j : ℕ) → z ≤ 53 → 674 < z + j → j ≡ 53 - z + (z + j - 53)
        exps z j a b = omega arith

        k_low : (z j : ℕ) → 674 < z + j → 622 ≤ z + j - 53
        k_low z j h = omega arith

        k_high : (z j : ℕ) → 0 < z → z - 1 + j ≤ 1474 → z + j - 53 ≤ 1422
        k_high z j a b = omega arith

-- ---- at 1e-12, the bound below which two joint sets count as one
abbrev pub tiny : Float
tiny = of_bits binary64 0x3d71_9799_812d_ea11

pub gap_law : (x y z : Float) → T (fits binary64 x) → T (fits binary64 y) → T (fits binary64 z) → T (finite x) → T (finite y) → T (finite z)
    → le (norm x y z) tiny ≡ true → (le (size_of x) tiny ≡ true) × (le (size_of y) tiny ≡ true) × (le (size_of z) tiny ≡ true)
gap_law x y z tx ty tz fx fy fz = gap_law_any tiny x y z (of_bits-fits binary64 0x3d71_9799_812d_ea11) tx ty tz fx fy fz above below
  where
    above : le finest tiny ≡ true
    above = unfold of_bits in unfold le in unfold lt in unfold eq in refl

    below : le tiny coarsest ≡ true
    below = unfold of_bits in unfold le in unfold lt in unfold eq in refl
