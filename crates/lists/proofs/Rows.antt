-- Laws of records in flat lists: what reading n of them gives, what storing one changes, and that writing them gives the flat
-- list back. Then the same for records whose two parts are kept in two flat lists.
use Prim.Native.Nat.{ℕ, zero, suc, ◌+◌, ◌-◌, ◌*◌, ◌≤◌, ◌<◌}
use native.Mathlib.Nat.{zero-add, suc-add, zero-sub, sub-zero, suc-sub-suc, zero-mul, suc-mul, mul-le-mul_right, suc_inj, le_of_suc-le-suc}
use native.Mathlib.Omega.{arith}
use mathlib.Core.Path.{◌≡◌, refl, sym, ap, ◌∙◌}
use mathlib.Core.List.{List, [], ◌∷◌, ◌++◌, map, append_assoc}
use lib.ListN.{length, get_or, take, drop, set, length-append, length-drop, take-append-drop}
use lib.Seq.{sets, sets-eq, set_split, take-add, drop-drop, drop_at, drop-append-le, length-take-le}
use Rattle.lists.specs.Rows.{rows, flat, paired, table, Codec}

one_more : (n w : ℕ) → suc n * w ≡ w + n * w
one_more n w = omega arith

room : (n w len : ℕ) → suc n * w ≤ len → (w ≤ len) × (n * w ≤ len - w)
room n w len h = let e : suc n * w ≡ w + n * w = one_more n w in (omega arith, omega arith)

module _ {A B : Type 0} (w : ℕ) (get : List B → A) where
  pub length_rows : (n : ℕ) (l : List B) → length (rows w get n l) ≡ n
  unfolding rows
  length_rows zero l = refl
  length_rows (suc n) l = ap suc (length_rows n (drop w l))

  pub get_or_rows : (n : ℕ) (l : List B) (i : ℕ) (d : A) → i < n → get_or (rows w get n l) i d ≡ get (drop (i * w) l)
  unfolding rows
  get_or_rows zero l i d h = absurd (omega arith)
  get_or_rows (suc n) l zero d h = rw zero-mul
  get_or_rows (suc n) l (suc i) d h = rw (get_or_rows n (drop w l) i d (le_of_suc-le-suc h), drop-drop, one_more)

  pub rows_add : (m n : ℕ) (l : List B) → rows w get (m + n) l ≡ rows w get m l ++ rows w get n (drop (m * w) l)
  unfolding rows
  rows_add zero n l = rw (zero-add, zero-mul)
  rows_add (suc m) n l = rw (suc-add, rows_add m n (drop w l), drop-drop, one_more)

  pub take_rows : (j n : ℕ) (l : List B) → j ≤ n → take j (rows w get n l) ≡ rows w get j l
  unfolding rows
  take_rows zero n l h = refl
  take_rows (suc j) zero l h = absurd (omega arith)
  take_rows (suc j) (suc n) l h = ap (λ (t : List A). get l ∷ t) (take_rows j n (drop w l) (le_of_suc-le-suc h))

  pub drop_rows : (j n : ℕ) (l : List B) → drop j (rows w get n l) ≡ rows w get (n - j) (drop (j * w) l)
  unfolding rows
  drop_rows zero n l = rw (zero-mul, sub-zero)
  drop_rows (suc j) zero l = rw zero-sub
  drop_rows (suc j) (suc n) l = rw (drop_rows j n (drop w l), drop-drop, one_more, suc-sub-suc)

  set_split_rows : (n : ℕ) (l : List B) (i : ℕ) (x : A) → i < n → set (rows w get n l) i x ≡ rows w get i l ++ x ∷ rows w get (n - suc i) (drop (suc i * w) l)
  set_split_rows n l i x h =
      let p : i < length (rows w get n l) = rw length_rows h in
      let q : i ≤ n = omega arith in
      rw (set_split (rows w get n l) i x, take_rows i n l, drop_rows (suc i) n l)

pub flat_append : {A B : Type 0} (put : A → List B) (l m : List A) → flat put (l ++ m) ≡ flat put l ++ flat put m
unfolding flat
flat_append put [] m = refl
flat_append put (x ∷ l) m = rw (flat_append put l m, append_assoc)

module _ {A B : Type 0} {w : ℕ} {get : List B → A} {put : A → List B} (k : Codec w get put) where
  put_front : (l : List B) → w ≤ length l → put (get l) ≡ take w l
  put_front l h = rw (take-append-drop w l) at (k.put_get (take w l) (drop w l) (length-take-le w l h))

  -- a record reads its own elements only
  get_front : (l m : List B) → w ≤ length l → get (take w l ++ m) ≡ get l
  get_front l m h = rw (← put_front l h) (k.get_put (get l) m)

  get_append_le : (l m : List B) → w ≤ length l → get (l ++ m) ≡ get l
  get_append_le l m h =
      let e : l ++ m ≡ take w l ++ (drop w l ++ m) = rw (← append_assoc (take w l) (drop w l) m, take-append-drop w l) in
      rw e (get_front l (drop w l ++ m) h)

  pub rows_append_le : (n : ℕ) (l m : List B) → n * w ≤ length l → rows w get n (l ++ m) ≡ rows w get n l
  unfolding rows
  rows_append_le zero l m h = refl
  rows_append_le (suc n) l m h =
      let r = room n w (length l) h in
      rw (get_append_le l m r.0, drop-append-le w l m r.0, rows_append_le n (drop w l) m (rw length-drop r.1))

  pub rows_append : (m n : ℕ) (a b : List B) → length a ≡ m * w → rows w get (m + n) (a ++ b) ≡ rows w get m a ++ rows w get n b
  rows_append m n a b h = rw (rows_add w get m n (a ++ b), rows_append_le m a b (omega arith), drop_at a b (m * w) h)

  pub set_rows : (n : ℕ) (l : List B) (i : ℕ) (x : A) → i < n → n * w ≤ length l → rows w get n (sets l (i * w) (put x)) ≡ set (rows w get n l) i x
  unfolding rows
  set_rows n l i x h b =
      let p = k.length_put x in
      let rest = drop (suc i * w) l in
      let e : n ≡ i + suc (n - suc i) = omega arith in
      let s = suc-mul i w in
      let q : suc i * w ≤ n * w = mul-le-mul_right w h in
      let c : length (take (i * w) l) ≡ i * w = length-take-le (i * w) l (omega arith) in
      let t : sets l (i * w) (put x) ≡ take (i * w) l ++ (put x ++ rest) = rw (sets-eq (put x) l (i * w) (omega arith), p, s, append_assoc) in
      let f : rows w get i l ≡ rows w get i (take (i * w) l) = rw (take-append-drop (i * w) l) at (rows_append_le i (take (i * w) l) (drop (i * w) l) (omega arith)) in
      rw (set_split_rows w get n l i x h, f, t)
      (ap (λ (j : ℕ). rows w get j (take (i * w) l ++ (put x ++ rest))) e
      ∙ rw (rows_append i (suc (n - suc i)) (take (i * w) l) (put x ++ rest) c, k.get_put x rest, drop_at (put x) rest w p))

  pub flat_rows : (n : ℕ) (l : List B) → n * w ≤ length l → flat put (rows w get n l) ≡ take (n * w) l
  unfolding rows flat
  flat_rows zero l h = rw zero-mul
  flat_rows (suc n) l h =
      let r = room n w (length l) h in
      rw (put_front l r.0, flat_rows n (drop w l) (rw length-drop r.1), one_more, take-add)

  pub rows_flat : (l : List A) → rows w get (length l) (flat put l) ≡ l
  unfolding rows flat
  rows_flat [] = refl
  rows_flat (x ∷ l) = rw (k.get_put x (flat put l), drop_at (put x) (flat put l) w (k.length_put x), rows_flat l)

  pub length_flat : (l : List A) → length (flat put l) ≡ length l * w
  unfolding flat
  length_flat [] = sym (zero-mul w)
  length_flat (x ∷ l) = rw (length-append, k.length_put x, length_flat l, one_more)

module _ {A B C : Type 0} (both : A → B → C) where
  pub length_paired : (a : List A) (b : List B) → length a ≡ length b → length (paired both a b) ≡ length a
  unfolding paired
  length_paired [] b h = refl
  length_paired (x ∷ a) [] h = absurd (omega arith)
  length_paired (x ∷ a) (y ∷ b) h = ap suc (length_paired a b (suc_inj h))

  pub get_or_paired : (a : List A) (b : List B) (i : ℕ) (p : A) (q : B) (d : C) → length a ≡ length b → i < length a → get_or (paired both a b) i d ≡ both (get_or a i p) (get_or b i q)
  unfolding paired
  get_or_paired [] b i p q d h l = absurd (omega arith)
  get_or_paired (x ∷ a) [] i p q d h l = absurd (omega arith)
  get_or_paired (x ∷ a) (y ∷ b) zero p q d h l = refl
  get_or_paired (x ∷ a) (y ∷ b) (suc i) p q d h l = get_or_paired a b i p q d (suc_inj h) (le_of_suc-le-suc l)

  pub set_paired : (a : List A) (b : List B) (i : ℕ) (x : A) (y : B) → paired both (set a i x) (set b i y) ≡ set (paired both a b) i (both x y)
  unfolding paired
  set_paired [] b i x y = refl
  set_paired (u ∷ a) [] zero x y = refl
  set_paired (u ∷ a) [] (suc i) x y = refl
  set_paired (u ∷ a) (v ∷ b) zero x y = refl
  set_paired (u ∷ a) (v ∷ b) (suc i) x y = ap (λ (t : List C). both u v ∷ t) (set_paired a b i x y)

  pub take_paired : (j : ℕ) (a : List A) (b : List B) → take j (paired both a b) ≡ paired both (take j a) (take j b)
  unfolding paired
  take_paired zero a b = refl
  take_paired (suc j) [] b = refl
  take_paired (suc j) (x ∷ a) [] = refl
  take_paired (suc j) (x ∷ a) (y ∷ b) = ap (λ (t : List C). both x y ∷ t) (take_paired j a b)

  pub firsts : (first : C → A) → ((x : A) (y : B) → first (both x y) ≡ x) → (a : List A) (b : List B) → length a ≡ length b → map first (paired both a b) ≡ a
  unfolding paired
  firsts first e [] b h = refl
  firsts first e (x ∷ a) [] h = absurd (omega arith)
  firsts first e (x ∷ a) (y ∷ b) h = rw (e x y, firsts first e a b (suc_inj h))

  pub seconds : (second : C → B) → ((x : A) (y : B) → second (both x y) ≡ y) → (a : List A) (b : List B) → length a ≡ length b → map second (paired both a b) ≡ b
  unfolding paired
  seconds second e [] [] h = refl
  seconds second e [] (y ∷ b) h = absurd (omega arith)
  seconds second e (x ∷ a) [] h = absurd (omega arith)
  seconds second e (x ∷ a) (y ∷ b) h = rw (e x y, seconds second e a b (suc_inj h))

module _ {P Q C B D : Type 0} (v : ℕ) (get_p : List B → P) (w : ℕ) (getQ : List D → Q) (both : P → Q → C) where
  as_many : (n : ℕ) (p : List B) (q : List D) → length (rows v get_p n p) ≡ length (rows w getQ n q)
  as_many n p q = rw (length_rows v get_p n p, length_rows w getQ n q)

  pub length_table : (n : ℕ) (p : List B) (q : List D) → length (table v get_p w getQ both n p q) ≡ n
  length_table n p q = length_paired both _ _ (as_many n p q) ∙ length_rows v get_p n p

  pub get_or_table : (n : ℕ) (p : List B) (q : List D) (i : ℕ) (d : C) → i < n → get_or (table v get_p w getQ both n p q) i d ≡ both (get_p (drop (i * v) p)) (getQ (drop (i * w) q))
  get_or_table n p q i d h =
      let l : i < length (rows v get_p n p) = rw length_rows h in
      rw (get_or_paired both _ _ i (get_p p) (getQ q) d (as_many n p q) l, get_or_rows v get_p n p i (get_p p) h, get_or_rows w getQ n q i (getQ q) h)

  pub take_table : (j n : ℕ) (p : List B) (q : List D) → j ≤ n → take j (table v get_p w getQ both n p q) ≡ table v get_p w getQ both j p q
  take_table j n p q h = rw (take_paired both j (rows v get_p n p) (rows w getQ n q), take_rows v get_p j n p h, take_rows w getQ j n q h)

module _ {P Q C B D : Type 0} {v : ℕ} {get_p : List B → P} {put_p : P → List B} (kP : Codec v get_p put_p)
    {w : ℕ} {getQ : List D → Q} {putQ : Q → List D} (kQ : Codec w getQ putQ) (both : P → Q → C) (n : ℕ) (p : List B) (q : List D) where
  pub set_table : (i : ℕ) (x : P) (y : Q) → i < n → n * v ≤ length p → n * w ≤ length q
      → table v get_p w getQ both n (sets p (i * v) (put_p x)) (sets q (i * w) (putQ y)) ≡ set (table v get_p w getQ both n p q) i (both x y)
  set_table i x y h a b = rw (set_rows kP n p i x h a, set_rows kQ n q i y h b) (set_paired both _ _ i x y)

  pub flat_firsts : (first : C → P) → ((x : P) (y : Q) → first (both x y) ≡ x) → n * v ≤ length p → flat put_p (map first (table v get_p w getQ both n p q)) ≡ take (n * v) p
  flat_firsts first e h = rw (firsts both first e _ _ (as_many v get_p w getQ both n p q)) (flat_rows kP n p h)

  pub flat_seconds : (second : C → Q) → ((x : P) (y : Q) → second (both x y) ≡ y) → n * w ≤ length q → flat putQ (map second (table v get_p w getQ both n p q)) ≡ take (n * w) q
  flat_seconds second e h = rw (seconds both second e _ _ (as_many v get_p w getQ both n p q)) (flat_rows kQ n q h)
