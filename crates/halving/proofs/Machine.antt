-- The machine that halves in place. One output of `space` items holds the whole list: `k` items that are placed stand at its
-- front, and all that waits, given or inserted, stands in order from `s` to its end. A turn tests the last that is placed against
-- the first that waits, and places that, or puts their midpoint before it. Here are the machine's invariant, and a law each for
-- its start, each way through a turn, and its end. `had` items were inserted before: a halving that goes on from there is as
-- good a start as any.
use Prim.Native.Nat.{ℕ, suc, ◌+◌, ◌-◌, ◌*◌, ◌≤◌, ◌<◌}
use native.Mathlib.Numerals.{add-one}
use native.Mathlib.Omega.{arith}
use mathlib.Core.Path.{◌≡◌, refl, sym, ap, ◌∙◌, subst}
use mathlib.Core.Bool.{Bool, true, false}
use mathlib.Core.Option.{none, some}
use mathlib.Core.List.{List, [], ◌∷◌, ◌++◌, append-nil}
use lib.ListN.{length, get_or, take, drop, set, length-append, length-take, length-drop, length-set, drop_of_length-le}
use lib.Seq.{take-suc, drop-cons, append_snoc, drop-set-lt, take-set-le, get_or-set_same, set-get_or, drop-drop}
use Rattle.lists.proofs.Fold.{pushed}
use Rattle.halving.specs.Halving.{step, halve, Done, TooMany, NoSpace}
use Rattle.halving.proofs.Step.{past_divides, past_keeps, step_length, step_one, halve_done, halve_many, halve_more, halve_full}

-- the list that the output holds
abbrev pub whole : {A : Type 0} → List A → ℕ → ℕ → List A
whole o k s = take k o ++ drop s o

-- `had` items were inserted before the machine began with g, and now n are. No two that are placed divide, and what the halving
-- of g comes to is what it comes to from here
pub record State {A : Type 0} (divides : A → A → Bool) (mid : A → A → A) (space limit : ℕ) (g : List A) (had : ℕ) (o : List A) (k s n : ℕ) : Type 0 where
  pub as_long : length o ≡ space
  pub some_placed : 0 < k
  pub apart : k ≤ s
  pub waits : s ≤ space
  pub all : k + (space - s) + had ≡ length g + n
  pub since : had ≤ n
  pub few : n ≤ limit
  pub calm : step divides mid (take k o) ≡ none
  pub same : halve divides mid space (limit - had) had g ≡ halve divides mid space (limit - n) n (whole o k s)

module _ {A : Type 0} {divides : A → A → Bool} {mid : A → A → A} {space limit : ℕ} where
  -- ---- the start
  -- any output in order is a start, for what it holds
  pub start_anywhere : {o : List A} {k s n : ℕ} → length o ≡ space → 0 < k → k ≤ s → s ≤ space → n ≤ limit → step divides mid (take k o) ≡ none
      → State divides mid space limit (whole o k s) n o k s n
  start_anywhere {o} {k} {s} e p a w f c =
      record {
        as_long = e;
        some_placed = p;
        apart = a;
        waits = w;
        all = simp (length-append, length-take, length-drop) (omega arith);
        since = omega arith;
        few = f;
        calm = c;
        same = refl;
      }

  module _ {g : List A} {had : ℕ} where
    -- a halving that went on from a state goes on from where that one began
    pub resumed : {o u : List A} {k s n i j m : ℕ} → State divides mid space limit g had o k s n → State divides mid space limit (whole o k s) n u i j m
        → State divides mid space limit g had u i j m
    resumed {o} {k = k} {s = s} σ τ =
        let e : length (whole o k s) ≡ k + (space - s) = simp (length-append, length-take, length-drop) (omega arith) in
        record {
          as_long = τ.as_long;
          some_placed = τ.some_placed;
          apart = τ.apart;
          waits = τ.waits;
          all = omega arith;
          since = omega arith;
          few = τ.few;
          calm = τ.calm;
          same = σ.same ∙ τ.same;
        }

    -- the first given item is placed, and the others wait at the end
    pub start_placed : (d : A) {o : List A} → length o ≡ space → 0 < length g → length g ≤ space → had ≤ limit → get_or o 0 d ≡ get_or g 0 d
        → drop (space - length g + 1) o ≡ drop 1 g → State divides mid space limit g had o 1 (space - length g + 1) had
    start_placed d {o} e h r f p q =
        let t : take 1 o ≡ get_or g 0 d ∷ [] = take-suc o 0 d (omega arith) ∙ ap (λ (z : A). z ∷ []) p in
        let v : whole o 1 (space - length g + 1) ≡ g = rw (t, q) (sym (drop-cons g 0 d h)) in
        record {
          as_long = e;
          some_placed = omega arith;
          apart = omega arith;
          waits = omega arith;
          all = omega arith;
          since = omega arith;
          few = f;
          calm = ap (step divides mid) t ∙ step_one divides mid (get_or g 0 d);
          same = sym (ap (halve divides mid space (limit - had) had) v);
        }

    -- all given items stand at the end of the output, and the first is then placed. Where they fill the output it is there already
    pub start : (d : A) (o : List A) → length o ≡ space → 0 < length g → length g ≤ space → had ≤ limit → drop (space - length g) o ≡ g
        → State divides mid space limit g had (set o 0 (get_or g 0 d)) 1 (space - length g + 1) had
    start d o e h r f q =
        let x = get_or g 0 d in
        let s = space - length g in
        start_placed d (length-set o 0 x ∙ e) h r f (get_or-set_same o 0 x d (omega arith))
        (drop-set-lt (s + 1) o 0 x (omega arith) ∙ sym (drop-drop 1 s o) ∙ ap (drop 1) q)

    pub start_full : (d : A) {o : List A} → length o ≡ space → 0 < length g → length g ≡ space → had ≤ limit → o ≡ g → State divides mid space limit g had o 1 1 had
    start_full d {o} e h r f q =
        let z : space - length g + 1 ≡ 1 = omega arith in
        subst (λ (j : ℕ). State divides mid space limit g had o 1 j had) z
        (start_placed d e h (omega arith) f (ap (λ (l : List A). get_or l 0 d) q) (ap (λ (j : ℕ). drop j o) z ∙ ap (drop 1) q))

    -- ---- a turn: x was placed last, y is the first that waits, and they divide or not
    module _ {o : List A} {k s n : ℕ} (d : A) (σ : State divides mid space limit g had o k s n) (more : s < space)
        {x y : A} (left : x ≡ get_or o (k - 1) d) (right : y ≡ get_or o s d) where
      last_placed : take k o ≡ take (k - 1) o ++ x ∷ []
      last_placed =
          let e : suc (k - 1) ≡ k = omega arith in
          ap (λ (j : ℕ). take j o) (sym e) ∙ take-suc o (k - 1) d (omega arith) ∙ ap (λ (z : A). take (k - 1) o ++ z ∷ []) (sym left)

      first_waits : drop s o ≡ y ∷ drop (s + 1) o
      first_waits = rw (right, add-one) (drop-cons o s d (omega arith))

      calm_here : step divides mid (take (k - 1) o ++ x ∷ []) ≡ none
      calm_here = sym (ap (step divides mid) last_placed) ∙ σ.calm

      whole_long : length (whole o k s) ≡ k + (space - s)
      whole_long = simp (length-append, length-take, length-drop) (omega arith)

      step_here : divides x y ≡ true → step divides mid (whole o k s) ≡ some (take k o ++ mid x y ∷ drop s o)
      step_here e =
          let p = take (k - 1) o in
          let q = drop (s + 1) o in
          let was : whole o k s ≡ p ++ x ∷ y ∷ q = rw (first_waits, last_placed) (append_snoc p x (y ∷ q)) in
          let is : take k o ++ mid x y ∷ drop s o ≡ p ++ x ∷ mid x y ∷ y ∷ q = rw (first_waits, last_placed) (append_snoc p x (mid x y ∷ y ∷ q)) in
          ap (step divides mid) was ∙ past_divides divides mid p x y q calm_here e ∙ ap some (sym is)

      pub turn_many : divides x y ≡ true → limit ≤ n → halve divides mid space (limit - had) had g ≡ TooMany n
      turn_many e a =
          let w : limit - n ≡ 0 = omega arith in
          σ.same ∙ ap (λ (j : ℕ). halve divides mid space j n (whole o k s)) w ∙ halve_many divides mid space n _ _ (step_here e)

      pub turn_full : divides x y ≡ true → n < limit → s ≤ k → halve divides mid space (limit - had) had g ≡ NoSpace n
      turn_full e a b =
          let w : limit - n ≡ suc (limit - (n + 1)) = omega arith in
          let long : space < length (take k o ++ mid x y ∷ drop s o) = omega (arith, step_length divides mid _ _ (step_here e), whole_long) in
          σ.same ∙ ap (λ (j : ℕ). halve divides mid space j n (whole o k s)) w ∙ halve_full divides mid space (limit - (n + 1)) n _ _ (step_here e) long

      pub turn_insert : {m : A} → m ≡ mid x y → divides x y ≡ true → n < limit → k < s → State divides mid space limit g had (set o (s - 1) m) k (s - 1) (n + 1)
      turn_insert {m} f e a b =
          let q = s - 1 in
          let u = set o q m in
          let z : suc q ≡ s = omega arith in
          let within : q < length o = omega arith in
          let within' : q < length u = rw length-set within in
          let front : take k u ≡ take k o = take-set-le k o q m (omega arith) in
          let back : drop q u ≡ m ∷ drop s o =
          drop-cons u q d within' ∙ ap (λ (t : A). t ∷ drop (suc q) u) (get_or-set_same o q m d within)
          ∙ ap (λ (r : List A). m ∷ r) (drop-set-lt (suc q) o q m (omega arith) ∙ ap (λ (j : ℕ). drop j o) z) in
          let now : whole u k q ≡ take k o ++ mid x y ∷ drop s o = rw (front, back, f) in
          let w : limit - n ≡ suc (limit - (n + 1)) = omega arith in
          let long : length (take k o ++ mid x y ∷ drop s o) ≤ space = omega (arith, step_length divides mid _ _ (step_here e), whole_long) in
          record {
            as_long = length-set o q m ∙ σ.as_long;
            some_placed = σ.some_placed;
            apart = omega arith;
            waits = omega arith;
            all = omega arith;
            since = omega arith;
            few = omega arith;
            calm = ap (step divides mid) front ∙ σ.calm;
            same =
                σ.same ∙ ap (λ (j : ℕ). halve divides mid space j n (whole o k s)) w
                ∙ halve_more divides mid space (limit - (n + 1)) n _ _ (step_here e) long
                ∙ ap (λ (j : ℕ). halve divides mid space (limit - (n + 1)) j (take k o ++ mid x y ∷ drop s o)) (sym (add-one n))
                ∙ ap (halve divides mid space (limit - (n + 1)) (n + 1)) (sym now);
          }

      pub turn_place : divides x y ≡ false → State divides mid space limit g had (set o k y) (k + 1) (s + 1) n
      turn_place e =
          let p = take (k - 1) o in
          let front : take (k + 1) (set o k y) ≡ take k o ++ y ∷ [] = pushed o k y (omega arith) in
          let back : drop (s + 1) (set o k y) ≡ drop (s + 1) o = drop-set-lt (s + 1) o k y (omega arith) in
          let now : whole (set o k y) (k + 1) (s + 1) ≡ whole o k s = rw (front, back, first_waits) (append_snoc (take k o) y (drop (s + 1) o)) in
          let last-two : take k o ++ y ∷ [] ≡ p ++ x ∷ y ∷ [] = rw last_placed (append_snoc p x (y ∷ [])) in
          record {
            as_long = length-set o k y ∙ σ.as_long;
            some_placed = omega arith;
            apart = omega arith;
            waits = omega arith;
            all = omega arith;
            since = σ.since;
            few = σ.few;
            calm = ap (step divides mid) (front ∙ last-two) ∙ past_keeps divides mid p x y calm_here e;
            same = σ.same ∙ ap (halve divides mid space (limit - n) n) (sym now);
          }

      -- where no item is free, the first that waits stands in its place
      pub turn_stay : divides x y ≡ false → s ≤ k → State divides mid space limit g had o (k + 1) (s + 1) n
      turn_stay e h =
          let z : s ≡ k = omega arith in
          let in_place : set o k y ≡ o = rw right (ap (λ (j : ℕ). set o k (get_or o j d)) z ∙ set-get_or o k d) in
          subst (λ (u : List A). State divides mid space limit g had u (k + 1) (s + 1) n) in_place (turn_place e)

    -- ---- the end: nothing waits
    pub finish : {o : List A} {k s n : ℕ} → State divides mid space limit g had o k s n → space ≤ s → halve divides mid space (limit - had) had g ≡ Done n (take k o)
    finish {o} {k} {s} {n} σ h =
        let t : drop s o ≡ [] = drop_of_length-le o {i = s} (omega arith) in
        let v : whole o k s ≡ take k o = rw t (append-nil (take k o)) in
        σ.same ∙ ap (halve divides mid space (limit - n) n) v ∙ halve_done divides mid space (limit - n) n (take k o) σ.calm

-- ---- the measure, and the number of tests
-- Each turn lowers what is to do by one: an insertion takes two and adds one that waits, a placing takes one.
abbrev pub to_do : (space limit s n : ℕ) → ℕ
to_do space limit s n = 2 * (limit - n) + (space - s)

inserting : (space limit s n : ℕ) → n < limit → 0 < s → s ≤ space → to_do space limit (s - 1) (n + 1) + 1 ≡ to_do space limit s n
inserting space limit s n h p w = omega arith

placing : (a space s : ℕ) → s < space → a + (space - (s + 1)) + 1 ≡ a + (space - s)
placing a space s h = omega arith

at_most : (k w had c n : ℕ) → 0 < k → k + w + had ≡ c + n → had ≤ n → (k - 1) + (n - had) ≤ (c - 1) + 2 * (n - had)
at_most k w had c n p e h = omega arith

below : (k w had c n : ℕ) → 0 < k → 0 < w → k + w + had ≡ c + n → had ≤ n → (k - 1) + (n - had) < (c - 1) + 2 * (n - had)
below k w had c n p q e h = omega arith

exactly : (k had c n : ℕ) → 0 < k → k + had ≡ c + n → had ≤ n → 0 < c → (k - 1) + (n - had) ≡ (c - 1) + 2 * (n - had)
exactly k had c n p e h q = omega arith

module _ {A : Type 0} {divides : A → A → Bool} {mid : A → A → A} {space limit : ℕ} {g : List A} {had : ℕ} {o : List A} {k s n : ℕ}
    (σ : State divides mid space limit g had o k s n) where
  pub inserting_is_one : n < limit → k < s → to_do space limit (s - 1) (n + 1) + 1 ≡ to_do space limit s n
  inserting_is_one h b = inserting space limit s n h (omega arith) σ.waits

  pub placing_is_one : s < space → to_do space limit (s + 1) n + 1 ≡ to_do space limit s n
  placing_is_one h = placing (2 * (limit - n)) space s h

  pub falls_inserting : n < limit → k < s → to_do space limit (s - 1) (n + 1) < to_do space limit s n
  falls_inserting h b = let e = inserting_is_one h b in omega arith

  pub falls_placing : s < space → to_do space limit (s + 1) n < to_do space limit s n
  falls_placing h = let e = placing_is_one h in omega arith

  -- A turn raises k or n by one, so (k - 1) + (n - had) counts the turns, each with one test: never more than one for each two
  -- given neighbours and two for each insertion, the test before a refusal among them; and exactly as many where all is placed.
  pub tests_at_most : (k - 1) + (n - had) ≤ (length g - 1) + 2 * (n - had)
  tests_at_most = at_most k (space - s) had (length g) n σ.some_placed σ.all σ.since

  pub tests_below : s < space → (k - 1) + (n - had) < (length g - 1) + 2 * (n - had)
  tests_below h = below k (space - s) had (length g) n σ.some_placed (omega arith) σ.all σ.since

  pub tests_exactly : space ≤ s → 0 < length g → (k - 1) + (n - had) ≡ (length g - 1) + 2 * (n - had)
  tests_exactly h q = exactly k had (length g) n σ.some_placed (omega arith) σ.since q
