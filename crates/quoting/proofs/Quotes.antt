-- A machine that halves and keeps no list: it holds the last item of those in which no two divide, and what waits. Its
-- count is the halving's, and what it has counted so far is what the halving has cost.
use Prim.Native.Nat.{ℕ, zero, suc, ◌+◌, ◌-◌, ◌≤◌, ◌<◌}
use native.Mathlib.Nat.{sub-zero}
use native.Mathlib.Numerals.{add-one}
use native.Mathlib.Omega.{arith}
use mathlib.Core.Path.{◌≡◌, refl, sym, ap, ◌∙◌}
use mathlib.Core.Bool.{Bool, true, false}
use mathlib.Core.Option.{none, some}
use mathlib.Core.List.{List, [], ◌∷◌, ◌++◌}
use lib.Seq.{append_snoc}
use lib.ListN.{length}
use Rattle.halving.specs.Halving.{step, halve, Done, TooMany}
use Rattle.halving.proofs.Step.{none_cases, past_divides, past_keeps, step_length, step_one, halve_done, halve_many, halve_more}
use Rattle.quoting.specs.Costing.{tested, newly, stepping, evaluations}

module _ {A : Type 0} (divides : A → A → Bool) (mid : A → A → A) (cost : A → A → ℕ) where
  -- behind a front in which no two divide, a step's new neighbours are those of the first two that divide
  past_newly : (p : List A) (x y : A) (t : List A) → step divides mid (p ++ x ∷ []) ≡ none → divides x y ≡ true
      → newly divides mid cost (p ++ x ∷ y ∷ t) ≡ cost x (mid x y) + cost (mid x y) y
  unfolding newly
  past_newly [] x y t h e = rw e
  past_newly (a ∷ []) x y t h e = let c = none_cases divides mid a x [] h in rw (c.0, e)
  past_newly (a ∷ b ∷ p) x y t h e = let c = none_cases divides mid a b (p ++ x ∷ []) h in rw c.0 (past_newly (b ∷ p) x y t c.1 e)

  stepping_more : (left : ℕ) (l m : List A) → step divides mid l ≡ some m → stepping divides mid cost (suc left) l ≡ 1 + newly divides mid cost l + stepping divides mid cost left m
  unfolding stepping
  stepping_more left l m e = rw (e, stepping)

  stepping_none : (left : ℕ) (l : List A) → step divides mid l ≡ none → stepping divides mid cost left l ≡ 0
  unfolding stepping
  stepping_none zero l e = refl
  stepping_none (suc left) l e = rw (e, stepping)

  -- nothing costs nothing
  pub none_costs : (limit : ℕ) → evaluations divides mid cost limit [] ≡ 0
  unfolding evaluations tested step
  none_costs limit = ap (λ (n : ℕ). 0 + n) (stepping_none limit [] refl)

  module _ (space limit : ℕ) (g : List A) where
    -- `p` stands nowhere: the items before x, of which no two divide. n are inserted, and `spent` is counted; what is left
    -- to count are the neighbours from x on, and what the steps from here add.
    pub record Quoting (p : List A) (x : A) (w : List A) (n spent : ℕ) : Type 0 where
      pub room : length g + limit ≤ space
      pub few : n ≤ limit
      pub long : length (p ++ x ∷ w) ≡ length g + n
      pub calm : step divides mid (p ++ x ∷ []) ≡ none
      pub same : halve divides mid space limit 0 g ≡ halve divides mid space (limit - n) n (p ++ x ∷ w)
      pub cost_is : evaluations divides mid cost limit g ≡ spent + tested divides mid cost (x ∷ w) + stepping divides mid cost (limit - n) (p ++ x ∷ w)

    pub quoting_start : (x : A) (w : List A) → g ≡ x ∷ w → length g + limit ≤ space → Quoting [] x w 0 0
    unfolding evaluations
    quoting_start x w e r = record {
      room = r;
      few = omega arith;
      long = ap length (sym e) ∙ is_plus_zero (length g);
      calm = step_one divides mid x;
      same = ap (halve divides mid space limit 0) e ∙ ap (λ (k : ℕ). halve divides mid space k 0 (x ∷ w)) (sym (sub-zero limit));
      cost_is = ap (λ (l : List A). tested divides mid cost l + stepping divides mid cost limit l) e ∙ ap (λ (k : ℕ). tested divides mid cost (x ∷ w) + stepping divides mid cost k (x ∷ w)) (sym (sub-zero limit)) ∙ zero_plus _ _;
    }
      where
        is_plus_zero : (k : ℕ) → k ≡ k + 0
        is_plus_zero k = omega arith

        zero_plus : (a b : ℕ) → a + b ≡ 0 + a + b
        zero_plus a b = omega arith

    module _ {p : List A} {x y : A} {w : List A} {n spent : ℕ} (q : Quoting p x (y ∷ w) n spent) where
      here : divides x y ≡ true → step divides mid (p ++ x ∷ y ∷ w) ≡ some (p ++ x ∷ mid x y ∷ y ∷ w)
      here e = past_divides divides mid p x y w q.calm e

      pub quoting_keep : divides x y ≡ false → Quoting (p ++ x ∷ []) y w n (spent + cost x y)
      unfolding tested
      quoting_keep e =
          let z : (p ++ x ∷ []) ++ y ∷ w ≡ p ++ x ∷ y ∷ w = append_snoc p x (y ∷ w) in
          record {
            room = q.room;
            few = q.few;
            long = ap length z ∙ q.long;
            calm = ap (step divides mid) (append_snoc p x (y ∷ [])) ∙ past_keeps divides mid p x y q.calm e;
            same = q.same ∙ ap (halve divides mid space (limit - n) n) (sym z);
            cost_is = q.cost_is ∙ moved spent (cost x y) (tested divides mid cost (y ∷ w)) (stepping divides mid cost (limit - n) (p ++ x ∷ y ∷ w))
                ∙ ap (λ (l : List A). spent + cost x y + tested divides mid cost (y ∷ w) + stepping divides mid cost (limit - n) l) (sym z);
          }
        where
          moved : (a b c d : ℕ) → a + (b + c) + d ≡ a + b + c + d
          moved a b c d = omega arith

      pub quoting_insert : divides x y ≡ true → n < limit → Quoting p x (mid x y ∷ y ∷ w) (n + 1) (spent + cost x y + 1)
      unfolding tested
      quoting_insert e h =
          let m = mid x y in
          let next = p ++ x ∷ m ∷ y ∷ w in
          let s = step_length divides mid (p ++ x ∷ y ∷ w) next (here e) in
          let k : limit - n ≡ suc (limit - (n + 1)) = omega arith in
          let fits : length next ≤ space = fit (length next) (length (p ++ x ∷ y ∷ w)) (length g) s q.long q.room in
          record {
            room = q.room;
            few = omega arith;
            long = longer (length next) (length (p ++ x ∷ y ∷ w)) (length g) s q.long;
            calm = q.calm;
            same = q.same ∙ ap (λ (j : ℕ). halve divides mid space j n (p ++ x ∷ y ∷ w)) k ∙ halve_more divides mid space (limit - (n + 1)) n _ _ (here e) fits
                ∙ ap (λ (j : ℕ). halve divides mid space (limit - (n + 1)) j next) (sym (add-one n));
            cost_is = q.cost_is ∙ ap (λ (j : ℕ). spent + (cost x y + tested divides mid cost (y ∷ w)) + stepping divides mid cost j (p ++ x ∷ y ∷ w)) k
                ∙ ap (λ (j : ℕ). spent + (cost x y + tested divides mid cost (y ∷ w)) + j) (stepping_more (limit - (n + 1)) _ _ (here e))
                ∙ ap (λ (j : ℕ). spent + (cost x y + tested divides mid cost (y ∷ w)) + (1 + j + stepping divides mid cost (limit - (n + 1)) next)) (past_newly p x y w q.calm e)
                ∙ moved spent (cost x y) (tested divides mid cost (y ∷ w)) (cost x m) (cost m y) (stepping divides mid cost (limit - (n + 1)) next);
          }
        where
          moved : (a b c d e f : ℕ) → a + (b + c) + (1 + (d + e) + f) ≡ a + b + 1 + (d + (e + c)) + f
          moved a b c d e f = omega arith

          fit : (a b c : ℕ) → a ≡ suc b → b ≡ c + n → c + limit ≤ space → a ≤ space
          fit a b c u v r = omega arith

          longer : (a b c : ℕ) → a ≡ suc b → b ≡ c + n → a ≡ c + (n + 1)
          longer a b c u v = omega arith

      pub quoting_many : divides x y ≡ true → limit ≤ n → halve divides mid space limit 0 g ≡ TooMany n
      quoting_many e h =
          let k : limit - n ≡ 0 = omega arith in
          q.same ∙ ap (λ (j : ℕ). halve divides mid space j n (p ++ x ∷ y ∷ w)) k ∙ halve_many divides mid space n _ _ (here e)

    -- nothing waits
    pub quoting_end : {p : List A} {x : A} {n spent : ℕ} → Quoting p x [] n spent → (halve divides mid space limit 0 g ≡ Done n (p ++ x ∷ [])) × (evaluations divides mid cost limit g ≡ spent)
    unfolding tested
    quoting_end {p} {x} {n} {spent} q = (
      q.same ∙ halve_done divides mid space (limit - n) n (p ++ x ∷ []) q.calm,
      q.cost_is ∙ ap (λ (j : ℕ). spent + 0 + j) (stepping_none (limit - n) (p ++ x ∷ []) q.calm) ∙ plain spent,
    )
      where
        plain : (a : ℕ) → a + 0 + 0 ≡ a
        plain a = omega arith
