-- How a halving ends, said of steps without a cap: each answer with the steps that lead to it, and each exactly when. Then all
-- that holds of a halving that is done.
use Prim.Native.Nat.{ℕ, zero, suc, ◌+◌, ◌-◌, ◌≤◌, ◌<◌}
use native.Mathlib.Nat.{add-zero, sub-zero}
use native.Mathlib.Omega.{arith}
use native.Mathlib.Decide.{dec_le}
use mathlib.Core.Path.{◌≡◌, refl, sym, ap, ◌∙◌, subst}
use mathlib.Core.Logic.{◌↔◌}
use mathlib.Core.Bool.{Bool}
use mathlib.Core.Option.{Option, none, some}
use mathlib.Core.List.{List, Sublistᴰ}
use lib.ListN.{length}
use Rattle.halving.specs.Halving.{step, halve, Answer, Done, TooMany, NoSpace, Steps, here, more, Needs}
use Rattle.halving.proofs.Step.{step_length, halve_done, halve_many, halve_more, halve_full}
use Rattle.halving.proofs.Steps.{Kept, none_kept, steps_length, steps_more, steps_last, steps_sub, Woven, steps_woven}

-- the answers are three: each tells what it holds, and none is another
done_list : {A : Type 0} {b c : ℕ} {l r : List A} → Done b l ≡ Done c r → l ≡ r
done_list e = cc

done_number : {A : Type 0} {b c : ℕ} {l r : List A} → Done b l ≡ Done c r → b ≡ c
done_number e = cc

many_number : {A : Type 0} {b c : ℕ} → ◌≡◌ {A = Answer A} (TooMany b) (TooMany c) → c ≡ b
many_number e = cc

full_number : {A : Type 0} {b c : ℕ} → ◌≡◌ {A = Answer A} (NoSpace b) (NoSpace c) → c ≡ b
full_number e = cc

done_many : {A : Type 0} {B : Type 0} {b c : ℕ} {l : List A} → Done b l ≡ TooMany c → B
done_many e = let z : ◌≡◌ {A = ℕ} 0 1 = cc in absurd (omega arith)

done_full : {A : Type 0} {B : Type 0} {b c : ℕ} {l : List A} → Done b l ≡ NoSpace c → B
done_full e = let z : ◌≡◌ {A = ℕ} 0 1 = cc in absurd (omega arith)

many_full : {A : Type 0} {B : Type 0} {b c : ℕ} → ◌≡◌ {A = Answer A} (TooMany b) (NoSpace c) → B
many_full e = let z : ◌≡◌ {A = ℕ} 0 1 = cc in absurd (omega arith)

module _ {A : Type 0} (divides : A → A → Bool) (mid : A → A → A) (space : ℕ) where
  -- ---- from the steps to the answer
  -- a halving goes on from whatever list its steps have led to
  pub halve_on : {l m : List A} {j : ℕ} (left n : ℕ) → Steps divides mid l j m → j ≤ left → length m ≤ space
      → halve divides mid space left n l ≡ halve divides mid space (left - j) (n + j) m
  halve_on left n here a b = rw (sub-zero, add-zero)
  halve_on zero n (more h s) a b = absurd (omega arith)
  halve_on (suc left) n (more {l = l} {m = m} {r = r} {j = j} h s) a b =
      let c = steps_length divides mid s in
      let e : left - j ≡ suc left - suc j = omega arith in
      let f : suc n + j ≡ n + suc j = omega arith in
      halve_more divides mid space left n l m h (omega arith) ∙ halve_on left (suc n) s (omega arith) b
      ∙ ap (λ (i : ℕ). halve divides mid space i (suc n + j) r) e ∙ ap (λ (i : ℕ). halve divides mid space (suc left - suc j) i r) f

  pub ends_done : {l r : List A} {j : ℕ} (left n : ℕ) → Steps divides mid l j r → step divides mid r ≡ none → j ≤ left → length r ≤ space
      → halve divides mid space left n l ≡ Done (n + j) r
  ends_done {r = r} {j = j} left n s e a b = halve_on left n s a b ∙ halve_done divides mid space (left - j) (n + j) r e

  pub ends_many : {l r m : List A} (left n : ℕ) → Steps divides mid l left r → step divides mid r ≡ some m → length r ≤ space
      → halve divides mid space left n l ≡ TooMany (n + left)
  ends_many {r = r} {m = m} left n s e b =
      let z : left - left ≡ 0 = omega arith in
      halve_on left n s (omega arith) b ∙ ap (λ (i : ℕ). halve divides mid space i (n + left) r) z ∙ halve_many divides mid space (n + left) r m e

  pub ends_full : {l r m : List A} {j : ℕ} (left n : ℕ) → Steps divides mid l j r → step divides mid r ≡ some m → j < left → length r ≡ space
      → halve divides mid space left n l ≡ NoSpace (n + j)
  ends_full {r = r} {m = m} {j = j} left n s e a b =
      let z : left - j ≡ suc (left - suc j) = omega arith in
      let c = step_length divides mid r m e in
      halve_on left n s (omega arith) (omega arith) ∙ ap (λ (i : ℕ). halve divides mid space i (n + j) r) z
      ∙ halve_full divides mid space (left - suc j) (n + j) r m e (omega arith)

  -- ---- from the answer to the steps
  pub data Ended (left n : ℕ) (l : List A) : Answer A → Type 0 where
    done : {j : ℕ} {r : List A} → Steps divides mid l j r → step divides mid r ≡ none → j ≤ left → (length l ≤ space → length r ≤ space)
        → Ended left n l (Done (n + j) r)
    many : {r m : List A} → Steps divides mid l left r → step divides mid r ≡ some m → (length l ≤ space → length r ≤ space)
        → Ended left n l (TooMany (n + left))
    full : {j : ℕ} {r m : List A} → Steps divides mid l j r → step divides mid r ≡ some m → j < left → (length l ≤ space → length r ≡ space)
        → Ended left n l (NoSpace (n + j))

  longer : (left n : ℕ) (l m : List A) (a : Answer A) → step divides mid l ≡ some m → length m ≤ space → Ended left (suc n) m a → Ended (suc left) n l a
  longer left n l m _ h b (done {j = j} {r = r} s e c f) =
      let z : n + suc j ≡ suc n + j = omega arith in
      subst (λ (k : ℕ). Ended (suc left) n l (Done k r)) z (done (more h s) e (omega arith) (λ _. f b))
  longer left n l m _ h b (many s e f) =
      let z : n + suc left ≡ suc n + left = omega arith in
      subst (λ (k : ℕ). Ended (suc left) n l (TooMany k)) z (many (more h s) e (λ _. f b))
  longer left n l m _ h b (full {j = j} s e c f) =
      let z : n + suc j ≡ suc n + j = omega arith in
      subst (λ (k : ℕ). Ended (suc left) n l (NoSpace k)) z (full (more h s) e (omega arith) (λ _. f b))

  pub halve_ended : (left n : ℕ) (l : List A) → Ended left n l (halve divides mid space left n l)
  halve_ended zero n l = go (step divides mid l) refl
    where
      go : (o : Option (List A)) → step divides mid l ≡ o → Ended 0 n l (halve divides mid space 0 n l)
      go none e = subst (Ended 0 n l) (sym (halve_done divides mid space 0 n l e ∙ ap (λ (k : ℕ). Done k l) (sym (add-zero n)))) (done here e (omega arith) (λ h. h))
      go (some m) e = subst (Ended 0 n l) (sym (halve_many divides mid space n l m e ∙ ap TooMany (sym (add-zero n)))) (many here e (λ h. h))
  halve_ended (suc left) n l = go (step divides mid l) refl (halve_ended left (suc n))
    where
      fits : (m : List A) → step divides mid l ≡ some m → ((k : List A) → Ended left (suc n) k (halve divides mid space left (suc n) k)) → Dec (length m ≤ space)
          → Ended (suc left) n l (halve divides mid space (suc left) n l)
      fits m e ih (yes h) = subst (Ended (suc left) n l) (sym (halve_more divides mid space left n l m e h)) (longer left n l m _ e h (ih m))
      fits m e ih (no h) =
          let b : space < length m = omega arith in
          let c = step_length divides mid l m e in
          subst (Ended (suc left) n l) (sym (halve_full divides mid space left n l m e b ∙ ap NoSpace (sym (add-zero n)))) (full here e (omega arith) (λ z. omega arith))

      go : (o : Option (List A)) → step divides mid l ≡ o → ((k : List A) → Ended left (suc n) k (halve divides mid space left (suc n) k))
          → Ended (suc left) n l (halve divides mid space (suc left) n l)
      go none e ih = subst (Ended (suc left) n l) (sym (halve_done divides mid space (suc left) n l e ∙ ap (λ (k : ℕ). Done k l) (sym (add-zero n)))) (done here e (omega arith) (λ h. h))
      go (some m) e ih = fits m e ih (dec_le (length m) space)

  -- ---- too many
  many_of : {left n c : ℕ} {l : List A} {a : Answer A} → Ended left n l a → a ≡ TooMany c
      → (c ≡ n + left) × ((r : List A) × (Steps divides mid l left r × (Needs divides mid (suc left) l × (length l ≤ space → length r ≤ space))))
  many_of (done s e h f) w = done_many w
  many_of (many {r = r} {m = m} s e f) w = (many_number w, (r, (s, ((m, steps_more divides mid s e), f))))
  many_of (full s e h f) w = many_full (sym w)

  -- the number that it says: all that may be inserted have been
  pub many_count : (left n c : ℕ) (l : List A) → halve divides mid space left n l ≡ TooMany c → c ≡ n + left
  many_count left n c l w = (many_of (halve_ended left n l) w).0

  -- with space for all that may be inserted, it is too many exactly where one more is needed
  pub many_exactly : (left n : ℕ) (l : List A) → length l + left ≤ space
      → ((c : ℕ) × (halve divides mid space left n l ≡ TooMany c)) ↔ Needs divides mid (suc left) l
  many_exactly left n l b = (λ w. (many_of (halve_ended left n l) w.1).1.1.1.0, λ w. back (steps_last divides mid left w.1))
    where
      back : {m : List A} → (r : List A) × (Steps divides mid l left r × (step divides mid r ≡ some m)) → (c : ℕ) × (halve divides mid space left n l ≡ TooMany c)
      back (r, (s, e)) = let f = steps_length divides mid s in (n + left, ends_many left n s e (omega arith))

  -- with less it never is
  pub never_many : {B : Type 0} (left n c : ℕ) (l : List A) → length l ≤ space → space < length l + left → halve divides mid space left n l ≡ TooMany c → B
  never_many left n c l a b w =
      let (r, q) = (many_of (halve_ended left n l) w).1 in
      let f = steps_length divides mid q.0 in
      let g = q.1.1 a in
      absurd (omega arith)

  -- ---- no space
  full_of : {left n c : ℕ} {l : List A} {a : Answer A} → Ended left n l a → a ≡ NoSpace c → length l ≤ space
      → (j : ℕ) × ((c ≡ n + j) × ((j < left) × ((length l + j ≡ space) × Needs divides mid (suc j) l)))
  full_of (done s e h f) w b = done_full w
  full_of (many s e f) w b = many_full w
  full_of (full {j = j} {m = m} s e h f) w b = (j, (full_number w, (h, (sym (steps_length divides mid s) ∙ f b, (m, steps_more divides mid s e)))))

  -- the number that it says: the space is used up
  pub full_count : (left n c : ℕ) (l : List A) → length l ≤ space → halve divides mid space left n l ≡ NoSpace c → c ≡ n + (space - length l)
  full_count left n c l b w = let (j, q) = full_of (halve_ended left n l) w b in let e = q.0 in let f = q.1.1.0 in omega arith

  -- with less space than for all that may be inserted, there is none exactly where more is needed than there is
  pub full_exactly : (left n : ℕ) (l : List A) → length l ≤ space → space < length l + left
      → ((c : ℕ) × (halve divides mid space left n l ≡ NoSpace c)) ↔ Needs divides mid (suc (space - length l)) l
  full_exactly left n l a b = (λ w. on (full_of (halve_ended left n l) w.1 a), λ w. back (steps_last divides mid (space - length l) w.1))
    where
      on : {c : ℕ} → (j : ℕ) × ((c ≡ n + j) × ((j < left) × ((length l + j ≡ space) × Needs divides mid (suc j) l))) → Needs divides mid (suc (space - length l)) l
      on (j, q) =
          let f = q.1.1.0 in
          let e : j ≡ space - length l = omega arith in
          subst (λ (i : ℕ). Needs divides mid (suc i) l) e q.1.1.1

      back : {m : List A} → (r : List A) × (Steps divides mid l (space - length l) r × (step divides mid r ≡ some m)) → (c : ℕ) × (halve divides mid space left n l ≡ NoSpace c)
      back (r, (s, e)) = let f = steps_length divides mid s in (n + (space - length l), ends_full left n s e (omega arith) (omega arith))

  -- with space for all it never comes to that
  pub never_full : {B : Type 0} (left n c : ℕ) (l : List A) → length l + left ≤ space → halve divides mid space left n l ≡ NoSpace c → B
  never_full left n c l a w =
      let (j, q) = full_of (halve_ended left n l) w (omega arith) in
      let f = q.1.0 in
      let g = q.1.1.0 in
      absurd (omega arith)

  -- ---- done: from l, with j inserted and the result r
  pub record Result (left : ℕ) (l : List A) (j : ℕ) (r : List A) : Type 0 where
    pub steps : Steps divides mid l j r
    pub ended : step divides mid r ≡ none
    pub in_order : Sublistᴰ l r
    pub midpoints : Woven divides mid l j r
    pub kept : Kept divides mid r
    pub counted : length r ≡ length l + j
    pub few : j ≤ left
    pub fits : length r ≤ space

  done_of : {left n c : ℕ} {l r : List A} {a : Answer A} → Ended left n l a → a ≡ Done c r → length l ≤ space → (n ≤ c) × Result left l (c - n) r
  done_of {left} {n} {c} {l} {r} (done {j = j} {r = q} s e h f) w b =
      let v : n + j ≡ c = done_number w in
      let z : j ≡ c - n = omega arith in
      let result : Result left l j q =
      record {
        steps = s;
        ended = e;
        in_order = steps_sub divides mid s;
        midpoints = steps_woven divides mid s;
        kept = none_kept divides mid q e;
        counted = steps_length divides mid s;
        few = h;
        fits = f b;
      } in
      (omega arith, subst (λ (i : ℕ). Result left l i r) z (subst (Result left l j) (done_list w) result))
  done_of (many s e f) w b = done_many (sym w)
  done_of (full s e h f) w b = done_full (sym w)

  -- of a halving that goes on with n inserted before, and of one from the start
  pub result_on : (left n c : ℕ) (l r : List A) → length l ≤ space → halve divides mid space left n l ≡ Done c r → (n ≤ c) × Result left l (c - n) r
  result_on left n c l r b w = done_of (halve_ended left n l) w b

  pub result : (limit c : ℕ) (g r : List A) → length g ≤ space → halve divides mid space limit 0 g ≡ Done c r → Result limit g c r
  result limit c g r b w = subst (λ (j : ℕ). Result limit g j r) (sub-zero c) (result_on limit 0 c g r b w).1

  -- a result halved again is itself, whatever the space and the limit then
  ended_of : {left n c : ℕ} {l r : List A} {a : Answer A} → Ended left n l a → a ≡ Done c r → step divides mid r ≡ none
  ended_of (done s e h f) w = subst (λ (z : List A). step divides mid z ≡ none) (done_list w) e
  ended_of (many s e f) w = done_many (sym w)
  ended_of (full s e h f) w = done_full (sym w)

  pub again : (left n c : ℕ) (l r : List A) → halve divides mid space left n l ≡ Done c r → (room limit m : ℕ) → halve divides mid room limit m r ≡ Done m r
  again left n c l r w room limit m = halve_done divides mid room limit m r (ended_of (halve_ended left n l) w)
