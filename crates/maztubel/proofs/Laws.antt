-- A slice form, over the list of what `trig` answers: a search for a refusal, and a loop that writes. A record for the loop's
-- invariant, a law each for its start, its step and its end, and one law for each number that a slice form answers.
use Prim.Native.Nat.{ℕ, zero, suc, ◌+◌, ◌≤◌, ◌<◌}
use native.Mathlib.Nat.{not-suc-le-zero, le_of_suc-le-suc, suc_inj}
use native.Mathlib.Numerals.{add-one}
use native.Mathlib.Omega.{arith}
use mathlib.Core.Path.{◌≡◌, refl, sym, ap, ◌∙◌}
use mathlib.Core.Bool.{Bool, true, false, ◌||◌}
use mathlib.Core.List.{List, [], ◌∷◌, ◌++◌, map}
use lib.ListN.{length, take, drop, get_or, set, length-set}
use lib.Ieee.{Float}
use Rattle.std.specs.List.{list_any, zip}
use Rattle.std.specs.Prelude.{Option, Some, None}
use Rattle.std.specs.Option.{unwrap_or}
use Rattle.lists.specs.Search.{any}
use Rattle.lists.specs.Rows.{paired}
use Rattle.refusal.specs.Numbers.{served, number_of}
use Rattle.refusal.specs.declared.Cause.{Cause}
use Rattle.maztubel.specs.Answers.{written_over, refuses, number_of_all}

-- the answer, or what stood there
pub written_or : (a : Option Float) (before : Float) → unwrap_or a before ≡ written_over a before
written_or (Some v) before = refl
written_or None before = refl

-- what `trig` answers for the argument at i stands at i in the list of its answers
pub told_map : {X : Type 0} (f : X → Option Float) (l : List X) (i : ℕ) (x : X) (d : Option Float) → i < length l → f (get_or l i x) ≡ get_or (map f l) i d
told_map f [] i x d h = absurd (not-suc-le-zero h)
told_map f (y ∷ l) zero x d h = refl
told_map f (y ∷ l) (suc i) x d h = told_map f l i x d (le_of_suc-le-suc h)

module _ (same : Bool) (told : List (Option Float)) where
  pub number_lengths : same ≡ false → number_of Cause.LengthsDiffer ≡ number_of_all same told
  unfolding number_of_all
  number_lengths e = rw e

  module _ (e : same ≡ true) where
    pub number_refused : any refuses told ≡ true → number_of Cause.TooLarge ≡ number_of_all same told
    unfolding number_of_all
    number_refused r = rw (e, r)

    pub number_served : any refuses told ≡ false → served ≡ number_of_all same told
    unfolding number_of_all
    number_served r = rw (e, r)

-- whether an argument is refused, over the list of the answers
pub any_told : {X : Type 0} (f : X → Option Float) (l : List X) → list_any (λ x. refuses (f x)) l ≡ any refuses (map f l)
unfolding any
any_told f [] = refl
any_told f (x ∷ l) = ap (λ b. refuses (f x) || b) (any_told f l)

pub any_told_pairs : {X Y : Type 0} (f : X → Y → Option Float) (l : List X) (m : List Y) → list_any (λ p. refuses (f p.0 p.1)) (zip l m) ≡ any refuses (paired f l m)
unfolding any paired
any_told_pairs f [] m = refl
any_told_pairs f (x ∷ l) [] = refl
any_told_pairs f (x ∷ l) (y ∷ m) = ap (λ b. refuses (f x y) || b) (any_told_pairs f l m)

-- the first k answers, written over the first k lent numbers
unfoldable pub over : ℕ → List (Option Float) → List Float → List Float
over k told lent = paired written_over (take k told) (take k lent) ++ drop k lent

over_none : (told : List (Option Float)) (lent : List Float) → over 0 told lent ≡ lent
unfolding paired over
over_none told lent = refl

over_suc : (k : ℕ) (told : List (Option Float)) (lent : List Float) (a : Option Float) (x : Float) → k < length told → k < length lent
    → set (over k told lent) k (written_over (get_or told k a) (get_or (over k told lent) k x)) ≡ over (suc k) told lent
unfolding paired over
over_suc k [] lent a x p q = absurd (not-suc-le-zero p)
over_suc k (b ∷ told) [] a x p q = absurd (not-suc-le-zero q)
over_suc zero (b ∷ told) (y ∷ lent) a x p q = refl
over_suc (suc k) (b ∷ told) (y ∷ lent) a x p q =
    ap (λ (l : List Float). written_over b y ∷ l) (over_suc k told lent a x (le_of_suc-le-suc p) (le_of_suc-le-suc q))

over_all : (told : List (Option Float)) (lent : List Float) → length told ≡ length lent → over (length told) told lent ≡ paired written_over told lent
unfolding paired over
over_all [] [] e = refl
over_all [] (y ∷ lent) e = absurd (omega arith)
over_all (b ∷ told) [] e = absurd (omega arith)
over_all (b ∷ told) (y ∷ lent) e = ap (λ (l : List Float). written_over b y ∷ l) (over_all told lent (suc_inj e))

-- out is what was lent, after k of n answers are written
pub record Writing (told : List (Option Float)) (lent : List Float) (n : ℕ) (out : List Float) (k : ℕ) : Type 0 where
  pub within : k ≤ n
  pub answered : length told ≡ n
  pub lent_long : length lent ≡ n
  pub as_long : length out ≡ n
  pub whole : out ≡ over k told lent

module _ {told : List (Option Float)} {lent : List Float} {n : ℕ} where
  pub writing_start : length told ≡ n → length lent ≡ n → Writing told lent n lent 0
  writing_start p q = record { within = omega arith; answered = p; lent_long = q; as_long = q; whole = sym (over_none told lent) }

  pub writing_step : {out : List Float} {k : ℕ} {r : Float} (a : Option Float) (x : Float) → k < n → Writing told lent n out k
      → r ≡ written_over (get_or told k a) (get_or out k x) → Writing told lent n (set out k r) (k + 1)
  writing_step {out} {k} {r} a x p g e =
      record {
        within = omega arith;
        answered = g.answered;
        lent_long = g.lent_long;
        as_long = length-set out k r ∙ g.as_long;
        whole = rw (e, g.whole, add-one) (over_suc k told lent a x (omega arith) (omega arith));
      }

  pub writing_end : {out : List Float} {k : ℕ} → n ≤ k → Writing told lent n out k → out ≡ paired written_over told lent
  writing_end {k} p g =
      let e : k ≡ length told = omega arith in
      rw e at g.whole ∙ over_all told lent (g.answered ∙ sym g.lent_long)
