-- The figures are those of a division with space for what it gives, and 27 comes for the same inputs.
use Prim.Native.Nat.{ℕ, ◌+◌, ◌≤◌}
use native.Mathlib.Omega.{arith}
use mathlib.Core.Path.{◌≡◌, refl, sym, ap, ◌∙◌}
use mathlib.Core.Logic.{◌↔◌}
use mathlib.Core.Bool.{Bool, true, false, cond}
use mathlib.Core.List.{List}
use borrow.Author.Tests.{leb-true}
use lib.Dec.{leb}
use lib.ListN.{length}
use lib.Ieee.{Float}
use Rattle.std.specs.Prelude.{Err, Ok}
use Rattle.halving.specs.Halving.{Answer, Done, TooMany, NoSpace}
use Rattle.halving.proofs.Ends.{Result, result}
use Rattle.quoting.proofs.Spaces.{done_there, many_there}
use Rattle.refusal.specs.declared.Refusal.{Refusal}
use Rattle.chain.specs.Checked.{Checked}
use Rattle.chain.specs.declared.Kinematics.{Kinematics}
use Rattle.chain.specs.declared.Prepared.{Prepared}
use Rattle.chain.specs.Prepared.{prepared}
use Rattle.path.specs.Solving.{whole_records}
use Rattle.middle.specs.declared.Item.{Item}
use Rattle.middle.specs.declared.Tolerances.{Tolerances}
use Rattle.middle.specs.Testing.{midpoint, divides}
use Rattle.turn.specs.Items.{space_in}
use Rattle.turn.specs.Turning.{most}
use Rattle.machine.specs.Dividing.{division}
use Rattle.divide.specs.Checking.{division_check}
use Rattle.divide.specs.Subdividing.{Kept, Halved, given, division_within, unless_kept, subdivide_path}
use Rattle.divide.proofs.Idle.{busy_within}
use Rattle.turn.specs.declared.Stop.{Stop}
use Rattle.quote.specs.declared.Figures.{Figures}
use Rattle.quote.specs.declared.QuoteError.{QuoteError}
use Rattle.quote.specs.Quotation.{Quote, evaluations_of, figures, quote_in, quotation, scratch_whole, scratch_enough, quote_check, unless_refused, quote_checked, quote_path}
use Rattle.quote.specs.AsDivided.{AsDivided}
use Rattle.quote.proofs.Checks.{passed_there, division_passed, both_passed}

-- ---- answers that differ, and what one holds
none_served : {B : Type 0} {f : Figures} → ◌≡◌ {A = Quote} (Err (QuoteError.Stopped (Stop.NoSpace 0))) (Ok f) → B
none_served e = let z : ◌≡◌ {A = ℕ} 0 1 = cc in absurd (omega arith)

none_many : {B : Type 0} {m n : ℕ} → ◌≡◌ {A = Quote} (Err (QuoteError.Stopped (Stop.NoSpace m))) (Err (QuoteError.Stopped (Stop.TooMany n))) → B
none_many e = let z : ◌≡◌ {A = ℕ} 0 1 = cc in absurd (omega arith)

refused_served : {B : Type 0} {r : Refusal} {f : Figures} → ◌≡◌ {A = Quote} (Err (QuoteError.Refused r)) (Ok f) → B
refused_served e = let z : ◌≡◌ {A = ℕ} 0 1 = cc in absurd (omega arith)

refused_many : {B : Type 0} {r : Refusal} {n : ℕ} → ◌≡◌ {A = Quote} (Err (QuoteError.Refused r)) (Err (QuoteError.Stopped (Stop.TooMany n))) → B
refused_many e = let z : ◌≡◌ {A = ℕ} 0 1 = cc in absurd (omega arith)

many_served : {B : Type 0} {n : ℕ} {f : Figures} → ◌≡◌ {A = Quote} (Err (QuoteError.Stopped (Stop.TooMany n))) (Ok f) → B
many_served e = let z : ◌≡◌ {A = ℕ} 0 1 = cc in absurd (omega arith)

served_one : {f h : Figures} → ◌≡◌ {A = Quote} (Ok f) (Ok h) → f ≡ h
served_one e = cc

many_one : {m n : ℕ} → ◌≡◌ {A = Quote} (Err (QuoteError.Stopped (Stop.TooMany m))) (Err (QuoteError.Stopped (Stop.TooMany n))) → m ≡ n
many_one e = cc

served_full : {B : Type 0} {n : ℕ} {f : Figures} → ◌≡◌ {A = Quote} (Ok f) (Err (QuoteError.Stopped (Stop.NoSpace n))) → B
served_full e = let z : ◌≡◌ {A = ℕ} 0 1 = cc in absurd (omega arith)

refused_full : {B : Type 0} {r : Refusal} {n : ℕ} → ◌≡◌ {A = Quote} (Err (QuoteError.Refused r)) (Err (QuoteError.Stopped (Stop.NoSpace n))) → B
refused_full e = let z : ◌≡◌ {A = ℕ} 0 1 = cc in absurd (omega arith)

full_one : {m n : ℕ} → ◌≡◌ {A = Quote} (Err (QuoteError.Stopped (Stop.NoSpace m))) (Err (QuoteError.Stopped (Stop.NoSpace n))) → m ≡ n
full_one e = cc

kept_halved : {B : Type 0} {r : Refusal} {x : Answer Item} → Kept r ≡ Halved x → B
kept_halved e = let z : ◌≡◌ {A = ℕ} 0 1 = cc in absurd (omega arith)

halved_one : {x y : Answer Item} → Halved x ≡ Halved y → x ≡ y
halved_one e = cc

full_done : {B : Type 0} {k n : ℕ} {r : List Item} → NoSpace k ≡ Done n r → B
full_done e = let z : ◌≡◌ {A = ℕ} 0 1 = cc in absurd (omega arith)

full_many : {B : Type 0} {k n : ℕ} → ◌≡◌ {A = Answer Item} (NoSpace k) (TooMany n) → B
full_many e = let z : ◌≡◌ {A = ℕ} 0 1 = cc in absurd (omega arith)

-- ---- a quotation from a halving, and back
undone : (e : ℕ) (a : Answer Item) (f : Figures) → quote_in e a ≡ Ok f → (r : List Item) × ((a ≡ Done f.inserted r) × (length r ≡ f.poses))
undone e (Done n l) f h = let s = served_one h in (l, (ap (λ (q : Figures). Done q.inserted l) s, ap (λ (q : Figures). q.poses) s))
undone e (TooMany n) f h = many_served h
undone e (NoSpace n) f h = none_served h

unmany : (e : ℕ) (a : Answer Item) (n : ℕ) → quote_in e a ≡ Err (QuoteError.Stopped (Stop.TooMany n)) → a ≡ TooMany n
unmany e (Done k l) n h = many_served (sym h)
unmany e (TooMany k) n h = ap TooMany (many_one h)
unmany e (NoSpace k) n h = none_many h

-- without enough space none is counted
none_counted : (e : ℕ) (a : Answer Item) (n : ℕ) → quote_in e a ≡ Err (QuoteError.Stopped (Stop.NoSpace n)) → n ≡ 0
none_counted e (Done k l) n h = served_full h
none_counted e (TooMany k) n h = none_many (sym h)
none_counted e (NoSpace k) n h = sym (full_one h)

call_counted : (c : Checked) (b : Bool) (e : ℕ) (a : Answer Item) (n : ℕ)
    → unless_refused c (cond b (quote_in e a) (Err (QuoteError.Stopped (Stop.NoSpace 0)))) ≡ Err (QuoteError.Stopped (Stop.NoSpace n)) → n ≡ 0
call_counted (Ok _) true e a n h = none_counted e a n h
call_counted (Ok _) false e a n h = sym (full_one h)
call_counted (Err r) b e a n h = refused_full h

none_whole : whole_records 0 0 ≡ true
unfolding whole_records
none_whole = refl

-- ---- the calls, from their parts
quote_parts : (c : Checked) (b : Bool) (q y : Quote) → (Err (QuoteError.Stopped (Stop.NoSpace 0)) ≡ y → ⊥) → ((r : Refusal) → Err (QuoteError.Refused r) ≡ y → ⊥) → unless_refused c (cond b q (Err (QuoteError.Stopped (Stop.NoSpace 0)))) ≡ y
    → (c ≡ Ok tt) × ((b ≡ true) × (q ≡ y))
quote_parts (Ok _) true q y u v e = (refl, (refl, e))
quote_parts (Ok _) false q y u v e = absurd (u e)
quote_parts (Err r) b q y u v e = absurd (v r e)

division_parts : (c : Checked) (b : Bool) (x y : Answer Item) → (NoSpace 0 ≡ y → ⊥) → unless_kept c (Halved (cond b x (NoSpace 0))) ≡ Halved y
    → (c ≡ Ok tt) × ((b ≡ true) × (x ≡ y))
division_parts (Ok _) true x y u e = (refl, (refl, halved_one e))
division_parts (Ok _) false x y u e = absurd (u (halved_one e))
division_parts (Err r) b x y u e = kept_halved e

module _ (k : Kinematics) (tol : Tolerances) (poses joints : List Float) where
  abbrev p : Prepared
  p = prepared k

  abbrev g : List Item
  g = given poses joints

  done_result : (space n : ℕ) (r : List Item) → length g ≤ space → division p tol space g ≡ Done n r → Result (divides p tol) (midpoint p) space most g n r
  unfolding division
  done_result space n r h e = result (divides p tol) (midpoint p) space most n g r h e

  done_anywhere : (space other n : ℕ) (r : List Item) → length g ≤ space → length r ≤ other → division p tol space g ≡ Done n r → division p tol other g ≡ Done n r
  unfolding division
  done_anywhere space other n r a b e = done_there (divides p tol) (midpoint p) space other most g n r a b e

  many_anywhere : (space other n : ℕ) → length g + most ≤ space → length g + most ≤ other → division p tol space g ≡ TooMany n → division p tol other g ≡ TooMany n
  unfolding division
  many_anywhere space other n a b e = many_there (divides p tol) (midpoint p) space other most g n a b e

  quoted_division : quotation p tol g ≡ quote_in (evaluations_of p tol g) (division p tol (length g + most) g)
  unfolding quotation
  quoted_division = refl

  -- a division with a space, from its checks and its halving, and back
  divided_so : (a b : ℕ) (y : Answer Item) → division_check k tol poses joints a b ≡ Ok tt → length g ≤ space_in a b → division p tol (space_in a b) g ≡ y
      → subdivide_path k tol poses joints a b ≡ Halved y
  unfolding subdivide_path
  divided_so a b y c h e = rw c (ap Halved (busy_within p tol (space_in a b) g h ∙ e))

  divided_by : (a b : ℕ) (y : Answer Item) → (NoSpace 0 ≡ y → ⊥) → subdivide_path k tol poses joints a b ≡ Halved y
      → (division_check k tol poses joints a b ≡ Ok tt) × ((length g ≤ space_in a b) × (division p tol (space_in a b) g ≡ y))
  unfolding subdivide_path division_within
  divided_by a b y u e =
      let d = division_parts (division_check k tol poses joints a b) (leb (length g) (space_in a b)) (division p tol (space_in a b) g) y u e in
      (d.0, (leb-true (length g) (space_in a b) d.1.0, d.1.1))

  module _ (roomJoints roomTips : ℕ) where
    quote_by : (y : Quote) → (Err (QuoteError.Stopped (Stop.NoSpace 0)) ≡ y → ⊥) → ((r : Refusal) → Err (QuoteError.Refused r) ≡ y → ⊥) → quote_path k tol poses joints roomJoints roomTips ≡ y
        → (division_check k tol poses joints 0 0 ≡ Ok tt) × (quotation p tol g ≡ y)
    unfolding quote_path quote_checked
    quote_by y u v e =
        let d = quote_parts (quote_check k tol poses joints roomJoints roomTips) (scratch_enough roomJoints roomTips) (quotation p tol g) y u v e in
        (division_passed k tol poses joints roomJoints roomTips d.0, d.1.1)

    quote_so : (y : Quote) → scratch_whole roomJoints roomTips ≡ true → scratch_enough roomJoints roomTips ≡ true → division_check k tol poses joints 0 0 ≡ Ok tt
        → quotation p tol g ≡ y → quote_path k tol poses joints roomJoints roomTips ≡ y
    unfolding quote_path quote_checked
    quote_so y a b c e = rw (both_passed k tol poses joints roomJoints roomTips a c, b) e

    quoted_so : (f : Figures) → quote_path k tol poses joints roomJoints roomTips ≡ Ok f → (a b : ℕ) → whole_records a b ≡ true → f.poses ≤ space_in a b
        → (r : List Item) × ((subdivide_path k tol poses joints a b ≡ Halved (Done f.inserted r)) × (length r ≡ f.poses))
    quoted_so f e a b w h =
        let (c, q) = quote_by (Ok f) none_served (λ r. refused_served) e in
        let (r, d) = undone (evaluations_of p tol g) (division p tol (length g + most) g) f (sym quoted_division ∙ q) in
        let l = (done_result (length g + most) f.inserted r (omega arith) d.0).counted in
        let m = d.1 in (
          r,
          (
            divided_so a b (Done f.inserted r) (passed_there k tol poses joints a b 0 0 w c) (omega arith)
                (done_anywhere (length g + most) (space_in a b) f.inserted r (omega arith) (omega arith) d.0),
            d.1,
          ),
        )

    divided_quoted : scratch_whole roomJoints roomTips ≡ true → scratch_enough roomJoints roomTips ≡ true → (a b n : ℕ) (r : List Item)
        → subdivide_path k tol poses joints a b ≡ Halved (Done n r) → quote_path k tol poses joints roomJoints roomTips ≡ Ok (figures n (length r) (evaluations_of p tol g))
    divided_quoted u v a b n r e =
        let d = divided_by a b (Done n r) full_done e in
        let t = done_result (space_in a b) n r d.1.0 d.1.1 in
        let l = t.counted in
        let s = t.few in
        quote_so (Ok (figures n (length r) (evaluations_of p tol g))) u v (passed_there k tol poses joints 0 0 a b none_whole d.0)
        (quoted_division ∙ ap (quote_in (evaluations_of p tol g)) (done_anywhere (space_in a b) (length g + most) n r d.1.0 (omega arith) d.1.1))

    many_so : scratch_whole roomJoints roomTips ≡ true → scratch_enough roomJoints roomTips ≡ true → (a b n : ℕ) → whole_records a b ≡ true → length g + most ≤ space_in a b
        → (quote_path k tol poses joints roomJoints roomTips ≡ Err (QuoteError.Stopped (Stop.TooMany n))) ↔ (subdivide_path k tol poses joints a b ≡ Halved (TooMany n))
    many_so u v a b n w h = (on, back)
      where
        on : quote_path k tol poses joints roomJoints roomTips ≡ Err (QuoteError.Stopped (Stop.TooMany n)) → subdivide_path k tol poses joints a b ≡ Halved (TooMany n)
        on e =
            let (c, q) = quote_by (Err (QuoteError.Stopped (Stop.TooMany n))) none_many (λ r. refused_many) e in
            divided_so a b (TooMany n) (passed_there k tol poses joints a b 0 0 w c) (omega arith)
            (many_anywhere (length g + most) (space_in a b) n (omega arith) h (unmany (evaluations_of p tol g) (division p tol (length g + most) g) n (sym quoted_division ∙ q)))

        back : subdivide_path k tol poses joints a b ≡ Halved (TooMany n) → quote_path k tol poses joints roomJoints roomTips ≡ Err (QuoteError.Stopped (Stop.TooMany n))
        back e =
            let d = divided_by a b (TooMany n) full_many e in
            quote_so (Err (QuoteError.Stopped (Stop.TooMany n))) u v (passed_there k tol poses joints 0 0 a b none_whole d.0)
            (quoted_division ∙ ap (quote_in (evaluations_of p tol g)) (many_anywhere (space_in a b) (length g + most) n h (omega arith) d.1.1))

    full_so : (n : ℕ) → quote_path k tol poses joints roomJoints roomTips ≡ Err (QuoteError.Stopped (Stop.NoSpace n)) → n ≡ 0
    unfolding quote_path quote_checked quotation
    full_so n e =
        call_counted (quote_check k tol poses joints roomJoints roomTips) (scratch_enough roomJoints roomTips) (evaluations_of p tol g) (division p tol (length g + most) g) n e

    pub as_divided : {answer : Quote} → answer ≡ quote_path k tol poses joints roomJoints roomTips → AsDivided k tol poses joints roomJoints roomTips answer
    as_divided e = record {
      quoted = λ f h. quoted_so f (sym e ∙ h);
      divided = λ u v a b n r h. e ∙ divided_quoted u v a b n r h;
      many = λ u v a b n w h. let t = many_so u v a b n w h in (λ q. t.0 (sym e ∙ q), λ q. e ∙ t.1 q);
      none = λ n h. full_so n (sym e ∙ h);
    }
