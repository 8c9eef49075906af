-- The loop: the last item that stays, what waits and what was counted are always the halving's, by `Quoting`. `front`
-- is what stays before the last item, and stands nowhere.
use Prim.Native.Nat.{ℕ, ◌+◌, ◌-◌, ◌*◌, ◌≤◌, ◌<◌}
use native.Mathlib.Omega.{arith}
use mathlib.Core.Path.{◌≡◌, refl, sym, ap, ◌∙◌, subst}
use mathlib.Core.Bool.{Bool, true, false, cond}
use mathlib.Core.List.{List, [], ◌∷◌, ◌++◌}
use borrow.Author.Tests.{eqb-true, eqb-false, ltb-true, ltb-false, lt-ltb}
use lib.Dec.{eqb}
use lib.ListN.{length, length-append}
use lib.Ieee.{Float}
use Rattle.std.specs.Prelude.{Err, None, Ok, Option, Some}
use Rattle.quoting.proofs.Quotes.{Quoting, quoting_start, quoting_keep, quoting_insert, quoting_many, quoting_end}
use Rattle.chain.specs.declared.Prepared.{Prepared}
use Rattle.path.specs.Solving.{joints_over}
use Rattle.middle.specs.declared.Item.{Item}
use Rattle.middle.specs.declared.Tolerances.{Tolerances}
use Rattle.middle.specs.Testing.{midpoint, divides}
use Rattle.turn.specs.Items.{item_at, items_in, joints_in}
use Rattle.turn.specs.Turning.{most}
use Rattle.turn.proofs.Stored.{items_length}
use Rattle.machine.specs.Dividing.{division}
use Rattle.turn.specs.declared.Stop.{Stop}
use Rattle.quote.specs.declared.Figures.{Figures}
use Rattle.quote.specs.declared.Place.{Place}
use Rattle.quote.specs.declared.QuoteError.{QuoteError}
use Rattle.quote.specs.declared.Quoter.{Quoter}
use Rattle.quote.specs.Quotation.{Quote, cost_of, evaluations_of, figures, quote_in, quotation}
use Rattle.quote.specs.QuotationSteps.{arrived, next_given, first_waiting, verdict_of, past, with_midpoint, if_inserted, place_with, place_by, stack_by, place_after, stack_after, goes_on, keeping, stepped, PosesKept, KeptOf, begun, served_at, answer_in, Few, Runs}
use Rattle.quote.proofs.Waiting.{waits, take_given, take_stacked, put_waiting, over_long, waits_first, waits_none}
use Rattle.quote.proofs.Kept.{arrived_mid, keeps_place, right_kept}
use Rattle.quote.proofs.Poses.{kept_none}
use Rattle.quote.proofs.Costs.{cost_of_low}

-- each test lowers it
unfoldable pub to_do : ℕ → Place → ℕ
to_do count s = (10000 - s.inserted) * 2 + (10000 - s.top) + (count - s.next)

less_divided : (i t d : ℕ) → i < 10000 → 0 < t → t ≤ 10000 → (10000 - (i + 1)) * 2 + (10000 - (t - 1)) + d < (10000 - i) * 2 + (10000 - t) + d
less_divided i t d a b c = omega arith

-- the answers as functions of what they hold
abbrev many : ℕ → Quote
many n = Err (QuoteError.Stopped (Stop.TooMany n))

abbrev served : Figures → Quote
served f = Ok f

on_one : {a b : Quoter} → ◌≡◌ {A = Option Quoter} (Some a) (Some b) → b ≡ a
on_one e = cc

many_on : {B : Type 0} {a : Quoter} → ◌≡◌ {A = Option Quoter} None (Some a) → B
many_on e = let z : ◌≡◌ {A = ℕ} 0 1 = cc in absurd (omega arith)

module _ (p : Prepared) (tol : Tolerances) (count : ℕ) (lent solved : List Float) where
  abbrev all : List Item
  all = items_in count lent solved

  abbrev Law : List Item → Item → List Item → ℕ → ℕ → Type 0
  Law front x w n e = Quoting (divides p tol) (midpoint p) (cost_of tol) (length all + most) most all front x w n e

  pub record Going (long : ℕ) (stack : List Float) (s : Place) : Type 0 where
    pub front : List Item
    pub law : Law front s.left (waits p count s.top s.next lent solved stack) s.inserted s.evaluations
    pub top_low : s.top ≤ 10000
    pub next_low : s.next ≤ count
    pub few : s.inserted ≤ 10000
    pub stack_few : 10000 ≤ s.top + s.inserted
    pub placed : length front + (10000 - s.top) + (count - s.next) + 1 ≡ count + s.inserted
    pub spent : s.evaluations ≤ 10 * (length front + s.inserted) + s.inserted
    pub stack_long : 50000 ≤ length stack
    pub kept : length stack ≡ long

  -- with what is kept of the evaluations, and the poses beside the stack
  pub record Running (long : ℕ) (stack tips : List Float) (m : Quoter) : Type 0 where
    pub going : Going long stack m.place
    pub keeps : m ≡ keeping p count m.place lent solved stack
    pub poses : PosesKept p m.place.top stack tips

  begun_going : (stack : List Float) → 0 < count → 50000 ≤ length stack → Going (length stack) stack (begun lent solved)
  unfolding begun
  begun_going stack h b = record {
    front = [];
    law = quoting_start (divides p tol) (midpoint p) (cost_of tol) (length all + most) most all (item_at lent solved 0) (waits p count 10000 1 lent solved stack) (waits_first p count lent solved stack h) (omega arith);
    top_low = omega arith;
    next_low = h;
    few = omega arith;
    stack_few = omega arith;
    placed = omega arith;
    spent = omega arith;
    stack_long = b;
    kept = refl;
  }

  keeps_own : (s : Place) (stack : List Float) {m : Quoter} → m ≡ keeping p count s lent solved stack → m ≡ keeping p count m.place lent solved stack
  keeps_own s stack e = e ∙ ap (λ (q : Place). keeping p count q lent solved stack) (keeps_place p count lent solved stack e)

  running : {long : ℕ} (s : Place) (stack tips : List Float) {m : Quoter} → m ≡ keeping p count s lent solved stack → Going long stack s → PosesKept p m.place.top stack tips
      → Running long stack tips m
  running {long} s stack tips e g poses = record { going = subst (Going long stack) (keeps_place p count lent solved stack e) g; keeps = keeps_own s stack e; poses = poses }

  pub running_start : (stack tips : List Float) {m : Quoter} → m ≡ keeping p count (begun lent solved) lent solved stack → 0 < count → 50000 ≤ length stack
      → Running (length stack) stack tips m
  unfolding begun
  running_start stack tips e h b =
      running (begun lent solved) stack tips e (begun_going stack h b) (subst (λ (s : Place). PosesKept p s.top stack tips) (keeps_place p count lent solved stack e) (kept_none p stack tips))

  snoc_long : (l : List Item) (x : Item) → length (l ++ x ∷ []) ≡ length l + 1
  snoc_long l x = length-append l (x ∷ [])

  module _ {long : ℕ} {stack : List Float} {s : Place} (g : Going long stack s) (more : s.top + s.next < 10000 + count) where
    abbrev r : Item
    r = first_waiting p count s.top s.next lent solved stack

    abbrev After : Option Place → List Float → Type 0
    After (Some next) stack' = Going long stack' next × (to_do count next < to_do count s)
    After None stack' = quotation p tol all ≡ Err (QuoteError.Stopped (Stop.TooMany 10000))

    abbrev c : ℕ
    c = cost_of tol s.left r

    law_with : {w : List Item} → waits p count s.top s.next lent solved stack ≡ w → Law g.front s.left w s.inserted s.evaluations
    law_with e = subst (λ (w : List Item). Law g.front s.left w s.inserted s.evaluations) e g.law

    abbrev rest : Bool → List Item
    rest true = waits p count s.top (s.next + 1) lent solved stack
    rest false = waits p count (s.top + 1) s.next lent solved stack

    next_is : s.next < count → next_given count s.next ≡ s.next
    unfolding next_given
    next_is h = rw (lt-ltb s.next count h)

    right_first : (b : Bool) → eqb s.top most ≡ b → waits p count s.top s.next lent solved stack ≡ r ∷ rest b
    unfolding first_waiting
    right_first true e =
        let h = eqb-true s.top most e in
        let i = item_at lent solved (next_given count s.next) in
        ap (λ (t : ℕ). waits p count t s.next lent solved stack) h
        ∙ take_given p count s.next lent solved stack (omega arith)
        ∙ ap (λ (t : ℕ). item_at lent solved s.next ∷ waits p count t (s.next + 1) lent solved stack) (sym h)
        ∙ ap (λ (t : ℕ). item_at lent solved t ∷ waits p count s.top (s.next + 1) lent solved stack) (sym (next_is (omega arith)))
        ∙ ap (λ (b : Bool). cond b i (arrived p (joints_in stack (s.top * 5))) ∷ waits p count s.top (s.next + 1) lent solved stack) (sym e)
    right_first false e =
        let h = eqb-false s.top most e in
        let l = g.top_low in
        let i = item_at lent solved (next_given count s.next) in
        take_stacked p count s.top s.next lent solved stack (omega arith)
        ∙ ap (λ (b : Bool). cond b i (arrived p (joints_in stack (s.top * 5))) ∷ waits p count (s.top + 1) s.next lent solved stack) (sym e)

    staying : divides p tol s.left r ≡ false → (b : Bool) → eqb s.top most ≡ b
        → After (Some (cond b
        (record { left = r; top = s.top; next = s.next + 1; inserted = s.inserted; evaluations = s.evaluations + c })
        (record { left = r; top = s.top + 1; next = s.next; inserted = s.inserted; evaluations = s.evaluations + c }))) stack
    unfolding to_do
    staying e true f =
        let h = eqb-true s.top most f in
        let a1 = g.top_low in let a2 = g.next_low in let a3 = g.few in let a4 = g.stack_few in let a5 = g.placed in let a6 = g.spent in
        let l = snoc_long g.front s.left in
        let z : c ≤ 10 = cost_of_low tol s.left r in (
          record {
            front = g.front ++ s.left ∷ [];
            law = quoting_keep (divides p tol) (midpoint p) (cost_of tol) (length all + most) most all (law_with (right_first true f)) e;
            top_low = a1;
            next_low = omega arith;
            few = a3;
            stack_few = a4;
            placed = omega arith;
            spent = omega arith;
            stack_long = g.stack_long;
            kept = g.kept;
          },
          omega arith,
        )
    staying e false f =
        let h = eqb-false s.top most f in
        let a1 = g.top_low in let a2 = g.next_low in let a3 = g.few in let a4 = g.stack_few in let a5 = g.placed in let a6 = g.spent in
        let l = snoc_long g.front s.left in
        let z : c ≤ 10 = cost_of_low tol s.left r in (
          record {
            front = g.front ++ s.left ∷ [];
            law = quoting_keep (divides p tol) (midpoint p) (cost_of tol) (length all + most) most all (law_with (right_first false f)) e;
            top_low = omega arith;
            next_low = a2;
            few = a3;
            stack_few = omega arith;
            placed = omega arith;
            spent = omega arith;
            stack_long = g.stack_long;
            kept = g.kept;
          },
          omega arith,
        )

    abbrev mid : Item
    mid = midpoint p s.left r

    dividing : divides p tol s.left r ≡ true → (b : Bool) → eqb s.inserted most ≡ b → (a : Bool) → eqb s.top most ≡ a
        → After (cond b None (Some (record { left = s.left; top = s.top - 1; next = s.next; inserted = s.inserted + 1; evaluations = s.evaluations + c + 1 })))
        (cond b stack (joints_over mid.joints stack ((s.top - 1) * 5)))
    unfolding to_do quotation division
    dividing e true f a q =
        let h = eqb-true s.inserted most f in
        ap (quote_in (evaluations_of p tol all)) (quoting_many (divides p tol) (midpoint p) (cost_of tol) (length all + most) most all (law_with (right_first a q)) e (omega arith))
        ∙ ap many h
    dividing e false f a q =
        let h = eqb-false s.inserted most f in
        let a1 = g.top_low in let a2 = g.next_low in let a3 = g.few in let a4 = g.stack_few in let a5 = g.placed in let a6 = g.spent in let a7 = g.stack_long in
        let z : c ≤ 10 = cost_of_low tol s.left r in
        let w = put_waiting p count s.top s.next lent solved stack mid.joints (omega arith) a1 a7
        ∙ ap (λ (x : Item). x ∷ waits p count s.top s.next lent solved stack) (arrived_mid p s.left r)
        ∙ ap (λ (y : List Item). mid ∷ y) (right_first a q) in (
          record {
            front = g.front;
            law = subst (λ (y : List Item). Law g.front s.left y (s.inserted + 1) (s.evaluations + c + 1)) (sym w)
                (quoting_insert (divides p tol) (midpoint p) (cost_of tol) (length all + most) most all (law_with (right_first a q)) e (omega arith));
            top_low = omega arith;
            next_low = a2;
            few = omega arith;
            stack_few = omega arith;
            placed = omega arith;
            spent = omega arith;
            stack_long = subst (λ (k : ℕ). 50000 ≤ k) (sym (over_long mid.joints stack ((s.top - 1) * 5))) a7;
            kept = over_long mid.joints stack ((s.top - 1) * 5) ∙ g.kept;
          },
          less_divided s.inserted s.top (count - s.next) (omega arith) (omega arith) a1,
        )

    by_verdict : (b : Bool) → divides p tol s.left r ≡ b
        → After (place_by tol s r (cond b (Some (midpoint p s.left r)) None)) (stack_by s stack (cond b (Some (midpoint p s.left r)) None))
    unfolding past place_with if_inserted with_midpoint
    by_verdict true e = dividing e (eqb s.inserted most) refl (eqb s.top most) refl
    by_verdict false e = staying e (eqb s.top most) refl

    after : After (place_after p tol s r) (stack_after p tol s r stack)
    unfolding place_after stack_after verdict_of
    after = by_verdict (divides p tol s.left r) refl

  -- ---- of the machine: one test from m leads to `step` and leaves the stack as stack'
  module _ {long : ℕ} {stack tips : List Float} {m : Quoter} (n : Running long stack tips m) (more : goes_on count m.place ≡ true) {step : Option Quoter} {stack' : List Float}
      (is-step : step ≡ stepped p count lent solved stack' (place_after p tol m.place m.right)) (is-stack : stack' ≡ stack_after p tol m.place m.right stack) where
    waits_still : m.place.top + m.place.next < 10000 + count
    unfolding goes_on
    waits_still = ltb-true (m.place.top + m.place.next) (most + count) more

    abbrev After' : Option Place → List Float → Type 0
    After' (Some next) stack' = Going long stack' next × (to_do count next < to_do count m.place)
    After' None stack' = quotation p tol all ≡ Err (QuoteError.Stopped (Stop.TooMany 10000))

    after_here : After' (place_after p tol m.place m.right) stack'
    after_here =
        let q = sym (right_kept p count lent solved stack m n.keeps) in
        subst (After' (place_after p tol m.place m.right)) (sym is-stack)
        (subst (λ (t : Item). After' (place_after p tol m.place t) (stack_after p tol m.place t stack)) q (after n.going waits_still))

    by_place : {tips' : List Float} (o : Option Place) → After' o stack' → step ≡ stepped p count lent solved stack' o → (next : Quoter) → step ≡ Some next → KeptOf p stack' tips' step
        → Running long stack' tips' next × (to_do count next.place < to_do count m.place)
    by_place {tips'} None a e next f poses = many_on (sym e ∙ f)
    by_place {tips'} (Some s) a e next f poses =
        let k : next ≡ keeping p count s lent solved stack' = on_one (sym e ∙ f) in
        (running s stack' tips' k a.0 (subst (KeptOf p stack' tips') f poses), subst (λ (z : Place). to_do count z < to_do count m.place) (keeps_place p count lent solved stack' k) a.1)

    pub going_on : {tips' : List Float} {next : Quoter} → step ≡ Some next → KeptOf p stack' tips' step → Running long stack' tips' next × (to_do count next.place < to_do count m.place)
    going_on {tips'} {next} f poses = by_place (place_after p tol m.place m.right) after_here is-step next f poses

    no_place : (o : Option Place) → After' o stack' → step ≡ stepped p count lent solved stack' o → step ≡ None → quotation p tol all ≡ Err (QuoteError.Stopped (Stop.TooMany 10000))
    no_place None a e f = a
    no_place (Some s) a e f = many_on (sym f ∙ e)

    pub ran_many : step ≡ None → {said : Option Quoter} → said ≡ None → (quotation p tol all ≡ answer_in count said) × Few said
    ran_many f e = rw e (no_place (place_after p tol m.place m.right) after_here is-step f, tt)

  pub going_runs : {long : ℕ} {stack tips : List Float} {m : Quoter} → Running long stack tips m → count ≤ 100000 → Runs count m.place
  going_runs n w =
      let g = n.going in
      let a1 = g.top_low in let a2 = g.next_low in let a3 = g.few in let a4 = g.stack_few in let a5 = g.placed in let a6 = g.spent in
      ((a1, a2), ((a4, a3), omega arith))

  pub advance_needs : {long : ℕ} {stack tips : List Float} {m : Quoter} → Running long stack tips m → count ≤ 100000 → goes_on count m.place ≡ true
      → (Runs count m.place × (m.place.top + m.place.next < 10000 + count)) × ((m ≡ keeping p count m.place lent solved stack) × PosesKept p m.place.top stack tips)
  unfolding goes_on
  advance_needs {long} {stack} {tips} {m} n l e =
      ((going_runs n l, ltb-true (m.place.top + m.place.next) (most + count) e), (n.keeps, n.poses))

  pub going_end : {long : ℕ} {stack tips : List Float} {m : Quoter} → Running long stack tips m → goes_on count m.place ≡ false
      → (quotation p tol all ≡ served_at count m.place) × (m.place.inserted ≤ most)
  unfolding quotation division goes_on evaluations_of
  going_end {long} {stack} {tips} {m} n f =
      let g = n.going in
      let s = m.place in
      let h = ltb-false (s.top + s.next) (most + count) f in
      let a1 = g.top_low in let a2 = g.next_low in
      let q : Law g.front s.left [] s.inserted s.evaluations =
      subst (λ (w : List Item). Law g.front s.left w s.inserted s.evaluations) (waits_none p count s.top s.next lent solved stack (omega arith) a1 (omega arith)) g.law in
      let d = quoting_end (divides p tol) (midpoint p) (cost_of tol) (length all + most) most all q in (
        ap (quote_in (evaluations_of p tol all)) d.0
            ∙ ap (λ (k : ℕ). served (figures s.inserted k (evaluations_of p tol all))) (q.long ∙ ap (λ (k : ℕ). k + s.inserted) (items_length count lent solved))
            ∙ ap (λ (k : ℕ). served (figures s.inserted (count + s.inserted) k)) d.1,
        g.few,
      )
