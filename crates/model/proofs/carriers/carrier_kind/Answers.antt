use native.Mathlib.Omega.{arith}
use mathlib.Core.Path.{◌≡◌, ◌∙◌, sym, ap}
use mathlib.Core.Bool.{Bool}
use mathlib.Core.List.{List}
use Prim.Native.Nat.{ℕ}
use lib.Dec.{eqb}
use lib.ListN.{length}
use lib.Pointwise.{pointwise}
use Rattle.model.specs.Text.{same_bytes}
use Rattle.model.specs.Carrier.{carrier_kind}
use Rattle.model.proofs.SameBytes.{same_is}
use borrow.Author.Tests.{eq-eqb, ne_eqb}
use Rattle.model.proofs.carriers.carrier_kind.Goals as goal

told : (l m n : List ℕ) {answer b : Bool} → answer ≡ pointwise eqb l m → m ≡ n → answer ≡ b → same_bytes l n ≡ b
told l m n e f g = sym (same_is l n) ∙ (ap (pointwise eqb l) (sym f) ∙ (sym e ∙ g))

pub returns-then-eq : goal.returns-then-eq
unfolding carrier_kind
returns-then-eq c = rw (told _ _ _ c.eq.ensures c.as_slice.ensures c.if-eq.true)

pub returns-then-eq-2 : goal.returns-then-eq-2
unfolding carrier_kind
returns-then-eq-2 c = rw (told _ _ _ c.eq.ensures c.as_slice.ensures c.if-eq.false, told _ _ _ c.eq-else-eq.ensures c.as_slice-else-eq.ensures c.if-eq-2.true)

pub returns-then-eq-3 : goal.returns-then-eq-3
unfolding carrier_kind
returns-then-eq-3 c =
    rw (
      told _ _ _ c.eq.ensures c.as_slice.ensures c.if-eq.false,
      told _ _ _ c.eq-else-eq.ensures c.as_slice-else-eq.ensures c.if-eq-2.false,
      told _ _ _ c.eq-else-eq-2.ensures c.as_slice-else-eq-2.ensures c.if-eq-3.true,
    )

pub returns-in-len1 : goal.returns-in-len1
unfolding carrier_kind
returns-in-len1 c =
    let one : length c.args.carrier.now ≡ 1 = omega arith in
    rw (
      told _ _ _ c.eq.ensures c.as_slice.ensures c.if-eq.false,
      told _ _ _ c.eq-else-eq.ensures c.as_slice-else-eq.ensures c.if-eq-2.false,
      told _ _ _ c.eq-else-eq-2.ensures c.as_slice-else-eq-2.ensures c.if-eq-3.false,
      eq-eqb _ _ one,
    )
    c.rotary_named.ensures

pub returns-in_default : goal.returns-in_default
unfolding carrier_kind
returns-in_default c =
    rw (
      told _ _ _ c.eq.ensures c.as_slice.ensures c.if-eq.false,
      told _ _ _ c.eq-else-eq.ensures c.as_slice-else-eq.ensures c.if-eq-2.false,
      told _ _ _ c.eq-else-eq-2.ensures c.as_slice-else-eq-2.ensures c.if-eq-3.false,
      ne_eqb (length c.args.carrier.now) 1 (λ e. omega arith),
    )

pub returns-in_default-2 : goal.returns-in_default-2
unfolding carrier_kind
returns-in_default-2 c =
    rw (
      told _ _ _ c.eq.ensures c.as_slice.ensures c.if-eq.false,
      told _ _ _ c.eq-else-eq.ensures c.as_slice-else-eq.ensures c.if-eq-2.false,
      told _ _ _ c.eq-else-eq-2.ensures c.as_slice-else-eq-2.ensures c.if-eq-3.false,
      ne_eqb (length c.args.carrier.now) 1 (λ e. omega arith),
    )
