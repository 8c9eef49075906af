use mathlib.Core.Path.{sym}
use Prim.Native.Nat.{◌≤◌}
use native.Mathlib.Omega.{arith}
use borrow.Author.Rules.{rules}
use Rattle.lists.proofs.Tests.{isn't}
use Rattle.chain.specs.ReadySteps.{reached_counted}
use Rattle.chain.proofs.Bytes.{at_least_one, product_most}
use Rattle.chain.proofs.ReadyLaws.{no_bytes, no_count, no_length, ready_counted_is}
use Rattle.chain.proofs.ForwardLaws.{numbers_refused, chain_refused, reached_is}
use Rattle.std.proofs.lemmas.Bool.{not_from_false}
use Rattle.chain.proofs.forward_map.reached_from.Goals as goal
use Rattle.chain.proofs.forward_map.reached_from.Goals.{then-not-one_or_two-via-then-not-one_or_two, then-not-one_or_two-via-else-not-one_or_two+then-bytes-w}

pub returns-then-not-numbers_good : goal.returns-then-not-numbers_good
returns-then-not-numbers_good c = (numbers_refused _ _ _ (isn't c.numbers_good.ensures (not_from_false _ c.if-not-numbers_good.true)))

pub returns-in_err-count : goal.returns-in_err-count
returns-in_err-count c =
    let none = c.in_err-count.ensures.item.3 in
    rw c.from_residual.ensures (chain_refused _ _ _ (sym (no_bytes _ (omega (arith, none)))))

pub returns-then-not-one_or_two : goal.returns-then-not-one_or_two
returns-then-not-one_or_two c =
    let first = c.in_ok-count.ensures.item.3 in
    elim c.then-not-one_or_two.branch [
      | then-not-one_or_two-via-then-not-one_or_two w ↦
          chain_refused _ _ _ (sym (no_count _ _ (first.1 0) first.0 (isn't c.one_or_two.ensures (not_from_false _ w.if-not-one_or_two.true))))
      | then-not-one_or_two-via-else-not-one_or_two+then-bytes-w w ↦
          chain_refused _ _ _ (sym (no_length _ _ _ c.record_length-w.ensures.length first.0 (sym w.if-not-one_or_two.ensures) (first.1 0) w.if-bytes-w.true))
    ]

pub overflow_mul-w : goal.overflow_mul-w
overflow_mul-w c =
    let l : c.in_ok-count.field-0.now ≤ 255 = search rules in
    let h = product_most _ _ c.record_length-w.ensures.most l in
    omega (arith, h)

pub overflow_add-w : goal.overflow_add-w
overflow_add-w c =
    let l : c.in_ok-count.field-0.now ≤ 255 = search rules in
    let h = product_most _ _ c.record_length-w.ensures.most l in
    omega (arith, h)

pub invariant_of-reached : goal.invariant_of-reached
invariant_of-reached c =
    let e = c.if-bytes-w.false in
    record { whole = (at_least_one _ (sym c.if-not-one_or_two.ensures), c.record_length-w.ensures.least, omega (arith, e)) }

pub returns : goal.returns
unfolding reached_counted
returns c =
    let first = c.in_ok-count.ensures.item.3 in
    rw c.reached.ensures
    (reached_is _ _ _ _
    (sym
    (ready_counted_is _ _ _ c.record_length-w.ensures.length first.0 (sym c.if-not-one_or_two.ensures) (sym (first.1 0)) c.if-bytes-w.false))
    (sym c.if-not-numbers_good.ensures))
