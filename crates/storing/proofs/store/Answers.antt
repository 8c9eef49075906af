use native.Mathlib.Omega.{arith}
use mathlib.Core.Path.{◌≡◌, ap, sym, ◌∙◌}
use Prim.Native.Nat.{suc, ◌+◌}
use mathlib.Core.List.{◌++◌, append_assoc}
use lib.ListN.{length, get_or, set, take, drop, length-set}
use lib.Seq.{paste, paste-suc, take-length}
use borrow.Author.Rules.{rules}
use Rattle.storing.specs.Storing.{stored_at}
use Rattle.storing.proofs.store.Goals as goal

-- one element more
pub loop-i-preserved : goal.loop-i-preserved
loop-i-preserved g c =
    let at = c.args.at in
    let i = c.loop-i.i in
    let old = c.args.to.now in
    let from = c.args.from.now in
    let x = c.index-from-i.result in
    let more = c.loop-i-test.true in
    let asked = c.requires in
    let held = c.loop-i.invariant in
    let read : get_or from i x ≡ x = search rules in
    let one : i + 1 ≡ suc i = omega arith in
    let long = length-set c.loop-i.to (at + i) x in
    (long ∙ held.0, ap (λ l. set l (at + i) x) held.1 ∙ ap (λ y. set (paste old at from i) (at + i) y) (sym read) ∙ paste-suc old at from i x (omega arith) (omega arith) ∙ ap (paste old at from) (sym one))

pub returns : goal.returns
unfolding stored_at
returns g c =
    let at = c.args.at in
    let old = c.args.to.now in
    let from = c.args.from.now in
    let within = c.loop-i.auto.i-end in
    let done = c.loop-i-test.false in
    let ended : c.loop-i.i ≡ length from = omega arith in
    c.loop-i.invariant.1
    ∙ ap (paste old at from) ended
    ∙ ap (λ l. take at old ++ l ++ drop (at + length from) old) (take-length from)
    ∙ append_assoc (take at old) from (drop (at + length from) old)
