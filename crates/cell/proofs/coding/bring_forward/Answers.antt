use native.Mathlib.Omega.{arith}
use mathlib.Core.Path.{◌≡◌, refl, ap, sym, ◌∙◌}
use Prim.Native.Nat.{ℕ, ◌+◌, ◌-◌, ◌*◌}
use lib.ListN.{set}
use Rattle.cell.specs.Coding.{forward}
use Rattle.cell.proofs.Lent.{came_one}
use Rattle.cell.proofs.coding.bring_forward.Goals as goal

pub loop-i-init : goal.loop-i-init
unfolding forward
loop-i-init g c = refl

-- two more
pub loop-i-preserved : goal.loop-i-preserved
loop-i-preserved g c =
    let l = c.args.to.now in
    let w = c.args.w in
    let at = c.loop-i.i * 2 in
    let x = c.index-to-at.result in
    let y = c.index-to-at-in-loop-i.result in
    let more = c.loop-i-test.true in
    let asked = c.requires in
    let first = came_one l c.loop-i.to w at x (omega arith) c.loop-i.invariant (sym c.index-to-at.is) in
    let second = came_one l (set c.loop-i.to at x) w (at + 1) y (omega arith) first (sym c.index-to-at-in-loop-i.is) in
    let two : at + 1 + 1 ≡ (c.loop-i.i + 1) * 2 = omega arith in
    second ∙ ap (λ (k : ℕ). forward w k l) two

-- the last, where their count is odd
pub returns-then-count-eq1 : goal.returns-then-count-eq1
returns-then-count-eq1 g c =
    let l = c.args.to.now in
    let w = c.args.w in
    let n = c.args.count in
    let z = c.index-to-count.result in
    let within = c.loop-i.auto.i-end in
    let done = c.loop-i-test.false in
    let odd = c.if-count-eq1.true in
    let asked = c.requires in
    let pairs : c.loop-i.i * 2 ≡ n - 1 = omega arith in
    let all : n - 1 + 1 ≡ n = omega arith in
    let held = c.loop-i.invariant ∙ ap (λ (k : ℕ). forward w k l) pairs in
    came_one l c.loop-i.to w (n - 1) z (omega arith) held (sym c.index-to-count.is) ∙ ap (λ (k : ℕ). forward w k l) all
