use native.Mathlib.Omega.{arith}
use mathlib.Core.Path.{◌≡◌}
use Rattle.std.proofs.Common.{◌-◌, length, take, drop, length-drop}
use lib.Seq.{take_all}
use Rattle.cell.specs.Admitting.{placed_run}
use Rattle.cell.proofs.admitting.place_run.Goals as goal

pub returns : goal.returns
unfolding placed_run
returns c =
    let from = c.args.from.now in
    let w = c.args.w in
    let e : take (length from - w) (drop w from) ≡ drop w from = take_all _ _ (omega (arith, length-drop w from)) in
    rw (c.store-2.ensures, c.store.ensures, e)
