use mathlib.Core.Path.{◌≡◌, sym}
use mathlib.Core.Bool.{true}
use lib.Dec.{T}
use lib.Ieee.{binary64, fits, lt, mul}
use Rattle.std.proofs.Common.{rules}
use Rattle.geometry.specs.Vector.{sub, dot, norm, gap_vec}
use Rattle.geometry.proofs.FitVectors.{dot_fits}
use Rattle.meet.proofs.Gaps.{far_apart}
use Rattle.meet.proofs.pairs.nearer.Goals as goal

pub returns-then-length-squared : goal.returns-then-length-squared
unfolding gap_vec norm
returns-then-length-squared c =
    let way = sub c.args.left c.args.right in
    let e : c.dot-squared.result ≡ dot way way = search (rules, c.sub-way.ensures, c.dot-squared.ensures) in
    let above : lt (mul binary64 c.args.length c.args.length) (dot way way) ≡ true = rw (← e) c.if-length-squared.true in
    let doubles : T (fits binary64 c.args.length) = search rules in
    sym (far_apart (dot way way) c.args.length (dot_fits way way) doubles above)

pub returns : goal.returns
unfolding gap_vec norm
returns c = rw (c.root.ensures, c.dot-squared.ensures, c.sub-way.ensures)
