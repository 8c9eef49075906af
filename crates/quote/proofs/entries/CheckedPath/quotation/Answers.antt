use Prim.Native.Nat.{◌/◌}
use native.Mathlib.Omega.{arith}
use mathlib.Core.Path.{◌≡◌}
use lib.ListN.{length}
use borrow.Author.Rules.{rules}
use Rattle.quote.specs.Quotation.{figures}
use Rattle.quote.proofs.Answers.{no_pose}
use Rattle.quote.proofs.entries.CheckedPath.quotation.Goals as goal

pub returns-then-self-eq0 : goal.returns-then-self-eq0
returns-then-self-eq0 c =
    let whole = c.args.self.now.given.poses_whole in
    let none : length c.args.self.now.given.poses.now / 6 ≡ 0 = omega (arith, whole, c.if-self-eq0.true) in
    let nothing : c.default.result ≡ figures 0 0 0 = search rules in
    rw nothing (no_pose c.args.self.now.k.now c.args.self.now.tol c.args.self.now.given.poses.now c.args.self.now.given.joints.now none)
