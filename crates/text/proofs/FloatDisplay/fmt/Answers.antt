use Rattle.std.proofs.Common.{◌≡◌, true, sym, ◌∙◌}
use Rattle.std.specs.Prelude.{is_nan}
use Rattle.text.proofs.FloatDisplay.fmt.Goals as goal

-- The check finds this alone. It stands here for must-fail/nan_in_capitals.edit, which the fact then
-- refuses: without it a search gives up.
pub returns-then-is_nan-clause-writes : goal.returns-then-is_nan-clause-writes
returns-then-is_nan-clause-writes g c =
    let e : is_nan c.args.self.now.0 ≡ true = sym c.is_nan.ensures.value ∙ c.if-is_nan.true in
    rw e c.write.ensures.writes
