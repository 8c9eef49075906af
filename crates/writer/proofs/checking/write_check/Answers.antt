use Rattle.std.proofs.lemmas.Result.{err_from_is_err_and}
use Rattle.lists.proofs.Tests.{is}
use Rattle.chain.proofs.Passing.{first_refused}
use Rattle.writer.specs.Checking.{in_order, write_check}
use Rattle.writer.proofs.checking.write_check.Goals as goal

-- The check finds this one too. It stands here so that space before sizes is two sides that differ.
pub returns-in_err-demand-6-clause-checked : goal.returns-in_err-demand-6-clause-checked
unfolding write_check in_order
returns-in_err-demand-6-clause-checked c =
    let p = err_from_is_err_and c.from_residual-in_err-demand-6.result c.from_residual-in_err-demand-6.ensures.1 in
    rw (
      p.1,
      p.2,
      ← c.cone_good.ensures,
      ← c.tolerance_good.ensures,
      ← c.tolerance_good-2.ensures,
      ← c.numbers_finite-finite.ensures.finite,
      ← c.write_sizes.ensures,
      is c.demand.ensures c.in_ok-demand.was,
      is c.chain_check.ensures c.in_ok-chain_check.was,
      is c.demand-2.ensures c.in_ok-demand-2.was,
      is c.demand-3.ensures c.in_ok-demand-3.was,
      is c.demand-4.ensures c.in_ok-demand-4.was,
      is c.demand-5.ensures c.in_ok-demand-5.was,
    )
    (first_refused _ (is c.demand-6.ensures c.in_err-demand-6.was))
