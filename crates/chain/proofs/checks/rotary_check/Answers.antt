use Rattle.std.proofs.lemmas.Result.{err_from_is_err_and}
use Rattle.lists.proofs.Tests.{is}
use Rattle.chain.specs.Check.{rotary_check}
use Rattle.chain.proofs.Passing.{first_refused}
use Rattle.chain.proofs.checks.rotary_check.Goals as goal

-- The check finds this one too. It stands here so that limits and rest angle in the wrong order are two sides that differ.
pub returns-in_err-demand-6 : goal.returns-in_err-demand-6
unfolding rotary_check
returns-in_err-demand-6 c =
    let p = err_from_is_err_and c.from_residual-in_err-demand-6.result c.from_residual-in_err-demand-6.ensures.1 in
    rw (
      p.1,
      p.2,
      ← c.known_letter.ensures,
      ← c.other_letter.ensures,
      ← c.all_finite.ensures,
      ← c.has_direction.ensures,
      ← c.all_finite-2.ensures,
      ← c.travel_good.ensures,
      is c.demand.ensures c.in_ok-demand.was,
      is c.demand-2.ensures c.in_ok-demand-2.was,
      is c.demand-3.ensures c.in_ok-demand-3.was,
      is c.demand-4.ensures c.in_ok-demand-4.was,
      is c.demand-5.ensures c.in_ok-demand-5.was,
    )
    (first_refused _ (is c.demand-6.ensures c.in_err-demand-6.was))
