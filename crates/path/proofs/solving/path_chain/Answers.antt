use Rattle.std.proofs.lemmas.Result.{err_from_is_err_and}
use Rattle.lists.proofs.Tests.{is}
use Rattle.chain.proofs.Passing.{first_refused}
use Rattle.path.specs.Solving.{path_chain}
use Rattle.path.proofs.solving.path_chain.Goals as goal

-- The check finds this one too. It stands here so that the two checks in the wrong order are two sides that differ.
pub returns-in_err-chain_check : goal.returns-in_err-chain_check
unfolding path_chain
returns-in_err-chain_check c =
    let p = err_from_is_err_and c.from_residual.result c.from_residual.ensures.1 in
    rw (p.1, p.2) (first_refused _ (is c.chain_check.ensures c.in_err-chain_check.was))
