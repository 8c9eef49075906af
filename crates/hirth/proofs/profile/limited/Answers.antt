use Rattle.lists.proofs.Tests.{is}
use Rattle.chain.proofs.Passing.{demand_passed}
use Rattle.hirth.specs.Profile.{limited}
use Rattle.hirth.proofs.profile.limited.Goals as goal

pub returns : goal.returns
unfolding limited
returns c =
    let passed = demand_passed c.inside-within.result _ _ (is c.demand.ensures c.in_ok-demand.was) in
    rw (rw c.bounds_of.ensures at (is c.inside-within.ensures passed))
