use Rattle.lists.proofs.Tests.{is}
use Rattle.extremes.proofs.Checks.{build_lengths}
use Rattle.extremes.proofs.entries.build.Goals as goal

pub sum_groups-requires : goal.sum_groups-requires
sum_groups-requires c = build_lengths _ _ (is c.build_check.ensures c.in_ok-build_check.was)
