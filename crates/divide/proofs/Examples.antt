-- Every row of the table of worked examples holds, by computation.
use mathlib.Core.Path.{◌≡◌, refl}
use mathlib.Core.Bool.{true}
use lib.Ieee as Ieee
use lib.Ieee.{of_bits}
use Rattle.lists.specs.Fold.{fold}
use Rattle.float.specs.Helpers.{size_of, round_half_away}
use Rattle.geometry.specs.Vector.{lerp_vec}
use Rattle.inverse.specs.Wraps.{principal, keep_allowed, angle_candidates}
use Rattle.path.specs.Solving.{cone_good}
use Rattle.path.specs.Unwinding.{by_turns, unwind_angle, split, different_branch}
use Rattle.middle.specs.Testing.{joints_between}
use Rattle.divide.specs.Examples.{table, all_hold}

pub examples_hold : all_hold table ≡ true
unfolding all_hold table unwind_angle by_turns round_half_away angle_candidates keep_allowed principal fold cone_good different_branch split joints_between lerp_vec size_of Ieee.add Ieee.sub Ieee.mul Ieee.div Ieee.lt Ieee.le Ieee.eq Ieee.neg Ieee.round Ieee.sum Ieee.of_int Ieee.to_bits of_bits
examples_hold = refl
