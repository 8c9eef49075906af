-- `trig::reduction::rest_float` meets its contract. Assumes nothing.
use Rattle.std.proofs.Common.{ap}
use lib.Ieee.{Float, binary64, mul, of_bits}
use Rattle.trig.specs.Reduction.{rest_float}
use Rattle.trig.proofs.reduction.rest_float.Goals as goal

pub returns : goal.returns
unfolding rest_float of_bits
returns c = ap (λ (y : Float). mul binary64 y (of_bits binary64 4327959241903046656)) c.nearest_u64_to_f64.ensures
