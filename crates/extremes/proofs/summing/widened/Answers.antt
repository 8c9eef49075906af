use Rattle.geometry.specs.Vector.{vector}
use Rattle.extremes.specs.Summary.{widened, lower_set, upper_set}
use Rattle.extremes.proofs.summing.widened.Goals as goal

pub returns : goal.returns
unfolding widened lower_set upper_set
returns c =
    let low = c.each_number-low.ensures in
    let high = c.each_number-high.ensures in
    λ i. record {
      low = record { xyz = vector (low.x i) (low.y i) (low.z i); a0 = low.a0 i; a1 = low.a1 i };
      high = record { xyz = vector (high.x i) (high.y i) (high.z i); a0 = high.a0 i; a1 = high.a1 i };
    }
