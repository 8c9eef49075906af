use Rattle.job.proofs.Turns.{in_range}
use Rattle.job.proofs.winding.turns_within.Goals as goal

pub truncating_f64_to_u64-requires-clause-upper_bound : goal.truncating_f64_to_u64-requires-clause-upper_bound
truncating_f64_to_u64-requires-clause-upper_bound c = rw c.size-size.ensures (in_range _ (rw c.within.ensures at c.if-within.true)).1
