use Rattle.job.proofs.Written.{width_digits}
use Rattle.job.proofs.spelling.width.Goals as goal

pub returns-clause-width : goal.returns-clause-width
returns-clause-width c = rw c.unwrap_or.ensures (width_digits c.args.x c.checked_ilog10.result c.checked_ilog10.ensures.none c.checked_ilog10.ensures.power_le c.checked_ilog10.ensures.next_power_gt)
