use Rattle.root.proofs.WholeRoot.{small_root, small_square_fits}
use Rattle.root.proofs.square_root.+whole_root.Goals as goal

pub overflow_mul-p-else-h-eq0 : goal.overflow_mul-p-else-h-eq0
overflow_mul-p-else-h-eq0 t c =
    record { fits = small_square_fits c.whole_root-p.result (small_root c.args.h c.whole_root-p.result c.ranges.h.fits c.whole_root-p.ensures) }
