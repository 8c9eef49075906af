use Rattle.root.proofs.WholeRoot.{twice_fits, twice_pos, n_fits, q_le, t_fits, u_fits, answer_yes, answer_no}
use Rattle.root.proofs.square_root.root54.Goals as goal

pub overflow_mul-n-2 : goal.overflow_mul-n-2
overflow_mul-n-2 c = record { fits = n_fits c.args.h c.whole_root-s.result c.requires c.ranges.h.fits c.whole_root-s.ensures }

pub overflow_mul-q : goal.overflow_mul-q
overflow_mul-q c = record { fits = twice_fits c.args.h c.whole_root-s.result c.requires c.ranges.h.fits c.whole_root-s.ensures }

pub nonzero_div-q : goal.nonzero_div-q
nonzero_div-q c = twice_pos c.args.h c.whole_root-s.result c.requires c.ranges.h.fits c.whole_root-s.ensures

pub overflow_mul-u : goal.overflow_mul-u
overflow_mul-u c = record { fits = twice_fits c.args.h c.whole_root-s.result c.requires c.ranges.h.fits c.whole_root-s.ensures }

pub nonzero_rem-u : goal.nonzero_rem-u
nonzero_rem-u c = twice_pos c.args.h c.whole_root-s.result c.requires c.ranges.h.fits c.whole_root-s.ensures

pub overflow_mul-t : goal.overflow_mul-t
overflow_mul-t c = record { fits = (t_fits c.args.h c.whole_root-s.result c.requires c.ranges.h.fits c.whole_root-s.ensures _ (q_le c.args.h c.whole_root-s.result c.requires c.ranges.h.fits c.whole_root-s.ensures)).0 }

pub overflow_add-t : goal.overflow_add-t
overflow_add-t c = record { fits = (t_fits c.args.h c.whole_root-s.result c.requires c.ranges.h.fits c.whole_root-s.ensures _ (q_le c.args.h c.whole_root-s.result c.requires c.ranges.h.fits c.whole_root-s.ensures)).1 }

pub overflow_mul-q-2 : goal.overflow_mul-q-2
overflow_mul-q-2 c = record { fits = (t_fits c.args.h c.whole_root-s.result c.requires c.ranges.h.fits c.whole_root-s.ensures _ (q_le c.args.h c.whole_root-s.result c.requires c.ranges.h.fits c.whole_root-s.ensures)).2 }

pub overflow_mul-u-2 : goal.overflow_mul-u-2
overflow_mul-u-2 c = record { fits = u_fits c.args.h c.whole_root-s.result c.requires c.ranges.h.fits c.whole_root-s.ensures }

pub overflow_sub-result : goal.overflow_sub-result
overflow_sub-result c = (t_fits c.args.h c.whole_root-s.result c.requires c.ranges.h.fits c.whole_root-s.ensures _ (q_le c.args.h c.whole_root-s.result c.requires c.ranges.h.fits c.whole_root-s.ensures)).3

pub returns-then-q-u : goal.returns-then-q-u
returns-then-q-u c = answer_yes c.args.h c.whole_root-s.result c.requires c.ranges.h.fits c.whole_root-s.ensures c.if-q-u.true

pub returns-else-q-u : goal.returns-else-q-u
returns-else-q-u c = answer_no c.args.h c.whole_root-s.result c.requires c.ranges.h.fits c.whole_root-s.ensures c.if-q-u.false
