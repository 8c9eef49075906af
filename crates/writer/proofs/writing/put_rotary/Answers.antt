use Rattle.std.proofs.Common.{refl}
use Rattle.writer.proofs.Texts.{rotary_texts}
use Rattle.job.proofs.Written.{fits_first, fits_next, put_then}
use Rattle.writer.proofs.writing.put_rotary.Goals as goal

pub put_head-requires : goal.put_head-requires
put_head-requires c = fits_first _ (rw (rotary_texts c.args.kind c.args.j _ _ _ _ c.carrier_byte.ensures c.limits_byte.ensures refl refl) at c.requires)

pub put_vector-requires : goal.put_vector-requires
put_vector-requires c =
    let e = rotary_texts c.args.kind c.args.j _ _ _ _ c.carrier_byte.ensures c.limits_byte.ensures refl refl in
    fits_first _ (fits_next c.put_head.ensures (rw e at c.requires))

pub put_vector-requires-2 : goal.put_vector-requires-2
put_vector-requires-2 c =
    let e = rotary_texts c.args.kind c.args.j _ _ _ _ c.carrier_byte.ensures c.limits_byte.ensures refl refl in
    fits_first _ (fits_next c.put_vector.ensures (fits_next c.put_head.ensures (rw e at c.requires)))

pub put_number-requires : goal.put_number-requires
put_number-requires c =
    let e = rotary_texts c.args.kind c.args.j _ _ _ _ c.carrier_byte.ensures c.limits_byte.ensures c.lower.ensures refl in
    fits_first _ (fits_next c.put_vector-2.ensures (fits_next c.put_vector.ensures (fits_next c.put_head.ensures (rw e at c.requires))))

pub put_number-requires-2 : goal.put_number-requires-2
put_number-requires-2 c =
    let e = rotary_texts c.args.kind c.args.j _ _ _ _ c.carrier_byte.ensures c.limits_byte.ensures c.lower.ensures c.upper.ensures in
    fits_first _ (fits_next c.put_number.ensures (fits_next c.put_vector-2.ensures (fits_next c.put_vector.ensures (fits_next c.put_head.ensures (rw e at c.requires)))))

pub put_rest-requires : goal.put_rest-requires
put_rest-requires c =
    let e = rotary_texts c.args.kind c.args.j _ _ _ _ c.carrier_byte.ensures c.limits_byte.ensures c.lower.ensures c.upper.ensures in
    fits_next c.put_number-2.ensures
    (fits_next c.put_number.ensures (fits_next c.put_vector-2.ensures (fits_next c.put_vector.ensures (fits_next c.put_head.ensures (rw e at c.requires)))))

pub returns : goal.returns
returns c =
    let e = rotary_texts c.args.kind c.args.j _ _ _ _ c.carrier_byte.ensures c.limits_byte.ensures c.lower.ensures c.upper.ensures in
    rw e
    (put_then c.put_head.ensures
    (put_then c.put_vector.ensures (put_then c.put_vector-2.ensures (put_then c.put_number.ensures (put_then c.put_number-2.ensures c.put_rest.ensures)))))
